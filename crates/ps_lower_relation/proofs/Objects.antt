-- Objects: their words, read and written.
use Rattle.std.proofs.Common.{◌≡◌, ℕ, zero, suc, ◌+◌, ◌*◌, ◌<◌, List, [], ◌∷◌, slice_get, get_or, set, Option, Some}
use Rattle.std.proofs.Common.{sym, ap, ◌∙◌, subst, arith}
use Rattle.ps_tree.specs.Tree.{Program, domain_at}
use Rattle.tac_code.specs.declared.code.Block.{Block}
use Rattle.tac_code.specs.declared.code.Value.{Value as Word}
use Rattle.tac_code.specs.Memory.{Words, Memory, Constants, known, word_at, with_word, value_in, changed_object}
use Rattle.tac_code.specs.Memory.{behind_object, instead_object, with_objects, load, store}
use Rattle.ps_meaning.specs.Values.{Value, part, with_part}
use Rattle.ps_meaning.specs.Worlds.{World, unset}
use Rattle.tac_code_steps.specs.Splices.{spliced}
use Rattle.tac_code_steps.proofs.Pieces.{same_some, some_none}
use Rattle.tac_code_steps.proofs.Blocks.{word_read, word_written}
use Rattle.ps_lower_layout.specs.Shapes.{Shape, shape_of, word_count, Whole}
use Rattle.ps_lower_layout.specs.Words.{value_words}
use Rattle.ps_lower_layout.specs.Paths.{HasShape, GoesTo}
use Rattle.ps_lower_layout.proofs.Counted.{counted}
use Rattle.ps_lower_relation.specs.Ghosts.{objects_of, ObjectsFit, ObjectAt, Ghost}
use Rattle.ps_lower_relation.proofs.Spans.{nested, span_in}

module _ (program : Program) where
  pub object_words : (all made : List ℕ) (vs : List Value) (k t : ℕ) → ObjectsFit program all made vs → slice_get made k
      ≡ Some t → slice_get (objects_of program made vs) k ≡ Some
      (value_words (shape_of (domain_at program t)) (get_or vs k unset))
  object_words all [] vs k t f h = some_none h
  object_words all (s ∷ made) [] k t f h = absurd f
  object_words all (s ∷ made) (v ∷ vs) zero t f h = ap (λ u. Some (value_words (shape_of (domain_at program u)) v))
      (same_some h)
  object_words all (s ∷ made) (v ∷ vs) (suc k) t f h = object_words all made vs k t f.1 h

  pub object_fits : (all made : List ℕ) (vs : List Value) (k t : ℕ) → ObjectsFit program all made vs → slice_get made k
      ≡ Some t → HasShape all (get_or vs k unset) (shape_of (domain_at program t))
  object_fits all [] vs k t f h = some_none h
  object_fits all (s ∷ made) [] k t f h = absurd f
  object_fits all (s ∷ made) (v ∷ vs) zero t f h = subst (λ u. HasShape all v (shape_of (domain_at program u)))
      (same_some h) f.0
  object_fits all (s ∷ made) (v ∷ vs) (suc k) t f h = object_fits all made vs k t f.1 h

  object_set : (all made : List ℕ) (vs : List Value) (k t : ℕ) (v : Value) → ObjectsFit program all made vs
      → slice_get made k ≡ Some t → HasShape all v (shape_of (domain_at program t)) → ObjectsFit program all made
      (set vs k v)
  object_set all [] vs k t v f h q = some_none h
  object_set all (s ∷ made) [] k t v f h q = absurd f
  object_set all (s ∷ made) (u ∷ vs) zero t v f h q =
      (subst (λ x. HasShape all v (shape_of (domain_at program x))) (sym (same_some h)) q, f.1)
  object_set all (s ∷ made) (u ∷ vs) (suc k) t v f h q = (f.0, object_set all made vs k t v f.1 h q)

  pub object_changed : (all made : List ℕ) (vs : List Value) (k t : ℕ) (v : Value) (change : Words → Option Words)
      → ObjectsFit program all made vs → slice_get made k ≡ Some t → change
      (value_words (shape_of (domain_at program t)) (get_or vs k unset)) ≡ Some
      (value_words (shape_of (domain_at program t)) v) → changed_object (objects_of program made vs) k change ≡ Some
      (objects_of program made (set vs k v))
  object_changed all [] vs k t v change f h c = some_none h
  object_changed all (s ∷ made) [] k t v change f h c = absurd f
  object_changed all (s ∷ made) (u ∷ vs) zero t v change f h c =
      let e = same_some h in
      ap (λ x. instead_object (objects_of program made vs) (change (value_words (shape_of (domain_at program x)) u))) e
      ∙ ap (instead_object (objects_of program made vs)) c
      ∙ ap (λ x. Some (value_words (shape_of (domain_at program x)) v ∷ objects_of program made vs)) (sym e)
  object_changed all (s ∷ made) (u ∷ vs) (suc k) t v change f h c =
      ap (behind_object (value_words (shape_of (domain_at program s)) u))
      (object_changed all made vs k t v change f.1 h c)

  module _ (w : World) (gs : List Ghost) where
    pub object_value : (k : ℕ) (path : List ℕ) (b : Block) (o : ℕ) (inner : Shape)
        → ObjectsFit program w.made w.made w.objects → ObjectAt program gs w.made k path b o (Whole inner)
        → HasShape w.made (part (get_or w.objects k unset) path) inner
    object_value k path b o inner f at = (span_in w.made (get_or w.objects k unset) path
        (shape_of (domain_at program at.pointer)) inner o
        (object_fits w.made w.made w.objects k at.pointer f at.of_type) at.inside).fits

    pub object_read : (constants : Constants) (m : Memory) (k : ℕ) (path : List ℕ) (b : Block) (o : ℕ) (inner : Shape)
        (i : ℕ) → m.objects ≡ objects_of program w.made w.objects → ObjectsFit program w.made w.made w.objects
        → ObjectAt program gs w.made k path b o (Whole inner) → i < word_count inner → load constants m b (o + 4 * i)
        ≡ known (slice_get (value_words inner (part (get_or w.objects k unset) path)) i)
    object_read constants m k path b o inner i om f at l =
        let shape = shape_of (domain_at program at.pointer) in
        let s = span_in w.made (get_or w.objects k unset) path shape inner o
        (object_fits w.made w.made w.objects k at.pointer f at.of_type) at.inside in
        let is = s.is in
        let q : o + 4 * i ≡ 4 * (s.place + i) = omega (arith, is) in
        ap (λ c. load constants m c (o + 4 * i)) at.block
        ∙ ap (λ ws. value_in (slice_get ws k) (o + 4 * i)) om
        ∙ ap (λ x. value_in x (o + 4 * i)) (object_words w.made w.made w.objects k at.pointer f at.of_type)
        ∙ ap (word_at (value_words shape (get_or w.objects k unset))) q
        ∙ word_read (value_words shape (get_or w.objects k unset)) (s.place + i)
        ∙ ap known (s.reads i l)

    pub object_written : (m : Memory) (k : ℕ) (path : List ℕ) (b : Block) (o : ℕ) (inner : Shape) (v : Value)
        (word : Word) → m.objects ≡ objects_of program w.made w.objects → ObjectsFit program w.made w.made w.objects
        → ObjectAt program gs w.made k path b o (Whole inner) → GoesTo w.made path v inner → word_count inner ≡ 1
        → value_words inner v ≡ Some word ∷ [] → store m b o word ≡ Some
        (record m {
          objects = objects_of program w.made
              (set w.objects k (with_part (get_or w.objects k unset) path v));
        })
    object_written m k path b o inner v word om f at h one ws =
        let shape = shape_of (domain_at program at.pointer) in
        let old = get_or w.objects k unset in
        let s = span_in w.made old path shape inner o
        (object_fits w.made w.made w.objects k at.pointer f at.of_type) at.inside in
        let is = s.is in
        let inside = s.within in
        let wide = counted shape old in
        let new = with_part old path v in
        let changes : with_word (value_words shape old) o word ≡ Some (value_words shape new) =
        ap (λ n. with_word (value_words shape old) n word) is
        ∙ word_written (value_words shape old) s.place word (omega (arith, inside, one, wide))
        ∙ ap (λ l. Some (spliced s.place l (value_words shape old))) (sym ws)
        ∙ ap Some (sym (s.writes v h).0) in
        ap (λ c. store m c o word) at.block
        ∙ ap (λ bs. with_objects m (changed_object bs k (λ words. with_word words o word))) om
        ∙ ap (with_objects m) (object_changed w.made w.made w.objects k at.pointer new
        (λ words. with_word words o word) f at.of_type changes)

    pub object_word_written : (m : Memory) (k : ℕ) (path : List ℕ) (b : Block) (o : ℕ) (inner : Shape) (v : Value)
        (i : ℕ) (word : Word) → m.objects ≡ objects_of program w.made w.objects
        → ObjectsFit program w.made w.made w.objects → ObjectAt program gs w.made k path b o (Whole inner)
        → GoesTo w.made path v inner → i < word_count inner → value_words inner v ≡ spliced i (Some word ∷ [])
        (value_words inner (part (get_or w.objects k unset) path)) → store m b (o + 4 * i) word ≡ Some
        (record m {
          objects = objects_of program w.made
              (set w.objects k (with_part (get_or w.objects k unset) path v));
        })
    object_word_written m k path b o inner v i word om f at h in_part ws =
        let shape = shape_of (domain_at program at.pointer) in
        let old = get_or w.objects k unset in
        let s = span_in w.made old path shape inner o
        (object_fits w.made w.made w.objects k at.pointer f at.of_type) at.inside in
        let is = s.is in
        let inside = s.within in
        let wide = counted shape old in
        let new = with_part old path v in
        let narrow = counted inner (part old path) in
        let q : o + 4 * i ≡ 4 * (s.place + i) = omega (arith, is) in
        let changes : with_word (value_words shape old) (o + 4 * i) word ≡ Some (value_words shape new) =
        ap (λ n. with_word (value_words shape old) n word) q
        ∙ word_written (value_words shape old) (s.place + i) word (omega (arith, inside, in_part, wide))
        ∙ ap Some (sym ((s.writes v h).0 ∙ ap (λ l. spliced s.place l (value_words shape old)) ws ∙ nested s.place i
        (Some word ∷ []) (value_words inner (part old path)) (value_words shape old)
        (λ j l. s.reads j (omega (arith, narrow, l))) (omega (arith, inside, wide, narrow))
        (omega (arith, in_part, narrow)))) in
        ap (λ c. store m c (o + 4 * i) word) at.block
        ∙ ap (λ bs. with_objects m (changed_object bs k (λ words. with_word words (o + 4 * i) word))) om
        ∙ ap (with_objects m) (object_changed w.made w.made w.objects k at.pointer new
        (λ words. with_word words (o + 4 * i) word) f at.of_type changes)

    pub object_kept : (k : ℕ) (path : List ℕ) (b : Block) (o : ℕ) (inner : Shape) (v : Value)
        → ObjectsFit program w.made w.made w.objects → ObjectAt program gs w.made k path b o (Whole inner)
        → GoesTo w.made path v inner → ObjectsFit program w.made w.made
        (set w.objects k (with_part (get_or w.objects k unset) path v))
    object_kept k path b o inner v f at h =
        let shape = shape_of (domain_at program at.pointer) in
        let s = span_in w.made (get_or w.objects k unset) path shape inner o
        (object_fits w.made w.made w.objects k at.pointer f at.of_type) at.inside in
        object_set w.made w.made w.objects k at.pointer (with_part (get_or w.objects k unset) path v) f at.of_type
        (s.writes v h).1
