-- One object more: the block that is filled, and what is known of the values and the objects before.
use Rattle.std.proofs.Common.{◌≡◌, ℕ, zero, suc, ◌+◌, ◌*◌, List, [], ◌∷◌, ◌++◌, length, get_or, Option}
use Rattle.std.proofs.Common.{Some, sum_by, refl, ap, ◌∙◌, arith}
use Rattle.std.proofs.lemmas.List.Sums.{sum_by-cons}
use Rattle.ps_tree.specs.Tree.{Program, domain_at}
use Rattle.tac_code.specs.declared.code.Block.TheVariants.{Object}
use Rattle.tac_code.specs.declared.code.Base.TheVariants as base
use Rattle.tac_code.specs.Memory.{Words, changed_object, behind_object, instead_object, with_objects, with_word, known}
use Rattle.tac_code.specs.Memory.{value_in}
use Rattle.tac_code.proofs.Items.{end_there}
use Rattle.ps_meaning.specs.Values.{Value, OrdinalValue, NilValue, ObjectValue, SetValue, StructureValue, Values}
use Rattle.ps_meaning.specs.Values.{no_value, value_before}
use Rattle.ps_meaning.specs.Worlds.{World}
use Rattle.tac_code_steps.specs.Splices.{spliced, overlaid}
use Rattle.tac_code_steps.proofs.Blocks.{word_read, word_written}
use Rattle.ps_lower_layout.specs.Shapes.{Shape, NumberShape, PointerShape, SetShape, ByteShape, ArrayShape}
use Rattle.ps_lower_layout.specs.Shapes.{RecordShape, Shapes, no_shape, shape_before, shape_of}
use Rattle.ps_lower_layout.specs.Words.{value_words}
use Rattle.ps_lower_layout.specs.Paths.{HasShape, HaveShape, HaveShapes}
use Rattle.ps_lower_relation.specs.Ghosts.{Slot, OwnSlot, ReferenceSlot, ClosureSlot, Ghost, SlotsFit, GhostsFit}
use Rattle.ps_lower_relation.specs.Ghosts.{ObjectsFit, objects_of, frames_of, tape_of}
use Rattle.ps_lower_relation.specs.Here.{Setting, Activated}
use Rattle.ps_lower_relation.proofs.Copies.{Holding}
use Rattle.ps_lower_calls.specs.Filling.{Filling}
use Rattle.ps_lower_calls.proofs.Grown.{points_grow}

-- ---- values outlive more objects

mutual
  shape_grows : (made more : List ℕ) (v : Value) (shape : Shape) → HasShape made v shape → HasShape
      (made ++ more) v shape
  shape_grows made more v (NumberShape first narrow) h = h
  shape_grows made more v (PointerShape t) h = points_grow made more v t h
  shape_grows made more v SetShape h = tt
  shape_grows made more (StructureValue vs) (ByteShape count first) h = h
  shape_grows made more (StructureValue vs) (ArrayShape count shape) h = values_grow made more vs count shape h
  shape_grows made more (StructureValue vs) (RecordShape shapes) h = fields_grow made more vs shapes h
  shape_grows made more (OrdinalValue z) (ByteShape count first) h = absurd h
  shape_grows made more (OrdinalValue z) (ArrayShape count shape) h = absurd h
  shape_grows made more (OrdinalValue z) (RecordShape shapes) h = absurd h
  shape_grows made more NilValue (ByteShape count first) h = absurd h
  shape_grows made more NilValue (ArrayShape count shape) h = absurd h
  shape_grows made more NilValue (RecordShape shapes) h = absurd h
  shape_grows made more (ObjectValue object) (ByteShape count first) h = absurd h
  shape_grows made more (ObjectValue object) (ArrayShape count shape) h = absurd h
  shape_grows made more (ObjectValue object) (RecordShape shapes) h = absurd h
  shape_grows made more (SetValue s) (ByteShape count first) h = absurd h
  shape_grows made more (SetValue s) (ArrayShape count shape) h = absurd h
  shape_grows made more (SetValue s) (RecordShape shapes) h = absurd h

  values_grow : (made more : List ℕ) (vs : Values) (n : ℕ) (shape : Shape) → HaveShape made vs n shape → HaveShape
      (made ++ more) vs n shape
  values_grow made more no_value zero shape h = tt
  values_grow made more no_value (suc n) shape h = absurd h
  values_grow made more (value_before v vs) zero shape h = absurd h
  values_grow made more (value_before v vs) (suc n) shape h =
      (shape_grows made more v shape h.0, h.1, values_grow made more vs n shape h.2)

  fields_grow : (made more : List ℕ) (vs : Values) (shapes : Shapes) → HaveShapes made vs shapes → HaveShapes
      (made ++ more) vs shapes
  fields_grow made more no_value no_shape h = tt
  fields_grow made more no_value (shape_before shape rest) h = absurd h
  fields_grow made more (value_before v vs) no_shape h = absurd h
  fields_grow made more (value_before v vs) (shape_before shape rest) h =
      (shape_grows made more v shape h.0, fields_grow made more vs rest h.1)

slots_grow : (made more : List ℕ) (store : ℕ → Value) (xs : List Slot) → SlotsFit made store xs → SlotsFit
    (made ++ more) store xs
slots_grow made more store [] h = tt
slots_grow made more store (OwnSlot shape n ∷ xs) h =
    (shape_grows made more (store n) shape h.0, slots_grow made more store xs h.1)
slots_grow made more store (ReferenceSlot shape b o ∷ xs) h = (tt, slots_grow made more store xs h.1)
slots_grow made more store (ClosureSlot kinds result r w ∷ xs) h = (tt, slots_grow made more store xs h.1)

module _ (program : Program) where
  pub ghosts_grow : (made more : List ℕ) (store : ℕ → Value) (gs : List Ghost) → GhostsFit program made store gs
      → GhostsFit program (made ++ more) store gs
  ghosts_grow made more store [] h = tt
  ghosts_grow made more store (g ∷ gs) h = (
    h.0,
    slots_grow made more store g.slots h.1,
    ghosts_grow made more store gs
        h.2,
  )

  pub objects_grow : (all more made : List ℕ) (vs : List Value) → ObjectsFit program all made vs → ObjectsFit program
      (all ++ more) made vs
  objects_grow all more [] [] h = tt
  objects_grow all more [] (v ∷ vs) h = absurd h
  objects_grow all more (t ∷ made) [] h = absurd h
  objects_grow all more (t ∷ made) (v ∷ vs) h =
      (shape_grows all more v (shape_of (domain_at program t)) h.0, objects_grow all more made vs h.1)

  -- ---- the last of the objects

  pub objects_fit_more : (all made : List ℕ) (vs : List Value) (t : ℕ) (v : Value) → ObjectsFit program all made vs
      → HasShape all v (shape_of (domain_at program t)) → ObjectsFit program all (made ++ t ∷ []) (vs ++ v ∷ [])
  objects_fit_more all [] [] t v h s = (s, tt)
  objects_fit_more all [] (u ∷ vs) t v h s = absurd h
  objects_fit_more all (r ∷ made) [] t v h s = absurd h
  objects_fit_more all (r ∷ made) (u ∷ vs) t v h s = (h.0, objects_fit_more all made vs t v h.1 s)

  pub words_more : (all made : List ℕ) (vs : List Value) (t : ℕ) (v : Value) → ObjectsFit program all made vs
      → objects_of program (made ++ t ∷ []) (vs ++ v ∷ []) ≡ objects_of program made vs ++ value_words
      (shape_of (domain_at program t)) v ∷ []
  words_more all [] [] t v h = refl
  words_more all [] (u ∷ vs) t v h = absurd h
  words_more all (r ∷ made) [] t v h = absurd h
  words_more all (r ∷ made) (u ∷ vs) t v h = ap (λ ws. value_words (shape_of (domain_at program r)) u ∷ ws)
      (words_more all made vs t v h.1)

  pub objects_counted : (all made : List ℕ) (vs : List Value) → ObjectsFit program all made vs
      → (length (objects_of program made vs) ≡ length vs) × (length made ≡ length vs)
  objects_counted all [] [] h = (refl, refl)
  objects_counted all [] (u ∷ vs) h = absurd h
  objects_counted all (r ∷ made) [] h = absurd h
  objects_counted all (r ∷ made) (u ∷ vs) h = let e = objects_counted all made vs h.1 in (ap suc e.0, ap suc e.1)

pub last_summed : (f : ℕ → ℕ) (xs : List ℕ) (x : ℕ) → sum_by f (xs ++ x ∷ []) ≡ sum_by f xs + f x
last_summed f [] x = omega arith
last_summed f (y ∷ xs) x =
    let e = last_summed f xs x in
    let one = sum_by-cons f y (xs ++ x ∷ []) in
    let two = sum_by-cons f y xs in
    omega (arith, e, one, two)

last_changed : (xs : List Words) (ws ws' : Words) (change : Words → Option Words) → change ws ≡ Some ws'
    → changed_object (xs ++ ws ∷ []) (length xs) change ≡ Some (xs ++ ws' ∷ [])
last_changed [] ws ws' change e = ap (instead_object []) e
last_changed (x ∷ xs) ws ws' change e = ap (behind_object x) (last_changed xs ws ws' change e)

-- as many words take the places of all
pub overlaid_all : (xs ys : Words) → length xs ≡ length ys → overlaid xs ys ≡ xs
overlaid_all [] [] e = refl
overlaid_all [] (y ∷ ys) e = absurd (cc)
overlaid_all (x ∷ xs) [] e = absurd (cc)
overlaid_all (x ∷ xs) (y ∷ ys) e = ap (λ zs. x ∷ zs) (overlaid_all xs ys (omega arith))

module _ (p : Setting) (c : Activated) (w : World) (pointer : ℕ) where
  abbrev before : List Words
  before = objects_of p.program w.made w.objects

  -- the new object, whose address stands in u
  abbrev pub object_filling : (u : ℕ) → Filling
  object_filling u =
      record {
        base = base.Temporary u;
        block = Object (length before);
        memory = λ scratch words. record {
          frames = frames_of p.program w c.ghosts;
          scratch = record {
            number = c.number;
            words = scratch;
          } ∷ c.waiting;
          objects = before ++ words ∷ [];
        };
        heap = sum_by (λ t. get_or p.objects t 0) w.made + get_or p.objects pointer 0;
        tape = tape_of w.input w.transcript;
      }

  pub object_held : (u : ℕ) (scratch : Words) → Holding p (Object (length before)) ((object_filling u).memory scratch)
  object_held u scratch =
      record {
        reads = λ words i v e. ap (λ ws. value_in ws (4 * i)) (end_there before words) ∙ word_read words i
            ∙ ap known e;
        writes = λ words i v l. ap (with_objects ((object_filling u).memory scratch words))
            (last_changed before words (spliced i (Some v ∷ []) words) (λ ws. with_word ws (4 * i) v)
            (word_written words i v l));
      }
