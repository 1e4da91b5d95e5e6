-- The machine's memory, written by the meaning's world, where values keep their shapes.
use Rattle.std.proofs.Common.{◌≡◌, ◌⊎◌, inl, inr, ℕ, zero, suc, ◌+◌, ◌*◌, ◌<◌, ◌≤◌, List, [], ◌∷◌, length, replicate}
use Rattle.std.proofs.Common.{slice_get, Option, Some, None, Bool, true, false, nat_eq, if◌then◌else◌, refl, sym, ap}
use Rattle.std.proofs.Common.{◌∙◌, subst, arith}
use Rattle.ps_tree.specs.Tree.{Program, routine_at}
use Rattle.tac_code.specs.declared.code.Block.{Block}
use Rattle.tac_code.specs.declared.code.Value.{Value as Word}
use Rattle.tac_code.specs.Memory.{Words, Living, Memory, with_word, changed, behind, instead, store, with_frames}
use Rattle.ps_meaning.specs.Values.{Value, part, with_part}
use Rattle.ps_meaning.specs.Worlds.{World, at_name}
use Rattle.tac_code_steps.specs.Splices.{spliced, Piece, placed, ArePlaced, with_words}
use Rattle.tac_code_steps.proofs.Pieces.{same_some, some_none, placed_writes}
use Rattle.tac_code_steps.proofs.Blocks.{word_written}
use Rattle.ps_lower_layout.specs.Shapes.{Shape, word_count, Whole}
use Rattle.ps_lower_layout.specs.Words.{value_words}
use Rattle.ps_lower_layout.specs.Paths.{HasShape, GoesTo}
use Rattle.ps_lower_layout.specs.Frames.{entries, is_program_block}
use Rattle.ps_lower_layout.proofs.Counted.{counted}
use Rattle.ps_lower_relation.specs.Ghosts.{Slot, OwnSlot, ReferenceSlot, ClosureSlot, Ghost, slot_kinds, slot_words}
use Rattle.ps_lower_relation.specs.Ghosts.{first_piece, entry_pieces, layout_at, pieces, block_words, frames_of, found}
use Rattle.ps_lower_relation.specs.Ghosts.{SlotsFrom, Names, SlotsFit, GhostsFit, DeclaredAt}
use Rattle.ps_lower_relation.proofs.Spans.{nested, span_in}
use Rattle.ps_lower_relation.proofs.Memory.{ghost_fits, slot_fits}
use Rattle.ps_lower_relation.proofs.Pieces.{block_length, name_other, name_same, own_name, piece_at, pieces_placed}
use Rattle.ps_lower_relation.proofs.Pieces.{size_length, slots_other, slots_set, slots_up}

module _ (program : Program) where
  -- ---- writes

  -- the world with another value of a name
  abbrev pub renewed : World → ℕ → Value → World
  renewed w name v = record w { store = at_name w.store name v }

  frames_older : (w : World) (gs : List Ghost) (next name : ℕ) (v : Value) → Names gs next → next ≤ name
      → frames_of program (renewed w name v) gs ≡ frames_of program w gs
  frames_older w [] next name v h l = refl
  frames_older w (g ∷ gs) next name v h l =
      let up = h.2 in
      let low = slots_up g.slots g.base h.0 h.1 in
      ap (λ ps. record {
        number = g.number;
        words = placed (first_piece (layout_at program g.routine)
            (is_program_block (routine_at program g.routine).chain) w.input g.link ∷ ps)
            (replicate (layout_at program g.routine).size None);
      } ∷ frames_of program (renewed w name v) gs)
      (slots_other w.store (layout_at program g.routine).places g.slots g.base h.0 name v h.1 (inr (omega arith)))
      ∙ ap (λ bs. record {
        number = g.number;
        words = block_words program w g;
      } ∷ bs) (frames_older w gs g.base name v h.3 (omega arith))

  -- the name of an own entry of a ghost that is found lies below
  found_name : (gs : List Ghost) (next a i : ℕ) (g : Ghost) (shape : Shape) (name : ℕ) → Names gs next → found gs a
      ≡ Some g → slice_get g.slots i ≡ Some (OwnSlot shape name) → name < next
  found_name [] next a i g shape name h q e = some_none q
  found_name (x ∷ gs) next a i g shape name h q e = go (nat_eq x.number a) q (found_name gs x.base a i g shape name h.3)
    where
      go : (b : Bool) → (if b then Some x else found gs a) ≡ Some g
          → (found gs a ≡ Some g → slice_get g.slots i ≡ Some (OwnSlot shape name) → name < x.base) → name < next
      go true r ih = let up = h.2 in let o = own_name x.slots x.base h.0 i shape name h.1
          (ap (λ y. slice_get y.slots i) (same_some r) ∙ e) in omega (arith, up, o.1)
      go false r ih = let up = h.2 in let low = slots_up x.slots x.base h.0 h.1 in let l = ih r e in omega
          (arith, up, low, l)

  pub changed_found : (w : World) (gs : List Ghost) (next a i k : ℕ) (g : Ghost) (shape : Shape) (name : ℕ) (v : Value)
      (change : Words → Option Words) → Names gs next → found gs a ≡ Some g → slice_get
      (layout_at program g.routine).places i ≡ Some k → slice_get g.slots i ≡ Some (OwnSlot shape name) → change
      (block_words program w g) ≡ Some (block_words program (renewed w name v) g) → changed
      (frames_of program w gs) a change ≡ Some (frames_of program (renewed w name v) gs)
  changed_found w [] next a i k g shape name v change h q p e c = some_none q
  changed_found w (x ∷ gs) next a i k g shape name v change h q p e c = go (nat_eq x.number a) refl q
      (changed_found w gs x.base a i k g shape name v change h.3)
    where
      B : Living
      B = record { number = x.number; words = block_words program w x }

      go : (b : Bool) → nat_eq x.number a ≡ b → (if b then Some x else found gs a) ≡ Some g
          → (found gs a ≡ Some g → slice_get (layout_at program g.routine).places i ≡ Some k → slice_get g.slots i
          ≡ Some (OwnSlot shape name) → change (block_words program w g) ≡ Some
          (block_words program (renewed w name v) g) → changed (frames_of program w gs) a change ≡ Some
          (frames_of program (renewed w name v) gs)) → changed (frames_of program w (x ∷ gs)) a change ≡ Some
          (frames_of program (renewed w name v) (x ∷ gs))
      go true t r ih =
          let xg = same_some r in
          let o = own_name x.slots x.base h.0 i shape name h.1 (ap (λ y. slice_get y.slots i) xg ∙ e) in
          ap (λ b. if b then instead B (frames_of program w gs) (change (block_words program w x)) else behind B
          (changed (frames_of program w gs) a change)) t
          ∙ ap (λ y. instead B (frames_of program w gs) (change (block_words program w y))) xg
          ∙ ap (instead B (frames_of program w gs)) c
          ∙ ap (λ y. Some (record {
            number = x.number;
            words = block_words program (renewed w name v) y;
          } ∷ frames_of program w gs)) (sym xg)
          ∙ ap (λ bs. Some (record {
            number = x.number;
            words = block_words program (renewed w name v) x;
          } ∷ bs)) (sym (frames_older w gs x.base name v h.3 o.0))
      go false t r ih =
          let l = found_name gs x.base a i g shape name h.3 r e in
          ap (λ b. if b then instead B (frames_of program w gs) (change (block_words program w x)) else behind B
          (changed (frames_of program w gs) a change)) t
          ∙ ap (behind B) (ih r p e c)
          ∙ ap (λ ps. Some (record {
            number = x.number;
            words = placed (first_piece (layout_at program x.routine)
                (is_program_block (routine_at program x.routine).chain) w.input x.link ∷ ps)
                (replicate (layout_at program x.routine).size None);
          } ∷ frames_of program (renewed w name v) gs))
          (sym (slots_other w.store (layout_at program x.routine).places x.slots x.base h.0 name v h.1 (inl l)))

  -- the block of a ghost after a stretch of an own entry was replaced
  pub block_written : (w : World) (g : Ghost) (m n i k j : ℕ) (shape : Shape) (name : ℕ) (v : Value) (ns : Words)
      → slot_kinds g.slots ≡ entries (routine_at program g.routine) → SlotsFrom g.slots m n → slice_get
      (layout_at program g.routine).places i ≡ Some k → slice_get g.slots i ≡ Some (OwnSlot shape name) → j
      + length ns ≤ word_count shape → value_words shape v ≡ spliced j ns (value_words shape (w.store name)) → spliced
      (k + j) ns (block_words program w g) ≡ block_words program (renewed w name v) g
  block_written w g m n i k j shape name v ns e f p h l q =
      let base = replicate {A = Option Word} (layout_at program g.routine).size None in
      let apart = subst (λ n. ArePlaced n (pieces program w g)) (sym (size_length (layout_at program g.routine).size))
      (pieces_placed program w g e) in
      let c = counted shape (w.store name) in
      let first = first_piece (layout_at program g.routine)
      (is_program_block (routine_at program g.routine).chain) w.input g.link in
      placed_writes (pieces program w g) base (suc i) j (record {
        place = k;
        words = value_words shape (w.store name);
      }) ns apart (piece_at w.store (layout_at program g.routine).places g.slots i k (OwnSlot shape name) p h)
      (omega (arith, c, l))
      ∙ ap (λ ws. placed (first ∷ with_words (entry_pieces w.store (layout_at program g.routine).places g.slots) i ws)
      base) (sym q)
      ∙ ap (λ ps. placed (first ∷ ps) base) (sym
      (slots_set w.store (layout_at program g.routine).places g.slots m n i k shape name v f p h))

  pub named_in : (xs : List Ghost) (n a : ℕ) (g : Ghost) → Names xs n → found xs a ≡ Some g → (k : ℕ)
      × ((l : ℕ) × SlotsFrom g.slots k l)
  named_in [] n a g h q = some_none q
  named_in (x ∷ xs) n a g h q = go (nat_eq x.number a) q (named_in xs x.base a g h.3)
    where
      go : (b : Bool) → (if b then Some x else found xs a) ≡ Some g
          → (found xs a ≡ Some g → (k : ℕ) × ((l : ℕ) × SlotsFrom g.slots k l)) → (k : ℕ)
          × ((l : ℕ) × SlotsFrom g.slots k l)
      go true r ih = (x.base, (h.0, subst (λ y. SlotsFrom y.slots x.base h.0) (same_some r) h.1))
      go false r ih = ih r

  pub placed_piece : (n : ℕ) (ps : List Piece) (i : ℕ) (p : Piece) → ArePlaced n ps → slice_get ps i ≡ Some p → p.place
      + length p.words ≤ n
  placed_piece n [] i p a h = some_none h
  placed_piece n (q ∷ qs) zero p a h = subst (λ z. z.place + length z.words ≤ n) (same_some h) a.0
  placed_piece n (q ∷ qs) (suc i) p a h = placed_piece n qs i p a.2 h

  -- a part of a variable gets a value of one word
  pub part_written : (m : Memory) (w : World) (gs : List Ghost) (next : ℕ) (name : ℕ) (path : List ℕ) (b : Block)
      (o : ℕ) (inner : Shape) (v : Value) (word : Word) → m.frames ≡ frames_of program w gs
      → GhostsFit program w.made w.store gs → Names gs next → DeclaredAt program gs w.made name path b o (Whole inner)
      → GoesTo w.made path v inner → word_count inner ≡ 1 → value_words inner v ≡ Some word ∷ [] → store m b o word
      ≡ Some (record m { frames = frames_of program (renewed w name (with_part (w.store name) path v)) gs })
  part_written m w gs next name path b o inner v word fm f names at h one ws =
      let g = at.ghost in
      let fits = ghost_fits program w.made w.store gs g.number g f at.there in
      let shaped : HasShape w.made (w.store name) at.shape = slot_fits program w.made w.store g.slots at.index
      (OwnSlot at.shape name) fits.1 at.slot in
      let s = span_in w.made (w.store name) path at.shape inner at.inner shaped at.inside in
      let is = s.is in
      let off = at.offset in
      let inside = s.within in
      let new = with_part (w.store name) path v in
      let written = (s.writes v h).0 ∙ ap (λ l. spliced s.place l (value_words at.shape (w.store name))) ws in
      let from = named gs next g names at.there in
      let wide = counted at.shape (w.store name) in
      let size = block_length program w g in
      let total = (layout_at program g.routine).size in
      let limit = piece_within w g at.index at.place (OwnSlot at.shape name) fits.0 at.stands at.slot in
      let q : o ≡ 4 * (at.place + s.place) = omega (arith, is, off) in
      let change : Words → Option Words = λ words. with_word words o word in
      let changes : change (block_words program w g) ≡ Some (block_words program (renewed w name new) g) =
      ap (λ n. with_word (block_words program w g) n word) q
      ∙ word_written (block_words program w g) (at.place + s.place) word (omega (arith, size, limit, wide, inside, one))
      ∙ ap Some (block_written w g from.0 from.1.0 at.index at.place s.place at.shape name new
      (Some word ∷ []) fits.0 from.1.1 at.stands at.slot (omega (arith, inside, one)) written) in
      ap (λ c. store m c o word) at.block
      ∙ ap (λ bs. with_frames m (changed bs g.number change)) fm
      ∙ ap (with_frames m) (changed_found w gs next g.number at.index at.place g at.shape name new change names at.there
      at.stands at.slot changes)
    where
      named : (xs : List Ghost) (n : ℕ) (g : Ghost) → Names xs n → found xs g.number ≡ Some g → (k : ℕ)
          × ((l : ℕ) × SlotsFrom g.slots k l)
      named xs n g h q = named_in xs n g.number g h q

      piece_within : (w : World) (g : Ghost) (i k : ℕ) (x : Slot) → slot_kinds g.slots ≡ entries
          (routine_at program g.routine) → slice_get (layout_at program g.routine).places i ≡ Some k
          → slice_get g.slots i ≡ Some x → k + length (slot_words w.store x) ≤ (layout_at program g.routine).size
      piece_within w g i k x e p h = (placed_piece (layout_at program g.routine).size (pieces program w g) (suc i)
          (record {
            place = k;
            words = slot_words w.store x;
          }) (pieces_placed program w g e) (piece_at w.store (layout_at program g.routine).places g.slots i k x p h))

  -- one word of a part of a variable is replaced
  pub part_word_written : (m : Memory) (w : World) (gs : List Ghost) (next : ℕ) (name : ℕ) (path : List ℕ) (b : Block)
      (o : ℕ) (inner : Shape) (v : Value) (i : ℕ) (word : Word) → m.frames ≡ frames_of program w gs
      → GhostsFit program w.made w.store gs → Names gs next → DeclaredAt program gs w.made name path b o (Whole inner)
      → GoesTo w.made path v inner → i < word_count inner → value_words inner v ≡ spliced i (Some word ∷ [])
      (value_words inner (part (w.store name) path)) → store m b (o + 4 * i) word ≡ Some
      (record m { frames = frames_of program (renewed w name (with_part (w.store name) path v)) gs })
  part_word_written m w gs next name path b o inner v i word fm f names at h in_part ws =
      let g = at.ghost in
      let fits = ghost_fits program w.made w.store gs g.number g f at.there in
      let shaped : HasShape w.made (w.store name) at.shape = slot_fits program w.made w.store g.slots at.index
      (OwnSlot at.shape name) fits.1 at.slot in
      let s = span_in w.made (w.store name) path at.shape inner at.inner shaped at.inside in
      let is = s.is in
      let off = at.offset in
      let inside = s.within in
      let new = with_part (w.store name) path v in
      let wide = counted at.shape (w.store name) in
      let narrow = counted inner (part (w.store name) path) in
      let written = (s.writes v h).0 ∙ ap (λ l. spliced s.place l (value_words at.shape (w.store name))) ws
      ∙ nested s.place i (Some word ∷ []) (value_words inner (part (w.store name) path))
      (value_words at.shape (w.store name)) (λ j l. s.reads j (omega (arith, narrow, l)))
      (omega (arith, inside, wide, narrow)) (omega (arith, in_part, narrow)) in
      let from = named gs next g names at.there in
      let size = block_length program w g in
      let total = (layout_at program g.routine).size in
      let limit = piece_within w g at.index at.place (OwnSlot at.shape name) fits.0 at.stands at.slot in
      let q : o + 4 * i ≡ 4 * (at.place + (s.place + i)) = omega (arith, is, off) in
      let change : Words → Option Words = λ words. with_word words (o + 4 * i) word in
      let changes : change (block_words program w g) ≡ Some (block_words program (renewed w name new) g) =
      ap (λ n. with_word (block_words program w g) n word) q
      ∙ word_written (block_words program w g) (at.place + (s.place + i)) word
      (omega (arith, size, limit, wide, inside, in_part))
      ∙ ap Some (block_written w g from.0 from.1.0 at.index at.place (s.place + i) at.shape name new
      (Some word ∷ []) fits.0 from.1.1 at.stands at.slot (omega (arith, inside, in_part)) written) in
      ap (λ c. store m c (o + 4 * i) word) at.block
      ∙ ap (λ bs. with_frames m (changed bs g.number change)) fm
      ∙ ap (with_frames m) (changed_found w gs next g.number at.index at.place g at.shape name new change names at.there
      at.stands at.slot changes)
    where
      named : (xs : List Ghost) (n : ℕ) (g : Ghost) → Names xs n → found xs g.number ≡ Some g → (k : ℕ)
          × ((l : ℕ) × SlotsFrom g.slots k l)
      named xs n g h q = named_in xs n g.number g h q

      piece_within : (w : World) (g : Ghost) (i k : ℕ) (x : Slot) → slot_kinds g.slots ≡ entries
          (routine_at program g.routine) → slice_get (layout_at program g.routine).places i ≡ Some k
          → slice_get g.slots i ≡ Some x → k + length (slot_words w.store x) ≤ (layout_at program g.routine).size
      piece_within w g i k x e p h = (placed_piece (layout_at program g.routine).size (pieces program w g) (suc i)
          (record {
            place = k;
            words = slot_words w.store x;
          }) (pieces_placed program w g e) (piece_at w.store (layout_at program g.routine).places g.slots i k x p h))

  -- ---- values keep their shapes

  slots_fit_other : (made : List ℕ) (st : ℕ → Value) (xs : List Slot) (m n name : ℕ) (v : Value) → SlotsFrom xs m n
      → (name < m) ⊎ (n ≤ name) → SlotsFit made st xs → SlotsFit made (at_name st name v) xs
  slots_fit_other made st [] m n name v h l f = tt
  slots_fit_other made st (OwnSlot s j ∷ xs) m n name v h l f = (
    subst (λ u. HasShape made u s) (sym (name_other st name v j (go l))) f.0,
    slots_fit_other made st xs
        (suc m) n name v h.1 (further l) f.1,
  )
    where
      go : (name < m) ⊎ (n ≤ name) → j ≡ name → ⊥
      go (inl a) e = let is = h.0 in omega arith
      go (inr a) e = let is = h.0 in let up = slots_up xs (suc m) n h.1 in omega arith

      further : (name < m) ⊎ (n ≤ name) → (name < suc m) ⊎ (n ≤ name)
      further (inl a) = inl (omega arith)
      further (inr a) = inr a
  slots_fit_other made st (ReferenceSlot s b o ∷ xs) m n name v h l f =
      (tt, slots_fit_other made st xs m n name v h l f.1)
  slots_fit_other made st (ClosureSlot ks result r w ∷ xs) m n name v h l f =
      (tt, slots_fit_other made st xs m n name v h l f.1)

  slots_fit_set : (made : List ℕ) (st : ℕ → Value) (xs : List Slot) (m n i : ℕ) (shape : Shape) (name : ℕ) (v : Value)
      → SlotsFrom xs m n → slice_get xs i ≡ Some (OwnSlot shape name) → HasShape made v shape → SlotsFit made st xs
      → SlotsFit made (at_name st name v) xs
  slots_fit_set made st [] m n i shape name v h e q f = some_none e
  slots_fit_set made st (OwnSlot s j ∷ xs) m n zero shape name v h e q f =
      let is = h.0 in
      let qs : s ≡ shape = ap (λ x. elim x as (λ y. Shape)
      [ OwnSlot s' k' ↦ s' | ReferenceSlot s' b o ↦ s' | ClosureSlot ks r' r w ↦ s ]) (same_some e) in
      let qj : j ≡ name = ap (λ x. elim x as (λ y. ℕ)
      [ OwnSlot s' k' ↦ k' | ReferenceSlot s' b o ↦ 0 | ClosureSlot ks r' r w ↦ 0 ]) (same_some e) in (
        subst (λ u. HasShape made u s) (sym (ap (at_name st name v) qj ∙ name_same st name v))
            (subst (HasShape made v) (sym qs) q),
        slots_fit_other made st xs (suc m) n name v h.1 (inl (omega arith)) f.1,
      )
  slots_fit_set made st (OwnSlot s j ∷ xs) m n (suc i) shape name v h e q f =
      let is = h.0 in
      let r = own_name xs (suc m) n i shape name h.1 e in
      let low = r.0 in
      let ne : j ≡ name → ⊥ = λ z. omega arith in (
        subst (λ u. HasShape made u s) (sym (name_other st name v j ne)) f.0,
        slots_fit_set made st xs
            (suc m) n i shape name v h.1 e q f.1,
      )
  slots_fit_set made st (ReferenceSlot s b o ∷ xs) m n zero shape name v h e q f = absurd (cc)
  slots_fit_set made st (ReferenceSlot s b o ∷ xs) m n (suc i) shape name v h e q f =
      (tt, slots_fit_set made st xs m n i shape name v h e q f.1)
  slots_fit_set made st (ClosureSlot ks result r w ∷ xs) m n zero shape name v h e q f = absurd (cc)
  slots_fit_set made st (ClosureSlot ks result r w ∷ xs) m n (suc i) shape name v h e q f =
      (tt, slots_fit_set made st xs m n i shape name v h e q f.1)

  ghosts_fit_older : (made : List ℕ) (st : ℕ → Value) (gs : List Ghost) (next name : ℕ) (v : Value) → Names gs next
      → next ≤ name → GhostsFit program made st gs → GhostsFit program made (at_name st name v) gs
  ghosts_fit_older made st [] next name v h l f = tt
  ghosts_fit_older made st (g ∷ gs) next name v h l f =
      let up = h.2 in
      let low = slots_up g.slots g.base h.0 h.1 in (
        f.0,
        slots_fit_other made st g.slots g.base h.0 name v h.1
            (inr (omega arith)) f.1,
        ghosts_fit_older made st gs g.base name v h.3 (omega arith) f.2,
      )

  pub ghosts_fit_set : (made : List ℕ) (st : ℕ → Value) (gs : List Ghost) (next a i : ℕ) (g : Ghost) (shape : Shape)
      (name : ℕ) (v : Value) → Names gs next → found gs a ≡ Some g → slice_get g.slots i ≡ Some (OwnSlot shape name)
      → HasShape made v shape → GhostsFit program made st gs → GhostsFit program made (at_name st name v) gs
  ghosts_fit_set made st [] next a i g shape name v h q e t f = some_none q
  ghosts_fit_set made st (x ∷ gs) next a i g shape name v h q e t f = go (nat_eq x.number a) q
      (λ r. ghosts_fit_set made st gs x.base a i g shape name v h.3 r e t f.2)
    where
      go : (b : Bool) → (if b then Some x else found gs a) ≡ Some g
          → (found gs a ≡ Some g → GhostsFit program made (at_name st name v) gs) → GhostsFit program made
          (at_name st name v) (x ∷ gs)
      go true r ih =
          let there = ap (λ y. slice_get y.slots i) (same_some r) ∙ e in
          let o = own_name x.slots x.base h.0 i shape name h.1 there in (
            f.0,
            slots_fit_set made st x.slots x.base h.0 i shape name v h.1 there t f.1,
            ghosts_fit_older made st gs
                x.base name v h.3 o.0 f.2,
          )
      go false r ih =
          let l = found_name gs x.base a i g shape name h.3 r e in
          (f.0, slots_fit_other made st x.slots x.base h.0 name v h.1 (inl l) f.1, ih r)

  -- what part_written leaves still fits
  pub part_fits : (w : World) (gs : List Ghost) (next : ℕ) (name : ℕ) (path : List ℕ) (b : Block) (o : ℕ)
      (inner : Shape) (v : Value) → GhostsFit program w.made w.store gs → Names gs next
      → DeclaredAt program gs w.made name path b o (Whole inner) → GoesTo w.made path v inner → GhostsFit program w.made
      (at_name w.store name (with_part (w.store name) path v)) gs
  part_fits w gs next name path b o inner v f names at h =
      let g = at.ghost in
      let fits = ghost_fits program w.made w.store gs g.number g f at.there in
      let shaped : HasShape w.made (w.store name) at.shape = slot_fits program w.made w.store g.slots at.index
      (OwnSlot at.shape name) fits.1 at.slot in
      let s = span_in w.made (w.store name) path at.shape inner at.inner shaped at.inside in
      ghosts_fit_set w.made w.store gs next g.number at.index g at.shape name
      (with_part (w.store name) path v) names at.there at.slot (s.writes v h).1 f

  -- what the part has fits too
  pub part_value : (w : World) (gs : List Ghost) (name : ℕ) (path : List ℕ) (b : Block) (o : ℕ) (inner : Shape)
      → GhostsFit program w.made w.store gs → DeclaredAt program gs w.made name path b o (Whole inner) → HasShape w.made
      (part (w.store name) path) inner
  part_value w gs name path b o inner f at =
      let g = at.ghost in
      let fits = ghost_fits program w.made w.store gs g.number g f at.there in
      let shaped : HasShape w.made (w.store name) at.shape = slot_fits program w.made w.store g.slots at.index
      (OwnSlot at.shape name) fits.1 at.slot in
      (span_in w.made (w.store name) path at.shape inner at.inner shaped at.inside).fits
  -- the static link of a routine that is not the program block
