-- The machine's memory, read by the meaning's world.
use Rattle.std.proofs.Common.{◌≡◌, ℕ, zero, suc, ◌+◌, ◌*◌, ◌<◌, List, [], ◌∷◌, length, replicate, slice_get, Option}
use Rattle.std.proofs.Common.{Some, None, Bool, true, false, nat_eq, if◌then◌else◌, refl, sym, ap, ◌∙◌, subst, arith}
use Rattle.std.proofs.Common.{eqb-true}
use Rattle.ps_tree.specs.Tree.{Program, routine_at}
use Rattle.tac_code.specs.declared.code.Block.{Block}
use Rattle.tac_code.specs.declared.code.Block.TheVariants.{Frame as FrameBlock}
use Rattle.tac_code.specs.declared.code.Value.{Value as Word}
use Rattle.tac_code.specs.Memory.{Memory, Constants, known, living, value_in, load}
use Rattle.ps_meaning.specs.Values.{Value, part}
use Rattle.ps_meaning.specs.Worlds.{World}
use Rattle.tac_code_steps.specs.Splices.{ArePlaced}
use Rattle.tac_code_steps.proofs.Pieces.{same_some, some_none, placed_reads}
use Rattle.tac_code_steps.proofs.Blocks.{word_read}
use Rattle.ps_lower_layout.specs.Shapes.{Shape, word_count, Whole}
use Rattle.ps_lower_layout.specs.Words.{value_words}
use Rattle.ps_lower_layout.specs.Paths.{HasShape}
use Rattle.ps_lower_layout.specs.Frames.{entries, is_program_block}
use Rattle.ps_lower_layout.proofs.Counted.{counted}
use Rattle.ps_lower_relation.specs.Ghosts.{Slot, OwnSlot, Ghost, slot_kinds, slot_words, first_piece, layout_at, pieces}
use Rattle.ps_lower_relation.specs.Ghosts.{block_words, frames_of, found, SlotFits, SlotsFit, GhostsFit, DeclaredAt}
use Rattle.ps_lower_relation.proofs.Spans.{span_in}
use Rattle.ps_lower_relation.proofs.Pieces.{piece_at, pieces_placed, size_length}

-- ---- blocks by their numbers

pub found_number : (gs : List Ghost) (a : ℕ) (g : Ghost) → found gs a ≡ Some g → g.number ≡ a
found_number [] a g h = some_none h
found_number (x ∷ gs) a g h = go (nat_eq x.number a) refl h (found_number gs a g)
  where
    go : (b : Bool) → nat_eq x.number a ≡ b → (if b then Some x else found gs a) ≡ Some g
        → (found gs a ≡ Some g → g.number ≡ a) → g.number ≡ a
    go true e q r = ap (λ y. y.number) (sym (same_some q)) ∙ eqb-true x.number a e
    go false e q r = r q

module _ (program : Program) where
  pub living_found : (w : World) (gs : List Ghost) (a : ℕ) (g : Ghost) → found gs a ≡ Some g → living
      (frames_of program w gs) a ≡ Some (block_words program w g)
  living_found w [] a g h = some_none h
  living_found w (x ∷ gs) a g h = go (nat_eq x.number a) refl h (living_found w gs a g)
    where
      go : (b : Bool) → nat_eq x.number a ≡ b → (if b then Some x else found gs a) ≡ Some g
          → (found gs a ≡ Some g → living (frames_of program w gs) a ≡ Some (block_words program w g)) → living
          (frames_of program w (x ∷ gs)) a ≡ Some (block_words program w g)
      go true e q r = ap (λ b. if b then Some (block_words program w x) else living (frames_of program w gs) a) e
          ∙ ap (λ y. Some (block_words program w y)) (same_some q)
      go false e q r = ap (λ b. if b then Some (block_words program w x) else living (frames_of program w gs) a) e ∙ r q

  pub ghost_fits : (made : List ℕ) (st : ℕ → Value) (gs : List Ghost) (a : ℕ) (g : Ghost) → GhostsFit program made st gs
      → found gs a ≡ Some g → (slot_kinds g.slots ≡ entries (routine_at program g.routine)) × SlotsFit made st g.slots
  ghost_fits made st [] a g f h = some_none h
  ghost_fits made st (x ∷ gs) a g f h = go (nat_eq x.number a) h (ghost_fits made st gs a g f.2)
    where
      go : (b : Bool) → (if b then Some x else found gs a) ≡ Some g
          → (found gs a ≡ Some g → (slot_kinds g.slots ≡ entries (routine_at program g.routine))
          × SlotsFit made st g.slots) → (slot_kinds g.slots ≡ entries (routine_at program g.routine))
          × SlotsFit made st g.slots
      go true q r = subst (λ y. (slot_kinds y.slots ≡ entries (routine_at program y.routine))
          × SlotsFit made st y.slots) (same_some q) (f.0, f.1)
      go false q r = r q

  pub slot_fits : (made : List ℕ) (st : ℕ → Value) (xs : List Slot) (i : ℕ) (x : Slot) → SlotsFit made st xs
      → slice_get xs i ≡ Some x → SlotFits made st x
  slot_fits made st [] i x f h = some_none h
  slot_fits made st (y ∷ ys) zero x f h = subst (SlotFits made st) (same_some h) f.0
  slot_fits made st (y ∷ ys) (suc i) x f h = slot_fits made st ys i x f.1 h

  -- a word of an entry
  pub slot_read : (w : World) (g : Ghost) (i k j : ℕ) (x : Slot) → slot_kinds g.slots ≡ entries
      (routine_at program g.routine) → slice_get (layout_at program g.routine).places i ≡ Some k → slice_get g.slots i
      ≡ Some x → j < length (slot_words w.store x) → slice_get (block_words program w g) (k + j) ≡ slice_get
      (slot_words w.store x) j
  slot_read w g i k j x e p h l =
      let base = replicate {A = Option Word} (layout_at program g.routine).size None in
      let apart = subst (λ n. ArePlaced n (pieces program w g)) (sym (size_length (layout_at program g.routine).size))
      (pieces_placed program w g e) in
      placed_reads (pieces program w g) base (suc i) j (record {
        place = k;
        words = slot_words w.store x;
      }) apart (piece_at w.store (layout_at program g.routine).places g.slots i k x p h) l

  -- the same, by its address
  pub frame_read : (constants : Constants) (m : Memory) (w : World) (gs : List Ghost) (g : Ghost) (i k j : ℕ) (x : Slot)
      → m.frames ≡ frames_of program w gs → GhostsFit program w.made w.store gs → found gs g.number ≡ Some g → slice_get
      (layout_at program g.routine).places i ≡ Some k → slice_get g.slots i ≡ Some x → j < length (slot_words w.store x)
      → load constants m (FrameBlock g.number) (4 * (k + j)) ≡ known (slice_get (slot_words w.store x) j)
  frame_read constants m w gs g i k j x fm f there p h l =
      let kinds = (ghost_fits w.made w.store gs g.number g f there).0 in
      ap (λ bs. value_in (living bs g.number) (4 * (k + j))) fm
      ∙ ap (λ o. value_in o (4 * (k + j))) (living_found w gs g.number g there)
      ∙ word_read (block_words program w g) (k + j)
      ∙ ap known (slot_read w g i k j x kinds p h l)

  -- a stretch of words of a variable's part
  pub part_read : (constants : Constants) (m : Memory) (w : World) (gs : List Ghost) (name : ℕ) (path : List ℕ)
      (b : Block) (o : ℕ) (inner : Shape) (i : ℕ) → m.frames ≡ frames_of program w gs
      → GhostsFit program w.made w.store gs → DeclaredAt program gs w.made name path b o (Whole inner)
      → i < word_count inner → load constants m b (o + 4 * i) ≡ known
      (slice_get (value_words inner (part (w.store name) path)) i)
  part_read constants m w gs name path b o inner i fm f at l =
      let g = at.ghost in
      let fits = ghost_fits w.made w.store gs g.number g f at.there in
      let h : HasShape w.made (w.store name) at.shape = slot_fits w.made w.store g.slots at.index
      (OwnSlot at.shape name) fits.1 at.slot in
      let s = span_in w.made (w.store name) path at.shape inner at.inner h at.inside in
      let is = s.is in
      let off = at.offset in
      let wide = counted at.shape (w.store name) in
      let inside = s.within in
      let q : o + 4 * i ≡ 4 * (at.place + (s.place + i)) = omega (arith, is, off) in
      ap (λ c. load constants m c (o + 4 * i)) at.block
      ∙ ap (load constants m (FrameBlock g.number)) q
      ∙ frame_read constants m w gs g at.index at.place (s.place + i)
      (OwnSlot at.shape name) fm f at.there at.stands at.slot (omega (arith, wide, inside, l))
      ∙ ap known (s.reads i l)

  pub link_read : (constants : Constants) (m : Memory) (w : World) (gs : List Ghost) (g : Ghost) → m.frames
      ≡ frames_of program w gs → GhostsFit program w.made w.store gs → found gs g.number ≡ Some g → is_program_block
      (routine_at program g.routine).chain ≡ false → load constants m (FrameBlock g.number)
      (4 * (layout_at program g.routine).link) ≡ Some g.link
  link_read constants m w gs g fm f there q =
      let kinds = (ghost_fits w.made w.store gs g.number g f there).0 in
      let base = replicate {A = Option Word} (layout_at program g.routine).size None in
      let apart = subst (λ n. ArePlaced n (pieces program w g)) (sym (size_length (layout_at program g.routine).size))
      (pieces_placed program w g kinds) in
      let first : slice_get (pieces program w g) 0 ≡ Some
      (first_piece (layout_at program g.routine) false w.input g.link) =
      ap (λ b. Some (first_piece (layout_at program g.routine) b w.input g.link)) q in
      let z : (layout_at program g.routine).link ≡ (layout_at program g.routine).link + 0 = omega arith in
      ap (λ bs. value_in (living bs g.number) (4 * (layout_at program g.routine).link)) fm
      ∙ ap (λ o. value_in o (4 * (layout_at program g.routine).link)) (living_found w gs g.number g there)
      ∙ word_read (block_words program w g) (layout_at program g.routine).link
      ∙ ap (λ i. known (slice_get (block_words program w g) i)) z
      ∙ ap known (placed_reads (pieces program w g) base 0 0
      (first_piece (layout_at program g.routine) false w.input g.link) apart first (omega arith))
