-- Frames of earlier activations keep their words in a world that has only more names.
use Rattle.std.proofs.Common.{◌≡◌, ℕ, suc, ◌<◌, ◌≤◌, List, [], ◌∷◌, replicate, None, refl, sym, ap, ◌∙◌, subst, arith}
use Rattle.ps_tree.specs.Tree.{Program, routine_at}
use Rattle.ps_meaning.specs.Values.{Value}
use Rattle.ps_meaning.specs.Text.{Input}
use Rattle.ps_meaning.specs.Worlds.{World}
use Rattle.tac_code_steps.specs.Splices.{Piece, placed}
use Rattle.ps_lower_layout.specs.Paths.{HasShape}
use Rattle.ps_lower_layout.specs.Words.{value_words}
use Rattle.ps_lower_layout.specs.Frames.{is_program_block}
use Rattle.ps_lower_relation.specs.Ghosts.{Slot, OwnSlot, ReferenceSlot, ClosureSlot, Ghost, SlotsFrom, Names}
use Rattle.ps_lower_relation.specs.Ghosts.{SlotsFit, GhostsFit, slot_words, first_piece, entry_pieces, layout_at}
use Rattle.ps_lower_relation.specs.Ghosts.{block_words, frames_of}
use Rattle.ps_lower_calls.specs.Binding.{Extends}

pub slots_rise : (xs : List Slot) (m n : ℕ) → SlotsFrom xs m n → m ≤ n
slots_rise [] m n h = omega arith
slots_rise (OwnSlot s k ∷ xs) m n h = let r = slots_rise xs (suc m) n h.1 in omega arith
slots_rise (ReferenceSlot s b o ∷ xs) m n h = slots_rise xs m n h
slots_rise (ClosureSlot ks result r w ∷ xs) m n h = slots_rise xs m n h

-- slots whose names have the same values have the same words
slots_same : (st st' : ℕ → Value) (places : List ℕ) (xs : List Slot) (m n : ℕ) → SlotsFrom xs m n
    → ((j : ℕ) → j < n → st' j ≡ st j) → entry_pieces st' places xs ≡ entry_pieces st places xs
slots_same st st' [] xs m n h e = refl
slots_same st st' (k ∷ places) [] m n h e = refl
slots_same st st' (k ∷ places) (OwnSlot s j ∷ xs) m n h e =
    let up = slots_rise xs (suc m) n h.1 in
    let is = h.0 in
    ap (λ v. record { place = k; words = value_words s v } ∷ entry_pieces st' places xs) (e j (omega (arith, up, is)))
    ∙ ap (λ ps. record { place = k; words = value_words s (st j) } ∷ ps) (slots_same st st' places xs (suc m) n h.1 e)
slots_same st st' (k ∷ places) (ReferenceSlot s b o ∷ xs) m n h e = ap (λ ps. record {
  place = k;
  words = slot_words st (ReferenceSlot s b o);
} ∷ ps) (slots_same st st' places xs m n h e)
slots_same st st' (k ∷ places) (ClosureSlot ks result r w ∷ xs) m n h e = ap (λ ps. record {
  place = k;
  words = slot_words st (ClosureSlot ks result r w);
} ∷ ps) (slots_same st st' places xs m n h e)

slots_fit_same : (made : List ℕ) (st st' : ℕ → Value) (xs : List Slot) (m n : ℕ) → SlotsFrom xs m n
    → ((j : ℕ) → j < n → st' j ≡ st j) → SlotsFit made st xs → SlotsFit made st' xs
slots_fit_same made st st' [] m n h e f = tt
slots_fit_same made st st' (OwnSlot s j ∷ xs) m n h e f =
    let up = slots_rise xs (suc m) n h.1 in
    let is = h.0 in (
      subst (λ v. HasShape made v s) (sym (e j (omega (arith, up, is)))) f.0,
      slots_fit_same made st st' xs
          (suc m) n h.1 e f.1,
    )
slots_fit_same made st st' (ReferenceSlot s b o ∷ xs) m n h e f = (tt, slots_fit_same made st st' xs m n h e f.1)
slots_fit_same made st st' (ClosureSlot ks result r w ∷ xs) m n h e f = (tt, slots_fit_same made st st' xs m n h e f.1)

pub names_less : (gs : List Ghost) (m n : ℕ) → m ≤ n → Names gs m → Names gs n
names_less [] m n l h = tt
names_less (g ∷ gs) m n l h = let up = h.2 in (h.0, h.1, omega (arith, l, up), h.3)

module _ (program : Program) where
  pub frames_kept : (w w' : World) (gs : List Ghost) (next : ℕ) → Names gs next → w'.input ≡ w.input
      → ((j : ℕ) → j < next → w'.store j ≡ w.store j) → frames_of program w' gs ≡ frames_of program w gs
  frames_kept w w' [] next h i e = refl
  frames_kept w w' (g ∷ gs) next h i e =
      let up = h.2 in
      let rise = slots_rise g.slots g.base h.0 h.1 in
      let size = (layout_at program g.routine).size in
      let first : Input → Piece = λ y. first_piece (layout_at program g.routine)
      (is_program_block (routine_at program g.routine).chain) y g.link in
      ap (λ y. record {
        number = g.number;
        words = placed (first y ∷ entry_pieces w'.store (layout_at program g.routine).places g.slots)
            (replicate size None);
      } ∷ frames_of program w' gs) i
      ∙ ap (λ ps. record {
        number = g.number;
        words = placed (first w.input ∷ ps) (replicate size None);
      } ∷ frames_of program w' gs) (slots_same w.store w'.store
      (layout_at program g.routine).places g.slots g.base h.0 h.1 (λ j l. e j (omega (arith, up, l))))
      ∙ ap (λ bs. record {
        number = g.number;
        words = block_words program w g;
      } ∷ bs) (frames_kept w w' gs g.base h.3 i (λ j l. e j (omega (arith, up, rise, l))))

  pub ghosts_fit_kept : (made : List ℕ) (st st' : ℕ → Value) (gs : List Ghost) (next : ℕ) → Names gs next
      → ((j : ℕ) → j < next → st' j ≡ st j) → GhostsFit program made st gs → GhostsFit program made st' gs
  ghosts_fit_kept made st st' [] next h e f = tt
  ghosts_fit_kept made st st' (g ∷ gs) next h e f =
      let up = h.2 in
      let rise = slots_rise g.slots g.base h.0 h.1 in (
        f.0,
        slots_fit_same made st st' g.slots g.base h.0 h.1
            (λ j l. e j (omega (arith, up, l))) f.1,
        ghosts_fit_kept made st st' gs g.base h.3
            (λ j l. e j (omega (arith, up, rise, l))) f.2,
      )

  -- both, where a frame was bound in the world
  pub frames_extended : (w w' : World) (gs : List Ghost) → Names gs w.next → Extends w w' → frames_of program w' gs
      ≡ frames_of program w gs
  frames_extended w w' gs h a = frames_kept w w' gs w.next h a.input a.store

  pub ghosts_extended : (w w' : World) (gs : List Ghost) → Names gs w.next → Extends w w'
      → GhostsFit program w.made w.store gs → GhostsFit program w'.made w'.store gs
  ghosts_extended w w' gs h a f = subst (λ made. GhostsFit program made w'.store gs) (sym a.made)
      (ghosts_fit_kept w.made w.store w'.store gs w.next h a.store f)
