-- The pieces of a frame lie apart, and a name has one of them.
use Rattle.std.proofs.Common.{◌≡◌, ◌⊎◌, inl, inr, ℕ, zero, suc, ◌+◌, ◌<◌, ◌≤◌, List, [], ◌∷◌, length, replicate}
use Rattle.std.proofs.Common.{slice_get, Option, Some, None, Bool, true, false, if◌then◌else◌, refl, sym, ap, ◌∙◌}
use Rattle.std.proofs.Common.{subst, arith}
use Rattle.std.proofs.lemmas.Bool.{ne_eqb}
use Rattle.ps_tree.specs.Tree.{Program, routine_at}
use Rattle.tac_code.specs.declared.code.Value.{Value as Word}
use Rattle.tac_code.proofs.Numbers.{eq_same}
use Rattle.ps_meaning.specs.Values.{Value}
use Rattle.ps_meaning.specs.Worlds.{World, at_name}
use Rattle.tac_code_steps.specs.Splices.{Piece, ApartFrom, ArePlaced, with_words}
use Rattle.tac_code_steps.proofs.Pieces.{same_some, some_none, placed_length}
use Rattle.ps_lower_layout.specs.Shapes.{Shape}
use Rattle.ps_lower_layout.specs.Words.{value_words}
use Rattle.ps_lower_layout.specs.Frames.{kind_words, entries, places_from, words_of_all, is_program_block}
use Rattle.ps_lower_layout.proofs.Counted.{counted}
use Rattle.ps_lower_relation.specs.Ghosts.{Slot, OwnSlot, ReferenceSlot, ClosureSlot, Ghost, slot_kind, slot_kinds}
use Rattle.ps_lower_relation.specs.Ghosts.{slot_words, first_piece, entry_pieces, layout_at, pieces, block_words}
use Rattle.ps_lower_relation.specs.Ghosts.{SlotsFrom}

-- ---- the pieces of a frame lie apart

slot_counted : (st : ℕ → Value) (x : Slot) → length (slot_words st x) ≡ kind_words (slot_kind x)
slot_counted st (OwnSlot shape n) = counted shape (st n)
slot_counted st (ReferenceSlot shape b o) = refl
slot_counted st (ClosureSlot kinds result r w) = refl

entries_above : (st : ℕ → Value) (k : ℕ) (xs : List Slot) (p : Piece) → p.place + length p.words ≤ k → ApartFrom p
    (entry_pieces st (places_from k (slot_kinds xs)) xs)
entries_above st k [] p h = tt
entries_above st k (x ∷ xs) p h = (inl h, entries_above st (k + kind_words (slot_kind x)) xs p (omega arith))

entries_below : (st : ℕ → Value) (k : ℕ) (xs : List Slot) (p : Piece) → k + words_of_all (slot_kinds xs) ≤ p.place
    → ApartFrom p (entry_pieces st (places_from k (slot_kinds xs)) xs)
entries_below st k [] p h = tt
entries_below st k (x ∷ xs) p h = let c = slot_counted st x
    in (inr (omega (arith, c, h)), entries_below st (k + kind_words (slot_kind x)) xs p (omega arith))

entries_placed : (st : ℕ → Value) (k n : ℕ) (xs : List Slot) → k + words_of_all (slot_kinds xs) ≤ n → ArePlaced n
    (entry_pieces st (places_from k (slot_kinds xs)) xs)
entries_placed st k n [] h = tt
entries_placed st k n (x ∷ xs) h =
    let c = slot_counted st x in (
      omega (arith, c, h),
      entries_above st (k + kind_words (slot_kind x)) xs (record {
        place = k;
        words = slot_words st x;
      }) (omega (arith, c)),
      entries_placed st (k + kind_words (slot_kind x)) n xs (omega arith),
    )

pub size_length : (n : ℕ) → length (replicate {A = Option Word} n None) ≡ n
size_length zero = refl
size_length (suc n) = ap suc (size_length n)

module _ (program : Program) where
  pub pieces_placed : (w : World) (g : Ghost) → slot_kinds g.slots ≡ entries (routine_at program g.routine) → ArePlaced
      (layout_at program g.routine).size (pieces program w g)
  pieces_placed w g e = go (is_program_block (routine_at program g.routine).chain) refl
    where
      total : ℕ
      total = words_of_all (slot_kinds g.slots)

      same : words_of_all (entries (routine_at program g.routine)) ≡ total
      same = ap words_of_all (sym e)

      all : (n : ℕ) → 1 + total ≤ n → ArePlaced n (entry_pieces w.store (layout_at program g.routine).places g.slots)
      all n l = subst (λ ks. ArePlaced n (entry_pieces w.store (places_from 1 ks) g.slots)) e
          (entries_placed w.store 1 n g.slots l)

      go : (b : Bool) → is_program_block (routine_at program g.routine).chain ≡ b → ArePlaced
          (layout_at program g.routine).size (pieces program w g)
      go true q =
          let size : (layout_at program g.routine).size ≡ 1 + total
          + 2 = ap (λ c. 1 + words_of_all (entries (routine_at program g.routine)) + (if c then 2 else 0)) q
          ∙ ap (λ m. 1 + m + 2) same in
          let first = first_piece (layout_at program g.routine) true w.input g.link in
          subst (λ c. ArePlaced (layout_at program g.routine).size
          (first_piece (layout_at program g.routine) c w.input g.link ∷ entry_pieces w.store
          (layout_at program g.routine).places g.slots)) (sym q) (
            omega (arith, size, same),
            subst (λ ks. ApartFrom first (entry_pieces w.store (places_from 1 ks) g.slots)) e
                (entries_below w.store 1 g.slots first (omega (arith, same))),
            all (layout_at program g.routine).size
                (omega (arith, size)),
          )
      go false q =
          let size : (layout_at program g.routine).size ≡ 1 + total
          + 0 = ap (λ c. 1 + words_of_all (entries (routine_at program g.routine)) + (if c then 2 else 0)) q
          ∙ ap (λ m. 1 + m + 0) same in
          let first = first_piece (layout_at program g.routine) false w.input g.link in
          subst (λ c. ArePlaced (layout_at program g.routine).size
          (first_piece (layout_at program g.routine) c w.input g.link ∷ entry_pieces w.store
          (layout_at program g.routine).places g.slots)) (sym q) (
            omega (arith, size),
            subst (λ ks. ApartFrom first (entry_pieces w.store (places_from 1 ks) g.slots)) e
                (entries_above w.store 1 g.slots first (omega arith)),
            all (layout_at program g.routine).size
                (omega (arith, size)),
          )

  pub block_length : (w : World) (g : Ghost) → length (block_words program w g) ≡ (layout_at program g.routine).size
  block_length w g = placed_length (pieces program w g) (replicate (layout_at program g.routine).size None)
      ∙ size_length (layout_at program g.routine).size

pub piece_at : (st : ℕ → Value) (places : List ℕ) (xs : List Slot) (i k : ℕ) (x : Slot) → slice_get places i ≡ Some k
    → slice_get xs i ≡ Some x → slice_get (entry_pieces st places xs) i ≡ Some (record {
      place = k;
      words = slot_words st x;
    })
piece_at st [] xs i k x p h = some_none p
piece_at st (l ∷ places) [] i k x p h = some_none h
piece_at st (l ∷ places) (y ∷ xs) zero k x p h = ap (λ m. Some (record {
  place = m;
  words = slot_words st y;
})) (same_some p) ∙ ap (λ z. Some (record {
  place = k;
  words = slot_words st z;
})) (same_some h)
piece_at st (l ∷ places) (y ∷ xs) (suc i) k x p h = piece_at st places xs i k x p h

-- ---- names

pub own_name : (xs : List Slot) (m n i : ℕ) (shape : Shape) (name : ℕ) → SlotsFrom xs m n → slice_get xs i ≡ Some
    (OwnSlot shape name) → (m ≤ name) × (name < n)
own_name [] m n i shape name h e = some_none e
own_name (OwnSlot s k ∷ xs) m n zero shape name h e =
    let q : k ≡ name = ap (λ x. elim x as (λ y. ℕ)
    [ OwnSlot s' k' ↦ k' | ReferenceSlot s' b o ↦ 0 | ClosureSlot ks r' r w ↦ 0 ]) (same_some e) in
    let is = h.0 in
    let up = up_to xs (suc m) n h.1 in
    (omega arith, omega arith)
  where
    up_to : (ys : List Slot) (a b : ℕ) → SlotsFrom ys a b → a ≤ b
    up_to [] a b f = omega arith
    up_to (OwnSlot s' k' ∷ ys) a b f = let r = up_to ys (suc a) b f.1 in omega arith
    up_to (ReferenceSlot s' b' o ∷ ys) a b f = up_to ys a b f
    up_to (ClosureSlot ks r' r w ∷ ys) a b f = up_to ys a b f
own_name (OwnSlot s k ∷ xs) m n (suc i) shape name h e = let r = own_name xs (suc m) n i shape name h.1 e
    in (omega (arith, r.0), r.1)
own_name (ReferenceSlot s b o ∷ xs) m n zero shape name h e = absurd (cc)
own_name (ReferenceSlot s b o ∷ xs) m n (suc i) shape name h e = own_name xs m n i shape name h e
own_name (ClosureSlot ks result r w ∷ xs) m n zero shape name h e = absurd (cc)
own_name (ClosureSlot ks result r w ∷ xs) m n (suc i) shape name h e = own_name xs m n i shape name h e

pub name_other : (st : ℕ → Value) (n : ℕ) (v : Value) (m : ℕ) → (m ≡ n → ⊥) → at_name st n v m ≡ st m
name_other st n v m h = ap (λ t. if t then v else st m) (ne_eqb m n h)

pub name_same : (st : ℕ → Value) (n : ℕ) (v : Value) → at_name st n v n ≡ v
name_same st n v = ap (λ t. if t then v else st n) (eq_same n)

pub slots_up : (xs : List Slot) (m n : ℕ) → SlotsFrom xs m n → m ≤ n
slots_up [] m n h = omega arith
slots_up (OwnSlot s k ∷ xs) m n h = let r = slots_up xs (suc m) n h.1 in omega arith
slots_up (ReferenceSlot s b o ∷ xs) m n h = slots_up xs m n h
slots_up (ClosureSlot ks result r w ∷ xs) m n h = slots_up xs m n h

-- slots whose names lie elsewhere keep their words
pub slots_other : (st : ℕ → Value) (places : List ℕ) (xs : List Slot) (m n name : ℕ) (v : Value) → SlotsFrom xs m n
    → (name < m) ⊎ (n ≤ name) → entry_pieces (at_name st name v) places xs ≡ entry_pieces st places xs
slots_other st [] xs m n name v h l = refl
slots_other st (k ∷ places) [] m n name v h l = refl
slots_other st (k ∷ places) (OwnSlot s j ∷ xs) m n name v h l =
    let is = h.0 in
    let up = slots_up xs (suc m) n h.1 in
    let ne : j ≡ name → ⊥ = λ e. go l e in
    ap (λ u. record {
      place = k;
      words = value_words s u;
    } ∷ entry_pieces (at_name st name v) places xs) (name_other st name v j ne)
    ∙ ap (λ ps. record {
      place = k;
      words = value_words s (st j);
    } ∷ ps) (slots_other st places xs (suc m) n name v h.1 (further l))
  where
    go : (name < m) ⊎ (n ≤ name) → j ≡ name → ⊥
    go (inl a) e = let is = h.0 in omega arith
    go (inr a) e = let is = h.0 in let up = slots_up xs (suc m) n h.1 in omega arith

    further : (name < m) ⊎ (n ≤ name) → (name < suc m) ⊎ (n ≤ name)
    further (inl a) = inl (omega arith)
    further (inr a) = inr a
slots_other st (k ∷ places) (ReferenceSlot s b o ∷ xs) m n name v h l = ap (λ ps. record {
  place = k;
  words = slot_words st (ReferenceSlot s b o);
} ∷ ps) (slots_other st places xs m n name v h l)
slots_other st (k ∷ places) (ClosureSlot ks result r w ∷ xs) m n name v h l = ap (λ ps. record {
  place = k;
  words = slot_words st (ClosureSlot ks result r w);
} ∷ ps) (slots_other st places xs m n name v h l)

-- the slot of the name gets the words of its new value
pub slots_set : (st : ℕ → Value) (places : List ℕ) (xs : List Slot) (m n i k : ℕ) (shape : Shape) (name : ℕ) (v : Value)
    → SlotsFrom xs m n → slice_get places i ≡ Some k → slice_get xs i ≡ Some (OwnSlot shape name) → entry_pieces
    (at_name st name v) places xs ≡ with_words (entry_pieces st places xs) i (value_words shape v)
slots_set st [] xs m n i k shape name v h p e = some_none p
slots_set st (l ∷ places) [] m n i k shape name v h p e = some_none e
slots_set st (l ∷ places) (OwnSlot s j ∷ xs) m n zero k shape name v h p e =
    let is = h.0 in
    let qs : s ≡ shape = ap (λ x. elim x as (λ y. Shape)
    [ OwnSlot s' k' ↦ s' | ReferenceSlot s' b o ↦ s' | ClosureSlot ks r' r w ↦ s ]) (same_some e) in
    let qj : j ≡ name = ap (λ x. elim x as (λ y. ℕ)
    [ OwnSlot s' k' ↦ k' | ReferenceSlot s' b o ↦ 0 | ClosureSlot ks r' r w ↦ 0 ]) (same_some e) in
    ap (λ u. record {
      place = l;
      words = value_words s u;
    } ∷ entry_pieces (at_name st name v) places xs) (ap (at_name st name v) qj ∙ name_same st name v)
    ∙ ap (λ ps. record {
      place = l;
      words = value_words s v;
    } ∷ ps) (slots_other st places xs (suc m) n name v h.1 (inl (omega arith)))
    ∙ ap (λ z. record { place = l; words = value_words z v } ∷ entry_pieces st places xs) qs
slots_set st (l ∷ places) (OwnSlot s j ∷ xs) m n (suc i) k shape name v h p e =
    let is = h.0 in
    let r = own_name xs (suc m) n i shape name h.1 e in
    let low = r.0 in
    let ne : j ≡ name → ⊥ = λ q. omega arith in
    ap (λ u. record {
      place = l;
      words = value_words s u;
    } ∷ entry_pieces (at_name st name v) places xs) (name_other st name v j ne)
    ∙ ap (λ ps. record {
      place = l;
      words = value_words s (st j);
    } ∷ ps) (slots_set st places xs (suc m) n i k shape name v h.1 p e)
slots_set st (l ∷ places) (ReferenceSlot s b o ∷ xs) m n zero k shape name v h p e = absurd (cc)
slots_set st (l ∷ places) (ReferenceSlot s b o ∷ xs) m n (suc i) k shape name v h p e = ap (λ ps. record {
  place = l;
  words = slot_words st (ReferenceSlot s b o);
} ∷ ps) (slots_set st places xs m n i k shape name v h p e)
slots_set st (l ∷ places) (ClosureSlot ks result r w ∷ xs) m n zero k shape name v h p e = absurd (cc)
slots_set st (l ∷ places) (ClosureSlot ks result r w ∷ xs) m n (suc i) k shape name v h p e = ap (λ ps. record {
  place = l;
  words = slot_words st (ClosureSlot ks result r w);
} ∷ ps) (slots_set st places xs m n i k shape name v h p e)
