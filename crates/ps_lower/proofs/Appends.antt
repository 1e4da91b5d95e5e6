-- Code that is added piece by piece.
use Rattle.std.proofs.Common.{◌≡◌, ℕ, suc, ◌+◌, ◌<◌, ◌≤◌, List, [], ◌∷◌, ◌++◌, length, drop, get_or, refl, sym, ap}
use Rattle.std.proofs.Common.{◌∙◌, append_assoc, arith}
use Rattle.std.proofs.Math.Seq.{drop-cons}
use Rattle.std.proofs.lemmas.List.{append-nil, drop_all}
use Rattle.tac_code.specs.declared.code.Instruction.{Instruction}

-- one piece, and another after it
pub and_then : (old middle new a b : List Instruction) → middle ≡ old ++ a → new ≡ middle ++ b → new ≡ old ++ (a ++ b)
and_then old middle new a b p q = q ∙ ap (λ o. o ++ b) p ∙ append_assoc old a b

-- nothing is added
pub unchanged : (old : List Instruction) → old ≡ old ++ []
unchanged old = sym (append-nil old)

-- another name of what is added
pub told : (old new a b : List Instruction) → new ≡ old ++ a → a ≡ b → new ≡ old ++ b
told old new a b p e = p ∙ ap (λ x. old ++ x) e

-- what the items before i add is added to what was there at the start
pub record Added {A : Type 0} (code : List A → List Instruction) (start : List Instruction) (items : List A) (i : ℕ)
    (now : List Instruction) : Type 0 where
  pub left : now ++ code (drop i items) ≡ start ++ code items

pub added_start : {A : Type 0} (code : List A → List Instruction) (start : List Instruction) (items : List A)
    → Added code start items 0 start
added_start code start items = record { left = refl }

pub added_next : {A : Type 0} (code : List A → List Instruction) (one : A → List Instruction)
    → ((x : A) (xs : List A) → code (x ∷ xs) ≡ one x ++ code xs) → (start : List Instruction) (items : List A) (i : ℕ)
    (now next : List Instruction) (d : A) → i < length items → Added code start items i now → next ≡ now ++ one
    (get_or items i d) → Added code start items (i + 1) next
added_next code one law start items i now next d h s e = record {
  left =
      (let k : i + 1 ≡ suc i = omega arith in ap (λ j. next ++ code (drop j items)) k)
      ∙ ap (λ o. o ++ code (drop (suc i) items)) e
      ∙ append_assoc now (one (get_or items i d)) (code (drop (suc i) items))
      ∙ ap (λ l. now ++ l) (sym (law (get_or items i d) (drop (suc i) items)))
      ∙ ap (λ l. now ++ code l) (sym (drop-cons items i d h))
      ∙ s.left;
}

pub added_all : {A : Type 0} (code : List A → List Instruction) → code [] ≡ [] → (start : List Instruction)
    (items : List A) (i : ℕ) (now : List Instruction) → length items ≤ i → Added code start items i now → now ≡ start
    ++ code items
added_all code none start items i now h s = sym (append-nil now) ∙ ap (λ l. now ++ l) (sym none)
    ∙ ap (λ l. now ++ code l) (sym (drop_all i items h)) ∙ s.left
