-- Loops that look for the largest number.
use Rattle.std.proofs.Common.{◌≡◌, ℕ, suc, max, ◌+◌, ◌<◌, ◌≤◌, List, [], ◌∷◌, length, drop, get_or, sym, ap, ◌∙◌, arith}
use Rattle.std.proofs.Math.Seq.{drop-cons}
use Rattle.std.proofs.lemmas.List.{drop_all}

-- of the items before i the largest is so far
pub record Largest {A : Type 0} (most : List A → ℕ) (items : List A) (i so_far : ℕ) : Type 0 where
  pub left : max so_far (most (drop i items)) ≡ most items

pub largest_start : {A : Type 0} (most : List A → ℕ) (items : List A) → Largest most items 0 0
largest_start most items = record { left = omega arith }

max_assoc : (a b c : ℕ) → max (max a b) c ≡ max a (max b c)
max_assoc a b c = omega arith

pub largest_next : {A : Type 0} (most : List A → ℕ) (one : A → ℕ)
    → ((x : A) (xs : List A) → most (x ∷ xs) ≡ max (one x) (most xs)) → (items : List A) (i so_far item next : ℕ)
    (d : A) → i < length items → Largest most items i so_far → item ≡ one (get_or items i d) → next ≡ max so_far item
    → Largest most items (i + 1) next
largest_next most one law items i so_far item next d h s is e = record {
  left =
      (let k : i + 1 ≡ suc i = omega arith in ap (λ j. max next (most (drop j items))) k)
      ∙ ap (λ n. max n (most (drop (suc i) items))) (e ∙ ap (λ n. max so_far n) is)
      ∙ max_assoc so_far (one (get_or items i d)) (most (drop (suc i) items))
      ∙ ap (λ n. max so_far n) (sym (law (get_or items i d) (drop (suc i) items)))
      ∙ ap (λ l. max so_far (most l)) (sym (drop-cons items i d h))
      ∙ s.left;
}

zero_right : (a b : ℕ) → b ≡ 0 → a ≡ max a b
zero_right a b e = omega arith

pub largest_all : {A : Type 0} (most : List A → ℕ) → most [] ≡ 0 → (items : List A) (i so_far : ℕ) → length items ≤ i
    → Largest most items i so_far → so_far ≡ most items
largest_all most none items i so_far h s = zero_right so_far (most (drop i items)) (ap most (drop_all i items h) ∙ none)
    ∙ s.left
