-- Items that are made one by one.
use Rattle.std.proofs.Common.{◌≡◌, ℕ, suc, ◌+◌, ◌<◌, ◌≤◌, List, [], ◌∷◌, ◌++◌, length, drop, map, get_or, sym, ap, ◌∙◌}
use Rattle.std.proofs.Common.{append_assoc, arith}
use Rattle.std.proofs.Math.Seq.{drop-cons}
use Rattle.std.proofs.lemmas.List.{append-nil, drop_all}

-- of the items before i each was made
pub record Made {A B C : Type 0} (one : A → B) (f : B → C) (items : List A) (i : ℕ) (now : List C) : Type 0 where
  pub left : now ++ map f (map one (drop i items)) ≡ map f (map one items)

pub made_start : {A B C : Type 0} (one : A → B) (f : B → C) (items : List A) (now : List C) → now ≡ []
    → Made one f items 0 now
made_start one f items now e = record { left = ap (λ l. l ++ map f (map one items)) e }

pub made_next : {A B C : Type 0} (one : A → B) (f : B → C) (items : List A) (i : ℕ) (now next : List C) (d : A)
    (item : C) → i < length items → Made one f items i now → item ≡ f (one (get_or items i d)) → next ≡ now ++ item ∷ []
    → Made one f items (i + 1) next
made_next one f items i now next d item h s is e = record {
  left =
      (let k : i + 1 ≡ suc i = omega arith in ap (λ j. next ++ map f (map one (drop j items))) k)
      ∙ ap (λ o. o ++ map f (map one (drop (suc i) items))) (e ∙ ap (λ x. now ++ x ∷ []) is)
      ∙ append_assoc now (f (one (get_or items i d)) ∷ []) (map f (map one (drop (suc i) items)))
      ∙ ap (λ l. now ++ map f (map one l)) (sym (drop-cons items i d h))
      ∙ s.left;
}

pub made_all : {A B C : Type 0} (one : A → B) (f : B → C) (items : List A) (i : ℕ) (now : List C) → length items ≤ i
    → Made one f items i now → now ≡ map f (map one items)
made_all one f items i now h s = sym (append-nil now) ∙ ap (λ l. now ++ map f (map one l)) (sym (drop_all i items h))
    ∙ s.left
