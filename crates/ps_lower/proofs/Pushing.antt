-- Items that are copied one by one.
use Rattle.std.proofs.Common.{◌≡◌, ℕ, suc, ◌+◌, ◌<◌, ◌≤◌, List, [], ◌∷◌, ◌++◌, length, drop, get_or, sym, ap, ◌∙◌}
use Rattle.std.proofs.Common.{append_assoc, arith}
use Rattle.std.proofs.Math.Seq.{drop-cons}
use Rattle.std.proofs.lemmas.List.{append-nil, drop_all}

pub record Copied {A : Type 0} (items : List A) (i : ℕ) (now : List A) : Type 0 where
  pub left : now ++ drop i items ≡ items

pub copied_start : {A : Type 0} (items now : List A) → now ≡ [] → Copied items 0 now
copied_start items now e = record { left = ap (λ l. l ++ items) e }

pub copied_next : {A : Type 0} (items : List A) (i : ℕ) (now next : List A) (d item : A) → i < length items
    → Copied items i now → item ≡ get_or items i d → next ≡ now ++ item ∷ [] → Copied items (i + 1) next
copied_next items i now next d item h s is e = record {
  left =
      (let k : i + 1 ≡ suc i = omega arith in ap (λ j. next ++ drop j items) k)
      ∙ ap (λ o. o ++ drop (suc i) items) (e ∙ ap (λ x. now ++ x ∷ []) is)
      ∙ append_assoc now (get_or items i d ∷ []) (drop (suc i) items)
      ∙ ap (λ l. now ++ l) (sym (drop-cons items i d h))
      ∙ s.left;
}

pub copied_all : {A : Type 0} (items : List A) (i : ℕ) (now : List A) → length items ≤ i → Copied items i now → now
    ≡ items
copied_all items i now h s = sym (append-nil now) ∙ ap (λ l. now ++ l) (sym (drop_all i items h)) ∙ s.left
