-- The table of where a block's entries are changed first.
use Rattle.std.proofs.Common.{◌≡◌, ℕ, suc, ◌+◌, ◌<◌, ◌≤◌, Bool, true, false, List, [], ◌∷◌, length, drop, get_or}
use Rattle.std.proofs.Common.{Option, Some, None, refl, sym, ap, ◌∙◌, arith}
use Rattle.std.specs.Prelude.{if◌then◌else◌}
use Rattle.std.proofs.Math.Seq.{drop-cons}
use Rattle.std.proofs.lemmas.List.{drop_all}
use Rattle.ps_check_judgement.specs.declared.change.Change.{Change}
use Rattle.ps_check_expressions.specs.Changed.{is_change_of, first_or, first_at}

-- a table of the changes before index i
pub record Filled (xs : List Change) (i : ℕ) (firsts : List (Option ℕ)) : Type 0 where
  pub rest : (k : ℕ) → first_at k xs ≡ first_or (get_or firsts k None) (first_at k (drop i xs))

pub filled_start : (xs : List Change) → Filled xs 0 []
filled_start xs = record { rest = λ k. refl }

first_or_none : (a : Option ℕ) → first_or a None ≡ a
first_or_none None = refl
first_or_none (Some at) = refl

first_or_three : (a b c : Option ℕ) → first_or a (first_or b c) ≡ first_or (first_or a b) c
first_or_three None b c = refl
first_or_three (Some at) b c = refl

one_before : (b : Bool) (at : ℕ) (o : Option ℕ) → (if b then Some at else o) ≡ first_or (if b then Some at else None) o
one_before true at o = refl
one_before false at o = refl

first_at_more : (k : ℕ) (x : Change) (xs : List Change) → first_at k (x ∷ xs) ≡ first_or
    (if is_change_of k x then Some x.at else None) (first_at k xs)
unfolding first_at
first_at_more k x xs = one_before (is_change_of k x) x.at (first_at k xs)

first_at_none : (k : ℕ) → first_at k [] ≡ None
unfolding first_at
first_at_none k = refl

module _ (xs : List Change) (i : ℕ) (firsts : List (Option ℕ)) where
  pub filled_next : (x : Change) (new : List (Option ℕ)) → i < length xs → x ≡ get_or xs i x → Filled xs i firsts
      → ((k : ℕ) → get_or new k None ≡ first_or (get_or firsts k None) (if is_change_of k x then Some x.at else None))
      → Filled xs (i + 1) new
  filled_next x new lt at r noted = record {
    rest =
        λ k.
        r.rest k
        ∙ ap (λ l. first_or (get_or firsts k None) (first_at k l)) (drop-cons xs i x lt)
        ∙ ap (λ y. first_or (get_or firsts k None) (first_at k (y ∷ drop (suc i) xs))) (sym at)
        ∙ ap (first_or (get_or firsts k None)) (first_at_more k x (drop (suc i) xs))
        ∙ first_or_three (get_or firsts k None) (if is_change_of k x then Some x.at else None)
        (first_at k (drop (suc i) xs))
        ∙ ap (λ o. first_or o (first_at k (drop (suc i) xs))) (sym (noted k))
        ∙ (let n : suc i ≡ i + 1 = omega arith in ap (λ m. first_or (get_or new k None) (first_at k (drop m xs))) n);
  }

  pub filled_end : length xs ≤ i → Filled xs i firsts → (k : ℕ) → get_or firsts k None ≡ first_at k xs
  filled_end le r k =
      sym (r.rest k ∙ ap (λ l. first_or (get_or firsts k None) (first_at k l)) (drop_all i xs le)
      ∙ ap (first_or (get_or firsts k None)) (first_at_none k) ∙ first_or_none (get_or firsts k None))
