-- Sums of costs.
use Rattle.std.proofs.Common.{◌≡◌, ℕ, ◌+◌, ◌<◌, List, [], ◌∷◌, length, get_or, take, refl, arith}
use Rattle.std.specs.List.{sum_by}
use Rattle.std.proofs.lemmas.List.Sums.{sum_by-cons, sum_by_more, sum_by-take-le}

-- what is left of the budget is less than the next cost
pub passed_at : (costs numbers : List ℕ) (i left cost budget : ℕ) → left + sum_by (λ n. get_or costs n 0)
    (take i numbers) ≡ budget → cost ≡ get_or costs (get_or numbers i 0) 0 → left < cost → i < length numbers
    → budget < sum_by (λ n. get_or costs n 0) numbers
passed_at costs numbers i left cost budget spent is less lt =
    omega (
      arith,
      sum_by_more (λ n. get_or costs n 0) numbers i 0 lt,
      sum_by-take-le (λ n. get_or costs n 0) numbers
          (i + 1),
    )

-- where no costs are listed there are none
pub free_of_cost : (costs numbers : List ℕ) → length costs ≡ 0 → sum_by (λ n. get_or costs n 0) numbers ≡ 0
free_of_cost costs [] none = refl
free_of_cost [] (n ∷ rest) none = omega (arith, sum_by-cons (λ n. get_or [] n 0) n rest, free_of_cost [] rest refl)
free_of_cost (c ∷ costs) (n ∷ rest) none = absurd (omega arith)
