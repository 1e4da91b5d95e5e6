-- A loop that looks for the greatest height of a list, stopped at a limit.
use Rattle.std.proofs.Common.{◌≡◌, ℕ, suc, ◌+◌, ◌<◌, ◌≤◌, List, length, drop, get_or, map, min, max, sym, ap, ◌∙◌}
use Rattle.std.proofs.Common.{arith}
use Rattle.std.proofs.Math.Seq.{drop-cons}
use Rattle.std.proofs.lemmas.List.{drop_all}
use Rattle.ps_syntax.specs.Height.{greatest}

-- the loop has reached index i, and the greatest so far is most
pub record Reached {A : Type 0} (limit : ℕ) (h : A → ℕ) (xs : List A) (i most : ℕ) : Type 0 where
  pub rest : max most (min (greatest (map h (drop i xs))) limit) ≡ min (greatest (map h xs)) limit

module _ {A : Type 0} (limit : ℕ) (h : A → ℕ) (xs : List A) where
  pub reached_start : Reached limit h xs 0 0
  reached_start = record { rest = omega arith }

  pub reached_next : (i most : ℕ) (x : A) (n : ℕ) → i < length xs → x ≡ get_or xs i x → Reached limit h xs i most → n
      ≡ min (h x) limit → Reached limit h xs (i + 1) (max most n)
  reached_next i most x n below at r e = record {
    rest =
        let here : greatest (map h (drop i xs)) ≡ max (h x) (greatest (map h (drop (suc i) xs))) =
        ap (λ l. greatest (map h l)) (drop-cons xs i x below) ∙ ap (λ y. max (h y) (greatest (map h (drop (suc i) xs))))
        (sym at) in
        let next : greatest (map h (drop (suc i) xs)) ≡ greatest (map h (drop (i + 1) xs)) =
        (let n' : suc i ≡ i + 1 = omega arith in ap (λ k. greatest (map h (drop k xs))) n') in
        omega (arith, r.rest, here, next, e);
  }

  pub reached_end : (i most : ℕ) → length xs ≤ i → Reached limit h xs i most → most ≡ min (greatest (map h xs)) limit
  reached_end i most over r =
      let nothing : greatest (map h (drop i xs)) ≡ 0 = ap (λ l. greatest (map h l)) (drop_all i xs over) in
      omega (arith, r.rest, nothing)
