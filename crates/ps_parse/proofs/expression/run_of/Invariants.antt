use Rattle.std.proofs.Common.{◌≡◌, ℕ, ◌<◌, ◌≤◌, true, drop}
use Rattle.ps_parse.specs.Steps.{sees}
use Rattle.ps_parse.proofs.expression.run_of.Given as goal

abbrev pub invariant-loop-count : goal.invariant-loop-count
invariant-loop-count l =
    (l.count ≤ l.most) × ((i : ℕ) → i < l.count → sees l.kind (drop i l.tokens) ≡ true)
