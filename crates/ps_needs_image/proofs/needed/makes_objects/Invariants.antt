use Rattle.std.proofs.Common.{◌≢◌, ℕ, ◌<◌, slice_get, IfSome}
use Rattle.ps_needs_image.proofs.needed.makes_objects.Given as goal

abbrev pub invariant-loop-k : goal.invariant-loop-k
invariant-loop-k l = (j : ℕ) → j < l.k → IfSome (slice_get l.image.traps j) (λ row. row.error ≢ 13)
