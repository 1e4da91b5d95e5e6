use Rattle.std.proofs.Common.{◌≢◌, ◌<◌, ℕ, get_or}
use Rattle.ps_needs_least.specs.declared.uses.Use.TheVariants.{ParameterCalled}
use Rattle.ps_needs_least.specs.Settled.{depth_of}
use Rattle.ps_needs_least.proofs.path.first_use.Given as goal

abbrev pub invariant-loop-part : goal.invariant-loop-part
invariant-loop-part l = (k : ℕ) → k < l.part-index → depth_of l.depths (get_or l.uses k ParameterCalled) ≢ l.wanted
