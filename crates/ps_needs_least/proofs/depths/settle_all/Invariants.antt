use Rattle.std.proofs.Common.{◌≡◌, length}
use Rattle.ps_needs_least.specs.Settled.{undone, Sound}
use Rattle.ps_needs_least.proofs.depths.settle_all.Given as goal

abbrev pub invariant-rounds : goal.invariant-rounds
invariant-rounds l = Sound l.nodes l.frames l.depths.items × (length l.depths.items ≡ length l.fn.depths.items)

abbrev pub decreases-rounds : goal.decreases-rounds
decreases-rounds l = undone l.depths.items
