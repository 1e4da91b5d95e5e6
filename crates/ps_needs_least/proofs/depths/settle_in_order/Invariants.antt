use Rattle.std.proofs.Common.{◌≡◌, length}
use Rattle.ps_needs_least.specs.Settled.{Sound}
use Rattle.ps_needs_least.proofs.depths.settle_in_order.Given as goal

abbrev pub invariant-loop-node : goal.invariant-loop-node
invariant-loop-node l = Sound l.nodes l.frames l.depths.items × (length l.depths.items ≡ length l.fn.depths.items)
