use Rattle.ps_needs_least.proofs.Walking.{Tried}
use Rattle.ps_needs_least.proofs.depths.settle_each.Given as goal

abbrev pub invariant-loop-node : goal.invariant-loop-node
invariant-loop-node l = Tried l.nodes l.frames l.fn.depths.items l.node l.depths.items l.changed
