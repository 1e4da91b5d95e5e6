use Rattle.ps_needs_least.proofs.Telling.{Walked}
use Rattle.ps_needs_least.proofs.path.dearest_path.Given as goal

abbrev pub invariant-calls : goal.invariant-calls
invariant-calls l = Walked l.nodes l.frames l.depths l.bytes l.path.items l.routine l.left

abbrev pub decreases-calls : goal.decreases-calls
decreases-calls l = l.left
