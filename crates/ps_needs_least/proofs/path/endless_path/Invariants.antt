use Rattle.ps_needs_least.proofs.Telling.{Turned, unseen}
use Rattle.ps_needs_least.proofs.path.endless_path.Given as goal

abbrev pub invariant-calls : goal.invariant-calls
invariant-calls l = Turned l.nodes l.depths l.seen.items l.path.items l.routine

abbrev pub decreases-calls : goal.decreases-calls
decreases-calls l = unseen l.seen.items
