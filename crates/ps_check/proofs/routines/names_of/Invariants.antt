use Rattle.std.proofs.Common.{[]}
use Rattle.ps_check.proofs.Lists.{Named}
use Rattle.ps_check.proofs.routines.names_of.Given as goal

abbrev pub invariant-loop-name : goal.invariant-loop-name
invariant-loop-name l = Named (λ name. name.items) [] l.list l.name-index l.names
