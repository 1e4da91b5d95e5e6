use Rattle.ps_lower_code.specs.Programs.{in_list}
use Rattle.ps_lower.proofs.Largest.{Largest}
use Rattle.ps_lower.proofs.count.in_list.Given as goal

abbrev pub invariant-loop-t : goal.invariant-loop-t
invariant-loop-t l = Largest in_list l.list l.t-index l.most
