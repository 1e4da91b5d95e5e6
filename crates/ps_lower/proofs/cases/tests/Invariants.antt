use Rattle.ps_lower.proofs.Elements.{Testing}
use Rattle.ps_lower.proofs.cases.tests.Given as goal

abbrev pub invariant-loop-constant : goal.invariant-loop-constant
invariant-loop-constant l = Testing l.d l.fn.out l.constants l.constant-index l.others l.out
