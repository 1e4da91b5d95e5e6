use Rattle.ps_check_declarations.proofs.HidingLemmas.{Entering}
use Rattle.ps_check_declarations.proofs.hiding.add_all.Given as goal

abbrev pub invariant-loop-name : goal.invariant-loop-name
invariant-loop-name l = Entering (λ v. v.items) l.fn.hiding l.names l.name-index l.hiding
