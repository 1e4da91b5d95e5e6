use Rattle.ps_tree.specs.Tree.{ValueFormal}
use Rattle.ps_tree.specs.View.{type_of}
use Rattle.ps_check.proofs.FormalLemmas.{Pushed}
use Rattle.ps_check.proofs.formals.add_values.Given as goal

abbrev pub invariant-loop : goal.invariant-loop
invariant-loop l = Pushed l.fn.formals.items l.counter (ValueFormal (type_of l.ty)) l.formals.items
