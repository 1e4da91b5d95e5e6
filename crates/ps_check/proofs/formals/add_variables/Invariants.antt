use Rattle.ps_tree.specs.Tree.{VariableFormal}
use Rattle.ps_tree.specs.View.{type_of}
use Rattle.ps_check.proofs.FormalLemmas.{Pushed}
use Rattle.ps_check.proofs.formals.add_variables.Given as goal

abbrev pub invariant-loop : goal.invariant-loop
invariant-loop l = Pushed l.fn.formals.items l.counter (VariableFormal (type_of l.ty)) l.formals.items
