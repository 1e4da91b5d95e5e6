use Rattle.ps_tree.specs.View.{type_of}
use Rattle.ps_check.specs.Views.{entries_of}
use Rattle.ps_check.proofs.FormalLemmas.{Repeated}
use Rattle.ps_check.proofs.formals.add_parameters.Given as goal

abbrev pub invariant-loop : goal.invariant-loop
invariant-loop l = Repeated l.at (type_of l.ty) l.count (entries_of l.fn.entry l.fn.known.items) l.counter
    (entries_of l.next l.known.items)
