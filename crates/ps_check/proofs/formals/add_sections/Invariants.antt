use Rattle.ps_check.specs.Views.{entries_of}
use Rattle.ps_check.proofs.FormalLemmas.{Entered}
use Rattle.ps_check.proofs.formals.add_sections.Given as goal

abbrev pub invariant-loop-section : goal.invariant-loop-section
invariant-loop-section l = Entered l.at (entries_of l.fn.entry l.fn.known.items) l.sections l.section-index
    (entries_of l.next l.known.items)
