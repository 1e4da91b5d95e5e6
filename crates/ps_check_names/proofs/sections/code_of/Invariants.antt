use Rattle.ps_check_names.proofs.CodeLemmas.{Coded}
use Rattle.ps_check_names.proofs.sections.code_of.Given as goal

abbrev pub invariant-loop-section : goal.invariant-loop-section
invariant-loop-section l = Coded l.list l.section-index l.words.items
