use Rattle.ps_tree.proofs.CodeLemmas.{NamesWritten}
use Rattle.ps_tree.proofs.names.code_of.Given as goal

abbrev pub invariant-loop-name : goal.invariant-loop-name
invariant-loop-name l = NamesWritten (λ v. v.items) l.names l.name-index l.code.items
