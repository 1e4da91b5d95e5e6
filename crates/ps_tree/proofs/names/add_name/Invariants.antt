use Rattle.ps_tree.proofs.CodeLemmas.{NameWritten}
use Rattle.ps_tree.proofs.names.add_name.Given as goal

abbrev pub invariant-loop-byte : goal.invariant-loop-byte
invariant-loop-byte l = NameWritten l.fn.code.items l.name l.byte-index l.code.items
