use Rattle.std.proofs.Common.{arith}
use Rattle.ps_tree.proofs.DropLemmas.{deepest_left, deepest_taken}
use Rattle.ps_tree.proofs.types.sizes.take_largest.Goals as goal

pub returns-then-place-len-clause-rest : goal.returns-then-place-len-clause-rest
returns-then-place-len-clause-rest c = grind (arith, deepest_left)

pub returns-then-place-len-clause-largest : goal.returns-then-place-len-clause-largest
returns-then-place-len-clause-largest c = grind (arith, deepest_taken)
