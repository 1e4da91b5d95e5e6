use Rattle.std.proofs.Common.{arith}
use Rattle.ps_tree.proofs.FormalLemmas.{limits_of}
use Rattle.ps_tree.proofs.program.are_within_limits.Goals as goal

pub returns-then-are_small : goal.returns-then-are_small
returns-then-are_small c = grind (arith, limits_of)
