use Rattle.std.proofs.Common.{arith}
use Rattle.ps_tree.proofs.CoreLemmas.{kept_end}
use Rattle.ps_tree.proofs.types.cores.cores_of_all.Goals as goal

pub returns : goal.returns
returns c = grind (arith, kept_end)
