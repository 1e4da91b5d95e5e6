use Rattle.tac_rt.proofs.Integers.{reads_numbers}
use Rattle.tac_rt.proofs.laws.reads_numbers.Goals as goal

pub returns : goal.returns
returns c = reads_numbers
