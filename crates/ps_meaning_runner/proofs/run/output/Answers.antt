use Rattle.std.proofs.Common.{arith}
use Rattle.ps_meaning_runner.proofs.Runs.{neither_byte_nor_mark, shown_byte}
use Rattle.ps_meaning_runner.proofs.run.output.Goals as goal

pub loop-item-preserved : goal.loop-item-preserved
loop-item-preserved c = grind (arith, shown_byte)

pub returns-in_default-clause-refused : goal.returns-in_default-clause-refused
returns-in_default-clause-refused c = grind (arith, neither_byte_nor_mark)
