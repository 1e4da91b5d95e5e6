use Rattle.std.proofs.Common.{arith}
use Rattle.ps_meaning_runner.proofs.Procedures.{replaced_end, replaced_next, replaced_past}
use Rattle.ps_meaning_runner.proofs.required.with_values.Goals as goal

pub loop-new-preserved : goal.loop-new-preserved
loop-new-preserved c = grind (arith, replaced_next)

pub returns-then-len-place : goal.returns-then-len-place
returns-then-len-place c = grind (arith, replaced_past)

pub returns : goal.returns
returns c = grind (arith, replaced_end)
