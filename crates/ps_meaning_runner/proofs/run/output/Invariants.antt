use Rattle.std.proofs.Common.{◌≡◌, take}
use Rattle.behavior.specs.Transcripts.{output}
use Rattle.ps_meaning_runner.proofs.run.output.Given as goal

abbrev pub invariant-loop-item : goal.invariant-loop-item
invariant-loop-item l = l.bytes.items ≡ output (take l.item-index l.transcript)
