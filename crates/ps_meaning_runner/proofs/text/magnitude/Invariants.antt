use Rattle.std.proofs.Common.{◌≡◌, ◌^◌, min, take}
use Rattle.ps_meaning.specs.Text.{number_written}
use Rattle.ps_meaning_runner.proofs.text.magnitude.Given as goal

abbrev pub invariant-loop-digit : goal.invariant-loop-digit
invariant-loop-digit l = l.sum ≡ min (number_written 0 (take l.digit-index l.written)) (2 ^ 32)
