use Rattle.std.proofs.Common.{◌≡◌, replicate}
use Rattle.ps_meaning_runner.proofs.text.right_aligned.Given as goal

abbrev pub invariant-loop-space : goal.invariant-loop-space
invariant-loop-space l = l.field.items ≡ replicate l._space 32
