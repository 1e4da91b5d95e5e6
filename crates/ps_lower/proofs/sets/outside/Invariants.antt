use Rattle.std.proofs.Common.{◌≡◌, ◌≤◌, ◌++◌}
use Rattle.ps_lower_code.specs.Values.{outside_code}
use Rattle.ps_lower.proofs.sets.outside.Given as goal

abbrev pub invariant-loop-word : goal.invariant-loop-word
invariant-loop-word l = (l.word ≤ 8) × (l.out ≡ l.fn.out ++ outside_code l.low l.high l.t l.x l.word)
