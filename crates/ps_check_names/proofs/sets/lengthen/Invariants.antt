use Rattle.std.proofs.Common.{◌≡◌, ◌+◌, ◌-◌, ℕ, length, get_or}
use Rattle.ps_check_names.proofs.sets.lengthen.Given as goal

-- no number is changed so far
abbrev pub invariant-loop-numbers : goal.invariant-loop-numbers
invariant-loop-numbers l = (n : ℕ) → get_or l.numbers.items n 0 ≡ get_or l.fn.numbers.items n 0

abbrev pub decreases-loop-numbers : goal.decreases-loop-numbers
decreases-loop-numbers l = l.index + 1 - length l.numbers.items
