use Rattle.ps_check_names.proofs.WideLemmas.{GreatestTo}
use Rattle.ps_check_names.proofs.wides.greatest.Given as goal

-- the numbers so far
abbrev pub invariant-loop-i : goal.invariant-loop-i
invariant-loop-i l = GreatestTo l.numbers l.i l.reach
