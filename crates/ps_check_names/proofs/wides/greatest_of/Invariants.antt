use Rattle.ps_check_names.proofs.WideLemmas.{LeftIn}
use Rattle.ps_check_names.proofs.wides.greatest_of.Given as goal

-- the numbers of the bits that are cleared
abbrev pub invariant-loop-rest : goal.invariant-loop-rest
invariant-loop-rest l = LeftIn l.word l.numbers l.rest l.reach

abbrev pub decreases-loop-rest : goal.decreases-loop-rest
decreases-loop-rest l = l.rest
