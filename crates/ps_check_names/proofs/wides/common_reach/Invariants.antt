use Rattle.ps_check_names.proofs.WideLemmas.{CommonTo}
use Rattle.ps_check_names.proofs.wides.common_reach.Given as goal

-- the numbers of what is in both sets in the words so far
abbrev pub invariant-loop-i : goal.invariant-loop-i
invariant-loop-i l = CommonTo l.kind l.present l.latest l.i l.reach
