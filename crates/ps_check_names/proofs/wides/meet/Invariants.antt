use Rattle.ps_check_names.proofs.WideLemmas.{ApartTo}
use Rattle.ps_check_names.proofs.wides.meet.Given as goal

-- no number in the words so far is in both sets
abbrev pub invariant-loop-i : goal.invariant-loop-i
invariant-loop-i l = ApartTo l.kind l.present l.i
