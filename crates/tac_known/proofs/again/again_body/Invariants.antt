use Rattle.tac_known.proofs.AgainWalked.{WalkedTo}
use Rattle.tac_known.proofs.again.again_body.Given as goal

abbrev pub invariant-loop-place : goal.invariant-loop-place
invariant-loop-place l = WalkedTo l.marks.items l.fn.body l.place l.body l.standing
