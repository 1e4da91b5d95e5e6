use Rattle.tac_known.proofs.Walked.{WalkedTo}
use Rattle.tac_known.proofs.walk.lean_body.Given as goal

abbrev pub invariant-loop-place : goal.invariant-loop-place
invariant-loop-place l = WalkedTo l.temporaries l.claims l.order_claims l.fn.body l.place l.body l.kinds l.orders
