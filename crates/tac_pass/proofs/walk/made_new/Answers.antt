use Rattle.std.proofs.Common.{inr}
use Rattle.tac_pass.proofs.Placing.{some_on}
use Rattle.tac_pass.proofs.walk.made_new.Goals as goal

pub returns-in-Move : goal.returns-in-Move
returns-in-Move c =
    some_on _ _ c.moved.result (λ new_one h. (c.in-Move.to, inr h)) (c.moved.ensures c.args.way.now.routine)
