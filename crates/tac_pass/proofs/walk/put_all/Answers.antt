use Rattle.tac_pass.proofs.Placing.{if_some, put_more}
use Rattle.tac_pass.proofs.walk.put_all.Goals as goal

pub loop-at-preserved : goal.loop-at-preserved
loop-at-preserved c =
    λ r. put_more r c.args.minded.now c.args.rows.now c.args.out.now.items c.loop-at.at c.loop-at.rows c.put_in.new.rows
    c.loop-at.out.items c.push.new.self.items _ c.in-Some.instruction (c.loop-at.invariant r)
    (if_some _ c.put_in.result c.in-Some.instruction c.in-Some.is (c.put_in.ensures r)) c.in_ok-push.ensures.items
