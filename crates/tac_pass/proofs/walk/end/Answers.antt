use Rattle.std.proofs.Common.{◌≡◌, Some}
use Rattle.tac_pass.specs.Acts.{ending}
use Rattle.tac_pass.proofs.Placing.{if_some, ended_becomes}
use Rattle.tac_pass.proofs.walk.end.Goals as goal

pub returns : goal.returns
returns c =
    λ t. ended_becomes c.args.way.now.routine c.args.way.now.minded.now c.args.way.now.steps.now
    c.args.way.now.starts.now c.args.place c.args.instruction.now c.args.rows.now c.joins_anew.new.rows
    c.args.out.now.items c.push.new.self.items c.in-Some.new_one c.in_ok-push.ensures.items
    (if_some (λ new_one. ending c.args.way.now.routine c.args.way.now.minded.now c.args.rows.now
    c.args.instruction.now ≡ Some new_one) c.ending.result c.in-Some.new_one c.in-Some.is
    (c.ending.ensures c.args.way.now.routine c.args.way.now.minded.now)) (c.joins_anew.ensures t)
