use Rattle.std.proofs.Common.{[], sym, ◌∙◌}
use Rattle.tac_pass.specs.Walk.{spot}
use Rattle.tac_pass.proofs.Walks.{walked_none}
use Rattle.tac_pass.proofs.walk.begin.Goals as goal

pub returns : goal.returns
returns c =
    λ t body. walked_none c.args.way.now.routine c.args.way.now.minded.now c.args.way.now.steps.now
    c.args.way.now.starts.now body (spot c.join_in.new.rows []) (sym c.begins.ensures ∙ c.if-not-begins.false)
    (c.join_in.ensures c.if-not-join_in.false) (c.is_there.ensures t)
