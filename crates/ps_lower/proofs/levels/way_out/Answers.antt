use Rattle.std.proofs.Common.{sym, ◌∙◌}
use Rattle.ps_lower.specs.Levels.{scope_of}
use Rattle.ps_lower.proofs.Hopping.{far_way, near_way}
use Rattle.ps_lower.proofs.levels.way_out.Goals as goal

pub returns-then-is_far : goal.returns-then-is_far
returns-then-is_far c = far_way (scope_of c.args.level.now) c.args.t c.args.count c.hops_in_turns.result c.args.out.now
    c.hops_in_turns.new.out (sym c.if-is_far.true ∙ c.is_far.ensures.far) c.hops_in_turns.ensures

pub returns-else-is_far : goal.returns-else-is_far
returns-else-is_far c = near_way (scope_of c.args.level.now) c.args.t c.args.count c.hops.result c.args.out.now
    c.hops.new.out (sym c.if-is_far.false ∙ c.is_far.ensures.far) c.hops.ensures
