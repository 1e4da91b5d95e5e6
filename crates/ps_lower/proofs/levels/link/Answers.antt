use Rattle.std.proofs.Common.{◌-◌, refl, sym, ◌∙◌}
use Rattle.ps_lower.specs.Levels.{scope_of}
use Rattle.ps_lower.proofs.Hopping.{own_link, outer_link, between_link}
use Rattle.ps_lower.proofs.levels.link.Goals as goal

pub returns-then-up-eq0 : goal.returns-then-up-eq0
returns-then-up-eq0 c = own_link (scope_of c.args.level.now) c.args.t c.args.up c.offset.result c.args.out.now
    c.offset.new.self c.if-up-eq0.true c.offset.ensures

pub returns-then-is_outermost : goal.returns-then-is_outermost
returns-then-is_outermost c = outer_link (scope_of c.args.level.now) c.args.t c.args.up
    c.offset-then-is_outermost.result c.args.out.now c.offset-then-is_outermost.new.self c.if-up-eq0.false
    (sym c.if-is_outermost.true ∙ c.is_outermost.ensures) c.offset-then-is_outermost.ensures

pub returns : goal.returns
returns c = between_link (scope_of c.args.level.now) c.args.t c.args.up
    (c.args.up - 1) c.way_out.result c.args.out.now c.load.new.self c.way_out.new.out c.if-up-eq0.false
    (sym c.if-is_outermost.false ∙ c.is_outermost.ensures) refl c.in_ok-load.ensures c.way_out.ensures
