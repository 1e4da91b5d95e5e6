use Rattle.std.proofs.Common.{◌-◌, refl, sym, ◌∙◌}
use Rattle.ps_lower.specs.Levels.{scope_of}
use Rattle.ps_lower.proofs.Hopping.{own_code, own_base, outer_code, outer_base, between_code, between_base}
use Rattle.ps_lower.proofs.levels.frame.Goals as goal

pub returns-then-up-eq0-clause-code : goal.returns-then-up-eq0-clause-code
returns-then-up-eq0-clause-code c = own_code (scope_of c.args.level.now) c.args.t c.args.up c.args.out.now
    c.if-up-eq0.true

pub returns-then-up-eq0-clause-base : goal.returns-then-up-eq0-clause-base
returns-then-up-eq0-clause-base c = own_base (scope_of c.args.level.now) c.args.t c.args.up c.if-up-eq0.true

pub returns-then-is_outermost-clause-code : goal.returns-then-is_outermost-clause-code
returns-then-is_outermost-clause-code c = outer_code
    (scope_of c.args.level.now) c.args.t c.args.up c.args.out.now c.if-up-eq0.false
    (sym c.if-is_outermost.true ∙ c.is_outermost.ensures)

pub returns-then-is_outermost-clause-base : goal.returns-then-is_outermost-clause-base
returns-then-is_outermost-clause-base c = outer_base (scope_of c.args.level.now) c.args.t c.args.up c.if-up-eq0.false
    (sym c.if-is_outermost.true ∙ c.is_outermost.ensures)

pub returns-clause-code : goal.returns-clause-code
returns-clause-code c = between_code (scope_of c.args.level.now) c.args.t c.args.up
    (c.args.up - 1) c.args.out.now c.load.new.self c.way_out.new.out c.if-up-eq0.false
    (sym c.if-is_outermost.false ∙ c.is_outermost.ensures) refl c.in_ok-load.ensures c.in_ok-way_out.ensures

pub returns-clause-base : goal.returns-clause-base
returns-clause-base c = between_base (scope_of c.args.level.now) c.args.t c.args.up c.if-up-eq0.false
    (sym c.if-is_outermost.false ∙ c.is_outermost.ensures)
