use Rattle.std.proofs.Common.{ap, ◌∙◌}
use Rattle.ps_tree.specs.View.{place_of, expr_of}
use Rattle.ps_lower_code.specs.Scopes.{kept}
use Rattle.ps_lower.specs.Levels.{scope_of, site_of}
use Rattle.ps_lower.proofs.Placing.{assign_told}
use Rattle.ps_lower.proofs.assign.assign.Goals as goal

pub returns : goal.returns
returns c =
    assign_told (scope_of c.args.level.now) (place_of c.args.target.now) c.args.range
    (expr_of c.args.e.now) c.args.line.number c.args.d c.kept-t.result c.place_temporary.result c.even_above-at.result
    (site_of c.in_ok-site.site) c.gives_byte.result c.literal.result c.is_byte.result c.keep.result c.keep.new.out
    c.fitting.new.out c.value.new.out c.place.new.out c.args.out.now
    (c.kept-t.ensures.value ∙ ap (λ b. kept b c.args.d) c.expr_calls.ensures) c.place_temporary.ensures.value
    c.even_above-at.ensures.value c.in_ok-site.ensures.code c.in_ok-site.ensures.site c.is_byte.ensures
    c.in_ok-value.ensures c.gives_byte.ensures c.literal.ensures c.in_ok-fitting.ensures c.keep.ensures
