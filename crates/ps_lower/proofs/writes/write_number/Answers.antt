use Rattle.std.proofs.Common.{ap, ◌∙◌}
use Rattle.ps_tree.specs.View.{expr_of, width_of}
use Rattle.tac_rt.specs.declared.run_time.RunTime.TheVariants.{WriteNumber}
use Rattle.ps_lower_code.specs.Scopes.{held}
use Rattle.ps_lower.specs.Levels.{scope_of}
use Rattle.ps_lower.proofs.Rows.{write_made}
use Rattle.ps_lower.proofs.writes.write_number.Goals as goal

pub returns : goal.returns
returns c =
    write_made (scope_of c.args.level.now) (expr_of c.args.e.now)
    (width_of c.args.given.now) 11 WriteNumber c.args.d c.held-t.result c.even_above-w.result c.even_from.result
    c.help.result c.help.new.out c.width.new.out c.value.new.out c.args.out.now
    (c.held-t.ensures.value ∙ ap (λ b. held b c.args.d) c.width_calls.ensures) c.even_above-w.ensures.value
    c.even_from.ensures.value c.in_ok-value.ensures c.in_ok-width.ensures c.help.ensures
