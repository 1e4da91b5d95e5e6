use Rattle.std.proofs.Common.{ap, ◌∙◌}
use Rattle.ps_tree.specs.View.{expr_of, width_of}
use Rattle.ps_lower_code.specs.Scopes.{held}
use Rattle.ps_lower.specs.Levels.{scope_of}
use Rattle.ps_lower.proofs.Strings.{truth_made}
use Rattle.ps_lower.proofs.writes.write_truth.Goals as goal

pub returns : goal.returns
returns c =
    truth_made (scope_of c.args.level.now) (expr_of c.args.e.now)
    (width_of c.args.given.now) c.args.d c.held-t.result c.even_above-w.result c.beside-string.result
    c.beside-size.result c.even_from.result c.help.result c.help.new.out c.truth_text.new.out c.width.new.out
    c.value.new.out c.args.out.now
    (c.held-t.ensures.value ∙ ap (λ b. held b c.args.d) c.width_calls.ensures) c.even_above-w.ensures.value
    c.beside-string.ensures.value c.beside-size.ensures.value c.even_from.ensures.value c.in_ok-value.ensures
    c.in_ok-width.ensures (c.in_ok-truth_text.ensures (scope_of c.args.level.now)) c.help.ensures
