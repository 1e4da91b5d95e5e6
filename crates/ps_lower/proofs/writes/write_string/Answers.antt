use Rattle.std.proofs.Common.{ap, ◌∙◌}
use Rattle.ps_tree.specs.View.{structure_of, width_of}
use Rattle.ps_lower_code.specs.Scopes.{held}
use Rattle.ps_lower.specs.Levels.{scope_of}
use Rattle.ps_lower.proofs.Strings.{string_made}
use Rattle.ps_lower.proofs.writes.write_string.Goals as goal

pub returns : goal.returns
returns c =
    string_made (scope_of c.args.level.now) (structure_of c.args.e.now)
    (width_of c.args.given.now) c.text_length-length.result c.args.d c.held-t.result c.even_above-w.result
    c.beside-size.result c.even_from.result c.help.result c.help.new.out c.amount.new.out c.width.new.out
    c.structure.new.out c.args.out.now
    c.text_length-length.ensures (c.held-t.ensures.value ∙ ap (λ b. held b c.args.d) c.width_calls.ensures)
    c.even_above-w.ensures.value c.beside-size.ensures.value c.even_from.ensures.value c.in_ok-structure.ensures
    c.in_ok-width.ensures c.in_ok-amount.ensures c.help.ensures
