-- The text has tokens, these a tree, and this a checked program.
use Rattle.std.proofs.Common.{refl, sym, subst, ◌∙◌}
use Rattle.ps_text.specs.Lines.{IsSource}
use Rattle.ps_scan.specs.Lexis.{IsTokens}
use Rattle.ps_scan.proofs.OneAnswer.{tokens_only}
use Rattle.ps_tree.specs.Checked.{program_in}
use Rattle.ps_check.specs.Checked.{IsChecked}
use Rattle.ps_check.specs.Programs.{program}
use Rattle.ps_build.specs.Accepts.{IsProgramOf}
use Rattle.ps_build.proofs.Compiled.{program_of_text}
use Rattle.ps_needs_image.proofs.again.read_again.Goals as goal

pub returns-in-Ok-Ok : goal.returns-in-Ok-Ok
returns-in-Ok-Ok c =
    let source = c.in-Ok.ensures.source in
    let tokens = c.deref.ensures.value in
    subst (λ text. IsProgramOf text (program_in c.in-Ok-Ok.checked)) source (
    program_of_text
    c.in-Ok.source
    c.deref.result.now
    c.in-Ok-parse.tree
    (subst IsSource (sym source) (c.in-Ok.ensures.accepted.0 refl))
    (subst (λ ts. IsTokens c.in-Ok.source ts) (sym tokens) c.in-Ok-scan.ensures)
    (λ other h. tokens_only _ _ other c.in-Ok-scan.ensures h ∙ sym tokens)
    c.in-Ok-parse.ensures.derives
    c.in-Ok-parse.ensures.only
    (program_in c.in-Ok-Ok.checked)
    (subst (λ r. IsChecked c.in-Ok.source (program c.in-Ok.source c.in-Ok-parse.tree) r) c.in-Ok-Ok.is-0
    c.check-checked.ensures)
    )
