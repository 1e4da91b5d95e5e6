-- The text has tokens, these a tree, and this a checked program; or one of them is missing.
use Rattle.std.proofs.Common.{rules, refl, sym, subst, ◌∙◌}
use Rattle.ps_text.specs.Lines.{IsSource}
use Rattle.ps_scan.specs.Lexis.{IsTokens}
use Rattle.ps_parse_grammar.specs.Trees.{IsTreeOf}
use Rattle.ps_scan.proofs.OneAnswer.{tokens_only}
use Rattle.ps_build.specs.Refusals.{of_scan, of_parse, of_check}
use Rattle.ps_tree.specs.Checked.{program_in}
use Rattle.ps_build.specs.Accepts.{IsProgramOf, IsRefused}
use Rattle.ps_build.proofs.Compiled.{program_of_text, no_tokens, no_tree, no_program, IsFaultyOrMemory, text_refused}
use Rattle.ps_build.proofs.Compiled.{tokens_refused, faulty_tree, faulty_program}
use Rattle.ps_build.proofs.built.program_of.Goals as goal

pub returns-in_err-tokens-clause-err : goal.returns-in_err-tokens-clause-err
returns-in_err-tokens-clause-err c =
    let source = c.in_ok-source.ensures.source in
    let limits : IsSource c.in_ok-source.source = subst IsSource (sym source) (c.in_ok-source.ensures.accepted.0 refl)
    in
    let told : IsRefused c.args.text.now (of_scan c.in_err-tokens.field-0.0) =
    subst (λ text. IsRefused text (of_scan c.in_err-tokens.field-0.0)) source
    (no_tokens c.in_ok-source.source limits c.in_err-tokens.field-0.0 c.in_err-tokens.ensures) in
    search rules

pub returns-in-Err-clause-err : goal.returns-in-Err-clause-err
returns-in-Err-clause-err c =
    let source = c.in_ok-source.ensures.source in
    let tokens = c.deref.ensures.value in
    subst (λ r. IsRefused c.args.text.now r) (sym c.from.ensures) (
    subst (λ text. IsRefused text (of_parse c.in-Err.refusal)) source (
    no_tree
    c.in_ok-source.source
    c.deref.result.now
    (subst IsSource (sym source) (c.in_ok-source.ensures.accepted.0 refl))
    (subst (λ ts. IsTokens c.in_ok-source.source ts) (sym tokens) c.in_ok-tokens.ensures)
    (λ other h. tokens_only _ _ other c.in_ok-tokens.ensures h ∙ sym tokens)
    c.in-Err.refusal
    c.in-Err.ensures.told
    )
    )

pub returns-clause-err : goal.returns-clause-err
returns-clause-err c =
    let source = c.in_ok-source.ensures.source in
    let tokens = c.deref-in-Err-checked.ensures.value in
    let same = c.deref.ensures.value ∙ sym tokens in
    subst (λ r. IsRefused c.args.text.now r) (sym c.of_check.ensures) (
    subst (λ text. IsRefused text (of_check c.deref-in-Err-checked.result.now c.in-Err-checked.refusal)) source (
    no_program
    c.in_ok-source.source
    c.deref-in-Err-checked.result.now
    c.in-Ok.tree
    (subst IsSource (sym source) (c.in_ok-source.ensures.accepted.0 refl))
    (subst (λ ts. IsTokens c.in_ok-source.source ts) (sym tokens) c.in_ok-tokens.ensures)
    (λ other h. tokens_only _ _ other c.in_ok-tokens.ensures h ∙ sym tokens)
    (subst (λ ts. IsTreeOf c.in_ok-source.source ts c.in-Ok.tree) same c.in-Ok.ensures.derives)
    (λ other h. c.in-Ok.ensures.only other (subst (λ ts. IsTreeOf c.in_ok-source.source ts other) (sym same) h))
    c.in-Err-checked.refusal
    c.in-Err-checked.ensures
    )
    )

pub returns-in-Ok-checked-clause-ok : goal.returns-in-Ok-checked-clause-ok
returns-in-Ok-checked-clause-ok c =
    let source = c.in_ok-source.ensures.source in
    let tokens = c.deref.ensures.value in
    subst (λ text. IsProgramOf text (program_in c.in-Ok-checked.checked)) source (
    program_of_text
    c.in_ok-source.source
    c.deref.result.now
    c.in-Ok.tree
    (subst IsSource (sym source) (c.in_ok-source.ensures.accepted.0 refl))
    (subst (λ ts. IsTokens c.in_ok-source.source ts) (sym tokens) c.in_ok-tokens.ensures)
    (λ other h. tokens_only _ _ other c.in_ok-tokens.ensures h ∙ sym tokens)
    c.in-Ok.ensures.derives
    c.in-Ok.ensures.only
    (program_in c.in-Ok-checked.checked)
    c.in-Ok-checked.ensures
    )

pub returns-in_err-source-clause-faulty : goal.returns-in_err-source-clause-faulty
returns-in_err-source-clause-faulty c = text_refused c.from_residual.result _ c.from_residual.ensures.1

pub returns-in_err-tokens-clause-faulty : goal.returns-in_err-tokens-clause-faulty
returns-in_err-tokens-clause-faulty c = tokens_refused c.from_residual-in_err-tokens.result _
    c.from_residual-in_err-tokens.ensures.1

pub returns-in-Err-clause-faulty : goal.returns-in-Err-clause-faulty
returns-in-Err-clause-faulty c = subst IsFaultyOrMemory (sym c.from.ensures) (faulty_tree c.in-Err.refusal)

pub returns-clause-faulty : goal.returns-clause-faulty
returns-clause-faulty c = subst IsFaultyOrMemory (sym c.of_check.ensures)
    (faulty_program c.deref-in-Err-checked.result.now c.in-Err-checked.refusal)
