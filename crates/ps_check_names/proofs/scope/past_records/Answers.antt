use Rattle.std.proofs.Common.{ap, sym, ◌∙◌}
use Rattle.ps_tree.specs.View.{type_of}
use Rattle.ps_check_judgement.specs.Judged.{No}
use Rattle.ps_check_names.specs.Regions.{find_past}
use Rattle.ps_check_names.proofs.OpenedLemmas.{opened_none, last_has, last_uncounted, last_passed}
use Rattle.ps_check_names.proofs.scope.past_records.Goals as goal

pub returns-in-Some-field_of-clause-err : goal.returns-in-Some-field_of-clause-err
returns-in-Some-field_of-clause-err c = λ up token Γ. c.loop-record.invariant up token Γ
    ∙ last_has c.loop-record.left.now c.in-Some.rest.now c.in-Some.record.now c.in-Some.ensures.cases.0 up
    c.loop-record.passed c.args.name.now token Γ (c.in-Some-field_of.number, type_of c.in-Some-field_of.ty.now)
    (sym c.in-Some-field_of.ensures)

pub returns-in_default-one_more-clause-err : goal.returns-in_default-one_more-clause-err
returns-in_default-one_more-clause-err c = λ up token Γ. c.loop-record.invariant up token Γ
    ∙ last_uncounted c.loop-record.left.now c.in-Some.rest.now c.in-Some.record.now c.in-Some.ensures.cases.0 up
    c.loop-record.passed c.args.name.now token Γ (sym c.in_default-field_of.ensures) (sym c.in_default-one_more.ensures)
    ∙ ap (λ r. No r token) (sym c.missing.ensures)

pub loop-record-preserved : goal.loop-record-preserved
loop-record-preserved c = λ up token Γ. c.loop-record.invariant up token Γ
    ∙ last_passed c.loop-record.left.now c.in-Some.rest.now c.in-Some.record.now c.in-Some.ensures.cases.0 up
    c.loop-record.passed c.args.name.now token Γ c.in-Some-one_more.next (sym c.in_default-field_of.ensures)
    (sym c.in-Some-one_more.ensures)

pub returns-clause-ok : goal.returns-clause-ok
returns-clause-ok c = λ up token Γ. c.loop-record.invariant up token Γ
    ∙ ap (λ l. find_past up c.loop-record.passed l c.args.name.now token)
    (opened_none Γ c.loop-record.left.now c.in_default.ensures.cases)
