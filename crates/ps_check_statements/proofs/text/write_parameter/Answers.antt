use Rattle.ps_tree.specs.View.{width_of}
use Rattle.ps_check_judgement.proofs.Lists.{handed_on}
use Rattle.ps_check_judgement.proofs.Pairs.{next_told}
use Rattle.ps_check_expressions.specs.View.{context_at, regions_at, value_of}
use Rattle.ps_check_expressions.proofs.RoutineLemmas.{still_answers, next_answers}
use Rattle.ps_check_statements.specs.Procedures as spec
use Rattle.ps_check_statements.proofs.text.write_parameter.Goals as goal

pub returns-in_err-value-in-Width : goal.returns-in_err-value-in-Width
unfolding spec.write_parameter
returns-in_err-value-in-Width c =
    handed_on _ _ _ _ c.from_residual-in_err-value-in-Width.ensures.1
    (rw (c.in-Width.is, ← c.get.ensures) (next_told _ _ (λ v. value_of v)
    (λ w. (width_of w, c.width_at.new.changes.items)) c.expr_value-value.new.changes.items _
    (spec.width_at (context_at c.args.site.now) (regions_at c.args.site.now) c.get.result.now) _ _
    c.expr_value-value.ensures c.width_at.ensures c.in_err-value-in-Width.ensures))

pub returns-in_ok-value-in-Width : goal.returns-in_ok-value-in-Width
unfolding spec.write_parameter
returns-in_ok-value-in-Width c =
    rw (c.in-Width.is, ← c.get.ensures, ← c.first_token-in-Width.ensures)
    (next_answers _ _ _ _ (λ v. value_of v) (λ w. (width_of w, c.width_at.new.changes.items))
    c.expr_value-value.new.changes.items _ (spec.width_at (context_at c.args.site.now)
    (regions_at c.args.site.now) c.get.result.now) _ _ _ c.expr_value-value.ensures c.width_at.ensures
    c.in_ok-value-in-Width.ensures (still_answers _ _ _ _ c.written-in-Width.ensures))
