use Rattle.ps_tree.specs.View.{expr_of}
use Rattle.ps_check_statements.proofs.Paired.{boxed_answers}
use Rattle.ps_check_statements.proofs.for_statements.boxed_bound.Goals as goal

pub returns : goal.returns
returns c = boxed_answers _ c.bound_at.result (λ b. b.value) (λ e. (expr_of e, c.bound_at.new.changes.items)) _
    c.bound_at.ensures c.boxed_answer.ensures.ok c.boxed_answer.ensures.err
