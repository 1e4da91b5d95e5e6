use Rattle.ps_tree.specs.View.{expr_of}
use Rattle.ps_check_judgement.proofs.Lists.{handed_on}
use Rattle.ps_check_judgement.proofs.Pairs.{next_told}
use Rattle.ps_check_expressions.specs.View.{context_at, regions_at}
use Rattle.ps_check_expressions.proofs.RoutineLemmas.{next_yes}
use Rattle.ps_check_statements.specs.Structured.{bound_at}
use Rattle.ps_check_statements.proofs.for_statements.for_head.Goals as goal

pub returns-in_err-first-clause-head : goal.returns-in_err-first-clause-head
returns-in_err-first-clause-head c =
    handed_on _ _ _ _ c.from_residual-in_err-first.ensures.1
    (rw c.in_ok-variable.ensures (next_told _ _ (λ e. expr_of e.value)
    (λ e. (expr_of e.value, c.boxed_bound.new.changes.items)) c.boxed_bound-first.new.changes.items _
    (bound_at (context_at c.args.site.now) (regions_at c.args.site.now) c.in_ok-variable.ordinal c.args.to.now) _ _
    c.boxed_bound-first.ensures c.boxed_bound.ensures c.in_err-first.ensures))

pub returns-clause-head : goal.returns-clause-head
returns-clause-head c =
    rw (
      c.in_ok-variable.ensures,
      c.line.ensures,
      c.line-2.ensures,
      c.first_token.ensures,
      c.first_token-2.ensures,
      c.direction_of.ensures,
    ) (next_yes _ _ (λ e. expr_of e.value)
    (λ e. (expr_of e.value, c.boxed_bound.new.changes.items)) c.boxed_bound-first.new.changes.items _
    (bound_at (context_at c.args.site.now) (regions_at c.args.site.now) c.in_ok-variable.ordinal c.args.to.now) _ _ _
    c.boxed_bound-first.ensures c.boxed_bound.ensures c.in_ok-first.ensures)
