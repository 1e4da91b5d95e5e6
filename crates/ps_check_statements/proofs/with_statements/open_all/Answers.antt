use Rattle.std.proofs.Common.{[], ◌∙◌}
use Rattle.ps_check_judgement.proofs.Lists.{handed_on, stepped_start, stepped_next, stepped_fault, stepped_end}
use Rattle.ps_check_names.specs.Views.{opened_in, scope_of}
use Rattle.ps_check_expressions.specs.View.{context_at, regions_at}
use Rattle.ps_check_statements.specs.Structured.{open_next}
use Rattle.ps_check_statements.proofs.with_statements.open_all.Goals as goal

pub loop-variable-init : goal.loop-variable-init
unfolding opened_in scope_of
loop-variable-init c = (
  rw (c.in_ok-places.ensures.items, c.new-opened.ensures.records)
      (stepped_start (λ t x. open_next (context_at c.args.site.now) t.0 x t.1)
      (([], regions_at c.args.site.now), c.args.changes.now.items) c.args.records.now),
  c.new-opened.ensures.wides,
)

pub loop-variable-preserved : goal.loop-variable-preserved
loop-variable-preserved c = (
  stepped_next _ _ _ _ _ c.variable-item.result _ c.loop-variable-test.true c.variable-item.is
      c.loop-variable.invariant.0
      c.in_ok-opened.ensures.opened,
  c.in_ok-opened.ensures.wides ∙ c.loop-variable.invariant.1,
)

pub returns-in_err-opened-clause-opened : goal.returns-in_err-opened-clause-opened
returns-in_err-opened-clause-opened c = handed_on _ _ _ _ c.from_residual-in_err-opened.ensures.1
    (stepped_fault _ _ _ _ _ c.variable-item.result _ c.loop-variable-test.true c.variable-item.is
    c.loop-variable.invariant.0
    c.in_err-opened.ensures.opened)

pub returns-clause-opened : goal.returns-clause-opened
returns-clause-opened c = stepped_end _ _ _ _ _ c.loop-variable-test.false c.loop-variable.invariant.0
