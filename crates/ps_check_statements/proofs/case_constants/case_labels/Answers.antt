use Rattle.ps_check_judgement.proofs.Lists.{handed_on, stepped_end}
use Rattle.ps_check_expressions.specs.View.{context_at, regions_at}
use Rattle.ps_check_statements.specs.Structured.{next_label, labels}
use Rattle.ps_check_statements.proofs.Loops.{next_at, fault_at}
use Rattle.ps_check_statements.proofs.case_constants.case_labels.Goals as goal

pub loop-label-preserved : goal.loop-label-preserved
loop-label-preserved c = record {
  stepped = next_at (next_label (context_at c.args.site.now) (regions_at c.args.site.now) c.args.index
      c.args.seen.now.keys) _ _
      _ _ _ _ c.loop-label-test.true c.loop-label.invariant.stepped
      (c.in_ok-next_label.ensures.label _ c.loop-label.invariant.seen);
  seen = c.in_ok-next_label.ensures.seen _ c.loop-label.invariant.seen;
}

pub returns-in_err-next_label-clause-labels : goal.returns-in_err-next_label-clause-labels
unfolding labels
returns-in_err-next_label-clause-labels c =
    handed_on _ _ _ _ c.from_residual.ensures.1
    (fault_at (next_label (context_at c.args.site.now) (regions_at c.args.site.now) c.args.index c.args.seen.now.keys) _
    _ _
    _ _ _ c.loop-label-test.true c.loop-label.invariant.stepped
    (c.in_err-next_label.ensures.label _ c.loop-label.invariant.seen))

pub returns-clause-labels : goal.returns-clause-labels
unfolding labels
returns-clause-labels c = stepped_end _ _ _ _ _ c.loop-label-test.false c.loop-label.invariant.stepped

pub returns-clause-seen : goal.returns-clause-seen
returns-clause-seen c = c.loop-label.invariant.seen
