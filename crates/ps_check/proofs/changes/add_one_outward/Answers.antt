use Rattle.std.proofs.Common.{◌++◌, sym, ap, ◌∙◌}
use Rattle.ps_check.proofs.Lists.{outward_far}
use Rattle.ps_check.proofs.changes.add_one_outward.Goals as goal

pub returns : goal.returns
returns c = c.in_ok-push.ensures.items ∙ ap (λ l. c.args.outer.now.items ++ l)
    (sym (outward_far c.args.change.now c.if-change-eq0.false))
