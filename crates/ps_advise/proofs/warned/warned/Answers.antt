use Rattle.ps_advise.specs.Trials.{HasMendsOf}
use Rattle.ps_advise.proofs.Added.{one_more}
use Rattle.ps_advise.proofs.warned.warned.Goals as goal

pub loop-warning-preserved-in_ok-push : goal.loop-warning-preserved-in_ok-push
loop-warning-preserved-in_ok-push c = one_more (HasMendsOf c.args.text.now) c.loop-warning.told.items
    c.push.new.self.items _ c.in_ok-push.ensures.items c.loop-warning.invariant c.in_ok-told_of.ensures
