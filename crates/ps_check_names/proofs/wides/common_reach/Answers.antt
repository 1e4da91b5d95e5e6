use Rattle.ps_check_names.proofs.WideLemmas.{common_next}
use Rattle.ps_check_names.proofs.wides.common_reach.Goals as goal

pub loop-i-preserved : goal.loop-i-preserved
loop-i-preserved c = common_next c.args.kind.now c.args.present.now c.args.latest.now c.number_at-a.result
    c.number_at-b.result c.loop-i.i c.loop-i.reach c.greatest_in-here.result c.larger-reach.result c.loop-i.invariant
    c.number_at-a.ensures c.number_at-b.ensures c.greatest_in-here.ensures c.larger-reach.ensures.first
    c.larger-reach.ensures.second
