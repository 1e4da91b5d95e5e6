use Rattle.ps_check_names.proofs.WideLemmas.{left_next, left_past}
use Rattle.ps_check_names.proofs.wides.greatest_of.Goals as goal

pub returns-in_default : goal.returns-in_default
returns-in_default c = left_past c.args.word c.args.numbers.now c.loop-rest.rest c.loop-rest.reach
    c.loop-rest.invariant c.loop-rest-test.true c.loop-rest.auto.rest-fits c.in_default.ensures.lookup.3

pub loop-rest-preserved : goal.loop-rest-preserved
loop-rest-preserved c = left_next c.args.word c.args.numbers.now c.loop-rest.rest c.loop-rest.reach
    c.in-Some.number.now c.larger-reach.result c.loop-rest.invariant c.loop-rest-test.true c.loop-rest.auto.rest-fits
    (c.in-Some.ensures.lookup.3.1 0) c.larger-reach.ensures.first c.larger-reach.ensures.second
