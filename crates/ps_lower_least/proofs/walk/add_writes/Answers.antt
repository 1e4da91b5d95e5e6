use Rattle.std.proofs.Common.{refl}
use Rattle.ps_tree.specs.View.{write_of}
use Rattle.ps_lower_least.specs.Fewest.{write_fewest}
use Rattle.ps_lower_least.proofs.Gathering.{gathered_start, gathered_next, gathered_all}
use Rattle.ps_lower_least.proofs.Arms.{writes_in, writes_more}
use Rattle.ps_lower_least.proofs.walk.add_writes.Goals as goal

pub loop-parameter-init : goal.loop-parameter-init
loop-parameter-init c = gathered_start writes_in _ _

pub loop-parameter-preserved : goal.loop-parameter-preserved
loop-parameter-preserved c = gathered_next writes_in
    (λ x. write_fewest (write_of x)) writes_more _ _ _ _ _ c.parameter-item.result _ c.parameter-item.is
    c.loop-parameter-test.true c.loop-parameter.invariant c.add_write.ensures

pub returns : goal.returns
returns c = gathered_all writes_in refl _ _ _ _ c.loop-parameter-test.false c.loop-parameter.invariant
