use Rattle.std.proofs.Common.{refl}
use Rattle.ps_tree.specs.View.{read_of}
use Rattle.ps_lower_least.specs.Fewest.{read_fewest}
use Rattle.ps_lower_least.proofs.Gathering.{gathered_start, gathered_next, gathered_all}
use Rattle.ps_lower_least.proofs.Arms.{reads_in, reads_more}
use Rattle.ps_lower_least.proofs.walk.add_reads.Goals as goal

pub loop-variable-init : goal.loop-variable-init
loop-variable-init c = gathered_start reads_in _ _

pub loop-variable-preserved : goal.loop-variable-preserved
loop-variable-preserved c = gathered_next reads_in
    (λ x. read_fewest (read_of x)) reads_more _ _ _ _ _ c.variable-item.result _ c.variable-item.is
    c.loop-variable-test.true c.loop-variable.invariant c.add_read.ensures

pub returns : goal.returns
returns c = gathered_all reads_in refl _ _ _ _ c.loop-variable-test.false c.loop-variable.invariant
