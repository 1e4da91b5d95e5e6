use Rattle.std.proofs.Common.{refl, ap, ◌∙◌}
use Rattle.ps_tree.specs.Counts.{nothing, capped, read_extent}
use Rattle.ps_tree.specs.View.{read_of}
use Rattle.ps_tree.proofs.Sums.{summed_start, summed_next, summed_all, reads_size, reads_none, reads_more}
use Rattle.ps_tree.proofs.count.count_reads.Goals as goal

pub loop-variable-init : goal.loop-variable-init
loop-variable-init c = summed_start reads_size nothing _ _ refl

pub loop-variable-preserved : goal.loop-variable-preserved
loop-variable-preserved c = summed_next reads_size
    (λ x. read_extent (read_of x)) reads_more nothing _ _ _ _ _ c.variable-item.result c.loop-variable-test.true
    c.loop-variable.invariant (c.count_read.ensures ∙ ap (λ x. capped (read_extent (read_of x))) c.variable-item.is)
    c.both-total.ensures

pub returns : goal.returns
returns c = summed_all reads_size reads_none _ _ _ c.loop-variable-test.false c.loop-variable.invariant
