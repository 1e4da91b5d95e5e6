use Rattle.std.proofs.Common.{refl, ap, ◌∙◌}
use Rattle.ps_tree.specs.Counts.{nothing, capped, write_extent}
use Rattle.ps_tree.specs.View.{write_of}
use Rattle.ps_tree.proofs.Sums.{summed_start, summed_next, summed_all, writes_size, writes_none, writes_more}
use Rattle.ps_tree.proofs.count.count_writes.Goals as goal

pub loop-parameter-init : goal.loop-parameter-init
loop-parameter-init c = summed_start writes_size nothing _ _ refl

pub loop-parameter-preserved : goal.loop-parameter-preserved
loop-parameter-preserved c = summed_next writes_size
    (λ x. write_extent (write_of x)) writes_more nothing _ _ _ _ _ c.parameter-item.result c.loop-parameter-test.true
    c.loop-parameter.invariant (c.count_write.ensures
    ∙ ap (λ x. capped (write_extent (write_of x))) c.parameter-item.is) c.both-total.ensures

pub returns : goal.returns
returns c = summed_all writes_size writes_none _ _ _ c.loop-parameter-test.false c.loop-parameter.invariant
