use Rattle.std.proofs.Common.{refl, ap, ◌∙◌}
use Rattle.ps_tree.specs.declared.count.Extent.{Extent}
use Rattle.ps_tree.specs.Counts.{nothing, capped}
use Rattle.ps_tree.proofs.Sums.{summed_start, summed_next, summed_all}
use Rattle.ps_tree.proofs.FormalLemmas.{formals_size, formals_none, formals_more, formal_extent}
use Rattle.ps_tree.proofs.program.count_formals.Goals as goal

pub loop-formal-init : goal.loop-formal-init
loop-formal-init c = summed_start formals_size nothing _ _ refl

pub loop-formal-preserved : goal.loop-formal-preserved
loop-formal-preserved c = summed_next formals_size formal_extent formals_more nothing _ _ _ _ _ c.formal-item.result
    c.loop-formal-test.true c.loop-formal.invariant (ap (λ n. let e : Extent = record {
      nodes = 1;
      taken = n;
    } in e) c.cells_of_formal.ensures ∙ ap (λ x. capped (formal_extent x)) c.formal-item.is) c.both-total.ensures

pub returns : goal.returns
returns c = summed_all formals_size formals_none _ _ _ c.loop-formal-test.false c.loop-formal.invariant
