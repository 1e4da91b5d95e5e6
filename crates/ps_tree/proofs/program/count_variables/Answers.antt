use Rattle.std.proofs.Common.{refl, ap, ◌∙◌}
use Rattle.ps_tree.specs.Counts.{nothing, capped, copy_of}
use Rattle.ps_tree.specs.View.{type_of}
use Rattle.ps_tree.proofs.Sums.{summed_start, summed_next, summed_all}
use Rattle.ps_tree.proofs.FormalLemmas.{variables_size, variables_none, variables_more}
use Rattle.ps_tree.proofs.program.count_variables.Goals as goal

pub loop-ty-init : goal.loop-ty-init
loop-ty-init c = summed_start variables_size nothing _ _ refl

pub loop-ty-preserved : goal.loop-ty-preserved
loop-ty-preserved c = summed_next variables_size
    (λ x. copy_of (type_of x)) variables_more nothing _ _ _ _ _ c.ty-item.result c.loop-ty-test.true c.loop-ty.invariant
    (c.copy.ensures ∙ ap (λ x. capped (copy_of (type_of x))) c.ty-item.is) c.both-total.ensures

pub returns : goal.returns
returns c = summed_all variables_size variables_none _ _ _ c.loop-ty-test.false c.loop-ty.invariant
