use Rattle.std.proofs.Common.{◌+◌, ap, ◌∙◌}
use Rattle.ps_lower_code.specs.Routines.{parameter_words}
use Rattle.ps_lower.specs.declared.depth.TheConstants.{MAX_NUMBER}
use Rattle.ps_lower.proofs.Entering.{kind_at, counted_start, counted_next, counted_all, counted_small}
use Rattle.ps_lower.proofs.parameters.count_parameters.Goals as goal

pub loop-formal-init : goal.loop-formal-init
loop-formal-init c = counted_start _

pub with_parameter-count-requires : goal.with_parameter-count-requires
with_parameter-count-requires c = counted_small _ _ _ MAX_NUMBER c.loop-formal.invariant c.requires

pub loop-formal-preserved : goal.loop-formal-preserved
loop-formal-preserved c = counted_next _ _ _ _ c.formal-item.result c.loop-formal-test.true c.loop-formal.invariant
    (c.with_parameter-count.ensures ∙ ap (λ f. c.loop-formal.count + parameter_words (kind_at f)) c.formal-item.is)

pub returns : goal.returns
returns c = counted_all _ _ _ c.loop-formal-test.false c.loop-formal.invariant
