use Rattle.std.proofs.Common.{ap, ◌∙◌}
use Rattle.ps_tree.specs.View.{selector_of}
use Rattle.ps_lower_code.specs.Values.{is_byte_selector}
use Rattle.ps_lower.proofs.Selecting.{tested_start, tested_next, tested_all}
use Rattle.ps_lower.proofs.places.is_byte_behind.Goals as goal

pub loop-selector-init : goal.loop-selector-init
loop-selector-init c = tested_start _

pub loop-selector-preserved : goal.loop-selector-preserved
loop-selector-preserved c = tested_next _ _ _ _ c.selector-item.result c.loop-selector-test.true
    c.loop-selector.invariant (c.is_byte_selector-byte.ensures
    ∙ ap (λ s. is_byte_selector (selector_of s)) c.selector-item.is)

pub returns : goal.returns
returns c = tested_all _ _ _ c.loop-selector-test.false c.loop-selector.invariant
