use Rattle.std.proofs.Common.{ap, ◌∙◌}
use Rattle.ps_tree.specs.View.{type_of}
use Rattle.ps_lower_code.specs.Programs.{object_bytes}
use Rattle.ps_lower.proofs.Mapping.{made_start, made_next, made_all}
use Rattle.ps_lower.proofs.Limits.{object_few}
use Rattle.ps_lower.proofs.lower.object_sizes.Goals as goal

pub object_bytes-requires : goal.object_bytes-requires
object_bytes-requires c = object_few _ _ c.ty-item.result c.loop-ty-test.true c.ty-item.is c.requires

pub loop-ty-init : goal.loop-ty-init
loop-ty-init c = made_start type_of object_bytes _ _ c.new-list.ensures.items

pub loop-ty-preserved : goal.loop-ty-preserved
loop-ty-preserved c = made_next type_of object_bytes _ _ _ _ c.ty-item.result _ c.loop-ty-test.true c.loop-ty.invariant
    (c.object_bytes.ensures ∙ ap (λ x. object_bytes (type_of x)) c.ty-item.is) c.in_ok-push.ensures.items

pub returns : goal.returns
returns c = made_all type_of object_bytes _ _ _ c.loop-ty-test.false c.loop-ty.invariant
