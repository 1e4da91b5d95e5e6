use Rattle.std.proofs.Common.{◌≡◌, ◌<◌, ◌+◌, ◌*◌, ap, ◌∙◌, subst, arith}
use Rattle.ps_tree.specs.Sizes.{depth, depth_of_fields}
use Rattle.ps_tree.specs.TypeView.{type_of}
use Rattle.ps_meaning.specs.Values.{StructureValue}
use Rattle.ps_meaning_runner.proofs.Values.{value_of_Structure, component_falls, fields_fall, field_falls, types_next}
use Rattle.ps_meaning_runner.proofs.Values.{types_all}
use Rattle.ps_meaning_runner.proofs.value.+first.Goals as goal

pub first-first-requires : goal.first-first-requires
unfolding type_of
first-first-requires t c =
    let less = component_falls c.args.ty.now c.ty.result.now c.in-Array.at c.in-Array.packed c.in-Array.index
    c.in-Array.component.value (ap type_of c.in-Array.is) (c.ty.ensures ∙ c.deref.ensures) in
    let d : 2 * depth (type_of c.args.ty.now) ≡ t = c.decreases in
    (subst (λ n. 2 * depth (type_of c.ty.result.now) < n) d less, tt)

pub first-first_fields-requires : goal.first-first_fields-requires
unfolding type_of
first-first_fields-requires t c =
    let less = fields_fall c.args.ty.now c.in-Record.at c.in-Record.packed c.in-Record.fields.value
    c.deref-in-Record.result.now (ap type_of c.in-Record.is) c.deref-in-Record.ensures in
    let d : 2 * depth (type_of c.args.ty.now) ≡ t = c.decreases in
    (subst (λ n. 2 * depth_of_fields c.deref-in-Record.result.now + 1 < n) d less, tt)

pub first_fields-first-requires : goal.first_fields-first-requires
first_fields-first-requires t c =
    let less = field_falls c.args.fields.now c.types-ty-items.result.now c.loop-ty.ty-index c.ty-item.result
    c.types-ty-items.ensures c.loop-ty-test.true c.ty-item.is in
    let d : 2 * depth_of_fields c.args.fields.now + 1 ≡ t = c.decreases in
    (subst (λ n. 2 * depth (type_of c.ty-item.result) < n) d less, tt)

pub first_fields-loop-ty-preserved : goal.first_fields-loop-ty-preserved
first_fields-loop-ty-preserved t c =
    rw c.in_ok-push.ensures.items (types_next c.types-ty-items.result.now c.loop-ty.values.items c.loop-ty.ty-index
    c.in_ok-first.field-0 c.ty-item.result c.loop-ty-test.true c.ty-item.is c.in_ok-first.ensures
    c.loop-ty.invariant)

pub first_fields-returns : goal.first_fields-returns
first_fields-returns t c = value_of_Structure c.loop-ty.values ∙ ap StructureValue
    (types_all c.args.fields.now c.types-ty-items.result.now c.loop-ty.values.items c.loop-ty.ty-index
    c.types-ty-items.ensures (omega arith) c.loop-ty.invariant)
