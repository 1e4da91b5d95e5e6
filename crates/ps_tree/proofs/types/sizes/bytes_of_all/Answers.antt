use Rattle.std.proofs.Common.{◌+◌, ◌∙◌, sym, ap, min}
use Rattle.ps_tree.proofs.SizeLemmas.{field_bytes_total, counted_next, counted_end}
use Rattle.ps_tree.specs.Sizes.{bytes}
use Rattle.ps_tree.specs.TypeView.{type_of}
use Rattle.ps_tree.proofs.types.sizes.bytes_of_all.Goals as goal

pub returns : goal.returns
returns c =
    counted_end bytes 4294967295 c.args.types.now _ _ c.loop-ty-test.false c.loop-ty.invariant
    ∙ sym (ap (λ n. min n 4294967295) (field_bytes_total c.args.types.now))

pub loop-ty-preserved : goal.loop-ty-preserved
loop-ty-preserved c = counted_next bytes 4294967295 _ _ _ _ c.ty-item.result c.loop-ty-test.true c.loop-ty.invariant
    (c.saturating_add-total.ensures ∙ ap (λ n. min (c.loop-ty.total + n) 4294967295)
    (c.bytes.ensures ∙ ap (λ t. min (bytes (type_of t)) 4294967295) c.ty-item.is))
