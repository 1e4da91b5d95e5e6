use Rattle.std.proofs.Common.{rules, ◌≡◌, ◌+◌, ◌<◌, ◌∙◌, sym, ap, min, length}
use Rattle.ps_tree.proofs.SizeLemmas.{record_cells_none, record_cells_total, counted_next, counted_end}
use Rattle.ps_tree.specs.Sizes.{cells}
use Rattle.ps_tree.specs.TypeView.{type_of}
use Rattle.ps_tree.proofs.types.sizes.cells_of_all.Goals as goal

pub returns-then-is_empty : goal.returns-then-is_empty
returns-then-is_empty c names =
    let none : length c.args.types.now ≡ 0 = search rules in
    sym (ap (λ n. min n 18446744073709551615) (record_cells_none names c.args.types.now none))

pub returns : goal.returns
returns c names =
    let some : 0 < length c.args.types.now = search rules in
    counted_end cells 18446744073709551615 c.args.types.now _ _ c.loop-ty-test.false c.loop-ty.invariant
    ∙ sym (ap (λ n. min n 18446744073709551615) (record_cells_total names c.args.types.now some))

pub loop-ty-preserved : goal.loop-ty-preserved
loop-ty-preserved c = counted_next cells 18446744073709551615 _ _ _ _ c.ty-item.result c.loop-ty-test.true
    c.loop-ty.invariant (c.saturating_add-total.ensures ∙ ap (λ n. min (c.loop-ty.total + n) 18446744073709551615)
    (c.cells.ensures ∙ ap (λ t. min (cells (type_of t)) 18446744073709551615) c.ty-item.is))
