use Rattle.std.proofs.Common.{pos, ◌-ℤ◌, ap, ◌∙◌}
use Rattle.std.specs.Int.{from_bool}
use Rattle.risc_machine.specs.Step.{signed, overflows}
use Rattle.risc_machine.proofs.Sums.{difference_fits, borrowed_fits, widened_difference}
use Rattle.risc_machine.proofs.arithmetic.difference_overflows.Goals as goal

pub overflow_sub-difference : goal.overflow_sub-difference
overflow_sub-difference c = difference_fits c.widened.result c.widened-2.result c.widened.ensures.small
    c.widened-2.ensures.small

pub overflow_sub-borrowed : goal.overflow_sub-borrowed
overflow_sub-borrowed c = borrowed_fits c.widened.result c.widened-2.result c.args.borrow c.widened.ensures.small
    c.widened-2.ensures.small

pub returns : goal.returns
returns c =
    c.leaves_word.ensures
    ∙ ap overflows (widened_difference c.widened.result c.widened-2.result c.args.borrow c.widened.ensures.small
    c.widened-2.ensures.small)
    ∙ ap (λ z. overflows (z -ℤ c.widened-2.result -ℤ pos (from_bool c.args.borrow))) c.widened.ensures.value
    ∙ ap (λ z. overflows (signed c.args.left -ℤ z -ℤ pos (from_bool c.args.borrow))) c.widened-2.ensures.value
