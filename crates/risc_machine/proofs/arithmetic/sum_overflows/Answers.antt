use Rattle.std.proofs.Common.{pos, ◌+ℤ◌, ap, ◌∙◌}
use Rattle.std.specs.Int.{from_bool}
use Rattle.risc_machine.specs.Step.{signed, overflows}
use Rattle.risc_machine.proofs.Sums.{sum_fits, carried_fits, widened_sum}
use Rattle.risc_machine.proofs.arithmetic.sum_overflows.Goals as goal

pub overflow_add-sum : goal.overflow_add-sum
overflow_add-sum c = sum_fits c.widened.result c.widened-2.result c.widened.ensures.small c.widened-2.ensures.small

pub overflow_add-carried : goal.overflow_add-carried
overflow_add-carried c = carried_fits c.widened.result c.widened-2.result c.args.carry c.widened.ensures.small
    c.widened-2.ensures.small

pub returns : goal.returns
returns c =
    c.leaves_word.ensures
    ∙ ap overflows (widened_sum c.widened.result c.widened-2.result c.args.carry c.widened.ensures.small
    c.widened-2.ensures.small)
    ∙ ap (λ z. overflows (z +ℤ c.widened-2.result +ℤ pos (from_bool c.args.carry))) c.widened.ensures.value
    ∙ ap (λ z. overflows (signed c.args.left +ℤ z +ℤ pos (from_bool c.args.carry))) c.widened-2.ensures.value
