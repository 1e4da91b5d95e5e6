use Rattle.risc_machine.proofs.Sums.{sum_fits}
use Rattle.risc_machine.proofs.arithmetic.words_overflow.Goals as goal

pub overflow_add-sum : goal.overflow_add-sum
overflow_add-sum c = sum_fits c.widened.result c.widened-2.result c.widened.ensures.small c.widened-2.ensures.small
