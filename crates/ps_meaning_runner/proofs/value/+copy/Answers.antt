use Rattle.std.proofs.Common.{ap, ◌∙◌, arith}
use Rattle.std.proofs.lemmas.List.{take_all}
use Rattle.ps_meaning_runner.specs.View.{values_of}
use Rattle.ps_meaning_runner.proofs.Values.{values_next}
use Rattle.ps_meaning_runner.proofs.value.+copy.Goals as goal

pub copy_all-loop-value-preserved : goal.copy_all-loop-value-preserved
copy_all-loop-value-preserved t c =
    rw c.in_ok-push.ensures.items (values_next c.args.values.now c.loop-value.copies.items c.loop-value.value-index
    c.in_ok-copy.field-0 c.value-item.result c.loop-value-test.true c.value-item.is c.in_ok-copy.ensures
    c.loop-value.invariant)

pub copy_all-returns : goal.copy_all-returns
copy_all-returns t c = c.loop-value.invariant ∙ ap values_of
    (take_all c.loop-value.value-index c.args.values.now (omega arith))
