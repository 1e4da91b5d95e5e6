use Rattle.std.proofs.Common.{◌∙◌, arith}
use Rattle.ps_text.proofs.Places.{none_found, next_inside, next_found, all_found}
use Rattle.ps_text.proofs.table.line_ends.Goals as goal

pub loop-offset-init : goal.loop-offset-init
loop-offset-init c = rw c.new-ends.ensures.items (none_found c.args.text.now c.into_iter-offset-iterator.result
    (c.into_iter-offset-iterator.ensures.into_iter_gives ∙ c.memchr_iter-offset-items.ensures.value))

pub overflow_cast-offset : goal.overflow_cast-offset
overflow_cast-offset c = omega (
  arith,
  next_inside _ _ _ _ _ c.loop-offset.invariant c.in-Some.ensures.steps,
  c.requires,
)

pub loop-offset-preserved : goal.loop-offset-preserved
loop-offset-preserved c = rw c.in_ok-push.ensures.items
    (next_found _ _ _ _ _ c.loop-offset.invariant c.in-Some.ensures.steps)

pub returns : goal.returns
returns c = all_found _ _ _ c.loop-offset.invariant c.in-None.ensures.steps.0
