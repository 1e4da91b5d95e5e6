-- The number of line ends before the offset is the place at which the search ends.
use Rattle.std.proofs.Common.{◌+◌, arith, ap, ◌∙◌, sym}
use Rattle.ps_text.proofs.LineEnds.{ends_rise, count_from_point, few_ends}
use Rattle.ps_text.proofs.table.LineTable.line_of.Goals as goal

pub count_before-requires-clause-rise : goal.count_before-requires-clause-rise
count_before-requires-clause-rise c = rw (c.deref.ensures.value, c.self.invariant.0)
    (ends_rise 0 c.self.inside.text.now)

pub count_before-requires-clause-few : goal.count_before-requires-clause-few
count_before-requires-clause-few c = few_ends _ _ (c.deref.ensures.value ∙ c.self.invariant.0) c.self.invariant.1

pub overflow_add-result : goal.overflow_add-result
overflow_add-result c = omega (
  arith,
  few_ends _ _
      (c.deref.ensures.value ∙ c.self.invariant.0) c.self.invariant.1,
  c.count_before.ensures.within,
)

pub returns-clause-line : goal.returns-clause-line
returns-clause-line c =
    let ends = c.deref.ensures.value ∙ c.self.invariant.0 in
    let within = rw ends at c.count_before.ensures.within in
    let point = rw ends at c.count_before.ensures.point in
    rw (← c.self.view_is) (ap (λ z. 1 + z) (sym
    (count_from_point c.self.inside.text.now c.args.offset c.count_before.result within point)))

pub returns-clause-range : goal.returns-clause-range
returns-clause-range c =
    let few = few_ends _ _ (c.deref.ensures.value ∙ c.self.invariant.0) c.self.invariant.1 in
    (omega arith, omega (arith, few, c.count_before.ensures.within))
