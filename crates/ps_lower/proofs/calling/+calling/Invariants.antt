use Rattle.ps_lower.proofs.Searches.{Passed, selectors_in, steps_in, operands_in}
use Rattle.ps_lower.proofs.calling.+calling.Given as goal

abbrev pub invariant-selectors_call_in-loop-selector : goal.invariant-selectors_call_in-loop-selector
invariant-selectors_call_in-loop-selector l = Passed (selectors_in l.levels) l.selectors l.selector-index

abbrev pub invariant-steps_call_in-loop-step : goal.invariant-steps_call_in-loop-step
invariant-steps_call_in-loop-step l = Passed (steps_in l.levels) l.steps l.step-index

abbrev pub invariant-operands_call_in-loop-operand : goal.invariant-operands_call_in-loop-operand
invariant-operands_call_in-loop-operand l = Passed (operands_in l.levels) l.operands l.operand-index
