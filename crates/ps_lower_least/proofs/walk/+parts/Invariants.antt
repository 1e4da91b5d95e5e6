use Rattle.ps_lower_least.proofs.Gathering.{Gathered}
use Rattle.ps_lower_least.proofs.Arms.{selectors_in, steps_in, operands_in, set_steps_in, members_in, arguments_in}
use Rattle.ps_lower_least.proofs.walk.+parts.Given as goal

abbrev pub invariant-add_selectors-loop-selector : goal.invariant-add_selectors-loop-selector
invariant-add_selectors-loop-selector l = Gathered selectors_in l.fn.count l.selectors l.selector-index l.count

abbrev pub invariant-add_arithmetic-loop-step : goal.invariant-add_arithmetic-loop-step
invariant-add_arithmetic-loop-step l = Gathered steps_in l.fn.count l.steps l.step-index l.count

abbrev pub invariant-add_operands-loop-operand : goal.invariant-add_operands-loop-operand
invariant-add_operands-loop-operand l = Gathered operands_in l.fn.count l.operands l.operand-index l.count

abbrev pub invariant-add_set_steps-loop-step : goal.invariant-add_set_steps-loop-step
invariant-add_set_steps-loop-step l = Gathered set_steps_in l.fn.count l.steps l.step-index l.count

abbrev pub invariant-add_members-loop-member : goal.invariant-add_members-loop-member
invariant-add_members-loop-member l = Gathered members_in l.fn.count l.members l.member-index l.count

abbrev pub invariant-add_arguments-loop-argument : goal.invariant-add_arguments-loop-argument
invariant-add_arguments-loop-argument l = Gathered arguments_in l.fn.count l.arguments l.argument-index l.count
