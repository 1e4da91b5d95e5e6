use Rattle.ps_tree.specs.Counts.{nothing}
use Rattle.ps_tree.proofs.Sums.{Summed, arguments_size, members_size, selectors_size, arithmetic_size, operands_size}
use Rattle.ps_tree.proofs.Sums.{set_steps_size}
use Rattle.ps_tree.proofs.count.+extents.Given as goal

abbrev pub invariant-count_arguments-loop-argument : goal.invariant-count_arguments-loop-argument
invariant-count_arguments-loop-argument l = Summed arguments_size nothing l.arguments l.argument-index l.total

abbrev pub invariant-count_members-loop-member : goal.invariant-count_members-loop-member
invariant-count_members-loop-member l = Summed members_size nothing l.members l.member-index l.total

abbrev pub invariant-count_selectors-loop-selector : goal.invariant-count_selectors-loop-selector
invariant-count_selectors-loop-selector l = Summed selectors_size nothing l.selectors l.selector-index l.total

abbrev pub invariant-count_arithmetic-loop-step : goal.invariant-count_arithmetic-loop-step
invariant-count_arithmetic-loop-step l = Summed arithmetic_size nothing l.steps l.step-index l.total

abbrev pub invariant-count_operands-loop-operand : goal.invariant-count_operands-loop-operand
invariant-count_operands-loop-operand l = Summed operands_size nothing l.operands l.operand-index l.total

abbrev pub invariant-count_set_steps-loop-step : goal.invariant-count_set_steps-loop-step
invariant-count_set_steps-loop-step l = Summed set_steps_size nothing l.steps l.step-index l.total
