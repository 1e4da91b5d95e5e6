use Rattle.ps_lower.proofs.Appends.{Added}
use Rattle.ps_lower.proofs.Chains.{steps_added, operands_added}
use Rattle.ps_lower.proofs.Selecting.{Led}
use Rattle.ps_lower.proofs.Actuals.{Handed}
use Rattle.ps_lower.proofs.Gathering.{members_added, set_steps_added}
use Rattle.ps_lower.proofs.Weighing.{Leads, Handing}
use Rattle.ps_lower.specs.Levels.{scope_of, site_of}
use Rattle.ps_lower.proofs.+values.Given as goal

abbrev pub invariant-values::go_on-loop-step : goal.invariant-values::go_on-loop-step
invariant-values::go_on-loop-step l = Added (steps_added (scope_of l.level) l.a l.x) l.fn.out l.steps l.step-index l.out

abbrev pub invariant-values::go_on_with-loop-operand : goal.invariant-values::go_on_with-loop-operand
invariant-values::go_on_with-loop-operand l = Added
    (operands_added (scope_of l.level) l.operator l.a l.x) l.fn.out l.operands l.operand-index l.out

abbrev pub invariant-values::along-loop-selector : goal.invariant-values::along-loop-selector
invariant-values::along-loop-selector l = Led (scope_of l.level) l.t l.x l.fn.out
    (site_of l.fn.site) l.selectors l.selector-index l.out (site_of l.site) × Leads
    (scope_of l.level) l.t l.x l.selectors l.selector-index l.site.offset

abbrev pub invariant-values::arguments-loop-one : goal.invariant-values::arguments-loop-one
invariant-values::arguments-loop-one l = Handed
    (scope_of l.level) l.fn.out l.arguments l.d l.x l.one-index l.rest l.out l.depth
    l.scratch × Handing (scope_of l.level) l.arguments l.one-index l.depth l.scratch

abbrev pub invariant-set_values::combine-loop-step : goal.invariant-set_values::combine-loop-step
invariant-set_values::combine-loop-step l = Added (set_steps_added
    (scope_of l.level) l.d l.x) l.fn.out l.steps l.step-index l.out

abbrev pub invariant-set_values::members-loop-one : goal.invariant-set_values::members-loop-one
invariant-set_values::members-loop-one l = Added (members_added
    (scope_of l.level) l.d l.x) l.fn.out l.list l.one-index l.out
