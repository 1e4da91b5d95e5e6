use Rattle.std.proofs.Common.{◌≤◌}
use Rattle.ps_lower_layout.specs.Shapes.{shape_of}
use Rattle.ps_tree.specs.View.{type_of}
use Rattle.ps_lower_code.specs.Statements.{first_code}
use Rattle.ps_lower.specs.FirstTasks.{tasks_weight, tasks_reach}
use Rattle.ps_lower.specs.Levels.{scope_of}
use Rattle.ps_lower.specs.declared.depth.TheConstants.{MAX_NUMBER}
use Rattle.ps_lower.proofs.Tasks.{Doing}
use Rattle.ps_lower.proofs.firsts.first.Given as goal

abbrev pub invariant-loop-task : goal.invariant-loop-task
invariant-loop-task l = Doing (scope_of l.level) l.base l.t l.fn.out
    (first_code (scope_of l.level) l.base l.t l.offset (shape_of (type_of l.ty))) l.out l.tasks.items
    × (tasks_reach l.tasks.items ≤ MAX_NUMBER)

abbrev pub decreases-loop-task : goal.decreases-loop-task
decreases-loop-task l = tasks_weight l.tasks.items
