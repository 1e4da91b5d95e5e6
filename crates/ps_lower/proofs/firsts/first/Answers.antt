use Rattle.ps_tree.specs.View.{type_of}
use Rattle.ps_lower_layout.specs.Shapes.{shape_of}
use Rattle.ps_lower_code.specs.Statements.{first_code}
use Rattle.ps_lower.specs.Levels.{scope_of}
use Rattle.ps_lower.specs.declared.depth.TheConstants.{MAX_NUMBER}
use Rattle.ps_lower.proofs.Tasks.{doing_next, doing_less, doing_near, task_near}
use Rattle.ps_lower.proofs.firsts.first.Goals as goal

pub loop-task-smaller : goal.loop-task-smaller
loop-task-smaller c = doing_less (scope_of c.args.level.now) c.args.base c.args.t c.loop-task.out c.step.new.out
    c.in-Some.task c.loop-task.tasks.items c.pop.new.self.items c.step.new.tasks.items c.in-Some.ensures.items
    c.in_ok-step.ensures

pub loop-task-preserved : goal.loop-task-preserved
loop-task-preserved c = (
  doing_next (scope_of c.args.level.now) c.args.base c.args.t c.args.out.now
      (first_code (scope_of c.args.level.now) c.args.base c.args.t c.args.offset (shape_of (type_of c.args.ty.now)))
      c.loop-task.out c.step.new.out c.in-Some.task c.loop-task.tasks.items c.pop.new.self.items c.step.new.tasks.items
      c.in-Some.ensures.items c.loop-task.invariant.0 c.in_ok-step.ensures,
  doing_near (scope_of c.args.level.now) c.args.base c.args.t c.loop-task.out c.step.new.out c.in-Some.task
      c.loop-task.tasks.items c.pop.new.self.items c.step.new.tasks.items MAX_NUMBER
      c.in-Some.ensures.items c.loop-task.invariant.1 c.in_ok-step.ensures,
)

pub step-requires-clause-reach : goal.step-requires-clause-reach
step-requires-clause-reach c = task_near c.in-Some.task c.loop-task.tasks.items c.pop.new.self.items MAX_NUMBER
    c.in-Some.ensures.items c.loop-task.invariant.1
