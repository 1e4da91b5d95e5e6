use Rattle.std.proofs.Common.{codes}
use Rattle.clap.specs.Words.{found_of, rows_of, subcommand_rows_of}
use Rattle.clap.specs.declared.parser.matches.ArgMatches.TheViews.{out-ArgMatches}
use Rattle.pascal_command.specs.Command.{work_of}
use Rattle.pascal_command.specs.declared.job.TheConstants.{DEFAULT_HEAP, DEFAULT_STACK, DEFAULT_STEPS, MAX_BUDGET}
use Rattle.pascal_command.specs.declared.job.TheConstants.{MAX_STEPS}
use Rattle.pascal_command.proofs.Entered.{entered_is, number_is, request_is}
use Rattle.pascal_command.proofs.job.job_in.Goals as goal

pub returns-in_ok-task-in-Some-clause-request : goal.returns-in_ok-task-in-Some-clause-request
returns-in_ok-task-in-Some-clause-request c =
    let rows = rows_of (found_of c.in-Some.inner.now) in
    let name = c.in-Some.name.now in
    request_is (subcommand_rows_of c.args.matches.now) name rows (work_of c.in_ok-task-in-Some.task)
    c.budget_of-stack.result c.budget_of-heap.result c.steps_of-steps.result
    (entered_is _ _ (out-ArgMatches c.args.matches.now).subcommand name rows c.in-Some.ensures.name
    c.in-Some.ensures.rows) c.in_ok-task-in-Some.ensures
    (λ has. number_is DEFAULT_STACK (codes "stack") rows c.budget_of-stack.result 0 MAX_BUDGET
    c.budget_of-stack.ensures.none c.budget_of-stack.ensures.some has.0)
    (λ has. number_is DEFAULT_HEAP (codes "heap") rows c.budget_of-heap.result 0 MAX_BUDGET
    c.budget_of-heap.ensures.none c.budget_of-heap.ensures.some has.1)
    (λ has. number_is DEFAULT_STEPS (codes "steps") rows c.steps_of-steps.result 1 MAX_STEPS
    c.steps_of-steps.ensures.none c.steps_of-steps.ensures.some has.2)
