use Rattle.std.proofs.Common.{◌≡◌, ◌∷◌, true, map, ap, sym, ◌∙◌, arith}
use Rattle.behavior.specs.Endings.{Stack}
use Rattle.ps_meaning.specs.Statements.{passes_stack}
use Rattle.ps_meaning_runner.specs.Worlds.{actual_of, context_of, costs_in, env_of, numbers_of, with_calls, world_of}
use Rattle.ps_meaning_runner.proofs.Answers.{stops}
use Rattle.ps_meaning_runner.proofs.Blocks.{stack_passed, block_entered}
use Rattle.ps_meaning_runner.proofs.world.World.enter_with.Goals as goal

pub returns-then-passes_stack-clause-stopped : goal.returns-then-passes_stack-clause-stopped
returns-then-passes_stack-clause-stopped c =
    let passes : passes_stack (costs_in c.args.setup.now) (c.args.routine ∷ numbers_of c.args.outer.now.active.value)
    ≡ true = ap (passes_stack (costs_in c.args.setup.now)) (sym c.in_ok-active.ensures)
    ∙ ap (λ numbers. passes_stack (costs_in c.args.setup.now) (numbers_of numbers)) (sym c.deref.ensures)
    ∙ sym c.passes_stack.ensures ∙ c.if-passes_stack.true in
    λ n. stops _ (Stack c.routine_numbered-called.result.line) c.ended.result c.args.self.now c.ended.ensures
    (stack_passed c.args.setup.now n c.args.routine (env_of c.args.parent.value) (map actual_of c.args.actuals.now)
    (with_calls (numbers_of c.args.calls.value) (context_of c.args.outer.now))
    (world_of c.args.self.now) c.routine_numbered-called.result.line c.routine_numbered-called.ensures.line passes)

pub returns-clause-entered : goal.returns-clause-entered
returns-clause-entered c = λ n. grind (arith, block_entered)
