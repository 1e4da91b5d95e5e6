-- The steps that were watched are one run.
use Rattle.std.proofs.Common.{◌≤◌, ◌<◌, ◌+◌, ℕ, arith}
use Rattle.risc_machine.specs.declared.stop.Stop.TheVariants.{Steps}
use Rattle.ps_build.proofs.InSlices.{none_made, paused, slice_more, stopped_in}
use Rattle.ps_trace.proofs.watch.run_watched.Goals as goal

within : (done all : ℕ) → done < all → done + 1 ≤ all
within done all h = omega (arith, h)

pub loop-done-init : goal.loop-done-init
loop-done-init g c =
    record { within = omega arith; comes = none_made c.args.machine.now (g.C.Console.world c.args.console.now) }

pub returns-in_default : goal.returns-in_default
returns-in_default g c =
    let world = g.C.Console.world in
    record {
      stopped = stopped_in c.loop-done.done 1 c.args.max_steps c.args.machine.now c.loop-done.machine
          c.run-stop.new.machine (world c.args.console.now) (world c.pause_where_due.new.console)
          (world c.run-stop.new.console) c.run-stop.result
          (within c.loop-done.done c.args.max_steps c.loop-done-test.true) c.in_default.not-Steps
          (paused c.loop-done.done c.args.machine.now c.loop-done.machine (world c.args.console.now)
          (world c.loop-done.console) (world c.pause_where_due.new.console) c.pause_where_due.ensures.input
          c.pause_where_due.ensures.output c.pause_where_due.ensures.faults c.loop-done.invariant.comes)
          c.run-stop.ensures.steps;
      left = tt;
      failed = tt;
    }

pub loop-done-preserved : goal.loop-done-preserved
loop-done-preserved g c =
    let world = g.C.Console.world in
    record {
      within = within c.loop-done.done c.args.max_steps c.loop-done-test.true;
      comes = slice_more c.loop-done.done 1 c.args.machine.now c.loop-done.machine c.run-stop.new.machine
          (world c.args.console.now) (world c.pause_where_due.new.console) (world c.run-stop.new.console) Steps
          (paused c.loop-done.done c.args.machine.now c.loop-done.machine (world c.args.console.now)
          (world c.loop-done.console) (world c.pause_where_due.new.console) c.pause_where_due.ensures.input
          c.pause_where_due.ensures.output c.pause_where_due.ensures.faults c.loop-done.invariant.comes)
          c.in-Steps.ensures.steps;
    }

pub returns-then-is_err-clause-left : goal.returns-then-is_err-clause-left
returns-then-is_err-clause-left g c =
    let world = g.C.Console.world in
    record {
      steps = c.loop-done.done;
      fewer = c.loop-done-test.true;
      comes = paused c.loop-done.done c.args.machine.now c.loop-done.machine (world c.args.console.now)
          (world c.loop-done.console) (world c.pause_where_due.new.console) c.pause_where_due.ensures.input
          c.pause_where_due.ensures.output c.pause_where_due.ensures.faults c.loop-done.invariant.comes;
    }
