-- The slices that were run are one run.
use Rattle.std.proofs.Common.{◌≡◌, ◌≤◌, ◌<◌, ◌+◌, ◌-◌, ℕ, subst, arith}
use Rattle.ps_build.specs.Slices.{ComesTo}
use Rattle.ps_build.proofs.InSlices.{slice_more, slice_and_pause, stopped_in}
use Rattle.ps_build.proofs.slices.run_in_slices.Goals as goal

within : (done slice all : ℕ) → slice < all - done → done + slice ≤ all
within done slice all h = omega (arith, h)

fewer : (done slice all : ℕ) → slice < all - done → done + slice < all
fewer done slice all h = omega (arith, h)

whole : (done all : ℕ) → done ≤ all → done + (all - done) ≡ all
whole done all h = omega (arith, h)

pub returns-in_default : goal.returns-in_default
returns-in_default g c =
    let world = g.C.Console.world in
    record {
      stopped = stopped_in c.loop-done.done c.args.slice c.args.max_steps c.args.machine.now c.loop-done.machine
          c.run-stop.new.machine (world c.args.console.now) (world c.loop-done.console)
          (world c.run-stop.new.console) c.run-stop.result
          (within c.loop-done.done c.args.slice c.args.max_steps c.loop-done-test.true) c.in_default.not-Steps
          c.loop-done.invariant.comes c.run-stop.ensures.steps;
      left = tt;
      failed = tt;
    }

pub returns-clause-stopped : goal.returns-clause-stopped
returns-clause-stopped g c =
    let world = g.C.Console.world in
    subst (λ n. ComesTo n c.args.machine.now (world c.args.console.now) c.run.new.machine
    (world c.run.new.console) c.run.result) (whole c.loop-done.done c.args.max_steps c.loop-done.invariant.within)
    (slice_more c.loop-done.done (c.args.max_steps - c.loop-done.done) c.args.machine.now c.loop-done.machine
    c.run.new.machine (world c.args.console.now) (world c.loop-done.console)
    (world c.run.new.console) c.run.result c.loop-done.invariant.comes c.run.ensures.steps)

pub loop-done-preserved : goal.loop-done-preserved
loop-done-preserved g c =
    let world = g.C.Console.world in
    record {
      within = within c.loop-done.done c.args.slice c.args.max_steps c.loop-done-test.true;
      comes = slice_and_pause c.loop-done.done c.args.slice c.args.machine.now c.loop-done.machine
          c.run-stop.new.machine (world c.args.console.now) (world c.loop-done.console) (world c.run-stop.new.console)
          (world c.pause.new.self) c.loop-done.invariant.comes c.in-Steps.ensures.steps c.pause.ensures.input
          c.pause.ensures.output c.pause.ensures.faults;
    }

pub returns-then-is_err-clause-left : goal.returns-then-is_err-clause-left
returns-then-is_err-clause-left g c =
    let world = g.C.Console.world in
    record {
      steps = c.loop-done.done + c.args.slice;
      fewer = fewer c.loop-done.done c.args.slice c.args.max_steps c.loop-done-test.true;
      comes = slice_and_pause c.loop-done.done c.args.slice c.args.machine.now c.loop-done.machine
          c.run-stop.new.machine (world c.args.console.now) (world c.loop-done.console) (world c.run-stop.new.console)
          (world c.pause.new.self) c.loop-done.invariant.comes c.in-Steps.ensures.steps c.pause.ensures.input
          c.pause.ensures.output c.pause.ensures.faults;
    }
