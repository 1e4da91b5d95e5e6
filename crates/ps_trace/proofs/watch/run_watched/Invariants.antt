use Rattle.std.proofs.Common.{◌≤◌, ◌-◌}
use Rattle.risc_machine.specs.declared.stop.Stop.TheVariants.{Steps}
use Rattle.ps_build.specs.Slices.{ComesTo}
use Rattle.ps_trace.proofs.watch.run_watched.Given as goal

abbrev pub invariant-loop-done : goal.invariant-loop-done
invariant-loop-done g l = record {
  within : l.done ≤ l.max_steps;
  comes : ComesTo l.done l.initial.machine (g.C.Console.world l.initial.console) l.machine
      (g.C.Console.world l.console) Steps;
}

abbrev pub decreases-loop-done : goal.decreases-loop-done
decreases-loop-done g l = l.max_steps - l.done
