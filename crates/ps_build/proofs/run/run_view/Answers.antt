-- The run of the loaded machine is the image's.
use Rattle.std.proofs.Common.{subst}
use Rattle.risc_machine.specs.Exec.{Runs}
use Rattle.risc_load.specs.Loaded.{loaded_state}
use Rattle.ps_build.proofs.Seen.{run_seen}
use Rattle.ps_build.proofs.Told.{runs_of, budget_of}
use Rattle.ps_build.proofs.run.run_view.Goals as goal

pub returns-clause-runs : goal.returns-clause-runs
returns-clause-runs g c =
    let old = g.C.Console.world c.args.console.now in
    let new = g.C.Console.world c.run-stop.new.console in
    let left = c.run-stop.new.machine in
    let steps = subst (λ state. Runs c.args.max_steps state old left new c.run-stop.result) c.in_ok-machine.ensures.ok
    c.run-stop.ensures.steps in
    runs_of c.args.image.now c.args.budget c.args.max_steps left old new c.outcome_of.result c.run-stop.result
    (budget_of c.args.image.now c.args.budget c.in_ok-machine.ensures.fits)
    (run_seen c.args.max_steps (loaded_state c.args.image.now c.args.budget) left old new c.run-stop.result steps)
    c.outcome_of.ensures
