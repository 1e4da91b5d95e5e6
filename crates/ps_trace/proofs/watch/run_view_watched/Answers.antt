-- The run of the loaded machine is the image's.
use Rattle.std.proofs.Common.{subst}
use Rattle.ps_build.specs.Slices.{ComesTo, IsLeft}
use Rattle.ps_build.proofs.InSlices.{comes_runs, left_runs}
use Rattle.ps_build.proofs.Told.{budget_of}
use Rattle.ps_trace.proofs.watch.run_view_watched.Goals as goal

pub returns-in_default-clause-left : goal.returns-in_default-clause-left
returns-in_default-clause-left g c =
    let old = g.C.Console.world c.args.console.now in
    let new = g.C.Console.world c.run_watched.new.console in
    let left = c.run_watched.new.machine in
    let fits = budget_of c.args.image.now c.args.budget c.in_ok-machine.ensures.fits in
    left_runs c.args.image.now c.args.budget c.args.max_steps left old new fits
    (subst (λ state. IsLeft c.args.max_steps state old left new) c.in_ok-machine.ensures.ok
    c.in_default.ensures.left)

pub returns-clause-runs : goal.returns-clause-runs
returns-clause-runs g c =
    let old = g.C.Console.world c.args.console.now in
    let new = g.C.Console.world c.run_watched.new.console in
    let left = c.run_watched.new.machine in
    let fits = budget_of c.args.image.now c.args.budget c.in_ok-machine.ensures.fits in
    comes_runs c.args.image.now c.args.budget c.args.max_steps left old new c.outcome_of-outcome.result c.in-Some.stop
    fits
    (subst (λ state. ComesTo c.args.max_steps state old left new c.in-Some.stop) c.in_ok-machine.ensures.ok
    c.in-Some.ensures.stopped) c.outcome_of-outcome.ensures
