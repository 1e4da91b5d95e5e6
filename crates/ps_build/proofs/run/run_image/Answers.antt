-- The run of the image that was read is that of the bytes.
use Rattle.std.proofs.Common.{sym, subst}
use Rattle.std.proofs.lemmas.Result.{IfOk-weaker, IfErr-weaker}
use Rattle.ps_build.specs.Runs.{Runs, RunsImage, IsLoadRefused, IsRunRefused}
use Rattle.ps_build.proofs.Results.{no_image, not_loaded}
use Rattle.ps_build.proofs.run.run_image.Goals as goal

pub returns-in-Err-clause-refused : goal.returns-in-Err-clause-refused
returns-in-Err-clause-refused g c =
    subst (IsRunRefused c.args.image.now c.args.budget) (sym c.from.ensures)
    (no_image c.args.image.now c.args.budget c.in-Err.refusal c.in-Err.ensures.err)

pub returns-clause-runs : goal.returns-clause-runs
returns-clause-runs g c =
    let old = g.C.Console.world c.args.console.now in
    let new = g.C.Console.world c.run_view.new.console in
    IfOk-weaker c.run_view.result (Runs c.in-Ok.view c.args.budget c.args.max_steps old new)
    (RunsImage c.args.image.now c.args.budget c.args.max_steps old new) (λ outcome runs. record {
      image = c.in-Ok.view;
      is_image = c.in-Ok.ensures.ok;
      only = λ other h. c.in-Ok.ensures.exact other h;
      runs = runs;
    }) c.run_view.ensures.runs

pub returns-clause-refused : goal.returns-clause-refused
returns-clause-refused g c =
    IfErr-weaker c.run_view.result (IsLoadRefused c.in-Ok.view c.args.budget)
    (IsRunRefused c.args.image.now c.args.budget)
    (λ refusal h. not_loaded c.args.image.now c.args.budget c.in-Ok.view refusal c.in-Ok.ensures.ok h)
    c.run_view.ensures.refused
