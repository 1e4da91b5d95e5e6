-- The run of the image that was read is that of the bytes.
use Rattle.std.proofs.Common.{sym, subst}
use Rattle.std.proofs.lemmas.Result.{IfErr-weaker}
use Rattle.ps_build.specs.Runs.{Runs, RunsImage, IsLoadRefused, IsRunRefused}
use Rattle.ps_build.specs.Slices.{IsRunLeft, IsImageLeft}
use Rattle.ps_build.proofs.Results.{if_ended_in, if_left_in, no_image, not_loaded}
use Rattle.ps_trace.proofs.watch.run_image_watched.Goals as goal

pub returns-in-Err-clause-refused : goal.returns-in-Err-clause-refused
returns-in-Err-clause-refused g c =
    subst (IsRunRefused c.args.image.now c.args.budget) (sym c.from.ensures)
    (no_image c.args.image.now c.args.budget c.in-Err.refusal c.in-Err.ensures.err)

pub returns-clause-runs : goal.returns-clause-runs
returns-clause-runs g c =
    let old = g.C.Console.world c.args.console.now in
    let new = g.C.Console.world c.run_view_watched.new.console in
    if_ended_in (λ ended. ended.outcome) c.run_view_watched.result
    (Runs c.in-Ok.view c.args.budget c.args.max_steps old new)
    (RunsImage c.args.image.now c.args.budget c.args.max_steps old new) (λ outcome runs. record {
      image = c.in-Ok.view;
      is_image = c.in-Ok.ensures.ok;
      only = λ other h. c.in-Ok.ensures.exact other h;
      runs = runs;
    }) c.run_view_watched.ensures.runs

pub returns-clause-left : goal.returns-clause-left
returns-clause-left g c =
    let old = g.C.Console.world c.args.console.now in
    let new = g.C.Console.world c.run_view_watched.new.console in
    if_left_in (λ ended. ended.outcome) c.run_view_watched.result
    (IsRunLeft c.in-Ok.view c.args.budget c.args.max_steps old new)
    (IsImageLeft c.args.image.now c.args.budget c.args.max_steps old new) (λ h. record {
      steps = h.steps;
      fewer = h.fewer;
      runs = record {
        image = c.in-Ok.view;
        is_image = c.in-Ok.ensures.ok;
        only = λ other i. c.in-Ok.ensures.exact other i;
        runs = h.runs;
      };
    }) c.run_view_watched.ensures.left

pub returns-clause-refused : goal.returns-clause-refused
returns-clause-refused g c =
    IfErr-weaker c.run_view_watched.result (IsLoadRefused c.in-Ok.view c.args.budget)
    (IsRunRefused c.args.image.now c.args.budget)
    (λ refusal h. not_loaded c.args.image.now c.args.budget c.in-Ok.view refusal c.in-Ok.ensures.ok h)
    c.run_view_watched.ensures.refused
