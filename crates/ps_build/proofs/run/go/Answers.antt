-- The image that was built is read as itself, so what was run does what the program means.
use Rattle.std.proofs.Common.{inl, inr, sym, subst}
use Rattle.std.proofs.lemmas.Result.{IfOk-weaker, IfErr-weaker}
use Rattle.risc_image.specs.Format.{IsImage}
use Rattle.ps_build.specs.Runs.{Runs, IsLoadRefused}
use Rattle.ps_build.specs.Goes.{Goes, IsGoRefused}
use Rattle.ps_build.proofs.run.go.Goals as goal

pub returns-in-Err-clause-refused : goal.returns-in-Err-clause-refused
returns-in-Err-clause-refused g c = inl c.in-Err.ensures.refused

pub returns-in-Err-read-clause-refused : goal.returns-in-Err-read-clause-refused
returns-in-Err-read-clause-refused g c =
    let made = c.in-Ok.ensures.compiles in
    absurd (c.in-Err-read.ensures.exact made.image
    (subst (λ bytes. IsImage bytes made.image) (sym c.bytes.ensures) made.is_image))

pub returns-clause-runs : goal.returns-clause-runs
returns-clause-runs g c =
    let made = c.in-Ok.ensures.compiles in
    let old = g.C.Console.world c.args.console.now in
    let new = g.C.Console.world c.run_view.new.console in
    let same = c.in-Ok-read.ensures.exact made.image
    (subst (λ bytes. IsImage bytes made.image) (sym c.bytes.ensures) made.is_image) in
    IfOk-weaker c.run_view.result (Runs c.in-Ok-read.view c.args.budget c.args.max_steps old new)
    (Goes c.args.text.now c.args.budget c.args.max_steps old new) (λ outcome runs. record {
      bytes = c.in-Ok.built;
      built = c.in-Ok.ensures.built;
      compiles = made;
      runs = subst (λ image. Runs image c.args.budget c.args.max_steps old new outcome) same runs;
    }) c.run_view.ensures.runs

pub returns-clause-refused : goal.returns-clause-refused
returns-clause-refused g c =
    let made = c.in-Ok.ensures.compiles in
    let same = c.in-Ok-read.ensures.exact made.image
    (subst (λ bytes. IsImage bytes made.image) (sym c.bytes.ensures) made.is_image) in
    IfErr-weaker c.run_view.result (IsLoadRefused c.in-Ok-read.view c.args.budget)
    (IsGoRefused c.args.text.now c.args.budget)
    (λ refusal h. inr (record {
      bytes = c.in-Ok.built;
      built = c.in-Ok.ensures.built;
      compiles = made;
      refused = subst (λ image. IsLoadRefused image c.args.budget refusal) same h;
    })) c.run_view.ensures.refused
