-- A run that is traced is refused for what its image is refused for.
use Rattle.std.proofs.Common.{inl, inr, sym, subst}
use Rattle.risc_image.specs.Refusal.{IsRefused}
use Rattle.ps_build.specs.Runs.{IsRunRefused}
use Rattle.ps_build.proofs.Results.{no_image}
use Rattle.ps_trace.proofs.traced.run_traced.Goals as goal

pub returns-in-Err-clause-refused : goal.returns-in-Err-clause-refused
returns-in-Err-clause-refused g c =
    let built = c.args.tracing.prepared.now.text.mapped.built in
    let refusal = c.in-Err.refusal in
    let refused : IsRefused built refusal =
    subst (λ bytes. IsRefused bytes refusal) c.bytes-bytes.ensures c.in-Err.ensures.err in
    inr (inl (subst (IsRunRefused built c.args.budget) (sym c.from.ensures)
    (no_image built c.args.budget refusal refused)))
