use Rattle.std.proofs.Common.{◌≡◌, ◌≢◌, ◌-◌, length, take, drop, ap, sym, ◌∙◌, subst}
use Rattle.ps_parse.specs.declared.error.ReadFailure.TheVariants.{OutOfMemory}
use Rattle.ps_parse.specs.Steps.{stop, left_of}
use Rattle.ps_parse.specs.Reading.{reading}
use Rattle.ps_parse.specs.Untaken.{NoneTakesAt, IsFault}
use Rattle.ps_parse.proofs.Faults.{refused_told, stopped_before}
use Rattle.ps_parse.proofs.fault.refusal_of.Goals as goal

pub returns-in-Ok : goal.returns-in-Ok
returns-in-Ok c =
    let at = c.saturating_sub-at.result in
    refused_told c.args.source.now c.args.tokens.now c.in-Unexpected.left at c.in-Ok.fault c.refusal_at.result
    c.saturating_sub-at.ensures (subst (λ f. f ≢ OutOfMemory → stop
    (reading c.args.source.now 500 c.args.tokens.now) ≡ left_of f) c.in-Unexpected.is c.requires.stopped
    (λ e. cc e))
    (subst (λ f. f ≢ OutOfMemory → NoneTakesAt c.args.source.now c.args.tokens.now
    (length c.args.tokens.now - left_of f)) c.in-Unexpected.is c.requires.untaken (λ e. cc e))
    (subst (λ text. IsFault text (take at c.args.tokens.now)
    (take (length c.args.tokens.now - at) (drop at c.args.tokens.now)) c.in-Ok.fault) c.bytes.ensures.bytes
    c.in-Ok.ensures) c.refusal_at.ensures

pub fault_of-requires : goal.fault_of-requires
fault_of-requires c =
    subst (λ text. stop (reading text 500 (take c.saturating_sub-at.result c.args.tokens.now)) ≡ 0)
    (sym c.bytes.ensures.bytes)
    (ap (λ n. stop (reading c.args.source.now 500 (take n c.args.tokens.now))) c.saturating_sub-at.ensures
    ∙ stopped_before c.args.source.now c.args.tokens.now c.in-Unexpected.left
    (subst (λ f. f ≢ OutOfMemory → stop (reading c.args.source.now 500 c.args.tokens.now) ≡ left_of f)
    c.in-Unexpected.is c.requires.stopped (λ e. cc e)))
