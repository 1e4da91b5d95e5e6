use Rattle.std.proofs.Common.{◌∙◌, Err, ap, refl, arith}
use Rattle.ps_parse.specs.Steps.{left_of}
use Rattle.ps_parse.proofs.Faults.{answered}
use Rattle.ps_parse.proofs.fault.begins.Goals as goal

pub returns-in-Ok : goal.returns-in-Ok
returns-in-Ok c = answered c.args.text.now c.args.before.now c.args.more.now c.requires.stopped _ _ (omega arith)
    (c.deref.ensures.value ∙ c.in_ok-tokens.ensures) _ c.in-Ok.ensures _ c.left.ensures

pub returns-in-Err-Unexpected : goal.returns-in-Err-Unexpected
returns-in-Err-Unexpected c =
    let e = c.in-Err-Unexpected.field-0-is in
    rw e (answered c.args.text.now c.args.before.now c.args.more.now c.requires.stopped _ _ (omega arith)
    (c.deref.ensures.value ∙ c.in_ok-tokens.ensures) (Err c.in-Err-Unexpected.left)
    (c.in-Err-Unexpected.ensures (λ none. cc (e, none)) ∙ ap (λ f. Err (left_of f)) e) c.in-Err-Unexpected.left refl)
