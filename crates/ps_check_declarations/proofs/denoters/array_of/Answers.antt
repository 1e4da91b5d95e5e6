use Rattle.ps_check_judgement.proofs.Lists.{handed_on}
use Rattle.ps_check_declarations.proofs.DenoterLemmas.{arrays_inside, arrays_fault}
use Rattle.ps_check_declarations.proofs.denoters.array_of.Goals as goal

pub loop-at-preserved : goal.loop-at-preserved
loop-at-preserved c = arrays_inside _ _ _ _ _ _ _ _ _ c.in-Some.ensures.items c.in_ok-ty.ensures c.loop-at.invariant

pub returns-in_err-ty : goal.returns-in_err-ty
returns-in_err-ty c = handed_on _ _ _ _ c.from_residual.ensures.1
    (arrays_fault _ _ _ _ _ _ _ _ _ c.in-Some.ensures.items c.in_err-ty.ensures c.loop-at.invariant)
