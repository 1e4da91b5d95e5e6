use Rattle.ps_check_declarations.proofs.DenoterLemmas.{of_type_start, of_type_next, of_type_end}
use Rattle.ps_check_declarations.proofs.Handed.{kept_refused}
use Rattle.ps_check_declarations.proofs.denoters.fields_of_type.Goals as goal

pub loop-name-init : goal.loop-name-init
loop-name-init c = of_type_start _ _ _

pub loop-name-preserved : goal.loop-name-preserved
loop-name-preserved c = of_type_next _ _ _ _ _ _ c.loop-name-test.true c.loop-name.invariant
    c.in_ok-field_of_type.ensures

pub returns-in_err-field_of_type : goal.returns-in_err-field_of_type
returns-in_err-field_of_type c = kept_refused c.from_residual.result _ _ c.from_residual.ensures.1

pub returns : goal.returns
returns c = of_type_end _ _ _ _ _ c.loop-name-test.false c.loop-name.invariant
