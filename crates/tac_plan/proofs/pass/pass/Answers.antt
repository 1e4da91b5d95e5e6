-- What plans make of roomy code may stand in the place of the code, and fills its room.
use Rattle.std.proofs.Common.{◌≡◌, map, subst}
use Rattle.std.specs.Prelude.{Option, IfSome}
use Rattle.tac_code.specs.Meaning.{Code, size}
use Rattle.tac_plan.specs.Passes.{Passes}
use Rattle.tac_plan.proofs.Roomy.{passes_roomy, passes_fill}
use Rattle.tac_plan.proofs.pass.pass.Goals as goal

pub returns-clause-passed : goal.returns-clause-passed
returns-clause-passed c =
    passes_roomy c.args.tac.now c.in_ok-tac.tac c.in-Some.made c.in_ok-tac.ensures.passed
    (subst (λ (made : Option Code). IfSome made (Passes c.in_ok-tac.tac)) c.in-Some.is c.in_ok-made.ensures.made)

pub returns-clause-fills : goal.returns-clause-fills
returns-clause-fills c =
    passes_fill c.args.tac.now c.in_ok-tac.tac c.in-Some.made c.in_ok-tac.ensures.fills
    (subst (λ (made : Option Code). IfSome made
    (λ new_one. map size new_one.program ≡ map size c.in_ok-tac.tac.program)) c.in-Some.is c.in_ok-made.ensures.fills)
