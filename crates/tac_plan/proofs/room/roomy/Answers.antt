-- Roomy code may stand in the place of the code, and fills its room.
use Rattle.tac_plan.proofs.Roomy.{is_passed_roomy, fills_roomy}
use Rattle.tac_plan.proofs.room.roomy.Goals as goal

pub returns-clause-passed : goal.returns-clause-passed
returns-clause-passed c = is_passed_roomy c.args.tac.now c.put_together.result c.put_together.ensures

pub returns-clause-fills : goal.returns-clause-fills
returns-clause-fills c = fills_roomy c.args.tac.now c.put_together.result c.put_together.ensures
