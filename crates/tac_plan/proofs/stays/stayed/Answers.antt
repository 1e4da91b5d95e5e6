use Rattle.std.proofs.Common.{length, refl, ap}
use Rattle.tac_code.specs.Sound.{limits_of}
use Rattle.tac_plan.proofs.Staying.{all_stay}
use Rattle.tac_plan.proofs.stays.stayed.Goals as goal

pub returns-clause-passes : goal.returns-clause-passes
returns-clause-passes c =
    all_stay c.args.number c.new-nothing.result (limits_of c.args.tac.now c.args.routine.now) c.args.routine.now
    c.shared.result (ap length c.new-nothing.ensures.items) c.requires refl refl c.shared.ensures
