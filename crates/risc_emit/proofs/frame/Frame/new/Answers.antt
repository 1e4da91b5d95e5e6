use Rattle.risc_emit.proofs.Homes.{homes_room, homes_are_own}
use Rattle.risc_emit.proofs.frame.Frame.new.Goals as goal

pub homes_from-requires : goal.homes_from-requires
homes_from-requires c =
    homes_room c.args.tac.now c.args.homes.now c.requires.homes c.args.number c.args.first c.routine.result.now
    c.requires.first c.routine.ensures

pub invariant_of-result : goal.invariant_of-result
invariant_of-result c = (
  c.offsets_of.ensures,
  homes_are_own c.args.tac.now c.args.homes.now c.requires.homes
      c.args.number c.args.first c.routine.result.now c.requires.first c.routine.ensures _ c.requires.exists
      c.homes_from.ensures,
)
