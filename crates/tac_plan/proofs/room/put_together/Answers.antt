-- The parts are those of roomy code, which keeps the invariant.
use Rattle.tac_plan.proofs.Roomy.{parts_are_sound}
use Rattle.tac_plan.proofs.room.put_together.Goals as goal

pub known-requires : goal.known-requires
known-requires c =
    parts_are_sound c.args.tac.now (record {
      program = c.args.program.items;
      run_time = c.args.run_time.items;
      objects = c.args.objects.items;
    }) c.requires.room c.keeps_invariant.ensures c.requires.program c.requires.run_time c.requires.objects
