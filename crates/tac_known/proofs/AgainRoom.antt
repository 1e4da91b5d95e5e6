-- The code with copies has the room of the code that it was made from.
use Rattle.std.proofs.Common.{◌<◌, ◌≤◌, length, arith}
use Rattle.std.proofs.lemmas.Option.{slice_get_within}
use Rattle.tac_code.specs.declared.code.TacRoutine.{TacRoutine}
use Rattle.tac_code.specs.Meaning.{Code}
use Rattle.tac_code.proofs.Items.{get_stays}
use Rattle.tac_pass_laws.specs.Passed.{room, IsPassed}
use Rattle.tac_known.specs.Again.{AgainRoutine, IsAgain}
use Rattle.tac_known.proofs.AgainWhole.{again_keeps}
use Rattle.tac_known.proofs.Room.{in_first}

within_room : (routine routine' : TacRoutine) → AgainRoutine routine routine' → room routine' ≤ room routine
within_room routine routine' l =
    let p = l.heading.parameters in
    let f = l.heading.frame in
    let s = l.heading.scratch in
    let t = l.temporaries in
    omega (arith, p, f, s, t)

pub again_are_passed : (old new : Code) → IsAgain old new → IsPassed old new
again_are_passed old new made = record {
  keeps = again_keeps old new made;
  room = record {
    program = made.program;
    run_time = made.run_time;
    objects = made.objects;
    sizes = λ r routine e.
        let one = made.routines r routine (get_stays old.program old.run_time r routine e) in
        let lt : r < length old.program = slice_get_within old.program r routine e in
        let as_many = made.program in (
          one.0,
          in_first new.program new.run_time r one.0 (omega (arith, lt, as_many)) one.1,
          within_room routine one.0 one.2,
        );
  };
}
