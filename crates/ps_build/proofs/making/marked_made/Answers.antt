-- The code keeps its invariant, and the program weighs little; where its code is refused, no image has room for it.
use Rattle.std.proofs.Common.{sym, subst}
use Rattle.tac_rt.specs.Bodies.{run_time_routines}
use Rattle.ps_tree.specs.Checked.{program_in}
use Rattle.ps_lower_code.specs.Programs.{code_of}
use Rattle.tac_plan.specs.Roomy.{HasRoom}
use Rattle.ps_build.proofs.Rooms.{has_room}
use Rattle.ps_build.proofs.Words.{refused}
use Rattle.ps_build.proofs.making.marked_made.Goals as goal

pub lower_marked-requires-clause-sound : goal.lower_marked-requires-clause-sound
lower_marked-requires-clause-sound c = c.code_is_sound.ensures
    (program_in c.args.checked.now) c.requires.within_limits c.requires.formed

pub lower_marked-requires-clause-light : goal.lower_marked-requires-clause-light
lower_marked-requires-clause-light c = c.weights_are_small.ensures
    (program_in c.args.checked.now) c.requires.within_limits c.requires.formed

pub returns-in_err-code-clause-err : goal.returns-in_err-code-clause-err
returns-in_err-code-clause-err c =
    refused c.from_residual.result (code_of run_time_routines (program_in c.args.checked.now)) _
    (c.code_is_sound.ensures (program_in c.args.checked.now) c.requires.within_limits c.requires.formed)
    (has_room c.routines_are_bounded.ensures (program_in c.args.checked.now) c.requires.within_limits)
    c.from_residual.ensures.1 c.in_err-code.ensures.refused

pub returns-clause-room : goal.returns-clause-room
returns-clause-room c =
    subst HasRoom (sym c.in_ok-code.ensures.code)
    (has_room c.routines_are_bounded.ensures (program_in c.args.checked.now) c.requires.within_limits)
