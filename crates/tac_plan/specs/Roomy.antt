-- Code whose routines have all the temporaries that there is room for: what an activation takes is then a matter of the
-- text's code alone, whatever a pass makes of it.
use Rattle.std.specs.Prelude.{◌≡◌, ◌<◌, map}
use Rattle.std.specs.List.{All}
use Rattle.tac_code.specs.declared.code.TheConstants.{BLOCK_LIMIT}
use Rattle.tac_code.specs.declared.code.TacRoutine.{TacRoutine}
use Rattle.tac_code.specs.Meaning.{Code, size}
use Rattle.tac_pass_laws.specs.Passed.{most_temporaries, room}

-- the same routine with as many temporaries as there is room for
abbrev pub with_room : TacRoutine → TacRoutine
with_room routine = record {
  parameters = routine.parameters;
  temporaries = most_temporaries routine;
  frame = routine.frame;
  scratch = routine.scratch;
  line = routine.line;
  body = routine.body;
}

-- the code with such routines of the program; run-time routines stay, since their activations are charged for nothing
abbrev pub roomy : Code → Code
roomy code = record { program = map with_room code.program; run_time = code.run_time; objects = code.objects }

-- each routine's blocks are below the limit with all of these temporaries, too
abbrev pub HasRoom : Code → Type 0
HasRoom code = All (λ routine. room routine < BLOCK_LIMIT) code.program

-- each routine of the new code takes all the room of the old one's
abbrev pub FillsRoom : Code → Code → Type 0
FillsRoom old new = map size new.program ≡ map room old.program
