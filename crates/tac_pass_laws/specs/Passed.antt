-- Code that may replace other code: it shows what that shows, and keeps within its room.
use Rattle.std.specs.Prelude.{◌≡◌, ℕ, ◌+◌, ◌*◌, ◌≤◌, max, length, slice_get, Some}
use Rattle.tac_code.specs.declared.code.TacRoutine.{TacRoutine}
use Rattle.tac_code.specs.Meaning.{Code}
use Rattle.tac_pass.specs.Keeps.{Keeps}

-- how many temporaries there is room for: as many as there are, but at least 8 besides those in which parameters arrive
abbrev pub most_temporaries : TacRoutine → ℕ
most_temporaries routine = max (routine.parameters + 8) routine.temporaries

-- the bytes of a routine's blocks, and 4 for each temporary that there is room for
abbrev pub room : TacRoutine → ℕ
room routine = routine.frame + routine.scratch + 4 * most_temporaries routine

-- as many routines, each within the room of the old one, and objects of the same types
pub record HasRoomOf (old new : Code) : Type 0 where
  pub program : length new.program ≡ length old.program
  pub run_time : length new.run_time ≡ length old.run_time
  pub objects : new.objects ≡ old.objects
  pub sizes : (r : ℕ) (routine : TacRoutine) → slice_get old.program r ≡ Some routine → (routine' : TacRoutine)
      × (slice_get new.program r ≡ Some routine') × (room routine' ≤ room routine)

-- The new code may replace the old one: under each cost and budget and on each input it shows whatever the old one
-- shows, after as many turns, unless the old one is stuck; and it keeps within the old one's room.
pub record IsPassed (old new : Code) : Type 0 where
  pub keeps : Keeps old new
  pub room : HasRoomOf old new
