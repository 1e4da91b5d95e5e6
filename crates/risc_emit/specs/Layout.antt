-- How frames are laid out, and what an activation and an object are charged for. A frame of the program holds from its
-- beginning the link and the caller's frame, 65 operands for calls, where a run-time routine's frame also is, the
-- stack's limit and the heap's next address, then the slots, the frame block and the scratch block. A run-time
-- routine's link comes after its 8 operands.
use Rattle.std.specs.Prelude.{ℕ, ◌+◌, ◌*◌, Bool, nat_lt, if◌then◌else◌, List, length, slice_get, Option, Some, None}
use Rattle.tac_code.specs.declared.code.TacRoutine.{TacRoutine}
use Rattle.tac_code.specs.Meaning.{Code, routines}
use Rattle.risc_alloc.specs.declared.homes.Home.{Home}
use Rattle.risc_alloc.specs.Homes.{temporaries_in}
use Rattle.risc_emit_relation.specs.Context.{Context}

abbrev pub is_of_program : Code → ℕ → Bool
is_of_program code r = nat_lt r (length code.program)

abbrev pub routine_at : Code → ℕ → Option TacRoutine
routine_at code r = slice_get (routines code) r

abbrev pub frame_in : Option TacRoutine → ℕ
frame_in None = 0
frame_in (Some routine) = routine.frame

abbrev pub scratch_in : Option TacRoutine → ℕ
scratch_in None = 0
scratch_in (Some routine) = routine.scratch

-- ---- offsets in the frame of a routine, in bytes

abbrev pub link_at : Code → ℕ → ℕ
link_at code r = if is_of_program code r then 0 else 40

abbrev pub slots_at : Code → ℕ → ℕ
slots_at code r = if is_of_program code r then 276 else 44

abbrev pub frame_at : Code → ℕ → ℕ
frame_at code r = slots_at code r + 4 * temporaries_in (routine_at code r)

abbrev pub scratch_at : Code → ℕ → ℕ
scratch_at code r = frame_at code r + frame_in (routine_at code r)

abbrev pub used : Code → ℕ → ℕ
used code r = scratch_at code r + scratch_in (routine_at code r)

-- ---- costs, in bytes

abbrev pub frame_cost : Code → ℕ → ℕ
frame_cost code r = if is_of_program code r then used code r else 0

-- no object is without bytes, so no two have the same address
abbrev pub object_cost : ℕ → ℕ
object_cost bytes = if nat_lt bytes 4 then 4 else bytes

abbrev pub object_cost_in : Option ℕ → ℕ
object_cost_in None = 0
object_cost_in (Some bytes) = object_cost bytes

-- The code with its layout, before the places of words are known: which pieces an instruction has depends on this
-- alone.
abbrev pub laid_out : Code → List Home → Context
laid_out code homes =
    record {
      code = code;
      costs = frame_cost code;
      sizes = λ t. object_cost_in (slice_get code.objects t);
      homes = homes;
      site = λ r k. 0;
      entry = λ r. 0;
      constant = λ r k. 0;
      resume = λ r k t. 0;
      line = λ l. None;
      trap = λ l. None;
      link_at = link_at code;
      slots_at = slots_at code;
      frame_at = frame_at code;
      scratch_at = scratch_at code;
      used = used code;
      heap_at = 0;
      base = 0;
      size = 0;
      bottom = 0;
    }
