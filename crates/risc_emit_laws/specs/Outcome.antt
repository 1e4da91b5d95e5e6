-- What a loaded image shows, with the lines of the calls that are open at an error: they are found by a walk from the
-- state in which the machine stopped, by the image's table of calls.
use Rattle.std.specs.Prelude.{ℕ, zero, suc, List, length, Option, option_map, slice_index}
use Rattle.behavior.specs.Endings.{Ending, More, Normal, Fault}
use Rattle.behavior.specs.Transcripts.{Shown}
use Rattle.risc_machine.specs.Step.{State, word_at, start_state}
use Rattle.risc_machine.specs.Exec.{Halt, Running, Stopped, Faulted, fresh, exec, row_at, trap_ending, fault_kind}
use Rattle.risc_image.specs.Image.{Image, call_rows}
use Rattle.risc_image.specs.Format.{word_bytes}
use Rattle.risc_image.specs.Table.{call_at}
use Rattle.risc_load.specs.Shows.{trap_rows}
use Rattle.risc_emit_relation.specs.Walk.{walk}

-- the line of the call that comes back to a link
abbrev pub line_of : Image → ℕ → Option ℕ
line_of image link = option_map (λ row. row.line) (call_at link (call_rows image))

-- the lines of the open calls, innermost first, the first 16: R14 is the innermost frame
abbrev pub calls_at : Image → State → List ℕ
calls_at image m =
    walk (line_of image) (length m.memory) 16 (word_at m.memory) (slice_index m.registers 14)

abbrev pub ending_of : Image → Halt → Ending
ending_of image Running = More
ending_of image (Stopped zero m) = Normal
ending_of image (Stopped (suc k) m) = trap_ending (row_at (suc k) (trap_rows image)) (calls_at image m)
ending_of image (Faulted kind) = Fault (fault_kind kind)

abbrev pub outcome_of : Image → List ℕ × Halt → Shown
outcome_of image r = (r.0, ending_of image r.1)

-- what the loaded image shows under a budget of heap and stack bytes, after each count of steps
abbrev pub image_outcome : Image → (heap stack : ℕ) → (input : List ℕ) → (steps : ℕ) → Shown
image_outcome image heap stack input steps =
    outcome_of image (exec steps (start_state (word_bytes image.code) image.global heap stack) (fresh input))
