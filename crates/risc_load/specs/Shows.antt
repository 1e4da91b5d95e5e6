-- What a loaded image shows: its tables' costs, its traps' rows, and what it shows after each count of steps.
use Rattle.std.specs.Prelude.{◌≡◌, ℕ, ◌+◌, ◌*◌, ◌%◌, ◌≤◌, List, length, map}
use Rattle.behavior.specs.Transcripts.{Shown}
use Rattle.risc_machine.specs.Exec.{image_run}
use Rattle.risc_machine.specs.declared.limits.TheConstants.{MAX_MEMORY}
use Rattle.risc_image.specs.declared.rows.TrapRow.{TrapRow}
use Rattle.risc_image.specs.Image.{Image}
use Rattle.risc_image.specs.Format.{word_bytes}

-- the bytes of the routines' frames and of the pointer types' objects, by the image's own tables
abbrev pub frame_bytes : Image → List ℕ
frame_bytes image = map (λ row. row.bytes) image.frames

abbrev pub object_bytes : Image → List ℕ
object_bytes image = map (λ row. row.bytes) image.objects

-- a row of the trap table: the link, the number of the error, and its line
abbrev pub trap_row : TrapRow → ℕ × ℕ × ℕ
trap_row row = (row.link, row.error, row.line)

abbrev pub trap_rows : Image → List (ℕ × ℕ × ℕ)
trap_rows image = map trap_row image.traps

-- what the loaded image shows under a budget of heap and stack bytes, after each count of steps
abbrev pub image_shows : Image → ℕ → ℕ → List ℕ → ℕ → Shown
image_shows image heap stack input steps = image_run (word_bytes image.code) image.global
    (trap_rows image) heap stack input steps

-- A budget with which the image can be loaded: the processor's memory has room for code, globals, heap and stack.
pub record IsBudget (image : Image) (heap stack : ℕ) : Type 0 where
  pub heap_even : heap % 4 ≡ 0
  pub stack_even : stack % 4 ≡ 0
  pub fits : 4 * length image.code + image.global + heap + stack ≤ MAX_MEMORY
