-- Images and the stack that they need.
use Rattle.std.specs.Prelude.{◌≢◌, ℕ, ◌≤◌, List, slice_get, IfSome}
use Rattle.behavior.specs.Endings.{Stack, Heap}
use Rattle.behavior.specs.Transcripts.{AreBytes}
use Rattle.risc_image.specs.Image.{Image}
use Rattle.risc_load.specs.Shows.{frame_bytes, IsBudget}
use Rattle.risc_emit_laws.specs.Outcome.{image_outcome}
use Rattle.ps_needs_least.specs.Paths.{HoldsAll}
use Rattle.ps_build.specs.Headline.{Compiles}

-- under each budget with so much stack and more, on each input of bytes and after any count of steps, the image is not
-- stopped for stack
abbrev pub IsNeverOutOfStack : Image → (stack : ℕ) → Type 0
IsNeverOutOfStack image least = (heap stack : ℕ) → IsBudget image heap stack → least ≤ stack → (input : List ℕ)
    → AreBytes input → (steps line : ℕ) → (image_outcome image heap stack input steps).1 ≢ Stack line

-- nor for heap, under any budget
abbrev pub IsNeverOutOfHeap : Image → Type 0
IsNeverOutOfHeap image = (heap stack : ℕ) (input : List ℕ) (steps line : ℕ)
    → (image_outcome image heap stack input steps).1 ≢ Heap line

-- An image that does what the program of a text means is never stopped for stack, if the stack can hold each path of
-- calls of the program, with the frames of the image's own table.
abbrev pub NeverOutOfStack : Type 0
NeverOutOfStack = (text bytes : List ℕ) → AreBytes text → (compiles : Compiles text bytes) → (least : ℕ)
    → HoldsAll compiles.checked (frame_bytes compiles.image) least → IsNeverOutOfStack compiles.image least

-- the trap table has no row of a stop for heap
abbrev pub MakesNoObject : Image → Type 0
MakesNoObject image = (k : ℕ) → IfSome (slice_get image.traps k) (λ row. row.error ≢ 13)

abbrev pub NeverOutOfHeap : Type 0
NeverOutOfHeap = (image : Image) → MakesNoObject image → IsNeverOutOfHeap image
