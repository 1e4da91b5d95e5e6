-- What is reported of the stack and the heap that the image of a text needs.
use Rattle.std.specs.Prelude.{◌≡◌, ℕ, false, true, List}
use Rattle.risc_load.specs.Shows.{frame_bytes}
use Rattle.risc_image.specs.Image.{Image}
use Rattle.ps_needs_least.specs.Answers.{IsAnswer}
use Rattle.ps_needs_least.specs.declared.least.Need.{Need}
use Rattle.ps_needs_least.specs.declared.least.Need.TheVariants.{Least, Endless}
use Rattle.ps_build.specs.Headline.{Compiles}
use Rattle.ps_build.specs.Made.{IsBuilt}
use Rattle.ps_needs_image.specs.Laws.{IsNeverOutOfStack, IsNeverOutOfHeap, MakesNoObject}
use Rattle.ps_needs_image.specs.declared.needed.Needed.{Needed}

-- with the least stack and more, no run of the image is stopped for stack
abbrev pub IsEnough : Image → Need → Type 0
IsEnough image (Least bytes path) = IsNeverOutOfStack image bytes
IsEnough image (Endless path) = Unit {0}

-- The text has an image that was made from it as `build` makes one, and that does what its program means. The least
-- stack is the one that holds each path of calls of the program, with the frames of this image; with it, no run of the
-- image is stopped for stack. Objects are reported if a row of its trap table is one for a stop for heap.
pub record IsNeeded (text : List ℕ) (needed : Needed) : Type 0 where
  pub bytes : List ℕ
  pub built : IsBuilt text bytes
  pub compiles : Compiles text bytes
  pub frames : needed.frames.items ≡ frame_bytes compiles.image
  pub answer : IsAnswer compiles.checked (frame_bytes compiles.image) needed.need
  pub enough : IsEnough compiles.image needed.need
  pub heap : needed.makes_objects ≡ false → IsNeverOutOfHeap compiles.image
  pub objects : needed.makes_objects ≡ true → MakesNoObject compiles.image → ⊥
