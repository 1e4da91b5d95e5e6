-- What an emitted image has besides the code's words: how many words it takes, and what its tables charge for.
use Rattle.std.specs.Prelude.{◌≡◌, ℕ, ◌+◌, ◌≤◌, List, length, slice_get, Some, IsSome}
use Rattle.tac_code.specs.declared.code.TacRoutine.{TacRoutine}
use Rattle.tac_code.specs.Meaning.{Code, routines, size}
use Rattle.risc_alloc.specs.declared.homes.Home.{Home}
use Rattle.risc_image.specs.Image.{Image}
use Rattle.risc_emit_laws.specs.Plan.{frame_cost, object_cost}
use Rattle.risc_emit_laws.specs.Drawn.{program_pieces, routines_texts}
use Rattle.risc_emit.specs.Layout.{laid_out}

-- the words of the pieces, and then those of the constants
abbrev pub code_words : Code → List Home → ℕ
code_words code homes = length (program_pieces (laid_out code homes)) + length (routines_texts (routines code))

-- The image is of the format's second version: it has a call table. Its other tables have a row for each routine of the
-- program and for each type of objects. A routine is charged for its blocks, its temporaries and 276 bytes more; an
-- object for its bytes, but at least for 4.
pub record HasBounds (code : Code) (image : Image) : Type 0 where
  pub calls : IsSome image.calls
  pub routines : length image.frames ≡ length code.program
  pub types : length image.objects ≡ length code.objects
  pub frames : (r : ℕ) (routine : TacRoutine) → slice_get code.program r ≡ Some routine → frame_cost image r ≡ 276
      + size routine
  pub objects : (t bytes : ℕ) → slice_get code.objects t ≡ Some bytes → (4 ≤ object_cost image t)
      × (object_cost image t ≤ bytes + 4)
