-- Images that were made through three-address code.
use Rattle.std.specs.Prelude.{◌≡◌, ℕ, ◌+◌, ◌≤◌, List, length, get_or, slice_get, Some, IsSome}
use Rattle.behavior.specs.Endings.{Stuck}
use Rattle.behavior.specs.Transcripts.{AreBytes}
use Rattle.behavior.specs.Same.{Same}
use Rattle.ps_tree.specs.Tree.{Program}
use Rattle.ps_meaning.specs.Run.{run_within}
use Rattle.ps_meaning.specs.Costs.{Bounded}
use Rattle.tac_code.specs.declared.code.TacRoutine.{TacRoutine}
use Rattle.tac_code.specs.Meaning.{Code}
use Rattle.tac_code.specs.Sound.{IsSound}
use Rattle.tac_code.specs.Run.{tac_run}
use Rattle.tac_pass_laws.specs.Passed.{room, IsPassed}
use Rattle.risc_alloc.specs.declared.homes.Home.{Home}
use Rattle.risc_alloc.specs.Valid.{Valid}
use Rattle.risc_image.specs.Image.{Image}
use Rattle.risc_image.specs.Format.{IsImage}
use Rattle.risc_load.specs.Shows.{frame_bytes, object_bytes}
use Rattle.risc_emit_laws.specs.Emits.{Emits}
use Rattle.risc_emit_laws.specs.Plan.{frame_cost, object_cost}
use Rattle.ps_build.specs.Accepts.{IsCodeOfText}

-- The code does what the program means, under any costs and budgets and on any input of bytes, and there is a next step
-- wherever it has not reached its end.
pub record IsCodeOf (checked : Program) (code : Code) : Type 0 where
  pub same : (F G : List ℕ) (S H : ℕ) (input : List ℕ) → AreBytes input → Same (run_within checked F G S H input)
      (tac_run code (λ r. get_or F r 0) (λ t. get_or G t 0) S H input)
  pub goes_on : (F G : List ℕ) (S H : ℕ) (input : List ℕ) → AreBytes input → (n : ℕ)
      → (tac_run code (λ r. get_or F r 0) (λ t. get_or G t 0) S H input n).1 ≡ Stuck → ⊥

-- The image is that of code of the program, whose temporaries have homes, and its tables keep the bounds on frames and
-- objects.
pub record IsMadeOf (checked : Program) (image : Image) : Type 0 where
  pub code : Code
  pub lowered : IsCodeOf checked code
  pub sound : IsSound code
  pub homes : List Home
  pub placed : Valid code homes
  pub emitted : Emits code homes image
  pub routines : length image.frames ≡ length checked.routines
  pub types : length image.objects ≡ length checked.domains
  pub bounded : Bounded checked (frame_bytes image) (object_bytes image)

-- the image is that of the code, with homes for its temporaries
pub record IsEmitted (code : Code) (image : Image) : Type 0 where
  pub homes : List Home
  pub placed : Valid code homes
  pub emitted : Emits code homes image

-- The image is that of the code, or of code made from it by a pass that may replace it.
pub record IsEmittedFor (code : Code) (image : Image) : Type 0 where
  pub passed : Code
  pub may : IsPassed code passed
  pub sound : IsSound passed
  pub emitted : IsEmitted passed image

-- What the tables of an image charge, given the code that it was made for: for a routine 276 bytes and those of its
-- room, whatever a pass made of it; for an object its bytes, but at least 4. It has a call table.
pub record KeepsBounds (code : Code) (image : Image) : Type 0 where
  pub calls : IsSome image.calls
  pub routines : length image.frames ≡ length code.program
  pub types : length image.objects ≡ length code.objects
  pub frames : (r : ℕ) (routine : TacRoutine) → slice_get code.program r ≡ Some routine → frame_cost image r ≡ 276
      + room routine
  pub objects : (t bytes : ℕ) → slice_get code.objects t ≡ Some bytes → (4 ≤ object_cost image t)
      × (object_cost image t ≤ bytes + 4)

-- the bytes are such an image of the code, within the bounds on frames and objects
pub record AreEmitted (code : Code) (bytes : List ℕ) : Type 0 where
  pub image : Image
  pub is_image : IsImage bytes image
  pub emitted : IsEmittedFor code image
  pub bounds : KeepsBounds code image

-- What `build` makes of a text: the bytes are an image of the three-address code of its program.
pub record IsBuilt (text bytes : List ℕ) : Type 0 where
  pub code : Code
  pub is_code : IsCodeOfText text code
  pub emitted : AreEmitted code bytes

-- the bytes are an image that was made so from the program
pub record AreMadeOf (checked : Program) (bytes : List ℕ) : Type 0 where
  pub image : Image
  pub is_image : IsImage bytes image
  pub made : IsMadeOf checked image
