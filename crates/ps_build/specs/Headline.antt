-- The main theorem: an image that was built does what its program means.
use Rattle.std.specs.Prelude.{◌≡◌, ℕ, List, length}
use Rattle.behavior.specs.Transcripts.{AreBytes}
use Rattle.behavior.specs.Same.{Same}
use Rattle.risc_image.specs.Image.{Image}
use Rattle.risc_image.specs.Format.{IsImage}
use Rattle.risc_load.specs.Shows.{frame_bytes, object_bytes, IsBudget}
use Rattle.risc_emit_laws.specs.Outcome.{image_outcome}
use Rattle.ps_tree.specs.Tree.{Program}
use Rattle.ps_meaning.specs.Run.{run_within}
use Rattle.ps_meaning.specs.Costs.{Bounded}
use Rattle.ps_build.specs.Accepts.{IsProgramOf}

-- The image does what the checked program means: under each budget and on each input of bytes, the image shows after
-- some number of steps whatever the program shows at some fuel, and nothing else; this includes errors with the lines
-- of the calls open at them.
pub record DoesAsMeant (checked : Program) (image : Image) : Type 0 where
  pub routines : length image.frames ≡ length checked.routines
  pub types : length image.objects ≡ length checked.domains
  pub bounded : Bounded checked (frame_bytes image) (object_bytes image)
  pub same : (heap stack : ℕ) → IsBudget image heap stack → (input : List ℕ) → AreBytes input → Same
      (run_within checked (frame_bytes image) (object_bytes image) stack heap input)
      (image_outcome image heap stack input)

-- The bytes are an image that does what the text's program means. The text is accepted as this one checked program.
pub record Compiles (text bytes : List ℕ) : Type 0 where
  pub checked : Program
  pub program : IsProgramOf text checked
  pub image : Image
  pub is_image : IsImage bytes image
  pub does : DoesAsMeant checked image
