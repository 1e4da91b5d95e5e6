-- What is reported of the calls that are open in a machine.
use Rattle.std.specs.Prelude.{ℕ, List, Option, option_map}
use Rattle.risc_machine.specs.Step.{State}
use Rattle.risc_image.specs.Image.{Image}
use Rattle.risc_emit_laws.specs.Outcome.{calls_at}

-- their lines, or none if the image has no call table
unfoldable pub trail_of : Image → State → Option (List ℕ)
trail_of image m = option_map (λ rows. calls_at image m) image.calls
