-- The theorem of emission.
use Rattle.std.specs.Prelude.{◌≡◌, ℕ, List, None}
use Rattle.behavior.specs.Endings.{Stuck}
use Rattle.behavior.specs.Transcripts.{AreBytes}
use Rattle.behavior.specs.Same.{Same}
use Rattle.tac_code.specs.Meaning.{Code}
use Rattle.tac_code.specs.Sound.{IsSound}
use Rattle.tac_code.specs.Run.{tac_run}
use Rattle.risc_alloc.specs.declared.homes.Home.{Home}
use Rattle.risc_alloc.specs.Valid.{Valid}
use Rattle.risc_machine_laws.specs.Start.{AreWords}
use Rattle.risc_image.specs.Image.{Image, IsWellFormed}
use Rattle.risc_load.specs.Shows.{IsBudget, image_shows}
use Rattle.risc_emit_laws.specs.Outcome.{image_outcome}
use Rattle.risc_emit_relation.specs.Context.{Context}
use Rattle.risc_emit_laws.specs.Plan.{frame_cost, object_cost, Plan}
use Rattle.risc_emit_laws.specs.Emits.{Emits}
use Rattle.risc_emit_laws.specs.Drawn.{IsTabled, IsDrawn}

-- The loaded image does what the code means, under each budget and on each input of bytes on which the code is never
-- stuck: the same transcripts and endings, errors with their numbers, lines and open calls, stops for stack and heap,
-- and runs without end.
abbrev pub EmissionKeeps : Type 0
EmissionKeeps =
    (code : Code) (homes : List Home) (image : Image) → IsSound code → Valid code homes → IsWellFormed image
    → AreWords image.code → Emits code homes image
    → (heap stack : ℕ) → IsBudget image heap stack → (input : List ℕ) → AreBytes input
    → ((k : ℕ) → (tac_run code (frame_cost image) (object_cost image) stack heap input k).1 ≡ Stuck → ⊥)
    → Same (tac_run code (frame_cost image) (object_cost image) stack heap input) (image_outcome image heap stack input)

-- an image without a table of calls reports no open calls
abbrev pub WithoutCalls : Type 0
WithoutCalls =
    (image : Image) → image.calls ≡ None → (heap stack : ℕ) (input : List ℕ) (steps : ℕ)
    → image_outcome image heap stack input steps ≡ image_shows image heap stack input steps

-- an image whose words are a program's pieces in their order, and whose tables are read off them, is the code's
abbrev pub DrawnEmits : Type 0
DrawnEmits =
    (code : Code) (homes : List Home) (image : Image) (plan : Plan) (c : Context) → IsDrawn code homes image plan c
    → Emits code homes image

-- and it is well formed, for sound code
abbrev pub TabledIsFormed : Type 0
TabledIsFormed = (c : Context) → IsSound c.code → (image : Image) → IsTabled c image → IsWellFormed image
