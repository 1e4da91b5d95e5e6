-- An image of code that may stand in the place of other code is an image for that.
use Rattle.std.proofs.Common.{◌≡◌, ℕ, ◌+◌, ◌<◌, List, length, map, slice_get, Some, sym, ap, ◌∙◌, subst}
use Rattle.std.specs.Prelude.{option_map}
use Rattle.std.proofs.lemmas.Option.{same_Some, slice_get-map}
use Rattle.tac_code.specs.declared.code.TacRoutine.{TacRoutine}
use Rattle.tac_code.specs.Meaning.{Code, size}
use Rattle.tac_code.specs.Sound.{IsSound}
use Rattle.tac_pass_laws.specs.Passed.{room, IsPassed}
use Rattle.tac_plan.specs.Roomy.{FillsRoom}
use Rattle.ps_check_judgement.proofs.Items.{there_is}
use Rattle.tac_rt.specs.Bodies.{run_time_routines}
use Rattle.ps_lower_code.specs.Programs.{code_of}
use Rattle.risc_image.specs.Image.{Image}
use Rattle.risc_emit.specs.Emitted.{HasBounds}
use Rattle.risc_emit_laws.specs.Plan.{frame_cost}
use Rattle.ps_build.specs.Accepts.{IsCodeOfText}
use Rattle.ps_build.specs.Laws.{FramesAreOfTheText}
use Rattle.ps_build.specs.Made.{IsEmitted, IsEmittedFor, KeepsBounds}

pub emitted_for : (old new : Code) (image : Image) → IsPassed old new → IsSound new → IsEmitted new image
    → IsEmittedFor old image
emitted_for old new image passed sound emitted = record {
  passed = new;
  may = passed;
  sound = sound;
  emitted = emitted;
}

-- what fills the room of the old code's routine takes just that
size_at : (news olds : List TacRoutine) (r : ℕ) (new old : TacRoutine) → map size news ≡ map room olds → slice_get news r
    ≡ Some new → slice_get olds r ≡ Some old → size new ≡ room old
size_at news olds r new old fills e f =
    same_Some (size new) (room old)
    (sym (slice_get-map size news r ∙ ap (option_map size) e)
    ∙ (ap (λ (ns : List ℕ). slice_get ns r) fills ∙ (slice_get-map room olds r ∙ ap (option_map room) f)))

pub bounds_for : (old new : Code) (image : Image) → IsPassed old new → FillsRoom old new → HasBounds new image
    → KeepsBounds old image
bounds_for old new image passed fills has =
    record {
      calls = has.calls;
      routines = has.routines ∙ passed.room.program;
      types = has.types ∙ ap length passed.room.objects;
      frames = λ r routine e.
          let there = passed.room.sizes r routine e in
          has.frames r there.0 there.1
          ∙ ap (λ (n : ℕ). 276 + n) (size_at new.program old.program r there.0 routine fills there.1 e);
      objects = λ t bytes e. has.objects t bytes (ap (λ list. slice_get list t) passed.room.objects ∙ e);
    }

-- ---- whatever image a text has

one_code : (text : List ℕ) (code code' : Code) → IsCodeOfText text code → IsCodeOfText text code' → code ≡ code'
one_code text code code' a b =
    a.is_code ∙ (ap (code_of run_time_routines) (b.is_program.only a.checked a.is_program.accepts) ∙ sym b.is_code)

same_frames : (code : Code) (image image' : Image) → KeepsBounds code image → KeepsBounds code image' → (r : ℕ)
    → r < length code.program → frame_cost image r ≡ frame_cost image' r
same_frames code image image' a b r lt =
    let there = there_is code.program r lt in
    a.frames r there.0 there.1 ∙ sym (b.frames r there.0 there.1)

pub frames_are_of_the_text : FramesAreOfTheText
frames_are_of_the_text text bytes bytes' one other =
    same_frames one.code one.emitted.image other.emitted.image one.emitted.bounds
    (subst (λ (code : Code). KeepsBounds code other.emitted.image)
    (one_code text other.code one.code other.is_code one.is_code) other.emitted.bounds)
