-- A program placed in an image: where its parts are, and what the image's tables make of it in a memory.
use Rattle.std.specs.Prelude.{ℕ, ◌+◌, ◌-◌, ◌*◌, List, length, Option, option_map, get_or}
use Rattle.tac_code.specs.Meaning.{Code}
use Rattle.risc_alloc.specs.declared.homes.Home.{Home}
use Rattle.risc_alloc.specs.Homes.{home_of}
use Rattle.risc_image.specs.Image.{Image}
use Rattle.risc_image.specs.Table.{trap_at}
use Rattle.risc_load.specs.Shows.{frame_bytes, object_bytes}
use Rattle.risc_emit_relation.specs.Context.{Context}
use Rattle.risc_emit_forms.specs.Forms.{accept}
use Rattle.risc_emit_laws.specs.Outcome.{line_of}

-- the bytes that an activation of a routine and an object of a type are charged for
abbrev pub frame_cost : Image → ℕ → ℕ
frame_cost image r = get_or (frame_bytes image) r 0

abbrev pub object_cost : Image → ℕ → ℕ
object_cost image t = get_or (object_bytes image) t 0

-- the number of the error and its line, by the link of a stop
abbrev pub trap_of : Image → ℕ → Option (ℕ × ℕ)
trap_of image link = option_map (λ row. (row.error, row.line)) (trap_at link image.traps)

-- The word at which an instruction's words begin (routine and place), a routine's entry, a constant (routine and place
-- of its instruction); and for each routine the offsets in its frame: of the link, of the first slot, of the frame
-- block and of the scratch block, and the end of what is used.
pub record Plan : Type 0 where
  pub site : ℕ → ℕ → ℕ
  pub entry : ℕ → ℕ
  pub constant : ℕ → ℕ → ℕ
  pub link_at : ℕ → ℕ
  pub slots_at : ℕ → ℕ
  pub frame_at : ℕ → ℕ
  pub scratch_at : ℕ → ℕ
  pub used : ℕ → ℕ

-- The code, with its temporaries' homes, as it is in the image, with `heap` bytes of heap and `stack` of stack. A
-- call's last words accept its result, so it comes back to where these begin.
abbrev pub before_resumes : Code → List Home → Plan → Image → (heap stack : ℕ) → Context
before_resumes code homes plan image heap stack =
    let heap_at = 4 * length image.code + image.global in
    let base = heap_at + heap in
    let size = base + stack in
    record {
      code = code;
      costs = frame_cost image;
      sizes = object_cost image;
      homes = homes;
      site = plan.site;
      entry = plan.entry;
      constant = plan.constant;
      resume = λ r k t. 0;
      line = line_of image;
      trap = trap_of image;
      link_at = plan.link_at;
      slots_at = plan.slots_at;
      frame_at = plan.frame_at;
      scratch_at = plan.scratch_at;
      used = plan.used;
      heap_at = heap_at;
      base = base;
      size = size;
      bottom = size - frame_cost image 0;
    }

abbrev pub context : Code → List Home → Plan → Image → (heap stack : ℕ) → Context
context code homes plan image heap stack =
    let c = before_resumes code homes plan image heap stack in
    record c { resume = λ r k t. plan.site r k - length (accept c r (home_of code homes r t)) }
