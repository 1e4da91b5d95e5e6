-- A program's words in their order: the start, then each routine's entry and instructions, then the constants. Its
-- places are sums of counts, and the rows of its tables are read off the pieces.
use Rattle.std.specs.Prelude.{◌≡◌, ℕ, suc, ◌+◌, ◌*◌, ◌%◌, ◌<◌, ◌≤◌, false, List, [], ◌∷◌, ◌++◌, length, map, take}
use Rattle.std.specs.Prelude.{slice_get, Option, Some, ℤ}
use Rattle.tac_code.specs.declared.code.Instruction.{Instruction}
use Rattle.tac_code.specs.declared.code.Instruction.TheVariants.{Text}
use Rattle.tac_code.specs.declared.code.Value.{Value}
use Rattle.tac_code.specs.declared.code.TacRoutine.{TacRoutine}
use Rattle.tac_code.specs.declared.code.Value.TheVariants.{Number}
use Rattle.tac_code.specs.Numbers.{word_of}
use Rattle.tac_code.specs.Memory.{Words, constant_words, constant_at}
use Rattle.tac_code.specs.Meaning.{Code, routines, text_at}
use Rattle.risc_image.specs.declared.header.TheConstants.{MAX_COUNT}
use Rattle.risc_alloc.specs.declared.homes.Home.{Home}
use Rattle.risc_machine_laws.specs.View.{IsAt}
use Rattle.risc_image.specs.declared.rows.FrameRow.{FrameRow}
use Rattle.risc_image.specs.declared.rows.ObjectRow.{ObjectRow}
use Rattle.risc_image.specs.declared.rows.TrapRow.{TrapRow}
use Rattle.risc_image.specs.declared.rows.CallRow.{CallRow}
use Rattle.risc_image.specs.Image.{Image}
use Rattle.risc_emit_relation.specs.Context.{Context, is_program}
use Rattle.risc_emit_forms.specs.Pieces.{Piece, Fails, Enters, EntersAt, instr_at}
use Rattle.risc_emit_forms.specs.Forms.{form, entry_form}
use Rattle.risc_emit_laws.specs.Plan.{object_cost, Plan, context}
use Rattle.risc_emit_laws.specs.Emits.{start_form, IsLaidOut}

-- what pieces depend on: the code, the homes and the layout, not where words are
pub record Alike (c c' : Context) : Type 0 where
  pub code : c'.code ≡ c.code
  pub homes : c'.homes ≡ c.homes
  pub costs : (r : ℕ) → c'.costs r ≡ c.costs r
  pub sizes : (t : ℕ) → c'.sizes t ≡ c.sizes t
  pub link_at : (r : ℕ) → c'.link_at r ≡ c.link_at r
  pub slots_at : (r : ℕ) → c'.slots_at r ≡ c.slots_at r
  pub frame_at : (r : ℕ) → c'.frame_at r ≡ c.frame_at r
  pub scratch_at : (r : ℕ) → c'.scratch_at r ≡ c.scratch_at r

-- ---- the pieces

module _ (c : Context) where
  -- of the instructions of a routine, from one at a place on
  abbrev pub body_pieces : (r k : ℕ) → List Instruction → List Piece
  body_pieces r k [] = []
  body_pieces r k (i ∷ is) = form c r k i ++ body_pieces r (suc k) is

  abbrev pub routine_pieces : ℕ → TacRoutine → List Piece
  routine_pieces r routine = entry_form c r routine ++ body_pieces r 0 routine.body

  -- of routines, from a number on
  abbrev pub routines_pieces : ℕ → List TacRoutine → List Piece
  routines_pieces r [] = []
  routines_pieces r (x ∷ xs) = routine_pieces r x ++ routines_pieces (suc r) xs

  abbrev pub start_pieces : List TacRoutine → List Piece
  start_pieces [] = []
  start_pieces (x ∷ xs) = start_form c x

  abbrev pub program_pieces : List Piece
  program_pieces = start_pieces (routines c.code) ++ routines_pieces 0 (routines c.code)

  -- ---- their places

  abbrev pub entry_place : ℕ → ℕ
  entry_place r =
      length (start_pieces (routines c.code)) + length (routines_pieces 0 (take r (routines c.code)))

  abbrev pub site_place : ℕ → TacRoutine → ℕ → ℕ
  site_place r routine k =
      entry_place r + length (entry_form c r routine) + length (body_pieces r 0 (take k routine.body))

-- ---- the rows of the tables, of pieces from a place on

abbrev pub trap_row_of : ℕ → Piece → List TrapRow
trap_row_of at (Fails condition number line) = record { link = 4 * (at + 1); error = number; line = line } ∷ []
trap_row_of at _ = []

abbrev pub trap_rows_of : ℕ → List Piece → List TrapRow
trap_rows_of at [] = []
trap_rows_of at (p ∷ ps) = trap_row_of at p ++ trap_rows_of (at + 1) ps

abbrev pub call_row_of : ℕ → Piece → List CallRow
call_row_of at (Enters r line) = record { link = 4 * (at + 1); line = line } ∷ []
call_row_of at (EntersAt q line) = record { link = 4 * (at + 1); line = line } ∷ []
call_row_of at _ = []

abbrev pub call_rows_of : ℕ → List Piece → List CallRow
call_rows_of at [] = []
call_rows_of at (p ∷ ps) = call_row_of at p ++ call_rows_of (at + 1) ps

-- ---- the words of the constants, after the pieces

abbrev pub value_word : Option Value → ℕ
value_word (Some (Number x)) = word_of x
value_word _ = 0

abbrev pub text_words : List ℕ → List ℕ
text_words bytes = map value_word (constant_words bytes)

abbrev pub instruction_texts : Instruction → List ℕ
instruction_texts (Text t bytes) = text_words bytes
instruction_texts _ = []

abbrev pub body_texts : List Instruction → List ℕ
body_texts [] = []
body_texts (i ∷ is) = instruction_texts i ++ body_texts is

abbrev pub routines_texts : List TacRoutine → List ℕ
routines_texts [] = []
routines_texts (x ∷ xs) = body_texts x.body ++ routines_texts xs

-- the first word of an instruction's constant among all
abbrev pub text_place : Code → ℕ → TacRoutine → ℕ → ℕ
text_place code r routine k =
    length (routines_texts (take r (routines code))) + length (body_texts (take k routine.body))

-- the words of an image's code are `first` followed by those of the constants, and the plan says where these are
pub record IsTexted (code : Code) (image : Image) (constant : ℕ → ℕ → ℕ) (first : List ℕ) : Type 0 where
  pub words : image.code ≡ first ++ routines_texts (routines code)
  pub places : (r k : ℕ) (routine : TacRoutine) → slice_get (routines code) r ≡ Some routine → k < length routine.body
      → constant r k ≡ length first + text_place code r routine k

-- a row for each routine of the program, from a number on, and for each type of objects
module _ (c : Context) where
  abbrev pub frame_rows_of : ℕ → List TacRoutine → List FrameRow
  frame_rows_of r [] = []
  frame_rows_of r (x ∷ xs) = record { entry = 4 * entry_place c r; bytes = c.costs r } ∷ frame_rows_of (suc r) xs

  abbrev pub object_rows_of : ℕ → List ℕ → List ObjectRow
  object_rows_of t [] = []
  object_rows_of t (x ∷ xs) = record { pointer_type = t; bytes = c.sizes t } ∷ object_rows_of (suc t) xs

  -- the tables of an image are these
  pub record IsTabled (image : Image) : Type 0 where
    pub global : image.global ≡ 0
    pub most : length image.code ≤ MAX_COUNT
    pub pieces : length (program_pieces c) ≤ length image.code
    pub frames : image.frames ≡ frame_rows_of 0 c.code.program
    pub objects : image.objects ≡ object_rows_of 0 c.code.objects
    pub traps : image.traps ≡ trap_rows_of 0 (program_pieces c)
    pub calls : image.calls ≡ Some (call_rows_of 0 (program_pieces c))
    pub costs : (r : ℕ) → c.costs r % 4 ≡ 0
    pub sizes : (t : ℕ) → c.sizes t % 4 ≡ 0

-- ---- an image that is built so

module _ (code : Code) (homes : List Home) (image : Image) (plan : Plan) (c : Context) where
  -- c has the layout, but no places
  pub record IsDrawn : Type 0 where
    pub of_code : c.code ≡ code
    pub alike : (heap stack : ℕ) → Alike c (context code homes plan image heap stack)
    pub laid : (heap stack : ℕ) → IsLaidOut (context code homes plan image heap stack)
    -- the plan's places are those of the pieces; for a routine also the one after its last instruction
    pub entries : (r : ℕ) (routine : TacRoutine) → slice_get (routines code) r ≡ Some routine → plan.entry r
        ≡ entry_place c r
    pub sites : (r k : ℕ) (routine : TacRoutine) → slice_get (routines code) r ≡ Some routine → k ≤ length routine.body
        → plan.site r k ≡ site_place c r routine k
    -- as in Stand
    pub parameters : (r : ℕ) (routine : TacRoutine) → is_program c r ≡ false → slice_get (routines code) r
        ≡ Some routine → 8 + 4 * routine.parameters ≤ plan.link_at r
    pub texts : (r k : ℕ) (ws : Words) → constant_at (text_at code r k) ≡ Some ws
        → (plan.constant r k + length ws ≤ length image.code)
        × ((i : ℕ) → (x : ℤ) → slice_get ws i ≡ Some (Some (Number x)) → slice_get image.code (plan.constant r k + i)
        ≡ Some (word_of x))
    pub sizes : (t bytes : ℕ) → slice_get code.objects t ≡ Some bytes → (object_cost image t % 4 ≡ 0)
        × (bytes ≤ object_cost image t) × (4 ≤ object_cost image t) × (object_cost image t < 4294967296)
    pub few : length (program_pieces c) ≤ MAX_COUNT
    pub words : (heap stack at : ℕ) (p : Piece) → slice_get (program_pieces c) at ≡ Some p → IsAt image.code at
        (instr_at (context code homes plan image heap stack) at p)
    pub traps : image.traps ≡ trap_rows_of 0 (program_pieces c)
    pub calls : image.calls ≡ Some (call_rows_of 0 (program_pieces c))
