-- What is required of an image that was made from three-address code: its words are the code's, and its tables have
-- their rows.
use Rattle.std.specs.Prelude.{◌≡◌, ℕ, suc, ◌+◌, ◌*◌, ◌%◌, ◌<◌, ◌≤◌, true, false, nat_lt, if◌then◌else◌, List, [], ◌∷◌}
use Rattle.std.specs.Prelude.{◌++◌, length, slice_get, Some, ℤ, pos, negsuc}
use Rattle.risc_image.specs.declared.header.TheConstants.{MAX_COUNT}
use Rattle.risc_word.specs.declared.instr.Operation.TheVariants as op
use Rattle.risc_word.specs.declared.instr.Operand.TheVariants.{Content, Constant}
use Rattle.risc_word.specs.declared.instr.Width.TheVariants.{Word}
use Rattle.risc_word.specs.declared.instr.Condition.TheVariants as on
use Rattle.risc_word.specs.declared.instr.Instr.TheVariants as word
use Rattle.tac_code.specs.declared.code.Instruction.{Instruction}
use Rattle.tac_code.specs.declared.code.TacRoutine.{TacRoutine}
use Rattle.tac_code.specs.declared.code.Value.TheVariants.{Number}
use Rattle.tac_code.specs.Numbers.{word_of}
use Rattle.tac_code.specs.Memory.{Words, constant_at}
use Rattle.tac_code.specs.Meaning.{Code, routines, fetch, text_at}
use Rattle.risc_alloc.specs.declared.homes.Home.{Home}
use Rattle.risc_alloc.specs.declared.homes.Home.TheVariants.{Slot}
use Rattle.risc_image.specs.Image.{Image}
use Rattle.risc_emit_relation.specs.Context.{Context, home, is_program, slot_at}
use Rattle.risc_emit_forms.specs.Pieces.{AtEntry, Piece, Plain, Goes, Fails, Stands, Left}
use Rattle.risc_emit_forms.specs.Forms.{skip, frame_below, form, entry_form}
use Rattle.risc_emit_laws.specs.Plan.{Plan, context}

-- The first words, from place 0 on: a branch over the stub, the stub for all stops, and the test of the stack for the
-- program block. R14 is the end of memory, R1 the first address of the stack and R0 that of the heap. The program
-- block's frame then begins at R12; it receives the stack's limit and the heap's next address, and R13 keeps its
-- address. There is no link yet: R15 is 0.
abbrev pub start_form : Context → TacRoutine → List Piece
start_form c block =
    skip on.Always 2 ∷ Plain (word.Move 12 (Constant (negsuc 63))) ∷ Plain (word.Store Word 15 12 (pos 4))
    ∷ (if nat_lt (c.costs 0) 16777153 then frame_below c 0 (c.costs 0)
    ++ (Plain (word.Operate op.Sub 2 12 (Content 1)) ∷ Fails on.Less 12 block.line ∷ Plain
    (word.Store Word 1 12 (pos 268)) ∷ Plain (word.Store Word 0 12 (pos 272)) ∷ Plain (word.Move 13 (Content 12))
    ∷ Goes on.Always (AtEntry 0) ∷ []) else Fails on.Always 12 block.line ∷ [])

-- The layout of frames: offsets rise from the link to the end of what is used. Nothing here depends on the budgets.
pub record IsLaidOut (c : Context) : Type 0 where
  pub link : (r : ℕ) → c.link_at r + 4 ≤ c.slots_at r
  pub slots : (r t k : ℕ) → home c r t ≡ Slot k → slot_at c r k + 4 ≤ c.frame_at r
  pub slots_before : (r : ℕ) → c.slots_at r ≤ c.frame_at r
  pub frame : (r : ℕ) (routine : TacRoutine) → slice_get (routines c.code) r ≡ Some routine → c.frame_at r
      + routine.frame ≤ c.scratch_at r
  pub scratch : (r : ℕ) (routine : TacRoutine) → slice_get (routines c.code) r ≡ Some routine → c.scratch_at r
      + routine.scratch ≤ c.used r
  pub frame_before : (r : ℕ) → c.frame_at r ≤ c.scratch_at r
  pub scratch_before : (r : ℕ) → c.scratch_at r ≤ c.used r
  pub aligned : (r : ℕ) → (c.link_at r % 4 ≡ 0) × (c.slots_at r % 4 ≡ 0) × (c.frame_at r % 4 ≡ 0)
      × (c.scratch_at r % 4 ≡ 0)
  pub whole : (r : ℕ) → c.costs r % 4 ≡ 0
  pub program : (r : ℕ) → is_program c r ≡ true → (c.link_at r ≡ 0) × (276 ≤ c.slots_at r) × (c.used r ≤ c.costs r)
  pub leaf : (r : ℕ) → is_program c r ≡ false → (8 ≤ c.link_at r) × (c.used r ≤ 268)
  pub constants : (r k : ℕ) → 4 * c.constant r k ≤ c.heap_at

-- where words are
pub record Stand (c : Context) (words : List ℕ) : Type 0 where
  pub start : (block : TacRoutine) → slice_get (routines c.code) 0 ≡ Some block → Stands c words 0 (start_form c block)
  -- each instruction, with its successor after it
  pub body : (r k : ℕ) (i : Instruction) → fetch c.code r k ≡ Some i → Left c words (c.site r k) (form c r k i)
      (c.site r (suc k))
  pub entry : (r : ℕ) (routine : TacRoutine) → slice_get (routines c.code) r ≡ Some routine → Left c words (c.entry r)
      (entry_form c r routine) (c.site r 0)
  -- first words are within the words
  pub within : (r k : ℕ) (routine : TacRoutine) → slice_get (routines c.code) r ≡ Some routine → k < length routine.body
      → c.site r k ≤ MAX_COUNT
  pub within_entry : (r : ℕ) → r < length (routines c.code) → c.entry r ≤ MAX_COUNT
  -- a run-time routine's parameters come before its link
  pub parameters : (r : ℕ) (routine : TacRoutine) → is_program c r ≡ false → slice_get (routines c.code) r
      ≡ Some routine → 8 + 4 * routine.parameters ≤ c.link_at r
  -- the words of the constants
  pub texts : (r k : ℕ) (ws : Words) → constant_at (text_at c.code r k) ≡ Some ws
      → (c.constant r k + length ws ≤ length words)
      × ((i : ℕ) → (x : ℤ) → slice_get ws i ≡ Some (Some (Number x)) → slice_get words (c.constant r k + i) ≡ Some
      (word_of x))
  -- objects are charged for as they are allocated
  pub sizes : (t bytes : ℕ) → slice_get c.code.objects t ≡ Some bytes → (c.sizes t % 4 ≡ 0) × (bytes ≤ c.sizes t)
      × (4 ≤ c.sizes t) × (c.sizes t < 4294967296)

-- The image is the code's, with these homes of its temporaries, whatever the budgets are.
pub record Emits (code : Code) (homes : List Home) (image : Image) : Type 0 where
  pub plan : Plan
  pub laid : (heap stack : ℕ) → IsLaidOut (context code homes plan image heap stack)
  pub stand : (heap stack : ℕ) → Stand (context code homes plan image heap stack) image.code
