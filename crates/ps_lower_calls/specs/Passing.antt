-- What a call passes: for each formal parameter what the meaning binds, and the words that the machine has for it.
use Rattle.std.specs.Prelude.{◌≡◌, ℕ, suc, ◌+◌, ◌*◌, ◌<◌, ◌≤◌, List, [], ◌∷◌, ◌++◌, pos, Option, Some, None, slice_get}
use Rattle.ps_tree.specs.Types.{DataType}
use Rattle.ps_tree.specs.Tree.{Program, routine_at}
use Rattle.tac_code.specs.declared.code.TheConstants.{BLOCK_LIMIT}
use Rattle.tac_code.specs.declared.code.Block.{Block}
use Rattle.tac_code.specs.declared.code.Block.TheVariants.{Scratch as ScratchBlock}
use Rattle.tac_code.specs.declared.code.Value.{Value as Word}
use Rattle.tac_code.specs.declared.code.Value.TheVariants.{Number, Address, Routine as RoutineWord}
use Rattle.tac_code.specs.Memory.{Words}
use Rattle.ps_meaning.specs.Values.{Value, Spot, first, number_of}
use Rattle.ps_meaning.specs.Worlds.{Env}
use Rattle.ps_meaning.specs.Expressions.{Actual, ValueActual, VariableActual, RoutineActual}
use Rattle.ps_lower_layout.specs.Shapes.{Shape, NumberShape, PointerShape, Whole, shape_of, word_count}
use Rattle.ps_lower_layout.specs.Words.{pointer_word, value_words}
use Rattle.ps_lower_layout.specs.Paths.{HasShape}
use Rattle.ps_lower_layout.specs.Frames.{Kind, Own, Reference, Closure, Kinds, no_kind, kind_before}
use Rattle.ps_lower_code.specs.Fits.{tail}
use Rattle.ps_lower_relation.specs.Ghosts.{Slot, OwnSlot, ReferenceSlot, ClosureSlot, Ghost, PlaceAt, RoutineHere}
use Rattle.ps_lower_relation.specs.Ghosts.{EnvAt}
use Rattle.ps_lower_calls.specs.Binding.{variable_slots}

-- A value goes as its word, or as the address of its copy; a variable as its address; a routine with the address of the
-- frame that it was declared in.
pub data Passing : Type 0 where
  PassValue : Shape → Value → Word → Passing
  PassVariable : Shape → Spot → Block → (offset : ℕ) → Passing
  PassRoutine : Kinds → Option Shape → (routine : ℕ) → Env → Word → Passing

abbrev pub passed_actual : Passing → Actual
passed_actual (PassValue shape v x) = ValueActual v
passed_actual (PassVariable shape s b o) = VariableActual s
passed_actual (PassRoutine kinds result r env w) = RoutineActual r env

abbrev pub passed_actuals : List Passing → List Actual
passed_actuals [] = []
passed_actuals (a ∷ rest) = passed_actual a ∷ passed_actuals rest

abbrev pub passed_kind : Passing → Kind
passed_kind (PassValue shape v x) = Own shape
passed_kind (PassVariable shape s b o) = Reference shape
passed_kind (PassRoutine kinds result r env w) = Closure kinds result

abbrev pub passed_kinds : List Passing → Kinds
passed_kinds [] = no_kind
passed_kinds (a ∷ rest) = kind_before (passed_kind a) (passed_kinds rest)

-- a function's result is bound before what is passed, with its first value; no operand has it
abbrev pub with_result : Option DataType → List Passing → List Passing
with_result None ps = ps
with_result (Some type) ps = PassValue (shape_of type) (first type) (Number (pos 0)) ∷ ps

-- in the operands of the call
abbrev pub passed_word : Passing → List Word
passed_word (PassValue shape v x) = x ∷ []
passed_word (PassVariable shape s b o) = Address b o ∷ []
passed_word (PassRoutine kinds result r env w) = RoutineWord r ∷ w ∷ []

abbrev pub passed_words : List Passing → List Word
passed_words [] = []
passed_words (a ∷ rest) = passed_word a ++ passed_words rest

-- the entries of the frame that is bound: the formal parameters, followed by the variables
abbrev pub bound_slots : List Passing → List DataType → (n : ℕ) → List Slot
bound_slots [] types n = variable_slots types n
bound_slots (PassValue shape v x ∷ rest) types n = OwnSlot shape n ∷ bound_slots rest types (suc n)
bound_slots (PassVariable shape s b o ∷ rest) types n = ReferenceSlot shape b o ∷ bound_slots rest types n
bound_slots (PassRoutine kinds result r env w ∷ rest) types n = ClosureSlot kinds result r w ∷ bound_slots rest types n

-- A value of many words that was copied to the caller's scratch block: where it is there, below an end.
pub record CopiedIn (caller : ℕ) (scratch : Words) (end : ℕ) (shape : Shape) (v : Value) (x : Word) : Type 0 where
  pub place : ℕ
  pub is : x ≡ Address (ScratchBlock caller) (4 * place)
  pub within : 4 * (place + word_count shape) ≤ end
  pub small : 4 * (place + word_count shape) < BLOCK_LIMIT
  pub reads : (i : ℕ) → i < word_count shape → slice_get scratch (place + i) ≡ slice_get (value_words shape v) i

-- the words of what is passed: the value's own, or the address of its copy
abbrev pub IsPassed : (caller : ℕ) → Words → (end : ℕ) → Passing → Type 0
IsPassed caller scratch end (PassValue (NumberShape first narrow) v x) = x ≡ Number (number_of v)
IsPassed caller scratch end (PassValue (PointerShape pointer) v x) = x ≡ pointer_word v
IsPassed caller scratch end (PassValue shape v x) = CopiedIn caller scratch end shape v x
IsPassed caller scratch end (PassVariable shape s b o) = Unit {0}
IsPassed caller scratch end (PassRoutine kinds result r env w) = Unit {0}

abbrev pub ArePassed : (caller : ℕ) → Words → (end : ℕ) → List Passing → Type 0
ArePassed caller scratch end [] = Unit {0}
ArePassed caller scratch end (a ∷ rest) = IsPassed caller scratch end a × ArePassed caller scratch end rest

module _ (program : Program) (gs : List Ghost) (made : List ℕ) where
  -- what is known of what is passed
  abbrev pub PassingAt : Passing → Type 0
  PassingAt (PassValue shape v x) = HasShape made v shape
  PassingAt (PassVariable shape s b o) = PlaceAt program gs made s b o (Whole shape)
  PassingAt (PassRoutine kinds result r env w) = RoutineHere program gs made kinds result r
      × EnvAt program gs made env w (tail (routine_at program r).chain)

  abbrev pub PassingsAt : List Passing → Type 0
  PassingsAt [] = Unit {0}
  PassingsAt (a ∷ rest) = PassingAt a × PassingsAt rest
