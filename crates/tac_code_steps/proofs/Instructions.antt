-- One step at each instruction.
use Rattle.std.proofs.Common.{◌≡◌, ℕ, suc, ◌+◌, ◌-◌, ◌*◌, ℤ, pos, Bool, true, not, nat_lt, if◌then◌else◌, List, Option}
use Rattle.std.proofs.Common.{Some, ap, ◌∙◌, slice_get, length}
use Rattle.behavior.specs.Endings.{Normal, Stuck}
use Rattle.tac_code.specs.declared.code.Block.{Block}
use Rattle.tac_code.specs.declared.code.Block.TheVariants.{Constant}
use Rattle.tac_code.specs.declared.code.Value.{Value}
use Rattle.tac_code.specs.declared.code.Value.TheVariants.{Number, Address, Routine}
use Rattle.tac_code.specs.declared.code.Operand.{Operand}
use Rattle.tac_code.specs.declared.code.Base.{Base}
use Rattle.tac_code.specs.declared.code.Operator.{Operator}
use Rattle.tac_code.specs.declared.code.BitOperator.{BitOperator}
use Rattle.tac_code.specs.declared.code.Relation.{Relation}
use Rattle.tac_code.specs.declared.code.Instruction.{Instruction}
use Rattle.tac_code.specs.declared.code.Instruction.TheVariants.{Literal, Copy, Arithmetic, Bits, Compare, CheckRange}
use Rattle.tac_code.specs.declared.code.Instruction.TheVariants.{CheckPointer, Text, Offset, Index, RoutineValue, Load}
use Rattle.tac_code.specs.declared.code.Instruction.TheVariants.{Store, LoadByte, StoreByte, Jump, JumpBack, Branch}
use Rattle.tac_code.specs.declared.code.Instruction.TheVariants.{BranchBack, Call, CallValue, Return, Trap, Take, Put}
use Rattle.tac_code.specs.declared.code.Instruction.TheVariants.{New, End}
use Rattle.tac_code.specs.Numbers.{truth, computed, bits, is_in_range, steps_above}
use Rattle.tac_code.specs.Memory.{Memory, load, load_byte, store, store_byte}
use Rattle.tac_code.specs.Meaning.{State, Step, Over, with_some, with_number, with_address, with_routine}
use Rattle.tac_code.specs.Meaning.{with_byte_value, pointer_of, is_nil, related, operand_value, base_value, text_at}
use Rattle.tac_code.specs.Meaning.{fetch, goes_on, goes_to, gives, stores, gives_address, gives_computed}
use Rattle.tac_code.specs.Meaning.{gives_component, checks, calls, fails, leave, takes, puts, makes, act}
use Rattle.tac_code.specs.declared.code.TheConstants.{BLOCK_LIMIT}
use Rattle.tac_code_steps.specs.Runs.{Machine, step_of}

abbrev pub At : Machine → State → Instruction → Type 0
At m s i = fetch m.code s.current.routine s.current.place ≡ Some i

abbrev act_of : Machine → Option Instruction → State → Step
act_of m i s = act m.code m.frames m.objects m.stack m.heap i s

at_step : (m : Machine) (s : State) (i : Instruction) → At m s i → step_of m s ≡ act_of m (Some i) s
at_step m s i h = ap (λ x. act_of m x s) h

pub literal_step : (m : Machine) (s : State) (t : ℕ) (z : ℤ) → At m s (Literal t z) → step_of m s ≡ gives t (Number z) s
literal_step m s t z h =
    at_step m s (Literal t z) h

pub copy_step : (m : Machine) (s : State) (t a : ℕ) (v : Value) → At m s (Copy t a) → s.current.temporaries a ≡ Some v
    → step_of m s ≡ gives t v s
copy_step m s t a v h e =
    at_step m s (Copy t a) h
    ∙ ap (λ o. with_some o (λ v. gives t v s)) e

pub arithmetic_step : (m : Machine) (s : State) (operator : Operator) (t a : ℕ) (b : Operand) (number line : ℕ)
    (x y : ℤ) → At m s (Arithmetic operator t a b number line) → s.current.temporaries a ≡ Some (Number x)
    → operand_value s.current.temporaries b ≡ Some (Number y) → step_of m s ≡ gives_computed m.code t
    (computed operator number x y) line s
arithmetic_step m s operator t a b number line x y h e f =
    at_step m s (Arithmetic operator t a b number line) h
    ∙ ap (λ o. with_number o (λ x. with_number (operand_value s.current.temporaries b)
    (λ y. gives_computed m.code t (computed operator number x y) line s))) e
    ∙ ap (λ o. with_number o (λ y. gives_computed m.code t (computed operator number x y) line s)) f

pub bits_step : (m : Machine) (s : State) (operator : BitOperator) (t a : ℕ) (b : Operand) (x y : ℤ) → At m s
    (Bits operator t a b) → s.current.temporaries a ≡ Some (Number x) → operand_value s.current.temporaries b ≡ Some
    (Number y) → step_of m s ≡ gives t (Number (bits operator x y)) s
bits_step m s operator t a b x y h e f =
    at_step m s (Bits operator t a b) h
    ∙ ap (λ o. with_number o (λ x. with_number (operand_value s.current.temporaries b)
    (λ y. gives t (Number (bits operator x y)) s))) e
    ∙ ap (λ o. with_number o (λ y. gives t (Number (bits operator x y)) s)) f

pub compare_step : (m : Machine) (s : State) (relation : Relation) (t a : ℕ) (b : Operand) (holds : Bool) → At m s
    (Compare relation t a b) → related relation (s.current.temporaries a) (operand_value s.current.temporaries b)
    ≡ Some holds → step_of m s ≡ gives t (Number (truth holds)) s
compare_step m s relation t a b holds h e =
    at_step m s (Compare relation t a b) h
    ∙ ap (λ o. with_some o (λ holds. gives t (Number (truth holds)) s)) e

pub range_step : (m : Machine) (s : State) (a : ℕ) (low high : ℤ) (number line : ℕ) (x : ℤ) → At m s
    (CheckRange a low high number line) → s.current.temporaries a ≡ Some (Number x) → step_of m s ≡ checks m.code
    (is_in_range low high x) number line s
range_step m s a low high number line x h e =
    at_step m s (CheckRange a low high number line) h
    ∙ ap (λ o. with_number o (λ x. checks m.code (is_in_range low high x) number line s)) e

pub pointer_step : (m : Machine) (s : State) (a number line : ℕ) (p : Option ℕ) → At m s (CheckPointer a number line)
    → pointer_of (s.current.temporaries a) ≡ Some p → step_of m s ≡ checks m.code (not (is_nil p)) number line s
pointer_step m s a number line p h e =
    at_step m s (CheckPointer a number line) h
    ∙ ap (λ o. with_some o (λ p. checks m.code (not (is_nil p)) number line s)) e

pub text_step : (m : Machine) (s : State) (t : ℕ) (bytes : List ℕ) → At m s (Text t bytes) → step_of m s ≡ gives t
    (Address (Constant s.current.routine s.current.place) 0) s
text_step m s t bytes h =
    at_step m s (Text t bytes) h

pub offset_step : (m : Machine) (s : State) (t : ℕ) (a : Base) (n extent : ℕ) (block : Block) (offset : ℕ) → At m s
    (Offset t a n extent) → base_value s.current a ≡ Some (Address block offset) →
    nat_lt (offset + n) BLOCK_LIMIT ≡ true
    → step_of m s ≡ gives t (Address block (offset + n)) s
offset_step m s t a n extent block offset h e f =
    at_step m s (Offset t a n extent) h
    ∙ ap (λ o. with_address o (λ block offset. gives_address t block (offset + n) s)) e
    ∙ ap (λ o. if o then gives t (Address block (offset + n)) s else Over Stuck) f

pub index_step : (m : Machine) (s : State) (t : ℕ) (a : Base) (i : ℕ) (low high : ℤ) (width number line : ℕ)
    (block : Block) (offset : ℕ) (x : ℤ) → At m s (Index t a i low high width number line) → base_value s.current a
    ≡ Some (Address block offset) → s.current.temporaries i ≡ Some (Number x) → step_of m s ≡ gives_component m.code
    (is_in_range low high x) t block (offset + steps_above low x * width) number line s
index_step m s t a i low high width number line block offset x h e f =
    at_step m s (Index t a i low high width number line) h
    ∙ ap (λ o. with_address o (λ block offset. with_number (s.current.temporaries i)
    (λ x. gives_component m.code (is_in_range low high x) t block
    (offset + steps_above low x * width) number line s))) e
    ∙ ap (λ o. with_number o (λ x. gives_component m.code (is_in_range low high x) t block
    (offset + steps_above low x * width) number line s)) f

pub routine_step : (m : Machine) (s : State) (t r : ℕ) → At m s (RoutineValue t r) → step_of m s ≡ gives t (Routine r) s
routine_step m s t r h =
    at_step m s (RoutineValue t r) h

pub load_step : (m : Machine) (s : State) (t : ℕ) (a : Base) (n : ℕ) (block : Block) (offset : ℕ) (v : Value) → At m s
    (Load t a n) → base_value s.current a ≡ Some (Address block offset) → load (text_at m.code) s.memory block
    (offset + n) ≡ Some v → step_of m s ≡ gives t v s
load_step m s t a n block offset v h e f =
    at_step m s (Load t a n) h
    ∙ ap (λ o. with_address o (λ block offset. with_some (load (text_at m.code) s.memory block (offset + n))
    (λ v. gives t v s))) e
    ∙ ap (λ o. with_some o (λ v. gives t v s)) f

pub store_step : (m : Machine) (s : State) (a : Base) (n b : ℕ) (block : Block) (offset : ℕ) (v : Value)
    (memory : Memory) → At m s (Store a n b) → base_value s.current a ≡ Some (Address block offset)
    → s.current.temporaries b ≡ Some v → store s.memory block (offset + n) v ≡ Some memory → step_of m s
    ≡ stores memory s
store_step m s a n b block offset v memory h e f g =
    at_step m s (Store a n b) h
    ∙ ap (λ o. with_address o (λ block offset. with_some (s.current.temporaries b)
    (λ v. with_some (store s.memory block (offset + n) v) (λ m. stores m s)))) e
    ∙ ap (λ o. with_some o (λ v. with_some (store s.memory block (offset + n) v) (λ m. stores m s))) f
    ∙ ap (λ o. with_some o (λ m. stores m s)) g

pub load_byte_step : (m : Machine) (s : State) (t : ℕ) (a : Base) (n : ℕ) (block : Block) (offset byte : ℕ) → At m s
    (LoadByte t a n) → base_value s.current a ≡ Some (Address block offset) → load_byte (text_at m.code) s.memory block
    (offset + n) ≡ Some byte → step_of m s ≡ gives t (Number (pos byte)) s
load_byte_step m s t a n block offset byte h e f =
    at_step m s (LoadByte t a n) h
    ∙ ap (λ o. with_address o (λ block offset. with_some (load_byte (text_at m.code) s.memory block (offset + n))
    (λ byte. gives t (Number (pos byte)) s))) e
    ∙ ap (λ o. with_some o (λ byte. gives t (Number (pos byte)) s)) f

pub store_byte_step : (m : Machine) (s : State) (a : Base) (n b : ℕ) (block : Block) (offset byte : ℕ) (memory : Memory)
    → At m s (StoreByte a n b) → base_value s.current a ≡ Some (Address block offset) → s.current.temporaries b ≡ Some
    (Number (pos byte)) → nat_lt byte 256 ≡ true → store_byte s.memory block (offset + n) byte ≡ Some memory
    → step_of m s ≡ stores memory s
store_byte_step m s a n b block offset byte memory h e f l g =
    at_step m s (StoreByte a n b) h
    ∙ ap (λ o. with_address o (λ block offset. with_number (s.current.temporaries b)
    (λ x. with_byte_value x (λ byte. with_some (store_byte s.memory block (offset + n) byte) (λ m. stores m s))))) e
    ∙ ap (λ o. with_number o (λ x. with_byte_value x
    (λ byte. with_some (store_byte s.memory block (offset + n) byte) (λ m. stores m s)))) f
    ∙ ap (λ o. if o then with_some (store_byte s.memory block (offset + n) byte) (λ m. stores m s) else Over Stuck) l
    ∙ ap (λ o. with_some o (λ m. stores m s)) g

pub jump_step : (m : Machine) (s : State) (n : ℕ) → At m s (Jump n) → step_of m s ≡ goes_to (suc s.current.place + n) s
jump_step m s n h =
    at_step m s (Jump n) h

pub jump_back_step : (m : Machine) (s : State) (n : ℕ) → At m s (JumpBack n) → step_of m s ≡ goes_to
    (s.current.place - n) s
jump_back_step m s n h =
    at_step m s (JumpBack n) h

pub branch_step : (m : Machine) (s : State) (relation : Relation) (a : ℕ) (b : Operand) (n : ℕ) (holds : Bool) → At m s
    (Branch relation a b n) → related relation (s.current.temporaries a) (operand_value s.current.temporaries b)
    ≡ Some holds → step_of m s ≡ if holds then goes_to (suc s.current.place + n) s else goes_on s
branch_step m s relation a b n holds h e =
    at_step m s (Branch relation a b n) h
    ∙ ap (λ o. with_some o (λ holds. if holds then goes_to (suc s.current.place + n) s else goes_on s)) e

pub branch_back_step : (m : Machine) (s : State) (relation : Relation) (a : ℕ) (b : Operand) (n : ℕ) (holds : Bool)
    → At m s (BranchBack relation a b n) → related relation (s.current.temporaries a)
    (operand_value s.current.temporaries b) ≡ Some holds → step_of m s ≡ if holds then goes_to (s.current.place - n) s
    else goes_on s
branch_back_step m s relation a b n holds h e =
    at_step m s (BranchBack relation a b n) h
    ∙ ap (λ o. with_some o (λ holds. if holds then goes_to (s.current.place - n) s else goes_on s)) e

pub call_step : (m : Machine) (s : State) (t r : ℕ) (operands : List ℕ) (line : ℕ) → At m s (Call t r operands line)
    → step_of m s ≡ calls m.code m.frames m.objects m.stack m.heap t r operands line s
call_step m s t r operands line h =
    at_step m s (Call t r operands line) h

pub call_value_step : (m : Machine) (s : State) (t a : ℕ) (operands : List ℕ) (line r : ℕ) → At m s
    (CallValue t a operands line) → s.current.temporaries a ≡ Some (Routine r) → nat_lt r (length m.code.program) ≡ true
    → step_of m s ≡ calls m.code m.frames m.objects m.stack m.heap t r operands line s
call_value_step m s t a operands line r h e l =
    at_step m s (CallValue t a operands line) h
    ∙ ap (λ o. with_routine o (λ r. if nat_lt r (length m.code.program)
    then calls m.code m.frames m.objects m.stack m.heap t r operands line s else Over Stuck)) e
    ∙ ap (λ o. if o then calls m.code m.frames m.objects m.stack m.heap t r operands line s else Over Stuck) l

pub return_step : (m : Machine) (s : State) (a : ℕ) (v : Value) → At m s (Return a) → s.current.temporaries a ≡ Some v
    → step_of m s ≡ leave v s.callers s
return_step m s a v h e =
    at_step m s (Return a) h
    ∙ ap (λ o. with_some o (λ v. leave v s.callers s)) e

pub trap_step : (m : Machine) (s : State) (number line : ℕ) → At m s (Trap number line) → step_of m s
    ≡ fails m.code number line s
trap_step m s number line h =
    at_step m s (Trap number line) h

pub take_step : (m : Machine) (s : State) (t : ℕ) → At m s (Take t) → step_of m s ≡ takes t s.tape.input s
take_step m s t h =
    at_step m s (Take t) h

pub put_step : (m : Machine) (s : State) (a byte : ℕ) → At m s (Put a) → s.current.temporaries a ≡ Some
    (Number (pos byte)) → nat_lt byte 256 ≡ true → step_of m s ≡ puts byte s
put_step m s a byte h e l =
    at_step m s (Put a) h
    ∙ ap (λ o. with_number o (λ x. with_byte_value x (λ byte. puts byte s))) e
    ∙ ap (λ o. if o then puts byte s else Over Stuck) l

pub new_step : (m : Machine) (s : State) (t type line bytes : ℕ) → At m s (New t type line)
    → slice_get m.code.objects type ≡ Some bytes → step_of m s
    ≡ makes m.code m.frames m.objects m.stack m.heap t type bytes line s
new_step m s t type line bytes h e =
    at_step m s (New t type line) h
    ∙ ap (λ o. with_some o (λ bytes. makes m.code m.frames m.objects m.stack m.heap t type bytes line s)) e

pub end_step : (m : Machine) (s : State) → At m s (End) → step_of m s ≡ Over Normal
end_step m s h =
    at_step m s (End) h
