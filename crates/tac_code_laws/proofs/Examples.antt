-- Small programs run by computation: tests of the definitions, with values computed by hand.
use Rattle.std.proofs.Common.{◌≡◌, ℕ, List, [], ◌∷◌, pos, negsuc, refl}
use Rattle.tac_code.specs.declared.code.Instruction.{Instruction}
use Rattle.tac_code.specs.declared.code.Instruction.TheVariants.{Literal, Copy, Arithmetic, Bits, Compare, CheckRange}
use Rattle.tac_code.specs.declared.code.Instruction.TheVariants.{CheckPointer, Text, Offset, Index, RoutineValue, Load}
use Rattle.tac_code.specs.declared.code.Instruction.TheVariants.{Store, LoadByte, StoreByte, Jump, Branch, BranchBack}
use Rattle.tac_code.specs.declared.code.Instruction.TheVariants.{Call, CallValue, Return, Trap, Take, Put, New, End}
use Rattle.tac_code.specs.declared.code.Operand.TheVariants as operand
use Rattle.tac_code.specs.declared.code.Base.TheVariants as base
use Rattle.tac_code.specs.declared.code.Relation.TheVariants.{Equal, NotEqual, Less}
use Rattle.tac_code.specs.declared.code.Operator.TheVariants.{Add, Multiply, Divide, Modulo}
use Rattle.tac_code.specs.declared.code.BitOperator.TheVariants.{AndNot, ShiftLeft, Plus}
use Rattle.tac_code.specs.declared.code.TacRoutine.{TacRoutine}
use Rattle.behavior.specs.Endings.{More, Normal, Error, Stack, Heap, Stuck}
use Rattle.behavior.specs.Transcripts.{Shown}
use Rattle.tac_code.specs.Numbers.{Gives, Fails, computed, bits, byte_of, with_byte}
use Rattle.tac_code.specs.Meaning.{Code}
use Rattle.tac_code.specs.Run.{tac_run}

-- a routine with a block of 8 bytes for frame and scratch each
abbrev routine_with : ℕ → List Instruction → TacRoutine
routine_with parameters body =
    record { parameters = parameters; temporaries = 8; frame = 8; scratch = 8; line = 3; body = body }

-- the bytes of `hi!` and one more
abbrev hi : List ℕ
hi = 104 ∷ 105 ∷ 33 ∷ 200 ∷ []

abbrev program_of : List TacRoutine → Code
program_of list = record { program = list; run_time = []; objects = 8 ∷ [] }

-- the whole run under a budget of 100 bytes, each frame and object costing 40
abbrev shown : List TacRoutine → List ℕ → ℕ → Shown
shown list input k = tac_run (program_of list) (λ r. 40) (λ t. 40) 100 100 input k

-- `A` is put
hello : shown (routine_with 0 (Literal 0 (pos 65) ∷ Put 0 ∷ End ∷ []) ∷ []) [] 9 ≡ (65 ∷ [], Normal)
hello = refl

begins : shown (routine_with 0 (Literal 0 (pos 65) ∷ Put 0 ∷ End ∷ []) ∷ []) [] 3 ≡ (65 ∷ [], More)
begins = refl

-- the input `a` and its end: two marks, though the end is taken twice
echoes : shown (routine_with 0 (Take 0 ∷ Put 0 ∷ Take 1 ∷ Take 1 ∷ Put 1 ∷ []) ∷ []) (97 ∷ []) 9
    ≡ (256 ∷ 97 ∷ 256 ∷ [], Stuck)
echoes = refl

-- a routine that calls itself: two frames of 40 bytes fit into 100 bytes, a third doesn't
abbrev calls_itself : List TacRoutine
calls_itself =
    routine_with 0 (Literal 0 (pos 66) ∷ Call 1 1 (0 ∷ []) 7 ∷ End ∷ [])
    ∷ routine_with 1 (Put 0 ∷ Call 1 1 (0 ∷ []) 9 ∷ Return 1 ∷ []) ∷ []

too_deep : shown calls_itself [] 20 ≡ (66 ∷ [], Stack 3)
too_deep = refl

-- the same with 200 bytes, which hold four routines more
deeper : tac_run (program_of calls_itself) (λ r. 40) (λ t. 40) 200 100 [] 99 ≡ (66 ∷ 66 ∷ 66 ∷ 66 ∷ [], Stack 3)
deeper = refl

-- the lines of the open calls at an error: 9 and 7, and none at a stop
abbrev fails_inside : List TacRoutine
fails_inside =
    routine_with 0 (Literal 0 (pos 1) ∷ Call 1 1 (0 ∷ []) 7 ∷ End ∷ [])
    ∷ routine_with 1 (Branch NotEqual 0 (operand.Number (pos 0)) 1 ∷ Trap 5 11 ∷ Literal 1 (pos 0) ∷ Call 1 1 (1 ∷ []) 9
    ∷ Return 1 ∷ []) ∷ []

fails_at : tac_run (program_of fails_inside) (λ r. 40) (λ t. 40) 200 100 [] 99 ≡ ([], Error 5 11 (9 ∷ 7 ∷ []))
fails_at = refl

-- objects: two of 40 bytes fit
makes_objects : shown (routine_with 0 (New 0 0 4 ∷ New 1 0 5 ∷ New 2 0 6 ∷ End ∷ []) ∷ []) [] 9 ≡ ([], Heap 6)
makes_objects = refl

-- bytes within words: `hi!` of a constant, and a byte written into a word of a frame
reads_bytes :
    shown (routine_with 0 (Text 0 hi ∷ LoadByte 1 (base.Temporary 0) 1 ∷ Put 1 ∷ Offset 2 base.Frame 4 0 ∷ Load 3
    (base.Temporary 0) 0 ∷ Store (base.Temporary 2) 0 3 ∷ Literal 4 (pos 111) ∷ StoreByte (base.Temporary 2) 1 4
    ∷ LoadByte 5 (base.Temporary 2) 0 ∷ Put 5 ∷ LoadByte 5 (base.Temporary 2) 1 ∷ Put 5 ∷ LoadByte 5
    (base.Temporary 2) 3 ∷ Put 5 ∷ End ∷ []) ∷ []) [] 99
    ≡ (105 ∷ 104 ∷ 111 ∷ 200 ∷ [], Normal)
reads_bytes = refl

-- ---- numbers

divides : computed Divide 1 (negsuc 6) (pos 2) ≡ Gives (negsuc 2)
divides = refl

divides_least : computed Divide 1 (negsuc 2147483647) (negsuc 0) ≡ Fails 1
divides_least = refl

divides_by_zero : computed Divide 1 (pos 7) (pos 0) ≡ Fails 2
divides_by_zero = refl

modulo : computed Modulo 1 (negsuc 6) (pos 2) ≡ Gives (pos 1)
modulo = refl

modulo_below_one : computed Modulo 1 (pos 7) (negsuc 0) ≡ Fails 3
modulo_below_one = refl

multiplies : computed Multiply 1 (negsuc 65535) (pos 32768) ≡ Gives (negsuc 2147483647)
multiplies = refl

overflows : computed Multiply 1 (pos 65536) (pos 32768) ≡ Fails 1
overflows = refl

shifts : bits ShiftLeft (pos 1) (pos 31) ≡ negsuc 2147483647
shifts = refl

takes_bits_away : bits AndNot (negsuc 0) (pos 255) ≡ negsuc 255
takes_bits_away = refl

changes_byte : with_byte (negsuc 0) 1 0 ≡ negsuc 65280
changes_byte = refl

gives_byte : byte_of (negsuc 65280) 1 ≡ 0
gives_byte = refl

-- ---- frames: static links, routine values, dead blocks

-- the inner routine reads the outer one's variable by its static link, and changes it
static_link :
    shown (routine_with 0 (Offset 0 base.Frame 0 0 ∷ Literal 1 (pos 53) ∷ Store (base.Temporary 0) 4 1 ∷ Call 2 1
    (0 ∷ []) 7 ∷ Load 3 (base.Temporary 0) 4 ∷ Put 3 ∷ End ∷ []) ∷ routine_with 1
    (Load 1 (base.Temporary 0) 4 ∷ Put 1 ∷ Literal 2 (pos 54) ∷ Store (base.Temporary 0) 4 2 ∷ Return 1 ∷ []) ∷ [])
    [] 99
    ≡ (53 ∷ 54 ∷ [], Normal)
static_link = refl

-- a routine with the frame that it belongs to, called as a value
routine_value :
    shown (routine_with 0 (Offset 0 base.Frame 0 0 ∷ Literal 1 (pos 53) ∷ Store (base.Temporary 0) 4 1
    ∷ RoutineValue 2 1 ∷ CallValue 3 2 (0 ∷ []) 7 ∷ Put 3 ∷ End ∷ []) ∷ routine_with 1
    (Load 1 (base.Temporary 0) 4 ∷ Return 1 ∷ []) ∷ []) [] 99
    ≡ (53 ∷ [], Normal)
routine_value = refl

-- two frames of 40 bytes: 80 hold them, 76 don't
abbrev two_frames : ℕ → Shown
two_frames stack =
    tac_run (program_of (routine_with 0 (Literal 0 (pos 48) ∷ Call 1 1 (0 ∷ []) 7 ∷ Call 1 1 (0 ∷ []) 7 ∷ End ∷ [])
    ∷ routine_with 1 (Put 0 ∷ Return 0 ∷ []) ∷ [])) (λ r. 40) (λ t. 40) stack 0 [] 99

fits_twice : two_frames 80 ≡ (48 ∷ 48 ∷ [], Normal)
fits_twice = refl

one_past : two_frames 76 ≡ ([], Stack 3)
one_past = refl

no_room_at_all : two_frames 39 ≡ ([], Stack 3)
no_room_at_all = refl

-- run-time routines count for nothing
run_time_counts_nothing :
    tac_run (record {
      program = routine_with 0 (Literal 0 (pos 48) ∷ Call 1 1 (0 ∷ []) 7 ∷ End ∷ []) ∷ [];
      run_time = routine_with 1 (Put 0 ∷ Return 0 ∷ []) ∷ [];
      objects = [];
    }) (λ r. 40) (λ t. 40) 40 0 [] 99
    ≡ (48 ∷ [], Normal)
run_time_counts_nothing = refl

-- ---- objects: nil, sameness, words

object_words :
    shown (routine_with 0 (New 0 0 4 ∷ Literal 1 (pos 65) ∷ Store (base.Temporary 0) 4 1 ∷ Copy 2 0 ∷ Load 3
    (base.Temporary 2) 4 ∷ Put 3 ∷ New 4 0 5 ∷ Compare Equal 5 0 (operand.Temporary 4) ∷ Branch NotEqual 5
    (operand.Number (pos 0)) 2 ∷ Compare Equal 5 0 (operand.Temporary 2) ∷ Branch NotEqual 5
    (operand.Number (pos 0)) 1 ∷ Trap 1 1 ∷ End ∷ []) ∷ []) [] 99
    ≡ (65 ∷ [], Normal)
object_words = refl

nil_pointer : shown (routine_with 0 (Literal 0 (pos 0) ∷ CheckPointer 0 6 8 ∷ End ∷ []) ∷ []) [] 9 ≡ ([], Error 6 8 [])
nil_pointer = refl

-- ---- bases, right operands, branches back

-- the program block's variable by its base, in a routine that is called; its own and its scratch
bases :
    shown (routine_with 0 (Literal 0 (pos 65) ∷ Store base.Frame 4 0 ∷ Call 1 1 [] 7 ∷ Put 1 ∷ End ∷ [])
    ∷ routine_with 0 (Load 0 base.Program 4 ∷ Put 0 ∷ Literal 1 (pos 66) ∷ Store base.Scratch 4 1
    ∷ LoadByte 2 base.Scratch 4 ∷ Put 2 ∷ Store base.Frame 4 1 ∷ Load 3 base.Program 4 ∷ Return 3 ∷ []) ∷ []) [] 99
    ≡ (65 ∷ 66 ∷ 65 ∷ [], Normal)
bases = refl

-- a loop with its test at the bottom: the digits from 3 down to 1
counts_down :
    shown (routine_with 0 (Literal 0 (pos 51) ∷ Literal 1 (pos 48) ∷ Jump 2 ∷ Put 0 ∷ Bits Plus 0 0
    (operand.Number (negsuc 0)) ∷ BranchBack Less 1 (operand.Temporary 0) 2 ∷ End ∷ []) ∷ []) [] 99
    ≡ (51 ∷ 50 ∷ 49 ∷ [], Normal)
counts_down = refl

-- the third byte of `hi!`, by an index from 1 on, and an index outside its range
third_byte :
    shown (routine_with 0 (Text 0 hi ∷ Literal 1 (pos 3) ∷ Index 2 (base.Temporary 0) 1 (pos 1) (pos 4) 1 5 9
    ∷ LoadByte 3 (base.Temporary 2) 0 ∷ Put 3 ∷ Index 2 (base.Temporary 0) 1 (pos 4) (pos 7) 1 5 9 ∷ End ∷ []) ∷ [])
    [] 99
    ≡ (33 ∷ [], Error 5 9 [])
third_byte = refl

-- the sum modulo 2^32 never fails
plus_wraps : bits Plus (pos 2147483647) (pos 1) ≡ negsuc 2147483647
plus_wraps = refl

-- nil and an object are different, and order is not defined for pointers
compares_pointers :
    shown (routine_with 0 (New 0 0 4 ∷ Compare NotEqual 1 0 (operand.Number (pos 0)) ∷ Branch Equal 1
    (operand.Number (pos 1)) 1 ∷ Trap 1 1 ∷ Compare Less 1 0 (operand.Number (pos 0)) ∷ End ∷ []) ∷ []) [] 99
    ≡ ([], Stuck)
compares_pointers = refl

-- ---- errors with their lines

out_of_range : shown (routine_with 0 (Literal 0 (pos 4) ∷ CheckRange 0 (negsuc 2) (pos 3) 5 21 ∷ End ∷ []) ∷ []) [] 9
    ≡ ([], Error 5 21 [])
out_of_range = refl

sum_overflows : shown (routine_with 0 (Literal 0 (pos 2147483647) ∷ Arithmetic Add 1 0 (operand.Temporary 0) 1 12 ∷ End
    ∷ []) ∷ []) [] 9 ≡ ([], Error 1 12 [])
sum_overflows = refl

-- ---- every way to get stuck

abbrev alone : List Instruction → Shown
alone body = shown (routine_with 0 body ∷ []) [] 50

unwritten_temporary : alone (Put 0 ∷ End ∷ []) ≡ ([], Stuck)
unwritten_temporary = refl

unwritten_word : alone (Offset 0 base.Frame 0 0 ∷ Load 1 (base.Temporary 0) 0 ∷ End ∷ []) ≡ ([], Stuck)
unwritten_word = refl

unwritten_byte : alone (Offset 0 base.Frame 0 0 ∷ Literal 1 (pos 7) ∷ StoreByte (base.Temporary 0) 0 1 ∷ End ∷ [])
    ≡ ([], Stuck)
unwritten_byte = refl

outside_block : alone (Offset 0 base.Frame 0 0 ∷ Literal 1 (pos 7) ∷ Store (base.Temporary 0) 8 1 ∷ End ∷ [])
    ≡ ([], Stuck)
outside_block = refl

off_a_word : alone (Offset 0 base.Frame 0 0 ∷ Literal 1 (pos 7) ∷ Store (base.Temporary 0) 2 1 ∷ End ∷ []) ≡ ([], Stuck)
off_a_word = refl

dead_block : shown (routine_with 0 (Call 0 1 [] 7 ∷ Load 1 (base.Temporary 0) 0 ∷ End ∷ []) ∷ routine_with 0
    (Offset 0 base.Frame 0 0 ∷ Literal 1 (pos 7) ∷ Store (base.Temporary 0) 0 1 ∷ Return 0 ∷ []) ∷ []) [] 50
    ≡ ([], Stuck)
dead_block = refl

constant_written : alone (Text 0 hi ∷ Literal 1 (pos 7) ∷ Store (base.Temporary 0) 0 1 ∷ End ∷ []) ≡ ([], Stuck)
constant_written = refl

number_for_address : alone (Literal 0 (pos 7) ∷ Load 1 (base.Temporary 0) 0 ∷ End ∷ []) ≡ ([], Stuck)
number_for_address = refl

address_for_number : alone (Offset 0 base.Frame 0 0 ∷ Arithmetic Add 1 0 (operand.Temporary 0) 1 1 ∷ End ∷ [])
    ≡ ([], Stuck)
address_for_number = refl

number_for_routine : alone (Literal 0 (pos 0) ∷ CallValue 1 0 [] 1 ∷ End ∷ []) ≡ ([], Stuck)
number_for_routine = refl

byte_of_address : alone (Offset 0 base.Frame 0 0 ∷ Store (base.Temporary 0) 0 0 ∷ LoadByte 1 (base.Temporary 0) 0 ∷ End
    ∷ []) ≡ ([], Stuck)
byte_of_address = refl

frame_for_pointer : alone (Offset 0 base.Frame 0 0 ∷ CheckPointer 0 6 1 ∷ End ∷ []) ≡ ([], Stuck)
frame_for_pointer = refl

past_the_end : alone (Literal 0 (pos 7) ∷ []) ≡ ([], Stuck)
past_the_end = refl

too_many_operands : alone (Literal 0 (pos 7) ∷ Call 1 0 (0 ∷ []) 1 ∷ End ∷ []) ≡ ([], Stuck)
too_many_operands = refl

no_caller : alone (Literal 0 (pos 7) ∷ Return 0 ∷ []) ≡ ([], Stuck)
no_caller = refl

no_byte : alone (Literal 0 (pos 256) ∷ Put 0 ∷ End ∷ []) ≡ ([], Stuck)
no_byte = refl

routine_for_number : alone (RoutineValue 0 0 ∷ Put 0 ∷ End ∷ []) ≡ ([], Stuck)
routine_for_number = refl

routine_for_address : alone (RoutineValue 0 0 ∷ Load 1 (base.Temporary 0) 0 ∷ End ∷ []) ≡ ([], Stuck)
routine_for_address = refl

address_for_routine : alone (Offset 0 base.Frame 0 0 ∷ CallValue 1 0 [] 1 ∷ End ∷ []) ≡ ([], Stuck)
address_for_routine = refl

object_for_number : alone (New 0 0 4 ∷ Put 0 ∷ End ∷ []) ≡ ([], Stuck)
object_for_number = refl

unwritten_operand : alone (Call 0 0 (5 ∷ []) 1 ∷ End ∷ []) ≡ ([], Stuck)
unwritten_operand = refl

unwritten_result : shown (routine_with 0 (Call 0 1 [] 7 ∷ End ∷ []) ∷ routine_with 0 (Return 5 ∷ []) ∷ []) [] 50
    ≡ ([], Stuck)
unwritten_result = refl

too_few_operands : shown (routine_with 0 (Call 0 1 [] 7 ∷ End ∷ []) ∷ routine_with 1 (Return 0 ∷ []) ∷ []) [] 50
    ≡ ([], Stuck)
too_few_operands = refl

byte_outside_block : alone (Offset 0 base.Frame 8 0 ∷ LoadByte 1 (base.Temporary 0) 0 ∷ End ∷ []) ≡ ([], Stuck)
byte_outside_block = refl

byte_below_0 : alone (Literal 0 (negsuc 0) ∷ Put 0 ∷ End ∷ []) ≡ ([], Stuck)
byte_below_0 = refl

offset_too_large : alone (Offset 0 base.Frame 4 0 ∷ Offset 1 (base.Temporary 0) 2147483644 0 ∷ End ∷ []) ≡ ([], Stuck)
offset_too_large = refl

inner_address_for_pointer : alone (New 0 0 4 ∷ Offset 1 (base.Temporary 0) 4 0 ∷ Compare Equal 2 0 (operand.Temporary 1)
    ∷ End ∷ []) ≡ ([], Stuck)
inner_address_for_pointer = refl

block_with_parameters : shown (routine_with 1 (End ∷ []) ∷ []) [] 50 ≡ ([], Stuck)
block_with_parameters = refl

-- a run-time routine is not called as a value
run_time_as_a_value :
    tac_run (record {
      program = routine_with 0 (RoutineValue 0 1 ∷ CallValue 1 0 [] 7 ∷ End ∷ []) ∷ [];
      run_time = routine_with 0 (Literal 0 (pos 1) ∷ Return 0 ∷ []) ∷ [];
      objects = [];
    }) (λ r. 40) (λ t. 40) 100 0 [] 99
    ≡ ([], Stuck)
run_time_as_a_value = refl

-- ---- an error ends with its line where its operands are a zero divisor, a modulus below one, or a number 12 or 13

zero_divisor : alone (Literal 0 (pos 7) ∷ Literal 1 (pos 0) ∷ Arithmetic Divide 2 0 (operand.Temporary 1) 1 15 ∷ End
    ∷ []) ≡ ([], Error 2 15 [])
zero_divisor = refl

modulus_of_0 : alone (Literal 0 (pos 7) ∷ Literal 1 (pos 0) ∷ Arithmetic Modulo 2 0 (operand.Temporary 1) 1 16 ∷ End
    ∷ []) ≡ ([], Error 3 16 [])
modulus_of_0 = refl

trap_12 : alone (Trap 12 17 ∷ []) ≡ ([], Stack 17)
trap_12 = refl

trap_13 : alone (Trap 13 18 ∷ []) ≡ ([], Heap 18)
trap_13 = refl
