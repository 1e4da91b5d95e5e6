-- Programs with routines, structures, sets and pointers.
use Rattle.std.proofs.Common.{◌≡◌, ℕ, ℤ, pos, negsuc, false, List, [], ◌∷◌, ◌++◌, Some, refl}
use Rattle.std.specs.Prelude.{codes}
use Rattle.ps_tree.specs.declared.types.Packing.TheVariants.{Unpacked}
use Rattle.ps_tree.specs.declared.tree.operators.ArithmeticOperator.TheVariants.{Subtract, Div}
use Rattle.ps_tree.specs.declared.tree.operators.BooleanOperator.TheVariants.{And}
use Rattle.ps_tree.specs.declared.tree.operators.SetOperator.TheVariants.{Union}
use Rattle.ps_tree.specs.declared.tree.operators.OrderRelation.TheVariants.{Equal, AtMost}
use Rattle.ps_tree.specs.declared.tree.operators.PointerRelation.TheVariants.{Other as OtherPointer}
use Rattle.ps_tree.specs.declared.tree.operators.Range.TheVariants.{Any, Within}
use Rattle.ps_tree.specs.declared.tree.operators.Direction.TheVariants.{To}
use Rattle.ps_tree.specs.Types.{DataType, OrdinalType, PointerType, SetType, ArrayType, RecordType, field_list, listed}
use Rattle.ps_tree.specs.Tree.{Place, Variable, Opened, Element, Field, Target, no_selector, operand_before}
use Rattle.ps_tree.specs.Tree.{no_operand, set_step_before, no_set_step, Expr, Number, Nil, Load, Logic, Compare}
use Rattle.ps_tree.specs.Tree.{ComparePointers, CompareStrings, In, Call, CallFormal, LoadSet, Constructor, Combine}
use Rattle.ps_tree.specs.Tree.{Member, One, Several, Members, no_member, member_before, Literal, Contents, Argument}
use Rattle.ps_tree.specs.Tree.{ByValue, ByCopy, ByVariable, ByRoutine, ByFormal, DefaultWidth, GivenWidth, ReadChar}
use Rattle.ps_tree.specs.Tree.{WriteInteger, WriteBoolean, WriteText, Statement, Assign, AssignSet, AssignStructure}
use Rattle.ps_tree.specs.Tree.{CallProcedure, Compound, If, IfElse, While, For, With, New, Pack, Unpack, Read, Write}
use Rattle.ps_tree.specs.Tree.{Writeln, Routine, Program}
use Rattle.ps_meaning.specs.Operators.{all_below}
use Rattle.behavior.specs.Endings.{Normal, Error, Stack, Heap}
use Rattle.ps_meaning.specs.Text.{digits}
use Rattle.ps_meaning.specs.Run.{run, run_within}
use Rattle.ps_meaning.proofs.Samples.{subrange, character, integer_type, string_type, any_integer, n, outer, own}
use Rattle.ps_meaning.proofs.Samples.{then_selector, load, set, arithmetic, plus, statements, arguments, width}
use Rattle.ps_meaning.proofs.Samples.{write_narrow, write_string, block, procedure, function, alone, with_routines}

-- variables: a: array [1..2] of integer; i: integer. f sets i to 2 and gives 9; a[i] := f
abbrev pair_type : DataType
pair_type = ArrayType 20 false (subrange (pos 1) (pos 2)) integer_type

abbrev element : Place → DataType → Expr → Place
element base type e = then_selector base (Element type e 1)

abbrev target : Place → (line : ℕ) → Place
target base line = then_selector base (Target 0 line)

abbrev field : Place → DataType → ℕ → Place
field base type number = then_selector base (Field type number)

abbrev opened : ℕ → DataType → ℕ → Place
opened which type number = Variable (Opened which type number) no_selector

variable_first : run (with_routines (pair_type ∷ integer_type ∷ [])
    (set 1 (n 1) ∷ Assign (element (own 0) pair_type (load 1)) any_integer (Call 1 0 (arguments []) 1) 1 ∷ write_narrow
    (Load (element (own 0) pair_type (n 1))) ∷ write_narrow (Load (element (own 0) pair_type (n 2))) ∷ [])
    (function (1 ∷ 0 ∷ []) [] (Assign (outer 1 1) any_integer (n 2) 1 ∷ set 0 (n 9) ∷ []) ∷ [])) [] 2
    ≡ (codes "90", Normal)
unfolding digits
variable_first = refl

-- x is 1 and f sets x to 10 and gives 5: x + f, and from the same start f + x
abbrev sets_x : Routine
sets_x = function (1 ∷ 0 ∷ []) [] (Assign (outer 1 0) any_integer (n 10) 1 ∷ set 0 (n 5) ∷ [])

left_to_right : run (with_routines (integer_type ∷ [])
    (set 0 (n 1) ∷ write_narrow (plus (load 0) (Call 1 0 (arguments []) 1)) ∷ set 0 (n 1) ∷ write_string (codes " ")
    ∷ write_narrow (plus (Call 1 0 (arguments []) 1) (load 0)) ∷ []) (sets_x ∷ [])) [] 2 ≡ (codes "6 15", Normal)
unfolding digits
left_to_right = refl

-- both operands of `and` are evaluated: false and g, where g writes
both_evaluated : run (with_routines [] (If (Logic And (n 0) (operand_before (Call 1 0 (arguments []) 1) no_operand))
    (write_string (codes "x")) ∷ []) (function (1 ∷ 0 ∷ []) [] (write_string (codes "g") ∷ set 0 (n 1) ∷ []) ∷ [])) [] 2
    ≡ (codes "g", Normal)
both_evaluated = refl

-- procedure a has x and in it procedures b, which writes x, and c, which has an x of its own and calls b
static_scope : run (with_routines [] (CallProcedure 1 0 (arguments []) 1 ∷ []) (
    procedure (1 ∷ 0 ∷ []) (integer_type ∷ [])
    (set 0 (n 1) ∷ CallProcedure 3 0 (arguments []) 1 ∷ Write (WriteInteger (load 0) (width 2) ∷ []) ∷ [])
    ∷ procedure (2 ∷ 1 ∷ 0 ∷ []) [] (Write (WriteInteger (Load (outer 1 0)) (width 2) ∷ []) ∷ [])
    ∷ procedure (3 ∷ 1 ∷ 0 ∷ []) (integer_type ∷ []) (set 0 (n 9) ∷ CallProcedure 2 1 (arguments []) 1 ∷ [])
    ∷ [])) [] 4 ≡ (codes " 1 1", Normal)
unfolding digits
static_scope = refl

-- Knuth's man or boy: A's entries are its result, k and x1 to x5
abbrev constant : ℕ → ℤ → Routine
constant r x = function (r ∷ 0 ∷ []) [] (set 0 (Number x) ∷ [])

abbrev by_value : Expr → Argument
by_value e = ByValue e any_integer 1

abbrev man_or_boy : ℕ → Program
man_or_boy k = with_routines [] (write_narrow
    (Call 1 0 (arguments (by_value (n k) ∷ ByRoutine 3 0 ∷ ByRoutine 4 0 ∷ ByRoutine 4 0 ∷ ByRoutine 3 0 ∷ ByRoutine 5 0
    ∷ [])) 1) ∷ []) (
    function (1 ∷ 0 ∷ []) [] (IfElse (Compare AtMost (load 1) (n 0))
    (set 0 (plus (CallFormal 0 5 (arguments []) 1) (CallFormal 0 6 (arguments []) 1)))
    (set 0 (Call 2 0 (arguments []) 1)) ∷ [])
    ∷ function (2 ∷ 1 ∷ 0 ∷ []) [] (Assign (outer 1 1) any_integer (arithmetic Subtract (Load (outer 1 1)) (n 1) 1) 1
    ∷ set 0 (Call 1 2 (arguments (by_value (Load (outer 1 1)) ∷ ByRoutine 2 1 ∷ ByFormal 1 2 ∷ ByFormal 1 3
    ∷ ByFormal 1 4 ∷ ByFormal 1 5 ∷ [])) 1) ∷ [])
    ∷ constant 3 (pos 1) ∷ constant 4 (negsuc 0) ∷ constant 5 (pos 0) ∷ [])

man_or_boy_4 : run (man_or_boy 4) [] 60 ≡ (codes "1", Normal)
unfolding digits
man_or_boy_4 = refl

man_or_boy_7 : run (man_or_boy 7) [] 200 ≡ (codes "-1", Normal)
unfolding digits
man_or_boy_7 = refl

-- with q^ do begin q := nil; k := 1 end, where h holds the object: the record is accessed once
abbrev node_type : DataType
node_type = RecordType 30 false (field_list (codes "k" ∷ codes "next" ∷ [])
    (listed (integer_type ∷ PointerType 0 ∷ [])))

abbrev with_nodes : List DataType → List Statement → Program
with_nodes variables body = record { routines = block variables body ∷ []; domains = node_type ∷ [] }

accessed_once : run (with_nodes (PointerType 0 ∷ PointerType 0 ∷ [])
    (New (own 0) 0 1 ∷ Assign (own 1) Any (load 0) 1 ∷ With (target (own 0) 1 ∷ [])
    (Compound (statements (New (own 0) 0 1 ∷ Assign (opened 0 node_type 0) any_integer (n 7) 1 ∷ []))) ∷ write_narrow
    (Load (field (target (own 1) 1) node_type 0)) ∷ write_narrow (Load (field (target (own 0) 1) node_type 0)) ∷ [])) []
    1 ≡ (codes "70", Normal)
unfolding digits
accessed_once = refl

-- the list of three nodes, under a heap that has just room for them, and under one byte less
abbrev three_nodes : Program
three_nodes = with_nodes (PointerType 0 ∷ PointerType 0 ∷ integer_type ∷ []) (
    For 2 (negsuc 2147483647) (pos 2147483647) (n 1) 1 To (n 3) 1
    (Compound (statements (New (own 0) 0 6 ∷ Assign (field (target (own 0) 1) node_type 0) any_integer (load 2) 1
    ∷ Assign (field (target (own 0) 1) node_type 1) Any (load 1) 1 ∷ Assign (own 1) Any (load 0) 1 ∷ [])))
    ∷ While (ComparePointers OtherPointer (load 1) Nil)
    (Compound (statements (Write (WriteInteger (Load (field (target (own 1) 1) node_type 0)) (width 2) ∷ [])
    ∷ Assign (own 1) Any (Load (field (target (own 1) 1) node_type 1)) 1 ∷ [])))
    ∷ [])

list_of_three : run_within three_nodes (4 ∷ []) (12 ∷ []) 4 36 [] 9 ≡ (codes " 3 2 1", Normal)
unfolding digits
list_of_three = refl

no_room : run_within three_nodes (4 ∷ []) (12 ∷ []) 4 35 [] 9 ≡ ([], Heap 6)
no_room = refl

no_stack : run_within three_nodes (4 ∷ []) (12 ∷ []) 3 36 [] 9 ≡ ([], Stack 1)
no_stack = refl

nil_pointer : run (alone (PointerType 0 ∷ []) (Assign (target (own 0) 4) any_integer (n 1) 1 ∷ [])) [] 1
    ≡ ([], Error 6 4 [])
nil_pointer = refl

-- procedure r; begin r end; begin write('a'); r end.
unending_calls : run_within (with_routines [] (write_string (codes "a") ∷ CallProcedure 1 0 (arguments []) 1 ∷ [])
    (record (procedure (1 ∷ 0 ∷ []) [] (CallProcedure 1 1 (arguments []) 1 ∷ [])) { line = 3 } ∷ []))
    (8 ∷ 10 ∷ []) [] 48 0 [] 20 ≡ (codes "a", Stack 3)
unending_calls = refl

-- sets
abbrev byte_sets : DataType
byte_sets = SetType (Some 5) Unpacked (subrange (pos 0) (pos 255))

abbrev members : List Member → Members
members [] = no_member
members (m ∷ rest) = member_before m (members rest)

sets : run (alone (byte_sets ∷ []) (AssignSet (own 0) (pos 0) (pos 255)
    (Combine (Constructor (members (Several (n 1) (n 3) 1 ∷ [])))
    (set_step_before Union (Constructor (members (One (n 5) 1 ∷ []))) no_set_step)) 1 ∷ Writeln
    (WriteBoolean (In (n 2) (LoadSet (own 0))) (width 5) ∷ WriteBoolean (In (n 300) (LoadSet (own 0))) (width 6) ∷ [])
    ∷ [])) [] 1 ≡ (codes " true false" ++ 10 ∷ [], Normal)
unfolding all_below
sets = refl

member_outside : run (alone (byte_sets ∷ [])
    (AssignSet (own 0) (pos 0) (pos 255) (Constructor (members (Several (n 9) (n 1) 1 ∷ One (n 256) 7 ∷ []))) 1 ∷ []))
    [] 1 ≡ ([], Error 8 7 [])
member_outside = refl

outside_base : run (alone (byte_sets ∷ [])
    (AssignSet (own 0) (pos 0) (pos 9) (Constructor (members (One (n 10) 7 ∷ []))) 5 ∷ [])) [] 1 ≡ ([], Error 8 5 [])
unfolding all_below
outside_base = refl

-- contents are taken last, a structured parameter is copied at its turn, a set has the value of its turn:
-- v: string of 2; a: array [1..1] of such; t: set of 0..9; f sets v to 'zz' and t to [1], and gives 1; q(w, n) writes w
abbrev two : DataType
two = string_type 2

abbrev one_string : DataType
one_string = ArrayType 40 false (subrange (pos 1) (pos 1)) two

abbrev later_contents : List Statement → Program
later_contents body = with_routines (two ∷ one_string ∷ byte_sets ∷ [])
    (AssignStructure (own 0) (Literal (codes "aa")) ∷ AssignStructure (element (own 1) one_string (n 1))
    (Literal (codes "zz")) ∷ body) (
    function (1 ∷ 0 ∷ []) [] (AssignStructure (outer 1 0) (Literal (codes "zz")) ∷ AssignSet (outer 1 2) (pos 0) (pos 9)
    (Constructor (members (One (n 1) 1 ∷ []))) 1 ∷ set 0 (n 1) ∷ [])
    ∷ procedure (2 ∷ 0 ∷ []) [] (Write (WriteText (Contents (own 0) two) DefaultWidth ∷ []) ∷ [])
    ∷ [])

abbrev f : Expr
f = Call 1 0 (arguments []) 1

contents_last : run (later_contents (Write
    (WriteBoolean (CompareStrings Equal (Contents (own 0) two) (Contents (element (own 1) one_string f) two))
    DefaultWidth ∷ []) ∷ [])) [] 2 ≡ (codes " true", Normal)
unfolding all_below
contents_last = refl

width_first : run (later_contents (Write (WriteText (Contents (own 0) two) (GivenWidth f 1) ∷ []) ∷ [])) [] 2
    ≡ (codes "z", Normal)
unfolding all_below
width_first = refl

copied_at_its_turn : run (later_contents (CallProcedure 2 0
    (arguments (ByCopy (Contents (own 0) two) two ∷ by_value f ∷ [])) 1 ∷ [])) [] 2 ≡ (codes "aa", Normal)
unfolding all_below
copied_at_its_turn = refl

set_at_its_turn : run (later_contents (Write
    (WriteBoolean (In (n 1) (Combine (LoadSet (own 2))
    (set_step_before Union (Constructor (members (One (plus f (n 1)) 1 ∷ []))) no_set_step))) DefaultWidth ∷ []) ∷ []))
    [] 2 ≡ (codes "false", Normal)
unfolding all_below
set_at_its_turn = refl

-- a variable parameter is the variable: i is changed after a[i] was passed
variable_parameter : run (with_routines (pair_type ∷ integer_type ∷ [])
    (set 1 (n 1) ∷ CallProcedure 1 0 (arguments (ByVariable (element (own 0) pair_type (load 1)) ∷ [])) 1 ∷ write_narrow
    (Load (element (own 0) pair_type (n 1))) ∷ write_narrow (Load (element (own 0) pair_type (n 2))) ∷ [])
    (procedure (1 ∷ 0 ∷ []) [] (Assign (outer 1 1) any_integer (n 2) 1 ∷ set 0 (n 5) ∷ []) ∷ [])) [] 2
    ≡ (codes "50", Normal)
unfolding digits
variable_parameter = refl

index_outside : run (alone (pair_type ∷ integer_type ∷ [])
    (set 1 (n 4) ∷ write_string (codes "x") ∷ Assign (then_selector (own 0) (Element pair_type (load 1) 7)) any_integer
    (n 1) 1 ∷ [])) [] 1 ≡ (codes "x", Error 5 7 [])
index_outside = refl

parameter_outside : run (with_routines [] (CallProcedure 1 0
    (arguments (ByValue (n 6) (Within (pos 1) (pos 5)) 8 ∷ [])) 1 ∷ []) (procedure (1 ∷ 0 ∷ []) [] [] ∷ [])) [] 2
    ≡ ([], Error 4 8 [])
parameter_outside = refl

-- pack and unpack
abbrev five : DataType
five = ArrayType 50 false (subrange (pos 1) (pos 5)) (OrdinalType character)

abbrev three : DataType
three = string_type 3

abbrev packing : List Statement → Program
packing body = alone (five ∷ three ∷ []) (AssignStructure (own 0) (Literal (codes "abcde")) ∷ body)

packed : run (packing (Pack (own 0) five (n 2) 1 (own 1) three ∷ Write
    (WriteText (Contents (own 1) three) DefaultWidth ∷ []) ∷ Unpack (own 1) three (own 0) five (n 1) 1 ∷ Write
    (WriteText (Contents (own 0) five) DefaultWidth ∷ []) ∷ [])) [] 1 ≡ (codes "bcdbcdde", Normal)
packed = refl

packed_to_the_end : run (packing (Pack (own 0) five (n 3) 1 (own 1) three ∷ Write
    (WriteText (Contents (own 1) three) DefaultWidth ∷ []) ∷ [])) [] 1 ≡ (codes "cde", Normal)
packed_to_the_end = refl

packed_past_the_end : run (packing (Pack (own 0) five (n 4) 9 (own 1) three ∷ [])) [] 1 ≡ ([], Error 5 9 [])
packed_past_the_end = refl

packed_before_the_start : run (packing (Pack (own 0) five (n 0) 9 (own 1) three ∷ [])) [] 1 ≡ ([], Error 5 9 [])
packed_before_the_start = refl

-- a line end is read as a space, and a last line counts as ended: read(c[1], c[2], c[3]); write(c)
abbrev character_at : ℕ → Place
character_at i = element (own 0) three (n i)

abbrev reads_three : Program
reads_three = alone (three ∷ []) (Read (ReadChar (character_at 1) (pos 0) (pos 255) 1 ∷ ReadChar (character_at 2)
    (pos 0) (pos 255) 1 ∷ ReadChar (character_at 3) (pos 0) (pos 255) 4 ∷ []) ∷ Write
    (WriteText (Contents (own 0) three) DefaultWidth ∷ []) ∷ [])

line_end_as_space : run reads_three (codes "a" ++ 10 ∷ codes "b") 1 ≡ (256 ∷ 256 ∷ 256 ∷ codes "a b", Normal)
line_end_as_space = refl

past_the_end : run reads_three (codes "a") 1 ≡ (256 ∷ 256 ∷ [], Error 9 4 [])
past_the_end = refl

-- procedure a(n), whose block is open at its own calls: the error is in line 4, the calls are in lines 6, 6 and 9
abbrev counts_down : ℕ → Program
counts_down k = with_routines [] (CallProcedure 1 0 (arguments (by_value (n k) ∷ [])) 9 ∷ [])
    (procedure (1 ∷ 0 ∷ []) [] (IfElse (Compare Equal (load 0) (n 0))
    (Write (WriteInteger (arithmetic Div (n 1) (load 0) 4) DefaultWidth ∷ []))
    (CallProcedure 1 1 (arguments (by_value (arithmetic Subtract (load 0) (n 1) 1) ∷ [])) 6) ∷ []) ∷ [])

open_calls : run (counts_down 2) [] 100 ≡ ([], Error 2 4 (6 ∷ 6 ∷ 9 ∷ []))
open_calls = refl

first_sixteen : run (counts_down 20) [] 100
    ≡ ([], Error 2 4 (6 ∷ 6 ∷ 6 ∷ 6 ∷ 6 ∷ 6 ∷ 6 ∷ 6 ∷ 6 ∷ 6 ∷ 6 ∷ 6 ∷ 6 ∷ 6 ∷ 6 ∷ 6 ∷ []))
first_sixteen = refl

-- a call is not open while its parameters are taken: a(1 div 0)
not_yet_open : run (with_routines [] (CallProcedure 1 0 (arguments (by_value (arithmetic Div (n 1) (n 0) 9) ∷ [])) 9
    ∷ []) (procedure (1 ∷ 0 ∷ []) [] [] ∷ [])) [] 100 ≡ ([], Error 2 9 [])
not_yet_open = refl

-- with r, s do: the second record is a field of the first, and fields are found from the inside out
abbrev inner_type : DataType
inner_type = RecordType 60 false (field_list (codes "k" ∷ []) (listed (integer_type ∷ [])))

abbrev outer_type : DataType
outer_type = RecordType 61 false (field_list (codes "k" ∷ codes "s" ∷ []) (listed (integer_type ∷ inner_type ∷ [])))

nested_records : run (alone (outer_type ∷ [])
    (With (own 0 ∷ opened 0 outer_type 1 ∷ [])
    (Compound (statements (Assign (opened 0 inner_type 0) any_integer (n 7) 1 ∷ Assign
    (opened 1 outer_type 0) any_integer (n 5) 1 ∷ []))) ∷ write_narrow (Load (field (own 0) outer_type 0))
    ∷ write_narrow (Load (field (field (own 0) outer_type 1) inner_type 0)) ∷ [])) [] 1 ≡ (codes "57", Normal)
unfolding digits
nested_records = refl

-- each component of a variable is accessed before what comes after it: b[g]^.k, where g sets the pointer in b[1] to nil
-- and gives 1
abbrev pointers : DataType
pointers = ArrayType 70 false (subrange (pos 1) (pos 2)) (PointerType 0)

selectors_in_order : run (record {
  routines = block (pointers ∷ []) (New (element (own 0) pointers (n 1)) 0 1 ∷ Assign
      (field (then_selector (element (own 0) pointers (Call 1 0 (arguments []) 1)) (Target 0 5)) node_type 0)
      any_integer (n 7) 1 ∷ []) ∷ function (1 ∷ 0 ∷ []) []
      (Assign (then_selector (outer 1 0) (Element pointers (n 1) 1)) Any Nil 1 ∷ set 0 (n 1) ∷ []) ∷ [];
  domains = node_type ∷ [];
}) [] 2 ≡ ([], Error 6 5 [])
selectors_in_order = refl
