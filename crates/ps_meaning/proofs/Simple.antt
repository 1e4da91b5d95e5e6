-- Small programs without routines.
use Rattle.std.proofs.Common.{◌≡◌, ℕ, pos, negsuc, [], ◌∷◌, ◌++◌, refl}
use Rattle.std.specs.Prelude.{codes}
use Rattle.ps_tree.specs.declared.tree.operators.ArithmeticOperator.{ArithmeticOperator}
use Rattle.ps_tree.specs.declared.tree.operators.ArithmeticOperator.TheVariants.{Add, Subtract, Div, Mod}
use Rattle.ps_tree.specs.declared.tree.operators.BooleanOperator.TheVariants.{Or}
use Rattle.ps_tree.specs.declared.tree.operators.SetOperator.TheVariants.{Union, Difference}
use Rattle.ps_tree.specs.declared.tree.operators.OrderRelation.TheVariants.{Less, Greater}
use Rattle.ps_tree.specs.declared.tree.operators.RequiredFunction.TheVariants.{Abs}
use Rattle.ps_tree.specs.declared.tree.operators.Direction.TheVariants.{To, Downto}
use Rattle.ps_tree.specs.Types.{OrdinalType}
use Rattle.ps_tree.specs.Tree.{Expr, Arithmetic, arithmetic_step_before, no_arithmetic_step, Logic, operand_before}
use Rattle.ps_tree.specs.Tree.{no_operand, In, SetExpr, Constructor, Combine, set_step_before, no_set_step, Several}
use Rattle.ps_tree.specs.Tree.{no_member, member_before, Number, Minus, Not, Compare, CompareStrings, Apply, Eof, Eoln}
use Rattle.ps_tree.specs.Tree.{Literal, DefaultWidth, GivenWidth, ReadChar, ReadInteger, WriteInteger, WriteChar}
use Rattle.ps_tree.specs.Tree.{WriteBoolean, WriteText, Empty, Assign, Compound, If, Case, While, Repeat, For, Read}
use Rattle.ps_tree.specs.Tree.{Readln, Write, Writeln, no_element, element_before, Program}
use Rattle.behavior.specs.Endings.{More, Normal, Error}
use Rattle.ps_meaning.specs.Operators.{all_below}
use Rattle.ps_meaning.specs.Text.{digits}
use Rattle.ps_meaning.specs.Run.{run}
use Rattle.ps_meaning.proofs.Samples.{subrange, character, integer_type, any_integer, n, own, load, set, arithmetic}
use Rattle.ps_meaning.proofs.Samples.{plus, statements, width, write_narrow, write_string, alone}

hello : run (alone [] (Writeln (WriteText (Literal (codes "hello")) DefaultWidth ∷ []) ∷ [])) [] 1
    ≡ (codes "hello" ++ 10 ∷ [], Normal)
unfolding digits
hello = refl

nothing : run (alone [] []) [] 1 ≡ ([], Normal)
unfolding digits
nothing = refl

no_fuel : run (alone [] []) [] 0 ≡ ([], More)
unfolding digits
no_fuel = refl

-- the sign comes after the product: -7 mod 2, (-7) mod 2, (-7) div 2, 7 div (-2)
quotients : run (alone [] (Writeln (WriteInteger (Minus (arithmetic Mod (n 7) (n 2) 1) 1) (width 1) ∷ WriteInteger
    (arithmetic Mod (Minus (n 7) 1) (n 2) 1) (width 3) ∷ WriteInteger (arithmetic Div (Minus (n 7) 1) (n 2) 1) (width 3)
    ∷ WriteInteger (arithmetic Div (n 7) (Minus (n 2) 1) 1) (width 3) ∷ []) ∷ [])) [] 1
    ≡ (codes "-1  1 -3 -3" ++ 10 ∷ [], Normal)
unfolding digits
quotients = refl

least : run (alone [] (write_narrow (arithmetic Subtract (Minus (n 2147483647) 1) (n 1) 1) ∷ [])) [] 1
    ≡ (codes "-2147483648", Normal)
unfolding digits
least = refl

abs_of_least : run (alone [] (write_narrow (Apply Abs (arithmetic Subtract (Minus (n 2147483647) 1) (n 1) 1) 4) ∷ []))
    [] 1 ≡ ([], Error 1 4 [])
unfolding digits
abs_of_least = refl

-- the error is reported at the line of the operator
overflow : run (alone (integer_type ∷ []) (set 0 (n 2147483647) ∷ Assign (own 0) any_integer
    (arithmetic Add (load 0) (n 1) 2) 1 ∷ [])) [] 1 ≡ ([], Error 1 2 [])
unfolding digits
overflow = refl

widths : run (alone [] (Write (WriteInteger (n 5) DefaultWidth ∷ WriteText (Literal (codes "abc")) (width 2) ∷ WriteText
    (Literal (codes "abc")) (width 5) ∷ WriteBoolean (n 1) DefaultWidth ∷ WriteBoolean (n 0) (width 2) ∷ WriteInteger
    (Minus (n 123) 1) (width 2) ∷ []) ∷ [])) [] 1 ≡ (codes "          5ab  abc truefa-123", Normal)
unfolding digits
widths = refl

width_of_zero : run (alone [] (Write (WriteChar (n 97) DefaultWidth ∷ WriteChar (n 120) (GivenWidth (n 0) 9) ∷ [])
    ∷ [])) [] 1 ≡ (codes "a", Error 11 9 [])
unfolding digits
width_of_zero = refl

two_turns : run (alone (integer_type ∷ [])
    (For 0 (negsuc 2147483647) (pos 2147483647) (n 2147483646) 1 To (n 2147483647) 1
    (Write (WriteInteger (load 0) (width 12) ∷ [])) ∷ [])) [] 5 ≡ (codes "  2147483646  2147483647", Normal)
unfolding digits
two_turns = refl

-- with two of fuel the second turn is not done
two_turns_cut : run (alone (integer_type ∷ [])
    (For 0 (negsuc 2147483647) (pos 2147483647) (n 2147483646) 1 To (n 2147483647) 1
    (Write (WriteInteger (load 0) (width 12) ∷ [])) ∷ [])) [] 1 ≡ (codes "  2147483646", More)
unfolding digits
two_turns_cut = refl

down : run (alone (integer_type ∷ []) (For 0 (negsuc 2147483647) (pos 2147483647) (Number (negsuc 2147483646)) 1 Downto
    (Number (negsuc 2147483647)) 1 (Write (WriteInteger (load 0) (width 12) ∷ [])) ∷ [])) [] 5
    ≡ (codes " -2147483647 -2147483648", Normal)
unfolding digits
down = refl

no_turn : run (alone (OrdinalType (subrange (pos 1) (pos 5)) ∷ [])
    (For 0 (pos 1) (pos 5) (n 9) 1 To (n 0) 1 (write_string (codes "x")) ∷ [])) [] 5 ≡ ([], Normal)
unfolding digits
no_turn = refl

bound_outside : run (alone (OrdinalType (subrange (pos 1) (pos 5)) ∷ [])
    (For 0 (pos 1) (pos 5) (n 0) 7 To (n 0) 8 Empty ∷ [])) [] 5 ≡ ([], Error 4 7 [])
unfolding digits
bound_outside = refl

second_bound_outside : run (alone (OrdinalType (subrange (pos 1) (pos 5)) ∷ [])
    (For 0 (pos 1) (pos 5) (n 5) 7 To (n 6) 8 Empty ∷ [])) [] 5 ≡ ([], Error 4 8 [])
unfolding digits
second_bound_outside = refl

-- the bound is evaluated once: its variable is changed in the loop
kept_bound : run (alone (integer_type ∷ integer_type ∷ [])
    (set 1 (n 2) ∷ For 0 (negsuc 2147483647) (pos 2147483647) (n 1) 1 To (load 1) 1
    (Compound (statements (set 1 (n 5) ∷ write_narrow (load 0) ∷ []))) ∷ write_narrow (load 0) ∷ [])) [] 9
    ≡ (codes "122", Normal)
unfolding digits
kept_bound = refl

no_constant : run (alone [] (Case (n 3) (element_before (pos 1 ∷ []) Empty
    (element_before (pos 2 ∷ []) Empty no_element)) 6 ∷ [])) [] 1 ≡ ([], Error 7 6 [])
unfolding digits
no_constant = refl

first_values : run (alone (OrdinalType (subrange (pos 3) (pos 9)) ∷ integer_type ∷ [])
    (write_narrow (load 0) ∷ write_narrow (load 1) ∷ [])) [] 1 ≡ (codes "30", Normal)
unfolding digits
first_values = refl

strings_compared : run (alone [] (Write (WriteBoolean
    (CompareStrings Less (Literal (codes "abc")) (Literal (codes "abd"))) DefaultWidth ∷ WriteBoolean
    (Compare Greater (n 98) (n 97)) DefaultWidth ∷ WriteText (Literal (codes "it's")) DefaultWidth ∷ []) ∷ [])) [] 1
    ≡ (codes " true trueit's", Normal)
unfolding digits
strings_compared = refl

unending : run (alone [] (Repeat (statements (write_string (codes "a") ∷ [])) (n 0) ∷ [])) [] 4 ≡ (codes "aaaa", More)
unfolding digits
unending = refl

-- the lengths of the lines of the input
abbrev line_lengths : Program
line_lengths = alone (integer_type ∷ OrdinalType character ∷ []) (While (Not Eof) (Compound (statements (
    set 0 (n 0)
    ∷ While (Not (Eoln 1)) (Compound (statements
    (Read (ReadChar (own 1) (pos 0) (pos 255) 1 ∷ []) ∷ set 0 (plus (load 0) (n 1)) ∷ [])))
    ∷ Readln [] 1
    ∷ Writeln (WriteInteger (load 0) (width 1) ∷ [])
    ∷ []))) ∷ [])

lengths : run line_lengths (codes "ab" ++ 10 ∷ 10 ∷ codes "c") 20
    ≡ (256 ∷ 256 ∷ 256 ∷ codes "2" ++ 10 ∷ 256 ∷ codes "0" ++ 10 ∷ 256 ∷ 256 ∷ codes "1" ++ 10 ∷ [], Normal)
unfolding digits
lengths = refl

-- the mark at the end of input, where the last line is ended
ended_line : run line_lengths (codes "c" ++ 10 ∷ []) 20 ≡ (256 ∷ 256 ∷ codes "1" ++ 10 ∷ 256 ∷ [], Normal)
unfolding digits
ended_line = refl

lengths_of_none : run line_lengths [] 20 ≡ (256 ∷ [], Normal)
unfolding digits
lengths_of_none = refl

abbrev three_integers : Program
three_integers = alone (integer_type ∷ integer_type ∷ integer_type ∷ [])
    (Read (ReadInteger (own 0) (negsuc 2147483647) (pos 2147483647) 1 ∷ ReadInteger (own 1) (negsuc 2147483647)
    (pos 2147483647) 2 ∷ ReadInteger (own 2) (negsuc 2147483647) (pos 2147483647) 3 ∷ []) ∷ Write
    (WriteInteger (plus (plus (load 0) (load 1)) (load 2)) DefaultWidth ∷ []) ∷ [])

sum_of_three : run three_integers (codes "12-7+5") 1
    ≡ (256 ∷ 256 ∷ 256 ∷ 256 ∷ 256 ∷ 256 ∷ 256 ∷ codes "         10", Normal)
unfolding digits
sum_of_three = refl

no_third : run three_integers (codes "12 -7 x") 1 ≡ (256 ∷ 256 ∷ 256 ∷ 256 ∷ 256 ∷ 256 ∷ 256 ∷ [], Error 10 3 [])
unfolding digits
no_third = refl

only_one : run three_integers (codes "12") 1 ≡ (256 ∷ 256 ∷ 256 ∷ [], Error 9 2 [])
unfolding digits
only_one = refl

too_large : run three_integers (codes "99999999999") 1
    ≡ (256 ∷ 256 ∷ 256 ∷ 256 ∷ 256 ∷ 256 ∷ 256 ∷ 256 ∷ 256 ∷ 256 ∷ 256 ∷ 256 ∷ [], Error 4 1 [])
unfolding digits
too_large = refl

-- a prompt comes before the look at its answer: write('?'); readln(n); write('!'); read(n)
prompts : run (alone (integer_type ∷ []) (write_string (codes "?") ∷ Readln
    (ReadInteger (own 0) (negsuc 2147483647) (pos 2147483647) 1 ∷ []) 1 ∷ write_string (codes "!") ∷ Read
    (ReadInteger (own 0) (negsuc 2147483647) (pos 2147483647) 1 ∷ []) ∷ [])) (codes "5" ++ 10 ∷ codes "6") 1
    ≡ (63 ∷ 256 ∷ 256 ∷ 33 ∷ 256 ∷ 256 ∷ [], Normal)
unfolding digits
prompts = refl

-- eoln and readln at the end of input
no_line_end : run (alone [] (If (Eoln 6) Empty ∷ [])) [] 1 ≡ (256 ∷ [], Error 9 6 [])
unfolding digits
no_line_end = refl

second_line_missing : run (alone [] (Readln [] 3 ∷ Readln [] 4 ∷ [])) (codes "5") 1 ≡ (256 ∷ 256 ∷ [], Error 9 4 [])
unfolding digits
second_line_missing = refl

-- what follows an integer is left, and looked at once
left_after_integer : run (alone (integer_type ∷ OrdinalType character ∷ [])
    (Read (ReadInteger (own 0) (negsuc 2147483647) (pos 2147483647) 1 ∷ ReadChar (own 1) (pos 0) (pos 255) 2 ∷ [])
    ∷ Write (WriteChar (load 1) (width 2) ∷ []) ∷ [])) (codes " -12x") 1
    ≡ (256 ∷ 256 ∷ 256 ∷ 256 ∷ 256 ∷ codes " x", Normal)
unfolding digits
left_after_integer = refl

-- 'z' for a variable of 'a'..'f'
character_outside : run (alone (OrdinalType character ∷ []) (Read (ReadChar (own 0) (pos 97) (pos 102) 5 ∷ []) ∷ []))
    (codes "z") 1 ≡ (256 ∷ [], Error 4 5 [])
unfolding digits
character_outside = refl

-- a chain goes from left to right: 7 - 2 - 1, and maxint + 1 - 1, whose first operator is in line 3
abbrev chain : ArithmeticOperator → ℕ → Expr → ArithmeticOperator → ℕ → Expr → Expr → Expr
chain f line b g next_line c a = Arithmetic a
    (arithmetic_step_before f b line (arithmetic_step_before g c next_line no_arithmetic_step))

left_associative : run (alone [] (write_narrow (chain Subtract 1 (n 2) Subtract 1 (n 1) (n 7)) ∷ [])) [] 1
    ≡ (codes "4", Normal)
unfolding digits
left_associative = refl

each_step_is_checked : run (alone [] (write_narrow (chain Add 3 (n 1) Subtract 4 (n 1) (n 2147483647)) ∷ [])) [] 1
    ≡ ([], Error 1 3 [])
unfolding digits
each_step_is_checked = refl

-- false or true or false, and the difference of [1, 2, 3] and [2] united with [2]
or_chain : run (alone [] (Write (WriteBoolean
    (Logic Or (n 0) (operand_before (n 1) (operand_before (n 0) no_operand))) DefaultWidth ∷ []) ∷ [])) [] 1
    ≡ (codes " true", Normal)
or_chain = refl

abbrev numbers : ℕ → ℕ → SetExpr
numbers a b = Constructor (member_before (Several (n a) (n b) 1) no_member)

set_chain : run (alone [] (Write (WriteBoolean
    (In (n 2) (Combine (numbers 1 3) (set_step_before Difference (numbers 2 2)
    (set_step_before Union (numbers 2 2) no_set_step)))) DefaultWidth ∷ []) ∷ [])) [] 1 ≡ (codes " true", Normal)
unfolding all_below
set_chain = refl
