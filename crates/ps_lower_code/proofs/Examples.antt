-- Small programs, run by their meaning and as code: what both show is the same.
use Rattle.std.proofs.Common.{◌≡◌, ℕ, zero, suc, ℤ, pos, negsuc, true, List, [], ◌∷◌, Some, None, refl}
use Rattle.ps_tree.specs.declared.types.Host.TheVariants.{Integer, Char}
use Rattle.ps_tree.specs.declared.types.Ordinal.{Ordinal}
use Rattle.ps_tree.specs.declared.tree.operators.Range.TheVariants.{Within}
use Rattle.ps_tree.specs.declared.tree.operators.Direction.TheVariants.{To, Downto}
use Rattle.ps_tree.specs.declared.tree.operators.ArithmeticOperator.TheVariants.{Add, Subtract}
use Rattle.ps_tree.specs.declared.tree.operators.OrderRelation.TheVariants.{Less as IsLess, Greater as IsGreater}
use Rattle.ps_tree.specs.declared.tree.operators.OrderRelation.TheVariants.{Equal as IsEqual}
use Rattle.ps_tree.specs.Types.{DataType, OrdinalType, ArrayType}
use Rattle.ps_tree.specs.Tree.{Place, Variable, Entry, Element, no_selector, selector_before, no_arithmetic_step}
use Rattle.ps_tree.specs.Tree.{arithmetic_step_before, Expr, Number, Load, Arithmetic, Compare, Not, Call, CallFormal}
use Rattle.ps_tree.specs.Tree.{ByValue, ByVariable, ByRoutine, no_argument, argument_before, GivenWidth, WriteInteger}
use Rattle.ps_tree.specs.Tree.{Statement, Empty, Assign, CallProcedure, Compound, If, IfElse, Case, While, Repeat, For}
use Rattle.ps_tree.specs.Tree.{Write, Writeln, Statements, no_statement, statement_before, no_element, element_before}
use Rattle.ps_tree.specs.Tree.{no_formal, formal_before, ValueFormal, VariableFormal, RoutineFormal, Routine, Program}
use Rattle.ps_tree.specs.Tree.{routine_at}
use Rattle.ps_meaning.specs.Text.{digits}
use Rattle.ps_meaning.specs.Run.{run_within}
use Rattle.behavior.specs.Endings.{Normal, Error, Stack}
use Rattle.behavior.specs.Transcripts.{Shown}
use Rattle.tac_code.specs.declared.code.Operand.TheVariants as operand
use Rattle.tac_code.specs.declared.code.Base.TheVariants as base
use Rattle.tac_code.specs.declared.code.Relation.TheVariants as relation
use Rattle.tac_code.specs.declared.code.BitOperator.TheVariants as bits
use Rattle.tac_code.specs.declared.code.Operator.TheVariants as operator
use Rattle.tac_code.specs.declared.code.Instruction.TheVariants as i
use Rattle.tac_code.specs.declared.code.TacRoutine.{TacRoutine}
use Rattle.tac_code.specs.Run.{tac_run}
use Rattle.ps_lower_code.specs.Scopes.{Scope}
use Rattle.ps_lower_code.specs.Statements.{statement_code}
use Rattle.ps_lower_code.specs.Routines.{scope_of, routine_code}
use Rattle.ps_lower_code.specs.Programs.{code_of}

abbrev integer : Ordinal
integer = record { host = Integer; subrange = None; low = negsuc 2147483647; high = pos 2147483647 }

abbrev pub subrange : ℤ → ℤ → Ordinal
subrange low high = record { host = Integer; subrange = Some 7; low = low; high = high }

abbrev pub int : DataType
int = OrdinalType integer

abbrev character : DataType
character = OrdinalType (record { host = Char; subrange = None; low = pos 0; high = pos 255 })

abbrev pub own : ℕ → Place
own n = Variable (Entry 0 n) no_selector

abbrev pub outer : ℕ → ℕ → Place
outer up n = Variable (Entry up n) no_selector

abbrev pub n : ℕ → Expr
n k = Number (pos k)

abbrev pub v : ℕ → Expr
v k = Load (own k)

abbrev pub set : Place → Expr → (line : ℕ) → Statement
set p e line = Assign p (Within (negsuc 2147483647) (pos 2147483647)) e line

abbrev pub digit : Expr → Statement
digit e = Write (WriteInteger e (GivenWidth (n 1) 1) ∷ [])

abbrev pub plus : Expr → Expr → Expr
plus a b = Arithmetic a (arithmetic_step_before Add b 3 no_arithmetic_step)

abbrev pub minus : Expr → Expr → Expr
minus a b = Arithmetic a (arithmetic_step_before Subtract b 4 no_arithmetic_step)

abbrev pub statements : List Statement → Statements
statements [] = no_statement
statements (s ∷ rest) = statement_before s (statements rest)

abbrev pub block : List DataType → List Statement → Routine
block variables body = record {
  chain = 0 ∷ [];
  formals = no_formal;
  result = None;
  variables = variables;
  body = statements body;
  line = 1;
}

abbrev alone : List DataType → List Statement → Program
alone variables body = record { routines = block variables body ∷ []; domains = [] }

-- run-time routines for these tests: one digit, whatever the width
abbrev nothing : TacRoutine
nothing = record { parameters = 0; temporaries = 1; frame = 0; scratch = 0; line = 1; body = [] }

abbrev digit_routine : TacRoutine
digit_routine = record {
  parameters = 2;
  temporaries = 2;
  frame = 0;
  scratch = 0;
  line = 1;
  body = i.Arithmetic operator.Add 0 0 (operand.Number (pos 48)) 1 1 ∷ i.Put 0 ∷ i.Return 1 ∷ [];
}

abbrev copy_routine : TacRoutine
copy_routine = record {
  parameters = 3;
  temporaries = 4;
  frame = 0;
  scratch = 0;
  line = 1;
  body = i.Branch relation.Equal 2 (operand.Number (pos 0)) 6 ∷ i.Load 3 (base.Temporary 1) 0 ∷ i.Store
      (base.Temporary 0) 0 3 ∷ i.Offset 0 (base.Temporary 0) 4 0 ∷ i.Offset 1 (base.Temporary 1) 4 0
      ∷ i.Bits bits.Plus 2 2 (operand.Number (negsuc 3)) ∷ i.BranchBack relation.NotEqual 2 (operand.Number (pos 0)) 5
      ∷ i.Return 2 ∷ [];
}

abbrev pub run_time : List TacRoutine
run_time = copy_routine ∷ nothing ∷ nothing ∷ nothing ∷ nothing ∷ nothing ∷ nothing ∷ nothing ∷ nothing ∷ nothing
    ∷ digit_routine ∷ []

abbrev cost : ℕ → ℕ
cost zero = 8
cost (suc r) = 40

abbrev meant : Program → ℕ → Shown
meant program fuel = run_within program (8 ∷ 40 ∷ 40 ∷ []) [] 100 100 [] fuel

abbrev done : Program → ℕ → Shown
done program steps = tac_run (code_of run_time program) cost (λ t. 0) 100 100 [] steps

-- a := 3; while 0 < a do begin write(a); a := a - 1 end
abbrev counts_down : Program
counts_down = alone (int ∷ []) (set (own 0) (n 3) 2 ∷ While (Compare IsLess (n 0) (v 0))
    (Compound (statements (digit (v 0) ∷ set (own 0) (minus (v 0) (n 1)) 5 ∷ []))) ∷ Writeln [] ∷ [])

counts_down_means : meant counts_down 9 ≡ (51 ∷ 50 ∷ 49 ∷ 10 ∷ [], Normal)
unfolding digits
counts_down_means = refl

counts_down_runs : done counts_down 99 ≡ (51 ∷ 50 ∷ 49 ∷ 10 ∷ [], Normal)
counts_down_runs = refl

-- its code, which docs/LOWERING.md shows
counts_down_code : routine_code counts_down (routine_at counts_down 0) ≡
    i.Literal 0 (negsuc 1) ∷ i.Store base.Frame 8 0 ∷ i.Literal 0 (pos 0) ∷ i.Store base.Frame 12 0 ∷ i.Literal 0
    (pos 0) ∷ i.Store base.Frame 4 0
    ∷ i.Literal 2 (pos 3) ∷ i.Store base.Frame 4 2
    ∷ i.Jump 6 ∷ i.Load 0 base.Frame 4 ∷ i.Literal 2 (pos 1) ∷ i.Call 0 11 (0 ∷ 2 ∷ []) 1
    ∷ i.Load 2 base.Frame 4 ∷ i.Arithmetic operator.Subtract 2 2 (operand.Number (pos 1)) 1 4 ∷ i.Store base.Frame 4 2
    ∷ i.Literal 0 (pos 0) ∷ i.Load 2 base.Frame 4 ∷ i.BranchBack relation.Less 0 (operand.Temporary 2) 8
    ∷ i.Literal 0 (pos 10) ∷ i.Put 0 ∷ i.End ∷ []
counts_down_code = refl

-- for b := 1 to 3 do for a := b downto 1 do write(a); if not (a = b) then write(7) else write(8); case a of 5: ; 1, 2:
-- write(9) end
abbrev turns : Program
turns = alone (int ∷ int ∷ [])
    (For 1 (negsuc 2147483647) (pos 2147483647) (n 1) 2 To (n 3) 2
    (For 0 (negsuc 2147483647) (pos 2147483647) (v 1) 2 Downto (n 1) 2 (digit (v 0)))
    ∷ IfElse (Not (Compare IsEqual (v 0) (v 1))) (digit (n 7)) (digit (n 8))
    ∷ Case (v 0) (element_before (pos 5 ∷ []) Empty (element_before (pos 1 ∷ pos 2 ∷ []) (digit (n 9)) no_element)) 6
    ∷ [])

turns_mean : meant turns 99 ≡ (49 ∷ 50 ∷ 49 ∷ 51 ∷ 50 ∷ 49 ∷ 55 ∷ 57 ∷ [], Normal)
unfolding digits
turns_mean = refl

turns_run : done turns 299 ≡ (49 ∷ 50 ∷ 49 ∷ 51 ∷ 50 ∷ 49 ∷ 55 ∷ 57 ∷ [], Normal)
turns_run = refl

-- repeat a := a + 2147483647; write(1) until 4 < a: an error in the second turn, at the line of the operator
abbrev overflows : Program
overflows = alone (int ∷ []) (Repeat (statements (set (own 0) (plus (v 0) (n 2147483647)) 2 ∷ digit (n 1) ∷ []))
    (Compare IsLess (v 0) (n 4)) ∷ [])

overflows_means : meant overflows 9 ≡ (49 ∷ [], Error 1 3 [])
unfolding digits
overflows_means = refl

overflows_runs : done overflows 99 ≡ (49 ∷ [], Error 1 3 [])
overflows_runs = refl

-- procedure p(x: integer; var y: integer); begin y := y + x; if 0 < x then p(x - 1, y) end; begin p(2, a); write(a) end
abbrev recurs : Program
recurs = record {
  routines =
      block (int ∷ []) (CallProcedure 1 0 (argument_before
      (ByValue (n 2) (Within (negsuc 2147483647) (pos 2147483647)) 7)
      (argument_before (ByVariable (own 0)) no_argument)) 7 ∷ digit (v 0) ∷ [])
      ∷ record {
        chain = 1 ∷ 0 ∷ [];
        formals = formal_before (ValueFormal int) (formal_before (VariableFormal int) no_formal);
        result = None;
        variables = [];
        line = 2;
        body = statements (set (own 1) (plus (v 1) (v 0)) 3 ∷ If (Compare IsGreater (v 0) (n 0))
            (CallProcedure 1 1 (argument_before (ByValue (minus (v 0) (n 1))
            (Within (negsuc 2147483647) (pos 2147483647)) 7) (argument_before (ByVariable (own 1)) no_argument)) 9)
            ∷ []);
      } ∷ [];
  domains = [];
}

recurs_means : meant recurs 9 ≡ ([], Stack 2)
unfolding digits
recurs_means = refl

recurs_runs : done recurs 99 ≡ ([], Stack 2)
recurs_runs = refl

recurs_means_more : run_within recurs [] [] 0 0 [] 9 ≡ (51 ∷ [], Normal)
unfolding digits
recurs_means_more = refl

recurs_runs_on : tac_run (code_of run_time recurs) (λ r. 0) (λ t. 0) 0 0 [] 199 ≡ (51 ∷ [], Normal)
recurs_runs_on = refl

-- a function of a functional parameter, static links and a result: function f(function g: integer): integer; begin f :=
-- g + a end; function h: integer; begin h := a end; begin a := 2; write(f(h)) end
abbrev passes : Program
passes = record {
  routines =
      block (int ∷ []) (set (own 0) (n 2) 2 ∷ digit (Call 1 0 (argument_before (ByRoutine 2 0) no_argument) 7) ∷ [])
      ∷ record {
        chain = 1 ∷ 0 ∷ [];
        formals = formal_before (RoutineFormal no_formal (Some int)) no_formal;
        result = Some int;
        variables = [];
        line = 2;
        body = statements (set (own 0) (plus (CallFormal 0 1 no_argument 5) (Load (outer 1 0))) 3 ∷ []);
      }
      ∷ record {
        chain = 2 ∷ 0 ∷ [];
        formals = no_formal;
        result = Some int;
        variables = [];
        line = 2;
        body = statements (set (own 0) (Load (outer 1 0)) 3 ∷ []);
      } ∷ [];
  domains = [];
}

passes_means : run_within passes [] [] 0 0 [] 9 ≡ (52 ∷ [], Normal)
unfolding digits
passes_means = refl

passes_runs : tac_run (code_of run_time passes) (λ r. 0) (λ t. 0) 0 0 [] 199 ≡ (52 ∷ [], Normal)
passes_runs = refl

-- a routine writes a variable six levels out: procedure a; var v: integer; procedure b; .. procedure g; begin write(v)
-- end; .. begin c end; begin v := 7; b end; begin a end
abbrev chain_down : ℕ → List ℕ
chain_down zero = 0 ∷ []
chain_down (suc level) = suc level ∷ chain_down level

abbrev within_others : (level : ℕ) → List DataType → List Statement → Routine
within_others level variables body = record {
  chain = chain_down level;
  formals = no_formal;
  result = None;
  variables = variables;
  line = 2;
  body = statements body;
}

abbrev calls : ℕ → Statement
calls r = CallProcedure r 0 no_argument 2

abbrev reaches : Program
reaches = record {
  routines =
      block [] (calls 1 ∷ [])
      ∷ within_others 1 (int ∷ []) (set (own 0) (n 7) 2 ∷ calls 2 ∷ [])
      ∷ within_others 2 [] (calls 3 ∷ [])
      ∷ within_others 3 [] (calls 4 ∷ [])
      ∷ within_others 4 [] (calls 5 ∷ [])
      ∷ within_others 5 [] (calls 6 ∷ [])
      ∷ within_others 6 [] (calls 7 ∷ [])
      ∷ within_others 7 [] (digit (Load (outer 6 0)) ∷ []) ∷ [];
  domains = [];
}

reaches_means : run_within reaches [] [] 0 0 [] 19 ≡ (55 ∷ [], Normal)
unfolding digits
reaches_means = refl

reaches_runs : tac_run (code_of run_time reaches) (λ r. 0) (λ t. 0) 0 0 [] 199 ≡ (55 ∷ [], Normal)
reaches_runs = refl

-- an index outside its range, in a called procedure: a[3] := 1 and a[a[1]] for an array [1..2]
abbrev pub element : ℕ → Expr → Place
element up e = Variable (Entry up 0) (selector_before
    (Element (ArrayType 9 true (subrange (pos 1) (pos 2)) int) e 8) no_selector)

abbrev indexes : Program
indexes = record {
  routines =
      block (ArrayType 9 true (subrange (pos 1) (pos 2)) int ∷ []) (CallProcedure 1 0 no_argument 7 ∷ [])
      ∷ record {
        chain = 1 ∷ 0 ∷ [];
        formals = no_formal;
        result = None;
        variables = [];
        line = 2;
        body = statements (set (element 1 (n 2)) (n 1) 3 ∷ digit (Load (element 1 (Load (element 1 (n 2))))) ∷ set
            (element 1 (Load (element 1 (n 1)))) (n 1) 3 ∷ []);
      } ∷ [];
  domains = [];
}

indexes_mean : run_within indexes [] [] 0 0 [] 9 ≡ (48 ∷ [], Error 5 8 (7 ∷ []))
unfolding digits
indexes_mean = refl

indexes_run : tac_run (code_of run_time indexes) (λ r. 0) (λ t. 0) 0 0 [] 199 ≡ (48 ∷ [], Error 5 8 (7 ∷ []))
indexes_run = refl

-- ---- which tests are omitted: c := s[1] and c := c, where s is a packed array of characters
abbrev characters : DataType
characters = ArrayType 9 true (subrange (pos 1) (pos 2)) character

abbrev spelled : Program
spelled = alone (character ∷ characters ∷ []) []

abbrev spelling : Scope
spelling = scope_of spelled (routine_at spelled 0)

abbrev letter : Expr
letter = Load (Variable (Entry 0 1) (selector_before (Element characters (n 1) 8) no_selector))

-- a byte is not tested
byte_code : statement_code spelling (Assign (own 0) (Within (pos 0) (pos 255)) letter 3) 0 ≡ i.LoadByte 2 base.Frame 8
    ∷ i.Store base.Frame 4 2 ∷ []
byte_code = refl

-- unless the range lacks some
fewer_bytes_code : statement_code spelling (Assign (own 0) (Within (pos 0) (pos 200)) letter 3) 0
    ≡ i.LoadByte 2 base.Frame 8 ∷ i.CheckRange 2 (pos 0) (pos 200) 4 3 ∷ i.Store base.Frame 4 2 ∷ []
fewer_bytes_code = refl

-- a whole variable is
variable_code : statement_code spelling (Assign (own 0) (Within (pos 0) (pos 255)) (v 0) 3) 0 ≡ i.Load 2 base.Frame 4
    ∷ i.CheckRange 2 (pos 0) (pos 255) 4 3 ∷ i.Store base.Frame 4 2 ∷ []
variable_code = refl
