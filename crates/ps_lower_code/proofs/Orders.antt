-- More small programs, run by their meaning and as code, each of which distinguishes a wrong order or place from the
-- right one: what is read first, whose frame a routine gets, when a structure is copied.
use Rattle.std.proofs.Common.{◌≡◌, ℕ, pos, negsuc, true, List, [], ◌∷◌, Some, None, refl}
use Rattle.ps_tree.specs.declared.tree.operators.Range.TheVariants.{Within}
use Rattle.ps_tree.specs.declared.tree.operators.Direction.TheVariants.{To}
use Rattle.ps_tree.specs.declared.tree.operators.BooleanOperator.TheVariants.{And}
use Rattle.ps_tree.specs.declared.tree.operators.OrderRelation.TheVariants.{Greater as IsGreater, Equal as IsEqual}
use Rattle.ps_tree.specs.Types.{DataType, PointerType, ArrayType}
use Rattle.ps_tree.specs.Tree.{Variable, Entry, Target, no_selector, selector_before, Expr, Load, Logic, Compare}
use Rattle.ps_tree.specs.Tree.{no_operand, operand_before, Contents, ByValue, ByCopy, ByRoutine, no_argument}
use Rattle.ps_tree.specs.Tree.{argument_before, Call, Statement, CallProcedure, CallFormalProcedure, IfElse, For, New}
use Rattle.ps_tree.specs.Tree.{Formals, no_formal, formal_before, ValueFormal, RoutineFormal, Routine, Program}
use Rattle.ps_meaning.specs.Text.{digits}
use Rattle.ps_meaning.specs.Run.{run_within}
use Rattle.behavior.specs.Endings.{Normal}
use Rattle.behavior.specs.Transcripts.{Shown}
use Rattle.tac_code.specs.Run.{tac_run}
use Rattle.ps_lower_code.specs.Programs.{code_of}
use Rattle.ps_lower_code.proofs.Examples.{subrange, int, own, outer, n, v, set, digit, minus, statements, block}
use Rattle.ps_lower_code.proofs.Examples.{run_time, element}

abbrev meant : Program → Shown
meant program = run_within program [] [] 0 1000 [] 9

abbrev done : Program → Shown
done program = tac_run (code_of run_time program) (λ r. 0) (λ t. 4) 0 1000 [] 150

abbrev calls : (routine up : ℕ) → Statement
calls r up = CallProcedure r up no_argument 7

abbrev procedure : List ℕ → Formals → List DataType → List Statement → Routine
procedure chain formals variables body = record {
  chain = chain;
  formals = formals;
  result = None;
  variables = variables;
  body = statements body;
  line = 2;
}

abbrev pair : DataType
pair = ArrayType 9 true (subrange (pos 1) (pos 2)) int

-- function f(n: integer): integer; begin write(n); f := n end
abbrev speaks : Routine
speaks = record {
  chain = 1 ∷ 0 ∷ [];
  formals = formal_before (ValueFormal int) no_formal;
  result = Some int;
  variables = [];
  body = statements (digit (v 1) ∷ set (own 0) (v 1) 3 ∷ []);
  line = 2;
}

abbrev says : ℕ → Expr
says k = Call 1 0 (argument_before (ByValue (n k) (Within (negsuc 2147483647) (pos 2147483647)) 7) no_argument) 7

-- a := f(4) - f(1); write(a)
abbrev subtracts : Program
subtracts = record {
  routines = block (int ∷ []) (set (own 0) (minus (says 4) (says 1)) 2 ∷ digit (v 0) ∷ []) ∷ speaks ∷ [];
  domains = [];
}

subtracts_means : meant subtracts ≡ (52 ∷ 49 ∷ 51 ∷ [], Normal)
unfolding digits
subtracts_means = refl

subtracts_runs : done subtracts ≡ (52 ∷ 49 ∷ 51 ∷ [], Normal)
subtracts_runs = refl

-- if (f(0) > 0) and (f(1) = 1) then write(5) else write(6)
abbrev takes_both : Program
takes_both = record {
  routines = block [] (IfElse (Logic And (Compare IsGreater (says 0) (n 0))
      (operand_before (Compare IsEqual (says 1) (n 1)) no_operand)) (digit (n 5)) (digit (n 6)) ∷ []) ∷ speaks ∷ [];
  domains = [];
}

takes_both_means : meant takes_both ≡ (48 ∷ 49 ∷ 54 ∷ [], Normal)
unfolding digits
takes_both_means = refl

takes_both_runs : done takes_both ≡ (48 ∷ 49 ∷ 54 ∷ [], Normal)
takes_both_runs = refl

-- a[f(1)] := f(2)
abbrev assigns : Program
assigns = record { routines = block (pair ∷ []) (set (element 0 (says 1)) (says 2) 2 ∷ []) ∷ speaks ∷ []; domains = [] }

assigns_means : meant assigns ≡ (49 ∷ 50 ∷ [], Normal)
unfolding digits
assigns_means = refl

assigns_runs : done assigns ≡ (49 ∷ 50 ∷ [], Normal)
assigns_runs = refl

-- for a := 2147483647 to 2147483647 do write(1)
abbrev turns_last : Program
turns_last = record {
  routines = block (int ∷ []) (For 0 (negsuc 2147483647) (pos 2147483647) (n 2147483647) 2 To (n 2147483647) 2
      (digit (n 1)) ∷ []) ∷ [];
  domains = [];
}

turns_last_means : meant turns_last ≡ (49 ∷ [], Normal)
unfolding digits
turns_last_means = refl

turns_last_runs : done turns_last ≡ (49 ∷ [], Normal)
turns_last_runs = refl

-- procedure p; var x: integer; procedure q; var y: integer; begin y := 4; r end; procedure r; begin write(x) end; begin
-- x := 3; q end
abbrev siblings : Program
siblings = record {
  routines =
      block [] (calls 1 0 ∷ [])
      ∷ procedure (1 ∷ 0 ∷ []) no_formal (int ∷ []) (set (own 0) (n 3) 2 ∷ calls 2 0 ∷ [])
      ∷ procedure (2 ∷ 1 ∷ 0 ∷ []) no_formal (int ∷ []) (set (own 0) (n 4) 2 ∷ calls 3 1 ∷ [])
      ∷ procedure (3 ∷ 1 ∷ 0 ∷ []) no_formal [] (digit (Load (outer 1 0)) ∷ []) ∷ [];
  domains = [];
}

siblings_mean : meant siblings ≡ (51 ∷ [], Normal)
unfolding digits
siblings_mean = refl

siblings_run : done siblings ≡ (51 ∷ [], Normal)
siblings_run = refl

-- procedure g(procedure h); begin h end; procedure p; var x: integer; procedure q; begin write(x) end; begin x := 3;
-- g(q) end
abbrev carries : Program
carries = record {
  routines =
      block (int ∷ []) (set (own 0) (n 8) 2 ∷ calls 2 0 ∷ [])
      ∷ procedure (1 ∷ 0 ∷ []) (formal_before (RoutineFormal no_formal None) no_formal) []
      (CallFormalProcedure 0 0 no_argument 7 ∷ [])
      ∷ procedure (2 ∷ 0 ∷ []) no_formal (int ∷ [])
      (set (own 0) (n 3) 2 ∷ CallProcedure 1 1 (argument_before (ByRoutine 3 0) no_argument) 7 ∷ [])
      ∷ procedure (3 ∷ 2 ∷ 0 ∷ []) no_formal [] (digit (Load (outer 1 0)) ∷ []) ∷ [];
  domains = [];
}

carries_means : meant carries ≡ (51 ∷ [], Normal)
unfolding digits
carries_means = refl

carries_runs : done carries ≡ (51 ∷ [], Normal)
carries_runs = refl

-- new(p); write(p^)
abbrev makes : Program
makes = record {
  routines = block (PointerType 0 ∷ []) (New (own 0) 0 2 ∷ digit
      (Load (Variable (Entry 0 0) (selector_before (Target 0 9) no_selector))) ∷ []) ∷ [];
  domains = int ∷ [];
}

makes_means : meant makes ≡ (48 ∷ [], Normal)
unfolding digits
makes_means = refl

makes_runs : done makes ≡ (48 ∷ [], Normal)
makes_runs = refl

-- function g: integer; begin a[1] := 5; g := 1 end; procedure p(b: pair; n: integer); begin write(b[1]) end; begin p(a,
-- g) end
abbrev copies : Program
copies = record {
  routines =
      block (pair ∷ []) (CallProcedure 2 0 (argument_before (ByCopy (Contents (own 0) pair) pair)
      (argument_before (ByValue (Call 1 0 no_argument 7) (Within (negsuc 2147483647) (pos 2147483647)) 7)
      no_argument)) 7 ∷ [])
      ∷ record {
        chain = 1 ∷ 0 ∷ [];
        formals = no_formal;
        result = Some int;
        variables = [];
        body = statements (set (element 1 (n 1)) (n 5) 2 ∷ set (own 0) (n 1) 3 ∷ []);
        line = 2;
      }
      ∷ procedure (2 ∷ 0 ∷ []) (formal_before (ValueFormal pair) (formal_before (ValueFormal int) no_formal)) []
      (digit (Load (element 0 (n 1))) ∷ []) ∷ [];
  domains = [];
}

copies_means : meant copies ≡ (48 ∷ [], Normal)
unfolding digits
copies_means = refl

copies_runs : done copies ≡ (48 ∷ [], Normal)
copies_runs = refl
