-- Whether the code of a part of the tree calls a routine, of the program or of the run-time library. Only sixteen
-- levels are examined: an expression nested more deeply in others, or a statement in others, is taken to call. So a
-- part is examined for at most the sixteen levels around it, however many there are.
use Rattle.std.specs.Prelude.{ℕ, zero, suc, Bool, true, false, ◌||◌, List, [], ◌∷◌}
use Rattle.ps_tree.specs.Tree.{Place, Variable, Selector, Element, Field, Target, Selectors, no_selector}
use Rattle.ps_tree.specs.Tree.{selector_before, ArithmeticSteps, no_arithmetic_step, arithmetic_step_before, Operands}
use Rattle.ps_tree.specs.Tree.{no_operand, operand_before, Expr, Number, Nil, Load, Plus, Minus, Not, Arithmetic}
use Rattle.ps_tree.specs.Tree.{Logic, Compare, ComparePointers, CompareSets, CompareStrings, In, Apply, Eof, Eoln}
use Rattle.ps_tree.specs.Tree.{Call, CallFormal, SetExpr, LoadSet, Constructor, Combine, Structure, Literal, Contents}
use Rattle.ps_tree.specs.Tree.{Argument, ByValue, BySet, ByCopy, ByVariable, ByRoutine, ByFormal, Arguments}
use Rattle.ps_tree.specs.Tree.{no_argument, argument_before, Width, DefaultWidth, GivenWidth, Statement, Empty, Assign}
use Rattle.ps_tree.specs.Tree.{AssignSet, AssignStructure, CallProcedure, CallFormalProcedure, Compound, If, IfElse}
use Rattle.ps_tree.specs.Tree.{Case, While, Repeat, For, With, New, Pack, Unpack, Read, Readln, Write, Writeln}
use Rattle.ps_tree.specs.Tree.{Statements, no_statement, statement_before, Elements, no_element, element_before}

-- how many levels are examined
abbrev pub levels : ℕ
levels = 16

abbrev mutual
  pub place_calls_in : ℕ → Place → Bool
  place_calls_in n (Variable name selectors) = selectors_call_in n selectors

  pub selectors_call_in : ℕ → Selectors → Bool
  selectors_call_in n no_selector = false
  selectors_call_in n (selector_before s rest) = selector_calls_in n s || selectors_call_in n rest

  pub selector_calls_in : ℕ → Selector → Bool
  selector_calls_in n (Element type e line) = expr_calls_in n e
  selector_calls_in n (Field type number) = false
  selector_calls_in n (Target pointer line) = false

  pub expr_calls_in : ℕ → Expr → Bool
  expr_calls_in zero e = true
  expr_calls_in (suc n) (Number m) = false
  expr_calls_in (suc n) Nil = false
  expr_calls_in (suc n) (Load p) = place_calls_in n p
  expr_calls_in (suc n) (Plus e) = expr_calls_in n e
  expr_calls_in (suc n) (Minus e line) = expr_calls_in n e
  expr_calls_in (suc n) (Not e) = expr_calls_in n e
  expr_calls_in (suc n) (Arithmetic e steps) = expr_calls_in n e || steps_call_in n steps
  expr_calls_in (suc n) (Logic operator e rest) = expr_calls_in n e || operands_call_in n rest
  expr_calls_in (suc n) (Compare relation a b) = expr_calls_in n a || expr_calls_in n b
  expr_calls_in (suc n) (ComparePointers relation a b) = expr_calls_in n a || expr_calls_in n b
  expr_calls_in (suc n) (CompareSets relation a b) = true
  expr_calls_in (suc n) (CompareStrings relation a b) = true
  expr_calls_in (suc n) (In a b) = expr_calls_in n a || asked_calls_in n b
  expr_calls_in (suc n) (Apply function e line) = expr_calls_in n e
  expr_calls_in (suc n) Eof = true
  expr_calls_in (suc n) (Eoln line) = true
  expr_calls_in (suc n) (Call r up arguments line) = true
  expr_calls_in (suc n) (CallFormal up index arguments line) = true

  pub steps_call_in : ℕ → ArithmeticSteps → Bool
  steps_call_in n no_arithmetic_step = false
  steps_call_in n (arithmetic_step_before operator e line rest) = expr_calls_in n e || steps_call_in n rest

  pub operands_call_in : ℕ → Operands → Bool
  operands_call_in n no_operand = false
  operands_call_in n (operand_before e rest) = expr_calls_in n e || operands_call_in n rest

  -- a set in which a member is looked up: a variable's stays where it is
  pub asked_calls_in : ℕ → SetExpr → Bool
  asked_calls_in n (LoadSet p) = place_calls_in n p
  asked_calls_in n (Constructor members) = true
  asked_calls_in n (Combine e steps) = true

abbrev pub place_calls : Place → Bool
place_calls p = place_calls_in levels p

abbrev pub selectors_call : Selectors → Bool
selectors_call selectors = selectors_call_in levels selectors

abbrev pub expr_calls : Expr → Bool
expr_calls e = expr_calls_in levels e

abbrev pub steps_call : ArithmeticSteps → Bool
steps_call steps = steps_call_in levels steps

abbrev pub operands_call : Operands → Bool
operands_call operands = operands_call_in levels operands

abbrev pub asked_calls : SetExpr → Bool
asked_calls e = asked_calls_in levels e

abbrev pub structure_calls : Structure → Bool
structure_calls (Literal characters) = false
structure_calls (Contents p type) = place_calls p

abbrev pub argument_calls : Argument → Bool
argument_calls (ByValue e range line) = expr_calls e
argument_calls (BySet e low high line) = true
argument_calls (ByCopy e type) = true
argument_calls (ByVariable p) = place_calls p
argument_calls (ByRoutine r up) = false
argument_calls (ByFormal up index) = false

abbrev pub arguments_call : Arguments → Bool
arguments_call no_argument = false
arguments_call (argument_before a rest) = argument_calls a || arguments_call rest

abbrev pub width_calls : Width → Bool
width_calls DefaultWidth = false
width_calls (GivenWidth e line) = expr_calls e

abbrev pub places_call : List Place → Bool
places_call [] = false
places_call (p ∷ rest) = place_calls p || places_call rest

abbrev mutual
  pub statement_calls_in : ℕ → Statement → Bool
  statement_calls_in zero s = true
  statement_calls_in (suc n) Empty = false
  statement_calls_in (suc n) (Assign p range e line) = place_calls p || expr_calls e
  statement_calls_in (suc n) (AssignSet p low high e line) = true
  statement_calls_in (suc n) (AssignStructure p e) = true
  statement_calls_in (suc n) (CallProcedure r up arguments line) = true
  statement_calls_in (suc n) (CallFormalProcedure up index arguments line) = true
  statement_calls_in (suc n) (Compound body) = statements_call_in n body
  statement_calls_in (suc n) (If e s) = expr_calls e || statement_calls_in n s
  statement_calls_in (suc n) (IfElse e s t) = expr_calls e || statement_calls_in n s || statement_calls_in n t
  statement_calls_in (suc n) (Case e elements line) = expr_calls e || elements_call_in n elements
  statement_calls_in (suc n) (While e s) = expr_calls e || statement_calls_in n s
  statement_calls_in (suc n) (Repeat body e) = statements_call_in n body || expr_calls e
  statement_calls_in (suc n) (For variable low high a from_line direction b to_line s) = expr_calls a || expr_calls b
      || statement_calls_in n s
  statement_calls_in (suc n) (With places s) = places_call places || statement_calls_in n s
  statement_calls_in (suc n) (New p pointer line) = true
  statement_calls_in (suc n) (Pack p from_type e line q to_type) = true
  statement_calls_in (suc n) (Unpack p from_type q to_type e line) = true
  statement_calls_in (suc n) (Read variables) = true
  statement_calls_in (suc n) (Readln variables line) = true
  statement_calls_in (suc n) (Write parameters) = true
  statement_calls_in (suc n) (Writeln parameters) = true

  pub statements_call_in : ℕ → Statements → Bool
  statements_call_in n no_statement = false
  statements_call_in n (statement_before s rest) = statement_calls_in n s || statements_call_in n rest

  pub elements_call_in : ℕ → Elements → Bool
  elements_call_in n no_element = false
  elements_call_in n (element_before constants s rest) = statement_calls_in n s || elements_call_in n rest

abbrev pub statement_calls : Statement → Bool
statement_calls s = statement_calls_in levels s
