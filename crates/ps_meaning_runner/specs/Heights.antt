-- How deep the parts of a program are nested: a statement, an expression or a variable takes one level more than the
-- highest of its parts. An operator's operands and a variable's indices are parts of the one chain that they are in.
use Rattle.std.specs.Prelude.{ℕ, suc, max, List, [], ◌∷◌}
use Rattle.ps_tree.specs.Tree.{Place, Variable, Selector, Element, Field, Target, Selectors, no_selector}
use Rattle.ps_tree.specs.Tree.{selector_before, ArithmeticSteps, no_arithmetic_step, arithmetic_step_before, Operands}
use Rattle.ps_tree.specs.Tree.{no_operand, operand_before, SetSteps, no_set_step, set_step_before, Expr, Number, Nil}
use Rattle.ps_tree.specs.Tree.{Load, Plus, Minus, Not, Arithmetic, Logic, Compare, ComparePointers, CompareSets}
use Rattle.ps_tree.specs.Tree.{CompareStrings, In, Apply, Eof, Eoln, Call, CallFormal, SetExpr, LoadSet, Constructor}
use Rattle.ps_tree.specs.Tree.{Combine, Member, One, Several, Members, no_member, member_before, Structure, Literal}
use Rattle.ps_tree.specs.Tree.{Contents, Argument, ByValue, BySet, ByCopy, ByVariable, ByRoutine, ByFormal, Arguments}
use Rattle.ps_tree.specs.Tree.{no_argument, argument_before, ReadVariable, ReadChar, ReadInteger, Width, DefaultWidth}
use Rattle.ps_tree.specs.Tree.{GivenWidth, WriteParameter, WriteInteger, WriteChar, WriteBoolean, WriteText, Statement}
use Rattle.ps_tree.specs.Tree.{Empty, Assign, AssignSet, AssignStructure, CallProcedure, CallFormalProcedure, Compound}
use Rattle.ps_tree.specs.Tree.{If, IfElse, Case, While, Repeat, For, With, New, Pack, Unpack, Read, Readln, Write}
use Rattle.ps_tree.specs.Tree.{Writeln, Statements, no_statement, statement_before, Elements, no_element}
use Rattle.ps_tree.specs.Tree.{element_before, Routine, Program}

abbrev mutual
  pub place_height : Place → ℕ
  place_height (Variable base selectors) = suc (selectors_height selectors)

  pub selector_height : Selector → ℕ
  selector_height (Element type e line) = expr_height e
  selector_height (Field type number) = 0
  selector_height (Target pointer line) = 0

  pub selectors_height : Selectors → ℕ
  selectors_height no_selector = 0
  selectors_height (selector_before s rest) = max (selector_height s) (selectors_height rest)

  pub expr_height : Expr → ℕ
  expr_height (Number n) = 1
  expr_height Nil = 1
  expr_height (Load p) = suc (place_height p)
  expr_height (Plus e) = suc (expr_height e)
  expr_height (Minus e line) = suc (expr_height e)
  expr_height (Not e) = suc (expr_height e)
  expr_height (Arithmetic e steps) = suc (max (expr_height e) (steps_height steps))
  expr_height (Logic operator e rest) = suc (max (expr_height e) (operands_height rest))
  expr_height (Compare relation a b) = suc (max (expr_height a) (expr_height b))
  expr_height (ComparePointers relation a b) = suc (max (expr_height a) (expr_height b))
  expr_height (CompareSets relation a b) = suc (max (set_height a) (set_height b))
  expr_height (CompareStrings relation a b) = suc (max (structure_height a) (structure_height b))
  expr_height (In a b) = suc (max (expr_height a) (set_height b))
  expr_height (Apply function e line) = suc (expr_height e)
  expr_height Eof = 1
  expr_height (Eoln line) = 1
  expr_height (Call routine up arguments line) = suc (arguments_height arguments)
  expr_height (CallFormal up index arguments line) = suc (arguments_height arguments)

  pub steps_height : ArithmeticSteps → ℕ
  steps_height no_arithmetic_step = 0
  steps_height (arithmetic_step_before operator e line rest) = max (expr_height e) (steps_height rest)

  pub operands_height : Operands → ℕ
  operands_height no_operand = 0
  operands_height (operand_before e rest) = max (expr_height e) (operands_height rest)

  pub set_height : SetExpr → ℕ
  set_height (LoadSet p) = suc (place_height p)
  set_height (Constructor members) = suc (members_height members)
  set_height (Combine e steps) = suc (max (set_height e) (set_steps_height steps))

  pub set_steps_height : SetSteps → ℕ
  set_steps_height no_set_step = 0
  set_steps_height (set_step_before operator e rest) = max (set_height e) (set_steps_height rest)

  pub member_height : Member → ℕ
  member_height (One e line) = expr_height e
  member_height (Several a b line) = max (expr_height a) (expr_height b)

  pub members_height : Members → ℕ
  members_height no_member = 0
  members_height (member_before m rest) = max (member_height m) (members_height rest)

  pub structure_height : Structure → ℕ
  structure_height (Literal characters) = 0
  structure_height (Contents p type) = place_height p

  pub argument_height : Argument → ℕ
  argument_height (ByValue e range line) = expr_height e
  argument_height (BySet e low high line) = set_height e
  argument_height (ByCopy e type) = structure_height e
  argument_height (ByVariable p) = place_height p
  argument_height (ByRoutine routine up) = 0
  argument_height (ByFormal up index) = 0

  pub arguments_height : Arguments → ℕ
  arguments_height no_argument = 0
  arguments_height (argument_before a rest) = max (argument_height a) (arguments_height rest)

abbrev pub places_height : List Place → ℕ
places_height [] = 0
places_height (p ∷ rest) = max (place_height p) (places_height rest)

abbrev pub read_height : ReadVariable → ℕ
read_height (ReadChar p low high line) = place_height p
read_height (ReadInteger p low high line) = place_height p

abbrev pub reads_height : List ReadVariable → ℕ
reads_height [] = 0
reads_height (v ∷ rest) = max (read_height v) (reads_height rest)

abbrev pub width_height : Width → ℕ
width_height DefaultWidth = 0
width_height (GivenWidth e line) = expr_height e

abbrev pub write_height : WriteParameter → ℕ
write_height (WriteInteger e width) = max (expr_height e) (width_height width)
write_height (WriteChar e width) = max (expr_height e) (width_height width)
write_height (WriteBoolean e width) = max (expr_height e) (width_height width)
write_height (WriteText e width) = max (structure_height e) (width_height width)

abbrev pub writes_height : List WriteParameter → ℕ
writes_height [] = 0
writes_height (p ∷ rest) = max (write_height p) (writes_height rest)

abbrev mutual
  pub statement_height : Statement → ℕ
  statement_height Empty = 1
  statement_height (Assign p range e line) = suc (max (place_height p) (expr_height e))
  statement_height (AssignSet p low high e line) = suc (max (place_height p) (set_height e))
  statement_height (AssignStructure p e) = suc (max (place_height p) (structure_height e))
  statement_height (CallProcedure routine up arguments line) = suc (arguments_height arguments)
  statement_height (CallFormalProcedure up index arguments line) = suc (arguments_height arguments)
  statement_height (Compound body) = suc (statements_height body)
  statement_height (If e s) = suc (max (expr_height e) (statement_height s))
  statement_height (IfElse e s t) = suc (max (expr_height e) (max (statement_height s) (statement_height t)))
  statement_height (Case e elements line) = suc (max (expr_height e) (elements_height elements))
  statement_height (While e s) = suc (max (expr_height e) (statement_height s))
  statement_height (Repeat body e) = suc (max (statements_height body) (expr_height e))
  statement_height (For variable low high a from_line direction b to_line s) = suc
      (max (expr_height a) (max (expr_height b) (statement_height s)))
  statement_height (With places s) = suc (max (places_height places) (statement_height s))
  statement_height (New p pointer line) = suc (place_height p)
  statement_height (Pack p from_type e line q to_type) = suc
      (max (place_height p) (max (expr_height e) (place_height q)))
  statement_height (Unpack p from_type q to_type e line) = suc
      (max (place_height p) (max (place_height q) (expr_height e)))
  statement_height (Read variables) = suc (reads_height variables)
  statement_height (Readln variables line) = suc (reads_height variables)
  statement_height (Write parameters) = suc (writes_height parameters)
  statement_height (Writeln parameters) = suc (writes_height parameters)

  pub statements_height : Statements → ℕ
  statements_height no_statement = 0
  statements_height (statement_before s rest) = max (statement_height s) (statements_height rest)

  pub elements_height : Elements → ℕ
  elements_height no_element = 0
  elements_height (element_before constants s rest) = max (statement_height s) (elements_height rest)

-- the highest body of a program's blocks
abbrev pub highest_of : List Routine → ℕ
highest_of [] = 0
highest_of (r ∷ rest) = max (statements_height r.body) (highest_of rest)

abbrev pub highest : Program → ℕ
highest program = highest_of program.routines
