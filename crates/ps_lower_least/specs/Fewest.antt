-- A lower bound on the number of instructions in the code of a part of the tree, whatever surrounds the part. What is
-- counted is what makes much code out of little text: a set or a structure that is passed by value, and a comparison of
-- sets. Everything else counts nothing but the calls, and is walked through.
use Rattle.std.specs.Prelude.{ℕ, ◌+◌, List, [], ◌∷◌}
use Rattle.ps_tree.specs.Tree.{Place, Variable, Selector, Element, Field, Target, Selectors, no_selector}
use Rattle.ps_tree.specs.Tree.{selector_before, ArithmeticSteps, no_arithmetic_step, arithmetic_step_before, Operands}
use Rattle.ps_tree.specs.Tree.{no_operand, operand_before, SetSteps, no_set_step, set_step_before, Expr, Number, Nil}
use Rattle.ps_tree.specs.Tree.{Load, Plus, Minus, Not, Arithmetic, Logic, Compare, ComparePointers, CompareSets}
use Rattle.ps_tree.specs.Tree.{CompareStrings, In, Apply, Eof, Eoln, Call, CallFormal, SetExpr, LoadSet, Constructor}
use Rattle.ps_tree.specs.Tree.{Combine, Member, One, Several, Members, no_member, member_before, Structure, Literal}
use Rattle.ps_tree.specs.Tree.{Contents, Argument, ByValue, BySet, ByCopy, ByVariable, ByRoutine, ByFormal, Arguments}
use Rattle.ps_tree.specs.Tree.{no_argument, argument_before, ReadVariable, ReadChar, ReadInteger, Width, DefaultWidth}
use Rattle.ps_tree.specs.Tree.{GivenWidth, WriteParameter, WriteInteger, WriteChar, WriteBoolean, WriteText, Statement}
use Rattle.ps_tree.specs.Tree.{Empty, Assign, AssignSet, AssignStructure, CallProcedure, CallFormalProcedure, Compound}
use Rattle.ps_tree.specs.Tree.{If, IfElse, Case, While, Repeat, For, With, New, Pack, Unpack, Read, Readln, Write}
use Rattle.ps_tree.specs.Tree.{Writeln, Statements, no_statement, statement_before, Elements, no_element}
use Rattle.ps_tree.specs.Tree.{element_before}

-- ---- variables and expressions

abbrev mutual
  pub place_fewest : Place → ℕ
  place_fewest (Variable base selectors) = selectors_fewest selectors

  pub selectors_fewest : Selectors → ℕ
  selectors_fewest no_selector = 0
  selectors_fewest (selector_before s rest) = selector_fewest s + selectors_fewest rest

  pub selector_fewest : Selector → ℕ
  selector_fewest (Element type e line) = expr_fewest e
  selector_fewest (Field type number) = 0
  selector_fewest (Target pointer line) = 0

  pub expr_fewest : Expr → ℕ
  expr_fewest (Number n) = 0
  expr_fewest Nil = 0
  expr_fewest (Load p) = place_fewest p
  expr_fewest (Plus e) = expr_fewest e
  expr_fewest (Minus e line) = expr_fewest e
  expr_fewest (Not e) = expr_fewest e
  expr_fewest (Arithmetic e steps) = expr_fewest e + steps_fewest steps
  expr_fewest (Logic operator e rest) = expr_fewest e + operands_fewest rest
  expr_fewest (Compare relation a b) = expr_fewest a + expr_fewest b
  expr_fewest (ComparePointers relation a b) = expr_fewest a + expr_fewest b
  expr_fewest (CompareSets relation a b) = 21 + set_fewest a + set_fewest b
  expr_fewest (CompareStrings relation a b) = structure_fewest a + structure_fewest b
  expr_fewest (In a b) = expr_fewest a + set_fewest b
  expr_fewest (Apply function e line) = expr_fewest e
  expr_fewest Eof = 0
  expr_fewest (Eoln line) = 0
  expr_fewest (Call r up arguments line) = 1 + arguments_fewest arguments
  expr_fewest (CallFormal up index arguments line) = 1 + arguments_fewest arguments

  pub steps_fewest : ArithmeticSteps → ℕ
  steps_fewest no_arithmetic_step = 0
  steps_fewest (arithmetic_step_before operator e line rest) = expr_fewest e + steps_fewest rest

  pub operands_fewest : Operands → ℕ
  operands_fewest no_operand = 0
  operands_fewest (operand_before e rest) = expr_fewest e + operands_fewest rest

  pub set_fewest : SetExpr → ℕ
  set_fewest (LoadSet p) = place_fewest p
  set_fewest (Constructor members) = members_fewest members
  set_fewest (Combine e steps) = set_fewest e + set_steps_fewest steps

  pub set_steps_fewest : SetSteps → ℕ
  set_steps_fewest no_set_step = 0
  set_steps_fewest (set_step_before operator e rest) = set_fewest e + set_steps_fewest rest

  pub member_fewest : Member → ℕ
  member_fewest (One e line) = expr_fewest e
  member_fewest (Several a b line) = expr_fewest a + expr_fewest b

  pub members_fewest : Members → ℕ
  members_fewest no_member = 0
  members_fewest (member_before m rest) = member_fewest m + members_fewest rest

  pub structure_fewest : Structure → ℕ
  structure_fewest (Literal characters) = 0
  structure_fewest (Contents p type) = place_fewest p

  pub argument_fewest : Argument → ℕ
  argument_fewest (ByValue e range line) = expr_fewest e
  argument_fewest (BySet e low high line) = 10 + set_fewest e
  argument_fewest (ByCopy e type) = 5 + structure_fewest e
  argument_fewest (ByVariable p) = place_fewest p
  argument_fewest (ByRoutine r up) = 1
  argument_fewest (ByFormal up index) = 0

  pub arguments_fewest : Arguments → ℕ
  arguments_fewest no_argument = 0
  arguments_fewest (argument_before a rest) = argument_fewest a + arguments_fewest rest

-- ---- statements

abbrev pub places_fewest : List Place → ℕ
places_fewest [] = 0
places_fewest (p ∷ rest) = place_fewest p + places_fewest rest

abbrev pub read_fewest : ReadVariable → ℕ
read_fewest (ReadChar p low high line) = place_fewest p
read_fewest (ReadInteger p low high line) = place_fewest p

abbrev pub reads_fewest : List ReadVariable → ℕ
reads_fewest [] = 0
reads_fewest (v ∷ rest) = read_fewest v + reads_fewest rest

abbrev pub width_fewest : Width → ℕ
width_fewest DefaultWidth = 0
width_fewest (GivenWidth e line) = expr_fewest e

abbrev pub write_fewest : WriteParameter → ℕ
write_fewest (WriteInteger e width) = expr_fewest e + width_fewest width
write_fewest (WriteChar e width) = expr_fewest e + width_fewest width
write_fewest (WriteBoolean e width) = expr_fewest e + width_fewest width
write_fewest (WriteText e width) = structure_fewest e + width_fewest width

abbrev pub writes_fewest : List WriteParameter → ℕ
writes_fewest [] = 0
writes_fewest (p ∷ rest) = write_fewest p + writes_fewest rest

abbrev mutual
  pub statement_fewest : Statement → ℕ
  statement_fewest Empty = 0
  statement_fewest (Assign p range e line) = place_fewest p + expr_fewest e
  statement_fewest (AssignSet p low high e line) = place_fewest p + set_fewest e
  statement_fewest (AssignStructure p e) = place_fewest p + structure_fewest e
  statement_fewest (CallProcedure r up arguments line) = 1 + arguments_fewest arguments
  statement_fewest (CallFormalProcedure up index arguments line) = 1 + arguments_fewest arguments
  statement_fewest (Compound body) = statements_fewest body
  statement_fewest (If e s) = expr_fewest e + statement_fewest s
  statement_fewest (IfElse e s t) = expr_fewest e + statement_fewest s + statement_fewest t
  statement_fewest (Case e elements line) = expr_fewest e + elements_fewest elements
  statement_fewest (While e s) = expr_fewest e + statement_fewest s
  statement_fewest (Repeat body e) = statements_fewest body + expr_fewest e
  statement_fewest (For variable low high a from_line direction b to_line s) = expr_fewest a + expr_fewest b
      + statement_fewest s
  statement_fewest (With places s) = places_fewest places + statement_fewest s
  statement_fewest (New p pointer line) = place_fewest p
  statement_fewest (Pack p from_type e line q to_type) = place_fewest p + expr_fewest e + place_fewest q
  statement_fewest (Unpack p from_type q to_type e line) = place_fewest p + place_fewest q + expr_fewest e
  statement_fewest (Read variables) = reads_fewest variables
  statement_fewest (Readln variables line) = reads_fewest variables
  statement_fewest (Write parameters) = writes_fewest parameters
  statement_fewest (Writeln parameters) = writes_fewest parameters

  pub statements_fewest : Statements → ℕ
  statements_fewest no_statement = 0
  statements_fewest (statement_before s rest) = statement_fewest s + statements_fewest rest

  pub elements_fewest : Elements → ℕ
  elements_fewest no_element = 0
  elements_fewest (element_before constants s rest) = statement_fewest s + elements_fewest rest
