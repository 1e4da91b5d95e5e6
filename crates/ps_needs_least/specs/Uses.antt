-- What a block does with routines: where it calls one (6.7.3, 6.8.2.3), and where it passes one (6.6.3.4, 6.6.3.5).
use Rattle.std.specs.Prelude.{List, [], ◌∷◌, ◌++◌}
use Rattle.ps_needs_least.specs.declared.uses.Use.{Use}
use Rattle.ps_needs_least.specs.declared.uses.Use.TheVariants.{Called, Passed, ParameterCalled}
use Rattle.ps_tree.specs.Tree.{Place, Variable, Selector, Element, Field, Target, Selectors, no_selector}
use Rattle.ps_tree.specs.Tree.{selector_before, ArithmeticSteps, no_arithmetic_step, arithmetic_step_before, Operands}
use Rattle.ps_tree.specs.Tree.{no_operand, operand_before, SetSteps, no_set_step, set_step_before, Expr, Number, Nil}
use Rattle.ps_tree.specs.Tree.{Load, Plus, Minus, Not, Arithmetic, Logic, Compare, ComparePointers, CompareSets}
use Rattle.ps_tree.specs.Tree.{CompareStrings, In, Apply, Eof, Eoln, Call, CallFormal, SetExpr, LoadSet, Constructor}
use Rattle.ps_tree.specs.Tree.{Combine, Member, One, Several, Members, no_member, member_before, Structure, Literal}
use Rattle.ps_tree.specs.Tree.{Contents, Argument, ByValue, BySet, ByCopy, ByVariable, ByRoutine, ByFormal, Arguments}
use Rattle.ps_tree.specs.Tree.{no_argument, argument_before, ReadVariable, ReadChar, ReadInteger, Width, DefaultWidth}
use Rattle.ps_tree.specs.Tree.{GivenWidth, WriteParameter, WriteInteger, WriteChar, WriteBoolean, WriteText, Statement}
use Rattle.ps_tree.specs.Tree.{Empty, Assign, AssignSet, AssignStructure, CallProcedure, CallFormalProcedure, Compound}
use Rattle.ps_tree.specs.Tree.{If, IfElse, Case, While, Repeat, For, With, New, Pack, Unpack, Read, Readln, Write}
use Rattle.ps_tree.specs.Tree.{Writeln, Statements, no_statement, statement_before, Elements, no_element}
use Rattle.ps_tree.specs.Tree.{element_before}

-- ---- variables and expressions, in the order of the text

abbrev mutual
  pub place_uses : Place → List Use
  place_uses (Variable base selectors) = selectors_uses selectors

  pub selectors_uses : Selectors → List Use
  selectors_uses no_selector = []
  selectors_uses (selector_before s rest) = selector_uses s ++ selectors_uses rest

  pub selector_uses : Selector → List Use
  selector_uses (Element type e line) = expr_uses e
  selector_uses (Field type number) = []
  selector_uses (Target pointer line) = []

  pub expr_uses : Expr → List Use
  expr_uses (Number n) = []
  expr_uses Nil = []
  expr_uses (Load p) = place_uses p
  expr_uses (Plus e) = expr_uses e
  expr_uses (Minus e line) = expr_uses e
  expr_uses (Not e) = expr_uses e
  expr_uses (Arithmetic e steps) = expr_uses e ++ steps_uses steps
  expr_uses (Logic operator e rest) = expr_uses e ++ operands_uses rest
  expr_uses (Compare relation a b) = expr_uses a ++ expr_uses b
  expr_uses (ComparePointers relation a b) = expr_uses a ++ expr_uses b
  expr_uses (CompareSets relation a b) = set_uses a ++ set_uses b
  expr_uses (CompareStrings relation a b) = structure_uses a ++ structure_uses b
  expr_uses (In a b) = expr_uses a ++ set_uses b
  expr_uses (Apply function e line) = expr_uses e
  expr_uses Eof = []
  expr_uses (Eoln line) = []
  expr_uses (Call r up arguments line) = Called r ∷ arguments_uses arguments
  expr_uses (CallFormal up index arguments line) = ParameterCalled ∷ arguments_uses arguments

  pub steps_uses : ArithmeticSteps → List Use
  steps_uses no_arithmetic_step = []
  steps_uses (arithmetic_step_before operator e line rest) = expr_uses e ++ steps_uses rest

  pub operands_uses : Operands → List Use
  operands_uses no_operand = []
  operands_uses (operand_before e rest) = expr_uses e ++ operands_uses rest

  pub set_uses : SetExpr → List Use
  set_uses (LoadSet p) = place_uses p
  set_uses (Constructor members) = members_uses members
  set_uses (Combine e steps) = set_uses e ++ set_steps_uses steps

  pub set_steps_uses : SetSteps → List Use
  set_steps_uses no_set_step = []
  set_steps_uses (set_step_before operator e rest) = set_uses e ++ set_steps_uses rest

  pub member_uses : Member → List Use
  member_uses (One e line) = expr_uses e
  member_uses (Several a b line) = expr_uses a ++ expr_uses b

  pub members_uses : Members → List Use
  members_uses no_member = []
  members_uses (member_before m rest) = member_uses m ++ members_uses rest

  pub structure_uses : Structure → List Use
  structure_uses (Literal characters) = []
  structure_uses (Contents p type) = place_uses p

  -- a parameter that is passed on was passed before
  pub argument_uses : Argument → List Use
  argument_uses (ByValue e range line) = expr_uses e
  argument_uses (BySet e low high line) = set_uses e
  argument_uses (ByCopy e type) = structure_uses e
  argument_uses (ByVariable p) = place_uses p
  argument_uses (ByRoutine r up) = Passed r ∷ []
  argument_uses (ByFormal up index) = []

  pub arguments_uses : Arguments → List Use
  arguments_uses no_argument = []
  arguments_uses (argument_before a rest) = argument_uses a ++ arguments_uses rest

-- ---- statements

abbrev pub places_uses : List Place → List Use
places_uses [] = []
places_uses (p ∷ rest) = place_uses p ++ places_uses rest

abbrev pub read_uses : ReadVariable → List Use
read_uses (ReadChar p low high line) = place_uses p
read_uses (ReadInteger p low high line) = place_uses p

abbrev pub reads_uses : List ReadVariable → List Use
reads_uses [] = []
reads_uses (v ∷ rest) = read_uses v ++ reads_uses rest

abbrev pub width_uses : Width → List Use
width_uses DefaultWidth = []
width_uses (GivenWidth e line) = expr_uses e

abbrev pub write_uses : WriteParameter → List Use
write_uses (WriteInteger e width) = expr_uses e ++ width_uses width
write_uses (WriteChar e width) = expr_uses e ++ width_uses width
write_uses (WriteBoolean e width) = expr_uses e ++ width_uses width
write_uses (WriteText e width) = structure_uses e ++ width_uses width

abbrev pub writes_uses : List WriteParameter → List Use
writes_uses [] = []
writes_uses (p ∷ rest) = write_uses p ++ writes_uses rest

abbrev mutual
  pub statement_uses : Statement → List Use
  statement_uses Empty = []
  statement_uses (Assign p range e line) = place_uses p ++ expr_uses e
  statement_uses (AssignSet p low high e line) = place_uses p ++ set_uses e
  statement_uses (AssignStructure p e) = place_uses p ++ structure_uses e
  statement_uses (CallProcedure r up arguments line) = Called r ∷ arguments_uses arguments
  statement_uses (CallFormalProcedure up index arguments line) = ParameterCalled ∷ arguments_uses arguments
  statement_uses (Compound body) = statements_uses body
  statement_uses (If e s) = expr_uses e ++ statement_uses s
  statement_uses (IfElse e s t) = expr_uses e ++ statement_uses s ++ statement_uses t
  statement_uses (Case e elements line) = expr_uses e ++ elements_uses elements
  statement_uses (While e s) = expr_uses e ++ statement_uses s
  statement_uses (Repeat body e) = statements_uses body ++ expr_uses e
  statement_uses (For variable low high a from_line direction b to_line s) = expr_uses a ++ expr_uses b
      ++ statement_uses s
  statement_uses (With places s) = places_uses places ++ statement_uses s
  statement_uses (New p pointer line) = place_uses p
  statement_uses (Pack p from_type e line q to_type) = place_uses p ++ expr_uses e ++ place_uses q
  statement_uses (Unpack p from_type q to_type e line) = place_uses p ++ place_uses q ++ expr_uses e
  statement_uses (Read variables) = reads_uses variables
  statement_uses (Readln variables line) = reads_uses variables
  statement_uses (Write parameters) = writes_uses parameters
  statement_uses (Writeln parameters) = writes_uses parameters

  pub statements_uses : Statements → List Use
  statements_uses no_statement = []
  statements_uses (statement_before s rest) = statement_uses s ++ statements_uses rest

  pub elements_uses : Elements → List Use
  elements_uses no_element = []
  elements_uses (element_before constants s rest) = statement_uses s ++ elements_uses rest
