-- What the statements of a checked tree threaten (6.8.3.9), a walk over the finished tree: the entire variables that
-- are assigned to, passed as variable parameters, read by read or readln, or counted by `for` statements, in the order
-- of the text. Each is given by how many blocks out its own is, and by its entry there.
use Rattle.std.specs.Prelude.{◌≡◌, ℕ, ◌==◌, Bool, ◌&&◌, List, [], ◌∷◌, ◌++◌, map}
use Rattle.ps_syntax.specs.declared.statement.Statement as syntax
use Rattle.ps_tree.specs.Tree.{Place, Variable, Entry, Selector, Element, Field, Target, Selectors, no_selector}
use Rattle.ps_tree.specs.Tree.{selector_before, ArithmeticSteps, no_arithmetic_step, arithmetic_step_before, Operands}
use Rattle.ps_tree.specs.Tree.{no_operand, operand_before, SetSteps, no_set_step, set_step_before, Expr, Number, Nil}
use Rattle.ps_tree.specs.Tree.{Load, Plus, Minus, Not, Arithmetic, Logic, Compare, ComparePointers, CompareSets}
use Rattle.ps_tree.specs.Tree.{CompareStrings, In, Apply, Eof, Eoln, Call, CallFormal, SetExpr, LoadSet, Constructor}
use Rattle.ps_tree.specs.Tree.{Combine, Member, One, Several, Members, no_member, member_before, Structure, Literal}
use Rattle.ps_tree.specs.Tree.{Contents, Argument, ByValue, BySet, ByCopy, ByVariable, ByRoutine, ByFormal, Arguments}
use Rattle.ps_tree.specs.Tree.{no_argument, argument_before, ReadVariable, ReadChar, ReadInteger, Width, DefaultWidth}
use Rattle.ps_tree.specs.Tree.{GivenWidth, WriteParameter, WriteInteger, WriteChar, WriteBoolean, WriteText, Statement}
use Rattle.ps_tree.specs.Tree.{Empty, Assign, AssignSet, AssignStructure, CallProcedure, CallFormalProcedure, Compound}
use Rattle.ps_tree.specs.Tree.{If, IfElse, Case, While, Repeat, For, With, New, Pack, Unpack, Read, Readln, Write}
use Rattle.ps_tree.specs.Tree.{Writeln, Statements, no_statement, statement_before, Elements, no_element}
use Rattle.ps_tree.specs.Tree.{element_before}
use Rattle.ps_check_judgement.specs.declared.change.Change.{Change}
use Rattle.ps_check_judgement.specs.Judged.{Yes}
use Rattle.ps_check_names.specs.Regions.{Context, Region}
use Rattle.ps_check_statements.specs.Statements.{statements}

-- entries: how many blocks out, and which of the routine there
abbrev pub Threatened : Type 0
Threatened = List (ℕ × ℕ)

-- one of them is this entry, the given number of blocks out
abbrev pub is_entry : (up entry : ℕ) → ℕ × ℕ → Bool
is_entry up entry e = e.0 == up && e.1 == entry

-- A variable as a whole. A control variable and a function's result are of simple or pointer types, so they have no
-- components.
abbrev pub whole : Place → Threatened
whole (Variable (Entry up entry) no_selector) = (up, entry) ∷ []
whole _ = []

-- ---- in expressions: function calls with variable parameters

unfoldable mutual
  pub place_threatens : Place → Threatened
  place_threatens (Variable base selectors) = selectors_threaten selectors

  pub selector_threatens : Selector → Threatened
  selector_threatens (Element type e line) = expr_threatens e
  selector_threatens (Field type number) = []
  selector_threatens (Target pointer line) = []

  pub selectors_threaten : Selectors → Threatened
  selectors_threaten no_selector = []
  selectors_threaten (selector_before s rest) = selector_threatens s ++ selectors_threaten rest

  pub expr_threatens : Expr → Threatened
  expr_threatens (Number n) = []
  expr_threatens Nil = []
  expr_threatens (Load p) = place_threatens p
  expr_threatens (Plus e) = expr_threatens e
  expr_threatens (Minus e line) = expr_threatens e
  expr_threatens (Not e) = expr_threatens e
  expr_threatens (Arithmetic e steps) = expr_threatens e ++ arithmetic_threatens steps
  expr_threatens (Logic operator e rest) = expr_threatens e ++ operands_threaten rest
  expr_threatens (Compare relation a b) = expr_threatens a ++ expr_threatens b
  expr_threatens (ComparePointers relation a b) = expr_threatens a ++ expr_threatens b
  expr_threatens (CompareSets relation a b) = set_threatens a ++ set_threatens b
  expr_threatens (CompareStrings relation a b) = structure_threatens a ++ structure_threatens b
  expr_threatens (In a b) = expr_threatens a ++ set_threatens b
  expr_threatens (Apply f e line) = expr_threatens e
  expr_threatens Eof = []
  expr_threatens (Eoln line) = []
  expr_threatens (Call routine up arguments line) = arguments_threaten arguments
  expr_threatens (CallFormal up entry arguments line) = arguments_threaten arguments

  pub arithmetic_threatens : ArithmeticSteps → Threatened
  arithmetic_threatens no_arithmetic_step = []
  arithmetic_threatens (arithmetic_step_before operator e line rest) = expr_threatens e ++ arithmetic_threatens rest

  pub operands_threaten : Operands → Threatened
  operands_threaten no_operand = []
  operands_threaten (operand_before e rest) = expr_threatens e ++ operands_threaten rest

  pub set_threatens : SetExpr → Threatened
  set_threatens (LoadSet p) = place_threatens p
  set_threatens (Constructor members) = members_threaten members
  set_threatens (Combine e steps) = set_threatens e ++ set_steps_threaten steps

  pub set_steps_threaten : SetSteps → Threatened
  set_steps_threaten no_set_step = []
  set_steps_threaten (set_step_before operator e rest) = set_threatens e ++ set_steps_threaten rest

  pub member_threatens : Member → Threatened
  member_threatens (One e line) = expr_threatens e
  member_threatens (Several a b line) = expr_threatens a ++ expr_threatens b

  pub members_threaten : Members → Threatened
  members_threaten no_member = []
  members_threaten (member_before m rest) = member_threatens m ++ members_threaten rest

  pub structure_threatens : Structure → Threatened
  structure_threatens (Literal characters) = []
  structure_threatens (Contents p type) = place_threatens p

  pub argument_threatens : Argument → Threatened
  argument_threatens (ByValue e range line) = expr_threatens e
  argument_threatens (BySet e low high line) = set_threatens e
  argument_threatens (ByCopy e type) = structure_threatens e
  argument_threatens (ByVariable p) = place_threatens p ++ whole p
  argument_threatens (ByRoutine routine up) = []
  argument_threatens (ByFormal up entry) = []

  pub arguments_threaten : Arguments → Threatened
  arguments_threaten no_argument = []
  arguments_threaten (argument_before a rest) = argument_threatens a ++ arguments_threaten rest

-- a variable that is written to
abbrev pub write_threatens : Place → Threatened
write_threatens p = place_threatens p ++ whole p

-- ---- in statements

unfoldable pub places_threaten : List Place → Threatened
places_threaten [] = []
places_threaten (p ∷ rest) = place_threatens p ++ places_threaten rest

unfoldable pub read_threatens : ReadVariable → Threatened
read_threatens (ReadChar p low high line) = write_threatens p
read_threatens (ReadInteger p low high line) = write_threatens p

unfoldable pub reads_threaten : List ReadVariable → Threatened
reads_threaten [] = []
reads_threaten (v ∷ rest) = read_threatens v ++ reads_threaten rest

unfoldable pub width_threatens : Width → Threatened
width_threatens DefaultWidth = []
width_threatens (GivenWidth e line) = expr_threatens e

unfoldable pub parameter_threatens : WriteParameter → Threatened
parameter_threatens (WriteInteger e width) = expr_threatens e ++ width_threatens width
parameter_threatens (WriteChar e width) = expr_threatens e ++ width_threatens width
parameter_threatens (WriteBoolean e width) = expr_threatens e ++ width_threatens width
parameter_threatens (WriteText e width) = structure_threatens e ++ width_threatens width

unfoldable pub parameters_threaten : List WriteParameter → Threatened
parameters_threaten [] = []
parameters_threaten (p ∷ rest) = parameter_threatens p ++ parameters_threaten rest

unfoldable mutual
  pub statement_threatens : Statement → Threatened
  statement_threatens Empty = []
  statement_threatens (Assign p range e line) = write_threatens p ++ expr_threatens e
  statement_threatens (AssignSet p low high e line) = write_threatens p ++ set_threatens e
  statement_threatens (AssignStructure p e) = write_threatens p ++ structure_threatens e
  statement_threatens (CallProcedure routine up arguments line) = arguments_threaten arguments
  statement_threatens (CallFormalProcedure up entry arguments line) = arguments_threaten arguments
  statement_threatens (Compound body) = statements_threaten body
  statement_threatens (If e s) = expr_threatens e ++ statement_threatens s
  statement_threatens (IfElse e s t) = (expr_threatens e ++ statement_threatens s) ++ statement_threatens t
  statement_threatens (Case e elements line) = expr_threatens e ++ elements_threaten elements
  statement_threatens (While e s) = expr_threatens e ++ statement_threatens s
  statement_threatens (Repeat body e) = statements_threaten body ++ expr_threatens e
  -- a control variable is an entry of the routine itself
  statement_threatens (For variable low high a from_line direction b to_line s) =
      (((0, variable) ∷ expr_threatens a) ++ expr_threatens b) ++ statement_threatens s
  statement_threatens (With places s) = places_threaten places ++ statement_threatens s
  -- new, pack and unpack write to pointers and arrays, which are never control variables
  statement_threatens (New p pointer line) = place_threatens p
  statement_threatens (Pack p from_type e line q to_type) = (place_threatens p ++ expr_threatens e) ++ place_threatens q
  statement_threatens (Unpack p from_type q to_type e line) = (place_threatens p ++ place_threatens q)
      ++ expr_threatens e
  statement_threatens (Read variables) = reads_threaten variables
  statement_threatens (Readln variables line) = reads_threaten variables
  statement_threatens (Write parameters) = parameters_threaten parameters
  statement_threatens (Writeln parameters) = parameters_threaten parameters

  pub statements_threaten : Statements → Threatened
  statements_threaten no_statement = []
  statements_threaten (statement_before s rest) = statement_threatens s ++ statements_threaten rest

  pub elements_threaten : Elements → Threatened
  elements_threaten no_element = []
  elements_threaten (element_before constants s rest) = statement_threatens s ++ elements_threaten rest

-- the entries of changes, which are given with their places in the text
abbrev pub entries_of : List Change → Threatened
entries_of changes = map (λ (x : Change). (x.up, x.entry)) changes

-- What the judgement of statements passes on as changed is what the checked statements threaten.
abbrev pub WhatIsThreatenedIsChanged : Type 0
WhatIsThreatenedIsChanged = (c : Context) (Γ : List Region) (xs : List syntax.Statement) (body : Statements)
    (changes : List Change) → statements c Γ xs [] ≡ Yes (body, changes) → entries_of changes ≡ statements_threaten body
