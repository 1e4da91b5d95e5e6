-- What the values of the program's types denote in the definitions.
pub use Rattle.ps_tree.specs.TypeView.{type_of, types_of}
use Rattle.std.specs.Prelude.{List, [], ◌∷◌, map, option_map}
use Rattle.ps_tree.specs.Tree as Tree
use Rattle.ps_tree.specs.declared.types.Ty.{Ty}
use Rattle.ps_tree.specs.declared.tree.Place.{Place}
use Rattle.ps_tree.specs.declared.tree.PlaceBase.{PlaceBase}
use Rattle.ps_tree.specs.declared.tree.PlaceBase.TheVariants.{Entry, Opened}
use Rattle.ps_tree.specs.declared.tree.Selector.{Selector, Element, Field, Target}
use Rattle.ps_tree.specs.declared.tree.ArithmeticStep.{ArithmeticStep, out-ArithmeticStep}
use Rattle.ps_tree.specs.declared.tree.SetStep.{SetStep, out-SetStep}
use Rattle.ps_tree.specs.declared.tree.Expr.{Expr, Number, Nil, Load', Plus', Minus', Not', Arithmetic', Logic'}
use Rattle.ps_tree.specs.declared.tree.Expr.{Compare', ComparePointers', CompareSets', CompareStrings', In', Apply'}
use Rattle.ps_tree.specs.declared.tree.Expr.{Eof, Eoln, Call', CallFormal', Row_of-Argument, end_of-Argument}
use Rattle.ps_tree.specs.declared.tree.Expr.{more_of-Argument}
use Rattle.ps_tree.specs.declared.tree.SetExpr.{SetExpr, Constructor', Combine', Row_of-Member, end_of-Member}
use Rattle.ps_tree.specs.declared.tree.SetExpr.{more_of-Member}
use Rattle.ps_tree.specs.declared.tree.SetExpr.{Load' as LoadSet'}
use Rattle.ps_tree.specs.declared.tree.Member.{Member, One, Range as Several}
use Rattle.ps_tree.specs.declared.tree.Structure.{Structure, Literal, Contents'}
use Rattle.ps_tree.specs.declared.tree.Expr.{Row_of-Selector, end_of-Selector, more_of-Selector, Row_of-ArithmeticStep}
use Rattle.ps_tree.specs.declared.tree.Expr.{end_of-ArithmeticStep, more_of-ArithmeticStep, Row_of-Expr, end_of-Expr}
use Rattle.ps_tree.specs.declared.tree.Expr.{more_of-Expr}
use Rattle.ps_tree.specs.declared.tree.SetExpr.{Row_of-SetStep, end_of-SetStep, more_of-SetStep}
use Rattle.ps_tree.specs.declared.tree.Argument.{Argument, Value as ByValue, Set as BySet, Copy as ByCopy}
use Rattle.ps_tree.specs.declared.tree.Argument.{Variable' as ByVariable', Routine as ByRoutine, Formal as ByFormal}
use Rattle.ps_tree.specs.declared.tree.statements.ReadVariable.{ReadVariable}
use Rattle.ps_tree.specs.declared.tree.statements.ReadVariable.TheVariants.{Char as ReadChar, Integer as ReadInteger}
use Rattle.ps_tree.specs.declared.tree.statements.Width.{Width}
use Rattle.ps_tree.specs.declared.tree.statements.Width.TheVariants.{Default, Given}
use Rattle.ps_tree.specs.declared.tree.statements.WriteParameter.{WriteParameter}
use Rattle.ps_tree.specs.declared.tree.statements.WriteParameter.TheVariants.{Integer as WriteInteger}
use Rattle.ps_tree.specs.declared.tree.statements.WriteParameter.TheVariants.{Char as WriteChar}
use Rattle.ps_tree.specs.declared.tree.statements.WriteParameter.TheVariants.{Boolean as WriteBoolean}
use Rattle.ps_tree.specs.declared.tree.statements.WriteParameter.TheVariants.{Text as WriteText}
use Rattle.ps_tree.specs.declared.tree.statements.Statement.{Statement, Empty, Assign, AssignSet, AssignStructure}
use Rattle.ps_tree.specs.declared.tree.statements.Statement.{Call as CallProcedure, CallFormal as CallFormalProcedure}
use Rattle.ps_tree.specs.declared.tree.statements.Statement.{Compound'}
use Rattle.ps_tree.specs.declared.tree.statements.Statement.{If', IfElse', Case', While', Repeat', For', With', New}
use Rattle.ps_tree.specs.declared.tree.statements.Statement.{Pack, Unpack}
use Rattle.ps_tree.specs.declared.tree.statements.Statement.{Read, Readln, Write, Writeln, Row_of-Statement}
use Rattle.ps_tree.specs.declared.tree.statements.Statement.{end_of-Statement}
use Rattle.ps_tree.specs.declared.tree.statements.Statement.{more_of-Statement, Row_of-CaseElement, end_of-CaseElement}
use Rattle.ps_tree.specs.declared.tree.statements.Statement.{more_of-CaseElement}
use Rattle.ps_tree.specs.declared.tree.statements.CaseElement.{CaseElement, out-CaseElement}
use Rattle.ps_tree.specs.declared.tree.statements.Formal.{Formal, Value as ValueFormal, Variable as VariableFormal}
use Rattle.ps_tree.specs.declared.tree.statements.Formal.{Routine' as RoutineFormal', Row_of-Formal, end_of-Formal}
use Rattle.ps_tree.specs.declared.tree.statements.Formal.{more_of-Formal}
use Rattle.ps_tree.specs.declared.tree.statements.Routine.{Routine}

abbrev pub base_of : PlaceBase → Tree.PlaceBase
base_of (Entry up index) = Tree.Entry up index
base_of (Opened field) = Tree.Opened field.value.which (type_of field.value.ty) field.value.number

unfoldable mutual
  pub selector_of : Selector → Tree.Selector
  selector_of (Element ty index line) = Tree.Element (type_of ty) (expr_of index) line.number
  selector_of (Field ty number) = Tree.Field (type_of ty) number
  selector_of (Target pointer line) = Tree.Target pointer line.number

  pub selectors_of_row : {m : _} → Row_of-Selector m → Tree.Selectors
  selectors_of_row end_of-Selector = Tree.no_selector
  selectors_of_row (more_of-Selector s rest) = Tree.selector_before (selector_of s) (selectors_of_row rest)

  pub expr_of : Expr → Tree.Expr
  expr_of (Number n) = Tree.Number n
  expr_of Nil = Tree.Nil
  expr_of (Load' p base shape row) = Tree.Load (Tree.Variable (base_of base) (selectors_of_row row))
  expr_of (Plus' p e) = Tree.Plus (expr_of e)
  expr_of (Minus' p e line) = Tree.Minus (expr_of e) line.number
  expr_of (Not' p e) = Tree.Not (expr_of e)
  expr_of (Arithmetic' p e shape row) = Tree.Arithmetic (expr_of e) (arithmetic_of_row row)
  expr_of (Logic' operator p e shape row) = Tree.Logic operator (expr_of e) (operands_of_row row)
  expr_of (Compare' relation p a q b) = Tree.Compare relation (expr_of a) (expr_of b)
  expr_of (ComparePointers' relation p a q b) = Tree.ComparePointers relation (expr_of a) (expr_of b)
  expr_of (CompareSets' relation p a q b) = Tree.CompareSets relation (set_of a) (set_of b)
  expr_of (CompareStrings' relation p a q b) = Tree.CompareStrings relation (structure_of a) (structure_of b)
  expr_of (In' p a q b) = Tree.In (expr_of a) (set_of b)
  expr_of (Apply' function p e line) = Tree.Apply function (expr_of e) line.number
  expr_of Eof = Tree.Eof
  expr_of (Eoln line) = Tree.Eoln line.number
  expr_of (Call' routine up shape row line) = Tree.Call routine up (arguments_of_row row) line.number
  expr_of (CallFormal' up index shape row line) = Tree.CallFormal up index (arguments_of_row row) line.number

  pub arithmetic_of_row : {m : _} → Row_of-ArithmeticStep m → Tree.ArithmeticSteps
  arithmetic_of_row end_of-ArithmeticStep = Tree.no_arithmetic_step
  arithmetic_of_row (more_of-ArithmeticStep operator e line rest) = Tree.arithmetic_step_before operator
      (expr_of e) line.number (arithmetic_of_row rest)

  pub operands_of_row : {m : _} → Row_of-Expr m → Tree.Operands
  operands_of_row end_of-Expr = Tree.no_operand
  operands_of_row (more_of-Expr e rest) = Tree.operand_before (expr_of e) (operands_of_row rest)

  pub set_of : SetExpr → Tree.SetExpr
  set_of (LoadSet' p base shape row) = Tree.LoadSet (Tree.Variable (base_of base) (selectors_of_row row))
  set_of (Constructor' shape row) = Tree.Constructor (members_of_row row)
  set_of (Combine' p e shape row) = Tree.Combine (set_of e) (set_steps_of_row row)

  pub set_steps_of_row : {m : _} → Row_of-SetStep m → Tree.SetSteps
  set_steps_of_row end_of-SetStep = Tree.no_set_step
  set_steps_of_row (more_of-SetStep operator e rest) = Tree.set_step_before operator (set_of e) (set_steps_of_row rest)

  pub member_of : Member → Tree.Member
  member_of (One e line) = Tree.One (expr_of e) line.number
  member_of (Several a b line) = Tree.Several (expr_of a) (expr_of b) line.number

  pub members_of_row : {m : _} → Row_of-Member m → Tree.Members
  members_of_row end_of-Member = Tree.no_member
  members_of_row (more_of-Member m rest) = Tree.member_before (member_of m) (members_of_row rest)

  pub structure_of : Structure → Tree.Structure
  structure_of (Literal characters) = Tree.Literal characters
  structure_of (Contents' p base shape row ty) = Tree.Contents (Tree.Variable (base_of base) (selectors_of_row row))
      (type_of ty)

  pub argument_of : Argument → Tree.Argument
  argument_of (ByValue e range line) = Tree.ByValue (expr_of e) range line.number
  argument_of (BySet e low high line) = Tree.BySet (set_of e) low high line.number
  argument_of (ByCopy e ty) = Tree.ByCopy (structure_of e) (type_of ty)
  argument_of (ByVariable' base shape row) = Tree.ByVariable (Tree.Variable (base_of base) (selectors_of_row row))
  argument_of (ByRoutine routine up) = Tree.ByRoutine routine up
  argument_of (ByFormal up index) = Tree.ByFormal up index

  pub arguments_of_row : {m : _} → Row_of-Argument m → Tree.Arguments
  arguments_of_row end_of-Argument = Tree.no_argument
  arguments_of_row (more_of-Argument a rest) = Tree.argument_before (argument_of a) (arguments_of_row rest)

-- lists of selectors, and a variable
unfoldable pub selectors_of : List Selector → Tree.Selectors
selectors_of [] = Tree.no_selector
selectors_of (s ∷ rest) = Tree.selector_before (selector_of s) (selectors_of rest)

abbrev pub place_of : Place → Tree.Place
place_of place = Tree.Variable (base_of place.base) (selectors_of place.selectors.items)

-- lists of operands with their operators
unfoldable pub arithmetic_of : List ArithmeticStep → Tree.ArithmeticSteps
arithmetic_of [] = Tree.no_arithmetic_step
arithmetic_of (s ∷ rest) = Tree.arithmetic_step_before (out-ArithmeticStep s).operator
    (expr_of (out-ArithmeticStep s).operand) (out-ArithmeticStep s).line.number (arithmetic_of rest)

unfoldable pub operands_of : List Expr → Tree.Operands
operands_of [] = Tree.no_operand
operands_of (e ∷ rest) = Tree.operand_before (expr_of e) (operands_of rest)

unfoldable pub set_steps_of : List SetStep → Tree.SetSteps
set_steps_of [] = Tree.no_set_step
set_steps_of (s ∷ rest) = Tree.set_step_before (out-SetStep s).operator (set_of (out-SetStep s).operand)
    (set_steps_of rest)

-- lists of arguments, as the tree has them
unfoldable pub arguments_of : List Argument → Tree.Arguments
arguments_of [] = Tree.no_argument
arguments_of (a ∷ rest) = Tree.argument_before (argument_of a) (arguments_of rest)

unfoldable pub members_of : List Member → Tree.Members
members_of [] = Tree.no_member
members_of (m ∷ rest) = Tree.member_before (member_of m) (members_of rest)

unfoldable pub read_of : ReadVariable → Tree.ReadVariable
read_of (ReadChar place low high line) = Tree.ReadChar (place_of place) low high line.number
read_of (ReadInteger place low high line) = Tree.ReadInteger (place_of place) low high line.number

unfoldable pub width_of : Width → Tree.Width
width_of Default = Tree.DefaultWidth
width_of (Given e line) = Tree.GivenWidth (expr_of e) line.number

unfoldable pub write_of : WriteParameter → Tree.WriteParameter
write_of (WriteInteger e width) = Tree.WriteInteger (expr_of e) (width_of width)
write_of (WriteChar e width) = Tree.WriteChar (expr_of e) (width_of width)
write_of (WriteBoolean e width) = Tree.WriteBoolean (expr_of e) (width_of width)
write_of (WriteText e width) = Tree.WriteText (structure_of e) (width_of width)

unfoldable mutual
  pub statement_of : Statement → Tree.Statement
  statement_of Empty = Tree.Empty
  statement_of (Assign range place e line) = Tree.Assign (place_of place) range (expr_of e) line.number
  statement_of (AssignSet place low high e line) = Tree.AssignSet (place_of place) low high (set_of e) line.number
  statement_of (AssignStructure place e) = Tree.AssignStructure (place_of place) (structure_of e)
  statement_of (CallProcedure routine up arguments line) = Tree.CallProcedure routine up
      (arguments_of arguments.items) line.number
  statement_of (CallFormalProcedure up index arguments line) = Tree.CallFormalProcedure up index
      (arguments_of arguments.items) line.number
  statement_of (Compound' shape row) = Tree.Compound (statements_of_row row)
  statement_of (If' e p s) = Tree.If (expr_of e) (statement_of s)
  statement_of (IfElse' e p s q t) = Tree.IfElse (expr_of e) (statement_of s) (statement_of t)
  statement_of (Case' e shape row line) = Tree.Case (expr_of e) (elements_of_row row) line.number
  statement_of (While' e p s) = Tree.While (expr_of e) (statement_of s)
  statement_of (Repeat' shape row e) = Tree.Repeat (statements_of_row row) (expr_of e)
  statement_of (For' variable at low high a from_line direction b to_line p s) = Tree.For variable low high
      (expr_of a.value) from_line.number direction (expr_of b.value) to_line.number (statement_of s)
  statement_of (With' places p s) = Tree.With (map place_of places.items) (statement_of s)
  statement_of (New place pointer line) = Tree.New (place_of place) pointer line.number
  statement_of (Pack a from_ty e line z to_ty) = Tree.Pack (place_of a.value) (type_of from_ty.value)
      (expr_of e) line.number (place_of z.value) (type_of to_ty.value)
  statement_of (Unpack z from_ty a to_ty e line) = Tree.Unpack (place_of z.value) (type_of from_ty.value)
      (place_of a.value) (type_of to_ty.value) (expr_of e) line.number
  statement_of (Read variables) = Tree.Read (map read_of variables.items)
  statement_of (Readln variables line) = Tree.Readln (map read_of variables.items) line.number
  statement_of (Write parameters) = Tree.Write (map write_of parameters.items)
  statement_of (Writeln parameters) = Tree.Writeln (map write_of parameters.items)

  pub statements_of_row : {m : _} → Row_of-Statement m → Tree.Statements
  statements_of_row end_of-Statement = Tree.no_statement
  statements_of_row (more_of-Statement s rest) = Tree.statement_before (statement_of s) (statements_of_row rest)

  pub elements_of_row : {m : _} → Row_of-CaseElement m → Tree.Elements
  elements_of_row end_of-CaseElement = Tree.no_element
  elements_of_row (more_of-CaseElement constants s rest) = Tree.element_before constants.items (statement_of s)
      (elements_of_row rest)

-- lists of statements and case elements
unfoldable pub statements_of : List Statement → Tree.Statements
statements_of [] = Tree.no_statement
statements_of (s ∷ rest) = Tree.statement_before (statement_of s) (statements_of rest)

unfoldable pub elements_of : List CaseElement → Tree.Elements
elements_of [] = Tree.no_element
elements_of (e ∷ rest) = Tree.element_before (out-CaseElement e).constants.items (statement_of (out-CaseElement e).body)
    (elements_of rest)

unfoldable mutual
  pub formal_of : Formal → Tree.Formal
  formal_of (ValueFormal ty) = Tree.ValueFormal (type_of ty)
  formal_of (VariableFormal ty) = Tree.VariableFormal (type_of ty)
  formal_of (RoutineFormal' shape row result) = Tree.RoutineFormal (formals_of_row row) (option_map type_of result)

  pub formals_of_row : {m : _} → Row_of-Formal m → Tree.Formals
  formals_of_row end_of-Formal = Tree.no_formal
  formals_of_row (more_of-Formal f rest) = Tree.formal_before (formal_of f) (formals_of_row rest)

unfoldable pub formals_of : List Formal → Tree.Formals
formals_of [] = Tree.no_formal
formals_of (f ∷ rest) = Tree.formal_before (formal_of f) (formals_of rest)

abbrev pub routine_of : Routine → Tree.Routine
routine_of r = record {
  chain = r.chain.items;
  formals = formals_of r.formals.items;
  result = option_map type_of r.result;
  variables = map type_of r.variables.items;
  body = statements_of r.body.items;
  line = r.line.number;
}

abbrev pub program_of : List Routine → List Ty → Tree.Program
program_of routines domains = record { routines = map routine_of routines; domains = map type_of domains }
