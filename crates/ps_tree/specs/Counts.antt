-- The nodes and cells of a routine, and the limits that a checked program keeps (this project's limits).
use Rattle.std.specs.Prelude.{ℕ, ◌+◌, ◌-◌, ◌^◌, min, Bool, true, ◌&&◌, nat_le, List, [], ◌∷◌, length, Option, Some}
use Rattle.std.specs.Prelude.{None}
use Rattle.ps_tree.specs.declared.count.Extent.{Extent}
use Rattle.ps_tree.specs.declared.limits.TheConstants.{MAX_CELLS, MAX_DEPTH, MAX_FORMALS, MAX_NODES, MAX_ROUTINES}
use Rattle.ps_tree.specs.Types.{DataType}
use Rattle.ps_tree.specs.Sizes.{cells}
use Rattle.ps_tree.specs.Tree.{Place, Variable, Selector, Element, Field, Target, Selectors, no_selector}
use Rattle.ps_tree.specs.Tree.{selector_before, ArithmeticSteps, no_arithmetic_step, arithmetic_step_before, Operands}
use Rattle.ps_tree.specs.Tree.{no_operand, operand_before, SetSteps, no_set_step, set_step_before, Expr, Number, Nil}
use Rattle.ps_tree.specs.Tree.{Load, Plus, Minus, Not, Arithmetic, Logic, Compare, ComparePointers, CompareSets}
use Rattle.ps_tree.specs.Tree.{CompareStrings, In, Apply, Eof, Eoln, Call, CallFormal, SetExpr, LoadSet, Constructor}
use Rattle.ps_tree.specs.Tree.{Combine, Member, One, Several, Members, no_member, member_before, Structure, Literal}
use Rattle.ps_tree.specs.Tree.{Contents, Argument, ByValue, BySet, ByCopy, ByVariable, ByRoutine, ByFormal, Arguments}
use Rattle.ps_tree.specs.Tree.{no_argument, argument_before, ReadVariable, ReadChar, ReadInteger, Width, DefaultWidth}
use Rattle.ps_tree.specs.Tree.{GivenWidth, WriteParameter, WriteInteger, WriteChar, WriteBoolean, WriteText, Statement}
use Rattle.ps_tree.specs.Tree.{Empty, Assign, AssignSet, AssignStructure, CallProcedure, CallFormalProcedure, Compound}
use Rattle.ps_tree.specs.Tree.{If, IfElse, Case, While, Repeat, For, With, New, Pack, Unpack, Read, Readln, Write}
use Rattle.ps_tree.specs.Tree.{Writeln, Statements, no_statement, statement_before, Elements, no_element}
use Rattle.ps_tree.specs.Tree.{element_before, Formal, ValueFormal, VariableFormal, RoutineFormal, Formals, no_formal}
use Rattle.ps_tree.specs.Tree.{formal_before, Routine, Program}

-- An extent is the number of nodes in a part of the tree, and of cells for its variables and for the copies of arrays
-- and records that its calls make. Nodes are statements (empty ones too), operators and leading signs, operands
-- (numbers, strings, nil, variables, calls, set constructors), selectors, actual parameters, write parameters and set
-- members.
abbrev pub nothing : Extent
nothing = record { nodes = 0; taken = 0 }

abbrev pub node : Extent
node = record { nodes = 1; taken = 0 }

abbrev pub copy_of : DataType → Extent
copy_of type = record { nodes = 0; taken = cells type }

infixl 6 ◌⊕◌
abbrev pub ◌⊕◌ : Extent → Extent → Extent
a ⊕ b = record { nodes = a.nodes + b.nodes; taken = a.taken + b.taken }

-- an extent given up to the largest number of eight bytes
abbrev pub capped : Extent → Extent
capped a = record { nodes = min a.nodes (2 ^ 64 - 1); taken = min a.taken (2 ^ 64 - 1) }

unfoldable mutual
  -- a variable's name is an operand, and each selector a node
  pub place_extent : Place → Extent
  place_extent (Variable base selectors) = node ⊕ selectors_extent selectors

  pub selector_extent : Selector → Extent
  selector_extent (Element type e line) = node ⊕ expr_extent e
  selector_extent (Field type number) = node
  selector_extent (Target pointer line) = node

  pub selectors_extent : Selectors → Extent
  selectors_extent no_selector = nothing
  selectors_extent (selector_before s rest) = selector_extent s ⊕ selectors_extent rest

  pub expr_extent : Expr → Extent
  expr_extent (Number n) = node
  expr_extent Nil = node
  expr_extent (Load p) = place_extent p
  expr_extent (Plus e) = node ⊕ expr_extent e
  expr_extent (Minus e line) = node ⊕ expr_extent e
  expr_extent (Not e) = node ⊕ expr_extent e
  expr_extent (Arithmetic e steps) = expr_extent e ⊕ arithmetic_extent steps
  expr_extent (Logic operator e rest) = expr_extent e ⊕ operands_extent rest
  expr_extent (Compare relation a b) = expr_extent a ⊕ node ⊕ expr_extent b
  expr_extent (ComparePointers relation a b) = expr_extent a ⊕ node ⊕ expr_extent b
  expr_extent (CompareSets relation a b) = set_extent a ⊕ node ⊕ set_extent b
  expr_extent (CompareStrings relation a b) = structure_extent a ⊕ node ⊕ structure_extent b
  expr_extent (In a b) = expr_extent a ⊕ node ⊕ set_extent b
  -- a call with one actual parameter
  expr_extent (Apply f e line) = node ⊕ node ⊕ expr_extent e
  expr_extent Eof = node
  expr_extent (Eoln line) = node
  expr_extent (Call routine up arguments line) = node ⊕ arguments_extent arguments
  expr_extent (CallFormal up index arguments line) = node ⊕ arguments_extent arguments

  -- each operator is a node
  pub arithmetic_extent : ArithmeticSteps → Extent
  arithmetic_extent no_arithmetic_step = nothing
  arithmetic_extent (arithmetic_step_before operator e line rest) = node ⊕ expr_extent e ⊕ arithmetic_extent rest

  pub operands_extent : Operands → Extent
  operands_extent no_operand = nothing
  operands_extent (operand_before e rest) = node ⊕ expr_extent e ⊕ operands_extent rest

  pub set_extent : SetExpr → Extent
  set_extent (LoadSet p) = place_extent p
  set_extent (Constructor members) = node ⊕ members_extent members
  set_extent (Combine e steps) = set_extent e ⊕ set_steps_extent steps

  pub set_steps_extent : SetSteps → Extent
  set_steps_extent no_set_step = nothing
  set_steps_extent (set_step_before operator e rest) = node ⊕ set_extent e ⊕ set_steps_extent rest

  pub member_extent : Member → Extent
  member_extent (One e line) = node ⊕ expr_extent e
  member_extent (Several a b line) = node ⊕ expr_extent a ⊕ expr_extent b

  pub members_extent : Members → Extent
  members_extent no_member = nothing
  members_extent (member_before m rest) = member_extent m ⊕ members_extent rest

  pub structure_extent : Structure → Extent
  structure_extent (Literal characters) = node
  structure_extent (Contents p type) = place_extent p

  pub argument_extent : Argument → Extent
  argument_extent (ByValue e range line) = node ⊕ expr_extent e
  argument_extent (BySet e low high line) = node ⊕ set_extent e
  argument_extent (ByCopy e type) = node ⊕ structure_extent e ⊕ copy_of type
  argument_extent (ByVariable p) = node ⊕ place_extent p
  argument_extent (ByRoutine routine up) = node
  argument_extent (ByFormal up index) = node

  pub arguments_extent : Arguments → Extent
  arguments_extent no_argument = nothing
  arguments_extent (argument_before a rest) = argument_extent a ⊕ arguments_extent rest

unfoldable pub places_extent : List Place → Extent
places_extent [] = nothing
places_extent (p ∷ rest) = place_extent p ⊕ places_extent rest

unfoldable pub read_extent : ReadVariable → Extent
read_extent (ReadChar p low high line) = node ⊕ place_extent p
read_extent (ReadInteger p low high line) = node ⊕ place_extent p

unfoldable pub reads_extent : List ReadVariable → Extent
reads_extent [] = nothing
reads_extent (v ∷ rest) = read_extent v ⊕ reads_extent rest

unfoldable pub width_extent : Width → Extent
width_extent DefaultWidth = nothing
width_extent (GivenWidth e line) = expr_extent e

unfoldable pub write_extent : WriteParameter → Extent
write_extent (WriteInteger e width) = node ⊕ expr_extent e ⊕ width_extent width
write_extent (WriteChar e width) = node ⊕ expr_extent e ⊕ width_extent width
write_extent (WriteBoolean e width) = node ⊕ expr_extent e ⊕ width_extent width
write_extent (WriteText e width) = node ⊕ structure_extent e ⊕ width_extent width

unfoldable pub writes_extent : List WriteParameter → Extent
writes_extent [] = nothing
writes_extent (p ∷ rest) = write_extent p ⊕ writes_extent rest

unfoldable mutual
  pub statement_extent : Statement → Extent
  statement_extent Empty = node
  statement_extent (Assign p range e line) = node ⊕ place_extent p ⊕ expr_extent e
  statement_extent (AssignSet p low high e line) = node ⊕ place_extent p ⊕ set_extent e
  statement_extent (AssignStructure p e) = node ⊕ place_extent p ⊕ structure_extent e
  statement_extent (CallProcedure routine up arguments line) = node ⊕ arguments_extent arguments
  statement_extent (CallFormalProcedure up index arguments line) = node ⊕ arguments_extent arguments
  statement_extent (Compound body) = node ⊕ statements_extent body
  statement_extent (If e s) = node ⊕ expr_extent e ⊕ statement_extent s
  statement_extent (IfElse e s t) = node ⊕ expr_extent e ⊕ statement_extent s ⊕ statement_extent t
  statement_extent (Case e elements line) = node ⊕ expr_extent e ⊕ elements_extent elements
  statement_extent (While e s) = node ⊕ expr_extent e ⊕ statement_extent s
  statement_extent (Repeat body e) = node ⊕ statements_extent body ⊕ expr_extent e
  -- the name of the control variable is an operand
  statement_extent (For variable low high a from_line direction b to_line s) = node ⊕ (node ⊕ expr_extent a)
      ⊕ expr_extent b ⊕ statement_extent s
  statement_extent (With places s) = node ⊕ places_extent places ⊕ statement_extent s
  -- with one actual parameter, and with three
  statement_extent (New p pointer line) = node ⊕ node ⊕ place_extent p
  statement_extent (Pack p from_type e line q to_type) = node ⊕ (node ⊕ place_extent p) ⊕ (node ⊕ expr_extent e)
      ⊕ (node ⊕ place_extent q)
  statement_extent (Unpack p from_type q to_type e line) = node ⊕ (node ⊕ place_extent p) ⊕ (node ⊕ place_extent q)
      ⊕ (node ⊕ expr_extent e)
  statement_extent (Read variables) = node ⊕ reads_extent variables
  statement_extent (Readln variables line) = node ⊕ reads_extent variables
  statement_extent (Write parameters) = node ⊕ writes_extent parameters
  statement_extent (Writeln parameters) = node ⊕ writes_extent parameters

  pub statements_extent : Statements → Extent
  statements_extent no_statement = nothing
  statements_extent (statement_before s rest) = statement_extent s ⊕ statements_extent rest

  pub elements_extent : Elements → Extent
  elements_extent no_element = nothing
  elements_extent (element_before constants s rest) = statement_extent s ⊕ elements_extent rest

-- A value parameter has the cells of its type, a variable parameter one, a procedural or functional one two.
unfoldable pub formal_cells : Formal → ℕ
formal_cells (ValueFormal type) = cells type
formal_cells (VariableFormal type) = 1
formal_cells (RoutineFormal formals result) = 2

-- each formal parameter is a node, and has its cells
unfoldable pub formals_extent : Formals → Extent
formals_extent no_formal = nothing
formals_extent (formal_before f rest) = record { nodes = 1; taken = formal_cells f } ⊕ formals_extent rest

unfoldable pub variables_extent : List DataType → Extent
variables_extent [] = nothing
variables_extent (type ∷ rest) = copy_of type ⊕ variables_extent rest

unfoldable pub result_extent : Option DataType → Extent
result_extent None = nothing
result_extent (Some type) = copy_of type

-- of a routine's own block and heading: its formal parameters, its result, its variables and its statements
unfoldable pub routine_extent : Routine → Extent
routine_extent r = formals_extent r.formals ⊕ result_extent r.result ⊕ variables_extent r.variables
    ⊕ statements_extent r.body

abbrev pub routine_nodes : Routine → ℕ
routine_nodes r = (routine_extent r).nodes

abbrev pub routine_cells : Routine → ℕ
routine_cells r = (routine_extent r).taken

-- at most 100,000 cells
abbrev pub is_small : DataType → Bool
is_small type = nat_le (cells type) MAX_CELLS

unfoldable pub is_small_result : Option DataType → Bool
is_small_result None = true
is_small_result (Some type) = is_small type

-- a heading, and each one of a procedural parameter within it: at most 32 parameters, and every type in it is small
abbrev pub is_short : Formals → Bool
is_short formals = nat_le (formals_extent formals).nodes MAX_FORMALS

unfoldable mutual
  pub is_small_formal : Formal → Bool
  is_small_formal (ValueFormal type) = is_small type
  is_small_formal (VariableFormal type) = is_small type
  is_small_formal (RoutineFormal formals result) = is_short formals && are_small_formals formals
      && is_small_result result

  pub are_small_formals : Formals → Bool
  are_small_formals no_formal = true
  are_small_formals (formal_before f rest) = is_small_formal f && are_small_formals rest

unfoldable pub are_small : List DataType → Bool
are_small [] = true
are_small (type ∷ rest) = is_small type && are_small rest

-- nested at most 15 deep within the program block, its heading and its variables as above, at most 100,000 cells and
-- 4,194,304 nodes
unfoldable pub is_routine_within_limits : Routine → Bool
is_routine_within_limits r = nat_le (length r.chain) MAX_DEPTH && is_short r.formals && are_small_formals r.formals
    && is_small_result r.result && are_small r.variables && nat_le (routine_cells r) MAX_CELLS && nat_le
    (routine_nodes r) MAX_NODES

unfoldable pub are_routines_within_limits : List Routine → Bool
are_routines_within_limits [] = true
are_routines_within_limits (r ∷ rest) = is_routine_within_limits r && are_routines_within_limits rest

-- with at most 1,048,576 routines and pointer types
unfoldable pub is_within_limits : Program → Bool
is_within_limits p = nat_le (length p.routines) MAX_ROUTINES && nat_le (length p.domains) MAX_ROUTINES
    && are_small p.domains && are_routines_within_limits p.routines
