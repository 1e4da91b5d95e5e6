-- How large the numbers are that arise while the code of a construct is made: temporaries, bytes of the scratch block,
-- offsets, and byte counts. A weight says how far they exceed the sum of the depth and the scratch at which the code is
-- made. It is a bound, not the least one. What only has to be small by itself weighs nothing if it is, and otherwise
-- too much.
use Rattle.std.specs.Prelude.{ℕ, suc, ◌+◌, ◌-◌, ◌*◌, ◌<◌, ◌≤◌, max, pos, ◌+ℤ◌, Bool, ◌||◌, nat_eq, if◌then◌else◌, List}
use Rattle.std.specs.Prelude.{[], ◌∷◌, length, Option, Some, None, slice_get}
use Rattle.ps_tree.specs.Types.{DataType}
use Rattle.ps_tree.specs.Sizes.{value_count}
use Rattle.ps_tree.specs.Tree.{PlaceBase, Entry, Opened, Place, Variable, Element, Field, Target, Selectors}
use Rattle.ps_tree.specs.Tree.{no_selector, selector_before, ArithmeticSteps, no_arithmetic_step}
use Rattle.ps_tree.specs.Tree.{arithmetic_step_before, Operands, no_operand, operand_before, SetSteps, no_set_step}
use Rattle.ps_tree.specs.Tree.{set_step_before, Expr, Number, Nil, Load, Plus, Minus, Not, Arithmetic, Logic, Compare}
use Rattle.ps_tree.specs.Tree.{ComparePointers, CompareSets, CompareStrings, In, Apply, Eof, Eoln, Call, CallFormal}
use Rattle.ps_tree.specs.Tree.{SetExpr, LoadSet, Constructor, Combine, Member, One, Several, Members, no_member}
use Rattle.ps_tree.specs.Tree.{member_before, Structure, Literal, Contents, Argument, ByValue, BySet, ByCopy}
use Rattle.ps_tree.specs.Tree.{ByVariable, ByRoutine, ByFormal, Arguments, no_argument, argument_before, ReadVariable}
use Rattle.ps_tree.specs.Tree.{ReadChar, ReadInteger, Width, DefaultWidth, GivenWidth, WriteParameter, WriteInteger}
use Rattle.ps_tree.specs.Tree.{WriteChar, WriteBoolean, WriteText, Statement, Empty, Assign, AssignSet}
use Rattle.ps_tree.specs.Tree.{AssignStructure, CallProcedure, CallFormalProcedure, Compound, If, IfElse, Case, While}
use Rattle.ps_tree.specs.Tree.{Repeat, For, With, New, Pack, Unpack, Read, Readln, Write, Writeln, Statements}
use Rattle.ps_tree.specs.Tree.{no_statement, statement_before, Elements, no_element, element_before, Routine, Program}
use Rattle.ps_tree.specs.Tree.{routine_at, domain_at}
use Rattle.ps_meaning.specs.Expressions.{index_of}
use Rattle.ps_meaning.specs.Operators.{is_between}
use Rattle.tac_code.specs.declared.code.TheConstants.{NUMBER_LIMIT}
use Rattle.tac_code.specs.Numbers.{is_integer}
use Rattle.tac_code.specs.Meaning.{size}
use Rattle.ps_lower_layout.specs.Frames.{kinds_of, listed_kinds, result_kinds, words_of_all, entry_offset}
use Rattle.ps_lower_layout.specs.Shapes.{Shape, NumberShape, PointerShape, SetShape, ByteShape, ArrayShape}
use Rattle.ps_lower_layout.specs.Shapes.{RecordShape, Shapes, no_shape, shape_before, shape_of, word_count, byte_count}
use Rattle.ps_lower_layout.specs.Shapes.{component_bytes, field_offset}
use Rattle.ps_lower_code.specs.Scopes.{Scope, held, routine_up}
use Rattle.ps_lower_code.specs.Calling.{expr_calls, places_call, statement_calls}
use Rattle.ps_lower_code.specs.Statements.{body_depth, within_site, with_scope, with_depth}
use Rattle.ps_lower_code.specs.Routines.{count_parameters, scope_of}
use Rattle.ps_lower_code.specs.Programs.{tac_of}
use Rattle.ps_lower_code.specs.Values.{literal_of, known_steps, field_site, text_length, structure_bytes}
use Rattle.ps_lower_code.specs.Values.{argument_scratch, place_temporary, place_site}

-- what is required of a number: too much, unless it holds
abbrev pub unless : Bool → ℕ
unless holds = if holds then 0 else NUMBER_LIMIT

-- a number that an integer can hold
abbrev pub excess : ℕ → ℕ
excess n = NUMBER_LIMIT * (suc n - NUMBER_LIMIT)

-- ---- first values, at an offset

abbrev mutual
  pub first_weight : Shape → ℕ
  first_weight (NumberShape first narrow) = 0
  first_weight (PointerShape pointer) = 0
  first_weight SetShape = 32
  first_weight (ByteShape count first) = byte_count (ByteShape count first) + unless
      (is_between (pos 0) first (pos 255))
  first_weight (ArrayShape count shape) = if nat_eq (count * word_count shape) 0 then 0 else max
      (count * byte_count shape) (first_weight shape)
  first_weight (RecordShape shapes) = fields_weight shapes

  pub fields_weight : Shapes → ℕ
  fields_weight no_shape = 0
  fields_weight (shape_before shape rest) = max (first_weight shape) (byte_count shape + fields_weight rest)

-- ---- variables: what their selectors add to an offset before the first that leads to an object

abbrev pub steps_reach : Option ℕ → ℕ
steps_reach None = 0
steps_reach (Some n) = n

abbrev pub selectors_reach : Selectors → ℕ
selectors_reach no_selector = 0
selectors_reach (selector_before (Element type e line) rest) = steps_reach (known_steps type (literal_of e))
    + selectors_reach rest
selectors_reach (selector_before (Field type number) rest) = field_offset (shape_of type) number + selectors_reach rest
selectors_reach (selector_before (Target pointer line) rest) = 0

-- a first operand is further on, if others follow
abbrev pub steps_more : ArithmeticSteps → ℕ
steps_more no_arithmetic_step = 0
steps_more (arithmetic_step_before operator e line rest) = 8

abbrev pub operands_more : Operands → ℕ
operands_more no_operand = 0
operands_more (operand_before e rest) = 8

module _ (k : Scope) where
  -- the offset of the variable that a name denotes
  abbrev pub name_reach : PlaceBase → ℕ
  name_reach (Entry up index) = entry_offset (routine_up k up) index
  name_reach (Opened which type number) = (field_site k (slice_get k.opened which)
      (field_offset (shape_of type) number)).offset

  abbrev mutual
    pub place_weight : Place → ℕ
    place_weight (Variable name selectors) = 8 + max (name_reach name + selectors_reach selectors)
        (selectors_weight selectors)

    -- a selector, and what those after it add to the offset where it leads
    pub selectors_weight : Selectors → ℕ
    selectors_weight no_selector = 0
    selectors_weight (selector_before (Element type e line) rest) = max
        (8 + max (component_bytes (shape_of type)) (expr_weight e)) (selectors_weight rest)
    selectors_weight (selector_before (Field type number) rest) = selectors_weight rest
    selectors_weight (selector_before (Target pointer line) rest) = max (selectors_reach rest) (selectors_weight rest)

    pub expr_weight : Expr → ℕ
    expr_weight (Number n) = 8
    expr_weight Nil = 8
    expr_weight (Load p) = 8 + place_weight p
    expr_weight (Plus e) = 8 + expr_weight e
    expr_weight (Minus e line) = 8 + expr_weight e
    expr_weight (Not e) = 8 + expr_weight e
    expr_weight (Arithmetic e steps) = max (steps_more steps + expr_weight e) (steps_weight steps)
    expr_weight (Logic operator e rest) = max (operands_more rest + expr_weight e) (operands_weight rest)
    expr_weight (Compare relation a b) = 8 + max (expr_weight a) (expr_weight b)
    expr_weight (ComparePointers relation a b) = 8 + max (expr_weight a) (expr_weight b)
    expr_weight (CompareSets relation a b) = 64 + max (set_weight a) (set_weight b)
    expr_weight (CompareStrings relation a b) = 16 + excess (text_length a) + max (structure_weight a)
        (structure_weight b)
    expr_weight (In a b) = 64 + max (expr_weight a) (set_weight b)
    expr_weight (Apply function e line) = 8 + expr_weight e
    expr_weight Eof = 8
    expr_weight (Eoln line) = 8
    expr_weight (Call r up arguments line) = 16 + arguments_weight arguments
    expr_weight (CallFormal up index arguments line) = 16 + max (entry_offset (routine_up k up) index)
        (arguments_weight arguments)

    pub steps_weight : ArithmeticSteps → ℕ
    steps_weight no_arithmetic_step = 0
    steps_weight (arithmetic_step_before operator e line rest) = max (8 + expr_weight e) (steps_weight rest)

    pub operands_weight : Operands → ℕ
    operands_weight no_operand = 0
    operands_weight (operand_before e rest) = max (8 + expr_weight e) (operands_weight rest)

    pub set_weight : SetExpr → ℕ
    set_weight (LoadSet p) = 64 + place_weight p
    set_weight (Constructor members) = 64 + members_weight members
    set_weight (Combine e steps) = max (set_weight e) (set_steps_weight steps)

    pub set_steps_weight : SetSteps → ℕ
    set_steps_weight no_set_step = 0
    set_steps_weight (set_step_before operator e rest) = max (64 + set_weight e) (set_steps_weight rest)

    pub member_weight : Member → ℕ
    member_weight (One e line) = 64 + expr_weight e
    member_weight (Several a b line) = 64 + max (expr_weight a) (expr_weight b)

    pub members_weight : Members → ℕ
    members_weight no_member = 0
    members_weight (member_before m rest) = max (member_weight m) (members_weight rest)

    pub structure_weight : Structure → ℕ
    structure_weight (Literal characters) = 8
    structure_weight (Contents p type) = 8 + max (byte_count (shape_of type)) (place_weight p)

    pub argument_weight : Argument → ℕ
    argument_weight (ByValue e range line) = 8 + expr_weight e
    argument_weight (BySet e low high line) = 64 + set_weight e
    argument_weight (ByCopy e type) = 16 + excess (byte_count (shape_of type)) + structure_weight e
    argument_weight (ByVariable p) = 8 + place_weight p
    argument_weight (ByRoutine r up) = 16
    argument_weight (ByFormal up index) = 16 + entry_offset (routine_up k up) index

    -- each actual parameter comes after those before it, which hold their scratch
    pub arguments_weight : Arguments → ℕ
    arguments_weight no_argument = 8
    arguments_weight (argument_before a rest) = 8 + max (argument_weight a) (argument_scratch a + arguments_weight rest)

  abbrev pub read_weight : ReadVariable → ℕ
  read_weight (ReadChar p low high line) = 16 + place_weight p
  read_weight (ReadInteger p low high line) = 16 + place_weight p

  abbrev pub reads_weight : List ReadVariable → ℕ
  reads_weight [] = 0
  reads_weight (v ∷ rest) = max (read_weight v) (reads_weight rest)

  abbrev pub width_weight : Width → ℕ
  width_weight DefaultWidth = 0
  width_weight (GivenWidth e line) = expr_weight e

  abbrev pub write_weight : WriteParameter → ℕ
  write_weight (WriteInteger e width) = 16 + max (expr_weight e) (width_weight width)
  write_weight (WriteChar e width) = 16 + max (expr_weight e) (width_weight width)
  write_weight (WriteBoolean e width) = 16 + max (expr_weight e) (width_weight width)
  write_weight (WriteText e width) = 16 + excess (text_length e) + max (structure_weight e) (width_weight width)

  abbrev pub writes_weight : List WriteParameter → ℕ
  writes_weight [] = 0
  writes_weight (p ∷ rest) = max (write_weight p) (writes_weight rest)

-- ---- statements

-- records are opened within those before them
abbrev pub with_weight : Scope → List Place → (calls : Bool) → (d : ℕ) → ℕ
with_weight k [] c d = 0
with_weight k (p ∷ rest) c d = 8 + max (place_weight k p)
    (with_weight (within_site k (place_site k p (held c d))) rest c (suc (place_temporary p (held c d))))

-- components of an array that are copied, and the last place where their array begins in the whole one
abbrev pub part_weight : (whole part : DataType) → (width : ℕ) → ℕ
part_weight whole part width =
    excess (value_count (index_of part)) + excess (value_count (index_of part) * width)
    + unless (is_integer ((index_of whole).low +ℤ pos (value_count (index_of whole) - value_count (index_of part))))

abbrev mutual
  pub statement_weight : Scope → Statement → (d : ℕ) → ℕ
  statement_weight k Empty d = 0
  statement_weight k (Assign p range e line) d = 16 + max (place_weight k p) (expr_weight k e)
  statement_weight k (AssignSet p low high e line) d = 64 + max (place_weight k p) (set_weight k e)
  statement_weight k (AssignStructure p e) d = 24 + excess (structure_bytes e) + max (place_weight k p)
      (structure_weight k e)
  statement_weight k (CallProcedure r up arguments line) d = 16 + arguments_weight k arguments
  statement_weight k (CallFormalProcedure up index arguments line) d = 16 + max (entry_offset (routine_up k up) index)
      (arguments_weight k arguments)
  statement_weight k (Compound body) d = statements_weight k body d
  statement_weight k (If e s) d = 8 + max (expr_weight k e) (statement_weight k s d)
  statement_weight k (IfElse e s t) d = 8 + max (max (expr_weight k e) (statement_weight k s d))
      (statement_weight k t d)
  statement_weight k (Case e elements line) d = 8 + max (expr_weight k e) (elements_weight k elements d)
  statement_weight k (While e s) d = 8 + max (expr_weight k e) (statement_weight k s d)
  statement_weight k (Repeat body e) d = 8 + max (expr_weight k e) (statements_weight k body d)
  statement_weight k (For variable low high a from_line direction b to_line s) d =
      16 + max (max (expr_weight k a) (expr_weight k b))
      (statement_weight k s (body_depth (literal_of b) d (held (statement_calls s) (suc (held (expr_calls b) d)))))
  statement_weight k (With places s) d =
      8 + 8 * length places
      + max (with_weight k places (statement_calls s || places_call places) d)
      (statement_weight (with_scope k places (statement_calls s || places_call places) d) s
      (with_depth places (statement_calls s || places_call places) d))
  statement_weight k (New p pointer line) d = 24 + max (place_weight k p)
      (first_weight (shape_of (domain_at k.program pointer)))
  statement_weight k (Pack p from_type e line q to_type) d =
      24 + part_weight from_type to_type (component_bytes (shape_of from_type)) + max
      (component_bytes (shape_of from_type)) (max (max (place_weight k p) (expr_weight k e)) (place_weight k q))
  statement_weight k (Unpack p from_type q to_type e line) d =
      24 + part_weight to_type from_type (component_bytes (shape_of from_type)) + max
      (component_bytes (shape_of to_type)) (max (max (place_weight k p) (expr_weight k e)) (place_weight k q))
  statement_weight k (Read variables) d = reads_weight k variables
  statement_weight k (Readln variables line) d = 8 + reads_weight k variables
  statement_weight k (Write parameters) d = writes_weight k parameters
  statement_weight k (Writeln parameters) d = 8 + writes_weight k parameters

  pub statements_weight : Scope → Statements → (d : ℕ) → ℕ
  statements_weight k no_statement d = 0
  statements_weight k (statement_before s rest) d = max (statement_weight k s d) (statements_weight k rest d)

  pub elements_weight : Scope → Elements → (d : ℕ) → ℕ
  elements_weight k no_element d = 0
  elements_weight k (element_before constants s rest) d = max (statement_weight k s d) (elements_weight k rest d)

-- ---- routines

-- the first values of variables, one after another, from a word of the frame on
abbrev pub firsts_weight : (place : ℕ) → List DataType → ℕ
firsts_weight p [] = 0
firsts_weight p (type ∷ rest) = max (4 * p + first_weight (shape_of type))
    (firsts_weight (p + word_count (shape_of type)) rest)

abbrev pub result_weight : Option DataType → ℕ
result_weight None = 0
result_weight (Some type) = 4 + first_weight (shape_of type)

-- what a routine does before its statements: its parameters' temporaries, the first value of the result, and those of
-- the variables, which come after the parameters
abbrev pub begin_weight : Routine → ℕ
begin_weight r = max (suc (count_parameters (kinds_of r.formals)))
    (max (result_weight r.result) (firsts_weight
    (1 + words_of_all (result_kinds r.result) + words_of_all (listed_kinds (kinds_of r.formals))) r.variables))

-- a routine, with what its code needs
abbrev pub routine_weight : Program → Routine → ℕ
routine_weight program r = max (size (tac_of program r))
    (max (begin_weight r) (statements_weight (scope_of program r) r.body 0))

-- each routine of a program
abbrev pub AreLight : Program → Type 0
AreLight program = (number : ℕ) → number < length program.routines →
    routine_weight program (routine_at program number) ≤ 1000000000
