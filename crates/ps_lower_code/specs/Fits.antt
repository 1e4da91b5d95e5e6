-- A well-formed tree is what the lowering needs: each part has the form that its place requires, its numbers are
-- integers, its lines are lines, and its array types have components.
use Rattle.std.specs.Prelude.{◌≡◌, ℕ, ◌<◌, ◌≤◌, ℤ, pos, List, [], ◌∷◌, length, drop, Option, Some, None, IsTrue, Bool}
use Rattle.std.specs.Prelude.{true}
use Rattle.std.specs.Prelude.{not, int_le, ◌&&◌, ◌||◌, slice_get}
use Rattle.std.specs.List.{All}
use Rattle.ps_tree.specs.declared.tree.operators.Range.{Range}
use Rattle.ps_tree.specs.declared.tree.operators.Range.TheVariants.{Any, Within}
use Rattle.ps_tree.specs.declared.tree.operators.RequiredFunction.{RequiredFunction}
use Rattle.ps_tree.specs.declared.tree.operators.RequiredFunction.TheVariants.{Succ, Pred}
use Rattle.ps_tree.specs.Types.{DataType, string_length}
use Rattle.ps_tree.specs.Sizes.{value_count}
use Rattle.ps_tree.specs.Tree.{BySet, AssignSet, Place, Variable, PlaceBase, Entry, Opened, Element, Field}
use Rattle.ps_tree.specs.Tree.{Target, Selectors, no_selector, selector_before, ArithmeticSteps, no_arithmetic_step}
use Rattle.ps_tree.specs.Tree.{arithmetic_step_before, Operands, no_operand, operand_before, Expr, Number, Nil, Load}
use Rattle.ps_tree.specs.Tree.{Plus, Minus, Not, Arithmetic, Logic, Compare, ComparePointers, CompareStrings, Apply}
use Rattle.ps_tree.specs.Tree.{Call, CallFormal, Structure, Literal, Contents, Argument, ByValue, ByCopy, ByVariable}
use Rattle.ps_tree.specs.Tree.{ByRoutine, ByFormal, Arguments, no_argument, argument_before, Width, DefaultWidth}
use Rattle.ps_tree.specs.Tree.{GivenWidth, WriteParameter, WriteInteger, WriteChar, WriteBoolean, WriteText, Statement}
use Rattle.ps_tree.specs.Tree.{Empty, Assign, AssignStructure, CallProcedure, CallFormalProcedure, Compound, If}
use Rattle.ps_tree.specs.Tree.{IfElse, Case, While, Repeat, For, With, Write, Writeln, Statements, no_statement}
use Rattle.ps_tree.specs.Tree.{statement_before, Elements, no_element, element_before, routine_at, domain_at, SetSteps}
use Rattle.ps_tree.specs.Tree.{no_set_step, set_step_before, CompareSets, In, SetExpr, LoadSet, Constructor, Combine}
use Rattle.ps_tree.specs.Tree.{Member, One, Several, Members, no_member, member_before, New, Pack, Unpack, Eof, Eoln}
use Rattle.ps_tree.specs.Tree.{ReadVariable, ReadChar, ReadInteger, Read, Readln}
use Rattle.ps_meaning.specs.Expressions.{index_of}
use Rattle.tac_code.specs.declared.code.TheConstants.{BLOCK_LIMIT}
use Rattle.tac_code.specs.Numbers.{is_integer}
use Rattle.tac_code.specs.Sound.{IsLine}
use Rattle.ps_lower_layout.specs.Shapes.{Shape, NumberShape, PointerShape, SetShape, ByteShape, ArrayShape, shape_of}
use Rattle.ps_lower_layout.specs.Shapes.{RecordShape, Shapes, no_shape, shape_before, field_part, Part, Whole, Byte}
use Rattle.ps_lower_layout.specs.Shapes.{component_part}
use Rattle.ps_lower_layout.specs.Paths.{Sort, NumberSort, PointerSort}
use Rattle.ps_lower_layout.specs.Frames.{Kind, Own, Reference, Closure, Kinds, no_kind, kind_before, kinds_of}
use Rattle.ps_lower_layout.specs.Frames.{result_shape}
use Rattle.ps_lower_code.specs.Scopes.{Scope, kind_at}
use Rattle.ps_lower_code.specs.Values.{text_length}
use Rattle.ps_lower_code.specs.First.{FirstFits}

abbrev pub shape_in : Option Kind → Option Shape
shape_in (Some (Own shape)) = Some shape
shape_in (Some (Reference shape)) = Some shape
shape_in _ = None

abbrev pub tail : List ℕ → List ℕ
tail [] = []
tail (r ∷ rest) = rest

-- the outermost of the routines enclosing a part of the tree
abbrev pub outermost_of : List ℕ → ℕ
outermost_of [] = 0
outermost_of (r ∷ []) = r
outermost_of (r ∷ s ∷ rest) = outermost_of (s ∷ rest)

abbrev pub IsInteger : ℤ → Type 0
IsInteger z = IsTrue (is_integer z)

abbrev pub AreIntegers : (low high : ℤ) → Type 0
AreIntegers low high = IsInteger low × IsInteger high

abbrev pub AllIntegers : List ℤ → Type 0
AllIntegers [] = Unit {0}
AllIntegers (n ∷ rest) = IsInteger n × AllIntegers rest

-- the sort of value that a part holds
abbrev pub SortOf : Part → Sort → Type 0
SortOf Byte sort = sort ≡ NumberSort
SortOf (Whole (NumberShape first narrow)) sort = sort ≡ NumberSort
SortOf (Whole (PointerShape t)) sort = sort ≡ PointerSort t
SortOf (Whole shape) sort = ⊥

abbrev pub sort_of_result : Shape → Sort
sort_of_result (PointerShape t) = PointerSort t
sort_of_result shape = NumberSort

-- the range that a variable requires of a number: a variable whose type's values are bytes gets bytes, and pointers
-- have no range
abbrev pub RangeFits : Range → Part → Type 0
RangeFits (Within low high) Byte = IsInteger low × IsInteger high × IsTrue
    (int_le (pos 0) low && int_le high (pos 255))
RangeFits (Within low high) (Whole (NumberShape first narrow)) = IsInteger low × IsInteger high × IsTrue
    (not narrow || (int_le (pos 0) low && int_le high (pos 255)))
RangeFits Any (Whole (PointerShape t)) = Unit {0}
RangeFits range part = ⊥

-- values of many words, which are copied
abbrev pub IsStructure : Shape → Type 0
IsStructure (NumberShape first narrow) = ⊥
IsStructure (PointerShape pointer) = ⊥
IsStructure shape = Unit {0}

abbrev pub CountIs : Shape → ℕ → Type 0
CountIs (ByteShape count first) n = count ≡ n
CountIs (ArrayShape count shape) n = count ≡ n
CountIs shape n = ⊥

-- the bound of a required function is an integer
abbrev pub FunctionFits : RequiredFunction → Type 0
FunctionFits (Succ high) = IsInteger high
FunctionFits (Pred low) = IsInteger low
FunctionFits _ = Unit {0}

-- an index has a value
abbrev pub HasIndex : DataType → Type 0
HasIndex type = IsTrue (int_le (index_of type).low (index_of type).high)

-- an array type, with as many components as its index has values
abbrev pub IsArray : DataType → Type 0
IsArray type = CountIs (shape_of type) (value_count (index_of type)) × IsInteger (index_of type).low × IsInteger
    (index_of type).high × HasIndex type

-- shapes whose arrays have components
abbrev mutual
  pub HasCells : Shape → Type 0
  HasCells (NumberShape first narrow) = Unit {0}
  HasCells (PointerShape pointer) = Unit {0}
  HasCells SetShape = Unit {0}
  HasCells (ByteShape count first) = 1 ≤ count
  HasCells (ArrayShape count shape) = (1 ≤ count) × HasCells shape
  HasCells (RecordShape shapes) = HaveCells shapes

  pub HaveCells : Shapes → Type 0
  HaveCells no_shape = Unit {0}
  HaveCells (shape_before shape rest) = HasCells shape × HaveCells rest

-- what `count` components of a shape are packed to and unpacked from: that many bytes if they are bytes, or components
-- of the same shape
abbrev pub PacksTo : (packed : Shape) → (count : ℕ) → (component : Shape) → Type 0
PacksTo (ByteShape n first) count (NumberShape lowest narrow) = (n ≡ count) × (narrow ≡ true)
PacksTo (ArrayShape n shape) count component = (n ≡ count) × (shape ≡ component)
PacksTo packed count component = ⊥

-- Within records of these shapes that `with` opened, innermost first. Where they are does not matter here.
module _ (k : Scope) where
  -- a routine that is declared `up` levels out
  abbrev pub DeclaredAt : (routine up : ℕ) → Type 0
  DeclaredAt r up = (r < length k.program.routines) × (up < length k.chain)
      × ((routine_at k.program r).chain ≡ r ∷ drop up k.chain)

  abbrev pub BaseFits : List Shape → PlaceBase → Shape → Type 0
  BaseFits os (Entry up index) shape = (up < length k.chain) × (shape_in (kind_at k up index) ≡ Some shape)
  BaseFits os (Opened which type number) shape = (slice_get os which ≡ Some (shape_of type))
      × (field_part (shape_of type) number ≡ Some shape)

  abbrev mutual
    pub PlaceFits : List Shape → Place → Part → Type 0
    PlaceFits os (Variable name selectors) part = (shape : Shape) × BaseFits os name shape × SelectorsFit os selectors
        (Whole shape) part

    -- from a part of a variable to a part of it, or of what it points to
    pub SelectorsFit : List Shape → Selectors → Part → Part → Type 0
    SelectorsFit os no_selector part part' = part ≡ part'
    SelectorsFit os (selector_before (Element type e line) rest) part part' = (part ≡ Whole (shape_of type))
        × IsArray type × ExprFits os e NumberSort × IsLine line × SelectorsFit os rest
        (component_part (shape_of type)) part'
    SelectorsFit os (selector_before (Field type number) rest) part part' = (part ≡ Whole (shape_of type))
        × ((inner : Shape) × (field_part (shape_of type) number ≡ Some inner) × SelectorsFit os rest
        (Whole inner) part')
    SelectorsFit os (selector_before (Target pointer line) rest) part part' = (part ≡ Whole (PointerShape pointer))
        × IsLine line × SelectorsFit os rest (Whole (shape_of (domain_at k.program pointer))) part'

    pub ExprFits : List Shape → Expr → Sort → Type 0
    ExprFits os (Number n) sort = (sort ≡ NumberSort) × IsInteger n
    ExprFits os Nil sort = (t : ℕ) × (sort ≡ PointerSort t)
    ExprFits os (Load p) sort = (part : Part) × SortOf part sort × PlaceFits os p part
    ExprFits os (Plus e) sort = (sort ≡ NumberSort) × ExprFits os e NumberSort
    ExprFits os (Minus e line) sort = (sort ≡ NumberSort) × ExprFits os e NumberSort × IsLine line
    ExprFits os (Not e) sort = (sort ≡ NumberSort) × ExprFits os e NumberSort
    ExprFits os (Arithmetic e steps) sort = (sort ≡ NumberSort) × ExprFits os e NumberSort × StepsFit os steps
    ExprFits os (Logic operator e rest) sort = (sort ≡ NumberSort) × ExprFits os e NumberSort × OperandsFit os rest
    ExprFits os (Compare relation a b) sort = (sort ≡ NumberSort) × ExprFits os a NumberSort × ExprFits os b NumberSort
    ExprFits os (ComparePointers relation a b) sort = (sort ≡ NumberSort)
        × ((t : ℕ) × ExprFits os a (PointerSort t) × ExprFits os b (PointerSort t))
    ExprFits os (CompareSets relation a b) sort = (sort ≡ NumberSort) × SetFits os a × SetFits os b
    ExprFits os (CompareStrings relation a b) sort = (sort ≡ NumberSort) × StructureFits os a × StructureFits os b
        × (text_length a ≡ text_length b)
    ExprFits os (In a b) sort = (sort ≡ NumberSort) × ExprFits os a NumberSort × SetFits os b
    ExprFits os (Apply function e line) sort = (sort ≡ NumberSort) × FunctionFits function × ExprFits os e NumberSort
        × IsLine line
    ExprFits os (Call r up arguments line) sort = DeclaredAt r up
        × ((shape : Shape) × (result_shape (routine_at k.program r).result ≡ Some shape) × SortOf (Whole shape) sort)
        × ArgumentsFit os arguments (kinds_of (routine_at k.program r).formals) × IsLine line
    ExprFits os (CallFormal up index arguments line) sort = (up < length k.chain)
        × ((kinds : Kinds) × ((shape : Shape) × (kind_at k up index ≡ Some (Closure kinds (Some shape))) × SortOf
        (Whole shape) sort) × ArgumentsFit os arguments kinds) × IsLine line
    ExprFits os Eof sort = (sort ≡ NumberSort) × (outermost_of k.chain ≡ 0)
    ExprFits os (Eoln line) sort = (sort ≡ NumberSort) × (outermost_of k.chain ≡ 0) × IsLine line

    -- a string's characters are bytes, and so are those of a string variable
    pub StructureFits : List Shape → Structure → Type 0
    StructureFits os (Literal characters) = All (λ b. b < 256) characters × (length characters < BLOCK_LIMIT)
    StructureFits os (Contents p type) = (count : ℕ) × (first : ℤ) × (shape_of type ≡ ByteShape count first)
        × (string_length type ≡ Some count) × PlaceFits os p (Whole (ByteShape count first))

    -- what can be assigned to a variable of a shape: a string of the same length, or a variable of the same shape
    pub ContentsFit : List Shape → Structure → Shape → Type 0
    ContentsFit os (Literal characters) shape = All (λ b. b < 256) characters × (length characters < BLOCK_LIMIT)
        × ((first : ℤ) × (shape ≡ ByteShape (length characters) first))
    ContentsFit os (Contents p type) shape = (shape_of type ≡ shape) × PlaceFits os p (Whole shape)

    pub StepsFit : List Shape → ArithmeticSteps → Type 0
    StepsFit os no_arithmetic_step = Unit {0}
    StepsFit os (arithmetic_step_before operator e line rest) = ExprFits os e NumberSort × StepsFit os rest
        × IsLine line

    pub OperandsFit : List Shape → Operands → Type 0
    OperandsFit os no_operand = Unit {0}
    OperandsFit os (operand_before e rest) = ExprFits os e NumberSort × OperandsFit os rest

    -- expressions of a set type
    pub SetFits : List Shape → SetExpr → Type 0
    SetFits os (LoadSet p) = PlaceFits os p (Whole SetShape)
    SetFits os (Constructor members) = MembersFit os members
    SetFits os (Combine e steps) = SetFits os e × SetStepsFit os steps

    pub SetStepsFit : List Shape → SetSteps → Type 0
    SetStepsFit os no_set_step = Unit {0}
    SetStepsFit os (set_step_before operator e rest) = SetFits os e × SetStepsFit os rest

    pub MembersFit : List Shape → Members → Type 0
    MembersFit os no_member = Unit {0}
    MembersFit os (member_before m rest) = MemberFits os m × MembersFit os rest

    pub MemberFits : List Shape → Member → Type 0
    MemberFits os (One e line) = ExprFits os e NumberSort × IsLine line
    MemberFits os (Several a b line) = ExprFits os a NumberSort × ExprFits os b NumberSort × IsLine line

    -- actual parameters for formal ones: values, variables and routines
    pub ArgumentsFit : List Shape → Arguments → Kinds → Type 0
    ArgumentsFit os no_argument kinds = kinds ≡ no_kind
    ArgumentsFit os (argument_before a rest) kinds = (kind : Kind)
        × ((others : Kinds) × (kinds ≡ kind_before kind others) × ArgumentFits os a kind × ArgumentsFit os rest others)

    pub ArgumentFits : List Shape → Argument → Kind → Type 0
    ArgumentFits os (ByValue e range line) kind = (shape : Shape) × (kind ≡ Own shape) × RangeFits range (Whole shape)
        × ((sort : Sort) × SortOf (Whole shape) sort × ExprFits os e sort) × IsLine line
    ArgumentFits os (BySet e low high line) kind = (kind ≡ Own SetShape) × SetFits os e × AreIntegers low high
        × IsLine line
    ArgumentFits os (ByVariable p) kind = (shape : Shape) × (kind ≡ Reference shape) × PlaceFits os p (Whole shape)
    ArgumentFits os (ByRoutine r up) kind = DeclaredAt r up
        × (kind ≡ Closure (kinds_of (routine_at k.program r).formals) (result_shape (routine_at k.program r).result))
    ArgumentFits os (ByFormal up index) kind = (up < length k.chain)
        × ((kinds : Kinds) × ((result : Option Shape) × (kind ≡ Closure kinds result)
        × (kind_at k up index ≡ Some (Closure kinds result))))
    ArgumentFits os (ByCopy e type) kind = (kind ≡ Own (shape_of type)) × IsStructure (shape_of type) × ContentsFit os e
        (shape_of type)

  -- the shapes of opened records, with those that `with` opens one after another
  abbrev pub OpenedFit : List Shape → List Place → List Shape → Type 0
  OpenedFit os [] os' = os' ≡ os
  OpenedFit os (p ∷ rest) os' = (shape : Shape) × PlaceFits os p (Whole shape) × OpenedFit (shape ∷ os) rest os'

  abbrev pub WidthFits : List Shape → Width → Type 0
  WidthFits os DefaultWidth = Unit {0}
  WidthFits os (GivenWidth e line) = ExprFits os e NumberSort × IsLine line

  abbrev pub WriteFits : List Shape → WriteParameter → Type 0
  WriteFits os (WriteInteger e width) = ExprFits os e NumberSort × WidthFits os width
  WriteFits os (WriteChar e width) = ExprFits os e NumberSort × WidthFits os width
  WriteFits os (WriteBoolean e width) = ExprFits os e NumberSort × WidthFits os width
  WriteFits os (WriteText e width) = StructureFits os e × WidthFits os width

  abbrev pub WritesFit : List Shape → List WriteParameter → Type 0
  WritesFit os [] = Unit {0}
  WritesFit os (p ∷ rest) = WriteFits os p × WritesFit os rest

  -- a variable of the range that its type requires of a character or an integer
  abbrev pub ReadFits : List Shape → ReadVariable → Type 0
  ReadFits os (ReadChar p low high line) = (part : Part) × PlaceFits os p part × SortOf part NumberSort × RangeFits
      (Within low high) part × IsLine line
  ReadFits os (ReadInteger p low high line) = (part : Part) × PlaceFits os p part × SortOf part NumberSort × RangeFits
      (Within low high) part × IsLine line

  abbrev pub ReadsFit : List Shape → List ReadVariable → Type 0
  ReadsFit os [] = Unit {0}
  ReadsFit os (v ∷ rest) = ReadFits os v × ReadsFit os rest

  abbrev mutual
    pub StatementFits : List Shape → Statement → Type 0
    StatementFits os Empty = Unit {0}
    StatementFits os (Assign p range e line) = (part : Part) × PlaceFits os p part × RangeFits range part
        × ((sort : Sort) × SortOf part sort × ExprFits os e sort) × IsLine line
    StatementFits os (AssignStructure p e) = (shape : Shape) × PlaceFits os p (Whole shape) × ContentsFit os e shape
        × IsStructure shape
    StatementFits os (AssignSet p low high e line) = PlaceFits os p (Whole SetShape) × SetFits os e
        × AreIntegers low high × IsLine line
    StatementFits os (CallProcedure r up arguments line) = DeclaredAt r up × ArgumentsFit os arguments
        (kinds_of (routine_at k.program r).formals) × IsLine line
    StatementFits os (CallFormalProcedure up index arguments line) = (up < length k.chain)
        × ((kinds : Kinds) × ((result : Option Shape) × (kind_at k up index ≡ Some (Closure kinds result))
        × ArgumentsFit os arguments kinds)) × IsLine line
    StatementFits os (Compound body) = StatementsFit os body
    StatementFits os (If e s) = ExprFits os e NumberSort × StatementFits os s
    StatementFits os (IfElse e s t) = ExprFits os e NumberSort × StatementFits os s × StatementFits os t
    StatementFits os (Case e elements line) = ExprFits os e NumberSort × ElementsFit os elements × IsLine line
    StatementFits os (While e s) = ExprFits os e NumberSort × StatementFits os s
    StatementFits os (Repeat body e) = StatementsFit os body × ExprFits os e NumberSort
    StatementFits os (For variable low high a from_line direction b to_line s) =
        ((first : ℤ) × ((narrow : Bool) × (kind_at k 0 variable ≡ Some (Own (NumberShape first narrow)))))
        × ExprFits os a NumberSort × ExprFits os b NumberSort × StatementFits os s × AreIntegers low high
        × IsLine from_line × IsLine to_line
    StatementFits os (With places s) = (os' : List Shape) × OpenedFit os places os' × StatementFits os' s
    StatementFits os (New p pointer line) = PlaceFits os p (Whole (PointerShape pointer))
        × (pointer < length k.program.domains) × FirstFits (shape_of (domain_at k.program pointer))
        × IsLine line
    StatementFits os (Pack p from_type e line q to_type) = (shape : Shape)
        × (shape_of from_type ≡ ArrayShape (value_count (index_of from_type)) shape) × PacksTo (shape_of to_type)
        (value_count (index_of to_type)) shape × IsArray from_type × PlaceFits os p (Whole (shape_of from_type))
        × ExprFits os e NumberSort × PlaceFits os q (Whole (shape_of to_type)) × HasIndex to_type × HasCells
        (shape_of to_type) × IsLine line
    StatementFits os (Unpack p from_type q to_type e line) = (shape : Shape)
        × (shape_of to_type ≡ ArrayShape (value_count (index_of to_type)) shape) × PacksTo (shape_of from_type)
        (value_count (index_of from_type)) shape × IsArray to_type × PlaceFits os p (Whole (shape_of from_type))
        × PlaceFits os q (Whole (shape_of to_type)) × ExprFits os e NumberSort × HasIndex from_type × HasCells
        (shape_of from_type) × IsLine line
    StatementFits os (Read variables) = (outermost_of k.chain ≡ 0) × ReadsFit os variables
    StatementFits os (Readln variables line) = (outermost_of k.chain ≡ 0) × ReadsFit os variables × IsLine line
    StatementFits os (Write parameters) = WritesFit os parameters
    StatementFits os (Writeln parameters) = WritesFit os parameters

    pub StatementsFit : List Shape → Statements → Type 0
    StatementsFit os no_statement = Unit {0}
    StatementsFit os (statement_before s rest) = StatementFits os s × StatementsFit os rest

    pub ElementsFit : List Shape → Elements → Type 0
    ElementsFit os no_element = Unit {0}
    ElementsFit os (element_before constants s rest) = StatementFits os s × ElementsFit os rest × AllIntegers constants
