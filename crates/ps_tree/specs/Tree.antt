-- The checked tree: the program with every name resolved, and the line of each token at which an error is reported.
use Rattle.std.specs.Prelude.{ℕ, ℤ, List, [], get_or, Option, None}
use Rattle.ps_tree.specs.declared.tree.operators.ArithmeticOperator.{ArithmeticOperator}
use Rattle.ps_tree.specs.declared.tree.operators.BooleanOperator.{BooleanOperator}
use Rattle.ps_tree.specs.declared.tree.operators.SetOperator.{SetOperator}
use Rattle.ps_tree.specs.declared.tree.operators.OrderRelation.{OrderRelation}
use Rattle.ps_tree.specs.declared.tree.operators.PointerRelation.{PointerRelation}
use Rattle.ps_tree.specs.declared.tree.operators.SetRelation.{SetRelation}
use Rattle.ps_tree.specs.declared.tree.operators.RequiredFunction.{RequiredFunction}
use Rattle.ps_tree.specs.declared.tree.operators.Range.{Range}
use Rattle.ps_tree.specs.declared.tree.operators.Direction.{Direction}
use Rattle.ps_tree.specs.Types.{DataType, PointerType}

-- A name is resolved to `up`, the number of levels of routines from its use out to its block, and what it is there: an
-- entry (a routine's result, if it is a function, then its formal parameters, then its variables) or a routine's
-- number.

-- what a variable's name denotes by itself
pub data PlaceBase : Type 0 where
  Entry : (up index : ℕ) → PlaceBase
  -- a field's name alone: of the record that a `with` opened; the innermost is 0
  Opened : (which : ℕ) (record_type : DataType) (number : ℕ) → PlaceBase

mutual
  -- 6.5: a variable: what its name denotes, and its selectors from left to right
  pub data Place : Type 0 where
    Variable : PlaceBase → Selectors → Place

  pub data Selector : Type 0 where
    -- [index], with the line of the index's first token
    Element : (array_type : DataType) → Expr → (line : ℕ) → Selector
    -- .name
    Field : (record_type : DataType) (number : ℕ) → Selector
    -- ^, with the number of the pointer's type and the line of the ^
    Target : (pointer line : ℕ) → Selector

  pub data Selectors : Type 0 where
    no_selector : Selectors
    selector_before : Selector → Selectors → Selectors

  -- 6.7: expressions of an ordinal or pointer type
  pub data Expr : Type 0 where
    Number : ℤ → Expr
    Nil : Expr
    Load : Place → Expr
    Plus : Expr → Expr
    Minus : Expr → (line : ℕ) → Expr
    Not : Expr → Expr
    -- a first operand, and operators with their next operands, from left to right
    Arithmetic : Expr → ArithmeticSteps → Expr
    -- operands with the same operator between each two
    Logic : BooleanOperator → Expr → Operands → Expr
    Compare : OrderRelation → Expr → Expr → Expr
    ComparePointers : PointerRelation → Expr → Expr → Expr
    CompareSets : SetRelation → SetExpr → SetExpr → Expr
    CompareStrings : OrderRelation → Structure → Structure → Expr
    In : Expr → SetExpr → Expr
    -- a required function of one ordinal, with the line of its name
    Apply : RequiredFunction → Expr → (line : ℕ) → Expr
    Eof : Expr
    Eoln : (line : ℕ) → Expr
    -- a function declared `up` levels out, and a functional parameter, with the line of its name
    Call : (routine up : ℕ) → Arguments → (line : ℕ) → Expr
    CallFormal : (up index : ℕ) → Arguments → (line : ℕ) → Expr

  -- operators with their operands, and with the lines of the operators
  pub data ArithmeticSteps : Type 0 where
    no_arithmetic_step : ArithmeticSteps
    arithmetic_step_before : ArithmeticOperator → Expr → (line : ℕ) → ArithmeticSteps → ArithmeticSteps

  pub data Operands : Type 0 where
    no_operand : Operands
    operand_before : Expr → Operands → Operands

  -- expressions of a set type
  pub data SetExpr : Type 0 where
    LoadSet : Place → SetExpr
    Constructor : Members → SetExpr
    Combine : SetExpr → SetSteps → SetExpr

  pub data SetSteps : Type 0 where
    no_set_step : SetSteps
    set_step_before : SetOperator → SetExpr → SetSteps → SetSteps

  -- members, with the line of the first token
  pub data Member : Type 0 where
    One : Expr → (line : ℕ) → Member
    Several : (from to : Expr) (line : ℕ) → Member

  pub data Members : Type 0 where
    no_member : Members
    member_before : Member → Members → Members

  -- operands of an array or record type: a string in the text, or the contents of a variable
  pub data Structure : Type 0 where
    Literal : List ℕ → Structure
    Contents : Place → DataType → Structure

  -- 6.6.3: actual parameters, with the line of the first token
  pub data Argument : Type 0 where
    -- by value: for a formal parameter of this range, of a set type whose base has these bounds, of this structured
    -- type
    ByValue : Expr → Range → (line : ℕ) → Argument
    BySet : SetExpr → (low high : ℤ) (line : ℕ) → Argument
    ByCopy : Structure → DataType → Argument
    ByVariable : Place → Argument
    -- a routine, and a procedural or functional parameter that is passed on
    ByRoutine : (routine up : ℕ) → Argument
    ByFormal : (up index : ℕ) → Argument

  pub data Arguments : Type 0 where
    no_argument : Arguments
    argument_before : Argument → Arguments → Arguments

-- variables in read and readln, with the bounds of their type and the line of the first token
pub data ReadVariable : Type 0 where
  ReadChar : Place → (low high : ℤ) (line : ℕ) → ReadVariable
  ReadInteger : Place → (low high : ℤ) (line : ℕ) → ReadVariable

-- a width, with the line of its first token
pub data Width : Type 0 where
  DefaultWidth : Width
  GivenWidth : Expr → (line : ℕ) → Width

pub data WriteParameter : Type 0 where
  WriteInteger : Expr → Width → WriteParameter
  WriteChar : Expr → Width → WriteParameter
  WriteBoolean : Expr → Width → WriteParameter
  WriteText : Structure → Width → WriteParameter

-- 6.8: statements
mutual
  pub data Statement : Type 0 where
    Empty : Statement
    -- to a variable of this range, and to one of a set type whose base has these bounds, with the line of the :=
    Assign : Place → Range → Expr → (line : ℕ) → Statement
    AssignSet : Place → (low high : ℤ) → SetExpr → (line : ℕ) → Statement
    AssignStructure : Place → Structure → Statement
    CallProcedure : (routine up : ℕ) → Arguments → (line : ℕ) → Statement
    CallFormalProcedure : (up index : ℕ) → Arguments → (line : ℕ) → Statement
    Compound : Statements → Statement
    If : Expr → Statement → Statement
    IfElse : Expr → Statement → Statement → Statement
    -- with the line of `case`
    Case : Expr → Elements → (line : ℕ) → Statement
    While : Expr → Statement → Statement
    Repeat : Statements → Expr → Statement
    -- the control variable is an entry of the routine itself, with these bounds; each bound of the loop with the line
    -- of its first token
    For : (variable : ℕ) (low high : ℤ) → Expr → (from_line : ℕ) → Direction → Expr → (to_line : ℕ) → Statement
        → Statement
    With : List Place → Statement → Statement
    -- with the number of the pointer's type and the line of the name new
    New : Place → (pointer line : ℕ) → Statement
    -- pack(from, index, to) and unpack(from, to, index), with the arrays' types and the line of the index's first token
    Pack : Place → (from_type : DataType) → Expr → (line : ℕ) → Place → (to_type : DataType) → Statement
    Unpack : Place → (from_type : DataType) → Place → (to_type : DataType) → Expr → (line : ℕ) → Statement
    Read : List ReadVariable → Statement
    -- with the line of the name readln
    Readln : List ReadVariable → (line : ℕ) → Statement
    Write : List WriteParameter → Statement
    Writeln : List WriteParameter → Statement

  pub data Statements : Type 0 where
    no_statement : Statements
    statement_before : Statement → Statements → Statements

  -- the elements of a case statement, each with its constants
  pub data Elements : Type 0 where
    no_element : Elements
    element_before : (constants : List ℤ) → Statement → Elements → Elements

-- 6.6.3: formal parameters; a functional parameter has a result
mutual
  pub data Formal : Type 0 where
    ValueFormal : DataType → Formal
    VariableFormal : DataType → Formal
    RoutineFormal : Formals → (result : Option DataType) → Formal

  pub data Formals : Type 0 where
    no_formal : Formals
    formal_before : Formal → Formals → Formals

-- 6.6: a routine: its number and those of the routines around it, innermost first, and the line of its block's `begin`
pub record Routine : Type 0 where
  pub chain : List ℕ
  pub formals : Formals
  pub result : Option DataType
  pub variables : List DataType
  pub body : Statements
  pub line : ℕ

-- 6.10: a program: its routines and the domain types of its pointer types, both by number. Routine 0 is the program
-- block
pub record Program : Type 0 where
  pub routines : List Routine
  pub domains : List DataType

abbrev pub no_routine : Routine
no_routine = record { chain = []; formals = no_formal; result = None; variables = []; body = no_statement; line = 0 }

abbrev pub routine_at : Program → ℕ → Routine
routine_at program r = get_or program.routines r no_routine

abbrev pub domain_at : Program → ℕ → DataType
domain_at program t = get_or program.domains t (PointerType 0)
