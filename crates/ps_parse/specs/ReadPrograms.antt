-- How types, routines, blocks and programs are read.
use Rattle.std.specs.Prelude.{ℕ, zero, suc, Bool, ◌||◌, if◌then◌else◌, List, [], length, Some, None, Ok}
use Rattle.ps_text.specs.declared.Span.{Span}
use Rattle.ps_scan.specs.declared.token.Kind.{Kind}
use Rattle.ps_scan.specs.declared.token.Kind.TheVariants as k
use Rattle.ps_syntax.specs.declared.statement.Constant.{Constant}
use Rattle.ps_syntax.specs.declared.statement.Constant.TheVariants as c
use Rattle.ps_syntax.specs.declared.statement.Statement.{Statement}
use Rattle.ps_syntax.specs.declared.program.Ordinal.{Ordinal}
use Rattle.ps_syntax.specs.declared.program.Ordinal.TheVariants as o
use Rattle.ps_syntax.specs.declared.program.TypeDenoter.{TypeDenoter}
use Rattle.ps_syntax.specs.declared.program.TypeDenoter.TheVariants as t
use Rattle.ps_syntax.specs.declared.program.Structure.{Structure}
use Rattle.ps_syntax.specs.declared.program.Structure.TheVariants as u
use Rattle.ps_syntax.specs.declared.program.Fields.{Fields, roll-Fields}
use Rattle.ps_syntax.specs.declared.program.ConstantDefinition.{ConstantDefinition}
use Rattle.ps_syntax.specs.declared.program.TypeDefinition.{TypeDefinition}
use Rattle.ps_syntax.specs.declared.program.Variables.{Variables}
use Rattle.ps_syntax.specs.declared.program.Section.{Section}
use Rattle.ps_syntax.specs.declared.program.Section.TheVariants as x
use Rattle.ps_syntax.specs.declared.program.Heading.{Heading}
use Rattle.ps_syntax.specs.declared.program.Heading.TheVariants as h
use Rattle.ps_syntax.specs.declared.program.Routine.{Routine}
use Rattle.ps_syntax.specs.declared.program.Routine.TheVariants as q
use Rattle.ps_syntax.specs.declared.program.Block.{Block, roll-Block}
use Rattle.ps_syntax.specs.declared.program.Program.{Program}
use Rattle.ps_parse_grammar.specs.Symbols.{Tokens}
use Rattle.ps_parse.specs.Steps.{Parser, if_some, first, skip, sees, ◌>>=◌, ◌>>◌, ◌<$>◌, pure, refuse, refuse_from}
use Rattle.ps_parse.specs.Steps.{eat, accept, expect, separated, terminated, many, part, if_begins}
use Rattle.ps_parse.specs.ReadStatements.{constant, read_statement}

unfoldable pub names : Parser (List Span)
names = separated k.Comma (expect k.Name)

abbrev pub after_constant : Constant → Parser Ordinal
after_constant (c.Name None at) = do
  is_range ← eat k.DotDot
  if is_range then o.Subrange (c.Name None at) <$> constant else pure (o.Name at)
after_constant (c.Name (Some s) at) = expect k.DotDot >> o.Subrange (c.Name (Some s) at) <$> constant
after_constant (c.Number s at) = expect k.DotDot >> o.Subrange (c.Number s at) <$> constant
after_constant (c.Text at) = expect k.DotDot >> o.Subrange (c.Text at) <$> constant

-- after the parenthesis
unfoldable pub enumeration : Span → Parser Ordinal
enumeration at = do
  xs ← names
  expect k.RightParen
  pure (o.Enumeration at xs)

unfoldable pub ordinal : Parser Ordinal
ordinal = do
  is_enumeration ← accept k.LeftParen
  if_some is_enumeration enumeration (do
    c ← constant
    after_constant c)

module _ (index : Parser Ordinal) (type : Parser TypeDenoter) where
  -- after the word `array`
  unfoldable pub array : Span → Parser Structure
  array at = do
    expect k.LeftBracket
    xs ← separated k.Comma index
    expect k.RightBracket
    expect k.Of
    u.Array at xs <$> type

  unfoldable pub fields : Parser Fields
  fields = do
    xs ← names
    expect k.Colon
    x ← type
    pure (roll-Fields (record { names = xs; ty = x }))

  unfoldable pub record_of : Span → Parser Structure
  record_of at = do
    is_empty ← eat k.End
    if is_empty then pure (u.Record at []) else (do
      xs ← terminated k.Semicolon k.End fields
      expect k.End
      pure (u.Record at xs))

  unfoldable pub set_of : Span → Parser Structure
  set_of at = expect k.Of >> u.Set at <$> index

  abbrev pub structure_by : Kind → Span → Parser Structure
  structure_by k.Array at = skip >> array at
  structure_by k.Record at = skip >> record_of at
  structure_by k.Set at = skip >> set_of at
  structure_by _ at = refuse

  unfoldable pub structure : Parser Structure
  structure = λ ts. if_some (first ts) (λ t. structure_by t.kind t.span) refuse ts

  abbrev pub type_by : Kind → Span → Parser TypeDenoter
  type_by k.Caret at = skip >> t.Pointer at <$> expect k.Name
  type_by k.Packed at = skip >> t.Packed at <$> structure
  type_by k.Array at = t.Structure <$> structure
  type_by k.Record at = t.Structure <$> structure
  type_by k.Set at = t.Structure <$> structure
  type_by _ at = t.Ordinal <$> ordinal

  unfoldable pub any_type : Parser TypeDenoter
  any_type = λ ts. if_some (first ts) (λ t. type_by t.kind t.span) refuse ts

unfoldable pub read_index : ℕ → Parser Ordinal
read_index zero = refuse
read_index (suc n) = ordinal

unfoldable pub read_type : ℕ → Parser TypeDenoter
read_type zero = refuse
read_type (suc n) = any_type (read_index n) (read_type n)

-- ---- headings
module _ (formals : Parser (List Section)) where
  unfoldable pub optional_formals : Parser (List Section)
  optional_formals = λ ts. if sees k.LeftParen ts then formals ts else Ok ([], ts)

  -- after the word `procedure`
  unfoldable pub procedure : Parser Heading
  procedure = do
    at ← expect k.Name
    h.Procedure at <$> optional_formals

  -- after the name of a function
  unfoldable pub function_named : Span → Parser Heading
  function_named at = do
    xs ← optional_formals
    expect k.Colon
    h.Function at xs <$> expect k.Name

  unfoldable pub function : Parser Heading
  function = do
    at ← expect k.Name
    function_named at

  -- names and their type
  abbrev pub plain_section : (List Span → Span → Section) → Parser Section
  plain_section make = do
    xs ← names
    expect k.Colon
    make xs <$> expect k.Name

  unfoldable pub value_section : Parser Section
  value_section = plain_section x.Value

  -- after the word `var`
  unfoldable pub variable_section : Parser Section
  variable_section = plain_section x.Variable

  abbrev pub section_by : Kind → Parser Section
  section_by k.Var = skip >> variable_section
  section_by k.Procedure = skip >> x.Routine <$> procedure
  section_by k.Function = skip >> x.Routine <$> function
  section_by _ = value_section

  unfoldable pub section : Parser Section
  section = λ ts. if_some (first ts) (λ t. section_by t.kind) refuse ts

  unfoldable pub formal_list : Parser (List Section)
  formal_list = do
    expect k.LeftParen
    xs ← separated k.Semicolon section
    expect k.RightParen
    pure xs

unfoldable pub read_formals : ℕ → Parser (List Section)
read_formals zero = refuse
read_formals (suc n) = formal_list (read_formals n)

-- ---- blocks
unfoldable pub constant_definition : Parser ConstantDefinition
constant_definition = do
  at ← expect k.Name
  expect k.Equal
  c ← constant
  expect k.Semicolon
  pure (record { name = at; value = c })

module _ (type : Parser TypeDenoter) where
  unfoldable pub type_definition : Parser TypeDefinition
  type_definition = do
    at ← expect k.Name
    expect k.Equal
    x ← type
    expect k.Semicolon
    pure (record { name = at; ty = x })

  unfoldable pub variables : Parser Variables
  variables = do
    xs ← names
    expect k.Colon
    x ← type
    expect k.Semicolon
    pure (record { names = xs; ty = x })

abbrev pub begins_name : Tokens → Bool
begins_name = sees k.Name

abbrev pub begins_routine : Tokens → Bool
begins_routine ts = sees k.Procedure ts || sees k.Function ts

module _ (is_forward : Span → Bool) where
  module _ (formals : Parser (List Section)) (block : Parser Block) where
    -- after a heading's semicolon
    unfoldable pub after_heading : Heading → Parser Routine
    after_heading heading = λ ts. (do
      directive ← accept k.Name
      if_some directive (λ at. if is_forward at then pure (q.Forward heading) else refuse_from (length ts))
          (q.Whole heading <$> block)) ts

    unfoldable pub procedure_routine : Parser Routine
    procedure_routine = do
      heading ← procedure formals
      expect k.Semicolon
      after_heading heading

    unfoldable pub function_routine : Parser Routine
    function_routine = do
      at ← expect k.Name
      is_completion ← eat k.Semicolon
      if is_completion then q.Completion at <$> block else (do
        heading ← function_named formals at
        expect k.Semicolon
        after_heading heading)

    abbrev pub routine_by : Kind → Parser Routine
    routine_by k.Procedure = skip >> procedure_routine
    routine_by k.Function = skip >> function_routine
    routine_by _ = refuse

    -- before its semicolon
    unfoldable pub routine_head : Parser Routine
    routine_head = λ ts. if_some (first ts) (λ t. routine_by t.kind) refuse ts

    unfoldable pub routine : Parser Routine
    routine = do
      x ← routine_head
      expect k.Semicolon
      pure x

  module _ (type : Parser TypeDenoter) (formals : Parser (List Section)) (statement : Parser Statement)
      (block : Parser Block) where
    unfoldable pub any_block : Parser Block
    any_block = do
      constants ← part k.Const begins_name constant_definition
      types ← part k.Type begins_name (type_definition type)
      vs ← part k.Var begins_name (variables type)
      routines ← many (if_begins begins_routine (routine formals block))
      begin ← expect k.Begin
      statements ← separated k.Semicolon statement
      expect k.End
      pure (roll-Block (record {
        constants = constants;
        types = types;
        variables = vs;
        routines = routines;
        begin = begin;
        statements = statements;
      }))

  unfoldable pub read_block : ℕ → Parser Block
  read_block zero = refuse
  read_block (suc n) = any_block (read_type n) (read_formals n) (read_statement n) (read_block n)

  module _ (block : Parser Block) where
    unfoldable pub program_names : Parser (List Span)
    program_names = do
      is_list ← eat k.LeftParen
      if is_list then (do xs ← names; expect k.RightParen; pure xs) else pure []

    unfoldable pub program : Parser Program
    program = do
      expect k.Program
      at ← expect k.Name
      xs ← program_names
      expect k.Semicolon
      b ← block
      expect k.Dot
      pure (record { name = at; parameters = xs; block = b })
