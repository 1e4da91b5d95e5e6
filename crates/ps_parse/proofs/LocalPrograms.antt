-- The reading of types, routines, blocks and programs looks no further than the token that it stops before or refuses.
use Rattle.std.proofs.Common.{◌≡◌, ℕ, zero, suc, Bool, true, false, ◌||◌, if◌then◌else◌, List, [], ◌∷◌, length, Option}
use Rattle.std.proofs.Common.{Some, None, refl}
use Rattle.ps_text.specs.declared.Span.{Span}
use Rattle.ps_scan.specs.declared.token.Kind.{Kind}
use Rattle.ps_scan.specs.declared.token.Kind.TheVariants as k
use Rattle.ps_scan.specs.declared.token.Token.{Token}
use Rattle.ps_scan.specs.Kinds.{same}
use Rattle.ps_syntax.specs.declared.statement.Constant.{Constant}
use Rattle.ps_syntax.specs.declared.statement.Constant.TheVariants as c
use Rattle.ps_syntax.specs.declared.statement.Statement.{Statement}
use Rattle.ps_syntax.specs.declared.program.Ordinal.{Ordinal}
use Rattle.ps_syntax.specs.declared.program.Ordinal.TheVariants as o
use Rattle.ps_syntax.specs.declared.program.TypeDenoter.{TypeDenoter}
use Rattle.ps_syntax.specs.declared.program.Structure.TheVariants as u
use Rattle.ps_syntax.specs.declared.program.Section.{Section}
use Rattle.ps_syntax.specs.declared.program.Heading.{Heading}
use Rattle.ps_syntax.specs.declared.program.Routine.{Routine}
use Rattle.ps_syntax.specs.declared.program.Routine.TheVariants as q
use Rattle.ps_syntax.specs.declared.program.Block.{Block}
use Rattle.ps_parse_grammar.specs.Symbols.{Tokens}
use Rattle.ps_parse.specs.Steps.{Parser, if_some, first, skip, sees, ◌>>=◌, ◌>>◌, ◌<$>◌, pure, refuse, refuse_from}
use Rattle.ps_parse.specs.Steps.{accept_one, eat, accept, expect, separated, terminated, many, part, if_begins}
use Rattle.ps_parse.specs.ReadStatements.{constant, read_statement}
use Rattle.ps_parse.specs.ReadPrograms as read
use Rattle.ps_parse.proofs.Local.{Local, local_pure, local_refuse, local_bind, local_map, local_past, local_next}
use Rattle.ps_parse.proofs.Local.{local_by, local_same, local_if, local_if_some, local_eat, local_accept, local_expect}
use Rattle.ps_parse.proofs.Local.{local_choice, seen, sees_shown, Takes, expect_takes, first_takes, last_takes}
use Rattle.ps_parse.proofs.Local.{starts_with}
use Rattle.ps_parse.proofs.LocalLists.{Turn, local_separated, separated_takes, local_terminated, local_many}
use Rattle.ps_parse.proofs.LocalLists.{local_part, turn_begins}
use Rattle.ps_parse.proofs.LocalStatements.{local_constant, local_statement}

pub local_names : Local read.names
unfolding read.names
local_names = local_separated k.Comma (expect k.Name) (local_expect k.Name)

-- ---- types
local_range : (low : Constant) → Local (expect k.DotDot >> o.Subrange low <$> constant)
local_range low = local_bind (expect k.DotDot) _ (local_expect k.DotDot) (λ _. local_map _ constant local_constant)

local_after_constant : (x : Constant) → Local (read.after_constant x)
local_after_constant (c.Name None at) = local_bind (eat k.DotDot) _ (local_eat k.DotDot)
    (λ b. local_if _ _ (local_map _ constant local_constant) (local_pure _) b)
local_after_constant (c.Name (Some s) at) = local_range (c.Name (Some s) at)
local_after_constant (c.Number s at) = local_range (c.Number s at)
local_after_constant (c.Text at) = local_range (c.Text at)

local_enumeration : (at : Span) → Local (read.enumeration at)
unfolding read.enumeration
local_enumeration at = local_bind read.names _ local_names
    (λ xs. local_bind (expect k.RightParen) _ (local_expect k.RightParen) (λ _. local_pure _))

pub local_ordinal : Local read.ordinal
unfolding read.ordinal
local_ordinal = local_bind (accept k.LeftParen) _ (local_accept k.LeftParen)
    (λ e. local_if_some _ _ local_enumeration (local_bind constant _ local_constant local_after_constant) e)

module _ (index : Parser Ordinal) (type : Parser TypeDenoter) (h : Local index) (i : Local type) where
  local_array : (at : Span) → Local (read.array index type at)
  unfolding read.array
  local_array at =
      local_bind (expect k.LeftBracket) _ (local_expect k.LeftBracket)
      (λ _. local_bind (separated k.Comma index) _ (local_separated k.Comma index h) (λ xs.
      local_bind (expect k.RightBracket) _ (local_expect k.RightBracket)
      (λ _. local_bind (expect k.Of) _ (local_expect k.Of) (λ _. local_map _ type i))))

  local_fields : Local (read.fields index type)
  unfolding read.fields
  local_fields = local_bind read.names _ local_names
      (λ xs. local_bind (expect k.Colon) _ (local_expect k.Colon) (λ _. local_bind type _ i (λ x. local_pure _)))

  local_field_lists : (at : Span) → Local (terminated k.Semicolon k.End (read.fields index type)
      >>= (λ xs. expect k.End >>= (λ _. pure (u.Record at xs))))
  local_field_lists at = local_bind (terminated k.Semicolon k.End (read.fields index type)) _
      (local_terminated k.Semicolon k.End (read.fields index type) local_fields)
      (λ xs. local_bind (expect k.End) _ (local_expect k.End) (λ _. local_pure _))

  local_record_of : (at : Span) → Local (read.record_of index type at)
  unfolding read.record_of
  local_record_of at = local_bind (eat k.End) _ (local_eat k.End)
      (λ b. local_if _ _ (local_pure _) (local_field_lists at) b)

  local_set_of : (at : Span) → Local (read.set_of index type at)
  unfolding read.set_of
  local_set_of at = local_bind (expect k.Of) _ (local_expect k.Of) (λ _. local_map _ index h)

  local_structure_by : (kind : Kind) (at : Span) → Local (read.structure_by index type kind at)
  local_structure_by k.Array at = local_past _ (local_array at)
  local_structure_by k.Record at = local_past _ (local_record_of at)
  local_structure_by k.Set at = local_past _ (local_set_of at)
  local_structure_by kind at = local_refuse

  local_structure : Local (read.structure index type)
  unfolding read.structure
  local_structure = local_next (λ t. read.structure_by index type t.kind t.span) refuse
      (λ t. local_structure_by t.kind t.span) local_refuse

  local_type_by : (kind : Kind) (at : Span) → Local (read.type_by index type kind at)
  local_type_by k.Caret at = local_past _ (local_map _ (expect k.Name) (local_expect k.Name))
  local_type_by k.Packed at = local_past _ (local_map _ (read.structure index type) local_structure)
  local_type_by k.Array at = local_map _ (read.structure index type) local_structure
  local_type_by k.Record at = local_map _ (read.structure index type) local_structure
  local_type_by k.Set at = local_map _ (read.structure index type) local_structure
  local_type_by kind at = local_map _ read.ordinal local_ordinal

  local_any_type : Local (read.any_type index type)
  unfolding read.any_type
  local_any_type = local_next (λ t. read.type_by index type t.kind t.span) refuse
      (λ t. local_type_by t.kind t.span) local_refuse

pub local_index : (n : ℕ) → Local (read.read_index n)
unfolding read.read_index
local_index zero = local_refuse
local_index (suc n) = local_ordinal

pub local_type : (n : ℕ) → Local (read.read_type n)
unfolding read.read_type
local_type zero = local_refuse
local_type (suc n) = local_any_type (read.read_index n) (read.read_type n) (local_index n) (local_type n)

-- ---- headings
module _ (formals : Parser (List Section)) (h : Local formals) where
  local_optional_formals : Local (read.optional_formals formals)
  unfolding read.optional_formals
  local_optional_formals = local_choice (sees k.LeftParen) (seen k.LeftParen) (sees_shown k.LeftParen) formals
      (pure []) h (local_pure [])

  local_procedure : Local (read.procedure formals)
  unfolding read.procedure
  local_procedure = local_bind (expect k.Name) _ (local_expect k.Name)
      (λ at. local_map _ (read.optional_formals formals) local_optional_formals)

  local_function_named : (at : Span) → Local (read.function_named formals at)
  unfolding read.function_named
  local_function_named at = local_bind (read.optional_formals formals) _ local_optional_formals
      (λ xs. local_bind (expect k.Colon) _ (local_expect k.Colon)
      (λ _. local_map _ (expect k.Name) (local_expect k.Name)))

  local_function : Local (read.function formals)
  unfolding read.function
  local_function = local_bind (expect k.Name) _ (local_expect k.Name) local_function_named

  local_value_section : Local (read.value_section formals)
  unfolding read.value_section
  local_value_section = local_bind read.names _ local_names
      (λ xs. local_bind (expect k.Colon) _ (local_expect k.Colon)
      (λ _. local_map _ (expect k.Name) (local_expect k.Name)))

  local_variable_section : Local (read.variable_section formals)
  unfolding read.variable_section
  local_variable_section = local_bind read.names _ local_names
      (λ xs. local_bind (expect k.Colon) _ (local_expect k.Colon)
      (λ _. local_map _ (expect k.Name) (local_expect k.Name)))

  local_section_by : (kind : Kind) → Local (read.section_by formals kind)
  local_section_by k.Var = local_past _ local_variable_section
  local_section_by k.Procedure = local_past _ (local_map _ (read.procedure formals) local_procedure)
  local_section_by k.Function = local_past _ (local_map _ (read.function formals) local_function)
  local_section_by kind = local_value_section

  local_section : Local (read.section formals)
  unfolding read.section
  local_section = local_next (λ t. read.section_by formals t.kind) refuse (λ t. local_section_by t.kind) local_refuse

  local_formal_list : Local (read.formal_list formals)
  unfolding read.formal_list
  local_formal_list =
      local_bind (expect k.LeftParen) _ (local_expect k.LeftParen)
      (λ _. local_bind (separated k.Semicolon (read.section formals)) _
      (local_separated k.Semicolon (read.section formals) local_section)
      (λ xs. local_bind (expect k.RightParen) _ (local_expect k.RightParen) (λ _. local_pure _)))

pub local_formals : (n : ℕ) → Local (read.read_formals n)
unfolding read.read_formals
local_formals zero = local_refuse
local_formals (suc n) = local_formal_list (read.read_formals n) (local_formals n)

-- ---- definitions
pub looks_at_constant : Local read.constant_definition × Takes read.constant_definition
unfolding read.constant_definition
looks_at_constant =
    starts_with (expect k.Name) _ (local_expect k.Name) (expect_takes k.Name)
    (λ at. local_bind (expect k.Equal) _ (local_expect k.Equal)
    (λ _. local_bind constant _ local_constant
    (λ c. local_bind (expect k.Semicolon) _ (local_expect k.Semicolon) (λ _. local_pure _))))

names_take : Takes read.names
unfolding read.names
names_take = separated_takes k.Comma (expect k.Name) (local_expect k.Name) (expect_takes k.Name)

module _ (type : Parser TypeDenoter) (h : Local type) where
  looks_at_type : Local (read.type_definition type) × Takes (read.type_definition type)
  unfolding read.type_definition
  looks_at_type =
      starts_with (expect k.Name) _ (local_expect k.Name) (expect_takes k.Name)
      (λ at. local_bind (expect k.Equal) _ (local_expect k.Equal)
      (λ _. local_bind type _ h (λ x. local_bind (expect k.Semicolon) _ (local_expect k.Semicolon)
      (λ _. local_pure _))))

  looks_at_variables : Local (read.variables type) × Takes (read.variables type)
  unfolding read.variables
  looks_at_variables =
      starts_with read.names _ local_names names_take
      (λ xs. local_bind (expect k.Colon) _ (local_expect k.Colon)
      (λ _. local_bind type _ h (λ x. local_bind (expect k.Semicolon) _ (local_expect k.Semicolon)
      (λ _. local_pure _))))

begins_word : Kind → Kind → Option Token → Bool
begins_word a b o = seen a o || seen b o

routine_shown : (ts : Tokens) → begins_word k.Procedure k.Function (first ts) ≡ read.begins_routine ts
unfolding begins_word
routine_shown [] = refl
routine_shown (t ∷ ts) = refl

module _ (is_forward : Span → Bool) where
  -- ---- routines
  module _ (formals : Parser (List Section)) (block : Parser Block) (h : Local formals) (i : Local block) where
    directed : Heading → Option Token → Parser Routine
    directed heading None = q.Whole heading <$> block
    directed heading (Some t) = if same t.kind k.Name
        then (if is_forward t.span then (skip >> pure (q.Forward heading)) else refuse) else (q.Whole heading <$> block)

    directed_is : (heading : Heading) (ts : Tokens) → directed heading (first ts) ts
        ≡ read.after_heading is_forward formals block heading ts
    unfolding directed read.after_heading accept
    directed_is heading [] = refl
    directed_is heading (t ∷ ts) = named (same t.kind k.Name)
      where
        spelled : (forward : Bool) → (if forward then (skip >> pure (q.Forward heading)) else refuse) (t ∷ ts)
            ≡ (if forward then pure (q.Forward heading) else refuse_from (length (t ∷ ts))) ts
        spelled true = refl
        spelled false = refl

        named : (is_name : Bool) → (if is_name then (if is_forward t.span then (skip >> pure (q.Forward heading))
            else refuse) else (q.Whole heading <$> block)) (t ∷ ts)
            ≡ (accept_one is_name t.span >>= (λ directive. if_some directive
            (λ at. if is_forward at then pure (q.Forward heading) else refuse_from (length (t ∷ ts)))
            (q.Whole heading <$> block))) (t ∷ ts)
        named true = spelled (is_forward t.span)
        named false = refl

    local_directed : (heading : Heading) (o : Option Token) → Local (directed heading o)
    unfolding directed
    local_directed heading None = local_map _ block i
    local_directed heading (Some t) = local_if _ _
        (local_if _ _ (local_past _ (local_pure _)) local_refuse (is_forward t.span)) (local_map _ block i)
        (same t.kind k.Name)

    local_after_heading : (heading : Heading) → Local (read.after_heading is_forward formals block heading)
    local_after_heading heading = local_same _ _ (directed_is heading)
        (local_by (directed heading) (local_directed heading))

    local_procedure_routine : Local (read.procedure_routine is_forward formals block)
    unfolding read.procedure_routine
    local_procedure_routine = local_bind (read.procedure formals) _ (local_procedure formals h)
        (λ heading. local_bind (expect k.Semicolon) _ (local_expect k.Semicolon) (λ _. local_after_heading heading))

    local_function_rest : (at : Span) → Local
        (read.function_named formals at >>= (λ heading. expect k.Semicolon
        >>= (λ _. read.after_heading is_forward formals block heading)))
    local_function_rest at = local_bind (read.function_named formals at) _ (local_function_named formals h at)
        (λ heading. local_bind (expect k.Semicolon) _ (local_expect k.Semicolon) (λ _. local_after_heading heading))

    local_function_routine : Local (read.function_routine is_forward formals block)
    unfolding read.function_routine
    local_function_routine = local_bind (expect k.Name) _ (local_expect k.Name)
        (λ at. local_bind (eat k.Semicolon) _ (local_eat k.Semicolon)
        (λ b. local_if _ _ (local_map _ block i) (local_function_rest at) b))

    local_routine_by : (kind : Kind) → Local (read.routine_by is_forward formals block kind)
    local_routine_by k.Procedure = local_past _ local_procedure_routine
    local_routine_by k.Function = local_past _ local_function_routine
    local_routine_by kind = local_refuse

    local_routine_head : Local (read.routine_head is_forward formals block)
    unfolding read.routine_head
    local_routine_head = local_next (λ t. read.routine_by is_forward formals block t.kind) refuse
        (λ t. local_routine_by t.kind) local_refuse

    looks_at_routine : Local (read.routine is_forward formals block) × Takes (read.routine is_forward formals block)
    unfolding read.routine
    looks_at_routine = (
      local_bind (read.routine_head is_forward formals block) _ local_routine_head
          (λ x. local_bind (expect k.Semicolon) _ (local_expect k.Semicolon) (λ _. local_pure x)),
      last_takes (read.routine_head is_forward formals block) _ local_routine_head
          (λ x. first_takes (expect k.Semicolon) _ (expect_takes k.Semicolon) (λ _. local_pure x)),
    )

  -- ---- blocks
  module _ (type : Parser TypeDenoter) (formals : Parser (List Section)) (statement : Parser Statement)
      (block : Parser Block) (ht : Local type) (hf : Local formals) (hs : Local statement) (hb : Local block) where
    local_constants : Local (part k.Const read.begins_name read.constant_definition)
    local_constants = local_part read.begins_name (seen k.Name)
        (sees_shown k.Name) refl read.constant_definition looks_at_constant.0 looks_at_constant.1 k.Const

    local_types : Local (part k.Type read.begins_name (read.type_definition type))
    local_types = (let look = looks_at_type type ht in local_part read.begins_name (seen k.Name)
        (sees_shown k.Name) refl (read.type_definition type) look.0 look.1 k.Type)

    local_variables : Local (part k.Var read.begins_name (read.variables type))
    local_variables = (let look = looks_at_variables type ht in local_part read.begins_name (seen k.Name)
        (sees_shown k.Name) refl (read.variables type) look.0 look.1 k.Var)

    local_routines : Local (many (if_begins read.begins_routine (read.routine is_forward formals block)))
    local_routines =
        (let look = looks_at_routine formals block hf hb in local_many _
        (turn_begins read.begins_routine (begins_word k.Procedure k.Function) routine_shown refl
        (read.routine is_forward formals block) look.0 look.1))

    local_any_block : Local (read.any_block is_forward type formals statement block)
    unfolding read.any_block
    local_any_block =
        local_bind (part k.Const read.begins_name read.constant_definition) _ local_constants (λ constants.
        local_bind (part k.Type read.begins_name (read.type_definition type)) _ local_types (λ types.
        local_bind (part k.Var read.begins_name (read.variables type)) _ local_variables (λ vs.
        local_bind (many (if_begins read.begins_routine (read.routine is_forward formals block))) _ local_routines
        (λ routines.
        local_bind (expect k.Begin) _ (local_expect k.Begin) (λ begin.
        local_bind (separated k.Semicolon statement) _ (local_separated k.Semicolon statement hs) (λ statements.
        local_bind (expect k.End) _ (local_expect k.End) (λ _. local_pure _)))))))

  pub local_block : (n : ℕ) → Local (read.read_block is_forward n)
  unfolding read.read_block
  local_block zero = local_refuse
  local_block (suc n) = local_any_block (read.read_type n) (read.read_formals n) (read_statement n)
      (read.read_block is_forward n) (local_type n) (local_formals n) (local_statement n) (local_block n)

  -- ---- programs
  module _ (block : Parser Block) (h : Local block) where
    local_list : Local (read.names >>= (λ xs. expect k.RightParen >>= (λ _. pure xs)))
    local_list = local_bind read.names _ local_names
        (λ xs. local_bind (expect k.RightParen) _ (local_expect k.RightParen) (λ _. local_pure xs))

    local_program_names : Local (read.program_names is_forward block)
    unfolding read.program_names
    local_program_names = local_bind (eat k.LeftParen) _ (local_eat k.LeftParen)
        (λ b. local_if _ _ local_list (local_pure []) b)

    pub local_program : Local (read.program is_forward block)
    unfolding read.program
    local_program =
        local_bind (expect k.Program) _ (local_expect k.Program)
        (λ _. local_bind (expect k.Name) _ (local_expect k.Name)
        (λ at. local_bind (read.program_names is_forward block) _ local_program_names (λ xs.
        local_bind (expect k.Semicolon) _ (local_expect k.Semicolon)
        (λ _. local_bind block _ h (λ b. local_bind (expect k.Dot) _ (local_expect k.Dot) (λ _. local_pure _))))))

-- ---- the items of the loops
pub fields_look : (n : ℕ) → Local (read.fields (read.read_index n) (read.read_type n))
fields_look n = local_fields (read.read_index n) (read.read_type n) (local_index n) (local_type n)

pub section_looks : (n : ℕ) → Local (read.section (read.read_formals n))
section_looks n = local_section (read.read_formals n) (local_formals n)

pub type_looks : (n : ℕ) → Local (read.type_definition (read.read_type n)) × Takes
    (read.type_definition (read.read_type n))
type_looks n = looks_at_type (read.read_type n) (local_type n)

pub variables_look : (n : ℕ) → Local (read.variables (read.read_type n)) × Takes (read.variables (read.read_type n))
variables_look n = looks_at_variables (read.read_type n) (local_type n)

pub named_turn : {A : Type 0} (item : Parser A) → Local item × Takes item → Turn (if_begins read.begins_name item)
named_turn item look = turn_begins read.begins_name (seen k.Name) (sees_shown k.Name) refl item look.0 look.1

pub routine_takes : (is_forward : Span → Bool) (n : ℕ) → Takes
    (read.routine is_forward (read.read_formals n) (read.read_block is_forward n))
routine_takes is_forward n = (let look = looks_at_routine is_forward (read.read_formals n)
    (read.read_block is_forward n) (local_formals n) (local_block is_forward n) in look.1)

pub routine_turn : (is_forward : Span → Bool) (n : ℕ) → Turn
    (if_begins read.begins_routine (read.routine is_forward (read.read_formals n) (read.read_block is_forward n)))
routine_turn is_forward n =
    let look = looks_at_routine is_forward (read.read_formals n) (read.read_block is_forward n) (local_formals n)
    (local_block is_forward n) in
    turn_begins read.begins_routine (begins_word k.Procedure k.Function) routine_shown refl
    (read.routine is_forward (read.read_formals n) (read.read_block is_forward n)) look.0 look.1
