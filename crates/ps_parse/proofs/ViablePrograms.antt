-- What was taken of a program begins one.
use Rattle.std.proofs.Common.{◌≡◌, ℕ, zero, suc, Bool, true, false, if◌then◌else◌, List, [], ◌∷◌, length, Ok, inl, inr}
use Rattle.std.proofs.Common.{refl, sym, subst}
use Rattle.ps_text.specs.declared.Span.{Span}
use Rattle.ps_scan.specs.declared.token.Kind.{Kind}
use Rattle.ps_scan.specs.declared.token.Kind.TheVariants as k
use Rattle.ps_syntax.specs.declared.statement.Statement.{Statement}
use Rattle.ps_syntax.specs.declared.statement.Statement.TheVariants as s
use Rattle.ps_syntax.specs.declared.program.TypeDenoter.{TypeDenoter}
use Rattle.ps_syntax.specs.declared.program.Section.{Section}
use Rattle.ps_syntax.specs.declared.program.Section.TheVariants as x
use Rattle.ps_syntax.specs.declared.program.Heading.{Heading}
use Rattle.ps_syntax.specs.declared.program.Heading.TheVariants as h
use Rattle.ps_syntax.specs.declared.program.Routine.{Routine}
use Rattle.ps_syntax.specs.declared.program.Routine.TheVariants as q
use Rattle.ps_syntax.specs.declared.program.Block.{Block, roll-Block}
use Rattle.ps_parse_grammar.specs.Symbols.{Tokens, Symbol, token, none, one}
use Rattle.ps_parse_grammar.specs.Statements.{InSequence, in_sequence, empty, statement_within}
use Rattle.ps_parse_grammar.specs.Programs.{name, IsNames, IsSection, value, variable, routine, IsFormals, absent}
use Rattle.ps_parse_grammar.specs.Programs.{present, IsFormalList, formals, IsHeading, procedure, function}
use Rattle.ps_parse_grammar.specs.Programs.{formals_within, without, IsConstantDefinition, constant, IsTypeDefinition}
use Rattle.ps_parse_grammar.specs.Programs.{definition, IsVariables, variables, IsRoutine, whole, forward, completion}
use Rattle.ps_parse_grammar.specs.Programs.{IsBlock, parts, block_within, IsProgram, plain, listed, type_within}
use Rattle.ps_parse.specs.Steps.{Outcome, Parser, pure, refuse_from, sees, if_begins, ◌<$>◌}
use Rattle.ps_parse.specs.ReadStatements.{read_statement}
use Rattle.ps_parse.specs.ReadPrograms as read
use Rattle.ps_parse.proofs.Exact.{sees_cases, accept_found, accept_missed}
use Rattle.ps_parse.proofs.Viable.{Viable, Well, Start, After, Behind, after_token, start_behind, nowhere, well_pure}
use Rattle.ps_parse.proofs.Viable.{well_refuse, viable_pure, viable_refuse, viable_within, viable_bind, viable_map}
use Rattle.ps_parse.proofs.Viable.{viable_expect, viable_eat, viable_choice_of, viable_separated, viable_many}
use Rattle.ps_parse.proofs.Viable.{viable_if_begins, viable_part}
use Rattle.ps_parse.proofs.ViableStatements.{constant_viable, statement_viable}
use Rattle.ps_parse.proofs.ViableTypes.{names_viable, type_viable}

-- ---- headings
-- `(v: t)` is a list of formals
formals_start : (H : Symbol Heading) → Start (IsFormalList H)
formals_start H = record {
  tokens = token k.LeftParen nowhere ∷ token k.Name nowhere ∷ token k.Colon nowhere ∷ token k.Name nowhere
      ∷ token k.RightParen nowhere ∷ [];
  tree = x.Value (nowhere ∷ []) nowhere ∷ [];
  derives = λ u. formals (one (value (one name)));
}

module _ (F : Symbol (List Section)) (p : Parser (List Section)) (v : Viable F p) where
  optional_well : (b : Bool) (ts : Tokens) → Well (IsFormals F) ts (if b then p ts else Ok ([], ts))
  optional_well true ts = (viable_within F (IsFormals F) (λ xs ts r d. present d) p v).well ts
  optional_well false ts = well_pure {S = IsFormals F} {x = []} (λ r. absent) ts

  optional_viable : Viable (IsFormals F) (read.optional_formals p)
  unfolding read.optional_formals
  optional_viable = record {
    well = λ ts. optional_well (sees k.LeftParen ts) ts;
    start = record {
      tokens = [];
      tree = [];
      derives = λ u. absent;
    };
  }

  procedure_viable : (word : Span) → Viable (Behind k.Procedure word (IsHeading F)) (read.procedure p)
  unfolding read.procedure
  procedure_viable word = viable_expect _ k.Name _
      (λ at. viable_map (h.Procedure at) optional_viable (λ xs ts r d. procedure d))

  function_named_viable : (word at : Span) → Viable (Behind k.Name at (Behind k.Function word (IsHeading F)))
      (read.function_named p at)
  unfolding read.function_named
  function_named_viable word at = viable_bind optional_viable
      (λ xs. viable_expect _ k.Colon _ (λ colon. viable_expect _ k.Name _
      (λ result. viable_pure (λ r ts d. function d))))

  function_viable : (word : Span) → Viable (Behind k.Function word (IsHeading F)) (read.function p)
  unfolding read.function
  function_viable word = viable_expect _ k.Name _ (λ at. function_named_viable word at)

  abbrev Sect : Symbol Section
  Sect = IsSection (IsHeading F)

  value_viable : Viable Sect (read.value_section p)
  unfolding read.value_section
  value_viable = viable_bind names_viable (λ xs. viable_expect _ k.Colon _
      (λ colon. viable_expect _ k.Name _ (λ at. viable_pure (λ r ts d. value d))))

  variable_viable : (var : Span) → Viable (Behind k.Var var Sect) (read.variable_section p)
  unfolding read.variable_section
  variable_viable var = viable_bind names_viable
      (λ xs. viable_expect _ k.Colon _ (λ colon. viable_expect _ k.Name _ (λ at. viable_pure (λ r ts d. variable d))))

  section_well : (kind : Kind) (at : Span) (ts : Tokens) → Well Sect (token kind at ∷ ts)
      (read.section_by p kind (token kind at ∷ ts))
  section_well k.Var at ts = after_token Sect k.Var at _ (variable_viable at) ts
  section_well k.Procedure at ts = after_token Sect k.Procedure at _
      (viable_map x.Routine (procedure_viable at) (λ y ts r d. routine d)) ts
  section_well k.Function at ts = after_token Sect k.Function at _
      (viable_map x.Routine (function_viable at) (λ y ts r d. routine d)) ts
  section_well kind at ts = value_viable.well (token kind at ∷ ts)

  section_viable : Viable Sect (read.section p)
  unfolding read.section
  section_viable = viable_choice_of _ (λ t ts. section_well t.kind t.span ts) value_viable.start

  formal_list_viable : Viable (IsFormalList (IsHeading F)) (read.formal_list p)
  unfolding read.formal_list
  formal_list_viable = viable_expect _ k.LeftParen _
      (λ left. viable_bind (viable_separated Sect (read.section p) section_viable k.Semicolon)
      (λ xs. viable_expect _ k.RightParen _ (λ right. viable_pure (λ r ts d. formals d))))

formals_viable : (n : ℕ) → Viable (formals_within (suc (suc n))) (read.read_formals n)
unfolding read.read_formals
formals_viable zero = viable_refuse (formals_start _)
formals_viable (suc n) = formal_list_viable _ _ (formals_viable n)

-- ---- definitions
constant_definition_viable : Viable IsConstantDefinition read.constant_definition
unfolding read.constant_definition
constant_definition_viable = viable_expect _ k.Name _
    (λ at. viable_expect _ k.Equal _ (λ equal. viable_bind constant_viable
    (λ c. viable_expect _ k.Semicolon _ (λ end. viable_pure (λ r ts d. constant d)))))

module _ (T : Symbol TypeDenoter) (p : Parser TypeDenoter) (v : Viable T p) where
  type_definition_viable : Viable (IsTypeDefinition T) (read.type_definition p)
  unfolding read.type_definition
  type_definition_viable = viable_expect _ k.Name _
      (λ at. viable_expect _ k.Equal _ (λ equal. viable_bind v
      (λ c. viable_expect _ k.Semicolon _ (λ end. viable_pure (λ r ts d. definition d)))))

  variables_viable : Viable (IsVariables T) (read.variables p)
  unfolding read.variables
  variables_viable = viable_bind names_viable
      (λ xs. viable_expect _ k.Colon _ (λ colon. viable_bind v
      (λ y. viable_expect _ k.Semicolon _ (λ end. viable_pure (λ r m d ts ds. variables ds d)))))

module _ (is_forward : Span → Bool) where
  -- ---- routines
  module _ (F : Symbol (List Section)) (B : Symbol Block) where
    -- a routine before the semicolon that ends it
    data Head : Routine → Tokens → Tokens → Type 0 where
      with_block : {x : Heading} {b : Block} {semicolon : Span} {ts m r : Tokens} → IsHeading F x ts
          (token k.Semicolon semicolon ∷ m) → B b m r → Head (q.Whole x b) ts r
      with_directive : {x : Heading} {semicolon at : Span} {ts r : Tokens} → IsHeading F x ts
          (token k.Semicolon semicolon ∷ token k.Name at ∷ r) → is_forward at ≡ true → Head (q.Forward x) ts r
      completing : {word at semicolon : Span} {b : Block} {ts r : Tokens} → B b ts r → Head (q.Completion at b)
          (token k.Function word ∷ token k.Name at ∷ token k.Semicolon semicolon ∷ ts) r

    ended : (y : Routine) (end : Span) (ts r : Tokens) → Head y ts (token k.Semicolon end ∷ r) → IsRoutine is_forward
        (IsHeading F) B y ts r
    ended y end ts r (with_block d d') = whole d d'
    ended y end ts r (with_directive d e) = forward d e
    ended y end ts r (completing d) = completion d

    module _ (p : Parser (List Section)) (b : Parser Block) (v : Viable F p) (w : Viable B b) where
      module _ (heading : Heading) (semicolon : Span) where
        abbrev Rest : Symbol Routine
        Rest = Behind k.Semicolon semicolon (After (IsHeading F) Head heading)

        whole_viable : Viable Rest (q.Whole heading <$> b)
        whole_viable = viable_map (q.Whole heading) w (λ y m r d ts d'. with_block d' d)

        directive_well : (at : Span) (m : Tokens) (f : Bool) → is_forward at ≡ f → Well Rest (token k.Name at ∷ m)
            ((if f then pure (q.Forward heading) else refuse_from (length (token k.Name at ∷ m))) m)
        directive_well at m true e = after_token Rest k.Name at (pure (q.Forward heading))
            (viable_pure (λ r ts d. with_directive d e)) m
        directive_well at m false e = well_refuse whole_viable.start (token k.Name at ∷ m)

        heading_well : (ts : Tokens) → Well Rest ts (read.after_heading is_forward p b heading ts)
        unfolding read.after_heading
        heading_well ts =
            elim (sees_cases k.Name ts) [
              | inl s ↦ subst (λ (z : Tokens). Well Rest z (read.after_heading is_forward p b heading z)) (sym s.2)
                  (subst (λ (o : Outcome Routine). Well Rest (token k.Name s.0 ∷ s.1) o)
                  (sym (accept_found k.Name s.0 s.1 _)) (directive_well s.0 s.1 (is_forward s.0) refl))
              | inr s ↦ subst (λ (o : Outcome Routine). Well Rest ts o) (sym (accept_missed k.Name ts _ s.0))
                  (whole_viable.well ts)
            ]

        after_heading_viable : Viable Rest (read.after_heading is_forward p b heading)
        after_heading_viable = record { well = heading_well; start = whole_viable.start }

      procedure_routine_viable : (word : Span) → Viable (Behind k.Procedure word Head)
          (read.procedure_routine is_forward p b)
      unfolding read.procedure_routine
      procedure_routine_viable word = viable_bind (procedure_viable F p v word)
          (λ heading. viable_expect _ k.Semicolon _ (λ semicolon.
          viable_within (Rest heading semicolon) _ (λ y m r f ts d. f (token k.Procedure word ∷ ts) d) _
          (after_heading_viable heading semicolon)))

      function_routine_viable : (word : Span) → Viable (Behind k.Function word Head)
          (read.function_routine is_forward p b)
      unfolding read.function_routine
      function_routine_viable word = viable_expect _ k.Name _
          (λ at. viable_eat _ k.Semicolon _ (λ semicolon. viable_map (q.Completion at) w (λ y ts r d. completing d))
          (viable_bind (function_named_viable F p v word at) (λ heading. viable_expect _ k.Semicolon _ (λ semicolon.
          viable_within (Rest heading semicolon) _
          (λ y m r f ts d. f (token k.Function word ∷ token k.Name at ∷ ts) d) _
          (after_heading_viable heading semicolon)))))

      head_start : Start Head
      head_start = start_behind Head k.Procedure (procedure_routine_viable nowhere).start

      head_well : (kind : Kind) (at : Span) (ts : Tokens) → Well Head (token kind at ∷ ts)
          (read.routine_by is_forward p b kind (token kind at ∷ ts))
      head_well k.Procedure at ts = after_token Head k.Procedure at _ (procedure_routine_viable at) ts
      head_well k.Function at ts = after_token Head k.Function at _ (function_routine_viable at) ts
      head_well kind at ts = well_refuse head_start (token kind at ∷ ts)

      head_viable : Viable Head (read.routine_head is_forward p b)
      unfolding read.routine_head
      head_viable = viable_choice_of _ (λ t ts. head_well t.kind t.span ts) head_start

      routine_viable : Viable (IsRoutine is_forward (IsHeading F) B) (read.routine is_forward p b)
      unfolding read.routine
      routine_viable = viable_bind head_viable
          (λ y. viable_expect _ k.Semicolon _ (λ end. viable_pure (λ r ts d. ended y end ts r d)))

  -- ---- blocks
  module _ (T : Symbol TypeDenoter) (F : Symbol (List Section)) (S : Bool → Symbol Statement) (B : Symbol Block)
      (p : Parser TypeDenoter) (q : Parser (List Section)) (s : Parser Statement) (b : Parser Block) (v : Viable T p)
      (w : Viable F q) (i : Viable (InSequence S) s) (j : Viable B b) where
    any_block_viable : Viable (IsBlock is_forward T (IsHeading F) S B) (read.any_block is_forward p q s b)
    unfolding read.any_block
    any_block_viable =
        viable_bind (viable_part IsConstantDefinition read.constant_definition constant_definition_viable k.Const
        read.begins_name) (λ constants.
        viable_bind (viable_part (IsTypeDefinition T) (read.type_definition p)
        (type_definition_viable T p v) k.Type read.begins_name) (λ types.
        viable_bind (viable_part (IsVariables T) (read.variables p) (variables_viable T p v) k.Var read.begins_name)
        (λ vs.
        viable_bind (viable_many (IsRoutine is_forward (IsHeading F) B)
        (if_begins read.begins_routine (read.routine is_forward q b))
        (viable_if_begins (IsRoutine is_forward (IsHeading F) B) (read.routine is_forward q b)
        (routine_viable F B q b w j) read.begins_routine)) (λ routines.
        viable_expect _ k.Begin _ (λ begin.
        viable_bind (viable_separated (InSequence S) s i k.Semicolon) (λ statements.
        viable_expect _ k.End _ (λ end.
        viable_pure (λ r m5 d5 m4 d4 m3 d3 m2 d2 m1 d1. parts constants types vs routines begin statements d1 d2 d3 d4
        d5))))))))

  -- `begin end` is a block
  block_start : Start (block_within is_forward (suc (suc zero)))
  block_start = record {
    tokens = token k.Begin nowhere ∷ token k.End nowhere ∷ [];
    tree = roll-Block (record {
      constants = [];
      types = [];
      variables = [];
      routines = [];
      begin = nowhere;
      statements = s.Empty ∷ [];
    });
    derives = λ u. parts [] [] [] [] nowhere (s.Empty ∷ []) without without without none
        (one (in_sequence {ends = false} empty));
  }

  block_viable : (n : ℕ) → Viable (block_within is_forward (suc (suc n))) (read.read_block is_forward n)
  unfolding read.read_block
  block_viable zero = viable_refuse block_start
  block_viable (suc n) = any_block_viable (type_within (suc (suc n))) (formals_within (suc (suc n)))
      (statement_within (suc (suc n))) (block_within is_forward (suc (suc n)))
      (read.read_type n) (read.read_formals n) (read_statement n) (read.read_block is_forward n) (type_viable n)
      (formals_viable n) (statement_viable n) (block_viable n)

  -- ---- programs
  module _ (B : Symbol Block) (b : Parser Block) (v : Viable B b) where
    -- the names in parentheses, if there are any
    data Listed : List Span → Tokens → Tokens → Type 0 where
      no_list : {r : Tokens} → Listed [] r r
      in_list : {left right : Span} {xs : List Span} {ts r : Tokens} → IsNames xs ts (token k.RightParen right ∷ r)
          → Listed xs (token k.LeftParen left ∷ ts) r

    program_names_viable : Viable Listed (read.program_names is_forward b)
    unfolding read.program_names
    program_names_viable = viable_eat _ k.LeftParen _
        (λ left. viable_bind names_viable (λ xs. viable_expect _ k.RightParen _
        (λ right. viable_pure (λ r ts d. in_list d)))) (viable_pure (λ r. no_list))

    program_of : (word at semicolon dot : Span) (xs : List Span) (y : Block) (ts m r : Tokens) → B y m
        (token k.Dot dot ∷ r) → Listed xs ts (token k.Semicolon semicolon ∷ m) → IsProgram is_forward B (record {
          name = at;
          parameters = xs;
          block = y;
        }) (token k.Program word ∷ token k.Name at ∷ ts) r
    program_of word at semicolon dot xs y ts m r d no_list = plain d
    program_of word at semicolon dot xs y ts m r d (in_list ds) = listed ds d

    program_by_viable : Viable (IsProgram is_forward B) (read.program is_forward b)
    unfolding read.program
    program_by_viable = viable_expect _ k.Program _
        (λ word. viable_expect _ k.Name _ (λ at. viable_bind program_names_viable
        (λ xs. viable_expect _ k.Semicolon _ (λ semicolon.
        viable_bind v (λ y. viable_expect _ k.Dot _
        (λ dot. viable_pure (λ r m d ts ds. program_of word at semicolon dot xs y ts m r d ds)))))))

  pub program_viable : (n : ℕ) → Viable (IsProgram is_forward (block_within is_forward (suc (suc n))))
      (read.program is_forward (read.read_block is_forward n))
  program_viable n = program_by_viable (block_within is_forward (suc (suc n))) (read.read_block is_forward n)
      (block_viable n)
