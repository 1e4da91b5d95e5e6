-- Parsers side by side: a relation that is kept from step to step is kept by the reading of blocks and programs.
use Rattle.std.proofs.Common.{ℕ, Bool, true, false, if◌then◌else◌, List, [], ◌∷◌, length, Ok, Err, arith}
use Rattle.ps_text.specs.declared.Span.{Span}
use Rattle.ps_scan.specs.declared.token.Kind.{Kind}
use Rattle.ps_scan.specs.declared.token.Kind.TheVariants as k
use Rattle.ps_scan.specs.declared.token.Token.{Token}
use Rattle.ps_scan.specs.Kinds.{same}
use Rattle.ps_syntax.specs.declared.statement.Statement.{Statement}
use Rattle.ps_syntax.specs.declared.program.TypeDenoter.{TypeDenoter}
use Rattle.ps_syntax.specs.declared.program.Section.{Section}
use Rattle.ps_syntax.specs.declared.program.Heading.{Heading}
use Rattle.ps_syntax.specs.declared.program.Routine.{Routine}
use Rattle.ps_syntax.specs.declared.program.Routine.TheVariants as q
use Rattle.ps_syntax.specs.declared.program.Block.{Block}
use Rattle.ps_parse_grammar.specs.Symbols.{Tokens}
use Rattle.ps_parse.specs.Steps.{Outcome, Parser, if_some, ◌>>=◌, ◌<$>◌, pure, refuse_from, accept, accept_one}
use Rattle.ps_parse.specs.ReadPrograms as g
use Rattle.ps_parse.proofs.LocalPrograms.{local_names, looks_at_constant}
use Rattle.ps_parse.proofs.Related.{Kept, Rel, OutcomeRelation, rel_bind, rel_eat, rel_expect, rel_function_named}
use Rattle.ps_parse.proofs.Related.{rel_if}
use Rattle.ps_parse.proofs.Related.{rel_if_begins, rel_many, rel_map, rel_next, rel_part, rel_past, rel_procedure}
use Rattle.ps_parse.proofs.Related.{rel_pure, rel_refuse, rel_same, rel_separated}

module _ (R : OutcomeRelation) (kept : Kept R) where
  -- ---- blocks
  module _ {x y z : Parser TypeDenoter} (v : Rel R x y z) where
    pub rel_type_definition : Rel R (g.type_definition x) (g.type_definition y) (g.type_definition z)
    unfolding g.type_definition
    rel_type_definition = rel_expect R kept k.Name (λ at. rel_expect R kept k.Equal
        (λ _. rel_bind R kept v (λ a. rel_expect R kept k.Semicolon (λ _. rel_pure R kept))))

    pub rel_variables : Rel R (g.variables x) (g.variables y) (g.variables z)
    unfolding g.variables
    rel_variables = rel_bind R kept (rel_same R kept local_names)
        (λ xs. rel_expect R kept k.Colon (λ _. rel_bind R kept v
        (λ a. rel_expect R kept k.Semicolon (λ _. rel_pure R kept))))

  module _ (is_forward : Span → Bool) where
    -- after a heading, where it is known whether a name comes next, and whether it is the directive
    abbrev directed : Heading → ℕ → Bool → Parser Routine
    directed heading left b = if b then pure (q.Forward heading) else refuse_from left

    abbrev after_name : Parser Block → Heading → Token → Tokens → Bool → Outcome Routine
    after_name block heading t ts b = (accept_one b t.span
        >>= (λ directive. if_some directive (λ at. directed heading (length (t ∷ ts)) (is_forward at))
        (q.Whole heading <$> block))) (t ∷ ts)

    module _ {x y z : Parser (List Section)} {x' y' z' : Parser Block} (v : Rel R x y z) (w : Rel R x' y' z') where
      directed_at : (heading : Heading) (t : Token) (ts : Tokens) (b : Bool) → R Routine (length (t ∷ ts))
          (directed heading (length (t ∷ ts)) b ts) (directed heading (length (t ∷ ts)) b ts)
          (directed heading (length (t ∷ ts)) b ts)
      directed_at heading t ts true = kept.alike (length (t ∷ ts)) (Ok (q.Forward heading, ts)) (omega arith)
      directed_at heading t ts false = kept.alike (length (t ∷ ts)) (Err (length (t ∷ ts))) (omega arith)

      after_named : (heading : Heading) (t : Token) (ts : Tokens) (b : Bool) → R Routine (length (t ∷ ts))
          (after_name x' heading t ts b) (after_name y' heading t ts b) (after_name z' heading t ts b)
      after_named heading t ts true = directed_at heading t ts (is_forward t.span)
      after_named heading t ts false = (rel_map R kept (q.Whole heading) w).at (t ∷ ts)

      heading_at : (heading : Heading) (ts : Tokens) → R Routine (length ts)
          (g.after_heading is_forward x x' heading ts) (g.after_heading is_forward y y' heading ts)
          (g.after_heading is_forward z z' heading ts)
      unfolding g.after_heading accept
      heading_at heading [] = (rel_map R kept (q.Whole heading) w).at []
      heading_at heading (t ∷ ts) = after_named heading t ts (same t.kind k.Name)

      pub rel_after_heading : (heading : Heading) → Rel R (g.after_heading is_forward x x' heading)
          (g.after_heading is_forward y y' heading) (g.after_heading is_forward z z' heading)
      rel_after_heading heading = record { at = heading_at heading }

      pub rel_procedure_routine : Rel R (g.procedure_routine is_forward x x') (g.procedure_routine is_forward y y')
          (g.procedure_routine is_forward z z')
      unfolding g.procedure_routine
      rel_procedure_routine = rel_bind R kept (rel_procedure R kept v)
          (λ heading. rel_expect R kept k.Semicolon (λ _. rel_after_heading heading))

      pub rel_function_routine : Rel R (g.function_routine is_forward x x') (g.function_routine is_forward y y')
          (g.function_routine is_forward z z')
      unfolding g.function_routine
      rel_function_routine = rel_expect R kept k.Name
          (λ at. rel_eat R kept k.Semicolon (rel_if R kept (rel_map R kept _ w)
          (rel_bind R kept (rel_function_named R kept v at) (λ heading. rel_expect R kept k.Semicolon
          (λ _. rel_after_heading heading)))))

      pub rel_routine_by : (kind : Kind) → Rel R (g.routine_by is_forward x x' kind) (g.routine_by is_forward y y' kind)
          (g.routine_by is_forward z z' kind)
      rel_routine_by k.Procedure = rel_past R kept rel_procedure_routine
      rel_routine_by k.Function = rel_past R kept rel_function_routine
      rel_routine_by kind = rel_refuse R kept

      pub rel_routine_head : Rel R (g.routine_head is_forward x x') (g.routine_head is_forward y y')
          (g.routine_head is_forward z z')
      unfolding g.routine_head
      rel_routine_head = rel_next R kept (λ t. rel_routine_by t.kind) (rel_refuse R kept)

      pub rel_routine : Rel R (g.routine is_forward x x') (g.routine is_forward y y') (g.routine is_forward z z')
      unfolding g.routine
      rel_routine = rel_bind R kept rel_routine_head (λ a. rel_expect R kept k.Semicolon (λ _. rel_pure R kept))

    pub rel_any_block : {t t' t'' : Parser TypeDenoter} {f f' f'' : Parser (List Section)} {a a' a'' : Parser Statement}
        {b b' b'' : Parser Block} → Rel R t t' t'' → Rel R f f' f'' → Rel R a a' a'' → Rel R b b' b''
        → Rel R (g.any_block is_forward t f a b) (g.any_block is_forward t' f' a' b')
        (g.any_block is_forward t'' f'' a'' b'')
    unfolding g.any_block
    rel_any_block vt vf va vb =
        rel_bind R kept (rel_part R kept k.Const g.begins_name (rel_same R kept looks_at_constant.0)) (λ constants.
        rel_bind R kept (rel_part R kept k.Type g.begins_name (rel_type_definition vt)) (λ types.
        rel_bind R kept (rel_part R kept k.Var g.begins_name (rel_variables vt)) (λ vs.
        rel_bind R kept (rel_many R kept (rel_if_begins R kept (rel_routine vf vb) g.begins_routine)) (λ routines.
        rel_expect R kept k.Begin (λ begin.
        rel_bind R kept (rel_separated R kept va k.Semicolon) (λ statements.
        rel_expect R kept k.End (λ _. rel_pure R kept)))))))

    pub rel_program : {b b' b'' : Parser Block} → Rel R b b' b'' → Rel R (g.program is_forward b)
        (g.program is_forward b') (g.program is_forward b'')
    unfolding g.program g.program_names
    rel_program vb =
        rel_expect R kept k.Program (λ _. rel_expect R kept k.Name (λ at.
        rel_bind R kept (rel_eat R kept k.LeftParen (rel_if R kept (rel_bind R kept (rel_same R kept local_names)
        (λ xs. rel_expect R kept k.RightParen (λ _. rel_pure R kept))) (rel_pure R kept))) (λ xs.
        rel_expect R kept k.Semicolon (λ _. rel_bind R kept vb (λ b. rel_expect R kept k.Dot (λ _. rel_pure R kept))))))
