-- The reading of each level is related to those of the next and of all above as in Rising.
use Rattle.std.proofs.Common.{ℕ, zero, suc, Bool, List, [], ◌∷◌, length, arith}
use Rattle.ps_text.specs.declared.Span.{Span}
use Rattle.ps_scan.specs.declared.token.Kind.{Kind}
use Rattle.ps_scan.specs.declared.token.Kind.TheVariants as k
use Rattle.ps_syntax.specs.declared.expression.Expr.{Expr}
use Rattle.ps_syntax.specs.declared.expression.Factor.{Factor}
use Rattle.ps_syntax.specs.declared.statement.Statement.{Statement}
use Rattle.ps_syntax.specs.declared.program.Ordinal.{Ordinal}
use Rattle.ps_syntax.specs.declared.program.TypeDenoter.{TypeDenoter}
use Rattle.ps_syntax.specs.declared.program.Structure.{Structure}
use Rattle.ps_syntax.specs.declared.program.Section.{Section}
use Rattle.ps_syntax.specs.declared.program.Routine.{Routine}
use Rattle.ps_syntax.specs.declared.program.Block.{Block}
use Rattle.ps_parse_grammar.specs.Symbols.{Tokens, token}
use Rattle.ps_parse.specs.Steps.{Parser, part}
use Rattle.ps_parse.specs.ReadExpressions as e
use Rattle.ps_parse.specs.ReadStatements as s
use Rattle.ps_parse.specs.ReadPrograms as g
use Rattle.ps_parse.proofs.Local.{local_expect}
use Rattle.ps_parse.proofs.LocalExpressions.{local_expr, local_negated}
use Rattle.ps_parse.proofs.LocalStatements.{local_statement}
use Rattle.ps_parse.proofs.LocalPrograms.{local_ordinal, looks_at_constant, local_index, local_type, local_formals}
use Rattle.ps_parse.proofs.LocalPrograms.{local_block}
use Rattle.ps_parse.proofs.Related as rel
use Rattle.ps_parse.proofs.RelatedBlocks as rel_blocks
use Rattle.ps_parse.proofs.Related.{Rel}
use Rattle.ps_parse.proofs.Rising.{Further, further_kept, nothing_further, First, first_kept, first_eat, first_expect}
use Rattle.ps_parse.proofs.Rising.{first_past, first_same, Rise, rise_kept, lowest}

-- the given number of levels above a level
abbrev pub above : ℕ → ℕ → ℕ
above zero d = d
above (suc n) d = suc (above n d)

-- ---- expressions and factors
module _ {p q : Parser Expr} {p' q' : Parser Factor} (v : Rel Further p p q) (w : Rel Further p' p' q') where
  factor_by : (kind : Kind) (at : Span) (ts : Tokens) → First Factor (length (token kind at ∷ ts))
      (e.factor_by p p' kind at (token kind at ∷ ts)) (e.factor_by p p' kind at (token kind at ∷ ts))
      (e.factor_by q q' kind at (token kind at ∷ ts))
  factor_by k.Name at ts = first_past ((rel.rel_named Further further_kept v at).at ts)
  factor_by k.LeftBracket at ts = first_past ((rel.rel_set Further further_kept v at).at ts)
  factor_by k.LeftParen at ts = first_past ((rel.rel_group Further further_kept v at).at ts)
  factor_by k.Not at ts = first_past ((rel.rel_map Further further_kept _ w).at ts)
  factor_by k.Number at ts = first_same _ (omega arith)
  factor_by k.Text at ts = first_same _ (omega arith)
  factor_by k.Nil at ts = first_same _ (omega arith)
  factor_by kind at ts = first_same _ (omega arith)

  factor_at : (ts : Tokens) → First Factor (length ts) (e.factor p p' ts) (e.factor p p' ts) (e.factor q q' ts)
  unfolding e.factor
  factor_at [] = first_same _ (omega arith)
  factor_at (t ∷ ts) = factor_by t.kind t.span ts

  factor_first : Rel First (e.factor p p') (e.factor p p') (e.factor q q')
  factor_first = record { at = factor_at }

  expr_first : Rel First (e.compared (e.simple (e.term (e.factor p p'))))
      (e.compared (e.simple (e.term (e.factor p p')))) (e.compared (e.simple (e.term (e.factor q q'))))
  expr_first = rel.rel_compared First first_kept
      (rel.rel_simple First first_kept (rel.rel_term First first_kept factor_first))

mutual
  unfolding e.read_expr e.read_negated

  pub expr_rises : (d n : ℕ) → Rel Rise (e.read_expr n) (e.read_expr (suc n)) (e.read_expr (suc (above n d)))
  expr_rises d zero = lowest (expr_first (nothing_further (local_expr d)) (nothing_further (local_negated d)))
  expr_rises d (suc n) = rel.rel_compared Rise rise_kept
      (rel.rel_simple Rise rise_kept (rel.rel_term Rise rise_kept
      (rel.rel_factor Rise rise_kept (expr_rises d n) (negated_rises d n))))

  negated_rises : (d n : ℕ) → Rel Rise (e.read_negated n) (e.read_negated (suc n)) (e.read_negated (suc (above n d)))
  negated_rises d zero = lowest (factor_first (nothing_further (local_expr d)) (nothing_further (local_negated d)))
  negated_rises d (suc n) = rel.rel_factor Rise rise_kept (expr_rises d n) (negated_rises d n)

-- ---- statements
module _ {p q : Parser Expr} {p' q' : Parser Statement} (v : Rel Further p p q) (w : Rel Further p' p' q') where
  unnamed_by : (kind : Kind) (at : Span) (ts : Tokens) → First Statement (length (token kind at ∷ ts))
      (s.unnamed_by p p' kind at (token kind at ∷ ts)) (s.unnamed_by p p' kind at (token kind at ∷ ts))
      (s.unnamed_by q q' kind at (token kind at ∷ ts))
  unnamed_by k.Begin at ts = first_past ((rel.rel_compound Further further_kept v w).at ts)
  unnamed_by k.If at ts = first_past ((rel.rel_if_statement Further further_kept v w).at ts)
  unnamed_by k.Case at ts = first_past ((rel.rel_case_statement Further further_kept v w at).at ts)
  unnamed_by k.While at ts = first_past ((rel.rel_while_statement Further further_kept v w).at ts)
  unnamed_by k.Repeat at ts = first_past ((rel.rel_repeat_statement Further further_kept v w).at ts)
  unnamed_by k.For at ts = first_past ((rel.rel_for_statement Further further_kept v w).at ts)
  unnamed_by k.With at ts = first_past ((rel.rel_with_statement Further further_kept v w).at ts)
  unnamed_by kind at ts = first_same _ (omega arith)

  statement_by : (kind : Kind) (at : Span) (ts : Tokens) → First Statement (length (token kind at ∷ ts))
      (s.statement_by p p' kind at (token kind at ∷ ts)) (s.statement_by p p' kind at (token kind at ∷ ts))
      (s.statement_by q q' kind at (token kind at ∷ ts))
  statement_by k.Name at ts = first_past ((rel.rel_after_name Further further_kept v at).at ts)
  statement_by kind at ts = unnamed_by kind at ts

  statement_at : (ts : Tokens) → First Statement (length ts) (s.any_statement p p' ts) (s.any_statement p p' ts)
      (s.any_statement q q' ts)
  unfolding s.any_statement
  statement_at [] = first_same _ (omega arith)
  statement_at (t ∷ ts) = statement_by t.kind t.span ts

  statement_first : Rel First (s.any_statement p p') (s.any_statement p p') (s.any_statement q q')
  statement_first = record { at = statement_at }

statement_rises : (d n : ℕ) → Rel Rise (s.read_statement n) (s.read_statement (suc n))
    (s.read_statement (suc (above n d)))
unfolding s.read_statement e.read_expr
statement_rises d zero = lowest (statement_first (nothing_further (local_expr d)) (nothing_further (local_statement d)))
statement_rises d (suc n) = rel.rel_any_statement Rise rise_kept (expr_rises d n) (statement_rises d n)

-- ---- types
index_rises : (d n : ℕ) → Rel Rise (g.read_index n) (g.read_index (suc n)) (g.read_index (suc (above n d)))
unfolding g.read_index
index_rises d zero = lowest (rel.rel_same First first_kept local_ordinal)
index_rises d (suc n) = rel.rel_same Rise rise_kept local_ordinal

module _ {p q : Parser Ordinal} {p' q' : Parser TypeDenoter} (v : Rel Further p p q) (w : Rel Further p' p' q') where
  structure_by : (kind : Kind) (at : Span) (ts : Tokens) → First Structure (length (token kind at ∷ ts))
      (g.structure_by p p' kind at (token kind at ∷ ts)) (g.structure_by p p' kind at (token kind at ∷ ts))
      (g.structure_by q q' kind at (token kind at ∷ ts))
  structure_by k.Array at ts = first_past ((rel.rel_array Further further_kept v w at).at ts)
  structure_by k.Record at ts = first_past ((rel.rel_record_of Further further_kept v w at).at ts)
  structure_by k.Set at ts = first_past ((rel.rel_set_of Further further_kept v w at).at ts)
  structure_by kind at ts = first_same _ (omega arith)

  structure_at : (ts : Tokens) → First Structure (length ts) (g.structure p p' ts) (g.structure p p' ts)
      (g.structure q q' ts)
  unfolding g.structure
  structure_at [] = first_same _ (omega arith)
  structure_at (t ∷ ts) = structure_by t.kind t.span ts

  structure_first : Rel First (g.structure p p') (g.structure p p') (g.structure q q')
  structure_first = record { at = structure_at }

  type_by : (kind : Kind) (at : Span) → Rel First (g.type_by p p' kind at) (g.type_by p p' kind at)
      (g.type_by q q' kind at)
  type_by k.Caret at = rel.rel_past First first_kept
      (rel.rel_map First first_kept _ (rel.rel_same First first_kept (local_expect k.Name)))
  type_by k.Packed at = rel.rel_past First first_kept (rel.rel_map First first_kept _ structure_first)
  type_by k.Array at = rel.rel_map First first_kept _ structure_first
  type_by k.Record at = rel.rel_map First first_kept _ structure_first
  type_by k.Set at = rel.rel_map First first_kept _ structure_first
  type_by kind at = rel.rel_map First first_kept _ (rel.rel_same First first_kept local_ordinal)

  type_first : Rel First (g.any_type p p') (g.any_type p p') (g.any_type q q')
  unfolding g.any_type
  type_first = rel.rel_next First first_kept (λ t. type_by t.kind t.span) (rel.rel_refuse First first_kept)

type_rises : (d n : ℕ) → Rel Rise (g.read_type n) (g.read_type (suc n)) (g.read_type (suc (above n d)))
unfolding g.read_type g.read_index
type_rises d zero = lowest (type_first (nothing_further (local_index d)) (nothing_further (local_type d)))
type_rises d (suc n) = rel.rel_any_type Rise rise_kept (index_rises d n) (type_rises d n)

-- ---- headings
formals_first : {p q : Parser (List Section)} → Rel Further p p q → Rel First (g.formal_list p) (g.formal_list p)
    (g.formal_list q)
unfolding g.formal_list
formals_first v = first_expect k.LeftParen
    (λ _. rel.rel_bind Further further_kept (rel.rel_separated Further further_kept
    (rel.rel_section Further further_kept v) k.Semicolon)
    (λ xs. rel.rel_expect Further further_kept k.RightParen (λ _. rel.rel_pure Further further_kept)))

formals_rises : (d n : ℕ) → Rel Rise (g.read_formals n) (g.read_formals (suc n)) (g.read_formals (suc (above n d)))
unfolding g.read_formals
formals_rises d zero = lowest (formals_first (nothing_further (local_formals d)))
formals_rises d (suc n) = rel.rel_formal_list Rise rise_kept (formals_rises d n)

-- ---- blocks
part_first : {A : Type 0} {p q : Parser A} (word : Kind) (begins : Tokens → Bool) → Rel Further p p q → Rel First
    (part word begins p) (part word begins p) (part word begins q)
unfolding part
part_first word begins v = first_eat word _ _ _
    (rel.rel_bind Further further_kept v (λ x. rel.rel_counted Further further_kept
    (λ n. rel.rel_many_from Further further_kept (rel.rel_if_begins Further further_kept v begins) n (x ∷ []))))
    (rel.rel_pure First first_kept)

module _ (is_forward : Span → Bool) where
  module _ {p q : Parser (List Section)} {p' q' : Parser Block} (v : Rel Further p p q) (w : Rel Further p' p' q') where
    routine_by : (kind : Kind) (at : Span) (ts : Tokens) → First Routine (length (token kind at ∷ ts))
        (g.routine_by is_forward p p' kind (token kind at ∷ ts))
        (g.routine_by is_forward p p' kind (token kind at ∷ ts))
        (g.routine_by is_forward q q' kind (token kind at ∷ ts))
    routine_by k.Procedure at ts = first_past
        ((rel_blocks.rel_procedure_routine Further further_kept is_forward v w).at ts)
    routine_by k.Function at ts = first_past
        ((rel_blocks.rel_function_routine Further further_kept is_forward v w).at ts)
    routine_by kind at ts = first_same _ (omega arith)

    head_at : (ts : Tokens) → First Routine (length ts) (g.routine_head is_forward p p' ts)
        (g.routine_head is_forward p p' ts) (g.routine_head is_forward q q' ts)
    unfolding g.routine_head
    head_at [] = first_same _ (omega arith)
    head_at (t ∷ ts) = routine_by t.kind t.span ts

    routine_first : Rel First (g.routine is_forward p p') (g.routine is_forward p p') (g.routine is_forward q q')
    unfolding g.routine
    routine_first = rel.rel_bind First first_kept (record {
      at = head_at;
    }) (λ x. rel.rel_expect First first_kept k.Semicolon (λ _. rel.rel_pure First first_kept))

  block_first : {t t' : Parser TypeDenoter} {f f' : Parser (List Section)} {a a' : Parser Statement}
      {b b' : Parser Block} → Rel Further t t t' → Rel Further f f f' → Rel Further a a a' → Rel Further b b b'
      → Rel First (g.any_block is_forward t f a b) (g.any_block is_forward t f a b) (g.any_block is_forward t' f' a' b')
  unfolding g.any_block
  block_first vt vf va vb =
      rel.rel_bind First first_kept (rel.rel_part First first_kept k.Const g.begins_name
      (rel.rel_same First first_kept looks_at_constant.0)) (λ constants.
      rel.rel_bind First first_kept (part_first k.Type g.begins_name
      (rel_blocks.rel_type_definition Further further_kept vt))
      (λ types.
      rel.rel_bind First first_kept (part_first k.Var g.begins_name
      (rel_blocks.rel_variables Further further_kept vt)) (λ vs.
      rel.rel_bind First first_kept (rel.rel_many First first_kept
      (rel.rel_if_begins First first_kept (routine_first vf vb) g.begins_routine)) (λ routines.
      first_expect k.Begin (λ begin.
      rel.rel_bind Further further_kept (rel.rel_separated Further further_kept va k.Semicolon) (λ statements.
      rel.rel_expect Further further_kept k.End (λ _. rel.rel_pure Further further_kept)))))))

  block_rises : (d n : ℕ) → Rel Rise (g.read_block is_forward n) (g.read_block is_forward (suc n))
      (g.read_block is_forward (suc (above n d)))
  unfolding g.read_block g.read_type g.read_formals s.read_statement
  block_rises d zero = lowest (block_first (nothing_further (local_type d)) (nothing_further (local_formals d))
      (nothing_further (local_statement d)) (nothing_further (local_block is_forward d)))
  block_rises d (suc n) = rel_blocks.rel_any_block Rise rise_kept is_forward (type_rises d n) (formals_rises d n)
      (statement_rises d n) (block_rises d n)

  pub program_rises : (d n : ℕ) → Rel Rise (g.program is_forward (g.read_block is_forward n))
      (g.program is_forward (g.read_block is_forward (suc n)))
      (g.program is_forward (g.read_block is_forward (suc (above n d))))
  program_rises d n = rel_blocks.rel_program Rise rise_kept is_forward (block_rises d n)
