-- The reading of levels where what begins late may be higher; it reads Low's levels exactly.
use Rattle.std.proofs.Common.{◌≡◌, ℕ, zero, suc, ◌≤◌, Bool, true, false, if◌then◌else◌, List, [], length, Ok, refl}
use Rattle.std.proofs.Common.{◌∙◌, nat_le}
use Rattle.std.proofs.lemmas.Bool.{leb-true, le-leb}
use Rattle.ps_text.specs.declared.Span.{Span}
use Rattle.ps_scan.specs.declared.token.Kind.TheVariants as k
use Rattle.ps_syntax.specs.declared.expression.Expr.{Expr}
use Rattle.ps_syntax.specs.declared.expression.Factor.{Factor}
use Rattle.ps_syntax.specs.declared.statement.Statement.{Statement}
use Rattle.ps_syntax.specs.declared.program.Ordinal.{Ordinal}
use Rattle.ps_syntax.specs.declared.program.TypeDenoter.{TypeDenoter}
use Rattle.ps_syntax.specs.declared.program.Section.{Section}
use Rattle.ps_syntax.specs.declared.program.Block.{Block}
use Rattle.ps_syntax.specs.declared.program.Program.{Program}
use Rattle.ps_parse_grammar.specs.Symbols.{Tokens, Symbol}
use Rattle.ps_parse_grammar.specs.Expressions.{expr_within}
use Rattle.ps_parse_grammar.specs.Statements.{statement_within, IsSequence}
use Rattle.ps_parse_grammar.specs.Programs.{IsProgram}
use Rattle.ps_parse.specs.Steps.{Parser, refuse, sees, separated}
use Rattle.ps_parse.specs.ReadExpressions as e
use Rattle.ps_parse.specs.ReadStatements as s
use Rattle.ps_parse.specs.ReadPrograms as g
use Rattle.ps_parse.specs.Low.{late, negated_within, factor_low, expr_low, statement_low, index_low, type_low}
use Rattle.ps_parse.specs.Low.{formals_low, block_low}
use Rattle.ps_parse.proofs.Exact.{Exact, refused}
use Rattle.ps_parse.proofs.Ends.{Ends}
use Rattle.ps_parse.proofs.ExactExpressions as expressions
use Rattle.ps_parse.proofs.ExactExpressions.{Level, expr_exact_within}
use Rattle.ps_parse.proofs.ExactFactors.{factor_exact, factor_begins, factor_unsigned}
use Rattle.ps_parse.proofs.ExactExpressions.{next_expr, expr_begins}
use Rattle.ps_parse.proofs.ExactStatements as statements
use Rattle.ps_parse.proofs.ExactConstants.{Anything}
use Rattle.ps_parse.proofs.ExactStatements.{EndsSequence, Greedy, statement_exact, statement_shrinks}
use Rattle.ps_parse.proofs.ExactStatements.{sequence_exact}
use Rattle.ps_parse.proofs.ExactTypes.{NoRange, ordinal_exact, index_exact, type_exact, type_exact_within}
use Rattle.ps_parse.proofs.ExactHeadings.{FormalsLevel, formals_level, list_exact, list_begins}
use Rattle.ps_parse.proofs.ExactPrograms.{BlockLevel}
use Rattle.ps_parse.proofs.ExactPrograms.{block_level, next_block, program_sound, program_complete}

-- reads only where at most the given number of tokens is left
abbrev pub gate : {A : Type 0} → ℕ → Parser A → Parser A
gate left p = λ ts. if nat_le (length ts) left then p ts else refuse ts

module _ {A : Type 0} (left : ℕ) (S : Symbol A) (p : Parser A) where
  opened : (ts : Tokens) → length ts ≤ left → gate left p ts ≡ p ts
  opened ts le = rw (le-leb (length ts) left le) refl

  gate_sound : ((ts : Tokens) (x : A) (r : Tokens) → p ts ≡ Ok (x, r) → S x ts r) → (ts : Tokens) (x : A) (r : Tokens)
      → gate left p ts ≡ Ok (x, r) → late left S x ts r
  gate_sound h ts x r q = go (nat_le (length ts) left) refl q
    where
      go : (b : Bool) → nat_le (length ts) left ≡ b → (if b then p ts else refuse ts) ≡ Ok (x, r) → late left S x ts r
      go true i q = (leb-true (length ts) left i, h ts x r q)
      go false i q = cc

  late_exact : (ends : Tokens → Type 0) → Exact ends S p → Exact ends (late left S) (gate left p)
  late_exact ends h = record {
    sound = gate_sound h.sound;
    complete = λ x ts r d o. opened ts d.0 ∙ h.complete x ts r d.1 o;
    shrinks = λ x ts r d. h.shrinks x ts r d.1;
  }

module _ (left more : ℕ) where
  unfoldable mutual
    pub gated_expr : ℕ → Parser Expr
    gated_expr zero = gate left (e.read_expr more)
    gated_expr (suc n) = e.compared (e.simple (e.term (e.factor (gated_expr n) (gated_negated n))))

    pub gated_negated : ℕ → Parser Factor
    gated_negated zero = gate left (e.read_negated more)
    gated_negated (suc n) = e.factor (gated_expr n) (gated_negated n)

  pub gated_factor : ℕ → Parser Factor
  gated_factor n = e.factor (gated_expr n) (gated_negated n)

  unfoldable pub gated_statement : ℕ → Parser Statement
  gated_statement zero = gate left (s.read_statement more)
  gated_statement (suc n) = s.any_statement (gated_expr n) (gated_statement n)

  unfoldable pub gated_index : ℕ → Parser Ordinal
  gated_index zero = gate left (g.read_index more)
  gated_index (suc n) = g.ordinal

  unfoldable pub gated_type : ℕ → Parser TypeDenoter
  gated_type zero = gate left (g.read_type more)
  gated_type (suc n) = g.any_type (gated_index n) (gated_type n)

  unfoldable pub gated_formals : ℕ → Parser (List Section)
  gated_formals zero = gate left (g.read_formals more)
  gated_formals (suc n) = g.formal_list (gated_formals n)

  unfoldable pub gated_block : (Span → Bool) → ℕ → Parser Block
  gated_block forward zero = gate left (g.read_block forward more)
  gated_block forward (suc n) = g.any_block forward (gated_type n) (gated_formals n) (gated_statement n)
      (gated_block forward n)

  -- ---- expressions
  expr_begins_within : (n : ℕ) (x : Expr) (ts r : Tokens) → expr_within n x ts r → sees k.RightBracket ts ≡ false
  expr_begins_within zero x ts r d = absurd d
  expr_begins_within (suc n) x ts r d = expr_begins _ _ (expressions.level n) x ts r d

  negated_exact_within : (n : ℕ) → Exact (Ends 4) (negated_within n) (e.read_negated n)
  unfolding e.read_negated e.read_expr
  negated_exact_within zero = refused (Ends 4)
  negated_exact_within (suc n) = (expressions.level n).exact

  expr_late : Exact (Ends 1) (expr_low left more zero) (gated_expr zero)
  unfolding gated_expr
  expr_late = late_exact left _ _ (Ends 1) (expr_exact_within more)

  negated_late : Exact (Ends 4) (late left (negated_within more)) (gated_negated zero)
  unfolding gated_negated
  negated_late = late_exact left _ _ (Ends 4) (negated_exact_within more)

  level_low : (n : ℕ) → Level (factor_low left more n) (gated_factor n)
  unfolding gated_factor gated_expr gated_negated
  level_low zero = record {
    exact = factor_exact _ _ expr_late _ _ negated_late (λ x ts r d. expr_begins_within more x ts r d.1);
    begins = factor_begins _ _ expr_late _ _ negated_late (λ x ts r d. expr_begins_within more x ts r d.1);
    unsigned = factor_unsigned _ _ expr_late _ _ negated_late (λ x ts r d. expr_begins_within more x ts r d.1);
  }
  level_low (suc n) = let l = level_low n in let h = next_expr _ _ l in record {
    exact = factor_exact _ _ h _ _ l.exact (expr_begins _ _ l);
    begins = factor_begins _ _ h _ _ l.exact (expr_begins _ _ l);
    unsigned = factor_unsigned _ _ h _ _ l.exact (expr_begins _ _ l);
  }

  expr_exact_low : (n : ℕ) → Exact (Ends 1) (expr_low left more n) (gated_expr n)
  unfolding gated_factor gated_expr
  expr_exact_low zero = expr_late
  expr_exact_low (suc n) = next_expr _ _ (level_low n)

  -- ---- statements
  open_statement : (ts : Tokens) (x : Statement) (r : Tokens) (b : Bool) → nat_le (length ts) left ≡ b
      → (if b then s.read_statement more ts else refuse ts) ≡ Ok (x, r) → Greedy (statement_low left more zero) x ts r
  open_statement ts x r true i q = (let d = (statements.level more).exact.sound ts x r q
      in (d.0, (leb-true (length ts) left i, d.1), d.2))
  open_statement ts x r false i q = cc

  statement_level : (n : ℕ) → statements.Level (statement_low left more n) (gated_statement n)
  unfolding gated_statement
  statement_level zero = record {
    exact = record {
      sound = λ ts x r q. open_statement ts x r (nat_le (length ts) left) refl q;
      complete = λ x ts r d o. opened left (Greedy (statement_within more)) (s.read_statement more) ts d.1.0
          ∙ (statements.level more).exact.complete x ts r (d.0, d.1.1, d.2) o;
      shrinks = λ x ts r d. (statements.level more).exact.shrinks x ts r (d.0, d.1.1, d.2);
    };
    shrinks = λ ends x ts r d. (statements.level more).shrinks ends x ts r d.1;
  }
  statement_level (suc n) = let l = statement_level n in let h = expr_exact_low n in record {
    exact = statement_exact (expr_low left more n) (gated_expr n) h (statement_low left more n)
        (gated_statement n) l.exact l.shrinks;
    shrinks = statement_shrinks (expr_low left more n) (gated_expr n) h (statement_low left more n)
        (gated_statement n) l.exact l.shrinks;
  }

  sequence_exact_low : (n : ℕ) → Exact EndsSequence (IsSequence (statement_low left more n))
      (separated k.Semicolon (gated_statement n))
  sequence_exact_low n = (let l = statement_level n in sequence_exact (expr_low left more n) (gated_expr n)
      (expr_exact_low n) (statement_low left more n) (gated_statement n) l.exact l.shrinks)

  -- ---- types
  index_exact_low : (n : ℕ) → Exact NoRange (index_low left more n) (gated_index n)
  unfolding gated_index
  index_exact_low zero = late_exact left _ _ NoRange (index_exact more)
  index_exact_low (suc n) = ordinal_exact

  type_exact_low : (n : ℕ) → Exact NoRange (type_low left more n) (gated_type n)
  unfolding gated_type
  type_exact_low zero = late_exact left _ _ NoRange (type_exact_within more)
  type_exact_low (suc n) = type_exact (index_low left more n) (gated_index n) (index_exact_low n) (type_low left more n)
      (gated_type n) (type_exact_low n)

  -- ---- headings
  formals_level_low : (n : ℕ) → FormalsLevel (formals_low left more n) (gated_formals n)
  unfolding gated_formals
  formals_level_low zero = record {
    exact = late_exact left _ _ Anything (formals_level more).exact;
    begins = λ xs ts r d. (formals_level more).begins xs ts r d.1;
  }
  formals_level_low (suc n) = let l = formals_level_low n in record {
    exact = list_exact (formals_low left more n) (gated_formals n) l.exact l.begins;
    begins = list_begins (formals_low left more n) (gated_formals n) l.exact l.begins;
  }

  -- ---- blocks and programs
  block_level_low : (forward : Span → Bool) (n : ℕ) → BlockLevel (block_low left more forward n) (gated_block forward n)
  unfolding gated_block
  block_level_low forward zero = record {
    exact = late_exact left _ _ Anything (block_level forward more).exact;
    begins = λ b ts r d. (block_level forward more).begins b ts r d.1;
  }
  block_level_low forward (suc n) = next_block forward (type_low left more n) (gated_type n) (type_exact_low n)
      (formals_low left more n) (gated_formals n) (formals_level_low n) (statement_low left more n) (gated_statement n)
      (sequence_exact_low n)
      (block_low left more forward n) (gated_block forward n) (block_level_low forward n)

  unfoldable pub gated_program : (Span → Bool) → ℕ → Parser Program
  gated_program forward n = g.program forward (gated_block forward n)

  pub gated_derived : (forward : Span → Bool) (n : ℕ) (ts : Tokens) (p : Program) → gated_program forward n ts ≡ Ok
      (p, []) → IsProgram forward (block_low left more forward n) p ts []
  unfolding gated_program
  gated_derived forward n ts p q = program_sound forward (block_low left more forward n) (gated_block forward n)
      (block_level_low forward n).exact ts p [] q

  pub derived_gated : (forward : Span → Bool) (n : ℕ) (ts : Tokens) (p : Program) → IsProgram forward
      (block_low left more forward n) p ts [] → gated_program forward n ts ≡ Ok (p, [])
  unfolding gated_program
  derived_gated forward n ts p d = program_complete forward (block_low left more forward n) (gated_block forward n)
      (block_level_low forward n).exact p ts [] d
