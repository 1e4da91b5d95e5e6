-- Which tokens begin a program that is not too high as far as they go: none of the constructions that begin among them
-- is nested in too many others.
use Rattle.std.specs.Prelude.{ℕ, zero, suc, ◌≤◌, Bool, List, [], ◌∷◌, ◌++◌, length}
use Rattle.ps_text.specs.declared.Span.{Span}
use Rattle.ps_syntax.specs.declared.expression.Expr.{Expr}
use Rattle.ps_syntax.specs.declared.expression.Factor.{Factor}
use Rattle.ps_syntax.specs.declared.statement.Statement.{Statement}
use Rattle.ps_syntax.specs.declared.program.Ordinal.{Ordinal}
use Rattle.ps_syntax.specs.declared.program.TypeDenoter.{TypeDenoter}
use Rattle.ps_syntax.specs.declared.program.Section.{Section}
use Rattle.ps_syntax.specs.declared.program.Block.{Block}
use Rattle.ps_syntax.specs.declared.program.Program.{Program}
use Rattle.ps_parse_grammar.specs.Symbols.{Tokens, Symbol, nothing}
use Rattle.ps_parse_grammar.specs.Expressions.{IsFactor, IsTerm, IsSimple, IsExpr, factor_within, expr_within}
use Rattle.ps_parse_grammar.specs.Statements.{IsStatement, statement_within}
use Rattle.ps_parse_grammar.specs.Programs.{IsOrdinal, IsType, IsFormalList, IsHeading, IsBlock, IsProgram}
use Rattle.ps_parse_grammar.specs.Programs.{index_within, type_within, formals_within, block_within}
use Rattle.ps_parse_grammar.specs.Forward.{is_forward}
use Rattle.ps_parse_grammar.specs.declared.TheConstants.{MAX_HEIGHT}

-- what derives from the symbol and begins where at most the given number of tokens is left
abbrev pub late : {T : Type 0} → ℕ → Symbol T → Symbol T
late left S = λ x ts r. (length ts ≤ left) × S x ts r

-- a factor after `not` in which nothing is higher than n, and which counts itself
abbrev pub negated_within : ℕ → Symbol Factor
negated_within zero = nothing
negated_within (suc n) = factor_within n

-- The levels of the grammar once more, where a construction below the last of them may be `more` levels high, if at
-- most `left` tokens are left where it begins.
module _ (left more : ℕ) where
  abbrev pub factor_low : ℕ → Symbol Factor
  factor_low zero = IsFactor (late left (expr_within more)) (late left (negated_within more))
  factor_low (suc n) = IsFactor (IsExpr (IsSimple (IsTerm (factor_low n)))) (factor_low n)

  abbrev pub expr_low : ℕ → Symbol Expr
  expr_low zero = late left (expr_within more)
  expr_low (suc n) = IsExpr (IsSimple (IsTerm (factor_low n)))

  abbrev pub statement_low : ℕ → Bool → Symbol Statement
  statement_low zero ends = late left (statement_within more ends)
  statement_low (suc n) ends = IsStatement (expr_low n) (statement_low n) ends

  abbrev pub index_low : ℕ → Symbol Ordinal
  index_low zero = late left (index_within more)
  index_low (suc n) = IsOrdinal

  abbrev pub type_low : ℕ → Symbol TypeDenoter
  type_low zero = late left (type_within more)
  type_low (suc n) = IsType (index_low n) (type_low n)

  abbrev pub formals_low : ℕ → Symbol (List Section)
  formals_low zero = late left (formals_within more)
  formals_low (suc n) = IsFormalList (IsHeading (formals_low n))

  abbrev pub block_low : (Span → Bool) → ℕ → Symbol Block
  block_low forward zero = late left (block_within forward more)
  block_low forward (suc n) = IsBlock forward (type_low n) (IsHeading (formals_low n)) (statement_low n)
      (block_low forward n)

-- Followed by some tokens they derive from `program`; and a construction that is nested in as many others as allowed
-- begins in what follows, however high it is.
abbrev pub IsLowTo : ℕ → List ℕ → Tokens → Type 0
IsLowTo n text before = (behind : Tokens) × (more : ℕ) × (p : Program) × IsProgram (is_forward text)
    (block_low (length behind) more (is_forward text) n) p (before ++ behind) []

abbrev pub IsLow : List ℕ → Tokens → Type 0
IsLow = IsLowTo MAX_HEIGHT

-- the first of some tokens, if there is one, begins something nested in too many others, or continues no program at all
abbrev pub EndsLow : List ℕ → Tokens → Tokens → Type 0
EndsLow text before [] = Unit {0}
EndsLow text before (t ∷ ts) = IsLow text (before ++ t ∷ []) → ⊥
