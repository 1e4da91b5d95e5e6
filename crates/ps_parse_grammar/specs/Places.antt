-- Where a part of a tree begins: at its first token.
use Rattle.std.specs.Prelude.{◌≡◌, ℕ, [], ◌∷◌}
use Rattle.ps_syntax.specs.First.{first_of_factor, first_of_term, first_of_simple, first_of_expr, first_of_member}
use Rattle.ps_syntax.specs.First.{first_of_constant, first_of_ordinal, first_of_structure, first_of_type}
use Rattle.ps_parse_grammar.specs.Symbols.{Tokens, Symbol}
use Rattle.ps_parse_grammar.specs.Expressions.{IsMember, IsTerm, IsSimple, factor_within, expr_within}
use Rattle.ps_parse_grammar.specs.Statements.{IsConstant}
use Rattle.ps_parse_grammar.specs.Programs.{IsOrdinal, IsStructure, index_within, type_within}

-- where the first of some tokens begins
abbrev pub first_place : Tokens → ℕ
first_place [] = 0
first_place (t ∷ ts) = t.span.from

-- what derives from the symbol begins where its first token begins
abbrev pub BeginsAtFirst : {T : Type 0} → Symbol T → (T → ℕ) → Type 0
BeginsAtFirst {T} S first = (x : T) (ts r : Tokens) → S x ts r → first x ≡ first_place ts

-- the same for each part at which a line is reported
pub record PartsBeginAtFirst : Type 0 where
  pub factors : (n : ℕ) → BeginsAtFirst (factor_within n) first_of_factor
  pub terms : (n : ℕ) → BeginsAtFirst (IsTerm (factor_within n)) first_of_term
  pub simples : (n : ℕ) → BeginsAtFirst (IsSimple (IsTerm (factor_within n))) first_of_simple
  pub exprs : (n : ℕ) → BeginsAtFirst (expr_within n) first_of_expr
  pub members : (n : ℕ) → BeginsAtFirst (IsMember (expr_within n)) first_of_member
  pub constants : BeginsAtFirst IsConstant first_of_constant
  pub ordinals : BeginsAtFirst IsOrdinal first_of_ordinal
  pub structures : (n : ℕ) → BeginsAtFirst (IsStructure (index_within n) (type_within n)) first_of_structure
  pub types : (n : ℕ) → BeginsAtFirst (type_within n) first_of_type
