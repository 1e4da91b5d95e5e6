-- Each part of a tree begins where its first token begins.
use Rattle.std.proofs.Common.{◌≡◌, ℕ, zero, suc, refl, sym, ap, ◌∙◌}
use Rattle.ps_syntax.specs.declared.expression.Expr.{Expr}
use Rattle.ps_syntax.specs.declared.expression.Factor.{Factor}
use Rattle.ps_syntax.specs.declared.expression.Simple.{Simple}
use Rattle.ps_syntax.specs.declared.expression.Term.{Term}
use Rattle.ps_syntax.specs.declared.program.Ordinal.{Ordinal}
use Rattle.ps_syntax.specs.declared.program.Structure.{Structure}
use Rattle.ps_syntax.specs.declared.program.Structure as structures
use Rattle.ps_syntax.specs.declared.program.TypeDenoter.{TypeDenoter}
use Rattle.ps_syntax.specs.declared.program.TypeDenoter as types
use Rattle.ps_syntax.specs.declared.expression.Expr as views
use Rattle.ps_syntax.specs.declared.expression.Factor as factors
use Rattle.ps_syntax.specs.declared.expression.Member.TheVariants as member
use Rattle.ps_syntax.specs.declared.expression.Expr.TheViews.{out-roll-Member}
use Rattle.ps_syntax.specs.declared.expression.Expr.TheOpen.{Member-F}
use Rattle.ps_syntax.specs.declared.expression.Simple as simples
use Rattle.ps_syntax.specs.declared.expression.Term as terms
use Rattle.ps_syntax.specs.First.{first_of_factor, first_of_term, first_of_simple, first_of_expr, first_of_member}
use Rattle.ps_syntax.specs.First.{member_layer_first, first_of_constant, first_of_ordinal, first_of_structure}
use Rattle.ps_syntax.specs.First.{first_of_type}
use Rattle.ps_parse_grammar.specs.Symbols.{Symbol}
use Rattle.ps_parse_grammar.specs.Expressions.{IsMember, single, range, selected, IsFactor, variable, call, number}
use Rattle.ps_parse_grammar.specs.Expressions.{text, nil, empty, set, group, not, IsTerm, term, IsSimple, plain}
use Rattle.ps_parse_grammar.specs.Expressions.{signed, IsExpr, alone, compare, factor_within, expr_within}
use Rattle.ps_parse_grammar.specs.Statements.{IsConstant, number as plain_number, signed_number, name, signed_name}
use Rattle.ps_parse_grammar.specs.Statements.{text as plain_text}
use Rattle.ps_parse_grammar.specs.Programs.{IsOrdinal, named, enumeration, subrange, IsStructure, array, empty_record}
use Rattle.ps_parse_grammar.specs.Programs.{filled_record, set as set_type, IsType, ordinal, pointer, structure}
use Rattle.ps_parse_grammar.specs.Programs.{packed, index_within, type_within}
use Rattle.ps_parse_grammar.specs.Places.{BeginsAtFirst, PartsBeginAtFirst}
use Rattle.ps_parse_grammar.proofs.Groups.{grouped_first}

factor_first : (E : Symbol Expr) (F : Symbol Factor) → BeginsAtFirst (IsFactor E F) first_of_factor
unfolding factors.out-Factor denote.Hole.Carrier.out
factor_first E F x ts r (variable (selected d)) = refl
factor_first E F x ts r (call d) = refl
factor_first E F x ts r number = refl
factor_first E F x ts r text = refl
factor_first E F x ts r nil = refl
factor_first E F x ts r empty = refl
factor_first E F x ts r (set d) = refl
factor_first E F x ts r (group {left = left} {x = y} d) = grouped_first left y
factor_first E F x ts r (not d) = refl

term_first : (F : Symbol Factor) → BeginsAtFirst F first_of_factor → BeginsAtFirst (IsTerm F) first_of_term
unfolding terms.out-Term terms.roll-Term denote.Hole.Carrier.out denote.Hole.Carrier.roll
term_first F h y ts r (term x xs {m = m} d ds) = h x ts m d

simple_first : (T : Symbol Term) → BeginsAtFirst T first_of_term → BeginsAtFirst (IsSimple T) first_of_simple
unfolding simples.out-Simple simples.roll-Simple denote.Hole.Carrier.out denote.Hole.Carrier.roll
simple_first T h y ts r (plain x xs {m = m} d ds) = h x ts m d
simple_first T h y ts r (signed s at x xs d ds) = refl

compared_first : (S : Symbol Simple) → BeginsAtFirst S first_of_simple → BeginsAtFirst (IsExpr S) first_of_expr
unfolding views.out-Expr denote.Hole.Carrier.out
compared_first S h y ts r (alone {x = x} d) = h x ts r d
compared_first S h y ts r (compare op at x z d d') = h x ts _ d

first_of_one : (x : Expr) → first_of_member (member.One x) ≡ first_of_expr x
first_of_one x = ap first_of_member (sym (member.rolls-One x)) ∙ ap member_layer_first
    (out-roll-Member (Member-F.One x))

first_of_range : (x y : Expr) → first_of_member (member.Range x y) ≡ first_of_expr x
first_of_range x y = ap first_of_member (sym (member.rolls-Range x y)) ∙ ap member_layer_first
    (out-roll-Member (Member-F.Range x y))

member_first : (E : Symbol Expr) → BeginsAtFirst E first_of_expr → BeginsAtFirst (IsMember E) first_of_member
member_first E h y ts r (single {x = x} d) = first_of_one x ∙ h x ts r d
member_first E h y ts r (range {x = x} {y = z} d d') = first_of_range x z ∙ h x ts _ d

factors_first : (n : ℕ) → BeginsAtFirst (factor_within n) first_of_factor
factors_first zero = factor_first _ _
factors_first (suc n) = factor_first _ _

simples_first : (n : ℕ) → BeginsAtFirst (IsSimple (IsTerm (factor_within n))) first_of_simple
simples_first n = simple_first (IsTerm (factor_within n)) (term_first (factor_within n) (factors_first n))

exprs_first : (n : ℕ) → BeginsAtFirst (expr_within n) first_of_expr
exprs_first zero = λ x ts r d. absurd d
exprs_first (suc n) = compared_first (IsSimple (IsTerm (factor_within n))) (simples_first n)

-- ---- constants and types
constant_first : BeginsAtFirst IsConstant first_of_constant
constant_first x ts r plain_number = refl
constant_first x ts r (signed_number s) = refl
constant_first x ts r name = refl
constant_first x ts r (signed_name s) = refl
constant_first x ts r plain_text = refl

ordinal_first : BeginsAtFirst IsOrdinal first_of_ordinal
ordinal_first x ts r named = refl
ordinal_first x ts r (enumeration d) = refl
ordinal_first x ts r (subrange {x = low} d d') = constant_first low ts _ d

structure_first : (I : Symbol Ordinal) (T : Symbol TypeDenoter) → BeginsAtFirst (IsStructure I T) first_of_structure
unfolding structures.out-Structure denote.Hole.Carrier.out
structure_first I T x ts r (array d d') = refl
structure_first I T x ts r empty_record = refl
structure_first I T x ts r (filled_record d) = refl
structure_first I T x ts r (set_type d) = refl

type_first : (I : Symbol Ordinal) (T : Symbol TypeDenoter) → BeginsAtFirst (IsType I T) first_of_type
unfolding types.out-TypeDenoter denote.Hole.Carrier.out
type_first I T x ts r (ordinal {x = y} d) = ordinal_first y ts r d
type_first I T x ts r pointer = refl
type_first I T x ts r (structure {x = y} d) = structure_first I T y ts r d
type_first I T x ts r (packed d) = refl

types_first : (n : ℕ) → BeginsAtFirst (type_within n) first_of_type
types_first zero = λ x ts r d. absurd d
types_first (suc n) = type_first (index_within n) (type_within n)

pub parts_first : PartsBeginAtFirst
parts_first = record {
  factors = factors_first;
  terms = λ n. term_first (factor_within n) (factors_first n);
  simples = simples_first;
  exprs = exprs_first;
  members = λ n. member_first (expr_within n) (exprs_first n);
  constants = constant_first;
  ordinals = ordinal_first;
  structures = λ n. structure_first (index_within n) (type_within n);
  types = types_first;
}
