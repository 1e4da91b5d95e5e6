-- Constants and lists of them are read exactly.
use Rattle.std.proofs.Common.{◌≡◌, ◌<◌, false, List, [], ◌∷◌, length, Some, None, Ok, inl, inr, refl, sym, subst, arith}
use Rattle.ps_text.specs.declared.Span.{Span}
use Rattle.ps_scan.specs.declared.token.Kind.{Kind}
use Rattle.ps_scan.specs.declared.token.Kind.TheVariants as k
use Rattle.ps_scan.specs.Kinds.{same}
use Rattle.ps_syntax.specs.declared.expression.Sign.{Sign}
use Rattle.ps_syntax.specs.declared.expression.Sign.TheVariants as sign
use Rattle.ps_syntax.specs.declared.statement.Constant.{Constant}
use Rattle.ps_parse_grammar.specs.Symbols.{Tokens, token, Separated, one, several}
use Rattle.ps_parse_grammar.specs.Expressions.{sign_kind}
use Rattle.ps_parse_grammar.specs.Statements.{IsConstant, number, signed_number, name, signed_name, text}
use Rattle.ps_parse.specs.Steps.{sees, accept, separated}
use Rattle.ps_parse.specs.ReadExpressions.{eat_operator, sign_of}
use Rattle.ps_parse.specs.ReadStatements as read
use Rattle.ps_parse.proofs.Exact.{Exact, at_last, accept_sound, operator_sound}
use Rattle.ps_parse.proofs.Lists.{separated_exact}
use Rattle.ps_parse.proofs.ExactExpressions.{sign_back, sign_forth}

-- ---- constants
operand_none : (kind : Kind) (at : Span) (ts : Tokens) (y : Constant) (r : Tokens) → read.operand_by None kind at
    (token kind at ∷ ts) ≡ Ok (y, r) → IsConstant y (token kind at ∷ ts) r
operand_none k.Number at ts y r e = at_last IsConstant _ _ y ts r e number
operand_none k.Name at ts y r e = at_last IsConstant _ _ y ts r e name
operand_none kind at ts y r e = cc

operand_some : (s : Sign) (first : Span) (kind : Kind) (at : Span) (ts : Tokens) (y : Constant) (r : Tokens)
    → read.operand_by (Some (s, first)) kind at (token kind at ∷ ts) ≡ Ok (y, r) → IsConstant y
    (token (sign_kind s) first ∷ token kind at ∷ ts) r
operand_some s first k.Number at ts y r e = at_last IsConstant _ _ y ts r e (signed_number s)
operand_some s first k.Name at ts y r e = at_last IsConstant _ _ y ts r e (signed_name s)
operand_some s first kind at ts y r e = cc

unsigned_sound : (ts : Tokens) (y : Constant) (r : Tokens) → read.operand None ts ≡ Ok (y, r) → IsConstant y ts r
unfolding read.operand
unsigned_sound [] y r e = cc
unsigned_sound (t ∷ ts) y r e = operand_none t.kind t.span ts y r e

signed_sound : (s : Sign) (at : Span) (ts : Tokens) (y : Constant) (r : Tokens) → read.operand (Some (s, at)) ts ≡ Ok
    (y, r) → IsConstant y (token (sign_kind s) at ∷ ts) r
unfolding read.operand
signed_sound s at [] y r e = cc
signed_sound s at (t ∷ ts) y r e = operand_some s at t.kind t.span ts y r e

constant_sound : (ts : Tokens) (y : Constant) (r : Tokens) → read.constant ts ≡ Ok (y, r) → IsConstant y ts r
unfolding read.constant
constant_sound ts y r e =
    elim (accept_sound k.Text ts _ y r e) [
      | inl w ↦ subst (λ z. IsConstant y z r) (sym w.2) (at_last IsConstant _ _ y w.1 r w.3 text)
      | inr w ↦ (elim (operator_sound sign_of sign_kind sign_back sign_forth ts _ y r w.1) [
        | inl v ↦ subst (λ z. IsConstant y z r) (sym v.3) (signed_sound v.0 v.1 v.2 y r v.4)
        | inr v ↦ unsigned_sound ts y r v
      ])
    ]

abbrev pub Anything : Tokens → Type 0
Anything ts = Unit {0}

constant_complete : (y : Constant) (ts r : Tokens) → IsConstant y ts r → Anything r → read.constant ts ≡ Ok (y, r)
unfolding read.constant read.operand accept eat_operator same
constant_complete y ts r number o = refl
constant_complete y ts r (signed_number sign.Plus) o = refl
constant_complete y ts r (signed_number sign.Minus) o = refl
constant_complete y ts r name o = refl
constant_complete y ts r (signed_name sign.Plus) o = refl
constant_complete y ts r (signed_name sign.Minus) o = refl
constant_complete y ts r text o = refl

pub constant_begins : (y : Constant) (ts r : Tokens) → IsConstant y ts r → sees k.End ts ≡ false
unfolding same
constant_begins y ts r number = refl
constant_begins y ts r (signed_number sign.Plus) = refl
constant_begins y ts r (signed_number sign.Minus) = refl
constant_begins y ts r name = refl
constant_begins y ts r (signed_name sign.Plus) = refl
constant_begins y ts r (signed_name sign.Minus) = refl
constant_begins y ts r text = refl

constant_shrinks : (y : Constant) (ts r : Tokens) → IsConstant y ts r → length r < length ts
constant_shrinks y ts r number = omega arith
constant_shrinks y ts r (signed_number s) = omega arith
constant_shrinks y ts r name = omega arith
constant_shrinks y ts r (signed_name s) = omega arith
constant_shrinks y ts r text = omega arith

pub constant_exact : Exact Anything IsConstant read.constant
constant_exact = record {
  sound = constant_sound;
  complete = constant_complete;
  shrinks = λ y ts r d. omega (arith, constant_shrinks y ts r d);
}

abbrev pub NoComma : Tokens → Type 0
NoComma r = sees k.Comma r ≡ false

pub constants_exact : Exact NoComma (Separated k.Comma IsConstant) (separated k.Comma read.constant)
constants_exact = separated_exact Anything NoComma k.Comma IsConstant read.constant constant_exact (λ at m. tt)
    (λ r o. tt) (λ r o. o)

pub constants_begin : (xs : List Constant) (ts r : Tokens) → Separated k.Comma IsConstant xs ts r
    → sees k.End ts ≡ false
constants_begin xs ts r (one {x = x} d) = constant_begins x ts r d
constants_begin xs ts r (several {x = x} d ds) = constant_begins x ts _ d
