-- How far an expression is read once its sign and its first factor are.
use Rattle.std.proofs.Common.{◌≡◌, ℕ, suc, false, [], ◌∷◌, Option, Some, None, Ok, Err, refl}
use Rattle.std.specs.Option.{is_some}
use Rattle.std.proofs.lemmas.Bool.{or_parts}
use Rattle.ps_text.specs.declared.Span.{Span}
use Rattle.ps_syntax.specs.declared.expression.Sign.{Sign}
use Rattle.ps_syntax.specs.declared.expression.Expr.TheVariants as e
use Rattle.ps_syntax.specs.declared.expression.Simple.{roll-Simple}
use Rattle.ps_syntax.specs.declared.expression.Term.{roll-Term}
use Rattle.ps_syntax.specs.declared.expression.Factor.{Factor}
use Rattle.ps_parse_grammar.specs.Symbols.{Tokens}
use Rattle.ps_parse.specs.Steps.{Parser, many, many_from}
use Rattle.ps_parse.specs.ReadExpressions.{sees_operator, multiplying_of, adding_of, relation_of, eat_operator}
use Rattle.ps_parse.specs.ReadExpressions.{sign_of, multiplied, added, term, simple, compared, read_factor, read_expr}
use Rattle.ps_parse.specs.ReadExpressions.{expr_after}

none_of : {A : Type 0} (o : Option A) → is_some o ≡ false → o ≡ None
none_of None e = refl
none_of (Some x) e = cc

-- with no operator after it
pub lone_factor : (factor : Parser Factor) (sign : Option (Sign × Span)) (x : Factor) (ts : Tokens) → sees_operator ts
    ≡ false → expr_after factor sign x ts ≡ Ok (
      e.Simple (roll-Simple (record {
        sign = sign;
        first = roll-Term (record {
          first = x;
          more = [];
        });
        more = [];
      })),
      ts,
    )
unfolding many many_from multiplied added eat_operator
lone_factor factor sign x [] is_last = refl
lone_factor factor sign x (t ∷ ts) is_last =
    let first = or_parts (is_some (multiplying_of t.kind)) _ is_last in
    let second = or_parts (is_some (adding_of t.kind)) (is_some (relation_of t.kind)) first.1 in
    rw (
      none_of (multiplying_of t.kind) first.0,
      none_of (adding_of t.kind) second.0,
      none_of
          (relation_of t.kind) second.1,
    ) refl

pub first_read : (n : ℕ) (ts l m : Tokens) (sign : Option (Sign × Span)) (x : Factor) → eat_operator sign_of ts ≡ Ok
    (sign, l) → read_factor n l ≡ Ok (x, m) → read_expr (suc n) ts ≡ expr_after (read_factor n) sign x m
unfolding read_expr compared simple term
first_read n ts l m sign x is_sign is_first = rw (is_sign, is_first) refl

pub first_refused : (n : ℕ) (ts l : Tokens) (sign : Option (Sign × Span)) (e : ℕ) → eat_operator sign_of ts ≡ Ok
    (sign, l) → read_factor n l ≡ Err e → read_expr (suc n) ts ≡ Err e
unfolding read_expr compared simple term
first_refused n ts l sign e is_sign is_first = rw (is_sign, is_first) refl
