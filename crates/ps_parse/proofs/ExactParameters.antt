-- Actual parameters and lists of variables are read exactly.
use Rattle.std.proofs.Common.{◌≡◌, ◌≤◌, false, ◌∷◌, length, Ok, inl, inr, refl, sym, ◌∙◌, subst, arith}
use Rattle.ps_text.specs.declared.Span.{Span}
use Rattle.ps_scan.specs.declared.token.Kind.TheVariants as k
use Rattle.ps_scan.specs.Kinds.{same}
use Rattle.ps_syntax.specs.declared.expression.Expr.{Expr}
use Rattle.ps_syntax.specs.declared.expression.Variable.{Variable}
use Rattle.ps_syntax.specs.declared.statement.Parameter.{Parameter}
use Rattle.ps_parse_grammar.specs.Symbols.{Tokens, Symbol, token, Separated}
use Rattle.ps_parse_grammar.specs.Expressions.{IsVariable, selected}
use Rattle.ps_parse_grammar.specs.Statements.{IsParameter, unformatted, formatted}
use Rattle.ps_parse.specs.Steps.{Parser, sees, expect, separated, many}
use Rattle.ps_parse.specs.ReadExpressions.{selector, variable}
use Rattle.ps_parse.specs.ReadStatements as read
use Rattle.ps_parse.proofs.Exact.{Exact, both_steps, in_steps, at_last, expect_sound, expect_complete, eat_found}
use Rattle.ps_parse.proofs.Exact.{eat_missed, eat_sound}
use Rattle.ps_parse.proofs.Lists.{separated_exact}
use Rattle.ps_parse.proofs.Ends.{Ends, loose}
use Rattle.ps_parse.proofs.ExactFactors.{selectors_exact}
use Rattle.ps_parse.proofs.ExactConstants.{NoComma}

abbrev EndsParameter : Tokens → Type 0
EndsParameter r = Ends 1 r × (sees k.Colon r ≡ false)

abbrev pub EndsParameters : Tokens → Type 0
EndsParameters r = EndsParameter r × NoComma r

comma_between : (at : Span) (m : Tokens) → EndsParameter (token k.Comma at ∷ m)
unfolding same
comma_between at m = (loose, refl)

pub at_paren : (at : Span) (m : Tokens) → EndsParameters (token k.RightParen at ∷ m)
unfolding same
at_paren at m = ((loose, refl), refl)

abbrev pub EndsVariables : Tokens → Type 0
EndsVariables r = Ends 4 r × NoComma r

pub at_do : (at : Span) (m : Tokens) → EndsVariables (token k.Do at ∷ m)
unfolding same
at_do at m = (omega arith, refl)

module _ (E : Symbol Expr) (p : Parser Expr) (h : Exact (Ends 1) E p) where
  parameter_sound : (ts : Tokens) (y : Parameter) (r : Tokens) → read.parameter p ts ≡ Ok (y, r) → IsParameter E y ts r
  unfolding read.parameter
  parameter_sound ts y r e =
      let b = both_steps (p ts) _ y r e in
      elim (eat_sound k.Colon b.1 _ y r b.3) [
        | inl w ↦ (let c = both_steps (p w.1) _ y r w.3 in
            at_last (IsParameter E) ts _ y c.1 r c.3
            (formatted (subst (λ q. E b.0 ts q) w.2 (h.sound ts b.0 b.1 b.2)) (h.sound w.1 c.0 c.1 c.2)))
        | inr w ↦ at_last (IsParameter E) ts _ y b.1 r w (unformatted (h.sound ts b.0 b.1 b.2))
      ]

  parameter_complete : (y : Parameter) (ts r : Tokens) → IsParameter E y ts r → EndsParameter r → read.parameter p ts
      ≡ Ok (y, r)
  unfolding read.parameter
  parameter_complete y ts r (unformatted {x = x} d) o = rw (h.complete x ts r d o.0) (eat_missed k.Colon r _ o.1)
  parameter_complete y ts r (formatted {x = x} {y = z} {m = m} {at = at} d d') o = rw
      (h.complete x ts (token k.Colon at ∷ m) d loose) (eat_found k.Colon at m _ ∙ rw (h.complete z m r d' o.0) refl)

  parameter_shrinks : (y : Parameter) (ts r : Tokens) → IsParameter E y ts r → length r ≤ length ts
  parameter_shrinks y ts r (unformatted {x = x} d) = h.shrinks x ts r d
  parameter_shrinks y ts r (formatted {x = x} {y = z} {m = m} {at = at} d d') = omega
      (arith, h.shrinks x ts (token k.Colon at ∷ m) d, h.shrinks z m r d')

  pub parameters_exact : Exact EndsParameters (Separated k.Comma (IsParameter E)) (separated k.Comma (read.parameter p))
  parameters_exact = separated_exact EndsParameter EndsParameters k.Comma (IsParameter E) (read.parameter p) (record {
    sound = parameter_sound;
    complete = parameter_complete;
    shrinks = parameter_shrinks;
  }) comma_between (λ r o. o.0) (λ r o. o.1)

  -- ---- variables
  variable_sound : (ts : Tokens) (y : Variable) (r : Tokens) → read.named_variable p ts ≡ Ok (y, r)
      → IsVariable E y ts r
  unfolding read.named_variable variable
  variable_sound ts y r e =
      in_steps (expect k.Name ts) _ y r e (λ b0 b1 b2 b3.
      in_steps (many (selector p) b1) _ y r b3 (λ c0 c1 c2 c3.
      subst (λ z. IsVariable E y z r) (sym (expect_sound k.Name ts b0 b1 b2))
      (at_last (IsVariable E) _ _ y c1 r c3 (selected ((selectors_exact E p h).sound b1 c0 c1 c2)))))

  variable_complete : (y : Variable) (ts r : Tokens) → IsVariable E y ts r → Ends 4 r → read.named_variable p ts ≡ Ok
      (y, r)
  unfolding read.named_variable variable
  variable_complete y ts r (selected {at = at} {xs = xs} {ts = m} d) o = rw
      (expect_complete k.Name at m, (selectors_exact E p h).complete xs m r d o) refl

  pub variable_shrinks : (y : Variable) (ts r : Tokens) → IsVariable E y ts r → length r ≤ length ts
  variable_shrinks y ts r (selected {xs = xs} {ts = m} d) = omega (arith, (selectors_exact E p h).shrinks xs m r d)

  comma_after_variable : (at : Span) (m : Tokens) → Ends 4 (token k.Comma at ∷ m)
  comma_after_variable at m = omega arith

  pub variables_exact : Exact EndsVariables (Separated k.Comma (IsVariable E))
      (separated k.Comma (read.named_variable p))
  variables_exact = separated_exact (Ends 4) EndsVariables k.Comma (IsVariable E) (read.named_variable p) (record {
    sound = variable_sound;
    complete = variable_complete;
    shrinks = variable_shrinks;
  }) comma_after_variable (λ r o. o.0) (λ r o. o.1)
