-- What is known of an expression in parentheses, whose number the tree has.
use Rattle.std.proofs.Common.{◌≡◌, ℕ, List, [], Option, Some, None, refl, sym, ap, ◌∙◌}
use Rattle.ps_text.specs.declared.Span.{Span}
use Rattle.ps_syntax.specs.declared.expression.Expr.{Expr}
use Rattle.ps_syntax.specs.declared.expression.Simple.{out-roll-Simple}
use Rattle.ps_syntax.specs.declared.expression.Term.{roll-Term, out-Term, out-roll-Term}
use Rattle.ps_syntax.specs.declared.expression.Factor.{Factor}
use Rattle.ps_syntax.specs.declared.expression.Factor.TheVariants as f
use Rattle.ps_parse_grammar.specs.Groups.{inside, stripped, grouped}
use Rattle.ps_parse_grammar.proofs.Groups.{only, inside_is, stripped_none, stripped_group, grouped_stripped}
use Rattle.ps_check_names.specs.Regions.{Context, Region}
use Rattle.ps_check_expressions.specs.Values.{plain}
use Rattle.ps_check_expressions.specs.Expressions.{operand, factor_operand}
use Rattle.ps_check_expressions.proofs.Equations.{operand_simple, factor_group}
use Rattle.ps_check_expressions.proofs.Judgement.{value_of_one_factor}

module _ (c : Context) (Γ : List Region) where
  only_value : (x : Factor) → (operand c Γ (only x)).value ≡ (factor_operand c Γ x).value
  only_value x =
      let term = out-roll-Term (record { first = x; more = [] }) in
      let simple = out-roll-Simple (record {
        sign = None;
        first = roll-Term (record {
          first = x;
          more = [];
        });
        more = [];
      }) in
      ap (λ o. o.value) (operand_simple c Γ _)
      ∙ value_of_one_factor c Γ _ (ap (λ z. z.sign) simple) (ap (λ z. z.more) simple)
      (ap (λ z. (out-Term z.first).more) simple ∙ ap (λ z. z.more) term)
      ∙ ap (λ z. (factor_operand c Γ (out-Term z.first).first).value) simple
      ∙ ap (λ z. (factor_operand c Γ z.first).value) term

  stripped_value : (x : Expr) (p : Option (ℕ × Expr)) → inside x ≡ p → (operand c Γ (stripped x).1).value
      ≡ (operand c Γ x).value
  stripped_value x None h = ap (λ (q : ℕ × Expr). (operand c Γ q.1).value) (stripped_none x h)
  stripped_value x (Some p) h =
      let is = inside_is x p.0 p.1 h in
      ap (λ y. (operand c Γ (stripped y).1).value) is.1
      ∙ ap (λ (q : ℕ × Expr). (operand c Γ q.1).value) (stripped_group is.0 p.0 p.1)
      ∙ sym (ap (λ y. (operand c Γ y).value) is.1 ∙ only_value (f.Group is.0 p.0 p.1) ∙ ap (λ o. o.value)
      (factor_group c Γ is.0 p.0 p.1))

  -- parentheses keep the value, and are no name and no variable
  pub grouped_operand : (at : Span) (x : Expr) → factor_operand c Γ (grouped at x) ≡ plain at.from (operand c Γ x).value
  grouped_operand at x = ap (factor_operand c Γ) (grouped_stripped at x) ∙ factor_group c Γ at (stripped x).0
      (stripped x).1 ∙ ap (plain at.from) (stripped_value x (inside x) refl)
