-- Where what is not a variable alone begins.
use Rattle.std.proofs.Common.{◌≡◌, List, [], Some, sym, ap, ◌∙◌}
use Rattle.ps_text.specs.declared.Span.{Span}
use Rattle.ps_syntax.specs.First as first
use Rattle.ps_syntax.specs.declared.expression.Sign.{Sign}
use Rattle.ps_syntax.specs.declared.expression.Relational.{Relational}
use Rattle.ps_syntax.specs.declared.expression.Expr.{Expr}
use Rattle.ps_syntax.specs.declared.expression.Simple.{Simple, out-Simple}
use Rattle.ps_syntax.specs.declared.expression.Expr.TheVariants as e
use Rattle.ps_check_names.specs.Regions.{Context, Region}
use Rattle.ps_check_expressions.specs.Expressions.{operand}
use Rattle.ps_check_expressions.proofs.Equations.{operand_simple, operand_compare, operand_first, simple_first}
use Rattle.ps_check_expressions.proofs.Judgement.{none_at, simple_no_variable, signed_no_variable}

module _ (c : Context) (Γ : List Region) where
  starts : (z : Expr) (s : Simple) → z ≡ e.Simple s → first.first_of_simple s ≡ first.first_of_expr z
  starts z s is = sym (simple_first c Γ s) ∙ ap (λ o. o.first) (sym (operand_simple c Γ s))
      ∙ ap (λ y. (operand c Γ y).first) (sym is) ∙ operand_first c Γ z

  pub comparison_is_none : (z : Expr) (x : Simple) (r : Relational) (at : Span) (y : Simple) → z ≡ e.Compare x r at y
      → (operand c Γ z).variable ≡ none_at c Γ (first.first_of_expr z)
  comparison_is_none z x r at y is =
      ap (λ w. (operand c Γ w).variable) is
      ∙ ap (λ o. o.variable) (operand_compare c Γ x r at y)
      ∙ ap (λ o. none_at c Γ o.first) (sym (operand_compare c Γ x r at y))
      ∙ ap (λ w. none_at c Γ (operand c Γ w).first) (sym is)
      ∙ ap (none_at c Γ) (operand_first c Γ z)

  pub signed_is_none : (z : Expr) (x : Simple) (s : Sign × Span) → z ≡ e.Simple x → (out-Simple x).sign ≡ Some s
      → (operand c Γ z).variable ≡ none_at c Γ (first.first_of_expr z)
  signed_is_none z x s is signed =
      ap (λ w. (operand c Γ w).variable) is ∙ ap (λ o. o.variable) (operand_simple c Γ x)
      ∙ signed_no_variable c Γ x s signed ∙ ap (none_at c Γ) (starts z x is)

  pub sum_is_none : (z : Expr) (x : Simple) → z ≡ e.Simple x → ((out-Simple x).more ≡ [] → ⊥) → (operand c Γ z).variable
      ≡ none_at c Γ (first.first_of_expr z)
  sum_is_none z x is more =
      ap (λ w. (operand c Γ w).variable) is ∙ ap (λ o. o.variable) (operand_simple c Γ x)
      ∙ simple_no_variable c Γ x more ∙ ap (none_at c Γ) (starts z x is)
