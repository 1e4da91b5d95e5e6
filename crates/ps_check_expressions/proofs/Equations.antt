-- The equations of the judgement, one for each construct.
use Rattle.std.proofs.Common.{◌≡◌, ℕ, List, [], ◌∷◌, map, refl, sym, ap, ◌∙◌}
use Rattle.ps_text.specs.declared.Span.{Span}
use Rattle.ps_syntax.specs.declared.expression.Relational.{Relational}
use Rattle.ps_syntax.specs.First as first
use Rattle.ps_syntax.specs.declared.expression.Expr.{Expr, roll-Expr, out-Expr, roll-out-Expr}
use Rattle.ps_syntax.specs.declared.expression.Factor.{Factor, roll-Factor, out-Factor, roll-out-Factor}
use Rattle.ps_syntax.specs.declared.expression.Member.{Member}
use Rattle.ps_syntax.specs.declared.expression.AddedTerm.{AddedTerm, out-AddedTerm}
use Rattle.ps_syntax.specs.declared.expression.MultipliedFactor.{MultipliedFactor}
use Rattle.ps_syntax.specs.declared.expression.Simple.{Simple, out-Simple}
use Rattle.ps_syntax.specs.declared.expression.Term.{Term, out-Term}
use Rattle.ps_syntax.specs.declared.expression.Variable as v
use Rattle.ps_syntax.specs.declared.expression.Expr.TheOpen.{Expr-F, Factor-F, Member-F, Selector-F}
use Rattle.ps_syntax.specs.declared.expression.Expr.TheVariants as e
use Rattle.ps_syntax.specs.declared.expression.Factor.TheVariants as f
use Rattle.ps_syntax.specs.declared.expression.Member.TheVariants as m
use Rattle.ps_syntax.specs.declared.expression.Selector.TheVariants as s
use Rattle.ps_tree.specs.Types.{NilType}
use Rattle.ps_tree.specs.Tree as Tree
use Rattle.ps_scan.specs.Values.{characters}
use Rattle.ps_check_judgement.specs.Changing.{◌>>=◌, same, still, through}
use Rattle.ps_check_names.specs.Spelling.{bytes_at, line_in, spelled}
use Rattle.ps_check_names.specs.Regions.{Context, Region}
use Rattle.ps_check_expressions.specs.Values.{Value, SimpleValue, Variable, plain}
use Rattle.ps_check_names.specs.Constants.{integer, OrdinalConstant, number_at, text_constant}
use Rattle.ps_check_expressions.specs.Operators.{added, multiplied}
use Rattle.ps_check_expressions.specs.Places.{component, target}
use Rattle.ps_syntax.proofs.Nodes.{added_opened, expr_made, factor_made, member_made, multiplied_made, selector_made}
use Rattle.ps_syntax.proofs.Nodes.{simple_opened, term_opened, variable_made}
use Rattle.ps_check_expressions.proofs.Views.{views}
use Rattle.ps_check_expressions.specs.Expressions.{Step, single, several_seen, constant_value, set_value, call_value}
use Rattle.ps_check_expressions.specs.Expressions.{negation, comparison, operands, indexed, variable_seen, term_seen}
use Rattle.ps_check_expressions.specs.Expressions.{simple_seen, expr_step, factor_step, member_step, selector_step}
use Rattle.ps_check_expressions.specs.Expressions.{added_step, multiplied_step, simple_step, term_step, variable_step}
use Rattle.ps_check_expressions.specs.Expressions.{operand, factor_operand, member_at, select, add_term}
use Rattle.ps_check_expressions.specs.Expressions.{multiply_factor, simple_operand, term_operand, variable_operand}

module _ (c : Context) (Γ : List Region) where
  pub operand_simple : (x : Simple) → operand c Γ (e.Simple x) ≡ simple_operand c Γ x
  unfolding operand factor_operand member_at select add_term multiply_factor simple_operand term_operand
      variable_operand expr_step
  operand_simple x = ap (operand c Γ) (sym (e.rolls-Simple x)) ∙ expr_made (views c Γ) (Expr-F.Simple x)

  pub operand_compare : (x : Simple) (r : Relational) (at : Span) (y : Simple)
      → operand c Γ (e.Compare x r at y) ≡ plain
      (simple_operand c Γ x).first (comparison c Γ (simple_operand c Γ x) r (simple_operand c Γ y))
  unfolding operand factor_operand member_at select add_term multiply_factor simple_operand term_operand
      variable_operand expr_step
  operand_compare x r at y = ap (operand c Γ) (sym (e.rolls-Compare x r at y))
      ∙ expr_made (views c Γ) (Expr-F.Compare x r at y)

  pub factor_variable : (x : v.Variable) → factor_operand c Γ (f.Variable x) ≡ variable_operand c Γ x
  unfolding operand factor_operand member_at select add_term multiply_factor simple_operand term_operand
      variable_operand factor_step
  factor_variable x = ap (factor_operand c Γ) (sym (f.rolls-Variable x)) ∙ factor_made (views c Γ) (Factor-F.Variable x)

  pub factor_call : (at : Span) (xs : List Expr) → factor_operand c Γ (f.Call at xs) ≡ plain at.from
      (call_value c Γ at (map (operand c Γ) xs))
  unfolding operand factor_operand member_at select add_term multiply_factor simple_operand term_operand
      variable_operand factor_step
  factor_call at xs = ap (factor_operand c Γ) (sym (f.rolls-Call at xs)) ∙ factor_made (views c Γ) (Factor-F.Call at xs)

  pub factor_number : (at : Span) → factor_operand c Γ (f.Number at) ≡ plain at.from
      (still (constant_value at.from (OrdinalConstant integer (number_at c.text at))))
  unfolding operand factor_operand member_at select add_term multiply_factor simple_operand term_operand
      variable_operand factor_step
  factor_number at = ap (factor_operand c Γ) (sym (f.rolls-Number at)) ∙ factor_made (views c Γ) (Factor-F.Number at)

  pub factor_text : (at : Span) → factor_operand c Γ (f.Text at) ≡ plain at.from
      (still (constant_value at.from (text_constant (characters (bytes_at c.text at)))))
  unfolding operand factor_operand member_at select add_term multiply_factor simple_operand term_operand
      variable_operand factor_step
  factor_text at = ap (factor_operand c Γ) (sym (f.rolls-Text at)) ∙ factor_made (views c Γ) (Factor-F.Text at)

  pub factor_nil : (at : Span) → factor_operand c Γ (f.Nil at) ≡ plain at.from (same (SimpleValue Tree.Nil NilType))
  unfolding operand factor_operand member_at select add_term multiply_factor simple_operand term_operand
      variable_operand factor_step
  factor_nil at = ap (factor_operand c Γ) (sym (f.rolls-Nil at)) ∙ factor_made (views c Γ) (Factor-F.Nil at)

  pub factor_set : (at : Span) (xs : List Member) → factor_operand c Γ (f.Set at xs) ≡ plain at.from
      (set_value (map (member_at c Γ) xs))
  unfolding operand factor_operand member_at select add_term multiply_factor simple_operand term_operand
      variable_operand factor_step
  factor_set at xs = ap (factor_operand c Γ) (sym (f.rolls-Set at xs)) ∙ factor_made (views c Γ) (Factor-F.Set at xs)

  pub factor_group : (at : Span) (n : ℕ) (x : Expr) → factor_operand c Γ (f.Group at n x) ≡ plain at.from
      (operand c Γ x).value
  unfolding operand factor_operand member_at select add_term multiply_factor simple_operand term_operand
      variable_operand factor_step
  factor_group at n x = ap (factor_operand c Γ) (sym (f.rolls-Group at n x))
      ∙ factor_made (views c Γ) (Factor-F.Group at n x)

  pub factor_not : (at : Span) (x : Factor) → factor_operand c Γ (f.Not at x) ≡ plain at.from
      (negation (factor_operand c Γ x))
  unfolding operand factor_operand member_at select add_term multiply_factor simple_operand term_operand
      variable_operand factor_step
  factor_not at x = ap (factor_operand c Γ) (sym (f.rolls-Not at x)) ∙ factor_made (views c Γ) (Factor-F.Not at x)

  pub member_single : (x : Expr) → member_at c Γ (m.One x) ≡ record {
    first = (operand c Γ x).first;
    member = (operand c Γ x).value >>= (λ v. still
        (single (operand c Γ x).first v (line_in c.text (operand c Γ x).first)));
  }
  unfolding operand factor_operand member_at select add_term multiply_factor simple_operand term_operand
      variable_operand member_step
  member_single x = ap (member_at c Γ) (sym (m.rolls-One x)) ∙ member_made (views c Γ) (Member-F.One x)

  pub member_several : (x : Expr) (y : Expr) → member_at c Γ (m.Range x y) ≡ record {
    first = (operand c Γ x).first;
    member = several_seen c Γ (operand c Γ x) (operand c Γ y);
  }
  unfolding operand factor_operand member_at select add_term multiply_factor simple_operand term_operand
      variable_operand member_step
  member_several x y = ap (member_at c Γ) (sym (m.rolls-Range x y)) ∙ member_made (views c Γ) (Member-F.Range x y)

  pub select_index : (xs : List Expr) → select c Γ (s.Index xs)
      ≡ (λ first v. through (indexed c Γ first) v (map (operand c Γ) xs))
  unfolding operand factor_operand member_at select add_term multiply_factor simple_operand term_operand
      variable_operand selector_step
  select_index xs = ap (select c Γ) (sym (s.rolls-Index xs)) ∙ selector_made (views c Γ) (Selector-F.Index xs)

  pub select_field : (at : Span) → select c Γ (s.Field at)
      ≡ (λ first v. still (component first at.from v.place v.type (spelled c.text at)))
  unfolding operand factor_operand member_at select add_term multiply_factor simple_operand term_operand
      variable_operand selector_step
  select_field at = ap (select c Γ) (sym (s.rolls-Field at)) ∙ selector_made (views c Γ) (Selector-F.Field at)

  pub select_content : (at : Span) → select c Γ (s.Content at)
      ≡ (λ first v. still (target first c.domains v.place v.type (line_in c.text at.from)))
  unfolding operand factor_operand member_at select add_term multiply_factor simple_operand term_operand
      variable_operand selector_step
  select_content at = ap (select c Γ) (sym (s.rolls-Content at)) ∙ selector_made (views c Γ) (Selector-F.Content at)

  pub simple_is : (x : Simple) → simple_operand c Γ x ≡ simple_seen c Γ (out-Simple x).sign
      (term_operand c Γ (out-Simple x).first) (map (add_term c Γ) (out-Simple x).more)
  unfolding operand factor_operand member_at select add_term multiply_factor simple_operand term_operand
      variable_operand simple_step
  simple_is x = simple_opened (views c Γ) x

  pub term_is : (x : Term) → term_operand c Γ x ≡ term_seen c Γ (factor_operand c Γ (out-Term x).first)
      (map (multiply_factor c Γ) (out-Term x).more)
  unfolding operand factor_operand member_at select add_term multiply_factor simple_operand term_operand
      variable_operand term_step
  term_is x = term_opened (views c Γ) x

  pub add_term_is : (x : AddedTerm) (first : ℕ) (v : Value) → add_term c Γ x first v
      ≡ ((term_operand c Γ (out-AddedTerm x).term).value
      >>= (λ w. still (added (operands first (term_operand c Γ (out-AddedTerm x).term).first) (out-AddedTerm x).operator
      (line_in c.text (out-AddedTerm x).at.from) v w)))
  unfolding operand factor_operand member_at select add_term multiply_factor simple_operand term_operand
      variable_operand added_step
  add_term_is x first v = ap (λ g. g first v)
      (added_opened (views c Γ) x)

  pub multiply_factor_is : (x : MultipliedFactor) (first : ℕ) (v : Value) → multiply_factor c Γ x first v
      ≡ ((factor_operand c Γ x.factor).value >>= (λ w. still
      (multiplied (operands first (factor_operand c Γ x.factor).first) x.operator (line_in c.text x.at.from) v w)))
  unfolding operand factor_operand member_at select add_term multiply_factor simple_operand term_operand
      variable_operand multiplied_step
  multiply_factor_is x first v = ap (λ g. g first v)
      (multiplied_made (views c Γ) (record {
        operator = x.operator;
        at = x.at;
        factor = x.factor;
      }))

  pub variable_is : (x : v.Variable) → variable_operand c Γ x ≡ variable_seen c Γ x.name (map (select c Γ) x.selectors)
  unfolding operand factor_operand member_at select add_term multiply_factor simple_operand term_operand
      variable_operand variable_step
  variable_is x = variable_made (views c Γ) (record {
    name = x.name;
    selectors = x.selectors;
  })

  -- ---- where they begin

  variable_seen_first : (name : Span) (fs : List (Step Variable)) → (variable_seen c Γ name fs).first ≡ name.from
  unfolding variable_seen
  variable_seen_first name [] = refl
  variable_seen_first name (f ∷ fs) = refl

  factor_layer : (l : first.FactorLayer) → (factor_operand c Γ (roll-Factor l)).first ≡ first.factor_layer_first l
  unfolding operand factor_operand member_at select add_term multiply_factor simple_operand term_operand
      variable_operand factor_step
  factor_layer (Factor-F.Variable x) = ap (λ o. o.first)
      (factor_made (views c Γ) (Factor-F.Variable x) ∙ variable_is x)
      ∙ variable_seen_first x.name (map (select c Γ) x.selectors)
  factor_layer (Factor-F.Call at xs) = ap (λ o. o.first)
      (factor_made (views c Γ) (Factor-F.Call at xs))
  factor_layer (Factor-F.Number at) = ap (λ o. o.first)
      (factor_made (views c Γ) (Factor-F.Number at))
  factor_layer (Factor-F.Text at) = ap (λ o. o.first)
      (factor_made (views c Γ) (Factor-F.Text at))
  factor_layer (Factor-F.Nil at) = ap (λ o. o.first)
      (factor_made (views c Γ) (Factor-F.Nil at))
  factor_layer (Factor-F.Set at xs) = ap (λ o. o.first)
      (factor_made (views c Γ) (Factor-F.Set at xs))
  factor_layer (Factor-F.Group at n x) = ap (λ o. o.first)
      (factor_made (views c Γ) (Factor-F.Group at n x))
  factor_layer (Factor-F.Not at x) = ap (λ o. o.first)
      (factor_made (views c Γ) (Factor-F.Not at x))

  pub factor_first : (x : Factor) → (factor_operand c Γ x).first ≡ first.first_of_factor x
  factor_first x = ap (λ y. (factor_operand c Γ y).first) (sym (roll-out-Factor x)) ∙ factor_layer (out-Factor x)

  pub term_first : (x : Term) → (term_operand c Γ x).first ≡ first.first_of_term x
  unfolding term_seen
  term_first x = ap (λ o. o.first) (term_is x) ∙ factor_first (out-Term x).first

  pub simple_first : (x : Simple) → (simple_operand c Γ x).first ≡ first.first_of_simple x
  unfolding simple_seen
  simple_first x = ap (λ o. o.first) (simple_is x) ∙ ap (first.sign_or (out-Simple x).sign)
      (term_first (out-Simple x).first)

  expr_layer : (l : first.ExprLayer) → (operand c Γ (roll-Expr l)).first ≡ first.expr_layer_first l
  unfolding operand factor_operand member_at select add_term multiply_factor simple_operand term_operand
      variable_operand expr_step
  expr_layer (Expr-F.Simple x) = ap (λ o. o.first)
      (expr_made (views c Γ) (Expr-F.Simple x)) ∙ simple_first x
  expr_layer (Expr-F.Compare x r at y) = ap (λ o. o.first)
      (expr_made (views c Γ) (Expr-F.Compare x r at y)) ∙ simple_first x

  pub operand_first : (x : Expr) → (operand c Γ x).first ≡ first.first_of_expr x
  operand_first x = ap (λ y. (operand c Γ y).first) (sym (roll-out-Expr x)) ∙ expr_layer (out-Expr x)
