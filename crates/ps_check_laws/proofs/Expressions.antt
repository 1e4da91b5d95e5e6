-- Each name used in an expression that has a value is found there.
use Rattle.std.proofs.Common.{◌≡◌, List, [], ◌∷◌, ◌++◌, map, None, sym, ap, ◌∙◌, subst}
use Rattle.ps_syntax.specs.declared.expression.Expr.{Expr, roll-Expr}
use Rattle.ps_syntax.specs.declared.expression.Factor.{roll-Factor}
use Rattle.ps_syntax.specs.declared.expression.Member.{roll-Member}
use Rattle.ps_syntax.specs.declared.expression.Selector.{roll-Selector}
use Rattle.ps_syntax.specs.declared.expression.AddedTerm.{roll-AddedTerm, out-roll-AddedTerm}
use Rattle.ps_syntax.specs.declared.expression.MultipliedFactor.{roll-MultipliedFactor}
use Rattle.ps_syntax.specs.declared.expression.Simple.{roll-Simple, out-roll-Simple}
use Rattle.ps_syntax.specs.declared.expression.Term.{roll-Term, out-roll-Term}
use Rattle.ps_syntax.specs.declared.expression.Variable as syntax
use Rattle.ps_syntax.specs.declared.expression.Variable.{roll-Variable}
use Rattle.ps_syntax.specs.declared.expression.Expr.TheOpen.{Expr-F, Factor-F, Member-F, Selector-F}
use Rattle.ps_syntax.specs.declared.expression.Expr.TheVariants as e
use Rattle.ps_syntax.specs.declared.expression.Factor.TheVariants as f
use Rattle.ps_syntax.specs.declared.expression.Member.TheVariants as m
use Rattle.ps_syntax.specs.declared.expression.Selector.TheVariants as s
use Rattle.ps_check_judgement.specs.declared.change.Change.{Change}
use Rattle.ps_check_judgement.specs.Judged.{Yes}
use Rattle.ps_check_judgement.specs.Changing.{Changing, ◌>>=◌, still, through}
use Rattle.ps_check_judgement.proofs.Binds.{then_yes}
use Rattle.ps_check_names.specs.Spelling.{line_in}
use Rattle.ps_check_names.specs.Regions.{Context, Region}
use Rattle.ps_check_declarations.specs.Points.{all}
use Rattle.ps_check_expressions.specs.Values.{Value, Variable, Operand}
use Rattle.ps_check_expressions.specs.Names.{denoted}
use Rattle.ps_check_expressions.specs.Operators.{added}
use Rattle.ps_check_expressions.specs.Expressions.{Step, SeenMember, Gathered, gather, operands, indexed, term_seen}
use Rattle.ps_check_expressions.specs.Expressions.{simple_seen, operand, factor_operand, member_at, select, add_term}
use Rattle.ps_check_expressions.specs.Expressions.{multiply_factor, simple_operand, term_operand, variable_operand}
use Rattle.ps_check_expressions.proofs.Equations.{operand_simple, operand_compare, factor_variable, factor_call}
use Rattle.ps_check_expressions.proofs.Equations.{factor_number, factor_text, factor_nil, factor_set, factor_group}
use Rattle.ps_check_expressions.proofs.Equations.{factor_not, member_single, member_several, select_index, simple_is}
use Rattle.ps_check_expressions.proofs.Equations.{term_is, add_term_is, multiply_factor_is, variable_is}
use Rattle.ps_check_laws.specs.Occurrences.{expr_uses, uses, variable_uses}
use Rattle.ps_check_laws.proofs.Lists.{then_still}
use Rattle.ps_syntax.proofs.Nodes.{ExprNode, FactorNode, MemberNode, SelectorNode, AddedNode, MultipliedNode}
use Rattle.ps_syntax.proofs.Nodes.{SimpleNode, TermNode, VariableNode}
use Rattle.ps_syntax.proofs.Nodes.{AddedLayer, ExprLayer, FactorLayer, Layers, MemberLayer, MultipliedLayer}
use Rattle.ps_syntax.proofs.Nodes.{SelectorLayer, SimpleLayer, TermLayer, VariableLayer, every_expr, every_variable}
use Rattle.ps_syntax.proofs.Nodes.{added_made, expr_made, factor_made, member_made, multiplied_made}
use Rattle.ps_syntax.proofs.Nodes.{of_walk, parts, selector_made, simple_made, term_made, trees, variable_made}
use Rattle.ps_check_laws.proofs.ExpressionUses.{added_uses, factor_uses, member_uses, multiplied_uses, selector_uses}
use Rattle.ps_check_laws.proofs.ExpressionUses.{simple_uses, term_uses}
use Rattle.ps_check_laws.proofs.ExpressionParts.{Told, called_found, found_both, found_by, of_plain}
use Rattle.ps_check_laws.proofs.ExpressionParts.{seen_simple, seen_term, seen_variable, steps_found, told, told_by}

module _ (c : Context) (Γ : List Region) where
  -- ---- each construct

  expr_layer : ExprLayer (told c Γ)
  expr_layer (Expr-F.Simple x) =
      let z : ExprNode trees = Expr-F.Simple x.0 in
      told_by c Γ (operand c Γ (roll-Expr z)) (simple_operand c Γ x.0) (expr_uses (roll-Expr z)) (simple_uses x.0)
      (ap (operand c Γ) (e.rolls-Simple x.0) ∙ operand_simple c Γ x.0) (expr_made (of_walk uses) z) x.1
  expr_layer (Expr-F.Compare x r at y) =
      let z : ExprNode trees = Expr-F.Compare x.0 r at y.0 in
      told_by c Γ (operand c Γ (roll-Expr z)) _ (expr_uses (roll-Expr z)) (simple_uses x.0 ++ simple_uses y.0)
      (ap (operand c Γ) (e.rolls-Compare x.0 r at y.0) ∙ operand_compare c Γ x.0 r at y.0) (expr_made (of_walk uses) z)
      (of_plain c Γ _ _ _ (λ cs p h. (let a = then_yes ((simple_operand c Γ x.0).value cs) _ p h in let b = then_yes
      ((simple_operand c Γ y.0).value a.0.1) _ p a.2 in found_both c Γ (simple_uses x.0) (simple_uses y.0)
      (x.1.value cs a.0 a.1) (y.1.value a.0.1 b.0 b.1))))

  factor_layer : FactorLayer (told c Γ)
  factor_layer (Factor-F.Variable x) =
      let z : FactorNode trees = Factor-F.Variable x.0 in
      told_by c Γ (factor_operand c Γ (roll-Factor z)) (variable_operand c Γ x.0) (factor_uses (roll-Factor z))
      (variable_uses x.0) (ap (factor_operand c Γ) (f.rolls-Variable x.0) ∙ factor_variable c Γ x.0)
      (factor_made (of_walk uses) z) x.1
  factor_layer (Factor-F.Call at ys) =
      let z : FactorNode trees = Factor-F.Call at (parts ys) in
      told_by c Γ (factor_operand c Γ (roll-Factor z)) _ (factor_uses (roll-Factor z))
      (at ∷ all (map expr_uses (parts ys)))
      (ap (factor_operand c Γ) (f.rolls-Call at (parts ys)) ∙ factor_call c Γ at (parts ys))
      (factor_made (of_walk uses) z)
      (of_plain c Γ _ _ _ (λ cs p h. (let q = then_still (denoted c Γ at) cs _ p h
      in ((q.0, q.1), called_found c Γ at.from q.0 ys cs p q.2))))
  factor_layer (Factor-F.Number at) =
      let z : FactorNode trees = Factor-F.Number at in
      told_by c Γ (factor_operand c Γ (roll-Factor z)) _ (factor_uses (roll-Factor z)) []
      (ap (factor_operand c Γ) (f.rolls-Number at) ∙ factor_number c Γ at) (factor_made (of_walk uses) z)
      (of_plain c Γ _ _ _ (λ cs p h. tt))
  factor_layer (Factor-F.Text at) =
      let z : FactorNode trees = Factor-F.Text at in
      told_by c Γ (factor_operand c Γ (roll-Factor z)) _ (factor_uses (roll-Factor z)) []
      (ap (factor_operand c Γ) (f.rolls-Text at) ∙ factor_text c Γ at) (factor_made (of_walk uses) z)
      (of_plain c Γ _ _ _ (λ cs p h. tt))
  factor_layer (Factor-F.Nil at) =
      let z : FactorNode trees = Factor-F.Nil at in
      told_by c Γ (factor_operand c Γ (roll-Factor z)) _ (factor_uses (roll-Factor z)) []
      (ap (factor_operand c Γ) (f.rolls-Nil at) ∙ factor_nil c Γ at) (factor_made (of_walk uses) z)
      (of_plain c Γ _ _ _ (λ cs p h. tt))
  factor_layer (Factor-F.Set at ys) =
      let z : FactorNode trees = Factor-F.Set at (parts ys) in
      told_by c Γ (factor_operand c Γ (roll-Factor z)) _ (factor_uses (roll-Factor z))
      (all (map member_uses (parts ys)))
      (ap (factor_operand c Γ) (f.rolls-Set at (parts ys)) ∙ factor_set c Γ at (parts ys))
      (factor_made (of_walk uses) z)
      (of_plain c Γ _ _ _ (λ cs p h. (let g = then_yes (through gather ([], None)
      (map (member_at c Γ) (parts ys)) cs) _ p h
      in steps_found c Γ (λ (s : Gathered × List Change) (m : SeenMember). gather s.0 m s.1) (member_at c Γ) member_uses
      (λ y s t h. (let m = then_yes ((member_at c Γ y.0).member s.1) _ t h in y.1 s.1 m.0 m.1)) ys
      (([], None), cs) g.0 g.1)))
  factor_layer (Factor-F.Group at n x) =
      let z : FactorNode trees = Factor-F.Group at n x.0 in
      told_by c Γ (factor_operand c Γ (roll-Factor z)) _ (factor_uses (roll-Factor z)) (expr_uses x.0)
      (ap (factor_operand c Γ) (f.rolls-Group at n x.0) ∙ factor_group c Γ at n x.0) (factor_made (of_walk uses) z)
      (of_plain c Γ _ _ _ (λ cs p h. x.1.value cs p h))
  factor_layer (Factor-F.Not at x) =
      let z : FactorNode trees = Factor-F.Not at x.0 in
      told_by c Γ (factor_operand c Γ (roll-Factor z)) _ (factor_uses (roll-Factor z)) (factor_uses x.0)
      (ap (factor_operand c Γ) (f.rolls-Not at x.0) ∙ factor_not c Γ at x.0) (factor_made (of_walk uses) z)
      (of_plain c Γ _ _ _ (λ cs p h. (let a = then_yes ((factor_operand c Γ x.0).value cs) _ p h
      in x.1.value cs a.0 a.1)))

  member_layer : MemberLayer (told c Γ)
  member_layer (Member-F.One x) cs p h =
      let z : MemberNode trees = Member-F.One x.0 in
      let a = then_yes ((operand c Γ x.0).value cs) _ p
      (sym (ap (λ (s : SeenMember). s.member cs) (ap (member_at c Γ) (m.rolls-One x.0) ∙ member_single c Γ x.0))
      ∙ h) in
      found_by c Γ (member_uses (roll-Member z)) (expr_uses x.0) (member_made (of_walk uses) z) (x.1.value cs a.0 a.1)
  member_layer (Member-F.Range x y) cs p h =
      let z : MemberNode trees = Member-F.Range x.0 y.0 in
      let a = then_yes ((operand c Γ x.0).value cs) _ p
      (sym (ap (λ (s : SeenMember). s.member cs)
      (ap (member_at c Γ) (m.rolls-Range x.0 y.0) ∙ member_several c Γ x.0 y.0)) ∙ h) in
      let b = then_yes ((operand c Γ y.0).value a.0.1) _ p a.2 in
      found_by c Γ (member_uses (roll-Member z)) (expr_uses x.0 ++ expr_uses y.0) (member_made (of_walk uses) z)
      (found_both c Γ (expr_uses x.0) (expr_uses y.0) (x.1.value cs a.0 a.1) (y.1.value a.0.1 b.0 b.1))

  selector_layer : SelectorLayer (told c Γ)
  selector_layer (Selector-F.Index ys) first v cs p h =
      let z : SelectorNode trees = Selector-F.Index (parts ys) in
      let is = ap (λ (g : Step Variable). g first v cs)
      (ap (select c Γ) (s.rolls-Index (parts ys)) ∙ select_index c Γ (parts ys)) in
      found_by c Γ (selector_uses (roll-Selector z)) (all (map expr_uses (parts ys))) (selector_made (of_walk uses) z)
      (steps_found c Γ (λ (s : Variable × List Change) (x : Operand). indexed c Γ first s.0 x s.1)
      (operand c Γ) expr_uses (λ y s t e. (let a = then_yes ((operand c Γ y.0).value s.1) _ t e
      in y.1.value s.1 a.0 a.1)) ys (v, cs) p (sym is ∙ h))
  selector_layer (Selector-F.Field at) first v cs p h = found_by c Γ
      (selector_uses (roll-Selector (Selector-F.Field at))) [] (selector_made (of_walk uses) (Selector-F.Field at)) tt
  selector_layer (Selector-F.Content at) first v cs p h = found_by c Γ
      (selector_uses (roll-Selector (Selector-F.Content at))) []
      (selector_made (of_walk uses) (Selector-F.Content at)) tt

  added_layer : AddedLayer (told c Γ)
  added_layer y first v cs p h =
      let z : AddedNode trees = record {
        operator = y.operator;
        at = y.at;
        term = y.term.0;
      } in
      let is = subst (λ (q : AddedNode trees). ((term_operand c Γ q.term).value
      >>= (λ w. still (added (operands first (term_operand c Γ q.term).first) q.operator
      (line_in c.text q.at.from) v w))) cs ≡ Yes p) (out-roll-AddedTerm z)
      (sym (ap (λ (m : Changing Value). m cs) (add_term_is c Γ (roll-AddedTerm z) first v)) ∙ h) in
      let a = then_yes ((term_operand c Γ y.term.0).value cs) _ p is in
      found_by c Γ (added_uses (roll-AddedTerm z)) (term_uses y.term.0) (added_made (of_walk uses) z)
      (y.term.1.value cs a.0 a.1)

  multiplied_layer : MultipliedLayer (told c Γ)
  multiplied_layer y first v cs p h =
      let z : MultipliedNode trees = record {
        operator = y.operator;
        at = y.at;
        factor = y.factor.0;
      } in
      let a = then_yes ((factor_operand c Γ y.factor.0).value cs) _ p
      (sym (ap (λ (m : Changing Value). m cs) (multiply_factor_is c Γ (roll-MultipliedFactor z) first v)) ∙ h) in
      found_by c Γ (multiplied_uses (roll-MultipliedFactor z)) (factor_uses y.factor.0)
      (multiplied_made (of_walk uses) z)
      (y.factor.1.value cs a.0 a.1)

  simple_layer : SimpleLayer (told c Γ)
  simple_layer y =
      let z : SimpleNode trees = record {
        sign = y.sign;
        first = y.first.0;
        more = parts y.more;
      } in
      let is = simple_is c Γ (roll-Simple z) ∙ ap (λ (q : SimpleNode trees). simple_seen c Γ q.sign
      (term_operand c Γ q.first) (map (add_term c Γ) q.more)) (out-roll-Simple z) in
      told_by c Γ (simple_operand c Γ (roll-Simple z)) _ (simple_uses (roll-Simple z)) _ is
      (simple_made (of_walk uses) z)
      (seen_simple c Γ y.sign (term_operand c Γ y.first.0) (term_uses y.first.0) y.first.1 y.more)

  term_layer : TermLayer (told c Γ)
  term_layer y =
      let z : TermNode trees = record {
        first = y.first.0;
        more = parts y.more;
      } in
      let is = term_is c Γ (roll-Term z) ∙ ap (λ (q : TermNode trees). term_seen c Γ
      (factor_operand c Γ q.first) (map (multiply_factor c Γ) q.more)) (out-roll-Term z) in
      told_by c Γ (term_operand c Γ (roll-Term z)) _ (term_uses (roll-Term z)) _ is (term_made (of_walk uses) z)
      (seen_term c Γ (factor_operand c Γ y.first.0) (factor_uses y.first.0) y.first.1 y.more)

  variable_layer : VariableLayer (told c Γ)
  variable_layer y =
      let z : VariableNode trees = record {
        name = y.name;
        selectors = parts y.selectors;
      } in
      told_by c Γ (variable_operand c Γ (roll-Variable z)) _ (variable_uses (roll-Variable z)) _
      (variable_is c Γ (roll-Variable z)) (variable_made (of_walk uses) z) (seen_variable c Γ y.name y.selectors)

  layers : Layers (told c Γ)
  layers = record {
    expr = expr_layer;
    factor = factor_layer;
    member = member_layer;
    selector = selector_layer;
    added = added_layer;
    multiplied = multiplied_layer;
    simple = simple_layer;
    term = term_layer;
    variable = variable_layer;
  }

  pub exprs_told : (x : Expr) → Told c Γ (operand c Γ x) (expr_uses x)
  exprs_told = every_expr layers

  pub variables_told : (x : syntax.Variable) → Told c Γ (variable_operand c Γ x) (variable_uses x)
  variables_told = every_variable layers
