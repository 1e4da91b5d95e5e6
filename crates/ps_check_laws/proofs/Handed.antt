-- What the judgement of an expression passes on as changed is what the checked expression threatens.
use Rattle.std.proofs.Common.{◌≡◌, List, [], ◌++◌, map, None, sym, ap, ◌∙◌, subst, append-nil}
use Rattle.ps_syntax.specs.declared.expression.Expr.{Expr, roll-Expr}
use Rattle.ps_syntax.specs.declared.expression.Factor.{roll-Factor}
use Rattle.ps_syntax.specs.declared.expression.AddedTerm.{roll-AddedTerm, out-roll-AddedTerm}
use Rattle.ps_syntax.specs.declared.expression.MultipliedFactor.{roll-MultipliedFactor}
use Rattle.ps_syntax.specs.declared.expression.Simple.{roll-Simple, out-roll-Simple}
use Rattle.ps_syntax.specs.declared.expression.Term.{roll-Term, out-roll-Term}
use Rattle.ps_syntax.specs.declared.expression.Variable as syntax
use Rattle.ps_syntax.specs.declared.expression.Variable.{roll-Variable}
use Rattle.ps_syntax.specs.declared.expression.Expr.TheOpen.{Expr-F, Factor-F, Member-F, Selector-F}
use Rattle.ps_syntax.specs.declared.expression.Expr.TheVariants as e
use Rattle.ps_syntax.specs.declared.expression.Factor.TheVariants as f
use Rattle.ps_syntax.specs.declared.expression.Member.TheVariants as m
use Rattle.ps_syntax.specs.declared.expression.Selector.TheVariants as s
use Rattle.ps_tree.specs.Types.{NilType}
use Rattle.ps_tree.specs.Tree as Tree
use Rattle.ps_check_judgement.specs.declared.change.Change.{Change}
use Rattle.ps_check_judgement.specs.Judged.{Yes}
use Rattle.ps_check_judgement.specs.Changing.{Changing, ◌>>=◌, still, through}
use Rattle.ps_check_judgement.proofs.Binds.{then_yes}
use Rattle.ps_check_names.specs.Spelling.{line_in}
use Rattle.ps_check_names.specs.Regions.{Context, Region}
use Rattle.ps_check_expressions.specs.Values.{Value, SimpleValue, Variable, Operand}
use Rattle.ps_check_expressions.specs.Names.{denoted}
use Rattle.ps_check_expressions.specs.Operators.{added}
use Rattle.ps_check_expressions.specs.Expressions.{Step, SeenMember, Gathered, constructed, gather, operands, indexed}
use Rattle.ps_check_expressions.specs.Expressions.{term_seen, simple_seen, operand, factor_operand, member_at, select}
use Rattle.ps_check_expressions.specs.Expressions.{add_term, multiply_factor, simple_operand, term_operand}
use Rattle.ps_check_expressions.specs.Expressions.{variable_operand}
use Rattle.ps_check_expressions.proofs.Equations.{operand_simple, operand_compare, factor_variable, factor_call}
use Rattle.ps_check_expressions.proofs.Equations.{factor_number, factor_text, factor_nil, factor_set, factor_group}
use Rattle.ps_check_expressions.proofs.Equations.{factor_not, member_single, member_several, select_index, select_field}
use Rattle.ps_check_expressions.proofs.Equations.{select_content, simple_is, term_is, add_term_is, multiply_factor_is}
use Rattle.ps_check_expressions.proofs.Equations.{variable_is}
use Rattle.ps_check_laws.specs.Threats.{expr_threatens, members_threaten}
use Rattle.ps_syntax.proofs.Nodes.{AddedNode, MultipliedNode, SimpleNode, TermNode, VariableNode}
use Rattle.ps_syntax.proofs.Nodes.{AddedLayer, ExprLayer, FactorLayer, Layers, MemberLayer, MultipliedLayer}
use Rattle.ps_syntax.proofs.Nodes.{SelectorLayer, SimpleLayer, TermLayer, VariableLayer, every_expr, every_variable}
use Rattle.ps_syntax.proofs.Nodes.{parts, proved, trees}
use Rattle.ps_check_laws.proofs.Lists.{then_still}
use Rattle.ps_check_laws.proofs.Values.{value_threatens, constant_threatens, negated_threatens, added_both}
use Rattle.ps_check_laws.proofs.Values.{multiplied_both, compared_both, element_both, component_same, target_same}
use Rattle.ps_check_laws.proofs.Additions.{Adds, adds_none, adds_both, adds_as, More, adds_all, made_adds, still_adds}
use Rattle.ps_check_laws.proofs.Additions.{still_more, through_more}
use Rattle.ps_check_laws.proofs.Parts.{gathered_threatens, gathered_both, constructed_threatens, member_of}
use Rattle.ps_check_laws.proofs.Parts.{single_threatens, several_threaten}
use Rattle.ps_check_laws.proofs.HandedParts.{Hands, called_adds, hands, hands_by, of_plain}
use Rattle.ps_check_laws.proofs.HandedParts.{place_of, read_each, seen_simple, seen_term, seen_variable}

module _ (c : Context) (Γ : List Region) where
  -- ---- each construct

  nil_adds : (cs : List Change) → Adds c cs cs (value_threatens (SimpleValue Tree.Nil NilType))
  unfolding expr_threatens
  nil_adds cs = adds_none cs

  members_more : (ys : List (proved (hands c Γ)).member) (cs : List Change) (p : Gathered × List Change)
      → through gather ([], None) (map (member_at c Γ) (parts ys)) cs ≡ Yes p
      → More c cs p.1 [] (gathered_threatens p.0)
  unfolding members_threaten
  members_more ys cs p e = through_more gathered_threatens gather (map (member_at c Γ) (parts ys))
      (read_each (member_at c Γ) (λ (m : SeenMember). (s : Gathered) (cs : List Change) (p : Gathered × List Change)
      → gather s m cs ≡ Yes p → More c cs p.1 (gathered_threatens s) (gathered_threatens p.0))
      (λ y s cs p h. (let m = then_yes ((member_at c Γ y.0).member cs) _ p h in
      still_more gathered_threatens _ cs m.0.1 (gathered_threatens s) (member_of m.0.0) p m.2 (y.1 cs m.0 m.1)
      (λ g k. gathered_both (member_at c Γ y.0).first s m.0.0 g k))) ys) ([], None) cs p e

  expr_layer : ExprLayer (hands c Γ)
  expr_layer (Expr-F.Simple x) = hands_by c Γ (operand c Γ (roll-Expr (Expr-F.Simple x.0))) (simple_operand c Γ x.0)
      (ap (operand c Γ) (e.rolls-Simple x.0) ∙ operand_simple c Γ x.0) x.1
  expr_layer (Expr-F.Compare x r at y) =
      hands_by c Γ (operand c Γ (roll-Expr (Expr-F.Compare x.0 r at y.0))) _
      (ap (operand c Γ) (e.rolls-Compare x.0 r at y.0) ∙ operand_compare c Γ x.0 r at y.0)
      (of_plain c Γ _ _ (λ cs p h. (let a = then_yes ((simple_operand c Γ x.0).value cs) _ p h in
      let b = then_yes ((simple_operand c Γ y.0).value a.0.1) _ p a.2 in
      still_adds value_threatens _ cs b.0.1 (value_threatens a.0.0 ++ value_threatens b.0.0) p b.2
      (adds_both cs a.0.1 b.0.1 (value_threatens a.0.0) (value_threatens b.0.0) (x.1.value cs a.0 a.1)
      (y.1.value a.0.1 b.0 b.1)) (λ v g. compared_both _ r a.0.0 b.0.0 v g))))

  factor_layer : FactorLayer (hands c Γ)
  factor_layer (Factor-F.Variable x) =
      hands_by c Γ (factor_operand c Γ (roll-Factor (Factor-F.Variable x.0))) _
      (ap (factor_operand c Γ) (f.rolls-Variable x.0) ∙ factor_variable c Γ x.0)
      x.1
  factor_layer (Factor-F.Call at ys) =
      hands_by c Γ (factor_operand c Γ (roll-Factor (Factor-F.Call at (parts ys)))) _
      (ap (factor_operand c Γ) (f.rolls-Call at (parts ys)) ∙ factor_call c Γ at (parts ys))
      (of_plain c Γ _ _ (λ cs p h. (let q = then_still (denoted c Γ at) cs _ p h
      in called_adds c Γ at.from q.0 ys cs p q.2)))
  factor_layer (Factor-F.Number at) =
      hands_by c Γ (factor_operand c Γ (roll-Factor (Factor-F.Number at))) _
      (ap (factor_operand c Γ) (f.rolls-Number at) ∙ factor_number c Γ at)
      (of_plain c Γ _ _ (λ cs p h. still_adds value_threatens _ cs cs [] p h (adds_none cs)
      (λ v g. constant_threatens at.from _ v g)))
  factor_layer (Factor-F.Text at) =
      hands_by c Γ (factor_operand c Γ (roll-Factor (Factor-F.Text at))) _
      (ap (factor_operand c Γ) (f.rolls-Text at) ∙ factor_text c Γ at)
      (of_plain c Γ _ _ (λ cs p h. still_adds value_threatens _ cs cs [] p h (adds_none cs)
      (λ v g. constant_threatens at.from _ v g)))
  factor_layer (Factor-F.Nil at) =
      hands_by c Γ (factor_operand c Γ (roll-Factor (Factor-F.Nil at))) _
      (ap (factor_operand c Γ) (f.rolls-Nil at) ∙ factor_nil c Γ at)
      (of_plain c Γ _ _ (λ cs p h. made_adds value_threatens _ cs cs p h (nil_adds cs)))
  factor_layer (Factor-F.Set at ys) =
      hands_by c Γ (factor_operand c Γ (roll-Factor (Factor-F.Set at (parts ys)))) _
      (ap (factor_operand c Γ) (f.rolls-Set at (parts ys)) ∙ factor_set c Γ at (parts ys))
      (of_plain c Γ _ _ (λ cs p h. (let g = then_yes (through gather ([], None)
      (map (member_at c Γ) (parts ys)) cs) _ p h
      in
      let all = adds_all cs g.0.1 (gathered_threatens g.0.0) (members_more ys cs g.0 g.1) in
      made_adds value_threatens (constructed g.0.0) cs g.0.1 p g.2
      (adds_as cs g.0.1 (gathered_threatens g.0.0) (value_threatens (constructed g.0.0))
      (sym (constructed_threatens g.0.0)) all))))
  factor_layer (Factor-F.Group at n x) =
      hands_by c Γ (factor_operand c Γ (roll-Factor (Factor-F.Group at n x.0))) _
      (ap (factor_operand c Γ) (f.rolls-Group at n x.0) ∙ factor_group c Γ at n x.0)
      (of_plain c Γ _ _ (λ cs p h. x.1.value cs p h))
  factor_layer (Factor-F.Not at x) =
      hands_by c Γ (factor_operand c Γ (roll-Factor (Factor-F.Not at x.0))) _
      (ap (factor_operand c Γ) (f.rolls-Not at x.0) ∙ factor_not c Γ at x.0)
      (of_plain c Γ _ _ (λ cs p h. (let a = then_yes ((factor_operand c Γ x.0).value cs) _ p h
      in still_adds value_threatens _ cs a.0.1 (value_threatens a.0.0) p a.2 (x.1.value cs a.0 a.1)
      (λ v g. negated_threatens _ a.0.0 v g))))

  member_layer : MemberLayer (hands c Γ)
  member_layer (Member-F.One x) cs p h =
      let a = then_yes ((operand c Γ x.0).value cs) _ p
      (sym (ap (λ (s : SeenMember). s.member cs) (ap (member_at c Γ) (m.rolls-One x.0) ∙ member_single c Γ x.0))
      ∙ h) in
      still_adds member_of _ cs a.0.1 (value_threatens a.0.0) p a.2 (x.1.value cs a.0 a.1)
      (λ v g. single_threatens _ a.0.0 _ v g)
  member_layer (Member-F.Range x y) cs p h =
      let a = then_yes ((operand c Γ x.0).value cs) _ p
      (sym (ap (λ (s : SeenMember). s.member cs)
      (ap (member_at c Γ) (m.rolls-Range x.0 y.0) ∙ member_several c Γ x.0 y.0)) ∙ h) in
      let b = then_yes ((operand c Γ y.0).value a.0.1) _ p a.2 in
      still_adds member_of _ cs b.0.1 (value_threatens a.0.0 ++ value_threatens b.0.0) p b.2
      (adds_both cs a.0.1 b.0.1 (value_threatens a.0.0) (value_threatens b.0.0) (x.1.value cs a.0 a.1)
      (y.1.value a.0.1 b.0 b.1))
      (λ v g. several_threaten _ _ a.0.0 b.0.0 _ v g)

  selector_layer : SelectorLayer (hands c Γ)
  selector_layer (Selector-F.Index ys) first v cs p h =
      let is = ap (λ (g : Step Variable). g first v cs)
      (ap (select c Γ) (s.rolls-Index (parts ys)) ∙ select_index c Γ (parts ys)) in
      through_more place_of (indexed c Γ first) (map (operand c Γ) (parts ys))
      (read_each (operand c Γ) (λ (x : Operand). (s : Variable) (cs : List Change) (p : Variable × List Change)
      → indexed c Γ first s x cs ≡ Yes p → More c cs p.1 (place_of s) (place_of p.0))
      (λ y s cs p e. (let a = then_yes ((operand c Γ y.0).value cs) _ p e in
      still_more place_of _ cs a.0.1 (place_of s) (value_threatens a.0.0) p a.2 (y.1.value cs a.0 a.1)
      (λ w g. element_both _ s.place s.type a.0.0 _ w g))) ys) v cs p (sym is ∙ h)
  selector_layer (Selector-F.Field at) first v cs p h =
      let is = ap (λ (g : Step Variable). g first v cs) (ap (select c Γ) (s.rolls-Field at) ∙ select_field c Γ at) in
      still_more place_of _ cs cs (place_of v) [] p (sym is ∙ h) (adds_none cs)
      (λ w g. component_same first at.from v.place v.type _ w g ∙ sym (append-nil (place_of v)))
  selector_layer (Selector-F.Content at) first v cs p h =
      let is = ap (λ (g : Step Variable). g first v cs) (ap (select c Γ) (s.rolls-Content at) ∙ select_content c Γ at)
      in
      still_more place_of _ cs cs (place_of v) [] p (sym is ∙ h) (adds_none cs)
      (λ w g. target_same first c.domains v.place v.type _ w g ∙ sym (append-nil (place_of v)))

  added_layer : AddedLayer (hands c Γ)
  added_layer y first v cs p h =
      let z : AddedNode trees = record {
        operator = y.operator;
        at = y.at;
        term = y.term.0;
      } in
      let is = subst (λ (q : AddedNode trees). ((term_operand c Γ q.term).value
      >>= (λ w. still (added (operands first (term_operand c Γ q.term).first) q.operator
      (line_in c.text q.at.from) v w))) cs ≡ Yes p) (out-roll-AddedTerm z)
      (sym (ap (λ (m : Changing Value). m cs) (add_term_is c Γ (roll-AddedTerm z) first v)) ∙ h) in
      let a = then_yes ((term_operand c Γ y.term.0).value cs) _ p is in
      still_more value_threatens _ cs a.0.1 (value_threatens v) (value_threatens a.0.0) p a.2
      (y.term.1.value cs a.0 a.1) (λ w g. added_both _ y.operator _ v a.0.0 w g)

  multiplied_layer : MultipliedLayer (hands c Γ)
  multiplied_layer y first v cs p h =
      let z : MultipliedNode trees = record {
        operator = y.operator;
        at = y.at;
        factor = y.factor.0;
      } in
      let a = then_yes ((factor_operand c Γ y.factor.0).value cs) _ p
      (sym (ap (λ (m : Changing Value). m cs) (multiply_factor_is c Γ (roll-MultipliedFactor z) first v)) ∙ h) in
      still_more value_threatens _ cs a.0.1 (value_threatens v) (value_threatens a.0.0) p a.2
      (y.factor.1.value cs a.0 a.1) (λ w g. multiplied_both _ y.operator _ v a.0.0 w g)

  simple_layer : SimpleLayer (hands c Γ)
  simple_layer y =
      let z : SimpleNode trees = record {
        sign = y.sign;
        first = y.first.0;
        more = parts y.more;
      } in
      let is = simple_is c Γ (roll-Simple z) ∙ ap (λ (q : SimpleNode trees). simple_seen c Γ q.sign
      (term_operand c Γ q.first) (map (add_term c Γ) q.more)) (out-roll-Simple z) in
      hands_by c Γ (simple_operand c Γ (roll-Simple z)) _ is
      (seen_simple c Γ y.sign (term_operand c Γ y.first.0) y.first.1 y.more)

  term_layer : TermLayer (hands c Γ)
  term_layer y =
      let z : TermNode trees = record {
        first = y.first.0;
        more = parts y.more;
      } in
      let is = term_is c Γ (roll-Term z) ∙ ap (λ (q : TermNode trees). term_seen c Γ
      (factor_operand c Γ q.first) (map (multiply_factor c Γ) q.more)) (out-roll-Term z) in
      hands_by c Γ (term_operand c Γ (roll-Term z)) _ is (seen_term c Γ (factor_operand c Γ y.first.0) y.first.1 y.more)

  variable_layer : VariableLayer (hands c Γ)
  variable_layer y =
      let z : VariableNode trees = record {
        name = y.name;
        selectors = parts y.selectors;
      } in
      hands_by c Γ (variable_operand c Γ (roll-Variable z)) _ (variable_is c Γ (roll-Variable z))
      (seen_variable c Γ y.name y.selectors)

  layers : Layers (hands c Γ)
  layers = record {
    expr = expr_layer;
    factor = factor_layer;
    member = member_layer;
    selector = selector_layer;
    added = added_layer;
    multiplied = multiplied_layer;
    simple = simple_layer;
    term = term_layer;
    variable = variable_layer;
  }

  pub exprs_hand : (x : Expr) → Hands c Γ (operand c Γ x)
  exprs_hand = every_expr layers

  pub variables_hand : (x : syntax.Variable) → Hands c Γ (variable_operand c Γ x)
  variables_hand = every_variable layers
