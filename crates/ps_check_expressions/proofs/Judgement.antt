-- The judgement's values, in the form in which the code finds them.
use Rattle.std.proofs.Common.{◌≡◌, ℕ, List, [], ◌∷◌, Option, Some, None, map, refl, sym, ap, ◌∙◌}
use Rattle.ps_text.specs.declared.Span.{Span}
use Rattle.ps_syntax.specs.First as first
use Rattle.ps_syntax.specs.declared.expression.Sign.{Sign}
use Rattle.ps_syntax.specs.declared.expression.Relational.{Relational}
use Rattle.ps_syntax.specs.declared.expression.Factor.{Factor}
use Rattle.ps_syntax.specs.declared.expression.Expr.TheVariants as e
use Rattle.ps_syntax.specs.declared.expression.AddedTerm.{AddedTerm, out-AddedTerm}
use Rattle.ps_syntax.specs.declared.expression.MultipliedFactor.{MultipliedFactor}
use Rattle.ps_syntax.specs.declared.expression.Expr.{Expr}
use Rattle.ps_syntax.specs.declared.expression.Selector.{Selector}
use Rattle.ps_syntax.specs.declared.expression.Simple.{Simple, out-Simple}
use Rattle.ps_syntax.specs.declared.expression.Term.{Term, out-Term}
use Rattle.ps_syntax.specs.declared.expression.Member.TheVariants as m
use Rattle.ps_syntax.specs.declared.expression.Variable as v
use Rattle.ps_tree.specs.Tree as Tree
use Rattle.ps_tree.specs.declared.tree.Argument.{Argument}
use Rattle.ps_tree.specs.declared.tree.Member.{Member}
use Rattle.ps_tree.specs.View.{argument_of, arguments_of, member_of, members_of}
use Rattle.ps_check_judgement.specs.declared.change.Change.{Change}
use Rattle.ps_check_judgement.specs.Judged as j
use Rattle.ps_check_judgement.specs.Judged.{Judged, Yes, No, steps}
use Rattle.ps_check_judgement.specs.Changing.{Changing, ◌>>=◌, still, through}
use Rattle.ps_check_judgement.proofs.Lists.{steps_map}
use Rattle.ps_check_judgement.specs.declared.refusal.Rule.TheVariants.{WrongKind}
use Rattle.ps_check_names.specs.Spelling.{line_in}
use Rattle.ps_check_names.specs.Regions.{Context, Region}
use Rattle.ps_check_expressions.specs.Values.{Value, Variable, loaded, argument_list, member_list}
use Rattle.ps_check_expressions.specs.Operators.{added, multiplied, negated, compared}
use Rattle.ps_check_expressions.specs.Places.{element}
use Rattle.ps_check_expressions.specs.Expressions.{Step, alone, all_steps, operands, single, several, negation}
use Rattle.ps_check_expressions.specs.Expressions.{indexed, named_value, named_variable, first_term, variable_seen}
use Rattle.ps_check_expressions.specs.Expressions.{term_seen, simple_seen, operand, factor_operand, member_at, select}
use Rattle.ps_check_expressions.specs.Expressions.{add_term, multiply_factor, simple_operand, term_operand}
use Rattle.ps_check_expressions.specs.Expressions.{variable_operand}
use Rattle.ps_check_expressions.proofs.Equations.{operand_compare, add_term_is, multiply_factor_is, simple_is, term_is}
use Rattle.ps_check_expressions.proofs.Equations.{variable_is, member_single, member_several, operand_first}
use Rattle.ps_check_expressions.proofs.Equations.{simple_first, term_first, factor_first}

-- ---- one after the other, for a list of parts

pub all_steps_map : {A B : Type 0} (first : ℕ) (g : B → Step A) (xs : List B) (x : A) (cs : List Change)
    → all_steps first (map g xs) x cs ≡ through (λ y b. g b first y) x xs cs
all_steps_map first g xs x cs = steps_map (λ t (f : Step _). f first t.0 t.1) g (x, cs) xs

-- a part that is passed on as it is
handed : {A B : Type 0} (m : Changing A) (f g : A → Changing B) → ((a : A) (cs : List Change) → f a cs ≡ g a cs)
    → (m >>= f) ≡ (m >>= g)
handed m f g h = ap (λ k. m >>= k) (λ i a cs. h a cs i)

-- ---- the tree's own lists

pub arguments_listed : (xs : List Argument) → arguments_of xs ≡ argument_list (map argument_of xs)
unfolding arguments_of
arguments_listed [] = refl
arguments_listed (x ∷ xs) = ap (Tree.argument_before (argument_of x)) (arguments_listed xs)

pub members_listed : (xs : List Member) → members_of xs ≡ member_list (map member_of xs)
unfolding members_of
members_listed [] = refl
members_listed (x ∷ xs) = ap (Tree.member_before (member_of x)) (members_listed xs)

module _ (c : Context) (Γ : List Region) where
  -- the value of a simple expression: its first term with its sign, and the terms that are added
  pub simple_value : (x : Simple) → (simple_operand c Γ x).value
      ≡ ((term_operand c Γ (out-Simple x).first).value
      >>= (λ v. still (first_term c Γ (first.first_of_term (out-Simple x).first) (out-Simple x).sign v))
      >>= (λ v. through (λ v t. add_term c Γ t (first.first_of_simple x) v) v (out-Simple x).more))
  unfolding simple_seen
  simple_value x =
      ap (λ o. o.value) (simple_is c Γ x)
      ∙ ap (λ (n : ℕ). (term_operand c Γ (out-Simple x).first).value
      >>= (λ v. still (first_term c Γ n (out-Simple x).sign v)) >>= all_steps (first.sign_or (out-Simple x).sign n)
      (map (add_term c Γ) (out-Simple x).more)) (term_first c Γ (out-Simple x).first)
      ∙ handed ((term_operand c Γ (out-Simple x).first).value
      >>= (λ v. still (first_term c Γ (first.first_of_term (out-Simple x).first) (out-Simple x).sign v)))
      (all_steps (first.first_of_simple x) (map (add_term c Γ) (out-Simple x).more))
      (λ v. through (λ v t. add_term c Γ t (first.first_of_simple x) v) v (out-Simple x).more)
      (all_steps_map (first.first_of_simple x) (add_term c Γ) (out-Simple x).more)

  pub term_value : (x : Term) → (term_operand c Γ x).value
      ≡ ((factor_operand c Γ (out-Term x).first).value
      >>= (λ v. through (λ v f. multiply_factor c Γ f (first.first_of_term x) v) v (out-Term x).more))
  unfolding term_seen
  term_value x =
      ap (λ o. o.value) (term_is c Γ x)
      ∙ ap (λ (n : ℕ). (factor_operand c Γ (out-Term x).first).value >>= all_steps n
      (map (multiply_factor c Γ) (out-Term x).more)) (factor_first c Γ (out-Term x).first)
      ∙ handed (factor_operand c Γ (out-Term x).first).value
      (all_steps (first.first_of_term x) (map (multiply_factor c Γ) (out-Term x).more))
      (λ v. through (λ v f. multiply_factor c Γ f (first.first_of_term x) v) v (out-Term x).more)
      (all_steps_map (first.first_of_term x) (multiply_factor c Γ) (out-Term x).more)

  term_alone : (o : Changing Value) (n : ℕ) (fs : List MultipliedFactor) (cs : List Change) → fs ≡ []
      → (o >>= (λ v. through (λ v f. multiply_factor c Γ f n v) v fs)) cs ≡ o cs
  term_alone o n [] cs e = at (o cs)
    where
      at : (q : Judged (Value × List Change)) → j.◌>>=◌ q (λ p. Yes (p.0, p.1)) ≡ q
      at (Yes p) = refl
      at (No rule place) = refl
  term_alone o n (f ∷ fs) cs e = cc

  simple_alone : (o : Changing Value) (m n : ℕ) (sign : Option (Sign × Span)) (ts : List AddedTerm) (cs : List Change)
      → sign ≡ None → ts ≡ [] → (o >>= (λ v. still (first_term c Γ m sign v))
      >>= (λ v. through (λ v t. add_term c Γ t n v) v ts)) cs ≡ o cs
  unfolding first_term
  simple_alone o m n None [] cs s e = at (o cs)
    where
      at : (q : Judged (Value × List Change)) → j.◌>>=◌ {A = Value × List Change} (j.◌>>=◌ q (λ p. Yes (p.0, p.1)))
          (λ p. Yes (p.0, p.1)) ≡ q
      at (Yes p) = refl
      at (No rule place) = refl
  simple_alone o m n None (t ∷ ts) cs s e = cc
  simple_alone o m n (Some at) ts cs s e = cc

  -- without sign and operators it is its one factor
  pub value_of_one_factor : (x : Simple) → (out-Simple x).sign ≡ None → (out-Simple x).more ≡ []
      → (out-Term (out-Simple x).first).more ≡ [] → (simple_operand c Γ x).value
      ≡ (factor_operand c Γ (out-Term (out-Simple x).first).first).value
  value_of_one_factor x s more factors =
      simple_value x
      ∙ (λ i cs. simple_alone (term_operand c Γ (out-Simple x).first).value (first.first_of_term (out-Simple x).first)
      (first.first_of_simple x) (out-Simple x).sign (out-Simple x).more cs s more i)
      ∙ term_value (out-Simple x).first
      ∙ (λ i cs. term_alone (factor_operand c Γ (out-Term (out-Simple x).first).first).value
      (first.first_of_term (out-Simple x).first) (out-Term (out-Simple x).first).more cs factors i)

  seen_variable : (name : Span) (ss : List Selector) → (variable_seen c Γ name (map (select c Γ) ss)).variable
      ≡ (named_variable c Γ name >>= (λ v. through (λ v s. select c Γ s name.from v) v ss))
  unfolding variable_seen
  seen_variable name [] = (λ i cs. at (named_variable c Γ name cs) i)
    where
      at : (q : Judged (Variable × List Change)) → q ≡ j.◌>>=◌ q (λ p. Yes (p.0, p.1))
      at (Yes p) = refl
      at (No rule place) = refl
  seen_variable name (s ∷ ss) = handed (named_variable c Γ name) (all_steps name.from (map (select c Γ) (s ∷ ss)))
      (λ v. through (λ v s. select c Γ s name.from v) v (s ∷ ss)) (all_steps_map name.from (select c Γ) (s ∷ ss))

  pub variable_variable : (x : v.Variable) → (variable_operand c Γ x).variable
      ≡ (named_variable c Γ x.name >>= (λ v. through (λ v s. select c Γ s x.name.from v) v x.selectors))
  variable_variable x = ap (λ o. o.variable) (variable_is c Γ x) ∙ seen_variable x.name x.selectors

  seen_alone : (name : Span) (ss : List Selector) → ss ≡ [] → (variable_seen c Γ name (map (select c Γ) ss)).value
      ≡ named_value c Γ name
  unfolding variable_seen
  seen_alone name [] e = refl
  seen_alone name (s ∷ ss) e = cc

  pub value_alone : (x : v.Variable) → x.selectors ≡ [] → (variable_operand c Γ x).value ≡ named_value c Γ x.name
  value_alone x e = ap (λ o. o.value) (variable_is c Γ x) ∙ seen_alone x.name x.selectors e

  seen_selected : (name : Span) (ss : List Selector) → (ss ≡ [] → ⊥)
      → (variable_seen c Γ name (map (select c Γ) ss)).value
      ≡ ((variable_seen c Γ name (map (select c Γ) ss)).variable >>= (λ v. still (loaded name.from v)))
  unfolding variable_seen
  seen_selected name [] e = absurd (e refl)
  seen_selected name (s ∷ ss) e = refl

  pub value_selected : (x : v.Variable) → (x.selectors ≡ [] → ⊥) → (variable_operand c Γ x).value
      ≡ ((variable_operand c Γ x).variable >>= (λ v. still (loaded x.name.from v)))
  value_selected x e =
      ap (λ o. o.value) (variable_is c Γ x) ∙ seen_selected x.name x.selectors e
      ∙ ap (λ o. o.variable >>= (λ v. still (loaded x.name.from v))) (sym (variable_is c Γ x))

  seen_name : (name : Span) (ss : List Selector) → ss ≡ [] → (variable_seen c Γ name (map (select c Γ) ss)).name
      ≡ Some name
  unfolding variable_seen
  seen_name name [] e = refl
  seen_name name (s ∷ ss) e = cc

  pub name_alone : (x : v.Variable) → x.selectors ≡ [] → (variable_operand c Γ x).name ≡ Some x.name
  name_alone x e = ap (λ o. o.name) (variable_is c Γ x) ∙ seen_name x.name x.selectors e

  seen_nameless : (name : Span) (ss : List Selector) → (ss ≡ [] → ⊥)
      → (variable_seen c Γ name (map (select c Γ) ss)).name ≡ None
  unfolding variable_seen
  seen_nameless name [] e = absurd (e refl)
  seen_nameless name (s ∷ ss) e = refl

  pub name_selected : (x : v.Variable) → (x.selectors ≡ [] → ⊥) → (variable_operand c Γ x).name ≡ None
  name_selected x e = ap (λ o. o.name) (variable_is c Γ x) ∙ seen_nameless x.name x.selectors e

  -- ---- each construct by the first tokens of its parts

  pub compare_value : (x : Simple) (r : Relational) (at : Span) (y : Simple) → (operand c Γ (e.Compare x r at y)).value
      ≡ ((simple_operand c Γ x).value >>= (λ a. (simple_operand c Γ y).value
      >>= (λ b. still (compared (operands (first.first_of_simple x) (first.first_of_simple y)) r a b))))
  compare_value x r at y =
      ap (λ o. o.value) (operand_compare c Γ x r at y)
      ∙ ap (λ (n : ℕ). (simple_operand c Γ x).value
      >>= (λ a. (simple_operand c Γ y).value >>= (λ b. still
      (compared (operands n (simple_operand c Γ y).first) r a b)))) (simple_first c Γ x)
      ∙ ap (λ (n : ℕ). (simple_operand c Γ x).value
      >>= (λ a. (simple_operand c Γ y).value >>= (λ b. still
      (compared (operands (first.first_of_simple x) n) r a b)))) (simple_first c Γ y)

  pub add_term_value : (x : AddedTerm) (at : ℕ) (v : Value) → add_term c Γ x at v
      ≡ ((term_operand c Γ (out-AddedTerm x).term).value
      >>= (λ w. still (added (operands at (first.first_of_term (out-AddedTerm x).term)) (out-AddedTerm x).operator
      (line_in c.text (out-AddedTerm x).at.from) v w)))
  add_term_value x at v = add_term_is c Γ x at v
      ∙ ap (λ (n : ℕ). (term_operand c Γ (out-AddedTerm x).term).value
      >>= (λ w. still (added (operands at n) (out-AddedTerm x).operator
      (line_in c.text (out-AddedTerm x).at.from) v w))) (term_first c Γ (out-AddedTerm x).term)

  pub multiply_factor_value : (x : MultipliedFactor) (at : ℕ) (v : Value) → multiply_factor c Γ x at v
      ≡ ((factor_operand c Γ x.factor).value >>= (λ w. still
      (multiplied (operands at (first.first_of_factor x.factor)) x.operator (line_in c.text x.at.from) v w)))
  multiply_factor_value x at v = multiply_factor_is c Γ x at v
      ∙ ap (λ (n : ℕ). (factor_operand c Γ x.factor).value
      >>= (λ w. still (multiplied (operands at n) x.operator (line_in c.text x.at.from) v w)))
      (factor_first c Γ x.factor)

  pub negation_value : (x : Factor) → negation (factor_operand c Γ x)
      ≡ ((factor_operand c Γ x).value >>= (λ v. still (negated (first.first_of_factor x) v)))
  negation_value x = ap (λ (n : ℕ). (factor_operand c Γ x).value >>= (λ v. still (negated n v))) (factor_first c Γ x)

  pub index_value : (at : ℕ) (v : Variable) (x : Expr) → indexed c Γ at v (operand c Γ x)
      ≡ ((operand c Γ x).value >>= (λ index. still
      (element (operands at (first.first_of_expr x)) v.place v.type index (line_in c.text (first.first_of_expr x)))))
  index_value at v x = ap (λ (n : ℕ). (operand c Γ x).value
      >>= (λ index. still (element (operands at n) v.place v.type index (line_in c.text n)))) (operand_first c Γ x)

  seen_first : (name : Span) (ss : List Selector) → (variable_seen c Γ name (map (select c Γ) ss)).first ≡ name.from
  unfolding variable_seen
  seen_first name [] = refl
  seen_first name (s ∷ ss) = refl

  pub variable_first : (x : v.Variable) → (variable_operand c Γ x).first ≡ x.name.from
  variable_first x = ap (λ o. o.first) (variable_is c Γ x) ∙ seen_first x.name x.selectors

  -- ---- members

  pub member_one : (x : Expr) → (member_at c Γ (m.One x)).member
      ≡ ((operand c Γ x).value >>= (λ v. still
      (single (first.first_of_expr x) v (line_in c.text (first.first_of_expr x)))))
  member_one x = ap (λ o. o.member) (member_single c Γ x)
      ∙ ap (λ (n : ℕ). (operand c Γ x).value >>= (λ v. still (single n v (line_in c.text n)))) (operand_first c Γ x)

  pub member_range : (x y : Expr) → (member_at c Γ (m.Range x y)).member
      ≡ ((operand c Γ x).value >>= (λ v. (operand c Γ y).value
      >>= (λ w. still (several (operands (first.first_of_expr x) (first.first_of_expr y)) v w
      (line_in c.text (first.first_of_expr x))))))
  member_range x y =
      ap (λ o. o.member) (member_several c Γ x y)
      ∙ ap (λ (n : ℕ). (operand c Γ x).value >>= (λ v. (operand c Γ y).value
      >>= (λ w. still (several (operands n (operand c Γ y).first) v w (line_in c.text n))))) (operand_first c Γ x)
      ∙ ap (λ (n : ℕ). (operand c Γ x).value >>= (λ v. (operand c Γ y).value
      >>= (λ w. still (several (operands (first.first_of_expr x) n) v w (line_in c.text (first.first_of_expr x))))))
      (operand_first c Γ y)

-- ---- what is alone

alone_here : {A B C : Type 0} (g : A → C) (more : List A) (other o : B) → more ≡ [] → alone other None (map g more) o
    ≡ o
alone_here g [] other o e = refl
alone_here g (x ∷ xs) other o e = cc

alone_not : {A B C : Type 0} (g : A → C) (sign : Option (Sign × Span)) (more : List A) (other o : B) → (more ≡ [] → ⊥)
    → alone other sign (map g more) o ≡ other
alone_not g None [] other o h = absurd (h refl)
alone_not g None (x ∷ xs) other o h = refl
alone_not g (Some s) more other o h = refl

module _ (c : Context) (Γ : List Region) where
  -- what is not a variable alone
  abbrev pub none_at : ℕ → Changing Variable
  none_at at = still (No WrongKind at)

  pub term_variable : (x : Term) → (out-Term x).more ≡ [] → (term_operand c Γ x).variable
      ≡ (factor_operand c Γ (out-Term x).first).variable
  unfolding term_seen
  term_variable x e = ap (λ o. o.variable) (term_is c Γ x) ∙ alone_here (multiply_factor c Γ) (out-Term x).more
      (none_at (factor_operand c Γ (out-Term x).first).first) (factor_operand c Γ (out-Term x).first).variable e

  pub term_no_variable : (x : Term) → ((out-Term x).more ≡ [] → ⊥) → (term_operand c Γ x).variable ≡ none_at
      (first.first_of_term x)
  unfolding term_seen
  term_no_variable x h = ap (λ o. o.variable) (term_is c Γ x) ∙ alone_not (multiply_factor c Γ) None (out-Term x).more
      (none_at (factor_operand c Γ (out-Term x).first).first) (factor_operand c Γ (out-Term x).first).variable h
      ∙ ap none_at (factor_first c Γ (out-Term x).first)

  pub simple_variable : (x : Simple) → (out-Simple x).sign ≡ None → (out-Simple x).more ≡ []
      → (simple_operand c Γ x).variable ≡ (term_operand c Γ (out-Simple x).first).variable
  unfolding simple_seen
  simple_variable x s e = ap (λ o. o.variable) (simple_is c Γ x)
      ∙ ap (λ a. alone (none_at (first.sign_or (out-Simple x).sign (term_operand c Γ (out-Simple x).first).first)) a
      (map (add_term c Γ) (out-Simple x).more) (term_operand c Γ (out-Simple x).first).variable) s ∙ alone_here
      (add_term c Γ) (out-Simple x).more (none_at
      (first.sign_or (out-Simple x).sign (term_operand c Γ (out-Simple x).first).first))
      (term_operand c Γ (out-Simple x).first).variable e

  pub simple_no_variable : (x : Simple) → ((out-Simple x).more ≡ [] → ⊥) → (simple_operand c Γ x).variable ≡ none_at
      (first.first_of_simple x)
  unfolding simple_seen
  simple_no_variable x h = ap (λ o. o.variable) (simple_is c Γ x) ∙ alone_not (add_term c Γ) (out-Simple x).sign
      (out-Simple x).more (none_at (first.sign_or (out-Simple x).sign (term_operand c Γ (out-Simple x).first).first))
      (term_operand c Γ (out-Simple x).first).variable h ∙ ap (λ n. none_at (first.sign_or (out-Simple x).sign n))
      (term_first c Γ (out-Simple x).first)

  signed : {A C : Type 0} (sign : Option (Sign × Span)) (s : Sign × Span) (fs : List C) (other o : A) → sign ≡ Some s
      → alone other sign fs o ≡ other
  signed None s fs other o e = cc
  signed (Some t) s fs other o e = refl

  pub signed_no_variable : (x : Simple) (s : Sign × Span) → (out-Simple x).sign ≡ Some s
      → (simple_operand c Γ x).variable ≡ none_at (first.first_of_simple x)
  unfolding simple_seen
  signed_no_variable x s e = ap (λ o. o.variable) (simple_is c Γ x) ∙ signed (out-Simple x).sign s
      (map (add_term c Γ) (out-Simple x).more)
      (none_at (first.sign_or (out-Simple x).sign (term_operand c Γ (out-Simple x).first).first))
      (term_operand c Γ (out-Simple x).first).variable e ∙ ap (λ n. none_at (first.sign_or (out-Simple x).sign n))
      (term_first c Γ (out-Simple x).first)

  pub term_name : (x : Term) → (out-Term x).more ≡ [] → (term_operand c Γ x).name
      ≡ (factor_operand c Γ (out-Term x).first).name
  unfolding term_seen
  term_name x e = ap (λ o. o.name) (term_is c Γ x) ∙ alone_here (multiply_factor c Γ) (out-Term x).more None
      (factor_operand c Γ (out-Term x).first).name e

  pub term_no_name : (x : Term) → ((out-Term x).more ≡ [] → ⊥) → (term_operand c Γ x).name ≡ None
  unfolding term_seen
  term_no_name x h = ap (λ o. o.name) (term_is c Γ x) ∙ alone_not (multiply_factor c Γ) None (out-Term x).more None
      (factor_operand c Γ (out-Term x).first).name h

  pub simple_name : (x : Simple) → (out-Simple x).sign ≡ None → (out-Simple x).more ≡ [] → (simple_operand c Γ x).name
      ≡ (term_operand c Γ (out-Simple x).first).name
  unfolding simple_seen
  simple_name x s e = ap (λ o. o.name) (simple_is c Γ x)
      ∙ ap (λ a. alone None a (map (add_term c Γ) (out-Simple x).more) (term_operand c Γ (out-Simple x).first).name) s
      ∙ alone_here (add_term c Γ) (out-Simple x).more None (term_operand c Γ (out-Simple x).first).name e

  pub simple_no_name : (x : Simple) → ((out-Simple x).more ≡ [] → ⊥) → (simple_operand c Γ x).name ≡ None
  unfolding simple_seen
  simple_no_name x h = ap (λ o. o.name) (simple_is c Γ x) ∙ alone_not (add_term c Γ) (out-Simple x).sign
      (out-Simple x).more None (term_operand c Γ (out-Simple x).first).name h

  pub signed_no_name : (x : Simple) (s : Sign × Span) → (out-Simple x).sign ≡ Some s → (simple_operand c Γ x).name
      ≡ None
  unfolding simple_seen
  signed_no_name x s e = ap (λ o. o.name) (simple_is c Γ x) ∙ signed (out-Simple x).sign s
      (map (add_term c Γ) (out-Simple x).more) None (term_operand c Γ (out-Simple x).first).name e
