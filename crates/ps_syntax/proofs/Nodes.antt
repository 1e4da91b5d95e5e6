-- The result of a walk for a node that is made of its parts; and what holds of each tree, since it holds of a node if
-- it holds of its parts.
use Rattle.std.proofs.Common.{◌≡◌, List, map, subst}
use Rattle.ps_syntax.specs.declared.expression.Expr.{Expr, roll-Expr, map-Expr}
use Rattle.ps_syntax.specs.declared.expression.Factor.{Factor, roll-Factor, map-Factor}
use Rattle.ps_syntax.specs.declared.expression.Member.{Member, roll-Member, map-Member}
use Rattle.ps_syntax.specs.declared.expression.Selector.{Selector, roll-Selector, map-Selector}
use Rattle.ps_syntax.specs.declared.expression.AddedTerm.{AddedTerm, out-AddedTerm, roll-AddedTerm, map-AddedTerm}
use Rattle.ps_syntax.specs.declared.expression.MultipliedFactor.{MultipliedFactor, out-MultipliedFactor}
use Rattle.ps_syntax.specs.declared.expression.MultipliedFactor.{roll-MultipliedFactor, map-MultipliedFactor}
use Rattle.ps_syntax.specs.declared.expression.Simple.{Simple, out-Simple, roll-Simple, map-Simple}
use Rattle.ps_syntax.specs.declared.expression.Term.{Term, out-Term, roll-Term, map-Term}
use Rattle.ps_syntax.specs.declared.expression.Variable.{Variable, out-Variable, roll-Variable, map-Variable}
use Rattle.ps_syntax.specs.declared.expression.Expr.TheOpen.{Expr-F, Factor-F, Member-F, Selector-F, AddedTerm-F}
use Rattle.ps_syntax.specs.declared.expression.Expr.TheOpen.{MultipliedFactor-F, Simple-F, Term-F, Variable-F}
use Rattle.ps_syntax.specs.declared.expression.Expr.TheFolds.{fold-Expr, fold-Factor, fold-Member, fold-Selector}
use Rattle.ps_syntax.specs.declared.expression.Expr.TheFolds.{fold-AddedTerm, fold-MultipliedFactor, fold-Simple}
use Rattle.ps_syntax.specs.declared.expression.Expr.TheFolds.{fold-Term, fold-Variable}
use Rattle.ps_syntax.specs.declared.expression.Expr.TheFolds.{fold-roll-Expr, fold-roll-Factor, fold-roll-Member}
use Rattle.ps_syntax.specs.declared.expression.Expr.TheFolds.{fold-roll-Selector, fold-roll-AddedTerm}
use Rattle.ps_syntax.specs.declared.expression.Expr.TheFolds.{fold-roll-MultipliedFactor, fold-roll-Simple}
use Rattle.ps_syntax.specs.declared.expression.Expr.TheFolds.{fold-roll-Term, fold-roll-Variable}
use Rattle.ps_syntax.specs.declared.expression.Expr.TheFolds.{fold_out-AddedTerm, fold_out-MultipliedFactor}
use Rattle.ps_syntax.specs.declared.expression.Expr.TheFolds.{fold_out-Simple, fold_out-Term, fold_out-Variable}
use Rattle.ps_syntax.specs.declared.expression.Expr.TheFolds.{ind-Expr, ind-Variable}
use Rattle.ps_syntax.specs.Walks.{Steps}

-- the type of the results for each kind of node
pub record Results : Type 1 where
  pub expr : Type 0
  pub factor : Type 0
  pub member : Type 0
  pub selector : Type 0
  pub added : Type 0
  pub multiplied : Type 0
  pub simple : Type 0
  pub term : Type 0
  pub variable : Type 0

-- the same type for each kind
abbrev pub all_kinds : Type 0 → Results
all_kinds A = record {
  expr = A;
  factor = A;
  member = A;
  selector = A;
  added = A;
  multiplied = A;
  simple = A;
  term = A;
  variable = A;
}

-- a node of each kind, with the results for its parts in their place
module _ (R : Results) where
  abbrev pub ExprNode : Type 0
  ExprNode = Expr-F R.expr R.factor R.member R.selector R.added R.multiplied R.simple R.term R.variable

  abbrev pub FactorNode : Type 0
  FactorNode = Factor-F R.expr R.factor R.member R.selector R.added R.multiplied R.simple R.term R.variable

  abbrev pub MemberNode : Type 0
  MemberNode = Member-F R.expr R.factor R.member R.selector R.added R.multiplied R.simple R.term R.variable

  abbrev pub SelectorNode : Type 0
  SelectorNode = Selector-F R.expr R.factor R.member R.selector R.added R.multiplied R.simple R.term R.variable

  abbrev pub AddedNode : Type 0
  AddedNode = AddedTerm-F R.expr R.factor R.member R.selector R.added R.multiplied R.simple R.term R.variable

  abbrev pub MultipliedNode : Type 0
  MultipliedNode = MultipliedFactor-F R.expr R.factor R.member R.selector R.added R.multiplied R.simple R.term
      R.variable

  abbrev pub SimpleNode : Type 0
  SimpleNode = Simple-F R.expr R.factor R.member R.selector R.added R.multiplied R.simple R.term R.variable

  abbrev pub TermNode : Type 0
  TermNode = Term-F R.expr R.factor R.member R.selector R.added R.multiplied R.simple R.term R.variable

  abbrev pub VariableNode : Type 0
  VariableNode = Variable-F R.expr R.factor R.member R.selector R.added R.multiplied R.simple R.term R.variable

-- the trees themselves
abbrev pub trees : Results
trees = record {
  expr = Expr;
  factor = Factor;
  member = Member;
  selector = Selector;
  added = AddedTerm;
  multiplied = MultipliedFactor;
  simple = Simple;
  term = Term;
  variable = Variable;
}

-- a function for each kind
pub record Functions (P Q : Results) : Type 0 where
  pub expr : P.expr → Q.expr
  pub factor : P.factor → Q.factor
  pub member : P.member → Q.member
  pub selector : P.selector → Q.selector
  pub added : P.added → Q.added
  pub multiplied : P.multiplied → Q.multiplied
  pub simple : P.simple → Q.simple
  pub term : P.term → Q.term
  pub variable : P.variable → Q.variable

-- a node whose parts are handed to the functions
module _ {P Q : Results} where
  abbrev pub map_expr : Functions P Q → ExprNode P → ExprNode Q
  map_expr f = map-Expr P.expr P.factor P.member P.selector P.added P.multiplied P.simple P.term P.variable Q.expr
      Q.factor Q.member Q.selector Q.added Q.multiplied Q.simple Q.term Q.variable f.expr f.factor f.member f.selector
      f.added f.multiplied f.simple f.term f.variable

  abbrev pub map_factor : Functions P Q → FactorNode P → FactorNode Q
  map_factor f = map-Factor P.expr P.factor P.member P.selector P.added P.multiplied P.simple P.term P.variable Q.expr
      Q.factor Q.member Q.selector Q.added Q.multiplied Q.simple Q.term Q.variable f.expr f.factor f.member f.selector
      f.added f.multiplied f.simple f.term f.variable

  abbrev pub map_member : Functions P Q → MemberNode P → MemberNode Q
  map_member f = map-Member P.expr P.factor P.member P.selector P.added P.multiplied P.simple P.term P.variable Q.expr
      Q.factor Q.member Q.selector Q.added Q.multiplied Q.simple Q.term Q.variable f.expr f.factor f.member f.selector
      f.added f.multiplied f.simple f.term f.variable

  abbrev pub map_selector : Functions P Q → SelectorNode P → SelectorNode Q
  map_selector f = map-Selector P.expr P.factor P.member P.selector P.added P.multiplied P.simple P.term P.variable
      Q.expr Q.factor Q.member Q.selector Q.added Q.multiplied Q.simple Q.term Q.variable f.expr f.factor f.member
      f.selector f.added f.multiplied f.simple f.term f.variable

  abbrev pub map_added : Functions P Q → AddedNode P → AddedNode Q
  map_added f = map-AddedTerm P.expr P.factor P.member P.selector P.added P.multiplied P.simple P.term P.variable Q.expr
      Q.factor Q.member Q.selector Q.added Q.multiplied Q.simple Q.term Q.variable f.expr f.factor f.member f.selector
      f.added f.multiplied f.simple f.term f.variable

  abbrev pub map_multiplied : Functions P Q → MultipliedNode P → MultipliedNode Q
  map_multiplied f = map-MultipliedFactor P.expr P.factor P.member P.selector P.added P.multiplied P.simple P.term
      P.variable Q.expr Q.factor Q.member Q.selector Q.added Q.multiplied Q.simple Q.term Q.variable f.expr f.factor
      f.member f.selector f.added f.multiplied f.simple f.term f.variable

  abbrev pub map_simple : Functions P Q → SimpleNode P → SimpleNode Q
  map_simple f = map-Simple P.expr P.factor P.member P.selector P.added P.multiplied P.simple P.term P.variable Q.expr
      Q.factor Q.member Q.selector Q.added Q.multiplied Q.simple Q.term Q.variable f.expr f.factor f.member f.selector
      f.added f.multiplied f.simple f.term f.variable

  abbrev pub map_term : Functions P Q → TermNode P → TermNode Q
  map_term f = map-Term P.expr P.factor P.member P.selector P.added P.multiplied P.simple P.term P.variable Q.expr
      Q.factor Q.member Q.selector Q.added Q.multiplied Q.simple Q.term Q.variable f.expr f.factor f.member f.selector
      f.added f.multiplied f.simple f.term f.variable

  abbrev pub map_variable : Functions P Q → VariableNode P → VariableNode Q
  map_variable f = map-Variable P.expr P.factor P.member P.selector P.added P.multiplied P.simple P.term P.variable
      Q.expr Q.factor Q.member Q.selector Q.added Q.multiplied Q.simple Q.term Q.variable f.expr f.factor f.member
      f.selector f.added f.multiplied f.simple f.term f.variable

-- ---- results

-- a step for each kind of node, with a type of results for each
pub record StepsOf (R : Results) : Type 0 where
  pub expr : ExprNode R → R.expr
  pub factor : FactorNode R → R.factor
  pub member : MemberNode R → R.member
  pub selector : SelectorNode R → R.selector
  pub added : AddedNode R → R.added
  pub multiplied : MultipliedNode R → R.multiplied
  pub simple : SimpleNode R → R.simple
  pub term : TermNode R → R.term
  pub variable : VariableNode R → R.variable

-- those of a walk, whose results are of one type
abbrev pub of_walk : {A : Type 0} → Steps A → StepsOf (all_kinds A)
of_walk s = record {
  expr = s.expr;
  factor = s.factor;
  member = s.member;
  selector = s.selector;
  added = s.added;
  multiplied = s.multiplied;
  simple = s.simple;
  term = s.term;
  variable = s.variable;
}

module _ {R : Results} (s : StepsOf R) where
  -- the result for each tree
  abbrev pub folds : Functions trees R
  folds = record {
    expr = fold-Expr R.expr R.factor R.member R.selector R.added R.multiplied R.simple R.term R.variable s.expr s.factor
        s.member s.selector s.added s.multiplied s.simple s.term s.variable;
    factor = fold-Factor R.expr R.factor R.member R.selector R.added R.multiplied R.simple R.term R.variable s.expr
        s.factor s.member s.selector s.added s.multiplied s.simple s.term s.variable;
    member = fold-Member R.expr R.factor R.member R.selector R.added R.multiplied R.simple R.term R.variable s.expr
        s.factor s.member s.selector s.added s.multiplied s.simple s.term s.variable;
    selector = fold-Selector R.expr R.factor R.member R.selector R.added R.multiplied R.simple R.term R.variable s.expr
        s.factor s.member s.selector s.added s.multiplied s.simple s.term s.variable;
    added = fold-AddedTerm R.expr R.factor R.member R.selector R.added R.multiplied R.simple R.term R.variable s.expr
        s.factor s.member s.selector s.added s.multiplied s.simple s.term s.variable;
    multiplied = fold-MultipliedFactor R.expr R.factor R.member R.selector R.added R.multiplied R.simple R.term
        R.variable s.expr s.factor s.member s.selector s.added s.multiplied s.simple s.term s.variable;
    simple = fold-Simple R.expr R.factor R.member R.selector R.added R.multiplied R.simple R.term R.variable s.expr
        s.factor s.member s.selector s.added s.multiplied s.simple s.term s.variable;
    term = fold-Term R.expr R.factor R.member R.selector R.added R.multiplied R.simple R.term R.variable s.expr s.factor
        s.member s.selector s.added s.multiplied s.simple s.term s.variable;
    variable = fold-Variable R.expr R.factor R.member R.selector R.added R.multiplied R.simple R.term R.variable s.expr
        s.factor s.member s.selector s.added s.multiplied s.simple s.term s.variable;
  }

  -- of a node that is made of its parts

  pub expr_made : (z : ExprNode trees) → folds.expr (roll-Expr z) ≡ s.expr (map_expr folds z)
  expr_made z = fold-roll-Expr R.expr R.factor R.member R.selector R.added R.multiplied R.simple R.term R.variable
      s.expr s.factor s.member s.selector s.added s.multiplied s.simple s.term s.variable z

  pub factor_made : (z : FactorNode trees) → folds.factor (roll-Factor z) ≡ s.factor (map_factor folds z)
  factor_made z = fold-roll-Factor R.expr R.factor R.member R.selector R.added R.multiplied R.simple R.term R.variable
      s.expr s.factor s.member s.selector s.added s.multiplied s.simple s.term s.variable z

  pub member_made : (z : MemberNode trees) → folds.member (roll-Member z) ≡ s.member (map_member folds z)
  member_made z = fold-roll-Member R.expr R.factor R.member R.selector R.added R.multiplied R.simple R.term R.variable
      s.expr s.factor s.member s.selector s.added s.multiplied s.simple s.term s.variable z

  pub selector_made : (z : SelectorNode trees) → folds.selector (roll-Selector z) ≡ s.selector (map_selector folds z)
  selector_made z = fold-roll-Selector R.expr R.factor R.member R.selector R.added R.multiplied R.simple R.term
      R.variable s.expr s.factor s.member s.selector s.added s.multiplied s.simple s.term s.variable z

  pub added_made : (z : AddedNode trees) → folds.added (roll-AddedTerm z) ≡ s.added (map_added folds z)
  added_made z = fold-roll-AddedTerm R.expr R.factor R.member R.selector R.added R.multiplied R.simple R.term R.variable
      s.expr s.factor s.member s.selector s.added s.multiplied s.simple s.term s.variable z

  pub multiplied_made : (z : MultipliedNode trees) → folds.multiplied (roll-MultipliedFactor z)
      ≡ s.multiplied (map_multiplied folds z)
  multiplied_made z = fold-roll-MultipliedFactor R.expr R.factor R.member R.selector R.added R.multiplied R.simple
      R.term R.variable s.expr s.factor s.member s.selector s.added s.multiplied s.simple s.term s.variable z

  pub simple_made : (z : SimpleNode trees) → folds.simple (roll-Simple z) ≡ s.simple (map_simple folds z)
  simple_made z = fold-roll-Simple R.expr R.factor R.member R.selector R.added R.multiplied R.simple R.term R.variable
      s.expr s.factor s.member s.selector s.added s.multiplied s.simple s.term s.variable z

  pub term_made : (z : TermNode trees) → folds.term (roll-Term z) ≡ s.term (map_term folds z)
  term_made z = fold-roll-Term R.expr R.factor R.member R.selector R.added R.multiplied R.simple R.term R.variable
      s.expr s.factor s.member s.selector s.added s.multiplied s.simple s.term s.variable z

  pub variable_made : (z : VariableNode trees) → folds.variable (roll-Variable z) ≡ s.variable (map_variable folds z)
  variable_made z = fold-roll-Variable R.expr R.factor R.member R.selector R.added R.multiplied R.simple R.term
      R.variable s.expr s.factor s.member s.selector s.added s.multiplied s.simple s.term s.variable z

  -- of a node that is taken apart

  pub added_opened : (x : AddedTerm) → folds.added x ≡ s.added (map_added folds (out-AddedTerm x))
  added_opened x = fold_out-AddedTerm R.expr R.factor R.member R.selector R.added R.multiplied R.simple R.term
      R.variable s.expr s.factor s.member s.selector s.added s.multiplied s.simple s.term s.variable x

  pub multiplied_opened : (x : MultipliedFactor) → folds.multiplied x
      ≡ s.multiplied (map_multiplied folds (out-MultipliedFactor x))
  multiplied_opened x = fold_out-MultipliedFactor R.expr R.factor R.member R.selector R.added R.multiplied R.simple
      R.term R.variable s.expr s.factor s.member s.selector s.added s.multiplied s.simple s.term s.variable x

  pub simple_opened : (x : Simple) → folds.simple x ≡ s.simple (map_simple folds (out-Simple x))
  simple_opened x = fold_out-Simple R.expr R.factor R.member R.selector R.added R.multiplied R.simple R.term R.variable
      s.expr s.factor s.member s.selector s.added s.multiplied s.simple s.term s.variable x

  pub term_opened : (x : Term) → folds.term x ≡ s.term (map_term folds (out-Term x))
  term_opened x = fold_out-Term R.expr R.factor R.member R.selector R.added R.multiplied R.simple R.term R.variable
      s.expr s.factor s.member s.selector s.added s.multiplied s.simple s.term s.variable x

  pub variable_opened : (x : Variable) → folds.variable x ≡ s.variable (map_variable folds (out-Variable x))
  variable_opened x = fold_out-Variable R.expr R.factor R.member R.selector R.added R.multiplied R.simple R.term
      R.variable s.expr s.factor s.member s.selector s.added s.multiplied s.simple s.term s.variable x

-- ---- what holds of each tree

-- what is claimed of the trees of each kind
pub record Claims : Type 1 where
  pub expr : Expr → Type 0
  pub factor : Factor → Type 0
  pub member : Member → Type 0
  pub selector : Selector → Type 0
  pub added : AddedTerm → Type 0
  pub multiplied : MultipliedFactor → Type 0
  pub simple : Simple → Type 0
  pub term : Term → Type 0
  pub variable : Variable → Type 0

-- a tree of which it holds
abbrev pub proved : Claims → Results
proved T = record {
  expr = (x : Expr) × T.expr x;
  factor = (x : Factor) × T.factor x;
  member = (x : Member) × T.member x;
  selector = (x : Selector) × T.selector x;
  added = (x : AddedTerm) × T.added x;
  multiplied = (x : MultipliedFactor) × T.multiplied x;
  simple = (x : Simple) × T.simple x;
  term = (x : Term) × T.term x;
  variable = (x : Variable) × T.variable x;
}

module _ (T : Claims) where
  abbrev pub tree_of : Functions (proved T) trees
  tree_of = record {
    expr = λ x. x.0;
    factor = λ x. x.0;
    member = λ x. x.0;
    selector = λ x. x.0;
    added = λ x. x.0;
    multiplied = λ x. x.0;
    simple = λ x. x.0;
    term = λ x. x.0;
    variable = λ x. x.0;
  }

  -- for each kind: it holds of a node if it holds of its parts

  abbrev pub ExprLayer : Type 0
  ExprLayer = (y : ExprNode (proved T)) → T.expr (roll-Expr (map_expr tree_of y))

  abbrev pub FactorLayer : Type 0
  FactorLayer = (y : FactorNode (proved T)) → T.factor (roll-Factor (map_factor tree_of y))

  abbrev pub MemberLayer : Type 0
  MemberLayer = (y : MemberNode (proved T)) → T.member (roll-Member (map_member tree_of y))

  abbrev pub SelectorLayer : Type 0
  SelectorLayer = (y : SelectorNode (proved T)) → T.selector (roll-Selector (map_selector tree_of y))

  abbrev pub AddedLayer : Type 0
  AddedLayer = (y : AddedNode (proved T)) → T.added (roll-AddedTerm (map_added tree_of y))

  abbrev pub MultipliedLayer : Type 0
  MultipliedLayer = (y : MultipliedNode (proved T)) → T.multiplied (roll-MultipliedFactor (map_multiplied tree_of y))

  abbrev pub SimpleLayer : Type 0
  SimpleLayer = (y : SimpleNode (proved T)) → T.simple (roll-Simple (map_simple tree_of y))

  abbrev pub TermLayer : Type 0
  TermLayer = (y : TermNode (proved T)) → T.term (roll-Term (map_term tree_of y))

  abbrev pub VariableLayer : Type 0
  VariableLayer = (y : VariableNode (proved T)) → T.variable (roll-Variable (map_variable tree_of y))

  pub record Layers : Type 0 where
    pub expr : ExprLayer
    pub factor : FactorLayer
    pub member : MemberLayer
    pub selector : SelectorLayer
    pub added : AddedLayer
    pub multiplied : MultipliedLayer
    pub simple : SimpleLayer
    pub term : TermLayer
    pub variable : VariableLayer

module _ {T : Claims} (l : Layers T) where
  pub every_expr : (x : Expr) → T.expr x
  every_expr = ind-Expr T.expr T.factor T.member T.selector T.added T.multiplied T.simple T.term T.variable
      (λ x y is. subst (λ z. T.expr (roll-Expr z)) is (l.expr y))
      (λ x y is. subst (λ z. T.factor (roll-Factor z)) is (l.factor y))
      (λ x y is. subst (λ z. T.member (roll-Member z)) is (l.member y))
      (λ x y is. subst (λ z. T.selector (roll-Selector z)) is (l.selector y))
      (λ x y is. subst (λ z. T.added (roll-AddedTerm z)) is (l.added y))
      (λ x y is. subst (λ z. T.multiplied (roll-MultipliedFactor z)) is (l.multiplied y))
      (λ x y is. subst (λ z. T.simple (roll-Simple z)) is (l.simple y))
      (λ x y is. subst (λ z. T.term (roll-Term z)) is (l.term y))
      (λ x y is. subst (λ z. T.variable (roll-Variable z)) is (l.variable y))

  pub every_variable : (x : Variable) → T.variable x
  every_variable = ind-Variable T.expr T.factor T.member T.selector T.added T.multiplied T.simple T.term T.variable
      (λ x y is. subst (λ z. T.expr (roll-Expr z)) is (l.expr y))
      (λ x y is. subst (λ z. T.factor (roll-Factor z)) is (l.factor y))
      (λ x y is. subst (λ z. T.member (roll-Member z)) is (l.member y))
      (λ x y is. subst (λ z. T.selector (roll-Selector z)) is (l.selector y))
      (λ x y is. subst (λ z. T.added (roll-AddedTerm z)) is (l.added y))
      (λ x y is. subst (λ z. T.multiplied (roll-MultipliedFactor z)) is (l.multiplied y))
      (λ x y is. subst (λ z. T.simple (roll-Simple z)) is (l.simple y))
      (λ x y is. subst (λ z. T.term (roll-Term z)) is (l.term y))
      (λ x y is. subst (λ z. T.variable (roll-Variable z)) is (l.variable y))

-- the trees of some of which something holds
abbrev pub parts : {X : Type 0} {T : X → Type 0} → List ((x : X) × T x) → List X
parts ys = map (λ y. y.0) ys
