-- Walks over an expression (6.7). A walk is given by a step for each kind of node: the result for a node is what the
-- step makes of the results for its parts.
use Rattle.ps_syntax.specs.declared.expression.Expr.{Expr}
use Rattle.ps_syntax.specs.declared.expression.Factor.{Factor}
use Rattle.ps_syntax.specs.declared.expression.Member.{Member}
use Rattle.ps_syntax.specs.declared.expression.Selector.{Selector}
use Rattle.ps_syntax.specs.declared.expression.AddedTerm.{AddedTerm}
use Rattle.ps_syntax.specs.declared.expression.MultipliedFactor.{MultipliedFactor}
use Rattle.ps_syntax.specs.declared.expression.Simple.{Simple}
use Rattle.ps_syntax.specs.declared.expression.Term.{Term}
use Rattle.ps_syntax.specs.declared.expression.Variable.{Variable}
use Rattle.ps_syntax.specs.declared.expression.Expr.TheOpen.{Expr-F, Factor-F, Member-F, Selector-F, AddedTerm-F}
use Rattle.ps_syntax.specs.declared.expression.Expr.TheOpen.{MultipliedFactor-F, Simple-F, Term-F, Variable-F}
use Rattle.ps_syntax.specs.declared.expression.Expr.TheFolds.{fold-Expr, fold-Factor, fold-Member, fold-Selector}
use Rattle.ps_syntax.specs.declared.expression.Expr.TheFolds.{fold-AddedTerm, fold-MultipliedFactor, fold-Simple}
use Rattle.ps_syntax.specs.declared.expression.Expr.TheFolds.{fold-Term, fold-Variable}

-- the steps of a walk, all of whose results are of this type
pub record Steps (A : Type 0) : Type 0 where
  pub expr : Expr-F A A A A A A A A A → A
  pub factor : Factor-F A A A A A A A A A → A
  pub member : Member-F A A A A A A A A A → A
  pub selector : Selector-F A A A A A A A A A → A
  pub added : AddedTerm-F A A A A A A A A A → A
  pub multiplied : MultipliedFactor-F A A A A A A A A A → A
  pub simple : Simple-F A A A A A A A A A → A
  pub term : Term-F A A A A A A A A A → A
  pub variable : Variable-F A A A A A A A A A → A

abbrev pub walk_expr : {A : Type 0} → Steps A → Expr → A
walk_expr {A} s = fold-Expr A A A A A A A A A s.expr s.factor s.member s.selector s.added s.multiplied s.simple s.term
    s.variable

abbrev pub walk_factor : {A : Type 0} → Steps A → Factor → A
walk_factor {A} s = fold-Factor A A A A A A A A A s.expr s.factor s.member s.selector s.added s.multiplied s.simple
    s.term s.variable

abbrev pub walk_member : {A : Type 0} → Steps A → Member → A
walk_member {A} s = fold-Member A A A A A A A A A s.expr s.factor s.member s.selector s.added s.multiplied s.simple
    s.term s.variable

abbrev pub walk_selector : {A : Type 0} → Steps A → Selector → A
walk_selector {A} s = fold-Selector A A A A A A A A A s.expr s.factor s.member s.selector s.added s.multiplied s.simple
    s.term s.variable

abbrev pub walk_added : {A : Type 0} → Steps A → AddedTerm → A
walk_added {A} s = fold-AddedTerm A A A A A A A A A s.expr s.factor s.member s.selector s.added s.multiplied s.simple
    s.term s.variable

abbrev pub walk_multiplied : {A : Type 0} → Steps A → MultipliedFactor → A
walk_multiplied {A} s = fold-MultipliedFactor A A A A A A A A A s.expr s.factor s.member s.selector s.added s.multiplied
    s.simple s.term s.variable

abbrev pub walk_simple : {A : Type 0} → Steps A → Simple → A
walk_simple {A} s = fold-Simple A A A A A A A A A s.expr s.factor s.member s.selector s.added s.multiplied s.simple
    s.term s.variable

abbrev pub walk_term : {A : Type 0} → Steps A → Term → A
walk_term {A} s = fold-Term A A A A A A A A A s.expr s.factor s.member s.selector s.added s.multiplied s.simple s.term
    s.variable

abbrev pub walk_variable : {A : Type 0} → Steps A → Variable → A
walk_variable {A} s = fold-Variable A A A A A A A A A s.expr s.factor s.member s.selector s.added s.multiplied s.simple
    s.term s.variable
