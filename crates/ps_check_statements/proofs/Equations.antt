-- The equations of the judgement, one for each construct.
use Rattle.std.proofs.Common.{◌≡◌, ℤ, List, [], ◌∷◌, map, refl, sym, ap, ◌∙◌}
use Rattle.ps_text.specs.declared.Span.{Span}
use Rattle.ps_syntax.specs.declared.expression.Expr.{Expr}
use Rattle.ps_syntax.specs.declared.expression.Variable.{Variable}
use Rattle.ps_syntax.specs.declared.statement.Direction.{Direction}
use Rattle.ps_syntax.specs.declared.statement.Parameter.{Parameter}
use Rattle.ps_syntax.specs.declared.statement.Statement.{Statement}
use Rattle.ps_syntax.specs.declared.statement.Element.{Element, out-Element}
use Rattle.ps_syntax.specs.declared.statement.Statement.TheOpen.{Statement-F}
use Rattle.ps_syntax.specs.declared.statement.Statement.TheVariants as s
use Rattle.ps_syntax.specs.declared.statement.Statement.TheFolds.{fold-roll-Statement, fold_out-Element}
use Rattle.ps_tree.specs.declared.types.Ordinal.{Ordinal}
use Rattle.ps_tree.specs.declared.tree.statements.Statement as typed
use Rattle.ps_tree.specs.declared.tree.statements.CaseElement as typed_element
use Rattle.ps_tree.specs.View.{statement_of, statements_of, elements_of}
use Rattle.ps_tree.specs.Tree as Tree
use Rattle.ps_check_judgement.specs.declared.change.Change.{Change}
use Rattle.ps_check_judgement.specs.Changing.{Changing, ◌>>=◌, same, still, each, one_more}
use Rattle.ps_check_judgement.proofs.Lists.{steps_map}
use Rattle.ps_check_names.specs.Regions.{Context, Region}
use Rattle.ps_check_statements.specs.Assignments.{assignment}
use Rattle.ps_check_statements.specs.Procedures.{procedure_statement}
use Rattle.ps_check_statements.specs.Structured.{TypedElement, labels}
use Rattle.ps_check_statements.specs.Statements.{Reading, ElementReading, statement_list, element_list}
use Rattle.ps_check_statements.specs.Statements.{compound_statement, if_statement, if_else_statement, case_statement}
use Rattle.ps_check_statements.specs.Statements.{repeat_statement, while_statement, for_statement, with_behind}
use Rattle.ps_check_statements.specs.Statements.{statement_step, element_step, statement, element, statements}
use Rattle.ps_check_statements.specs.View.{element_of}

-- the images of the images of a list
each_map : {A B C : Type 0} (f : B → Changing C) (g : A → B) (xs : List A) → each f (map g xs) ≡ each (λ x. f (g x)) xs
each_map f g xs = (λ i cs. steps_map (one_more f) g ([], cs) xs i)

-- ---- the tree's own lists

pub statements_listed : (xs : List typed.Statement) → statements_of xs ≡ statement_list (map statement_of xs)
unfolding statements_of
statements_listed [] = refl
statements_listed (x ∷ xs) = ap (Tree.statement_before (statement_of x)) (statements_listed xs)

pub elements_listed : (xs : List typed_element.CaseElement) → elements_of xs ≡ element_list (map element_of xs)
unfolding elements_of
elements_listed [] = refl
elements_listed (x ∷ xs) = ap (Tree.element_before (element_of x).0 (element_of x).1) (elements_listed xs)

module _ (c : Context) (Γ : List Region) where
  at_roll : (x : Statement) (y : Statement) → x ≡ y → statement x c Γ ≡ statement y c Γ
  at_roll x y e = ap (λ z. statement z c Γ) e

  pub statement_empty : statement s.Empty c Γ ≡ same Tree.Empty
  unfolding statement element statement_step
  statement_empty = at_roll _ _ (sym s.rolls-Empty) ∙ ap (λ (r : Reading). r c Γ)
      (fold-roll-Statement Reading ElementReading statement_step element_step Statement-F.Empty)

  pub statement_assign : (x : Variable) (at : Span) (y : Expr) → statement (s.Assign x at y) c Γ ≡ assignment c Γ x at y
  unfolding statement element statement_step
  statement_assign x at y = at_roll _ _ (sym (s.rolls-Assign x at y)) ∙ ap (λ (r : Reading). r c Γ)
      (fold-roll-Statement Reading ElementReading statement_step element_step (Statement-F.Assign x at y))

  pub statement_call : (name : Span) (ps : List Parameter) → statement (s.Call name ps) c Γ
      ≡ procedure_statement c Γ name ps
  unfolding statement element statement_step
  statement_call name ps = at_roll _ _ (sym (s.rolls-Call name ps)) ∙ ap (λ (r : Reading). r c Γ)
      (fold-roll-Statement Reading ElementReading statement_step element_step (Statement-F.Call name ps))

  sequence_is : (xs : List Statement) → each (λ (s : Reading). s c Γ) (map statement xs) ≡ each
      (λ x. statement x c Γ) xs
  sequence_is xs = each_map (λ (s : Reading). s c Γ) statement xs

  pub statement_compound : (xs : List Statement) → statement (s.Compound xs) c Γ ≡ compound_statement
      (statements c Γ xs)
  unfolding statement element statement_step statements
  statement_compound xs =
      at_roll _ _ (sym (s.rolls-Compound xs))
      ∙ ap (λ (r : Reading). r c Γ) (fold-roll-Statement Reading ElementReading statement_step element_step
      (Statement-F.Compound xs))
      ∙ ap (λ (o : Changing (List Tree.Statement)). compound_statement (o >>= (λ ts. same (statement_list ts))))
      (sequence_is xs)

  pub statement_if : (x : Expr) (y : Statement) → statement (s.If x y) c Γ ≡ if_statement c Γ x (statement y)
  unfolding statement element statement_step
  statement_if x y = at_roll _ _ (sym (s.rolls-If x y)) ∙ ap (λ (r : Reading). r c Γ)
      (fold-roll-Statement Reading ElementReading statement_step element_step (Statement-F.If x y))

  pub statement_if_else : (x : Expr) (y z : Statement) → statement (s.IfElse x y z) c Γ ≡ if_else_statement c Γ x
      (statement y) (statement z)
  unfolding statement element statement_step
  statement_if_else x y z = at_roll _ _ (sym (s.rolls-IfElse x y z)) ∙ ap (λ (r : Reading). r c Γ)
      (fold-roll-Statement Reading ElementReading statement_step element_step (Statement-F.IfElse x y z))

  pub statement_case : (at : Span) (x : Expr) (es : List Element) → statement (s.Case at x es) c Γ
      ≡ case_statement c Γ at x (map element es)
  unfolding statement element statement_step
  statement_case at x es = at_roll _ _ (sym (s.rolls-Case at x es)) ∙ ap (λ (r : Reading). r c Γ)
      (fold-roll-Statement Reading ElementReading statement_step element_step (Statement-F.Case at x es))

  pub statement_while : (x : Expr) (y : Statement) → statement (s.While x y) c Γ ≡ while_statement c Γ x (statement y)
  unfolding statement element statement_step
  statement_while x y = at_roll _ _ (sym (s.rolls-While x y)) ∙ ap (λ (r : Reading). r c Γ)
      (fold-roll-Statement Reading ElementReading statement_step element_step (Statement-F.While x y))

  pub statement_repeat : (xs : List Statement) (x : Expr) → statement (s.Repeat xs x) c Γ ≡ repeat_statement c Γ
      (statements c Γ xs) x
  unfolding statement element statement_step statements
  statement_repeat xs x =
      at_roll _ _ (sym (s.rolls-Repeat xs x))
      ∙ ap (λ (r : Reading). r c Γ) (fold-roll-Statement Reading ElementReading statement_step element_step
      (Statement-F.Repeat xs x))
      ∙ ap (λ (o : Changing (List Tree.Statement)). repeat_statement c Γ (o >>= (λ ts. same (statement_list ts))) x)
      (sequence_is xs)

  pub statement_for : (name : Span) (x : Expr) (d : Direction) (y : Expr) (z : Statement) → statement
      (s.For name x d y z) c Γ ≡ for_statement c Γ name x d y (statement z)
  unfolding statement element statement_step
  statement_for name x d y z = at_roll _ _ (sym (s.rolls-For name x d y z)) ∙ ap (λ (r : Reading). r c Γ)
      (fold-roll-Statement Reading ElementReading statement_step element_step (Statement-F.For name x d y z))

  pub statement_with : (xs : List Variable) (y : Statement) → statement (s.With xs y) c Γ ≡ with_behind c ([], Γ) xs
      (statement y)
  unfolding statement element statement_step
  statement_with xs y = at_roll _ _ (sym (s.rolls-With xs y)) ∙ ap (λ (r : Reading). r c Γ)
      (fold-roll-Statement Reading ElementReading statement_step element_step (Statement-F.With xs y))

  pub element_is : (x : Element) (o : Ordinal) (seen : List ℤ) → element x c Γ o seen
      ≡ (still (labels c Γ o seen (out-Element x).constants)
      >>= (λ own. statement (out-Element x).statement c Γ >>= (λ body. same (own, body))))
  unfolding statement element element_step
  element_is x o seen = ap (λ (r : ElementReading). r c Γ o seen)
      (fold_out-Element Reading ElementReading statement_step element_step x)

  -- ---- with the changes so far

  pub at_empty : (cs : List Change) → statement s.Empty c Γ cs ≡ same Tree.Empty cs
  at_empty cs = ap (λ (m : Changing Tree.Statement). m cs) (statement_empty)

  pub at_assign : (x : Variable) (at : Span) (y : Expr) (cs : List Change) → statement (s.Assign x at y) c Γ cs
      ≡ assignment c Γ x at y cs
  at_assign x at y cs = ap (λ (m : Changing Tree.Statement). m cs) (statement_assign x at y)

  pub at_call : (name : Span) (ps : List Parameter) (cs : List Change) → statement (s.Call name ps) c Γ cs
      ≡ procedure_statement c Γ name ps cs
  at_call name ps cs = ap (λ (m : Changing Tree.Statement). m cs) (statement_call name ps)

  pub at_compound : (xs : List Statement) (cs : List Change) → statement (s.Compound xs) c Γ cs ≡ compound_statement
      (statements c Γ xs) cs
  at_compound xs cs = ap (λ (m : Changing Tree.Statement). m cs) (statement_compound xs)

  pub at_if : (x : Expr) (y : Statement) (cs : List Change) → statement (s.If x y) c Γ cs ≡ if_statement c Γ x
      (statement y) cs
  at_if x y cs = ap (λ (m : Changing Tree.Statement). m cs) (statement_if x y)

  pub at_if_else : (x : Expr) (y z : Statement) (cs : List Change) → statement (s.IfElse x y z) c Γ cs
      ≡ if_else_statement c Γ x (statement y) (statement z) cs
  at_if_else x y z cs = ap (λ (m : Changing Tree.Statement). m cs) (statement_if_else x y z)

  pub at_case : (at : Span) (x : Expr) (es : List Element) (cs : List Change) → statement (s.Case at x es) c Γ cs
      ≡ case_statement c Γ at x (map element es) cs
  at_case at x es cs = ap (λ (m : Changing Tree.Statement). m cs) (statement_case at x es)

  pub at_while : (x : Expr) (y : Statement) (cs : List Change) → statement (s.While x y) c Γ cs ≡ while_statement c Γ x
      (statement y) cs
  at_while x y cs = ap (λ (m : Changing Tree.Statement). m cs) (statement_while x y)

  pub at_repeat : (xs : List Statement) (x : Expr) (cs : List Change) → statement (s.Repeat xs x) c Γ cs
      ≡ repeat_statement c Γ (statements c Γ xs) x cs
  at_repeat xs x cs = ap (λ (m : Changing Tree.Statement). m cs) (statement_repeat xs x)

  pub at_for : (name : Span) (x : Expr) (d : Direction) (y : Expr) (z : Statement) (cs : List Change) → statement
      (s.For name x d y z) c Γ cs ≡ for_statement c Γ name x d y (statement z) cs
  at_for name x d y z cs = ap (λ (m : Changing Tree.Statement). m cs) (statement_for name x d y z)

  pub at_with : (xs : List Variable) (y : Statement) (cs : List Change) → statement (s.With xs y) c Γ cs ≡ with_behind c
      ([], Γ) xs (statement y) cs
  at_with xs y cs = ap (λ (m : Changing Tree.Statement). m cs) (statement_with xs y)

  pub element_at : (x : Element) (o : Ordinal) (seen : List ℤ) (cs : List Change) → element x c Γ o seen cs
      ≡ (still (labels c Γ o seen (out-Element x).constants)
      >>= (λ own. statement (out-Element x).statement c Γ >>= (λ body. same (own, body)))) cs
  element_at x o seen cs = ap (λ (m : Changing TypedElement). m cs) (element_is x o seen)
