-- Chains of the program that get longer, as the definitions see them.
use Rattle.std.proofs.Common.{◌≡◌, ℕ, List, [], ◌∷◌, ◌++◌, Vec, Box, Global, refl, sym, ap, ◌∙◌}
use Rattle.ps_tree.specs.declared.line.Line.{Line}
use Rattle.ps_tree.specs.declared.tree.operators.ArithmeticOperator.{ArithmeticOperator}
use Rattle.ps_tree.specs.declared.tree.operators.BooleanOperator.{BooleanOperator}
use Rattle.ps_tree.specs.declared.tree.operators.BooleanOperator.TheVariants.{And, Or}
use Rattle.ps_tree.specs.declared.tree.operators.SetOperator.{SetOperator}
use Rattle.ps_tree.specs.declared.tree.Selector.{Selector}
use Rattle.ps_tree.specs.declared.tree.ArithmeticStep.{ArithmeticStep, out-ArithmeticStep}
use Rattle.ps_tree.specs.declared.tree.SetStep.{SetStep, out-SetStep}
use Rattle.ps_tree.specs.declared.tree.Expr.{Expr, Number, Nil, Load', Plus', Minus', Not', Arithmetic, Arithmetic'}
use Rattle.ps_tree.specs.declared.tree.Expr.{Logic, Logic', Compare', ComparePointers', CompareSets', CompareStrings'}
use Rattle.ps_tree.specs.declared.tree.Expr.{In', Apply', Eof, Eoln, Call', CallFormal', roll-Expr, roll-out-Expr}
use Rattle.ps_tree.specs.declared.tree.Expr.TheVariants.{outs-Arithmetic', rolls-Arithmetic, outs-Logic', rolls-Logic}
use Rattle.ps_tree.specs.declared.tree.SetExpr.{SetExpr, Load' as LoadSet', Constructor', Combine, Combine'}
use Rattle.ps_tree.specs.declared.tree.SetExpr.{roll-SetExpr, roll-out-SetExpr}
use Rattle.ps_tree.specs.declared.tree.SetExpr.TheVariants.{outs-Combine', rolls-Combine}
use Rattle.ps_tree.specs.View.{selector_of, selectors_of, expr_of, arithmetic_of, operands_of, set_of, set_steps_of}
use Rattle.ps_tree.specs.Tree as Tree
use Rattle.ps_tree.proofs.TreeLemmas.{expr_of_Arithmetic, expr_of_Logic, set_of_Combine}
use Rattle.ps_tree.specs.Chains.{selector_after, arithmetic_step_after, calculated, operand_after, begun, connected}
use Rattle.ps_tree.specs.Chains.{set_step_after, combined}

-- ---- variables

pub selectors_pushed : (xs : List Selector) (x : Selector) → selectors_of (xs ++ x ∷ []) ≡ selector_after
    (selectors_of xs) (selector_of x)
unfolding selectors_of selector_after
selectors_pushed [] x = refl
selectors_pushed (y ∷ ys) x = ap (Tree.selector_before (selector_of y)) (selectors_pushed ys x)

-- ---- integers

pub arithmetic_pushed : (xs : List ArithmeticStep) (x : ArithmeticStep) → arithmetic_of (xs ++ x ∷ [])
    ≡ arithmetic_step_after (arithmetic_of xs) (out-ArithmeticStep x).operator (expr_of (out-ArithmeticStep x).operand)
    (out-ArithmeticStep x).line.number
unfolding arithmetic_of arithmetic_step_after
arithmetic_pushed [] x = refl
arithmetic_pushed (y ∷ ys) x = ap (Tree.arithmetic_step_before (out-ArithmeticStep y).operator
    (expr_of (out-ArithmeticStep y).operand) (out-ArithmeticStep y).line.number) (arithmetic_pushed ys x)

-- what is not a chain begins one
unchained : (e : Expr) → ((b : Box Expr Global) (v : Vec ArithmeticStep Global) → e ≡ Arithmetic b v → ⊥)
    → (operator : ArithmeticOperator) (line : ℕ) (x : Tree.Expr) → calculated operator line (expr_of e) x
    ≡ Tree.Arithmetic (expr_of e) (Tree.arithmetic_step_before operator x line Tree.no_arithmetic_step)
unfolding calculated expr_of
unchained (Number n) h operator line x = refl
unchained Nil h operator line x = refl
unchained (Load' p base shape row) h operator line x = refl
unchained (Plus' p a) h operator line x = refl
unchained (Minus' p a n) h operator line x = refl
unchained (Not' p a) h operator line x = refl
unchained (Arithmetic' p a shape row) h operator line x = absurd
    (h _ _ (sym (roll-out-Expr (Arithmetic' p a shape row)) ∙ ap roll-Expr (outs-Arithmetic' p a shape row)
    ∙ rolls-Arithmetic _ _))
unchained (Logic' before p a shape row) h operator line x = refl
unchained (Compare' r p a q b) h operator line x = refl
unchained (ComparePointers' r p a q b) h operator line x = refl
unchained (CompareSets' r p a q b) h operator line x = refl
unchained (CompareStrings' r p a q b) h operator line x = refl
unchained (In' p a q b) h operator line x = refl
unchained (Apply' f p a n) h operator line x = refl
unchained Eof h operator line x = refl
unchained (Eoln n) h operator line x = refl
unchained (Call' m up shape row n) h operator line x = refl
unchained (CallFormal' up m shape row n) h operator line x = refl

module _ (operator : ArithmeticOperator) (line : Line) (e x : Expr) (b : Box Expr Global) (s : ArithmeticStep)
    (w : Vec ArithmeticStep Global) where
  pub calculated_on : (v : Vec ArithmeticStep Global) → operator ≡ (out-ArithmeticStep s).operator → x
      ≡ (out-ArithmeticStep s).operand → line ≡ (out-ArithmeticStep s).line → e ≡ Arithmetic b v → w.items ≡ v.items
      ++ s ∷ [] → expr_of (Arithmetic b w) ≡ calculated operator line.number (expr_of e) (expr_of x)
  unfolding calculated
  calculated_on v o a n f g =
      expr_of_Arithmetic b w
      ∙ ap (Tree.Arithmetic (expr_of b.value)) (ap arithmetic_of g ∙ arithmetic_pushed v.items s)
      ∙ ap (λ t. Tree.Arithmetic (expr_of b.value)
      (arithmetic_step_after (arithmetic_of v.items) t (expr_of (out-ArithmeticStep s).operand)
      (out-ArithmeticStep s).line.number)) (sym o)
      ∙ ap (λ t. Tree.Arithmetic (expr_of b.value)
      (arithmetic_step_after (arithmetic_of v.items) operator (expr_of t) (out-ArithmeticStep s).line.number))
      (sym a)
      ∙ ap (λ (t : Line). Tree.Arithmetic (expr_of b.value)
      (arithmetic_step_after (arithmetic_of v.items) operator (expr_of x) t.number)) (sym n)
      ∙ sym (ap (λ t. calculated operator line.number t (expr_of x)) (ap expr_of f ∙ expr_of_Arithmetic b v))

  pub calculated_begun : ((d : Box Expr Global) (v : Vec ArithmeticStep Global) → e ≡ Arithmetic d v → ⊥) → operator
      ≡ (out-ArithmeticStep s).operator → x ≡ (out-ArithmeticStep s).operand → line ≡ (out-ArithmeticStep s).line
      → b.value ≡ e → w.items ≡ s ∷ [] → expr_of (Arithmetic b w) ≡ calculated operator line.number (expr_of e)
      (expr_of x)
  unfolding arithmetic_of
  calculated_begun h o a n f g =
      expr_of_Arithmetic b w
      ∙ ap (λ t. Tree.Arithmetic (expr_of t) (arithmetic_of w.items)) f
      ∙ ap (λ l. Tree.Arithmetic (expr_of e) (arithmetic_of l)) g
      ∙ ap (λ t. Tree.Arithmetic (expr_of e) (Tree.arithmetic_step_before t (expr_of (out-ArithmeticStep s).operand)
      (out-ArithmeticStep s).line.number Tree.no_arithmetic_step)) (sym o)
      ∙ ap (λ t. Tree.Arithmetic (expr_of e) (Tree.arithmetic_step_before operator (expr_of t)
      (out-ArithmeticStep s).line.number Tree.no_arithmetic_step)) (sym a)
      ∙ ap (λ (t : Line). Tree.Arithmetic (expr_of e)
      (Tree.arithmetic_step_before operator (expr_of x) t.number Tree.no_arithmetic_step)) (sym n)
      ∙ sym (unchained e h operator line.number (expr_of x))

-- ---- Boolean operands

pub operands_pushed : (xs : List Expr) (x : Expr) → operands_of (xs ++ x ∷ []) ≡ operand_after (operands_of xs)
    (expr_of x)
unfolding operands_of operand_after
operands_pushed [] x = refl
operands_pushed (y ∷ ys) x = ap (Tree.operand_before (expr_of y)) (operands_pushed ys x)

-- what is not a chain begins one
unjoined : (e : Expr) → ((before : BooleanOperator) (b : Box Expr Global) (v : Vec Expr Global) → e ≡ Logic before b v
    → ⊥) → (operator : BooleanOperator) (x : Tree.Expr) → connected operator (expr_of e) x ≡ begun operator
    (expr_of e) x
unfolding connected expr_of
unjoined (Number n) h And x = refl
unjoined (Number n) h Or x = refl
unjoined Nil h And x = refl
unjoined Nil h Or x = refl
unjoined (Load' p base shape row) h And x = refl
unjoined (Load' p base shape row) h Or x = refl
unjoined (Plus' p a) h And x = refl
unjoined (Plus' p a) h Or x = refl
unjoined (Minus' p a n) h And x = refl
unjoined (Minus' p a n) h Or x = refl
unjoined (Not' p a) h And x = refl
unjoined (Not' p a) h Or x = refl
unjoined (Arithmetic' p a shape row) h And x = refl
unjoined (Arithmetic' p a shape row) h Or x = refl
unjoined (Logic' before p a shape row) h And x = absurd
    (h before _ _ (sym (roll-out-Expr (Logic' before p a shape row)) ∙ ap roll-Expr (outs-Logic' before p a shape row)
    ∙ rolls-Logic _ _ _))
unjoined (Logic' before p a shape row) h Or x = absurd
    (h before _ _ (sym (roll-out-Expr (Logic' before p a shape row)) ∙ ap roll-Expr (outs-Logic' before p a shape row)
    ∙ rolls-Logic _ _ _))
unjoined (Compare' r p a q b) h And x = refl
unjoined (Compare' r p a q b) h Or x = refl
unjoined (ComparePointers' r p a q b) h And x = refl
unjoined (ComparePointers' r p a q b) h Or x = refl
unjoined (CompareSets' r p a q b) h And x = refl
unjoined (CompareSets' r p a q b) h Or x = refl
unjoined (CompareStrings' r p a q b) h And x = refl
unjoined (CompareStrings' r p a q b) h Or x = refl
unjoined (In' p a q b) h And x = refl
unjoined (In' p a q b) h Or x = refl
unjoined (Apply' f p a n) h And x = refl
unjoined (Apply' f p a n) h Or x = refl
unjoined Eof h And x = refl
unjoined Eof h Or x = refl
unjoined (Eoln n) h And x = refl
unjoined (Eoln n) h Or x = refl
unjoined (Call' m up shape row n) h And x = refl
unjoined (Call' m up shape row n) h Or x = refl
unjoined (CallFormal' up m shape row n) h And x = refl
unjoined (CallFormal' up m shape row n) h Or x = refl

pub begun_is : (operator : BooleanOperator) (e x : Expr) (b : Box Expr Global) (v : Vec Expr Global) → b.value ≡ e
    → v.items ≡ x ∷ [] → expr_of (Logic operator b v) ≡ begun operator (expr_of e) (expr_of x)
unfolding operands_of
begun_is operator e x b v f g =
    expr_of_Logic operator b v ∙ ap (λ t. Tree.Logic operator (expr_of t) (operands_of v.items)) f
    ∙ ap (λ l. Tree.Logic operator (expr_of e) (operands_of l)) g

same_operator : (operator : BooleanOperator) (a : Tree.Expr) (rest : Tree.Operands) (x : Tree.Expr) → connected operator
    (Tree.Logic operator a rest) x ≡ Tree.Logic operator a (operand_after rest x)
unfolding connected
same_operator And a rest x = refl
same_operator Or a rest x = refl

other_operator : (operator before : BooleanOperator) (a : Tree.Expr) (rest : Tree.Operands) (x : Tree.Expr)
    → (before ≡ operator → ⊥) → connected operator (Tree.Logic before a rest) x ≡ begun operator
    (Tree.Logic before a rest) x
unfolding connected
other_operator And And a rest x h = absurd (h refl)
other_operator And Or a rest x h = refl
other_operator Or And a rest x h = refl
other_operator Or Or a rest x h = absurd (h refl)

module _ (operator before : BooleanOperator) (e x : Expr) (b : Box Expr Global) (v : Vec Expr Global) where
  pub connected_on : (w : Vec Expr Global) → before ≡ operator → e ≡ Logic before b v → w.items ≡ v.items ++ x ∷ []
      → expr_of (Logic operator b w) ≡ connected operator (expr_of e) (expr_of x)
  connected_on w o f g =
      expr_of_Logic operator b w
      ∙ ap (Tree.Logic operator (expr_of b.value)) (ap operands_of g ∙ operands_pushed v.items x)
      ∙ sym (same_operator operator (expr_of b.value) (operands_of v.items) (expr_of x))
      ∙ ap (λ t. connected operator (Tree.Logic t (expr_of b.value) (operands_of v.items)) (expr_of x)) (sym o)
      ∙ sym (ap (λ t. connected operator t (expr_of x)) (ap expr_of f ∙ expr_of_Logic before b v))

  pub connected_other : (before ≡ operator → ⊥) → e ≡ Logic before b v → begun operator (expr_of (Logic before b v))
      (expr_of x) ≡ connected operator (expr_of e) (expr_of x)
  connected_other h f =
      ap (λ t. begun operator t (expr_of x)) (expr_of_Logic before b v)
      ∙ sym (other_operator operator before (expr_of b.value) (operands_of v.items) (expr_of x) h)
      ∙ sym (ap (λ t. connected operator t (expr_of x)) (ap expr_of f ∙ expr_of_Logic before b v))

pub connected_begun : (operator : BooleanOperator) (e x : Expr)
    → ((before : BooleanOperator) (b : Box Expr Global) (v : Vec Expr Global) → e ≡ Logic before b v → ⊥)
    → begun operator (expr_of e) (expr_of x) ≡ connected operator (expr_of e) (expr_of x)
connected_begun operator e x h = sym (unjoined e h operator (expr_of x))

-- ---- sets

pub set_steps_pushed : (xs : List SetStep) (x : SetStep) → set_steps_of (xs ++ x ∷ []) ≡ set_step_after
    (set_steps_of xs) (out-SetStep x).operator (set_of (out-SetStep x).operand)
unfolding set_steps_of set_step_after
set_steps_pushed [] x = refl
set_steps_pushed (y ∷ ys) x = ap (Tree.set_step_before (out-SetStep y).operator (set_of (out-SetStep y).operand))
    (set_steps_pushed ys x)

-- what is not a chain begins one
uncombined : (e : SetExpr) → ((b : Box SetExpr Global) (v : Vec SetStep Global) → e ≡ Combine b v → ⊥)
    → (operator : SetOperator) (x : Tree.SetExpr) → combined operator (set_of e) x ≡ Tree.Combine (set_of e)
    (Tree.set_step_before operator x Tree.no_set_step)
unfolding combined set_of
uncombined (LoadSet' p base shape row) h operator x = refl
uncombined (Constructor' shape row) h operator x = refl
uncombined (Combine' p a shape row) h operator x = absurd
    (h _ _ (sym (roll-out-SetExpr (Combine' p a shape row)) ∙ ap roll-SetExpr (outs-Combine' p a shape row)
    ∙ rolls-Combine _ _))

module _ (operator : SetOperator) (e x : SetExpr) (b : Box SetExpr Global) (s : SetStep) (w : Vec SetStep Global) where
  pub combined_on : (v : Vec SetStep Global) → operator ≡ (out-SetStep s).operator → x ≡ (out-SetStep s).operand → e
      ≡ Combine b v → w.items ≡ v.items ++ s ∷ [] → set_of (Combine b w) ≡ combined operator (set_of e) (set_of x)
  unfolding combined
  combined_on v o a f g =
      set_of_Combine b w
      ∙ ap (Tree.Combine (set_of b.value)) (ap set_steps_of g ∙ set_steps_pushed v.items s)
      ∙ ap (λ t. Tree.Combine (set_of b.value)
      (set_step_after (set_steps_of v.items) t (set_of (out-SetStep s).operand))) (sym o)
      ∙ ap (λ t. Tree.Combine (set_of b.value) (set_step_after (set_steps_of v.items) operator (set_of t))) (sym a)
      ∙ sym (ap (λ t. combined operator t (set_of x)) (ap set_of f ∙ set_of_Combine b v))

  pub combined_begun : ((d : Box SetExpr Global) (v : Vec SetStep Global) → e ≡ Combine d v → ⊥) → operator
      ≡ (out-SetStep s).operator → x ≡ (out-SetStep s).operand → b.value ≡ e → w.items ≡ s ∷ [] → set_of (Combine b w)
      ≡ combined operator (set_of e) (set_of x)
  unfolding set_steps_of
  combined_begun h o a f g =
      set_of_Combine b w
      ∙ ap (λ t. Tree.Combine (set_of t) (set_steps_of w.items)) f
      ∙ ap (λ l. Tree.Combine (set_of e) (set_steps_of l)) g
      ∙ ap (λ t. Tree.Combine (set_of e) (Tree.set_step_before t (set_of (out-SetStep s).operand) Tree.no_set_step))
      (sym o)
      ∙ ap (λ t. Tree.Combine (set_of e) (Tree.set_step_before operator (set_of t) Tree.no_set_step)) (sym a)
      ∙ sym (uncombined e h operator (set_of x))
