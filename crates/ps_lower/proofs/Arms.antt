-- The forms of expressions and statements, read again, and results that are known for one form and needed for another.
use Rattle.std.proofs.Common.{◌≡◌, ℕ, suc, pos, List, [], ◌∷◌, ◌++◌, Option, None, Vec, Box, Global, Result, OnOk, sym}
use Rattle.std.proofs.Common.{ap, subst, ◌∙◌}
use Rattle.std.specs.Prelude.{Ok, Err}
use Rattle.ps_tree.specs.Tree as t
use Rattle.ps_tree.specs.declared.line.Line.{Line}
use Rattle.ps_tree.specs.declared.tree.operators.OrderRelation.{OrderRelation}
use Rattle.ps_tree.specs.declared.tree.operators.PointerRelation.{PointerRelation}
use Rattle.ps_tree.specs.declared.tree.operators.BooleanOperator.{BooleanOperator}
use Rattle.ps_tree.specs.declared.tree.operators.RequiredFunction.{RequiredFunction}
use Rattle.ps_tree.specs.declared.tree.ArithmeticStep.{ArithmeticStep}
use Rattle.ps_tree.specs.declared.tree.Place.{Place}
use Rattle.ps_tree.specs.declared.tree.Expr.{Expr, Number, Nil, Load, Plus, Minus, Not, Arithmetic, Logic, Compare}
use Rattle.ps_tree.specs.declared.tree.Expr.{ComparePointers, Apply}
use Rattle.ps_tree.specs.View.{place_of, expr_of, arithmetic_of, operands_of}
use Rattle.ps_tree.proofs.TreeLemmas.{expr_of_Load, expr_of_Arithmetic, expr_of_Logic}
use Rattle.tac_code.specs.declared.code.Instruction.{Instruction}
use Rattle.tac_code.specs.declared.code.Instruction.TheVariants as i
use Rattle.tac_code.specs.declared.code.Operand.TheVariants as operand
use Rattle.tac_code.specs.declared.code.Operator.TheVariants as operator
use Rattle.ps_lower_code.specs.Scopes.{Scope, kept, even_from, moved, unless_known}
use Rattle.ps_lower_code.specs.Calling.{expr_calls, steps_call, operands_call}
use Rattle.ps_lower_code.specs.Values.{literal_of, negated, truth_finish, minus_code, front_code, steps_code}
use Rattle.ps_lower_code.specs.Values.{operands_code}
use Rattle.ps_lower_code.specs.Statements.{expr_code}
use Rattle.ps_lower.proofs.Appends.{and_then}

pub number_is : (x : Expr) (n : _) → x ≡ Number n → t.Number n ≡ expr_of x
unfolding expr_of
number_is x n e = sym (ap expr_of e)

pub nil_is : (x : Expr) → x ≡ Nil → t.Nil ≡ expr_of x
unfolding expr_of
nil_is x e = sym (ap expr_of e)

pub load_is : (x : Expr) (b : Box Place Global) (p : Place) → x ≡ Load b → p ≡ b.value → t.Load (place_of p) ≡ expr_of x
load_is x b p e h = ap (λ q. t.Load (place_of q)) h ∙ sym (ap expr_of e ∙ expr_of_Load b)

pub plus_is : (x : Expr) (b : Box Expr Global) (a : Expr) → x ≡ Plus b → a ≡ b.value → t.Plus (expr_of a) ≡ expr_of x
unfolding expr_of
plus_is x b a e h = ap (λ k. t.Plus (expr_of k)) h ∙ sym (ap expr_of e)

pub minus_is : (x : Expr) (b : Box Expr Global) (line : Line) (a : Expr) → x ≡ Minus b line → a ≡ b.value → t.Minus
    (expr_of a) line.number ≡ expr_of x
unfolding expr_of
minus_is x b line a e h = ap (λ k. t.Minus (expr_of k) line.number) h ∙ sym (ap expr_of e)

pub not_is : (x : Expr) (b : Box Expr Global) (a : Expr) → x ≡ Not b → a ≡ b.value → t.Not (expr_of a) ≡ expr_of x
unfolding expr_of
not_is x b a e h = ap (λ k. t.Not (expr_of k)) h ∙ sym (ap expr_of e)

pub apply_is : (x : Expr) (f : RequiredFunction) (b : Box Expr Global) (line : Line) (a : Expr) → x ≡ Apply f b line → a
    ≡ b.value → t.Apply f (expr_of a) line.number ≡ expr_of x
unfolding expr_of
apply_is x f b line a e h = ap (λ k. t.Apply f (expr_of k) line.number) h ∙ sym (ap expr_of e)

pub arithmetic_is : (x : Expr) (b : Box Expr Global) (v : Vec ArithmeticStep Global) (a : Expr)
    (items : List ArithmeticStep) → x ≡ Arithmetic b v → a ≡ b.value → items ≡ v.items → t.Arithmetic (expr_of a)
    (arithmetic_of items) ≡ expr_of x
arithmetic_is x b v a items e h g = ap (λ k. t.Arithmetic (expr_of k) (arithmetic_of items)) h
    ∙ ap (λ k. t.Arithmetic (expr_of b.value) (arithmetic_of k)) g ∙ sym (ap expr_of e ∙ expr_of_Arithmetic b v)

pub logic_is : (x : Expr) (o : BooleanOperator) (b : Box Expr Global) (v : Vec Expr Global) (a : Expr)
    (items : List Expr) → x ≡ Logic o b v → a ≡ b.value → items ≡ v.items → t.Logic o (expr_of a) (operands_of items)
    ≡ expr_of x
logic_is x o b v a items e h g = ap (λ k. t.Logic o (expr_of k) (operands_of items)) h
    ∙ ap (λ k. t.Logic o (expr_of b.value) (operands_of k)) g ∙ sym (ap expr_of e ∙ expr_of_Logic o b v)

pub compare_is : (x : Expr) (r : OrderRelation) (p : Box Expr Global) (a : Expr) (q : Box Expr Global) (b : Expr) → x
    ≡ Compare r p q → a ≡ p.value → b ≡ q.value → t.Compare r (expr_of a) (expr_of b) ≡ expr_of x
unfolding expr_of
compare_is x r p a q b e h g = ap (λ k. t.Compare r (expr_of k) (expr_of b)) h
    ∙ ap (λ k. t.Compare r (expr_of p.value) (expr_of k)) g ∙ sym (ap expr_of e)

pub compare_pointers_is : (x : Expr) (r : PointerRelation) (p : Box Expr Global) (a : Expr) (q : Box Expr Global)
    (b : Expr) → x ≡ ComparePointers r p q → a ≡ p.value → b ≡ q.value → t.ComparePointers r (expr_of a) (expr_of b)
    ≡ expr_of x
unfolding expr_of
compare_pointers_is x r p a q b e h g = ap (λ k. t.ComparePointers r (expr_of k) (expr_of b)) h
    ∙ ap (λ k. t.ComparePointers r (expr_of p.value) (expr_of k)) g ∙ sym (ap expr_of e)

-- ---- results

pub arm : {X E : Type 0} (k : Scope) (x : Expr) (whole : t.Expr) (d s : ℕ) (r : Result X E) (new old : List Instruction)
    → whole ≡ expr_of x → OnOk r (new ≡ old ++ front_code k whole d s) → OnOk r
    (new ≡ old ++ front_code k (expr_of x) d s)
arm k x whole d s r new old e h = subst (λ (y : t.Expr). OnOk r (new ≡ old ++ front_code k y d s)) e h

pub at_depth : {X E : Type 0} (r : Result X E) (P : ℕ → Type 0) (n : ℕ) → OnOk r ((m : ℕ) → P m) → OnOk r (P n)
at_depth (Ok v) P n h = h n
at_depth (Err e) P n h = h

-- pieces one after another, the last of which may fail
pub behind : {X E : Type 0} (r : Result X E) (new middle old a b : List Instruction) → middle ≡ old ++ a → OnOk r
    (new ≡ middle ++ b) → OnOk r (new ≡ old ++ (a ++ b))
behind (Ok v) new middle old a b p h = and_then old middle new a b p h
behind (Err e) new middle old a b p h = h

-- ---- signs, chains and comparisons

-- a sign before what is not a number
pub minus_made : {X E : Type 0} (k : Scope) (e : t.Expr) (d x line n : ℕ) (r : Result X E)
    (new o2 o1 old : List Instruction) → None ≡ negated e → n ≡ even_from (suc d) → o1 ≡ old ++ expr_code k e n x → o2
    ≡ o1 ++ i.Literal d (pos 0) ∷ [] → OnOk r
    (new ≡ o2 ++ i.Arithmetic operator.Subtract d d (operand.Temporary n) 1 line ∷ []) → OnOk r
    (new ≡ old ++ minus_code (negated e) d (even_from (suc d)) line (expr_code k e (even_from (suc d)) x))
minus_made k e d x line n r new o2 o1 old unknown is p q h =
    subst (λ o. OnOk r (new ≡ old ++ minus_code o d (even_from (suc d)) line (expr_code k e (even_from (suc d)) x)))
    unknown
    (subst (λ m. OnOk r (new ≡ old ++ minus_code None d m line (expr_code k e m x))) is
    (behind r new o1 old (expr_code k e n x) (i.Literal d (pos 0) ∷ i.Arithmetic operator.Subtract d d
    (operand.Temporary n) 1 line ∷ []) p
    (behind r new o2 o1 (i.Literal d (pos 0) ∷ [])
    (i.Arithmetic operator.Subtract d d (operand.Temporary n) 1 line ∷ []) q h)))

pub sum_made : {X E : Type 0} (k : Scope) (e : t.Expr) (steps : t.ArithmeticSteps) (d x a : ℕ) (r : Result X E)
    (new o2 o1 old : List Instruction) → a ≡ kept (steps_call steps) d → o1 ≡ old ++ expr_code k e a x → o2 ≡ o1
    ++ steps_code k steps a x → OnOk r (new ≡ o2 ++ moved a d) → OnOk r
    (new ≡ old ++ front_code k (t.Arithmetic e steps) d x)
sum_made k e steps d x a r new o2 o1 old is p q h =
    subst (λ n. OnOk r (new ≡ old ++ ((expr_code k e n x ++ steps_code k steps n x) ++ moved n d))) is
    (behind r new o2 old (expr_code k e a x ++ steps_code k steps a x) (moved a d)
    (and_then old o1 o2 (expr_code k e a x) (steps_code k steps a x) p q) h)

pub truth_made : {X E : Type 0} (k : Scope) (o : BooleanOperator) (e : t.Expr) (rest : t.Operands) (d x a : ℕ)
    (r : Result X E) (new o2 o1 old : List Instruction) → a ≡ kept (operands_call rest) d → o1 ≡ old
    ++ (front_code k e a x ++ truth_finish e a) → o2 ≡ o1 ++ operands_code k o rest a x → OnOk r (new ≡ o2 ++ moved a d)
    → OnOk r (new ≡ old ++ front_code k (t.Logic o e rest) d x)
truth_made k o e rest d x a r new o2 o1 old is p q h =
    subst (λ n. OnOk r (new ≡ old ++ (((front_code k e n x ++ truth_finish e n) ++ operands_code k o rest n x)
    ++ moved n d))) is
    (behind r new o2 old ((front_code k e a x ++ truth_finish e a) ++ operands_code k o rest a x) (moved a d)
    (and_then old o1 o2 (front_code k e a x ++ truth_finish e a) (operands_code k o rest a x) p q) h)

abbrev pub pair_code : Scope → (a b : t.Expr) → (d x : ℕ) → List Instruction
pair_code k a b d x = expr_code k a d x ++ unless_known (literal_of b) (expr_code k b (even_from (suc d)) x)

pub pair_made : {X E : Type 0} (k : Scope) (a b : t.Expr) (d x m n : ℕ) (r : Result X E) (new o1 old : List Instruction)
    → m ≡ kept (expr_calls b) d → n ≡ even_from (suc m) → o1 ≡ old ++ expr_code k a m x → OnOk r
    (new ≡ o1 ++ unless_known (literal_of b) (expr_code k b n x)) → OnOk r
    (new ≡ old ++ pair_code k a b (kept (expr_calls b) d) x)
pair_made k a b d x m n r new o1 old is next p h =
    subst (λ y. OnOk r (new ≡ old ++ pair_code k a b y x)) is
    (behind r new o1 old (expr_code k a m x) (unless_known (literal_of b) (expr_code k b (even_from (suc m)) x)) p
    (subst (λ y. OnOk r (new ≡ o1 ++ unless_known (literal_of b) (expr_code k b y x))) next h))
