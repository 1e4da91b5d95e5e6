-- The code of chains, item by item.
use Rattle.std.proofs.Common.{◌≡◌, ℕ, ℤ, suc, List, [], ◌∷◌, ◌++◌, Option, refl, sym, ap, ◌∙◌, append_assoc}
use Rattle.ps_tree.specs.Tree as Tree
use Rattle.ps_tree.specs.declared.tree.operators.BooleanOperator.{BooleanOperator}
use Rattle.ps_tree.specs.declared.tree.Expr.{Expr}
use Rattle.ps_tree.specs.declared.tree.ArithmeticStep.{ArithmeticStep, out-ArithmeticStep}
use Rattle.ps_tree.specs.View.{expr_of, arithmetic_of, operands_of}
use Rattle.tac_code.specs.declared.code.Instruction.{Instruction}
use Rattle.tac_code.specs.declared.code.Instruction.TheVariants as i
use Rattle.tac_code.specs.declared.code.Operand.{Operand}
use Rattle.tac_code.specs.declared.code.Operand.TheVariants as operand
use Rattle.tac_code.specs.declared.code.Operator.{Operator}
use Rattle.tac_code.specs.declared.code.BitOperator.{BitOperator}
use Rattle.ps_lower_code.specs.Scopes.{Scope, even_from, operand_of, unless_known}
use Rattle.ps_lower_code.specs.Values.{literal_of, operator_of, bit_operator_of, truth_finish, front_code, steps_code}
use Rattle.ps_lower_code.specs.Values.{operands_code}
use Rattle.ps_lower_code.specs.Statements.{expr_code}

abbrev pub steps_added : Scope → (a x : ℕ) → List ArithmeticStep → List Instruction
steps_added k a x l = steps_code k (arithmetic_of l) a x

abbrev pub step_added : Scope → (a x : ℕ) → ArithmeticStep → List Instruction
step_added k a x s =
    unless_known (literal_of (expr_of (out-ArithmeticStep s).operand))
    (expr_code k (expr_of (out-ArithmeticStep s).operand) (even_from (suc a)) x)
    ++ (i.Arithmetic (operator_of (out-ArithmeticStep s).operator) a a
    (operand_of (literal_of (expr_of (out-ArithmeticStep s).operand)) (even_from (suc a))) 1
    (out-ArithmeticStep s).line.number ∷ [])

pub steps_nothing : (k : Scope) (a x : ℕ) → steps_added k a x [] ≡ []
unfolding arithmetic_of
steps_nothing k a x = refl

pub steps_further : (k : Scope) (a x : ℕ) (s : ArithmeticStep) (rest : List ArithmeticStep) → steps_added k a x
    (s ∷ rest) ≡ step_added k a x s ++ steps_added k a x rest
unfolding arithmetic_of
steps_further k a x s rest =
    sym (append_assoc (unless_known (literal_of (expr_of (out-ArithmeticStep s).operand))
    (expr_code k (expr_of (out-ArithmeticStep s).operand) (even_from (suc a)) x))
    (i.Arithmetic (operator_of (out-ArithmeticStep s).operator) a a
    (operand_of (literal_of (expr_of (out-ArithmeticStep s).operand)) (even_from (suc a))) 1
    (out-ArithmeticStep s).line.number ∷ []) (steps_added k a x rest))

abbrev pub operands_added : Scope → BooleanOperator → (a x : ℕ) → List Expr → List Instruction
operands_added k o a x l = operands_code k o (operands_of l) a x

abbrev pub operand_added : Scope → BooleanOperator → (a x : ℕ) → Expr → List Instruction
operand_added k o a x e =
    (front_code k (expr_of e) (even_from (suc a)) x ++ truth_finish (expr_of e) (even_from (suc a)))
    ++ (i.Bits (bit_operator_of o) a a (operand.Temporary (even_from (suc a))) ∷ [])

pub operands_nothing : (k : Scope) (o : BooleanOperator) (a x : ℕ) → operands_added k o a x [] ≡ []
unfolding operands_of
operands_nothing k o a x = refl

pub operands_further : (k : Scope) (o : BooleanOperator) (a x : ℕ) (e : Expr) (rest : List Expr)
    → operands_added k o a x (e ∷ rest) ≡ operand_added k o a x e ++ operands_added k o a x rest
unfolding operands_of
operands_further k o a x e rest =
    sym (append_assoc (front_code k (expr_of e) (even_from (suc a)) x ++ truth_finish (expr_of e) (even_from (suc a)))
    (i.Bits (bit_operator_of o) a a (operand.Temporary (even_from (suc a))) ∷ []) (operands_added k o a x rest))

-- the code of a step as it is made
pub step_told : (k : Scope) (a x t : ℕ) (s : ArithmeticStep) (o : Operator) (literal : Option ℤ) (right : Operand) → t
    ≡ even_from (suc a) → o ≡ operator_of (out-ArithmeticStep s).operator → literal ≡ literal_of
    (expr_of (out-ArithmeticStep s).operand) → right ≡ operand_of literal t → unless_known
    (literal_of (expr_of (out-ArithmeticStep s).operand)) (expr_code k (expr_of (out-ArithmeticStep s).operand) t x)
    ++ (i.Arithmetic o a a right 1 (out-ArithmeticStep s).line.number ∷ []) ≡ step_added k a x s
step_told k a x t s o literal right e f g h =
    let y : Tree.Expr = expr_of (out-ArithmeticStep s).operand in
    let line : ℕ = (out-ArithmeticStep s).line.number in
    ap (λ n. unless_known (literal_of y) (expr_code k y n x) ++ (i.Arithmetic o a a right 1 line ∷ [])) e
    ∙ ap (λ p. unless_known (literal_of y) (expr_code k y (even_from (suc a)) x)
    ++ (i.Arithmetic p a a right 1 line ∷ [])) f
    ∙ ap (λ r. unless_known (literal_of y) (expr_code k y (even_from (suc a)) x)
    ++ (i.Arithmetic (operator_of (out-ArithmeticStep s).operator) a a r 1 line ∷ []))
    (h ∙ ap (λ l. operand_of l t) g ∙ ap (λ n. operand_of (literal_of y) n) e)

pub operand_told : (k : Scope) (o : BooleanOperator) (a x t : ℕ) (e : Expr) (p : BitOperator) → t ≡ even_from (suc a)
    → p ≡ bit_operator_of o → (front_code k (expr_of e) t x ++ truth_finish (expr_of e) t)
    ++ (i.Bits p a a (operand.Temporary t) ∷ []) ≡ operand_added k o a x e
operand_told k o a x t e p f g =
    ap (λ n. (front_code k (expr_of e) n x ++ truth_finish (expr_of e) n) ++ (i.Bits p a a (operand.Temporary n) ∷ []))
    f
    ∙ ap (λ q. (front_code k (expr_of e) (even_from (suc a)) x ++ truth_finish (expr_of e) (even_from (suc a)))
    ++ (i.Bits q a a (operand.Temporary (even_from (suc a))) ∷ [])) g
