-- The chains of the checked tree: a variable's selectors (6.5), and operators of one kind with their operands (6.7.2),
-- from left to right. What comes next is added at the end of the chain before it, so `(a + b) + c` and `a + b + c` are
-- one chain of two steps.
use Rattle.std.specs.Prelude.{ℕ}
use Rattle.ps_tree.specs.declared.tree.operators.ArithmeticOperator.{ArithmeticOperator}
use Rattle.ps_tree.specs.declared.tree.operators.BooleanOperator.{BooleanOperator}
use Rattle.ps_tree.specs.declared.tree.operators.BooleanOperator.TheVariants.{And, Or}
use Rattle.ps_tree.specs.declared.tree.operators.SetOperator.{SetOperator}
use Rattle.ps_tree.specs.Tree.{Place, Variable, Selector, Selectors, no_selector, selector_before, ArithmeticSteps}
use Rattle.ps_tree.specs.Tree.{no_arithmetic_step, arithmetic_step_before, Operands, no_operand, operand_before}
use Rattle.ps_tree.specs.Tree.{SetSteps, no_set_step, set_step_before, Expr, Arithmetic, Logic, SetExpr, Combine}

-- ---- variables: a selector after the others

unfoldable pub selector_after : Selectors → Selector → Selectors
selector_after no_selector s = selector_before s no_selector
selector_after (selector_before first rest) s = selector_before first (selector_after rest s)

abbrev pub selected : Place → Selector → Place
selected (Variable base selectors) s = Variable base (selector_after selectors s)

-- ---- integers: an operator on the line, with its second operand

unfoldable pub arithmetic_step_after : ArithmeticSteps → ArithmeticOperator → Expr → ℕ → ArithmeticSteps
arithmetic_step_after no_arithmetic_step operator e line = arithmetic_step_before operator e line no_arithmetic_step
arithmetic_step_after (arithmetic_step_before p first n rest) operator e line = arithmetic_step_before p first n
    (arithmetic_step_after rest operator e line)

unfoldable pub calculated : ArithmeticOperator → ℕ → Expr → Expr → Expr
calculated operator line (Arithmetic first steps) e = Arithmetic first (arithmetic_step_after steps operator e line)
calculated operator line first e = Arithmetic first (arithmetic_step_before operator e line no_arithmetic_step)

-- ---- Boolean operands: a chain has one operator

unfoldable pub operand_after : Operands → Expr → Operands
operand_after no_operand e = operand_before e no_operand
operand_after (operand_before first rest) e = operand_before first (operand_after rest e)

abbrev pub begun : BooleanOperator → Expr → Expr → Expr
begun operator first e = Logic operator first (operand_before e no_operand)

unfoldable pub connected : BooleanOperator → Expr → Expr → Expr
connected And (Logic And first rest) e = Logic And first (operand_after rest e)
connected Or (Logic Or first rest) e = Logic Or first (operand_after rest e)
connected operator first e = begun operator first e

-- ---- sets

unfoldable pub set_step_after : SetSteps → SetOperator → SetExpr → SetSteps
set_step_after no_set_step operator e = set_step_before operator e no_set_step
set_step_after (set_step_before p first rest) operator e = set_step_before p first (set_step_after rest operator e)

unfoldable pub combined : SetOperator → SetExpr → SetExpr → SetExpr
combined operator (Combine first steps) e = Combine first (set_step_after steps operator e)
combined operator first e = Combine first (set_step_before operator e no_set_step)
