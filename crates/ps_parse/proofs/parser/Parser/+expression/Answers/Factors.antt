-- The answers of factors.

use Rattle.std.proofs.Common.{◌≡◌, suc, ◌-◌, arith, refl}
use Rattle.ps_syntax.specs.declared.expression.MultipliedFactor.{roll-MultipliedFactor}
use Rattle.ps_parse.specs.ReadExpressions as expression
use Rattle.ps_parse.proofs.Handed.{boxed}
use Rattle.ps_parse.proofs.Loops.{item_none, item_refused, item_read}
use Rattle.ps_parse.proofs.LocalExpressions.{operand_turn}
use Rattle.ps_parse.proofs.Closed.{refused}
use Rattle.ps_parse.proofs.parser.Parser.+expression.Goals as goal

pub factors-returns-in_err-factor : goal.factors-returns-in_err-factor
unfolding expression.multiplied
factors-returns-in_err-factor t c = refused _ _ _ _ c.from_residual.ensures.1
    (λ ne. item_refused (expression.multiplied (expression.read_factor c.args.depth))
    (operand_turn c.args.depth) c.loop-operator.found c.loop-operator.self.rest.now _ c.loop-operator.invariant
    (rw (c.in-Some.ensures.read, c.in_err-factor.ensures ne) refl))

pub factors-returns : goal.factors-returns
unfolding expression.multiplied
factors-returns t c = item_none (expression.multiplied (expression.read_factor c.args.depth))
    (operand_turn c.args.depth) c.loop-operator.found c.loop-operator.self.rest.now c.multiplying.new.self.rest.now
    c.loop-operator.invariant (rw (c.multiplying.ensures.read, c.in_default.is) refl)

pub factors-loop-operator-preserved : goal.factors-loop-operator-preserved
unfolding expression.multiplied
factors-loop-operator-preserved t c = item_read (expression.multiplied (expression.read_factor c.args.depth))
    (operand_turn c.args.depth) c.loop-operator.found c.loop-operator.self.rest.now _ (roll-MultipliedFactor (record {
      operator = c.in-Some.operator;
      at = c.in-Some.at;
      factor = c.in_ok-factor.factor;
    })) _ c.loop-operator.invariant (rw (c.in-Some.ensures.read, c.in_ok-factor.ensures) refl) c.in_ok-push.ensures.ok

pub factors-loop-operator-smaller : goal.factors-loop-operator-smaller
unfolding expression.multiplied
factors-loop-operator-smaller t c = (operand_turn c.args.depth).takes c.loop-operator.self.rest.now
    (roll-MultipliedFactor (record {
      operator = c.in-Some.operator;
      at = c.in-Some.at;
      factor = c.in_ok-factor.factor;
    })) _ (rw (c.in-Some.ensures.read, c.in_ok-factor.ensures) refl)

pub negated-returns : goal.negated-returns
unfolding expression.read_negated
negated-returns t c =
    let d : c.args.depth ≡ suc (c.args.depth - 1) = omega arith in
    let read = boxed (expression.read_factor (c.args.depth - 1) c.args.self.now.rest.now) c.factor.result
    c.boxed_answer.result c.factor.new.self.rest.now c.boxed_answer.ensures.ok c.boxed_answer.ensures.err
    c.factor.ensures in
    rw d read

pub factor-returns-in_err-negated-in-Not : goal.factor-returns-in_err-negated-in-Not
unfolding expression.factor
factor-returns-in_err-negated-in-Not t c = refused _ _ _ _ c.from_residual.ensures.1
    (λ ne. rw (← c.in-Some.ensures, c.in-Not.is, ← c.skip-in-Not.ensures.after, c.in_err-negated-in-Not.ensures ne)
    refl)

pub factor-returns-in-LeftBracket : goal.factor-returns-in-LeftBracket
unfolding expression.factor
factor-returns-in-LeftBracket t c = rw (← c.in-Some.ensures, c.in-LeftBracket.is, ← c.skip-in-LeftBracket.ensures.after)
    c.set.ensures

pub factor-returns-in-LeftParen : goal.factor-returns-in-LeftParen
unfolding expression.factor
factor-returns-in-LeftParen t c = rw (← c.in-Some.ensures, c.in-LeftParen.is, ← c.skip-in-LeftParen.ensures.after)
    c.group.ensures

pub factor-returns-in_ok-negated-in-Not : goal.factor-returns-in_ok-negated-in-Not
unfolding expression.factor
factor-returns-in_ok-negated-in-Not t c = rw
    (← c.in-Some.ensures, c.in-Not.is, ← c.skip-in-Not.ensures.after, c.in_ok-negated-in-Not.ensures) refl
