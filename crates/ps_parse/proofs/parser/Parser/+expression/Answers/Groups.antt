-- The answers of factors in parentheses.

use Rattle.std.proofs.Common.{◌∙◌, sym, arith}
use Rattle.std.proofs.lemmas.Result.{err_from_is_err_and}
use Rattle.ps_parse.specs.Steps.{left_of}
use Rattle.ps_parse.specs.ReadExpressions as expression
use Rattle.ps_parse.proofs.Parentheses.{nowhere, group_refused, group_begun, closed_begun, turn_refused, turn_alone}
use Rattle.ps_parse.proofs.Parentheses.{turn_behind, behind_refused, last_ends}
use Rattle.ps_parse.proofs.Innermost.{open_bounds}
use Rattle.ps_parse.proofs.Closed.{closed}
use Rattle.ps_parse.proofs.parser.Parser.+expression.Goals as goal

pub group-returns-in_err-inner : goal.group-returns-in_err-inner
group-returns-in_err-inner t c =
    let p = err_from_is_err_and c.from_residual.result c.from_residual.ensures.1 in
    rw (p.1, p.2) (group_refused c.args.depth c.args.at c.args.self.now.rest.now nowhere c.opened-opened.result
    c.opened-opened.new.self.rest.now c.opened-opened.ensures.count c.opened-opened.ensures.after
    (left_of c.in_err-inner.field-0.0) c.in_err-inner.ensures)

pub group-loop-closed-init : goal.group-loop-closed-init
group-loop-closed-init t c = (
  rw c.closed_ahead-redundant.ensures.after (closed_begun c.closed_ahead-redundant.result c.args.depth c.args.at
      c.args.self.now.rest.now nowhere c.opened-opened.result c.in_ok-inner.inner
      (expression.group (expression.read_expr c.args.depth) c.args.at c.args.self.now.rest.now)
      c.boxed_expr.new.self.rest.now
      (group_begun c.args.depth c.args.at c.args.self.now.rest.now nowhere c.opened-opened.result
      c.opened-opened.new.self.rest.now c.opened-opened.ensures.count c.opened-opened.ensures.after
      c.in_ok-inner.inner c.boxed_expr.new.self.rest.now c.in_ok-inner.ensures)
      c.closed_ahead-redundant.ensures.most c.closed_ahead-redundant.ensures.closing),
  omega arith,
)

pub group-returns-in_err-expect : goal.group-returns-in_err-expect
group-returns-in_err-expect t c =
    let p = err_from_is_err_and c.from_residual-in_err-expect.result c.from_residual-in_err-expect.ensures.1 in
    rw (p.1, p.2) (turn_refused c.args.depth c.args.at c.args.self.now.rest.now nowhere c.opened-opened.result
    c.loop-closed.closed c.loop-closed.redundant c.loop-closed.inner
    (expression.group (expression.read_expr c.args.depth) c.args.at c.args.self.now.rest.now)
    c.loop-closed.self.rest.now c.loop-closed.invariant.0
    (left_of c.in_err-expect.field-0.0) c.loop-closed-test.true c.in_err-expect.ensures.read)

pub group-loop-closed-preserved-then-not-sees_operator : goal.group-loop-closed-preserved-then-not-sees_operator
group-loop-closed-preserved-then-not-sees_operator t c = (
  turn_alone c.args.depth c.args.at c.args.self.now.rest.now nowhere c.opened-opened.result c.loop-closed.closed
      c.loop-closed.redundant c.loop-closed.inner
      (expression.group (expression.read_expr c.args.depth) c.args.at c.args.self.now.rest.now)
      c.loop-closed.self.rest.now c.loop-closed.invariant.0 c.in_ok-expect.field-0 c.expect.new.self.rest.now
      c.loop-closed-test.true c.in_ok-expect.ensures.read
      (sym c.sees_operator.ensures ∙ c.if-not-sees_operator.true),
  omega (arith, c.loop-closed.invariant.1),
)

pub group-bounds-tokens-open : goal.group-bounds-tokens-open
group-bounds-tokens-open t c =
    let bounds = open_bounds c.args.depth c.args.self.now.rest.now in
    omega (arith, c.loop-closed-test.true, c.opened-opened.ensures.count, bounds.1)

pub group-returns-in_err-inner-2 : goal.group-returns-in_err-inner-2
group-returns-in_err-inner-2 t c =
    let p = err_from_is_err_and c.from_residual-in_err-inner-2.result c.from_residual-in_err-inner-2.ensures.1 in
    rw (p.1, p.2) (behind_refused c.args.depth c.args.at c.args.self.now.rest.now nowhere c.opened-opened.result
    c.loop-closed.closed c.loop-closed.redundant c.loop-closed.inner
    (expression.group (expression.read_expr c.args.depth) c.args.at c.args.self.now.rest.now)
    c.loop-closed.self.rest.now c.loop-closed.invariant.0 c.in_ok-expect.field-0 c.expect.new.self.rest.now
    c.loop-closed-test.true c.in_ok-expect.ensures.read
    (left_of c.in_err-inner-2.field-0.0) c.in_err-inner-2.ensures)

pub group-loop-closed-preserved : goal.group-loop-closed-preserved
group-loop-closed-preserved t c = (
  turn_behind c.args.depth c.args.at c.args.self.now.rest.now nowhere c.opened-opened.result c.loop-closed.closed
      c.loop-closed.redundant c.loop-closed.inner
      (expression.group (expression.read_expr c.args.depth) c.args.at c.args.self.now.rest.now)
      c.loop-closed.self.rest.now c.loop-closed.invariant.0 c.in_ok-expect.field-0 c.expect.new.self.rest.now
      c.loop-closed-test.true c.in_ok-expect.ensures.read c.in_ok-inner-2.inner c.boxed_from.new.self.rest.now
      (sym c.sees_operator.ensures ∙ c.if-not-sees_operator.false) c.in_ok-inner-2.ensures,
  omega arith,
)

pub group-returns : goal.group-returns
group-returns t c = rw c.and.ensures (last_ends c.args.depth c.args.at c.args.self.now.rest.now nowhere
    c.opened-opened.result c.loop-closed.closed c.loop-closed.redundant c.loop-closed.inner
    (expression.group (expression.read_expr c.args.depth) c.args.at c.args.self.now.rest.now)
    c.loop-closed.self.rest.now c.loop-closed.invariant.0 c.expect-end.result c.expect-end.new.self.rest.now
    c.loop-closed-test.false c.expect-end.ensures.read)
