use Rattle.std.proofs.Common.{sym, ◌∙◌, refl}
use Rattle.ps_parse.specs.Steps.{eat}
use Rattle.ps_parse.specs.ReadStatements as statement
use Rattle.ps_parse.proofs.Closed.{closed, refused}
use Rattle.ps_parse.proofs.parser.Parser.after_name.Goals as goal

pub returns-in_err-parameters : goal.returns-in_err-parameters
unfolding statement.after_name eat
returns-in_err-parameters c = refused _ _ _ _ c.from_residual.ensures.1
    (λ ne. rw (sym c.eat.ensures.found ∙ c.if-eat.true, ← c.eat.ensures.after, c.in_err-parameters.ensures ne) refl)

pub returns-then-eat : goal.returns-then-eat
unfolding statement.after_name eat
returns-then-eat c = rw (
  sym c.eat.ensures.found
      ∙ c.if-eat.true,
  ← c.eat.ensures.after,
  c.in_ok-parameters.ensures,
  c.and.ensures,
)
    (closed _ _ _ _ c.expect-end.ensures.read)

pub returns-in_err-selectors : goal.returns-in_err-selectors
unfolding statement.after_name eat
returns-in_err-selectors c = refused _ _ _ _ c.from_residual-in_err-selectors.ensures.1
    (λ ne. rw (sym c.eat.ensures.found ∙ c.if-eat.false, ← c.eat.ensures.after, c.in_err-selectors.ensures ne) refl)

pub returns : goal.returns
unfolding statement.after_name eat
returns c = rw (
  sym c.eat.ensures.found ∙ c.if-eat.false,
  ← c.eat.ensures.after,
  c.in_ok-selectors.ensures,
  c.accept-becomes.ensures.read,
) c.assigned.ensures
