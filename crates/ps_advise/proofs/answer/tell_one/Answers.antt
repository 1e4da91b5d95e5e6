use Rattle.std.proofs.Common.{refl}
use Rattle.ps_advise.proofs.answer.tell_one.Goals as goal

pub returns-then-wants-clause-told : goal.returns-then-wants-clause-told
returns-then-wants-clause-told c text whole all = (
  c.in_ok-step.ensures.told text whole all,
  c.in_ok-step.ensures.rest text whole,
)

pub returns-clause-told : goal.returns-clause-told
returns-clause-told c text whole all = (
  c.in_ok-step.ensures.told text whole all,
  c.in_ok-is_next.ensures.rest text (c.in_ok-step.ensures.rest text whole),
)

pub returns-then-wants-clause-first : goal.returns-then-wants-clause-first
returns-then-wants-clause-first c refusal may refused = (
  (c.in_ok-step.ensures.first refusal may refused).0,
  λ none. refl,
)

pub returns-clause-first : goal.returns-clause-first
returns-clause-first c refusal may refused = (
  (c.in_ok-step.ensures.first refusal may refused).0,
  λ none. c.in_ok-is_next.ensures.end ((c.in_ok-step.ensures.first refusal may refused).1 none),
)
