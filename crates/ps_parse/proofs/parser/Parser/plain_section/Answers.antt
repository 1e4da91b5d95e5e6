use Rattle.std.proofs.Common.{inl, inr, refl}
use Rattle.ps_parse.proofs.Handed.{was_read, was_refused}
use Rattle.ps_parse.proofs.Closed.{refused}
use Rattle.ps_parse.proofs.parser.Parser.plain_section.Goals as goal

pub returns-in_err-names : goal.returns-in_err-names
returns-in_err-names c = refused _ _ _ _ c.from_residual.ensures.1
    (λ ne. elim (c.in_err-names.ensures.err ne) [
      | inl e ↦ rw (was_refused _ _ _ _ c.names-read.ensures (λ _. e) ne) refl
      | inr s ↦ rw
          (was_read _ _ _ _ c.names-read.ensures s.1, s.2) refl
    ])

pub returns-in_err-ty : goal.returns-in_err-ty
returns-in_err-ty c = refused _ _ _ _ c.from_residual-in_err-ty.ensures.1
    (λ ne. rw (
      was_read _ _ _ _ c.names-read.ensures c.in_ok-names.ensures.ok.0,
      c.in_ok-names.ensures.ok.2,
      c.in_err-ty.ensures.read ne,
    ) refl)

pub returns-then-are_variable : goal.returns-then-are_variable
returns-then-are_variable c = rw (
  was_read _ _ _ _ c.names-read.ensures c.in_ok-names.ensures.ok.0,
  c.in_ok-names.ensures.ok.2,
  c.in_ok-ty.ensures.read,
  c.if-are_variable.true,
) refl

pub returns-else-are_variable : goal.returns-else-are_variable
returns-else-are_variable c = rw (
  was_read _ _ _ _ c.names-read.ensures c.in_ok-names.ensures.ok.0,
  c.in_ok-names.ensures.ok.2,
  c.in_ok-ty.ensures.read,
  c.if-are_variable.false,
) refl
