use Rattle.std.proofs.Common.{inl, inr, refl}
use Rattle.ps_parse.specs.ReadPrograms as program
use Rattle.ps_parse.proofs.Handed.{was_read, was_refused}
use Rattle.ps_parse.proofs.Closed.{closed, refused}
use Rattle.ps_parse.proofs.parser.Parser.declared_variables.Goals as goal

pub returns-in_err-names : goal.returns-in_err-names
unfolding program.variables
returns-in_err-names c = refused _ _ _ _ c.from_residual.ensures.1
    (λ ne. elim (c.in_err-names.ensures.err ne) [
      | inl e ↦ rw (was_refused _ _ _ _ c.names-read.ensures (λ _. e) ne) refl
      | inr s ↦ rw
          (was_read _ _ _ _ c.names-read.ensures s.1, s.2) refl
    ])

pub returns-in_err-ty : goal.returns-in_err-ty
unfolding program.variables
returns-in_err-ty c = refused _ _ _ _ c.from_residual-in_err-ty.ensures.1
    (λ ne. rw (
      was_read _ _ _ _ c.names-read.ensures c.in_ok-names.ensures.ok.0,
      c.in_ok-names.ensures.ok.2,
      c.in_err-ty.ensures ne,
    ) refl)

pub returns : goal.returns
unfolding program.variables
returns c = rw (
  was_read _ _ _ _ c.names-read.ensures c.in_ok-names.ensures.ok.0,
  c.in_ok-names.ensures.ok.2,
  c.in_ok-ty.ensures,
  c.and.ensures,
) (closed _ _ _ _ c.expect-end.ensures.read)
