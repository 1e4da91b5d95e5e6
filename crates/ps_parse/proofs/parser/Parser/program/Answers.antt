use Rattle.std.proofs.Common.{inl, inr, refl}
use Rattle.ps_parse.specs.ReadPrograms as program
use Rattle.ps_parse.proofs.Handed.{was_read, was_refused}
use Rattle.ps_parse.proofs.Closed.{closed, refused}
use Rattle.ps_parse.proofs.parser.Parser.program.Goals as goal

pub returns-in_err-expect : goal.returns-in_err-expect
unfolding program.program
returns-in_err-expect c = refused _ _ _ _ c.from_residual.ensures.1 (λ ne. rw (c.in_err-expect.ensures.read ne) refl)

pub returns-in_err-name : goal.returns-in_err-name
unfolding program.program
returns-in_err-name c = refused _ _ _ _ c.from_residual-in_err-name.ensures.1
    (λ ne. rw (c.in_ok-expect.ensures.read, c.in_err-name.ensures.read ne) refl)

pub returns-in_err-parameters : goal.returns-in_err-parameters
unfolding program.program
returns-in_err-parameters c = refused _ _ _ _ c.from_residual-in_err-parameters.ensures.1
    (λ ne. elim (c.in_err-parameters.ensures.err ne) [
      | inl e ↦ rw (
        c.in_ok-expect.ensures.read,
        c.in_ok-name.ensures.read,
        was_refused _ _ _ _
            c.program_names-read.ensures (λ _. e) ne,
      ) refl
      | inr s ↦ rw (
        c.in_ok-expect.ensures.read,
        c.in_ok-name.ensures.read,
        was_read _ _ _ _ c.program_names-read.ensures s.1,
        s.2,
      )
          refl
    ])

pub returns-in_err-block : goal.returns-in_err-block
unfolding program.program
returns-in_err-block c = refused _ _ _ _ c.from_residual-in_err-block.ensures.1
    (λ ne. rw (
      c.in_ok-expect.ensures.read,
      c.in_ok-name.ensures.read,
      was_read _ _ _ _ c.program_names-read.ensures
          c.in_ok-parameters.ensures.ok.0,
      c.in_ok-parameters.ensures.ok.2,
      c.in_err-block.ensures ne,
    ) refl)

pub returns : goal.returns
unfolding program.program
returns c = rw (
  c.in_ok-expect.ensures.read,
  c.in_ok-name.ensures.read,
  was_read _ _ _ _ c.program_names-read.ensures
      c.in_ok-parameters.ensures.ok.0,
  c.in_ok-parameters.ensures.ok.2,
  c.in_ok-block.ensures,
  c.and.ensures,
)
    (closed _ _ _ _ c.expect-end.ensures.read)
