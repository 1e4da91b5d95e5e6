use Rattle.std.proofs.Common.{arith}
use Rattle.std.proofs.lemmas.Bool.Decides.{nat_tests}
use Rattle.pascal_session.proofs.Fronts.{kept_front}
use Rattle.pascal_session.proofs.transfer.put_at_once.Goals as goal

pub returns-in_default-clause-err : goal.returns-in_default-clause-err
returns-in_default-clause-err g c =
    let write = c.in-Ok.ensures in (
      c.in-Ok.written,
      omega (arith, write.bound, c.if-written-bytes.false),
      write.bytes,
      λ none. absurd (omega (arith, write.some, none)),
    )

pub returns-in_default-2-clause-err : goal.returns-in_default-2-clause-err
returns-in_default-2-clause-err g c =
    kept_front _ _ _ _ _ (grind (arith, nat_tests, c.is_empty.ensures)) c.in_default.ensures.bytes
    c.in_default.ensures.counted
