use Rattle.std.proofs.Common.{inl}
use Rattle.ps_parse.proofs.Handed.{was_followed}
use Rattle.ps_parse.proofs.parser.Parser.followed_by.Goals as goal

pub returns-in-Ok : goal.returns-in-Ok
returns-in-Ok g c = (let w = was_followed c.args.read _ _ _ _ c.in-Ok.is c.expect-end.ensures.read in record {
  ok = rw c.and.ensures w.0;
  err = rw c.and.ensures w.1;
})

pub returns-in-Err : goal.returns-in-Err
returns-in-Err g c = record { ok = tt; err = λ ne. inl c.in-Err.is }
