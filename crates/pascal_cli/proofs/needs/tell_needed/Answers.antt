use Rattle.std.proofs.Common.{inr}
use Rattle.pascal_cli.proofs.Failed.{refusal_told}
use Rattle.pascal_cli.proofs.needs.tell_needed.Goals as goal

pub returns-in-Ok : goal.returns-in-Ok
returns-in-Ok g c = inr (c.in-Ok.needed, c.in-Ok.ensures.needed)

pub returns-in-Err : goal.returns-in-Err
returns-in-Err g c = refusal_told _ _ _ _ _ c.in-Err.ensures.refused c.report_refusal.ensures
