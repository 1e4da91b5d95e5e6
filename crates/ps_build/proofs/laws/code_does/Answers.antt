-- The laws of the lowering, put together.
use Rattle.ps_build.proofs.Lowered.{code_does}
use Rattle.ps_build.proofs.laws.code_does.Goals as goal

pub returns : goal.returns
returns c =
    code_does c.writes_are_done.ensures c.programs_lower_in_turns.ensures c.programs_go_on.ensures
