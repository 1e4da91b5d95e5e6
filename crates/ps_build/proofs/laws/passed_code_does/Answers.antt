-- The laws of the lowering and of the pass, put together.
use Rattle.ps_build.proofs.Lowered.{passed_code_does}
use Rattle.ps_build.proofs.laws.passed_code_does.Goals as goal

pub returns : goal.returns
returns c =
    passed_code_does c.writes_are_done.ensures c.programs_lower_in_turns.ensures c.programs_go_on.ensures
