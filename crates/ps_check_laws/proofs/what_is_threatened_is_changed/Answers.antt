use Rattle.ps_check_laws.proofs.Threatened.{what_is_threatened_is_changed}
use Rattle.ps_check_laws.proofs.what_is_threatened_is_changed.Goals as goal

pub returns : goal.returns
returns c = what_is_threatened_is_changed
