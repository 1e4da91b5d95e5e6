use Rattle.ps_check_laws.proofs.Denoted.{one_point_is_denoted}
use Rattle.ps_check_laws.proofs.one_point_is_denoted.Goals as goal

pub returns : goal.returns
returns c = one_point_is_denoted
