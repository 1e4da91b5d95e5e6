use Rattle.ps_check_laws.proofs.Accepted.{names_mean_their_points}
use Rattle.ps_check_laws.proofs.names_mean_their_points.Goals as goal

pub returns : goal.returns
returns c = names_mean_their_points
