use Rattle.ps_lower_least.proofs.Gathering.{adds_as}
use Rattle.ps_lower_least.proofs.Arms.{read_is}
use Rattle.ps_lower_least.proofs.walk.add_read.Goals as goal

pub returns : goal.returns
returns c = adds_as _ _ _ _ (read_is _ _ c.in-Char.is) c.add_place.ensures
