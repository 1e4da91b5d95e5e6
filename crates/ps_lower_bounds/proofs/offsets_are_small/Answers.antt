use Rattle.ps_lower_bounds.proofs.Offsets.{offsets_small}
use Rattle.ps_lower_bounds.proofs.offsets_are_small.Goals as goal

-- src/lib.rt:27:1
pub returns : goal.returns
returns c = offsets_small
