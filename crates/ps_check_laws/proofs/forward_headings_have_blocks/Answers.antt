use Rattle.ps_check_laws.proofs.Accepted.{forward_headings_have_blocks}
use Rattle.ps_check_laws.proofs.forward_headings_have_blocks.Goals as goal

pub returns : goal.returns
returns c = forward_headings_have_blocks
