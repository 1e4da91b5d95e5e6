use Rattle.ps_needs_image.proofs.Never.{never_out_of_stack}
use Rattle.ps_needs_image.proofs.laws.never_out_of_stack.Goals as goal

pub returns : goal.returns
returns c = never_out_of_stack c.needs_enough.ensures
