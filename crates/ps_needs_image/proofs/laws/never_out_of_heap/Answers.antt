use Rattle.ps_needs_image.proofs.Never.{never_out_of_heap}
use Rattle.ps_needs_image.proofs.laws.never_out_of_heap.Goals as goal

pub returns : goal.returns
returns c = never_out_of_heap
