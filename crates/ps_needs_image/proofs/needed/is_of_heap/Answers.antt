use Rattle.ps_needs_image.proofs.Standing.{has_row}
use Rattle.ps_needs_image.proofs.needed.is_of_heap.Goals as goal

pub returns-in-Some-clause-some : goal.returns-in-Some-clause-some
returns-in-Some-clause-some c heap none =
    has_row c.args.image.now c.args.k c.trap.result c.in-Some.row c.trap.ensures c.in-Some.is heap none
