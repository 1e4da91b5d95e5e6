use Rattle.ps_map.proofs.ShownLines.{more_added}
use Rattle.ps_map.proofs.listing.Lister.head.Goals as goal

pub returns : goal.returns
returns c = more_added c.source.result _ _ _ c.in_ok-name.ensures c.source.ensures
