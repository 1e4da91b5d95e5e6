use Rattle.ps_map.proofs.ShownLines.{one_added}
use Rattle.ps_map.proofs.listing.Lister.add_line.Goals as goal

pub returns : goal.returns
returns c = one_added c.push_str-2.result c.args.line.now _ _ _ c.in_ok-push_str.ensures.bytes
    c.push_str-2.ensures.bytes
