use Rattle.ps_map.proofs.ShownLines.{word_added}
use Rattle.ps_map.proofs.listing.Lister.word.Goals as goal

pub returns : goal.returns
returns c = word_added c.push_str-2.result c.args.listed.now _ _ _ _ _ c.in_ok-head.ensures
    c.in_ok-push_str.ensures.bytes
    c.in_ok-variable.ensures c.push_str-2.ensures.bytes
