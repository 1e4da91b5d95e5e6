use Rattle.std.proofs.Common.{◌≡◌, ◌++◌, ◌*◌, drop}
use Rattle.std.specs.String.{string_bytes}
use Rattle.risc_image_list.specs.Listing.{listing, listing_from}
use Rattle.risc_image_list.proofs.list.Given as goal

-- what was listed, with the lines still to come, is the listing
abbrev pub invariant-loop-k : goal.invariant-loop-k
invariant-loop-k l = (l.address ≡ 4 * l.k)
    × (string_bytes l.text ++ listing_from l.view.traps l.address (drop l.k l.view.code) ≡ listing l.view)
