use Rattle.std.proofs.Common.{◌∷◌}
use Rattle.std.specs.String.{string_bytes}
use Rattle.ps_map.proofs.ShownLines.{Stand, lines_in}
use Rattle.ps_map.proofs.listing.listing_with_text.Given as goal

-- the lines so far stand in what is made
abbrev pub invariant-loop-listed : goal.invariant-loop-listed
invariant-loop-listed l = Stand (lines_in l.yielded) (10 ∷ string_bytes l.lister.out)
