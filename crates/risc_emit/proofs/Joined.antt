-- What pieces mean, appended one after the other.
use Rattle.std.proofs.Common.{◌≡◌, List, ◌++◌}
use Rattle.std.proofs.lemmas.List.{map-append}
use Rattle.risc_emit.specs.declared.pieces.Piece.{Piece as Word}
use Rattle.risc_emit.specs.Meant.{meant, all_meant}

pub meant_more : (xs ys : List Word) → all_meant (xs ++ ys) ≡ all_meant xs ++ all_meant ys
meant_more xs ys = map-append meant xs ys
