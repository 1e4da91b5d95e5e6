-- The pieces that the program writes, in the words of the law of steps.
use Rattle.std.specs.Prelude.{List, map}
use Rattle.risc_alloc.specs.declared.homes.Home.{Home}
use Rattle.risc_alloc.specs.declared.homes.Home.TheVariants as home
use Rattle.risc_emit_forms.specs.Pieces as piece
use Rattle.risc_emit_forms.specs.Pieces.{AtPlace, AtEntry, AtText}
use Rattle.risc_emit.specs.declared.pieces.Label.{Label}
use Rattle.risc_emit.specs.declared.pieces.Label.TheVariants.{Place, Entry, Text}
use Rattle.risc_emit.specs.declared.pieces.Piece.{Piece}
use Rattle.risc_emit.specs.declared.pieces.Piece.TheVariants.{Plain, Goes, Fails, Enters, Joins, EntersAt, High, Low}
use Rattle.risc_emit.specs.declared.location.Location.{Location}
use Rattle.risc_emit.specs.declared.location.Location.TheVariants.{Slot, Register}

abbrev pub label_of : Label → piece.Label
label_of (Place r k) = AtPlace r k
label_of (Entry r) = AtEntry r
label_of (Text r k) = AtText r k

abbrev pub meant : Piece → piece.Piece
meant (Plain i) = piece.Plain i
meant (Goes condition label) = piece.Goes condition (label_of label)
meant (Fails condition number line) = piece.Fails condition number line
meant (Enters r line) = piece.Enters r line
meant (Joins r) = piece.Joins r
meant (EntersAt q line) = piece.EntersAt q line
meant (High q label) = piece.High q (label_of label)
meant (Low q label) = piece.Low q (label_of label)

abbrev pub all_meant : List Piece → List piece.Piece
all_meant pieces = map meant pieces

abbrev pub home_of_location : Location → Home
home_of_location (Slot k) = home.Slot k
home_of_location (Register q) = home.Reg q
