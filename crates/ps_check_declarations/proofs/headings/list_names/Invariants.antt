use Rattle.std.proofs.Common.{[], map}
use Rattle.ps_check_names.specs.Views.{meaning_of}
use Rattle.ps_check_declarations.specs.Headings.{section_points}
use Rattle.ps_check_declarations.specs.Views.{frame_of}
use Rattle.ps_check_declarations.proofs.Walks.{Walked}
use Rattle.ps_check_declarations.proofs.headings.list_names.Given as goal

abbrev pub invariant-loop-written : goal.invariant-loop-written
invariant-loop-written l = Walked (frame_of l.place.frame).text
    (section_points (frame_of l.place.frame) (map meaning_of l.known)) [] l.list l.written-index l.names
