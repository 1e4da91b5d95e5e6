use Rattle.std.proofs.Common.{map}
use Rattle.ps_check_names.specs.Spelling.{spelled}
use Rattle.ps_check_names.specs.Views.{meaning_of}
use Rattle.ps_check_declarations.specs.Headings.{section_points}
use Rattle.ps_check_declarations.specs.Views.{frame_of}
use Rattle.ps_check.proofs.Lists.{Gained}
use Rattle.ps_check.proofs.headings.parameter_names.Given as goal

abbrev pub invariant-loop-written : goal.invariant-loop-written
invariant-loop-written l = Gained (spelled l.frame.reading.now.source.now)
    (section_points (frame_of l.frame) (map meaning_of l.known)) l.list l.written-index
    (map (λ name. name.items) l.names.items)
