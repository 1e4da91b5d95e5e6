use Rattle.std.proofs.Common.{◌≡◌, [], map}
use Rattle.ps_check_judgement.proofs.Lists.{Stepped}
use Rattle.ps_check_names.specs.SectionViews.{section_of}
use Rattle.ps_check_names.specs.Views.{meaning_of}
use Rattle.ps_check_declarations.specs.Headings.{add_section, section}
use Rattle.ps_check_declarations.specs.Views.{frame_of, hidden_of}
use Rattle.ps_check_declarations.proofs.headings.+heading.Given as goal

abbrev pub invariant-all_sections-loop-written : goal.invariant-all_sections-loop-written
invariant-all_sections-loop-written l = Stepped
    (add_section (frame_of l.place.frame) (map meaning_of l.known) l.names (hidden_of l.place.hidden)) ([], 0)
    (map (section (frame_of l.place.frame) (map meaning_of l.known)) l.list) l.written-index
    (map section_of l.done.items, l.defined) × (l.hiding ≡ l.fn.hiding)
