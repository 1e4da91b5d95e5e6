use Rattle.std.proofs.Common.{◌≡◌, [], map}
use Rattle.ps_tree.specs.View.{type_of}
use Rattle.ps_check_judgement.proofs.Lists.{Stepped}
use Rattle.ps_check_declarations.specs.Denoters.{add_fields, fields}
use Rattle.ps_check_declarations.specs.Views.{frame_of, hidden_of, declared_of}
use Rattle.ps_check_declarations.proofs.denoters.+denoter.Given as goal

abbrev pub invariant-all_fields-loop-section : goal.invariant-all_fields-loop-section
invariant-all_fields-loop-section l = Stepped (add_fields (frame_of l.place.frame) l.names (hidden_of l.place.hidden))
    ([], declared_of l.fn.declared) (map (fields (frame_of l.place.frame)) l.sections) l.section-index
    (map type_of l.done.items, declared_of l.declared) × (l.hiding ≡ l.fn.hiding)
