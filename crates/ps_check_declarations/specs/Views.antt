-- What the values of the program denote in the definitions.
use Rattle.std.specs.Prelude.{[], ◌∷◌, map, option_map}
use Rattle.ps_tree.specs.View.{type_of}
use Rattle.ps_check_names.specs.SectionViews.{section_of}
use Rattle.ps_check_names.specs.Views.{scope_of, meaning_of}
use Rattle.ps_check_declarations.specs.declared.frame.Frame as RustFrame
use Rattle.ps_check_declarations.specs.declared.frame.Declared as RustDeclared
use Rattle.ps_check_declarations.specs.declared.frame.Hidden as RustHidden
use Rattle.ps_check_declarations.specs.declared.frame.Hidden.{Nothing, Own'}
use Rattle.ps_check_declarations.specs.declared.headings.Signature as RustSignature
use Rattle.ps_check_declarations.specs.Denoters.{Frame, Declared, Hidden}
use Rattle.ps_check_declarations.specs.Headings.{Signature}

abbrev pub frame_of : RustFrame.Frame → Frame
frame_of f = record {
  text = f.reading.now.source.now;
  routine = f.routine;
  names = f.names.now;
  begun = f.begun.now;
  outer = scope_of f.outer.now;
}

abbrev pub declared_of : RustDeclared.Declared → Declared
declared_of d = record {
  known = map meaning_of d.known.items;
  domains = map type_of d.domains.items;
  pending = d.pending.items;
  variables = map type_of d.variables.items;
}

unfoldable pub hidden_of : RustHidden.Hidden → Hidden
hidden_of Nothing = []
hidden_of (Own' names defined p outer) = (names.now, defined) ∷ hidden_of outer

abbrev pub signature_of : RustSignature.Signature → Signature
signature_of s = (map section_of s.sections.items, option_map type_of s.result)
