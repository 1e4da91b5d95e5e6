-- What the sections of the program denote in the definitions.
use Rattle.std.specs.Prelude.{List, [], ◌∷◌, option_map}
use Rattle.ps_tree.specs.TypeView.{type_of}
use Rattle.ps_check_names.specs.declared.sections.Section as Rust
use Rattle.ps_check_names.specs.declared.sections.Section.TheVariants.{Value, Variable, Routine}
use Rattle.ps_check_names.specs.Regions.{Section, ValueSection, VariableSection, RoutineSection, Sections, no_section}
use Rattle.ps_check_names.specs.Regions.{section_before}

unfoldable pub section_of : Rust.Section → Section
section_of (Value count ty) = ValueSection count (type_of ty)
section_of (Variable count ty) = VariableSection count (type_of ty)
section_of (Routine sections result) = RoutineSection sections.value (option_map type_of result)

-- lists of sections
unfoldable pub sections_of : List Rust.Section → Sections
sections_of [] = no_section
sections_of (s ∷ rest) = section_before (section_of s) (sections_of rest)
