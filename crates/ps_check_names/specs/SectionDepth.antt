-- What is in a section is less deep. No contract speaks of it: it makes a walk through a list terminate.
use Rattle.std.specs.Prelude.{◌≤◌, max, List, [], ◌∷◌}
use Rattle.std.proofs.Common.{arith}
use denote.Param.Weighed.{most}
use Rattle.ps_check_names.specs.declared.sections.Section as Rust
use Rattle.ps_check_names.specs.declared.sections.Section.TheVariants.{Value, Variable, Routine}
use Rattle.ps_check_names.specs.declared.sections.SectionList.TheDeep.{deep-Section}
use Rattle.ps_check_names.specs.SectionCode.{section_depth, depth}
use Rattle.ps_check_names.specs.SectionViews.{section_of, sections_of}

pub deep_in_section : (s : Rust.Section) → deep-Section s ≤ section_depth (section_of s)
unfolding section_of
deep_in_section (Value n t) = omega arith
deep_in_section (Variable n t) = omega arith
deep_in_section (Routine ss t) = omega arith

pub deep_in_list : (ss : List Rust.Section) → max (most deep-Section ss) 0 ≤ depth (sections_of ss)
unfolding sections_of
deep_in_list [] = omega arith
deep_in_list (s ∷ ss) = omega (arith, deep_in_section s, deep_in_list ss)
