-- A list of sections as a tree of numbers, and back: this distinguishes two lists. No contract mentions it: the
-- toolchain needs it, so that structs can be seen as lists of sections.
use Rattle.std.specs.Prelude.{◌≡◌, ℕ, zero, suc, ◌+◌, max, Option, Some, None, refl}
use Rattle.std.specs.Coded.{Coded, code_by}
use base.Stored.{Gv, gnil, gnum, gcons}
use denote.Struct.Codes.{itself}
use Rattle.ps_tree.specs.Types.{DataType, NilType}
use Rattle.ps_tree.specs.TypeCode.{number, left, right, code_type, back as type_in, type_back}
use Rattle.ps_check_names.specs.Regions.{Section, ValueSection, VariableSection, RoutineSection, Sections, no_section}
use Rattle.ps_check_names.specs.Regions.{section_before}

abbrev pub to_type : Gv → DataType
to_type g = (type_in g).0

abbrev pub code_result : Option DataType → Gv
code_result None = gnil
code_result (Some t) = gcons (code_type t) gnil

abbrev pub to_result : Gv → Option DataType
to_result gnil = None
to_result (gnum n) = None
to_result (gcons a b) = Some (to_type a)

pub result_back : (t : Option DataType) → to_result (code_result t) ≡ t
result_back None = refl
result_back (Some t) = λ i. Some (type_back t i)

-- a number for the kind with what it holds, and the sections in it
abbrev mutual
  pub code_section : Section → Gv
  code_section (ValueSection n t) = gcons (gcons (gnum 0) (gcons (gnum n) (code_type t))) gnil
  code_section (VariableSection n t) = gcons (gcons (gnum 1) (gcons (gnum n) (code_type t))) gnil
  code_section (RoutineSection ss t) = gcons (gcons (gnum 2) (code_result t)) (code_sections ss)

  pub code_sections : Sections → Gv
  code_sections no_section = gnil
  code_sections (section_before s ss) = gcons (code_section s) (code_sections ss)

abbrev pub by_kind : ℕ → Gv → Sections → Section
by_kind zero g ss = ValueSection (number (left g)) (to_type (right g))
by_kind (suc zero) g ss = VariableSection (number (left g)) (to_type (right g))
by_kind (suc (suc n)) g ss = RoutineSection ss (to_result g)

-- the section that this represents, and the sections, if it represents a list of them
abbrev pub back : Gv → Section × Sections
back gnil = (ValueSection 0 NilType, no_section)
back (gnum n) = (ValueSection 0 NilType, no_section)
back (gcons a b) = (by_kind (number (left a)) (right a) (back b).1, section_before (back a).0 (back b).1)

mutual
  pub section_back : (s : Section) → (back (code_section s)).0 ≡ s
  section_back (ValueSection n t) = λ i. ValueSection n (type_back t i)
  section_back (VariableSection n t) = λ i. VariableSection n (type_back t i)
  section_back (RoutineSection ss t) = λ i. RoutineSection (sections_back ss i) (result_back t i)

  pub sections_back : (ss : Sections) → (back (code_sections ss)).1 ≡ ss
  sections_back no_section = refl
  sections_back (section_before s ss) = λ i. section_before (section_back s i) (sections_back ss i)

abbrev pub sections_code : Coded Sections
sections_code = code_by Gv itself code_sections (λ g. (back g).1) sections_back

-- How deep the lists within a section and a list are nested: this makes a walk through them terminate.
abbrev mutual
  pub section_depth : Section → ℕ
  section_depth (ValueSection n t) = 0
  section_depth (VariableSection n t) = 0
  section_depth (RoutineSection ss t) = depth ss + 1

  pub depth : Sections → ℕ
  depth no_section = 0
  depth (section_before s ss) = max (section_depth s) (depth ss)
