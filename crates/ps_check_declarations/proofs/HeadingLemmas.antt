-- What a walk over a heading gives, construction by construction.
use Rattle.std.proofs.Common.{◌≡◌, ℕ, ◌≤◌, List, [], ◌∷◌, ◌++◌, length, map, Option, Some, None, option_map}
use Rattle.std.proofs.Common.{Global, refl, sym, ap, ◌∙◌}
use Rattle.std.specs.declared.rc.Rc.{Rc}
use Rattle.ps_text.specs.declared.Span.{Span}
use Rattle.ps_syntax.specs.declared.program.Section as syntax
use Rattle.ps_syntax.specs.declared.program.Heading.{Heading}
use Rattle.ps_syntax.specs.declared.program.Heading.TheVariants as h
use Rattle.ps_syntax.specs.declared.program.Section.TheVariants as v
use Rattle.ps_syntax.specs.declared.program.Heading.TheOpen.{Heading-F, Section-F}
use Rattle.ps_syntax.specs.declared.program.Heading.TheFolds.{fold-roll-Heading, fold-roll-Section}
use Rattle.ps_tree.specs.View.{type_of}
use Rattle.ps_tree.specs.declared.types.Ty.{Ty}
use Rattle.ps_check_judgement.specs.Judged.{Yes, ◌>>=◌}
use Rattle.ps_check_names.specs.Regions.{Meaning, ValueSection, VariableSection, RoutineSection, Sections}
use Rattle.ps_check_names.specs.Regions.{section_before}
use Rattle.ps_check_names.specs.SectionViews as regions
use Rattle.ps_check_names.specs.declared.sections.Section as Rust
use Rattle.ps_check_names.specs.declared.sections.Section.TheVariants as kind
use Rattle.ps_check_declarations.specs.Points.{Points, all, add_points}
use Rattle.ps_check_declarations.specs.Denoters.{Frame, Hidden}
use Rattle.ps_check_declarations.specs.Headings.{HeadingReading, SectionReading, few, formal_type, section_list}
use Rattle.ps_check_declarations.specs.Headings.{section_step, heading_step, sections_of, list_names, result_type}
use Rattle.ps_check_declarations.specs.Headings.{heading, section, section_points}
use Rattle.ps_check_declarations.proofs.Walks.{Walked, walked_end}

-- the sections of the program as the definitions have them
pub list_of_sections : (ss : List Rust.Section) → regions.sections_of ss ≡ section_list (map regions.section_of ss)
unfolding regions.sections_of
list_of_sections [] = refl
list_of_sections (s ∷ ss) = ap (section_before (regions.section_of s)) (list_of_sections ss)

module _ (f : Frame) (known : List Meaning) where
  pub heading_Procedure : (name : Span) (xs : List syntax.Section) (hidden : Hidden)
      → (heading f known (h.Procedure name xs)).1 hidden
      ≡ (sections_of f known (map (section f known) xs) name.from hidden >>= (λ ss. Yes (ss, None)))
  unfolding heading_step
  heading_Procedure name xs hidden = ap (λ x. (heading f known x).1 hidden) (sym (h.rolls-Procedure name xs))
      ∙ ap (λ (r : HeadingReading). r.1 hidden)
      (fold-roll-Heading HeadingReading SectionReading (heading_step f known) (section_step f known)
      (Heading-F.Procedure name xs))

  pub heading_Function : (name : Span) (xs : List syntax.Section) (type : Span) (hidden : Hidden)
      → (heading f known (h.Function name xs type)).1 hidden
      ≡ (sections_of f known (map (section f known) xs) name.from hidden
      >>= (λ ss. result_type f known hidden type >>= (λ t. Yes (ss, Some t))))
  unfolding heading_step
  heading_Function name xs type hidden = ap (λ x. (heading f known x).1 hidden) (sym (h.rolls-Function name xs type))
      ∙ ap (λ (r : HeadingReading). r.1 hidden)
      (fold-roll-Heading HeadingReading SectionReading (heading_step f known) (section_step f known)
      (Heading-F.Function name xs type))

  name_Procedure : (name : Span) (xs : List syntax.Section) → (heading f known (h.Procedure name xs)).0 ≡ name
  unfolding heading_step
  name_Procedure name xs = ap (λ x. (heading f known x).0) (sym (h.rolls-Procedure name xs))
      ∙ ap (λ (r : HeadingReading). r.0) (fold-roll-Heading HeadingReading SectionReading (heading_step f known)
      (section_step f known) (Heading-F.Procedure name xs))

  name_Function : (name : Span) (xs : List syntax.Section) (type : Span) → (heading f known (h.Function name xs type)).0
      ≡ name
  unfolding heading_step
  name_Function name xs type = ap (λ x. (heading f known x).0) (sym (h.rolls-Function name xs type))
      ∙ ap (λ (r : HeadingReading). r.0) (fold-roll-Heading HeadingReading SectionReading (heading_step f known)
      (section_step f known) (Heading-F.Function name xs type))

  -- sections
  is_Value : (names : Points) (type : Span) → section f known (v.Value names type) ≡ section_step f known
      (Section-F.Value names type)
  is_Value names type = ap (section f known) (sym (v.rolls-Value names type))
      ∙ fold-roll-Section HeadingReading SectionReading (heading_step f known) (section_step f known)
      (Section-F.Value names type)

  is_Variable : (names : Points) (type : Span) → section f known (v.Variable names type) ≡ section_step f known
      (Section-F.Variable names type)
  is_Variable names type = ap (section f known) (sym (v.rolls-Variable names type))
      ∙ fold-roll-Section HeadingReading SectionReading (heading_step f known) (section_step f known)
      (Section-F.Variable names type)

  is_Routine : (x : Heading) → section f known (v.Routine x) ≡ section_step f known
      (Section-F.Routine (heading f known x))
  is_Routine x = ap (section f known) (sym (v.rolls-Routine x)) ∙ fold-roll-Section HeadingReading SectionReading
      (heading_step f known) (section_step f known) (Section-F.Routine x)

  pub section_Value : (names : Points) (type : Span) (hidden : Hidden) → (section f known (v.Value names type)).1 hidden
      ≡ (few type.from (length names) >>= (λ n. formal_type f known hidden type >>= (λ t. Yes (ValueSection n t))))
  unfolding section_step
  section_Value names type hidden = ap (λ (r : SectionReading). r.1 hidden) (is_Value names type)

  pub section_Variable : (names : Points) (type : Span) (hidden : Hidden)
      → (section f known (v.Variable names type)).1 hidden
      ≡ (few type.from (length names) >>= (λ n. formal_type f known hidden type >>= (λ t. Yes (VariableSection n t))))
  unfolding section_step
  section_Variable names type hidden = ap (λ (r : SectionReading). r.1 hidden) (is_Variable names type)

  pub section_Routine : (x : Heading) (hidden : Hidden) → (section f known (v.Routine x)).1 hidden
      ≡ ((heading f known x).1 hidden >>= (λ s. Yes (RoutineSection (section_list s.0) s.1)))
  unfolding section_step
  section_Routine x hidden = ap (λ (r : SectionReading). r.1 hidden) (is_Routine x)

  pub points_Value : (names : Points) (type : Span) → section_points f known (v.Value names type) ≡ names
  unfolding section_step section_points
  points_Value names type = ap (λ (r : SectionReading). r.0) (is_Value names type)

  pub points_Variable : (names : Points) (type : Span) → section_points f known (v.Variable names type) ≡ names
  unfolding section_step section_points
  points_Variable names type = ap (λ (r : SectionReading). r.0) (is_Variable names type)

  pub points_Procedure : (name : Span) (xs : List syntax.Section) → section_points f known
      (v.Routine (h.Procedure name xs)) ≡ name ∷ []
  unfolding section_step section_points
  points_Procedure name xs = ap (λ (r : SectionReading). r.0) (is_Routine (h.Procedure name xs)) ∙ ap (λ n. n ∷ [])
      (name_Procedure name xs)

  pub points_Function : (name : Span) (xs : List syntax.Section) (type : Span) → section_points f known
      (v.Routine (h.Function name xs type)) ≡ name ∷ []
  unfolding section_step section_points
  points_Function name xs type = ap (λ (r : SectionReading). r.0) (is_Routine (h.Function name xs type))
      ∙ ap (λ n. n ∷ []) (name_Function name xs type)

  -- the names of all sections
  names_of_sections : (xs : List syntax.Section) → all (map (λ (x : SectionReading). x.0) (map (section f known) xs))
      ≡ all (map (section_points f known) xs)
  unfolding section_points
  names_of_sections [] = refl
  names_of_sections (x ∷ xs) = ap (λ l. (section f known x).0 ++ l) (names_of_sections xs)

  pub names_end : (xs : List syntax.Section) (i : ℕ) (t : List (List ℕ)) → length xs ≤ i → Walked f.text
      (section_points f known) [] xs i t → t ≡ list_names f known (map (section f known) xs)
  unfolding list_names
  names_end xs i t le w = walked_end f.text (section_points f known) [] xs i t le w ∙ ap (add_points f.text [])
      (sym (names_of_sections xs))

-- a procedural or functional parameter of the program as the definitions have it
pub routine_made : (r : Rc Sections Global) (ss : List Rust.Section) (t : Option Ty) → r.value ≡ regions.sections_of ss
    → regions.section_of (kind.Routine r t) ≡ RoutineSection (section_list (map regions.section_of ss))
    (option_map type_of t)
unfolding regions.section_of
routine_made r ss t e = ap (λ l. RoutineSection l (option_map type_of t)) (e ∙ list_of_sections ss)
