-- The headings of routines (6.6.1, 6.6.2) and their formal parameters (6.6.3.1).
use Rattle.std.specs.Prelude.{ℕ, zero, suc, ◌+◌, Bool, true, false, List, [], ◌∷◌, ◌++◌, length, map, nat_le, Option}
use Rattle.std.specs.Prelude.{Some, None}
use Rattle.ps_text.specs.declared.Span.{Span}
use Rattle.ps_syntax.specs.declared.program.Section as syntax
use Rattle.ps_syntax.specs.declared.program.Heading as syntax_heading
use Rattle.ps_syntax.specs.declared.program.Heading.TheOpen.{Heading-F, Section-F}
use Rattle.ps_syntax.specs.declared.program.Heading.TheFolds.{fold-Heading, fold-Section}
use Rattle.ps_tree.specs.Types.{DataType, OrdinalType, PointerType}
use Rattle.ps_check_judgement.specs.declared.refusal.Rule.TheVariants.{WrongType, Limit}
use Rattle.ps_check_judgement.specs.Judged.{Judged, Yes, ◌>>=◌, provided, steps}
use Rattle.ps_check_names.specs.Regions.{Meaning, ParameterMeaning, RoutineParameterMeaning, Section, ValueSection}
use Rattle.ps_check_names.specs.Regions.{VariableSection, RoutineSection, Sections, no_section, section_before}
use Rattle.ps_check_declarations.specs.Points.{Points, all, add_points, new_points}
use Rattle.ps_check_declarations.specs.Denoters.{Frame, Hidden, regions, type_named}

-- 6.6.2: the result of a function is of an ordinal or pointer type
unfoldable pub is_result : DataType → Bool
is_result (OrdinalType o) = true
is_result (PointerType number) = true
is_result _ = false

-- sections in their order
abbrev pub section_list : List Section → Sections
section_list [] = no_section
section_list (s ∷ ss) = section_before s (section_list ss)

-- The content of a heading: its sections, and a function's result.
abbrev pub Signature : Type 0
Signature = List Section × Option DataType

-- A section: its names, and what it is, given the names that are hidden from it.
abbrev pub SectionReading : Type 0
SectionReading = Points × (Hidden → Judged Section)

-- A heading: its name, and its content.
abbrev pub HeadingReading : Type 0
HeadingReading = Span × (Hidden → Judged Signature)

-- A heading has at most 32 formal parameters (this project's limit), and so does a section.
abbrev pub few : (at : ℕ) → ℕ → Judged ℕ
few at n = provided (nat_le n 32) Limit at n

module _ (f : Frame) (known : List Meaning) where
  -- the type that a name denotes there
  abbrev pub formal_type : Hidden → Span → Judged DataType
  formal_type hidden name = type_named f.text (regions f hidden known) name

  -- a section of value or variable parameters
  abbrev pub named_section : (ℕ → DataType → Section) → Points → Span → SectionReading
  named_section made names type =
      (names, λ hidden. few type.from (length names) >>= (λ n. formal_type hidden type >>= (λ t. Yes (made n t))))

  unfoldable pub section_step : Section-F HeadingReading SectionReading → SectionReading
  section_step (Section-F.Value names type) = named_section ValueSection names type
  section_step (Section-F.Variable names type) = named_section VariableSection names type
  section_step (Section-F.Routine h) =
      (h.0 ∷ [], λ hidden. h.1 hidden >>= (λ s. Yes (RoutineSection (section_list s.0) s.1)))

  -- One more section of a list with these names. Its own come before what follows. The sections so far are given with
  -- the number of their names.
  abbrev pub add_section : List (List ℕ) → Hidden → List Section × ℕ → SectionReading → Judged (List Section × ℕ)
  add_section names hidden done x = do
    defined ← new_points f.text names [] done.1 x.0
    s ← x.1 ((names, defined) ∷ hidden)
    Yes (done.0 ++ s ∷ [], defined)

  -- the names of a list's parameters, which are defined for the list
  unfoldable pub list_names : List SectionReading → List (List ℕ)
  list_names xs = add_points f.text [] (all (map (λ x. x.0) xs))

  -- The list of a routine whose name is at an offset. In it the parameters' names hide others with their spelling.
  unfoldable pub sections_of : List SectionReading → (at : ℕ) → Hidden → Judged (List Section)
  sections_of xs at hidden = do
    count ← few at (length (list_names xs))
    done ← steps (add_section (list_names xs) hidden) ([], 0) xs
    Yes done.0

  -- the type of a function's result, which comes after the list
  abbrev pub result_type : Hidden → Span → Judged DataType
  result_type hidden name = formal_type hidden name >>= (λ type. provided (is_result type) WrongType name.from type)

  unfoldable pub heading_step : Heading-F HeadingReading SectionReading → HeadingReading
  heading_step (Heading-F.Procedure name xs) =
      (name, λ hidden. sections_of xs name.from hidden >>= (λ ss. Yes (ss, None)))
  heading_step (Heading-F.Function name xs type) =
      (name, λ hidden. sections_of xs name.from hidden >>= (λ ss. result_type hidden type >>= (λ t. Yes (ss, Some t))))

  abbrev pub heading : syntax_heading.Heading → HeadingReading
  heading = fold-Heading HeadingReading SectionReading heading_step section_step

  abbrev pub section : syntax.Section → SectionReading
  section = fold-Section HeadingReading SectionReading heading_step section_step

  -- the names of a section's parameters
  unfoldable pub section_points : syntax.Section → Points
  section_points x = (section x).0

-- ---- a formal parameter in its routine's block: it has an entry, after that of a function's result

abbrev pub parameters : ℕ → ℕ → DataType → List Meaning
parameters entry zero type = []
parameters entry (suc n) type = ParameterMeaning entry type ∷ parameters (entry + 1) n type

unfoldable pub section_meanings : ℕ → Section → List Meaning
section_meanings entry (ValueSection count type) = parameters entry count type
section_meanings entry (VariableSection count type) = parameters entry count type
section_meanings entry (RoutineSection sections result) = RoutineParameterMeaning entry sections result ∷ []

-- the number of a section's parameters
unfoldable pub section_count : Section → ℕ
section_count (ValueSection count type) = count
section_count (VariableSection count type) = count
section_count (RoutineSection sections result) = 1

unfoldable pub formal_meanings : ℕ → Sections → List Meaning
formal_meanings entry no_section = []
formal_meanings entry (section_before s rest) = section_meanings entry s ++ formal_meanings
    (entry + section_count s) rest
