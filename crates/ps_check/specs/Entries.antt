-- The entries of a routine: a function's result, formal parameters, variables (6.6.3.1).
use Rattle.std.specs.Prelude.{ℕ, zero, suc, List, [], ◌∷◌, ◌++◌, length, nat_lt, Option, Some, None}
use Rattle.ps_tree.specs.Types.{DataType}
use Rattle.ps_check_judgement.specs.declared.refusal.Rule.TheVariants.{Limit}
use Rattle.ps_check_judgement.specs.Judged.{Judged, Yes, ◌>>=◌, provided, some_or}
use Rattle.ps_check_names.specs.Regions.{Meaning, ParameterMeaning, RoutineParameterMeaning, Heading, Section}
use Rattle.ps_check_names.specs.Regions.{ValueSection, VariableSection, RoutineSection, Sections, no_section}
use Rattle.ps_check_names.specs.Regions.{section_before, one_more}
use Rattle.ps_check_declarations.specs.Points.{add_name}
use Rattle.ps_check.specs.Readings.{Start}

-- the number of the next one, and the meanings of those with names
pub record Entries : Type 0 where
  pub next : ℕ
  pub known : List Meaning

-- one more, for a routine whose name is at `at`
abbrev pub add_entry : (at : ℕ) → (ℕ → Meaning) → Entries → Judged Entries
add_entry at meaning e = some_or Limit at (one_more e.next)
    >>= (λ n. Yes (record { next = n; known = e.known ++ meaning e.next ∷ [] }))

-- the given number of one type
unfoldable pub add_parameters : (at : ℕ) → DataType → ℕ → Entries → Judged Entries
add_parameters at type zero e = Yes e
add_parameters at type (suc n) e = add_entry at (λ i. ParameterMeaning i type) e >>= add_parameters at type n

unfoldable pub add_section : (at : ℕ) → Entries → Section → Judged Entries
add_section at e (ValueSection count type) = add_parameters at type count e
add_section at e (VariableSection count type) = add_parameters at type count e
add_section at e (RoutineSection sections result) = add_entry at (λ i. RoutineParameterMeaning i sections result) e

-- 6.6.3.1: each formal parameter is an entry
unfoldable pub add_sections : (at : ℕ) → Entries → Sections → Judged Entries
add_sections at e no_section = Yes e
add_sections at e (section_before s rest) = add_section at e s >>= (λ d. add_sections at d rest)

-- the names of formal parameters, each once
abbrev pub add_names : List (List ℕ) → List (List ℕ) → List (List ℕ)
add_names names [] = names
add_names names (s ∷ rest) = add_names (add_name names s) rest

-- a function's result is entry 0
abbrev pub first_entry : Option DataType → ℕ
first_entry None = 0
first_entry (Some type) = 1

-- The names of the formal parameters are defined for the block too. A routine is nested at most 15 deep within the
-- program block (this project's limit). Its name is at `at`.
unfoldable pub start : (at : ℕ) → List ℕ → Heading → Judged Start
start at chain h = do
  inner ← provided (nat_lt (length chain) 16) Limit at (h.number ∷ chain)
  e ← add_sections at (record { next = first_entry h.result; known = [] }) h.sections
  Yes (record { chain = inner; names = add_names [] h.names; known = e.known; first = e.next })
