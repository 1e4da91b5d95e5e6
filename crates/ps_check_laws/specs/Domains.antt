-- The domain types of the pointer types of a block (6.4.4): their names are read at the end of the part that they are
-- in, so that a type may come after them.
use Rattle.std.specs.Prelude.{◌≡◌, ℕ, ◌+◌, List, [], ◌∷◌, map, Some, slice_get}
use Rattle.ps_text.specs.declared.Span.{Span}
use Rattle.ps_syntax.specs.declared.program.TypeDenoter.{TypeDenoter}
use Rattle.ps_syntax.specs.declared.program.Structure.TheOpen.{Structure-F, TypeDenoter-F, Fields-F}
use Rattle.ps_syntax.specs.declared.program.Structure.TheFolds.{fold-TypeDenoter}
use Rattle.ps_syntax.specs.declared.program.TypeDefinition.{TypeDefinition}
use Rattle.ps_syntax.specs.declared.program.Variables.{Variables}
use Rattle.ps_tree.specs.Types.{DataType}
use Rattle.ps_check_judgement.specs.Judged.{Yes}
use Rattle.ps_check_names.specs.Regions.{Meaning}
use Rattle.ps_check_declarations.specs.Points.{Points, all}
use Rattle.ps_check_declarations.specs.Denoters.{Frame, regions, type_named}

abbrev pub fields_step : Fields-F Points Points Points → Points
fields_step x = x.ty

abbrev pub structure_step : Structure-F Points Points Points → Points
structure_step (Structure-F.Array at indices component) = component
structure_step (Structure-F.Record at fields) = all fields
structure_step (Structure-F.Set at base) = []

abbrev pub type_step : TypeDenoter-F Points Points Points → Points
type_step (TypeDenoter-F.Ordinal x) = []
type_step (TypeDenoter-F.Pointer at domain) = domain ∷ []
type_step (TypeDenoter-F.Structure x) = x
type_step (TypeDenoter-F.Packed at x) = x

-- the names of the domain types within a type denoter, in their order
abbrev pub domain_names : TypeDenoter → Points
domain_names = fold-TypeDenoter Points Points Points structure_step type_step fields_step

-- within the types of a block, and within its variables
abbrev pub type_domains : List TypeDefinition → Points
type_domains ts = all (map (λ t. domain_names t.ty) ts)

abbrev pub variable_domains : List Variables → Points
variable_domains vs = all (map (λ v. domain_names v.ty) vs)

-- from a number on, the domain types are those that some names denote when some points of the block are known
abbrev pub AreDomains : Frame → (known : List Meaning) → (base : ℕ) → (names : Points) → (domains : List DataType)
    → Type 0
AreDomains f known base names domains =
    (i : ℕ) (name : Span) → slice_get names i ≡ Some name → (type : DataType)
    × (type_named f.text (regions f [] known) name ≡ Yes type) × (slice_get domains (base + i) ≡ Some type)
