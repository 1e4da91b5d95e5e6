-- The defining points of a block's constants, types and variables (6.2.2.1), in the order in which their definitions
-- end: a walk over the tree.
use Rattle.std.specs.Prelude.{ℕ, ◌+◌, Bool, if◌then◌else◌, not, ◌&&◌, List, [], ◌∷◌, ◌++◌, take, map}
use Rattle.ps_text.specs.declared.Span.{Span}
use Rattle.ps_syntax.specs.declared.program.Ordinal.{Ordinal}
use Rattle.ps_syntax.specs.declared.program.Ordinal.TheVariants as o
use Rattle.ps_syntax.specs.declared.program.Structure.{Structure}
use Rattle.ps_syntax.specs.declared.program.TypeDenoter.{TypeDenoter}
use Rattle.ps_syntax.specs.declared.program.Fields.{Fields}
use Rattle.ps_syntax.specs.declared.program.Structure.TheOpen.{Structure-F, TypeDenoter-F, Fields-F}
use Rattle.ps_syntax.specs.declared.program.Structure.TheFolds.{fold-TypeDenoter, fold-Structure, fold-Fields}
use Rattle.ps_syntax.specs.declared.program.ConstantDefinition.{ConstantDefinition}
use Rattle.ps_syntax.specs.declared.program.TypeDefinition.{TypeDefinition}
use Rattle.ps_syntax.specs.declared.program.Variables.{Variables}
use Rattle.ps_check_judgement.specs.declared.refusal.Rule.TheVariants.{Twice}
use Rattle.ps_check_judgement.specs.Judged.{Judged, provided, steps}
use Rattle.ps_check_names.specs.Spelling.{spelled, has}

abbrev pub Points : Type 0
Points = List Span

-- all of several lists
abbrev pub all : List Points → Points
all [] = []
all (x ∷ xs) = x ++ all xs

-- the enumeration constants of an ordinal type
unfoldable pub ordinal_points : Ordinal → Points
ordinal_points (o.Name at) = []
ordinal_points (o.Enumeration at names) = names
ordinal_points (o.Subrange low high) = []

abbrev pub fields_points_step : Fields-F Points Points Points → Points
fields_points_step x = x.ty

abbrev pub structure_points_step : Structure-F Points Points Points → Points
structure_points_step (Structure-F.Array at indices component) = all (map ordinal_points indices) ++ component
structure_points_step (Structure-F.Record at fields) = all fields
structure_points_step (Structure-F.Set at base) = ordinal_points base

abbrev pub type_points_step : TypeDenoter-F Points Points Points → Points
type_points_step (TypeDenoter-F.Ordinal x) = ordinal_points x
type_points_step (TypeDenoter-F.Pointer at domain) = []
type_points_step (TypeDenoter-F.Structure x) = x
type_points_step (TypeDenoter-F.Packed at x) = x

-- the enumeration constants of a type denoter, which are defined for the block, in the order of the text
abbrev pub type_points : TypeDenoter → Points
type_points = fold-TypeDenoter Points Points Points structure_points_step type_points_step fields_points_step

abbrev pub structure_points : Structure → Points
structure_points = fold-Structure Points Points Points structure_points_step type_points_step fields_points_step

abbrev pub fields_points : Fields → Points
fields_points = fold-Fields Points Points Points structure_points_step type_points_step fields_points_step

-- a definition ends after the constants in it
unfoldable pub constant_points : ConstantDefinition → Points
constant_points c = c.name ∷ []

unfoldable pub definition_points : TypeDefinition → Points
definition_points t = type_points t.ty ++ t.name ∷ []

unfoldable pub variables_points : Variables → Points
variables_points v = type_points v.ty ++ v.names

unfoldable pub block_points : List ConstantDefinition → List TypeDefinition → List Variables → Points
block_points cs ts vs = (all (map constant_points cs) ++ all (map definition_points ts)) ++ all
    (map variables_points vs)

-- ---- the names of a region: those of all its points are known before any of them is used, each once

abbrev pub add_name : List (List ℕ) → List ℕ → List (List ℕ)
add_name names s = if has names s then names else names ++ s ∷ []

abbrev pub add_point : List ℕ → List (List ℕ) → Span → List (List ℕ)
add_point text names at = add_name names (spelled text at)

unfoldable pub add_points : List ℕ → List (List ℕ) → Points → List (List ℕ)
add_points text names [] = names
add_points text names (at ∷ rest) = add_points text (add_point text names at) rest

-- ---- a name has one defining point in a region (6.2.2.7): a second one is reported where it is

-- the region has this name, and not among its first `count`
abbrev pub is_later : List (List ℕ) → (count : ℕ) → List ℕ → Bool
is_later names count s = has names s && not (has (take count names) s)

-- it has no definition before the place, where the first `count` are defined, nor is one in progress
abbrev pub is_new : List (List ℕ) → (begun : List (List ℕ)) → (count : ℕ) → List ℕ → Bool
is_new names begun count s = is_later names count s && not (has begun s)

-- one more point: the number of names of the region before what follows
abbrev pub new_point : List ℕ → List (List ℕ) → (begun : List (List ℕ)) → (count : ℕ) → Span → Judged ℕ
new_point text names begun count at = provided (is_new names begun count (spelled text at)) Twice at.from (count + 1)

unfoldable pub new_points : List ℕ → List (List ℕ) → (begun : List (List ℕ)) → (count : ℕ) → Points → Judged ℕ
new_points text names begun count points = steps (new_point text names begun) count points
