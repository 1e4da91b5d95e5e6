-- The uses of names in the declarations and headings of a block, each with the regions within the block that enclose
-- it: a record type has its fields' names (6.4.3.3), and a formal parameter list its parameters' (6.6.3.1). The names
-- of domain types are treated separately (6.4.4).
use Rattle.std.specs.Prelude.{◌≡◌, ℕ, ◌+◌, false, List, [], ◌∷◌, ◌++◌, length, map}
use Rattle.ps_text.specs.declared.Span.{Span}
use Rattle.ps_syntax.specs.declared.program.Ordinal.{Ordinal}
use Rattle.ps_syntax.specs.declared.program.Ordinal.TheVariants as o
use Rattle.ps_syntax.specs.declared.program.TypeDenoter.{TypeDenoter}
use Rattle.ps_syntax.specs.declared.program.Structure.TheOpen.{Structure-F, TypeDenoter-F, Fields-F}
use Rattle.ps_syntax.specs.declared.program.Structure.TheFolds.{fold-TypeDenoter}
use Rattle.ps_syntax.specs.declared.program.ConstantDefinition.{ConstantDefinition}
use Rattle.ps_syntax.specs.declared.program.TypeDefinition.{TypeDefinition}
use Rattle.ps_syntax.specs.declared.program.Variables.{Variables}
use Rattle.ps_syntax.specs.declared.program.Heading.{Heading}
use Rattle.ps_syntax.specs.declared.program.Heading.TheOpen.{Heading-F, Section-F}
use Rattle.ps_syntax.specs.declared.program.Heading.TheFolds.{fold-Heading}
use Rattle.ps_syntax.specs.declared.program.Block.{Block, out-Block}
use Rattle.ps_syntax.specs.declared.program.Program as syntax
use Rattle.ps_check_judgement.specs.Judged.{Yes}
use Rattle.ps_check_names.specs.Spelling.{spelled, has}
use Rattle.ps_check_names.specs.Regions.{Region, Point, find}
use Rattle.ps_check_declarations.specs.Points.{Points, all}
use Rattle.ps_check.specs.RegionNames.{Each}
use Rattle.ps_check_laws.specs.Definitions.{joined}
use Rattle.ps_check_laws.specs.Meanings.{IsRegion}
use Rattle.ps_check_laws.specs.Uses.{IsDenoted}
use Rattle.ps_check_laws.specs.Occurrences.{constant_uses}

-- a use: the name, the names of the record types and formal parameter lists that enclose it, from the inside out, and
-- the number of points before it
pub record Use : Type 0 where
  pub name : Span
  pub enclosing : List Points
  pub before : ℕ

abbrev pub Uses : Type 0
Uses = List Use

abbrev pub used : Span → Use
used name = record { name = name; enclosing = []; before = 0 }

-- with one more record type or list enclosing them
abbrev pub inside : Points → Uses → Uses
inside names uses = map (λ u. record { name = u.name; enclosing = u.enclosing ++ names ∷ []; before = u.before }) uses

-- with more points before them
abbrev pub behind : ℕ → Uses → Uses
behind n uses = map (λ u. record { name = u.name; enclosing = u.enclosing; before = n + u.before }) uses

-- a part of the declarations: the number of points of the block in it, and its uses
pub record Part : Type 0 where
  pub points : ℕ
  pub uses : Uses

abbrev pub both : Part → Part → Part
both a b = record { points = a.points + b.points; uses = a.uses ++ behind a.points b.uses }

abbrev pub no_part : Part
no_part = record { points = 0; uses = [] }

abbrev pub several : List Part → Part
several [] = no_part
several (p ∷ ps) = both p (several ps)

-- points, which come after the uses in their definition
abbrev pub defining : ℕ → Part
defining n = record { points = n; uses = [] }

abbrev pub using : Points → Part
using names = record { points = 0; uses = map used names }

-- ---- type denoters (6.4)

unfoldable pub ordinal_part : Ordinal → Part
ordinal_part (o.Name at) = using (at ∷ [])
ordinal_part (o.Enumeration at names) = defining (length names)
ordinal_part (o.Subrange low high) = using (constant_uses low ++ constant_uses high)

-- fields, with their names
abbrev pub FieldsPart : Type 0
FieldsPart = Points × Part

abbrev pub fields_step : Fields-F Part Part FieldsPart → FieldsPart
fields_step x = (x.names, x.ty)

-- the fields' names are defined for the record type
abbrev pub record_part : List FieldsPart → Part
record_part fields = record {
  points = (several (map (λ x. x.1) fields)).points;
  uses = inside (all (map (λ x. x.0) fields)) (several (map (λ x. x.1) fields)).uses;
}

abbrev pub structure_step : Structure-F Part Part FieldsPart → Part
structure_step (Structure-F.Array at indices component) = both (several (map ordinal_part indices)) component
structure_step (Structure-F.Record at fields) = record_part fields
structure_step (Structure-F.Set at base) = ordinal_part base

abbrev pub type_step : TypeDenoter-F Part Part FieldsPart → Part
type_step (TypeDenoter-F.Ordinal x) = ordinal_part x
type_step (TypeDenoter-F.Pointer at domain) = no_part
type_step (TypeDenoter-F.Structure x) = x
type_step (TypeDenoter-F.Packed at x) = x

abbrev pub type_part : TypeDenoter → Part
type_part = fold-TypeDenoter Part Part FieldsPart structure_step type_step fields_step

-- ---- a block's constants, types and variables

unfoldable pub constant_part : ConstantDefinition → Part
constant_part c = both (using (constant_uses c.value)) (defining 1)

unfoldable pub definition_part : TypeDefinition → Part
definition_part t = both (type_part t.ty) (defining 1)

unfoldable pub variables_part : Variables → Part
variables_part v = both (type_part v.ty) (defining (length v.names))

unfoldable pub declarations_part : List ConstantDefinition → List TypeDefinition → List Variables → Part
declarations_part cs ts vs = both (both (several (map constant_part cs)) (several (map definition_part ts)))
    (several (map variables_part vs))

-- where the given number of points of the block are its formal or program parameters
abbrev pub declaration_uses : ℕ → Block → Uses
declaration_uses first b = behind first (declarations_part (out-Block b).constants (out-Block b).types
    (out-Block b).variables).uses

-- ---- headings (6.6.1, 6.6.2, 6.6.3.1)

-- a section: the names that it defines for its list, and the uses in it
abbrev pub SectionPart : Type 0
SectionPart = Points × Uses

-- a heading: its name, and the uses in it
abbrev pub HeadingPart : Type 0
HeadingPart = Span × Uses

abbrev pub section_step : Section-F HeadingPart SectionPart → SectionPart
section_step (Section-F.Value names type) = (names, used type ∷ [])
section_step (Section-F.Variable names type) = (names, used type ∷ [])
section_step (Section-F.Routine h) = (h.0 ∷ [], h.1)

abbrev pub list_uses : List SectionPart → Uses
list_uses sections = inside (all (map (λ x. x.0) sections)) (joined (map (λ x. x.1) sections))

abbrev pub heading_step : Heading-F HeadingPart SectionPart → HeadingPart
heading_step (Heading-F.Procedure name sections) = (name, list_uses sections)
heading_step (Heading-F.Function name sections type) = (name, list_uses sections ++ used type ∷ [])

abbrev pub heading_part : Heading → HeadingPart
heading_part = fold-Heading HeadingPart SectionPart heading_step section_step

-- ---- what they denote

-- A use in the declarations of the block at a path, which is read within some regions: no enclosing record type or list
-- defines the name, and what it denotes when the points before it are known is what the search finds.
pub record IsDenotedBefore (text : List ℕ) (p : syntax.Program) (v : List ℕ) (regions : List Region) (u : Use)
    : Type 0 where
  pub free : Each (λ names. has (map (spelled text) names) (spelled text u.name) ≡ false) u.enclosing
  pub region : Region
  pub is_region : IsRegion text p v u.before regions region
  pub point : Point
  pub found : find (region ∷ regions) (spelled text u.name) u.name.from ≡ Yes point
  pub denotes : IsDenoted text p (spelled text u.name) v u.before (region ∷ regions) [] point
