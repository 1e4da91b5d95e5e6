-- The defining points of a block's region (6.2.2.1), in the order in which their definitions end: a walk over the tree.
use Rattle.std.specs.Prelude.{ℕ, ◌+◌, List, [], ◌∷◌, ◌++◌, length, map, Option, Some, None, slice_get, take}
use Rattle.std.specs.Prelude.{if◌then◌else◌}
use Rattle.ps_text.specs.declared.Span.{Span}
use Rattle.ps_syntax.specs.declared.program.Ordinal.{Ordinal}
use Rattle.ps_syntax.specs.declared.program.Ordinal.TheVariants as o
use Rattle.ps_syntax.specs.declared.program.TypeDenoter.{TypeDenoter}
use Rattle.ps_syntax.specs.declared.program.Structure.TheOpen.{Structure-F, TypeDenoter-F, Fields-F}
use Rattle.ps_syntax.specs.declared.program.Structure.TheFolds.{fold-TypeDenoter}
use Rattle.ps_syntax.specs.declared.program.ConstantDefinition.{ConstantDefinition}
use Rattle.ps_syntax.specs.declared.program.TypeDefinition.{TypeDefinition}
use Rattle.ps_syntax.specs.declared.program.Variables.{Variables}
use Rattle.ps_syntax.specs.declared.program.Section.{Section, out-Section}
use Rattle.ps_syntax.specs.declared.program.Heading.{Heading, out-Heading}
use Rattle.ps_syntax.specs.declared.program.Heading.TheOpen.{Heading-F, Section-F}
use Rattle.ps_syntax.specs.declared.program.Block.{Block, out-Block}
use Rattle.ps_syntax.specs.declared.program.Routine.{Routine, out-Routine}
use Rattle.ps_syntax.specs.declared.program.Routine.TheOpen.{Routine-F}
use Rattle.ps_check_laws.specs.Option.{◌>>=◌}
use Rattle.ps_check_names.specs.Spelling.{spelled, has, place}
use Rattle.ps_check_declarations.specs.Points.{Points, all}
use Rattle.ps_check.specs.Readings.{HeadingLayer, heading_name, heading_list}

-- what defines a name
pub data Declaration : Type 0 where
  -- a program parameter (6.10)
  OfFile : (name : Span) → Declaration
  -- a formal parameter of a heading: which of them it is (6.6.3.1)
  OfFormal : Heading → (number : ℕ) → (name : Span) → Declaration
  OfConstant : ConstantDefinition → Declaration
  -- an enumeration constant: where its type begins, how many constants that has, which of them it is (6.4.2.3)
  OfEnumeration : (at count number : ℕ) → (name : Span) → Declaration
  OfType : TypeDefinition → Declaration
  -- a variable: which of its block's it is (6.5.1)
  OfVariable : Variables → (number : ℕ) → (name : Span) → Declaration

pub data Definition : Type 0 where
  OfDeclaration : Declaration → Definition
  -- a routine: which of the routine part it is (6.6.1, 6.6.2)
  OfRoutine : (number : ℕ) → Routine → Definition

-- ---- declarations

-- each name with its number, from the given one on
abbrev pub numbered : (ℕ → Span → Declaration) → ℕ → Points → List Declaration
numbered declaration n [] = []
numbered declaration n (name ∷ rest) = declaration n name ∷ numbered declaration (n + 1) rest

abbrev pub joined : {A : Type 0} → List (List A) → List A
joined [] = []
joined (x ∷ xs) = x ++ joined xs

abbrev pub Declarations : Type 0
Declarations = List Declaration

unfoldable pub ordinal_declarations : Ordinal → Declarations
ordinal_declarations (o.Name at) = []
ordinal_declarations (o.Enumeration at names) = numbered (OfEnumeration at.from (length names)) 0 names
ordinal_declarations (o.Subrange low high) = []

abbrev pub fields_step : Fields-F Declarations Declarations Declarations → Declarations
fields_step x = x.ty

abbrev pub structure_step : Structure-F Declarations Declarations Declarations → Declarations
structure_step (Structure-F.Array at indices component) = joined (map ordinal_declarations indices) ++ component
structure_step (Structure-F.Record at fields) = joined fields
structure_step (Structure-F.Set at base) = ordinal_declarations base

abbrev pub type_step : TypeDenoter-F Declarations Declarations Declarations → Declarations
type_step (TypeDenoter-F.Ordinal x) = ordinal_declarations x
type_step (TypeDenoter-F.Pointer at domain) = []
type_step (TypeDenoter-F.Structure x) = x
type_step (TypeDenoter-F.Packed at x) = x

-- the enumeration constants within a type denoter, which are defined for the block (6.4.2.3)
abbrev pub type_declarations : TypeDenoter → Declarations
type_declarations = fold-TypeDenoter Declarations Declarations Declarations structure_step type_step fields_step

-- a definition ends after the constants in it
unfoldable pub definition_declarations : TypeDefinition → Declarations
definition_declarations t = type_declarations t.ty ++ OfType t ∷ []

unfoldable pub variable_declarations : ℕ → List Variables → Declarations
variable_declarations n [] = []
variable_declarations n (v ∷ vs) = (type_declarations v.ty ++ numbered (OfVariable v) n v.names)
    ++ variable_declarations (n + length v.names) vs

-- the constants, types and variables of a block
unfoldable pub own_declarations : Block → Declarations
own_declarations b = (map OfConstant (out-Block b).constants ++ joined
    (map definition_declarations (out-Block b).types)) ++ variable_declarations 0 (out-Block b).variables

-- the number of points before the variables of a block, and before its routines, including the first ones
unfoldable pub points_before_variables : Declarations → Block → ℕ
points_before_variables first b = length ((first ++ map OfConstant (out-Block b).constants) ++ joined
    (map definition_declarations (out-Block b).types))

unfoldable pub points_before_routines : Declarations → Block → ℕ
points_before_routines first b = length (first ++ own_declarations b)

-- ---- formal parameters

abbrev pub layer_points : Section-F Heading Section → Points
layer_points (Section-F.Value names type) = names
layer_points (Section-F.Variable names type) = names
layer_points (Section-F.Routine h) = heading_name h ∷ []

unfoldable pub section_points : Section → Points
section_points s = layer_points (out-Section s)

-- 6.6.3.1: for a formal parameter list
unfoldable pub formal_points : Heading → Points
formal_points h = all (map section_points (heading_list h))

-- they are defined for the block of the routine too (6.6.1, 6.6.2)
unfoldable pub formal_declarations : Heading → Declarations
formal_declarations h = numbered (OfFormal h) 0 (formal_points h)

abbrev pub layer_entries : ℕ → HeadingLayer → ℕ
layer_entries n (Heading-F.Procedure name xs) = n
layer_entries n (Heading-F.Function name xs type) = n + 1

-- the entries of a routine before its variables: a function's result, and the formal parameters
unfoldable pub entries_before : Heading → ℕ
entries_before h = layer_entries (length (formal_points h)) (out-Heading h)

-- ---- routines

abbrev pub layer_name : Routine-F Routine Block → Span
layer_name (Routine-F.Whole h b) = heading_name h
layer_name (Routine-F.Forward h) = heading_name h
layer_name (Routine-F.Completion name b) = name

unfoldable pub routine_name : Routine → Span
routine_name r = layer_name (out-Routine r)

abbrev pub layer_heading : Routine-F Routine Block → Option Heading
layer_heading (Routine-F.Whole h b) = Some h
layer_heading (Routine-F.Forward h) = Some h
layer_heading (Routine-F.Completion name b) = None

unfoldable pub routine_heading : Routine → Option Heading
routine_heading r = layer_heading (out-Routine r)

-- A routine of a routine part, and which of them it is.
abbrev pub InPart : Type 0
InPart = ℕ × Routine

unfoldable pub routine_names : List ℕ → List InPart → List (List ℕ)
routine_names text rs = map (λ r. spelled text (routine_name r.1)) rs

-- The routines of a part, from the given number on, that define their names, after some that come before. A later
-- routine with such a name is the block of its forward heading.
unfoldable pub introduced_from : List ℕ → List InPart → ℕ → List Routine → List InPart
introduced_from text before k [] = before
introduced_from text before k (r ∷ rs) =
    if has (routine_names text before) (spelled text (routine_name r)) then introduced_from text before (k + 1) rs
    else introduced_from text (before ++ (k, r) ∷ []) (k + 1) rs

abbrev pub introduced : List ℕ → List Routine → List InPart
introduced text rs = introduced_from text [] 0 rs

abbrev pub of_routine : InPart → Definition
of_routine r = OfRoutine r.0 r.1

-- ---- a block

-- The points of a block's region, beginning with those of the heading's formal parameters (or a program's parameters).
unfoldable pub definitions_of : List ℕ → Declarations → Block → List Definition
definitions_of text first b = map OfDeclaration (first ++ own_declarations b) ++ map of_routine
    (introduced text (out-Block b).routines)

abbrev pub declared_name : Declaration → Span
declared_name (OfFile name) = name
declared_name (OfFormal h number name) = name
declared_name (OfConstant c) = c.name
declared_name (OfEnumeration at count number name) = name
declared_name (OfType t) = t.name
declared_name (OfVariable v number name) = name

-- the point itself
abbrev pub point : Definition → Span
point (OfDeclaration d) = declared_name d
point (OfRoutine number r) = routine_name r

-- the spellings of the points
unfoldable pub names_of : List ℕ → List Definition → List (List ℕ)
names_of text ds = map (λ d. spelled text (point d)) ds

abbrev pub as_routine : Definition → Option InPart
as_routine (OfDeclaration d) = None
as_routine (OfRoutine number r) = Some (number, r)

-- the routine that defines a name, among the points of the block
unfoldable pub introducer : List ℕ → List Definition → List ℕ → Option InPart
introducer text ds s = place (names_of text ds) s >>= (λ i. slice_get ds i) >>= as_routine

-- 6.6.1, 6.6.2: the heading of a routine is the one that defines its name: its own, or the forward heading
unfoldable pub heading_of : List ℕ → List Definition → Routine → Option Heading
heading_of text ds r = introducer text ds (spelled text (routine_name r)) >>= (λ q. routine_heading q.1)

-- the number of points before the block of routine k
unfoldable pub points_before : List ℕ → Declarations → Block → ℕ → ℕ
points_before text first b k = length (first ++ own_declarations b) + length
    (introduced text (take (k + 1) (out-Block b).routines))
