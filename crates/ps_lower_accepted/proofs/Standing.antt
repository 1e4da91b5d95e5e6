-- What the names at a place stand for in the program that is made at the end.
use Rattle.std.proofs.Common.{◌≡◌, ℕ, ◌<◌, ◌≤◌, List, [], ◌∷◌, length, drop, Option, Some, None, IsTrue, slice_get}
use Rattle.ps_text.specs.Lines.{line_count}
use Rattle.ps_text.specs.declared.TheConstants.{MAX_LENGTH, MAX_LINES}
use Rattle.ps_tree.specs.Types.{DataType, OrdinalType, PointerType, RecordType, FieldList}
use Rattle.ps_tree.specs.Tree.{Program, routine_at}
use Rattle.tac_code.specs.Numbers.{is_integer}
use Rattle.tac_code.specs.declared.code.TheConstants.{BLOCK_LIMIT}
use Rattle.ps_lower_layout.specs.Shapes.{Shape, shape_of, field_part}
use Rattle.ps_lower_layout.specs.Frames.{Kind, Own, Closure, kinds_of, result_shape, entries}
use Rattle.ps_lower_code.specs.Scopes.{Scope}
use Rattle.ps_lower_code.specs.Fits.{shape_in, outermost_of}
use Rattle.ps_check_names.specs.Regions.{Section, ValueSection, VariableSection, RoutineSection, Sections, no_section}
use Rattle.ps_check_names.specs.Regions.{section_before, formals_of, Heading, Meaning, ConstantMeaning, TextMeaning}
use Rattle.ps_check_names.specs.Regions.{TypeMeaning, VariableMeaning, ParameterMeaning, RoutineParameterMeaning}
use Rattle.ps_check_names.specs.Regions.{RoutineMeaning, FileMeaning, RequiredMeaning, LeftOutMeaning, Region}
use Rattle.ps_check_names.specs.Regions.{BlockRegion, RecordRegion, OwnNames, Point, BlockPoint, FieldPoint, Context}
use Rattle.ps_lower_accepted.proofs.Lists.{Each}
use Rattle.ps_lower_accepted.proofs.Tables.{Table, OrdinalKnown, TypeKnown}

-- ---- what is known of meanings by themselves

-- bytes, and few enough
pub record IsText (w : List ℕ) : Type 0 where
  pub bytes : Each (λ b. b < 256) w
  pub short : length w < BLOCK_LIMIT

-- a result is an ordinal or a pointer
abbrev pub IsResult : DataType → Type 0
IsResult (OrdinalType o) = Unit {0}
IsResult (PointerType n) = Unit {0}
IsResult _ = ⊥

abbrev pub ResultKnown : Table → ℕ → Option DataType → Type 0
ResultKnown D b None = Unit {0}
ResultKnown D b (Some type) = IsResult type × TypeKnown D b type

abbrev mutual
  pub SectionKnown : Table → ℕ → Section → Type 0
  SectionKnown D b (ValueSection count type) = TypeKnown D b type
  SectionKnown D b (VariableSection count type) = TypeKnown D b type
  SectionKnown D b (RoutineSection sections result) = SectionsKnown D b sections × ResultKnown D b result

  pub SectionsKnown : Table → ℕ → Sections → Type 0
  SectionsKnown D b no_section = Unit {0}
  SectionsKnown D b (section_before s rest) = SectionKnown D b s × SectionsKnown D b rest

abbrev pub MeaningKnown : Table → ℕ → Meaning → Type 0
MeaningKnown D b (ConstantMeaning o n) = OrdinalKnown D o × IsTrue (is_integer n)
MeaningKnown D b (TextMeaning w) = IsText w
MeaningKnown D b (TypeMeaning type) = TypeKnown D b type
MeaningKnown D b (VariableMeaning entry type) = TypeKnown D b type
MeaningKnown D b (ParameterMeaning entry type) = TypeKnown D b type
MeaningKnown D b (RoutineParameterMeaning entry sections result) = SectionsKnown D b sections × ResultKnown D b result
MeaningKnown D b (RoutineMeaning h) = SectionsKnown D b h.sections × ResultKnown D b h.result
MeaningKnown D b (FileMeaning file) = Unit {0}
MeaningKnown D b (RequiredMeaning r) = Unit {0}
MeaningKnown D b LeftOutMeaning = Unit {0}

-- the blocks and records that enclose a place: all that they give a meaning is known
abbrev pub RegionKnown : Table → ℕ → Region → Type 0
RegionKnown D b (BlockRegion routine names known) = Each (MeaningKnown D b) known
RegionKnown D b (RecordRegion type fields) = Unit {0}
RegionKnown D b (OwnNames names defined) = Unit {0}

abbrev pub RegionsKnown : Table → ℕ → List Region → Type 0
RegionsKnown D b Γ = Each (RegionKnown D b) Γ

-- ---- what meanings are in the program: `chain` has the numbers of the block's routine and of those enclosing it

-- an entry of the block's routine
abbrev pub EntryIs : Program → List ℕ → ℕ → Kind → Type 0
EntryIs P [] entry kind = ⊥
EntryIs P (r ∷ rest) entry kind = slice_get (entries (routine_at P r)) entry ≡ Some kind

-- a variable, or what a parameter stands for
abbrev pub ShapeIs : Program → List ℕ → ℕ → Shape → Type 0
ShapeIs P [] entry shape = ⊥
ShapeIs P (r ∷ rest) entry shape = shape_in (slice_get (entries (routine_at P r)) entry) ≡ Some shape

-- the routine of a heading in a block
pub record IsDeclared (P : Program) (chain : List ℕ) (h : Heading) : Type 0 where
  pub some : h.number < length P.routines
  pub number : (routine_at P h.number).chain ≡ h.number ∷ chain
  pub formals : (routine_at P h.number).formals ≡ formals_of h.sections
  pub result : (routine_at P h.number).result ≡ h.result

abbrev pub MeaningStands : Program → List ℕ → Meaning → Type 0
MeaningStands P chain (VariableMeaning entry type) = EntryIs P chain entry (Own (shape_of type))
MeaningStands P chain (ParameterMeaning entry type) = ShapeIs P chain entry (shape_of type)
MeaningStands P chain (RoutineParameterMeaning entry sections result) = EntryIs P chain entry
    (Closure (kinds_of (formals_of sections)) (result_shape result))
MeaningStands P [] (RoutineMeaning h) = ⊥
MeaningStands P (r ∷ chain) (RoutineMeaning h) = IsDeclared P (r ∷ chain) h
MeaningStands P chain _ = Unit {0}

-- The blocks enclosing a place, from the inside out, each with its chain; the region of the required names has none.
abbrev pub BlocksStand : Program → Table → List Region → List ℕ → Type 0
BlocksStand P D [] chain = Unit {0}
BlocksStand P D (BlockRegion routine names known ∷ Γ) [] = Each (MeaningKnown D (length P.domains)) known × Each
    (MeaningStands P []) known × BlocksStand P D Γ []
BlocksStand P D (BlockRegion routine names known ∷ Γ) (r ∷ chain) = (routine ≡ r) × Each
    (MeaningKnown D (length P.domains)) known × Each (MeaningStands P (r ∷ chain)) known × BlocksStand P D Γ chain
BlocksStand P D (RecordRegion type fields ∷ Γ) chain = ⊥
BlocksStand P D (OwnNames names defined ∷ Γ) chain = ⊥

-- a record type with these fields
abbrev pub HasFields : DataType → FieldList → Type 0
HasFields (RecordType at packed fields) others = fields ≡ others
HasFields _ others = ⊥

-- the records that `with` opened, of these shapes, innermost first, and then the blocks
abbrev pub RegionsStand : Program → Table → List Region → List ℕ → List Shape → Type 0
RegionsStand P D (RecordRegion type fields ∷ Γ) chain [] = ⊥
RegionsStand P D (RecordRegion type fields ∷ Γ) chain (o ∷ os) = (o ≡ shape_of type) × HasFields type fields
    × TypeKnown D (length P.domains) type × RegionsStand P D Γ chain os
RegionsStand P D Γ chain [] = BlocksStand P D Γ chain
RegionsStand P D Γ chain (o ∷ os) = ⊥

-- A place in the statements of a block: what is known of all names there, of the text, and of what pointers point to.
pub record Here (c : Context) (Γ : List Region) (D : Table) (k : Scope) (os : List Shape) : Type 0 where
  pub stands : RegionsStand k.program D Γ k.chain os
  -- the domain types that are known there are those of the program
  pub domains : (n : ℕ) (type : DataType) → slice_get c.domains n ≡ Some type → slice_get k.program.domains n
      ≡ Some type
  pub targets : (n : ℕ) (type : DataType) → slice_get k.program.domains n ≡ Some type → TypeKnown D
      (length k.program.domains) type
  pub outermost : outermost_of k.chain ≡ 0
  pub bytes : Each (λ b. b < 256) c.text
  pub short : length c.text ≤ MAX_LENGTH
  pub lines : line_count c.text ≤ MAX_LINES

-- ---- what a point that a name denotes is there
abbrev pub PointStands : Table → Scope → List Shape → Point → Type 0
PointStands D k os (BlockPoint up m) = MeaningKnown D (length k.program.domains) m × MeaningStands k.program
    (drop up k.chain) m
PointStands D k os (FieldPoint which type n field) = (slice_get os which ≡ Some (shape_of type))
    × (field_part (shape_of type) n ≡ Some (shape_of field)) × TypeKnown D (length k.program.domains) field
