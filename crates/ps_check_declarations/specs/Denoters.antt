-- Type denoters (6.4): the type that each makes, and what it defines for its block.
use Rattle.std.specs.Prelude.{ℕ, ◌+◌, ◌-◌, pos, int_le, Bool, true, false, ◌&&◌, List, [], ◌∷◌, ◌++◌, length, map}
use Rattle.std.specs.Prelude.{Option, Some, None, nat_lt, if◌then◌else◌}
use Rattle.ps_text.specs.declared.Span.{Span}
use Rattle.ps_tree.specs.declared.limits.TheConstants.{MAX_ROUTINES}
use Rattle.ps_check_declarations.specs.declared.denoters.TheConstants.{CONSTANT_LIMIT}
use Rattle.ps_syntax.specs.First.{first_of_ordinal}
use Rattle.ps_syntax.specs.declared.program.Ordinal as syntax
use Rattle.ps_syntax.specs.declared.program.Ordinal.TheVariants as o
use Rattle.ps_syntax.specs.declared.program.Structure.{Structure}
use Rattle.ps_syntax.specs.declared.program.TypeDenoter.{TypeDenoter}
use Rattle.ps_syntax.specs.declared.program.Fields.{Fields}
use Rattle.ps_syntax.specs.declared.program.Structure.TheOpen.{Structure-F, TypeDenoter-F, Fields-F}
use Rattle.ps_syntax.specs.declared.program.Structure.TheFolds.{fold-TypeDenoter, fold-Structure, fold-Fields}
use Rattle.ps_syntax.specs.declared.statement.Constant.{Constant}
use Rattle.ps_syntax.specs.declared.statement.Constant.TheVariants as c
use Rattle.ps_tree.specs.declared.types.Host.TheVariants.{Enumeration}
use Rattle.ps_tree.specs.declared.types.Ordinal.{Ordinal}
use Rattle.ps_tree.specs.declared.types.Packing.{Packing}
use Rattle.ps_tree.specs.declared.types.Packing.TheVariants.{Packed, Unpacked}
use Rattle.ps_tree.specs.Types.{DataType, OrdinalType, PointerType, SetType, ArrayType, RecordType, field_list, listed}
use Rattle.ps_tree.specs.Types.{is_same_host}
use Rattle.ps_tree.specs.Counts.{is_small}
use Rattle.ps_check_judgement.specs.declared.refusal.Rule.TheVariants.{WrongType, BadSubrange, SetBase, Twice, Limit}
use Rattle.ps_check_judgement.specs.Judged.{Judged, Yes, No, ◌>>=◌, provided, steps}
use Rattle.ps_check_names.specs.Spelling.{spelled, place}
use Rattle.ps_check_names.specs.Regions.{Region, BlockRegion, OwnNames, Point, BlockPoint, Meaning, ConstantMeaning}
use Rattle.ps_check_names.specs.Regions.{TypeMeaning, in_own}
use Rattle.ps_check_names.specs.Constants.{ConstantValue, OrdinalConstant, denoted, misplaced, constant}
use Rattle.ps_check_declarations.specs.Points.{Points, all, add_points, is_new, new_points}

-- Where the declarations of a block are: the text, the number of the block's routine, the names of the block's region,
-- those whose definition is in progress, and the regions outside the block.
pub record Frame : Type 0 where
  pub text : List ℕ
  pub routine : ℕ
  pub names : List (List ℕ)
  pub begun : List (List ℕ)
  pub outer : List Region

-- What the declarations so far give: the meanings of the block's names, the domain types of the pointer types, the
-- names of the domain types still pending, each with the number of the block's names known before it, and the types of
-- the block's variables.
pub record Declared : Type 0 where
  pub known : List Meaning
  pub domains : List DataType
  pub pending : List (Span × ℕ)
  pub variables : List DataType

abbrev pub with_known : Declared → List Meaning → Declared
with_known d known = record d { known = known }

-- one more definition in progress
abbrev pub begin : Frame → List Meaning → (begun : List (List ℕ)) → Span → Judged (List (List ℕ))
begin f known begun name = provided (is_new f.names begun (length known) (spelled f.text name)) Twice name.from
    (begun ++ spelled f.text name ∷ [])

-- a place within these definitions
abbrev pub within : Frame → (begun : List (List ℕ)) → Frame
within f begun = record f { begun = begun }

-- What encloses a place: the denoters of records, the lists of formal parameters and the declaration of variables, from
-- the inside out, each by its names and how many of them come before the place.
abbrev pub Hidden : Type 0
Hidden = List (List (List ℕ) × ℕ)

-- the regions that enclose a place of the block
abbrev pub regions : Frame → Hidden → List Meaning → List Region
regions f hidden known = map (λ own. OwnNames own.0 own.1) hidden ++ BlockRegion f.routine f.names known ∷ f.outer

-- a name that none of these hides
unfoldable pub passes : Hidden → List ℕ → (at : ℕ) → Judged (Unit {0})
passes [] s at = Yes tt
passes (own ∷ rest) s at = in_own at own.1 (place own.0 s) (passes rest s at)

-- a constant that is not one of these names
unfoldable pub passes_in : List ℕ → Hidden → Constant → Judged (Unit {0})
passes_in text hidden (c.Number sign at) = Yes tt
passes_in text hidden (c.Name sign name) = passes hidden (spelled text name) name.from
passes_in text hidden (c.Text at) = Yes tt

-- ---- what names denote

unfoldable pub type_at : (at : ℕ) → Point → Judged DataType
type_at at (BlockPoint up (TypeMeaning type)) = Yes type
type_at at p = misplaced at p

-- the type that a name denotes
abbrev pub type_named : List ℕ → List Region → Span → Judged DataType
type_named text Γ name = denoted text Γ name >>= type_at name.from

unfoldable pub ordinal_at : (at : ℕ) → DataType → Judged Ordinal
ordinal_at at (OrdinalType o) = Yes o
ordinal_at at _ = No WrongType at

-- ---- ordinal types (6.4.2)

-- 6.4.2.3: the type with the given number of constants, which begins there; no text has as many as the limit
abbrev pub enumerated : (at count : ℕ) → Ordinal
enumerated at count =
    record { host = Enumeration at (pos (count - 1)); subrange = None; low = pos 0; high = pos (count - 1) }

-- its constants, from the given one on
abbrev pub constants_from : Ordinal → ℕ → Points → List Meaning
constants_from o n [] = []
constants_from o n (at ∷ rest) = ConstantMeaning o (pos n) ∷ constants_from o (n + 1) rest

-- 6.4.2.4: two constants of the same ordinal type, the second not below the first
unfoldable pub subrange : (at : ℕ) → ConstantValue → ConstantValue → Judged Ordinal
subrange at (OrdinalConstant o m) (OrdinalConstant p n) = if is_same_host o.host p.host then provided
    (int_le m n) BadSubrange at (record { host = o.host; subrange = Some at; low = m; high = n }) else No WrongType at
subrange at _ _ = No WrongType at

-- the subrange of two constants, which begins at an offset
abbrev pub subrange_of : Frame → Hidden → List Meaning → (at : ℕ) → Constant → Constant → Judged Ordinal
subrange_of f hidden known at low high = do
  a ← constant f.text (regions f hidden known) low
  b ← constant f.text (regions f hidden known) high
  subrange at a b

module _ (f : Frame) where
  abbrev pub enumeration : (at : ℕ) → Points → Declared → Judged (Ordinal × Declared)
  enumeration at names d = do
    count ← new_points f.text f.names f.begun (length d.known) names
    provided (nat_lt (length names) CONSTANT_LIMIT) Limit at
        (enumerated at (length names), with_known d (d.known ++ constants_from (enumerated at (length names)) 0 names))

  unfoldable pub ordinal : Hidden → Declared → syntax.Ordinal → Judged (Ordinal × Declared)
  ordinal hidden d (o.Name at) = do
    type ← type_named f.text (regions f hidden d.known) at
    o ← ordinal_at at.from type
    Yes (o, d)
  ordinal hidden d (o.Enumeration at names) = enumeration at.from names d
  ordinal hidden d (o.Subrange low high) = do
    o ← subrange_of f hidden d.known (first_of_ordinal (o.Subrange low high)) low high
    Yes (o, d)

-- ---- pointer types (6.4.4)

-- The domain type of a pointer type is pending.
abbrev pub waiting : Declared → Span → DataType × Declared
waiting d domain = (
  PointerType (length d.domains + length d.pending),
  record d { pending = d.pending ++ (domain, length d.known) ∷ [] },
)

-- A name within whose definition it lies is not a type.
abbrev pub pointer : Frame → Hidden → Declared → Span → Judged (DataType × Declared)
pointer f hidden d domain = do
  free ← passes hidden (spelled f.text domain) domain.from
  provided (nat_lt (length d.domains + length d.pending) MAX_ROUTINES) Limit domain.from (waiting d domain)

-- ---- structured types (6.4.3)

-- A structured type has at most 100,000 cells.
abbrev pub small : (at : ℕ) → DataType → Judged DataType
small at type = provided (is_small type) Limit at type

abbrev pub packing_of : Bool → Packing
packing_of packed = if packed then Packed else Unpacked

-- the `packed` before a structure, if there is one, otherwise its own first token
abbrev pub begins : Option ℕ → ℕ → ℕ
begins None at = at
begins (Some packed_at) at = packed_at

abbrev pub is_packed : Option ℕ → Bool
is_packed None = false
is_packed (Some packed_at) = true

-- Index types, each with the offset at which the array type of that index begins: that of the first array, and for
-- those within it the first token of their index.
abbrev pub Indices : Type 0
Indices = List (ℕ × Ordinal)

abbrev pub index_begins : ℕ → Indices → syntax.Ordinal → ℕ
index_begins at [] x = at
index_begins at (i ∷ is) x = first_of_ordinal x

abbrev pub index_type : Frame → Hidden → ℕ → Indices × Declared → syntax.Ordinal → Judged (Indices × Declared)
index_type f hidden at s x = ordinal f hidden s.1 x >>= (λ r. Yes (s.0 ++ (index_begins at s.0 x, r.0) ∷ [], r.1))

-- 6.4.3.2: nested arrays
unfoldable pub array_of : Bool → Indices → DataType → Judged DataType
array_of packed [] component = Yes component
array_of packed (i ∷ rest) component = array_of packed rest component
    >>= (λ type. small i.0 (ArrayType i.0 packed i.1 type))

-- 6.4.3.3: the types of the fields so far
abbrev pub FieldTypes : Type 0
FieldTypes = List DataType

-- for fields of the same type, one for each name
abbrev pub fields_of_type : DataType → Points → FieldTypes
fields_of_type type names = map (λ at. type) names

-- 6.4.3.4: the ordinals of a set's base are in 0..255. The offset of the word `set` is given separately.
abbrev pub set_of : (word at : ℕ) → Bool → Ordinal → Judged DataType
set_of word at packed o = provided (int_le (pos 0) o.low && int_le o.high (pos 255)) SetBase word
    (SetType (Some at) (packing_of packed) o)

-- ---- the denoters: each part gives a reading of the declarations before it

abbrev pub Reading : Type 0
Reading = Hidden → Declared → Judged (DataType × Declared)

-- for a structure, with the `packed` before it
abbrev pub StructureReading : Type 0
StructureReading = Option ℕ → Reading

-- for fields, with their names
abbrev pub FieldsReading : Type 0
FieldsReading = Points × Reading

module _ (f : Frame) where
  abbrev pub fields_step : Fields-F StructureReading Reading FieldsReading → FieldsReading
  fields_step x = (x.names, x.ty)

  -- One more section of fields of a record with these names. They come before its type.
  abbrev pub add_fields : List (List ℕ) → Hidden → FieldTypes × Declared → FieldsReading → Judged
      (FieldTypes × Declared)
  add_fields names hidden s x = do
    defined ← new_points f.text names [] (length s.0) x.0
    r ← x.1 ((names, defined) ∷ hidden) s.1
    Yes (s.0 ++ fields_of_type r.0 x.0, r.1)

  -- the names of a record's fields
  unfoldable pub record_names : List FieldsReading → List (List ℕ)
  record_names xs = add_points f.text [] (all (map (λ x. x.0) xs))

  unfoldable pub array_type : Option ℕ → Hidden → Declared → (at : ℕ) → List syntax.Ordinal → Reading → Judged
      (DataType × Declared)
  array_type packed hidden d at indices component = do
    is ← steps (index_type f hidden (begins packed at)) ([], d) indices
    c ← component hidden is.1
    type ← array_of (is_packed packed) is.0 c.0
    Yes (type, c.1)

  unfoldable pub record_type : Option ℕ → Hidden → Declared → (at : ℕ) → List FieldsReading → Judged
      (DataType × Declared)
  record_type packed hidden d at fields = do
    types ← steps (add_fields (record_names fields) hidden) ([], d) fields
    type ← small (begins packed at) (RecordType (begins packed at) (is_packed packed)
        (field_list (record_names fields) (listed types.0)))
    Yes (type, types.1)

  unfoldable pub set_type : Option ℕ → Hidden → Declared → (at : ℕ) → syntax.Ordinal → Judged (DataType × Declared)
  set_type packed hidden d at base = do
    o ← ordinal f hidden d base
    type ← set_of at (begins packed at) (is_packed packed) o.0
    Yes (type, o.1)

  unfoldable pub structure_step : Structure-F StructureReading Reading FieldsReading → StructureReading
  structure_step (Structure-F.Array at indices component) packed hidden d = array_type packed hidden d at.from indices
      component
  structure_step (Structure-F.Record at fields) packed hidden d = record_type packed hidden d at.from fields
  structure_step (Structure-F.Set at base) packed hidden d = set_type packed hidden d at.from base

  unfoldable pub simple_type : Hidden → Declared → syntax.Ordinal → Judged (DataType × Declared)
  simple_type hidden d (o.Name at) = type_named f.text (regions f hidden d.known) at >>= (λ type. Yes (type, d))
  simple_type hidden d (o.Enumeration at names) = ordinal f hidden d (o.Enumeration at names)
      >>= (λ r. Yes (OrdinalType r.0, r.1))
  simple_type hidden d (o.Subrange low high) = ordinal f hidden d (o.Subrange low high)
      >>= (λ r. Yes (OrdinalType r.0, r.1))

  unfoldable pub type_step : TypeDenoter-F StructureReading Reading FieldsReading → Reading
  type_step (TypeDenoter-F.Ordinal x) hidden d = simple_type hidden d x
  type_step (TypeDenoter-F.Pointer at domain) hidden d = pointer f hidden d domain
  type_step (TypeDenoter-F.Structure x) hidden d = x None hidden d
  type_step (TypeDenoter-F.Packed at x) hidden d = x (Some at.from) hidden d

  -- the type of a denoter
  abbrev pub denoter : TypeDenoter → Reading
  denoter = fold-TypeDenoter StructureReading Reading FieldsReading structure_step type_step fields_step

  abbrev pub structure : Structure → StructureReading
  structure = fold-Structure StructureReading Reading FieldsReading structure_step type_step fields_step

  abbrev pub fields : Fields → FieldsReading
  fields = fold-Fields StructureReading Reading FieldsReading structure_step type_step fields_step

  -- the names of a section of fields
  unfoldable pub section_names : Fields → Points
  section_names x = (fields x).0
