-- The regions that enclose a place in a program (ISO 7185, 6.2.2), and what a name is found to denote there.
use Rattle.std.specs.Prelude.{ℕ, zero, suc, ◌+◌, ℤ, Bool, ◌||◌, List, [], ◌∷◌, Option, Some, None, slice_get, nat_lt}
use Rattle.std.specs.Prelude.{codes, if◌then◌else◌}
use Rattle.ps_tree.specs.declared.types.Ordinal.{Ordinal}
use Rattle.ps_tree.specs.Types.{DataType, RecordType, FieldList, field_list, no_type, field_in}
use Rattle.ps_tree.specs.Tree.{Formals, no_formal, formal_before, ValueFormal, VariableFormal, RoutineFormal}
use Rattle.ps_check_names.specs.declared.meaning.File.{File}
use Rattle.ps_check_names.specs.declared.meaning.Required.{Required}
use Rattle.ps_check_judgement.specs.declared.refusal.Rule.{Rule}
use Rattle.ps_check_judgement.specs.declared.refusal.Rule.TheVariants.{Unknown, UsedBefore, WrongKind, NoInputOutput}
use Rattle.ps_check_judgement.specs.declared.change.Change.{Change}
use Rattle.ps_check_judgement.specs.Judged.{Judged, Yes, No, ◌>>=◌, some_or}
use Rattle.ps_check_names.specs.Spelling.{place, same}

-- 6.6.3.1: the sections of a formal parameter list, each with the number of its names
mutual
  pub data Section : Type 0 where
    ValueSection : (count : ℕ) → DataType → Section
    VariableSection : (count : ℕ) → DataType → Section
    -- a procedural parameter, or a functional one, which has a result
    RoutineSection : Sections → (result : Option DataType) → Section

  pub data Sections : Type 0 where
    no_section : Sections
    section_before : Section → Sections → Sections

-- the formal parameters, one for each name
abbrev pub values_before : ℕ → DataType → Formals → Formals
values_before zero type rest = rest
values_before (suc n) type rest = formal_before (ValueFormal type) (values_before n type rest)

abbrev pub variables_before : ℕ → DataType → Formals → Formals
variables_before zero type rest = rest
variables_before (suc n) type rest = formal_before (VariableFormal type) (variables_before n type rest)

unfoldable mutual
  pub formals_before : Section → Formals → Formals
  formals_before (ValueSection count type) rest = values_before count type rest
  formals_before (VariableSection count type) rest = variables_before count type rest
  formals_before (RoutineSection sections result) rest = formal_before (RoutineFormal (formals_of sections) result) rest

  pub formals_of : Sections → Formals
  formals_of no_section = no_formal
  formals_of (section_before s rest) = formals_before s (formals_of rest)

-- 6.6.1, 6.6.2: the heading of a routine
pub record Heading : Type 0 where
  pub number : ℕ
  -- the offset of the routine's name
  pub at : ℕ
  pub sections : Sections
  pub result : Option DataType
  -- the formal parameters' names, in order
  pub names : List (List ℕ)
  -- its block comes later
  pub is_forward : Bool

-- what a defining point gives its name
pub data Meaning : Type 0 where
  -- a constant of an ordinal type; a string of one character is a constant of type char
  ConstantMeaning : Ordinal → ℤ → Meaning
  -- a constant that is a string of several characters
  TextMeaning : List ℕ → Meaning
  TypeMeaning : DataType → Meaning
  -- of a variable part. Entries count from 0: a function's result, formal parameters, variables.
  VariableMeaning : (entry : ℕ) → DataType → Meaning
  -- a value or variable parameter
  ParameterMeaning : (entry : ℕ) → DataType → Meaning
  RoutineParameterMeaning : (entry : ℕ) → Sections → (result : Option DataType) → Meaning
  RoutineMeaning : Heading → Meaning
  -- input and output, defined by the program heading for the program's block
  FileMeaning : File → Meaning
  -- a required routine
  RequiredMeaning : Required → Meaning
  -- a required name that the profile leaves out
  LeftOutMeaning : Meaning

-- a region that encloses a place
pub data Region : Type 0 where
  -- A block: its routine's number, the spellings of all its defining points, including those after the place, in the
  -- order in which their definitions end, and the meanings of those before the place. The region of the required names
  -- around the program is one too.
  BlockRegion : (routine : ℕ) (names : List (List ℕ)) (known : List Meaning) → Region
  -- a record that a `with` opens
  RecordRegion : (record_type : DataType) (fields : FieldList) → Region
  -- A record within its own denoter, a formal parameter list, or the variables of a declaration: a name of it hides
  -- others of its spelling there, and can't be used. The first `defined` of them come before the place.
  OwnNames : (names : List (List ℕ)) (defined : ℕ) → Region

-- the fields of a record type; no other type has any
unfoldable pub fields_of : DataType → FieldList
fields_of (RecordType at packed fields) = fields
fields_of _ = field_list [] no_type

-- a defining point that is denoted
pub data Point : Type 0 where
  -- up: the number of blocks between the use and the point's region
  BlockPoint : (up : ℕ) → Meaning → Point
  -- which: the number of opened records between them; the field's number in its record, and its type
  FieldPoint : (which : ℕ) (record_type : DataType) (number : ℕ) → DataType → Point

-- One more. Such counts go up to 4294967295 (this project's limit; no text of 1,048,576 bytes comes near).
abbrev pub one_more : ℕ → Option ℕ
one_more n = if nat_lt n 4294967295 then Some (n + 1) else None

-- ---- the search: the point of a name, or the rule that its use breaks

-- The name has no defining point. The files have one if the program heading lists them.
abbrev pub missing : List ℕ → Rule
missing s = if same s (codes "input") || same s (codes "output") then NoInputOutput else Unknown

-- the point at an index of the block, which has to come before the place
abbrev pub of_block : (at up : ℕ) → Option Meaning → Judged Point
of_block at up None = No UsedBefore at
of_block at up (Some m) = Yes (BlockPoint up m)

-- otherwise what is found outside the block
abbrev pub in_block : (at up : ℕ) → List Meaning → Option ℕ → Judged Point → Judged Point
in_block at up known None outside = outside
in_block at up known (Some i) outside = of_block at up (slice_get known i)

-- the point of a field, otherwise what is found outside the record
abbrev pub in_record : ℕ → DataType → Option (ℕ × DataType) → Judged Point → Judged Point
in_record which type None outside = outside
in_record which type (Some f) outside = Yes (FieldPoint which type f.0 f.1)

-- a name within its own definition: one that comes before the place is of another kind
abbrev pub in_own : {A : Type 0} → (at defined : ℕ) → Option ℕ → Judged A → Judged A
in_own at defined None outside = outside
in_own at defined (Some i) outside = No (if nat_lt i defined then WrongKind else UsedBefore) at

-- the point of a name, given the regions from the inside out, after some blocks and opened records
unfoldable pub find_past : (up which : ℕ) → List Region → List ℕ → (at : ℕ) → Judged Point
find_past up which [] s at = No (missing s) at
find_past up which (BlockRegion routine names known ∷ Γ) s at = in_block at up known (place names s)
    (some_or (missing s) at (one_more up) >>= (λ n. find_past n which Γ s at))
find_past up which (RecordRegion type fields ∷ Γ) s at = in_record which type (field_in fields s)
    (some_or (missing s) at (one_more which) >>= (λ n. find_past up n Γ s at))
find_past up which (OwnNames names defined ∷ Γ) s at = in_own at defined (place names s) (find_past up which Γ s at)

-- for a name whose use begins at an offset
abbrev pub find : List Region → List ℕ → (at : ℕ) → Judged Point
find Γ s at = find_past 0 0 Γ s at

-- what does not change while a statement of a block is read
pub record Context : Type 0 where
  pub text : List ℕ
  -- the domain types of the pointer types so far, by their numbers
  pub domains : List DataType
  -- the program heading lists input, and output
  pub has_input : Bool
  pub has_output : Bool
  -- the control variables of the enclosing `for` statements, which are entries of the statement's own routine (6.8.3.9)
  pub controls : List ℕ
  -- what the routines of the block change, as the block sees it
  pub inner : List Change
