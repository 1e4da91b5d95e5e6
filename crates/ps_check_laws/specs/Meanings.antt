-- What the defining points of a block give their names, and the regions in which each block of a program is read.
use Rattle.std.specs.Prelude.{◌≡◌, ℕ, pos, ◌+◌, List, [], ◌∷◌, ◌++◌, length, map, take, Some, slice_get, is_none}
use Rattle.ps_syntax.specs.declared.program.Heading as syntax
use Rattle.ps_syntax.specs.declared.program.TypeDenoter.{TypeDenoter}
use Rattle.ps_syntax.specs.declared.program.TypeDefinition.{TypeDefinition}
use Rattle.ps_syntax.specs.declared.program.Variables.{Variables}
use Rattle.ps_syntax.specs.declared.program.Block.{Block}
use Rattle.ps_syntax.specs.declared.program.Program as syntax_program
use Rattle.ps_tree.specs.Types.{DataType}
use Rattle.ps_check_names.specs.declared.meaning.File.{File}
use Rattle.ps_check_judgement.specs.Judged.{Yes}
use Rattle.ps_check_names.specs.Spelling.{spelled}
use Rattle.ps_check_names.specs.Regions.{Region, BlockRegion, BlockPoint, Meaning, ConstantMeaning, TypeMeaning}
use Rattle.ps_check_names.specs.Regions.{VariableMeaning, RoutineMeaning, FileMeaning, Heading, find}
use Rattle.ps_check_names.specs.Constants.{ConstantValue, constant}
use Rattle.ps_check_declarations.specs.Denoters.{Frame, within, Declared, Hidden, regions, enumerated, denoter}
use Rattle.ps_check_declarations.specs.Declarations.{meaning_of_constant}
use Rattle.ps_check_declarations.specs.Headings.{Signature, heading, section_list, formal_meanings}
use Rattle.ps_check.specs.Readings.{heading_name}
use Rattle.ps_check.specs.Entries.{first_entry}
use Rattle.ps_check.specs.Blocks.{hidden_in_heading}
use Rattle.ps_check.specs.Programs.{file_named, required}
use Rattle.ps_check.specs.Paths.{block_at, routine_block as block_of}
use Rattle.ps_check_laws.specs.Definitions.{Declaration, OfFile, OfFormal, OfConstant, OfEnumeration, OfType}
use Rattle.ps_check_laws.specs.Definitions.{OfVariable, Definition, OfDeclaration, OfRoutine, formal_points}
use Rattle.ps_check_laws.specs.Definitions.{routine_heading, names_of}
use Rattle.ps_check_laws.specs.Denoting.{first_entry_at, definitions_at, points_before_at, headings_before}
use Rattle.ps_check_laws.specs.Denoting.{first_number, number_at}

-- ---- what a defining point gives its name, in the regions where the points before it are known

-- The type that a denoter makes: as it is read in the block, where some names are hidden from it, after the enumeration
-- constants within it.
pub record IsTypeOf (f : Frame) (hidden : Hidden) (t : TypeDenoter) (known : List Meaning) (type : DataType)
    : Type 0 where
  pub before : Declared
  pub behind : Declared
  pub reading : denoter f t hidden before ≡ Yes (type, behind)
  pub there : behind.known ≡ known

-- within the definition of a type
abbrev pub in_definition : Frame → TypeDefinition → Frame
in_definition f t = within f (spelled f.text t.name ∷ [])

-- within a declaration of variables, whose names come before their type
abbrev pub variable_names : Frame → Variables → List (List ℕ)
variable_names f v = map (spelled f.text) v.names

abbrev pub hidden_by : Frame → Variables → Hidden
hidden_by f v = (variable_names f v, length (variable_names f v)) ∷ []

-- a declaration of a block whose first variable has the entry `first`
abbrev pub Declares : Frame → (first : ℕ) → (before : List Meaning) → Declaration → Meaning → Type 0
Declares f first before (OfFile name) m = (file : File) × (m ≡ FileMeaning file)
    × (file_named name.from (spelled f.text name) ≡ Yes m)
Declares f first before (OfFormal x i name) m = (h : Heading)
    × (find f.outer (spelled f.text (heading_name x)) (heading_name x).from ≡ Yes (BlockPoint 0 (RoutineMeaning h)))
    × (slice_get (formal_meanings (first_entry h.result) h.sections) i ≡ Some m)
Declares f first before (OfConstant c) m = (v : ConstantValue) × (constant f.text (regions f [] before) c.value ≡ Yes v)
    × (m ≡ meaning_of_constant v)
Declares f first before (OfEnumeration at count i name) m = m ≡ ConstantMeaning (enumerated at count) (pos i)
Declares f first before (OfType t) m = (type : DataType) × IsTypeOf (in_definition f t) [] t.ty before type
    × (m ≡ TypeMeaning type)
Declares f first before (OfVariable v i name) m = (type : DataType) × (more : List Meaning) × (known : List Meaning)
    × IsTypeOf (within f (variable_names f v)) (hidden_by f v) v.ty known type × (before ≡ known ++ more)
    × (m ≡ VariableMeaning (first + i) type)

-- a heading, as it is read in the block: the routine's name hides others in it
pub record IsHeading (f : Frame) (before : List Meaning) (x : syntax.Heading) (h : Heading) : Type 0 where
  pub said : Signature
  pub reading : (heading f before x).1 (hidden_in_heading f x) ≡ Yes said
  pub at : h.at ≡ (heading_name x).from
  pub sections : h.sections ≡ section_list said.0
  pub result : h.result ≡ said.1
  pub names : h.names ≡ map (spelled f.text) (formal_points x)

-- a point of the block, where `numbers` gives the numbers of the routines of its part
abbrev pub Defines : Frame → (first : ℕ) → (numbers : ℕ → ℕ) → (before : List Meaning) → Definition → Meaning → Type 0
Defines f first numbers before (OfDeclaration d) m = Declares f first before d m
Defines f first numbers before (OfRoutine k r) m = (h : Heading) × (x : syntax.Heading) × (m ≡ RoutineMeaning h)
    × (h.number ≡ numbers k) × (routine_heading r ≡ Some x) × IsHeading f before x h
    × (h.is_forward ≡ is_none (block_of r))

-- the i-th meaning is that of the i-th point
abbrev pub AreMeanings : Frame → (first : ℕ) → (numbers : ℕ → ℕ) → List Definition → List Meaning → Type 0
AreMeanings f first numbers ds known = (i : ℕ) (d : Definition) (m : Meaning) → slice_get ds i ≡ Some d
    → slice_get known i ≡ Some m → Defines f first numbers (take i known) d m

-- ---- the regions that enclose a block

module _ (text : List ℕ) (p : syntax_program.Program) where
  -- The region of the block at a path, at a place that comes after n of its points: it has the names of all points, and
  -- the meanings of those n.
  pub record IsRegion (v : List ℕ) (n : ℕ) (outer : List Region) (r : Region) : Type 0 where
    pub block : Block
    pub definitions : List Definition
    pub known : List Meaning
    pub number : ℕ
    pub first : ℕ
    pub next : ℕ
    pub there : block_at p.block v ≡ Some block
    pub points : definitions_at text p v ≡ Some definitions
    pub own : number_at text p v ≡ Some number
    pub entries : first_entry_at text p v ≡ Some first
    pub numbers : first_number text p v ≡ Some next
    pub is : r ≡ BlockRegion number (names_of text definitions) known
    pub before : length known ≡ n
    pub meanings : AreMeanings (record {
      text = text;
      routine = number;
      names = names_of text definitions;
      begun = [];
      outer = outer;
    }) first (λ k. next + headings_before text block k) definitions known

  -- the regions around the block at a path: the block around it as far as its routine, and so on; and the required
  -- names around the program
  pub data AreAround : List ℕ → List Region → Type 0 where
    program_block : AreAround [] (required ∷ [])
    routine_block : (k : ℕ) (v : List ℕ) (n : ℕ) (r : Region) (outer : List Region) → points_before_at text p k v
        ≡ Some n → IsRegion v n outer r → AreAround v outer → AreAround (k ∷ v) (r ∷ outer)
