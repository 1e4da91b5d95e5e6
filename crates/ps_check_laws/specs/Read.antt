-- The blocks of a checked program: each is read in the regions that enclose it, with what its names mean there, and the
-- result is its checked routine.
use Rattle.std.specs.Prelude.{◌≡◌, ◌<◌, ℕ, ◌+◌, true, List, [], ◌∷◌, ◌++◌, length, map, take, drop, Some, None}
use Rattle.std.specs.Prelude.{slice_get}
use Rattle.ps_syntax.specs.declared.program.Heading as syntax
use Rattle.ps_syntax.specs.declared.program.Block.{Block, out-Block}
use Rattle.ps_syntax.specs.declared.program.Program as syntax_program
use Rattle.ps_tree.specs.Tree as Tree
use Rattle.ps_check_judgement.specs.declared.change.Change.{Change}
use Rattle.ps_check_judgement.specs.Judged.{Yes, steps}
use Rattle.ps_check_names.specs.Spelling.{spelled}
use Rattle.ps_check_names.specs.Regions.{Region, BlockPoint, RoutineMeaning, Heading, formals_of, find}
use Rattle.ps_check_statements.specs.Statements.{statements}
use Rattle.ps_check.specs.Readings.{Start, Gathered, Done, heading_name}
use Rattle.ps_check.specs.Blocks.{of_statements, block}
use Rattle.ps_check.specs.Programs.{Files, no_files, list_file, nothing_gathered, program, program_of, program_start}
use Rattle.ps_check.specs.Programs.{program_context, required}
use Rattle.ps_check.specs.Changes.{assigns}
use Rattle.ps_check.specs.RegionNames.{Each, AreApart}
use Rattle.ps_check.specs.Paths.{block_at}
use Rattle.ps_check_laws.specs.Definitions.{Declarations, Definition, OfDeclaration, OfRoutine, routine_heading}
use Rattle.ps_check_laws.specs.Definitions.{names_of, points_before_variables, points_before_routines}
use Rattle.ps_check_laws.specs.Denoting.{first_declarations, heading_at, definitions_at, number_at, chain_at}
use Rattle.ps_check_laws.specs.Within.{AreThoseWithin}
use Rattle.ps_check_laws.specs.Domains.{type_domains, variable_domains, AreDomains}
use Rattle.ps_check_laws.specs.Meanings.{IsRegion, AreAround}
use Rattle.ps_check_laws.specs.Controls.{statements_control, AreUnchanged}
use Rattle.ps_check_laws.specs.Occurrences.{statements_uses}
use Rattle.ps_check_laws.specs.InStatements.{IsDenotedThere}
use Rattle.ps_check_laws.specs.InDeclarations.{declaration_uses, heading_part, behind, IsDenotedBefore}
use Rattle.ps_syntax.specs.declared.program.Routine.{Routine}

-- A checked routine, given its heading: a program has no formal parameters, a routine those that its heading says where
-- its name is defined.
pub data IsOfHeading (text : List ℕ) (p : syntax_program.Program) : List ℕ → List Region → Tree.Routine → Type 0 where
  of_program : (Γ : List Region) (r : Tree.Routine) → r.formals ≡ Tree.no_formal → r.result ≡ None
      → IsOfHeading text p [] Γ r
  of_heading : (k : ℕ) (v : List ℕ) (Γ : List Region) (r : Tree.Routine) (x : syntax.Heading) (h : Heading)
      → heading_at text p k v ≡ Some x → find Γ (spelled text (heading_name x)) (heading_name x).from ≡ Yes
      (BlockPoint 0 (RoutineMeaning h))
      → number_at text p (k ∷ v) ≡ Some h.number → r.formals ≡ formals_of h.sections → r.result ≡ h.result
      → IsOfHeading text p (k ∷ v) Γ r

-- The block at a path is read in the regions that enclose it, its statements in its own region as well, and the checked
-- routine is what was read.
pub record IsReadThere (text : List ℕ) (p : syntax_program.Program) (files : Files) (made : Tree.Program) (v : List ℕ)
    (b : Block) : Type 0 where
  pub regions : List Region
  pub start : Start
  pub gathered : Gathered
  pub done : Done
  pub reading : block (program_context text files) b regions start gathered ≡ Yes done
  pub around : AreAround text p v regions
  -- the block begins with the numbers of the routines around it, and with its first names
  pub chain : chain_at text p v ≡ Some start.chain
  pub first : Declarations
  pub firsts : first_declarations text p v ≡ Some first
  pub names : start.names ≡ names_of text (map OfDeclaration first)
  -- what its routines change, as it sees it, and what its statements do
  pub inner : List Change
  pub changes : List Change
  pub all_changes : done.changes ≡ inner ++ changes
  -- its statements are read with all its points known
  pub own : Region
  pub all : List Definition
  pub points : definitions_at text p v ≡ Some all
  -- a name has one defining point in its region (6.2.2.7)
  pub apart : AreApart (names_of text all)
  pub region : IsRegion text p v (length all) regions own
  pub body : statements (of_statements (program_context text files) done.gathered.domains inner) (own ∷ regions)
      (out-Block b).statements [] ≡ Yes (done.body, changes)
  -- each name that is used in them denotes what is found there
  pub uses : Each (IsDenotedThere text p v (length all)
      (of_statements (program_context text files) done.gathered.domains inner) (own ∷ regions))
      (statements_uses (out-Block b).statements)
  -- so does each in its declarations, and in the headings of its routines, with the points before it known
  pub declared : Each (IsDenotedBefore text p v regions) (declaration_uses (length first) b)
  pub headings : (i k : ℕ) (r : Routine) (h : syntax.Heading) → slice_get all i ≡ Some (OfRoutine k r)
      → routine_heading r ≡ Some h → Each (IsDenotedBefore text p v regions) (behind i (heading_part h).1)
  -- the domain types of its pointer types are read with all points of their part known (6.4.4)
  pub type_domains_are : AreDomains (record {
    text = text;
    routine = region.number;
    names = names_of text region.definitions;
    begun = [];
    outer = regions;
  }) (take (points_before_variables first b) region.known) (length gathered.domains)
      (type_domains (out-Block b).types) made.domains
  pub variable_domains_are : AreDomains (record {
    text = text;
    routine = region.number;
    names = names_of text region.definitions;
    begun = [];
    outer = regions;
  }) (take (points_before_routines first b) region.known)
      (length gathered.domains + length (type_domains (out-Block b).types))
      (variable_domains (out-Block b).variables) made.domains
  -- the checked routine with its number
  pub number : ℕ
  pub numbered : number_at text p v ≡ Some number
  pub routine : Tree.Routine
  pub checked : slice_get made.routines number ≡ Some routine
  pub is_body : routine.body ≡ done.body
  pub is_variables : routine.variables ≡ done.variables
  pub is_chain : routine.chain ≡ start.chain
  pub is_of_heading : IsOfHeading text p v regions routine
  -- at most 15 routines are around its block (this project's limit)
  pub deep : length v < 16
  -- the routines that are gathered while it is read are those within the block
  pub within : AreThoseWithin text p made v b (drop (length gathered.routines) done.gathered.routines)
  -- its routines change no control variable of its `for` statements (6.8.3.9), and a function's result is assigned
  -- (6.6.2)
  pub safe : AreUnchanged inner (statements_control done.body)
  pub assigned : assigns routine.result done.changes ≡ true

-- Each block of a program that has a checked tree. The tree is what reading the program's block gathers.
pub record BlocksAreReadThere (text : List ℕ) (p : syntax_program.Program) (made : Tree.Program) : Type 0 where
  pub files : Files
  pub listed : steps (list_file text) no_files p.parameters ≡ Yes files
  pub done : Done
  pub reading : block (program_context text files) p.block (required ∷ []) (program_start files) nothing_gathered
      ≡ Yes done
  pub is_made : program_of p.name.from done ≡ Yes made
  pub each : (v : List ℕ) (b : Block) → block_at p.block v ≡ Some b → IsReadThere text p files made v b

abbrev pub NamesMeanTheirPoints : Type 0
NamesMeanTheirPoints = (text : List ℕ) (p : syntax_program.Program) (made : Tree.Program) → program text p ≡ Yes made
    → BlocksAreReadThere text p made
