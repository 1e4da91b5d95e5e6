-- What it means for a program to be read, stated for its whole tree: block by block, where each defining point has one
-- meaning and each block its checked routine.
use Rattle.std.specs.Prelude.{◌≡◌, ℕ, suc, ◌+◌, true, List, [], ◌∷◌, ◌++◌, length, map, take, Some, None, slice_get}
use Rattle.ps_syntax.specs.declared.program.Heading as syntax
use Rattle.ps_syntax.specs.declared.program.Block.{Block, out-Block}
use Rattle.ps_syntax.specs.declared.program.Routine.{Routine}
use Rattle.ps_syntax.specs.declared.program.Program as syntax_program
use Rattle.ps_tree.specs.Tree as Tree
use Rattle.ps_tree.specs.Counts.{is_within_limits}
use Rattle.ps_check_judgement.specs.declared.change.Change.{Change}
use Rattle.ps_check_judgement.specs.Judged.{Yes, steps}
use Rattle.ps_check_names.specs.Spelling.{spelled, line_in}
use Rattle.ps_check_names.specs.Regions.{Region, BlockRegion, BlockPoint, Meaning, RoutineMeaning, Heading, formals_of}
use Rattle.ps_check_names.specs.Regions.{find}
use Rattle.ps_check_declarations.specs.Declarations.{declarations}
use Rattle.ps_check_declarations.specs.Headings.{formal_meanings}
use Rattle.ps_check_statements.specs.Statements.{statements}
use Rattle.ps_check.specs.Readings.{Start, heading_name}
use Rattle.ps_check.specs.Entries.{first_entry}
use Rattle.ps_check.specs.Blocks.{own_number, of_statements}
use Rattle.ps_check.specs.Programs.{Files, no_files, list_file, program, program_start, program_context, required}
use Rattle.ps_check.specs.Changes.{assigns}
use Rattle.ps_check.specs.RegionNames.{AreApart}
use Rattle.ps_check.specs.Paths.{routine_block}
use Rattle.ps_check_laws.specs.Definitions.{Declarations, OfDeclaration, entries_before, definitions_of, names_of}
use Rattle.ps_check_laws.specs.Definitions.{points_before, points_before_routines}
use Rattle.ps_check_laws.specs.Denoting.{first_declarations, heading_at, first_number, chain_at, headings_before}
use Rattle.ps_check_laws.specs.Denoting.{headings_within}
use Rattle.ps_check_laws.specs.Counts.{own_domains, block_domains, first_domain_at}
use Rattle.ps_check_laws.specs.Forward.{AreCompleted}
use Rattle.ps_check_laws.specs.Controls.{changes_from}
use Rattle.ps_check_laws.specs.Meanings.{AreMeanings}

module _ (text : List ℕ) (p : syntax_program.Program) (files : Files) (made : Tree.Program) where
  -- What the block at a path begins with, and the parameters and the result of its checked routine: those of the
  -- program heading, or of the heading that its routine's name denotes around it, where each formal parameter has an
  -- entry after that of a function's result.
  pub data IsBegun : List ℕ → List Region → Start → Tree.Routine → Type 0 where
    of_program : (Γ : List Region) (r : Tree.Routine) → r.formals ≡ Tree.no_formal → r.result ≡ None → IsBegun [] Γ
        (program_start files) r
    of_heading : (k : ℕ) (v : List ℕ) (Γ : List Region) (s : Start) (r : Tree.Routine) (x : syntax.Heading)
        (h : Heading) (chain : List ℕ) → heading_at text p k v ≡ Some x
        → find Γ (spelled text (heading_name x)) (heading_name x).from ≡ Yes (BlockPoint 0 (RoutineMeaning h))
        → chain_at text p v ≡ Some chain → s.chain ≡ h.number ∷ chain → s.known ≡ formal_meanings
        (first_entry h.result) h.sections → s.first ≡ entries_before x → r.formals ≡ formals_of h.sections
        → r.result ≡ h.result → IsBegun (k ∷ v) Γ s r

  -- The rules that the block at a path keeps by itself, within some regions.
  pub record KeepsRules (v : List ℕ) (b : Block) (regions : List Region) : Type 0 where
    -- its checked routine
    pub start : Start
    pub routine : Tree.Routine
    pub begins : IsBegun v regions start routine
    pub chain : chain_at text p v ≡ Some start.chain
    pub is_chain : routine.chain ≡ start.chain
    pub checked : slice_get made.routines (own_number start.chain) ≡ Some routine
    pub is_line : routine.line ≡ line_in text (out-Block b).begin.from
    -- its first points
    pub first : Declarations
    pub firsts : first_declarations text p v ≡ Some first
    pub names : start.names ≡ names_of text (map OfDeclaration first)
    -- the numbers of the first routine within it, and of its first pointer type
    pub next : ℕ
    pub numbers : first_number text p v ≡ Some next
    pub pointers : ℕ
    pub domains : first_domain_at p v ≡ Some pointers
    -- a name has one defining point in its region (6.2.2.7), and each forward heading its block (6.6.1, 6.6.2)
    pub apart : AreApart (names_of text (definitions_of text first b))
    pub completed : AreCompleted text (out-Block b).routines
    -- each point has a meaning, the one that its definition gives it when the points before it are known
    pub known : List Meaning
    pub many : length known ≡ length (definitions_of text first b)
    pub begun : start.known ≡ take (length first) known
    pub means : AreMeanings (record {
      text = text;
      routine = own_number start.chain;
      names = names_of text (definitions_of text first b);
      begun = [];
      outer = regions;
    }) start.first (λ k. next + headings_before text b k) (definitions_of text first b) known
    -- its constants, types and variables (6.3, 6.4, 6.5.1)
    pub declared : declarations (record {
      text = text;
      routine = own_number start.chain;
      names = names_of text (definitions_of text first b);
      begun = [];
      outer = regions;
    }) start.first (record {
      known = start.known;
      domains = take pointers made.domains;
      pending = [];
      variables = [];
    })
        (out-Block b).constants (out-Block b).types (out-Block b).variables
        ≡ Yes (record {
          known = take (points_before_routines first b) known;
          domains = take (pointers + own_domains b) made.domains;
          pending = [];
          variables = routine.variables;
        })
    -- what its routines change, as it sees it
    pub inner : List Change
    -- its statements, with all its points known (6.8): the statement that a `for` statement repeats doesn't change the
    -- control variable, nor do the routines (6.8.3.9)
    pub changes : List Change
    pub body : statements (of_statements (program_context text files)
        (take (pointers + block_domains b) made.domains) inner)
        (BlockRegion (own_number start.chain) (names_of text (definitions_of text first b)) known ∷ regions)
        (out-Block b).statements [] ≡ Yes (routine.body, changes)
    -- a function's result is assigned in its block (6.6.2)
    pub assigned : assigns routine.result (inner ++ changes) ≡ true

  -- A block is read within some regions if it keeps these rules, and each block of its routines is read within its
  -- region as well, as far as the points before it are known. It changes what its routines change of the variables
  -- around their blocks, and what its statements change.
  pub data BlockIsRead : List ℕ → Block → List Region → List Change → Type 0 where
    is_read : (v : List ℕ) (b : Block) (regions : List Region) (all : List Change) (own : KeepsRules v b regions) → all
        ≡ own.inner ++ own.changes
        → (changes : ℕ → List Change) → own.inner ≡ changes_from changes 0 (out-Block b).routines
        → ((k : ℕ) (r : Routine) (inner : Block) → slice_get (out-Block b).routines k ≡ Some r → routine_block r
        ≡ Some inner
        → BlockIsRead (k ∷ v) inner (BlockRegion (own_number own.start.chain)
        (names_of text (definitions_of text own.first b)) (take (points_before text own.first b k) own.known)
        ∷ regions) (changes k))
        → BlockIsRead v b regions all

-- A tree is read as a checked program, which has no other routines and domain types and keeps the limits (this
-- project's).
pub record ProgramIsRead (text : List ℕ) (p : syntax_program.Program) (made : Tree.Program) : Type 0 where
  pub files : Files
  pub listed : steps (list_file text) no_files p.parameters ≡ Yes files
  pub changes : List Change
  pub block : BlockIsRead text p files made [] p.block (required ∷ []) changes
  pub routines : length made.routines ≡ suc (headings_within text p.block)
  pub domains : length made.domains ≡ block_domains p.block
  pub limits : is_within_limits made ≡ true

-- a checked program is read so
abbrev pub CheckedProgramsAreRead : Type 0
CheckedProgramsAreRead = (text : List ℕ) (p : syntax_program.Program) (made : Tree.Program) → program text p ≡ Yes made
    → ProgramIsRead text p made

-- and no other is: if the checker has no tree, no program is read so
abbrev pub ReadProgramsAreChecked : Type 0
ReadProgramsAreChecked = (text : List ℕ) (p : syntax_program.Program) (made : Tree.Program) → ProgramIsRead text p made
    → program text p ≡ Yes made

-- so a tree is read as at most one program
abbrev pub OneProgramIsRead : Type 0
OneProgramIsRead = (text : List ℕ) (p : syntax_program.Program) (made other : Tree.Program) → ProgramIsRead text p made
    → ProgramIsRead text p other → made ≡ other
