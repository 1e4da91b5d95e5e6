-- Programs (6.10) and the required names (6.2.2.10, 6.3, 6.4.2.2, 6.6.5, 6.6.6).
use Rattle.std.specs.Prelude.{ℕ, pos, List, [], ◌∷◌, ◌++◌, map, slice_set, Some, None, not, if◌then◌else◌, codes}
use Rattle.ps_text.specs.declared.Span.{Span}
use Rattle.ps_syntax.specs.declared.program.Program as syntax
use Rattle.ps_tree.specs.Types.{OrdinalType}
use Rattle.ps_tree.specs.Tree as Tree
use Rattle.ps_tree.specs.Counts.{is_within_limits}
use Rattle.ps_check_names.specs.declared.meaning.File.TheVariants.{Input, Output}
use Rattle.ps_check_names.specs.declared.meaning.Required.TheVariants as routine
use Rattle.ps_check_judgement.specs.declared.refusal.Rule.TheVariants.{NotInProfile, Twice, Limit}
use Rattle.ps_check_judgement.specs.Judged.{Judged, Yes, No, ◌>>=◌, provided, some_or, steps, traverse}
use Rattle.ps_check_names.specs.Spelling.{spelled, same, has}
use Rattle.ps_check_names.specs.Regions.{Region, BlockRegion, Meaning, ConstantMeaning, TypeMeaning, FileMeaning}
use Rattle.ps_check_names.specs.Regions.{RequiredMeaning, LeftOutMeaning, Context}
use Rattle.ps_check_names.specs.Constants.{integer, char, boolean}
use Rattle.ps_check.specs.Readings.{Start, Gathered, Done}
use Rattle.ps_check.specs.Blocks.{block}

-- ---- the region around the program

abbrev pub Names : Type 0
Names = List (List ℕ × Meaning)

-- required constants (6.4.2.2) and types (6.4.2.2)
unfoldable pub required_types : Names
required_types = (codes "integer", TypeMeaning (OrdinalType integer)) ∷ (codes "char", TypeMeaning (OrdinalType char))
    ∷ (codes "boolean", TypeMeaning (OrdinalType boolean))
    ∷ (codes "maxint", ConstantMeaning integer integer.high) ∷ (codes "false", ConstantMeaning boolean (pos 0))
    ∷ (codes "true", ConstantMeaning boolean (pos 1)) ∷ []

-- required functions (6.6.6) and procedures (6.6.5)
unfoldable pub required_routines : Names
required_routines = (codes "abs", RequiredMeaning routine.Abs) ∷ (codes "sqr", RequiredMeaning routine.Sqr)
    ∷ (codes "odd", RequiredMeaning routine.Odd) ∷ (codes "chr", RequiredMeaning routine.Chr)
    ∷ (codes "ord", RequiredMeaning routine.Ord) ∷ (codes "succ", RequiredMeaning routine.Succ)
    ∷ (codes "pred", RequiredMeaning routine.Pred) ∷ (codes "eof", RequiredMeaning routine.Eof)
    ∷ (codes "eoln", RequiredMeaning routine.Eoln) ∷ (codes "read", RequiredMeaning routine.Read)
    ∷ (codes "readln", RequiredMeaning routine.Readln) ∷ (codes "write", RequiredMeaning routine.Write)
    ∷ (codes "writeln", RequiredMeaning routine.Writeln) ∷ (codes "new", RequiredMeaning routine.New)
    ∷ (codes "pack", RequiredMeaning routine.Pack) ∷ (codes "unpack", RequiredMeaning routine.Unpack) ∷ []

-- the names that the profile leaves out
unfoldable pub left_out : Names
left_out = (codes "real", LeftOutMeaning) ∷ (codes "text", LeftOutMeaning) ∷ (codes "trunc", LeftOutMeaning)
    ∷ (codes "round", LeftOutMeaning) ∷ (codes "sin", LeftOutMeaning) ∷ (codes "cos", LeftOutMeaning)
    ∷ (codes "exp", LeftOutMeaning) ∷ (codes "ln", LeftOutMeaning) ∷ (codes "sqrt", LeftOutMeaning)
    ∷ (codes "arctan", LeftOutMeaning) ∷ (codes "get", LeftOutMeaning) ∷ (codes "put", LeftOutMeaning)
    ∷ (codes "reset", LeftOutMeaning) ∷ (codes "rewrite", LeftOutMeaning) ∷ (codes "page", LeftOutMeaning)
    ∷ (codes "dispose", LeftOutMeaning) ∷ []

unfoldable pub required_names : Names
required_names = required_types ++ required_routines ++ left_out

-- the region around the program
unfoldable pub required : Region
required = BlockRegion 0 (map (λ r. r.0) required_names) (map (λ r. r.1) required_names)

-- ---- program parameters

-- the files that the heading lists so far: their names, and what they are
pub record Files : Type 0 where
  pub names : List (List ℕ)
  pub known : List Meaning

abbrev pub no_files : Files
no_files = record { names = []; known = [] }

-- the file with this spelling, at `at`
abbrev pub file_named : (at : ℕ) → List ℕ → Judged Meaning
file_named at s = if same s (codes "input") then Yes (FileMeaning Input)
    else (if same s (codes "output") then Yes (FileMeaning Output) else No NotInProfile at)

-- one more name of the region around the program, unless it is present
unfoldable pub add_required : Files → List ℕ × Meaning → Files
add_required region e =
    if has region.names e.0 then region
    else record { names = region.names ++ e.0 ∷ []; known = region.known ++ e.1 ∷ [] }

abbrev pub add_all_required : Files → Names → Files
add_all_required region [] = region
add_all_required region (e ∷ es) = add_all_required (add_required region e) es

-- a program parameter is input or output, and none occurs twice
unfoldable pub list_file : List ℕ → Files → Span → Judged Files
list_file text files at = do
  meaning ← file_named at.from (spelled text at)
  names ← provided (not (has files.names (spelled text at))) Twice at.from (files.names ++ spelled text at ∷ [])
  Yes (record { names = names; known = files.known ++ meaning ∷ [] })

-- ---- programs

-- The routine of the program block is 0, and is outside all others.
abbrev pub program_chain : List ℕ
program_chain = 0 ∷ []

abbrev pub program_start : Files → Start
program_start files = record { chain = program_chain; names = files.names; known = files.known; first = 0 }

abbrev pub nothing_gathered : Gathered
nothing_gathered = record { domains = []; routines = None ∷ [] }

abbrev pub program_routine : Done → Tree.Routine
program_routine b = record {
  chain = program_chain;
  formals = Tree.no_formal;
  result = None;
  variables = b.variables;
  body = b.body;
  line = b.line;
}

-- the context of the program, outside its statements
abbrev pub program_context : List ℕ → Files → Context
program_context text files = record {
  text = text;
  domains = [];
  has_input = has files.names (codes "input");
  has_output = has files.names (codes "output");
  controls = [];
  inner = [];
}

-- The program of these parts, if each routine has its block and it keeps the limits (this project's). Its name is at
-- `at`.
unfoldable pub assembled : (at : ℕ) → Gathered → Judged Tree.Program
assembled at g = do
  routines ← traverse (some_or Limit at) g.routines
  let made : Tree.Program = record { routines = routines; domains = g.domains }
  provided (is_within_limits made) Limit at made

-- with the program block as routine 0
unfoldable pub program_of : (at : ℕ) → Done → Judged Tree.Program
program_of at b = assembled at
    (record (b.gathered) { routines = slice_set b.gathered.routines 0 (Some (program_routine b)) })

-- the checked program of a tree whose heading lists these files
unfoldable pub program_with : List ℕ → syntax.Program → Files → Judged Tree.Program
program_with text p files = block (program_context text files) p.block (required ∷ [])
    (program_start files) nothing_gathered >>= program_of p.name.from

-- **The judgement of a program**: its checked tree, or the rule that it breaks and the offset of the token at which
-- that is reported, in the order of the text.
unfoldable pub program : List ℕ → syntax.Program → Judged Tree.Program
program text p = steps (list_file text) no_files p.parameters >>= program_with text p
