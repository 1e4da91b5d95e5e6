-- What the values of the program denote in the definitions.
use Rattle.std.specs.Prelude.{ℕ, List, map, Option, option_map}
use Rattle.ps_tree.specs.View.{type_of, statements_of, routine_of}
use Rattle.ps_tree.specs.Tree as Tree
use Rattle.ps_check_names.specs.Views.{meaning_of}
use Rattle.ps_check_names.specs.declared.meaning.Meaning as RustMeaning
use Rattle.ps_check.specs.declared.state.Gathered as RustGathered
use Rattle.ps_check.specs.declared.state.Start as RustStart
use Rattle.ps_check.specs.declared.state.Done as RustDone
use Rattle.ps_check.specs.declared.state.Local as RustLocal
use Rattle.ps_check.specs.declared.chain.Finished.{Finished}
use Rattle.ps_check.specs.declared.program.Files as RustFiles
use Rattle.ps_check.specs.declared.program.Standard as Standard
use Rattle.ps_check.specs.declared.program.Standard.TheVariants as s
use Rattle.ps_tree.specs.Types.{OrdinalType}
use Rattle.ps_check_names.specs.Regions.{Meaning, ConstantMeaning, TypeMeaning, RequiredMeaning, LeftOutMeaning}
use Rattle.ps_check.specs.Readings.{Start, Gathered, Done, Routines}
use Rattle.ps_check.specs.Entries.{Entries}
use Rattle.ps_check.specs.Programs.{Files}

abbrev pub finished_of : Option Finished → Option Tree.Routine
finished_of o = option_map (λ f. routine_of f.routine) o

abbrev pub gathered_of : RustGathered.Gathered → Gathered
gathered_of g = record { domains = map type_of g.domains.items; routines = map finished_of g.routines.items }

abbrev pub start_of : List ℕ → RustStart.Start → Start
start_of chain s = record { chain = chain; names = s.names; known = map meaning_of s.known.items; first = s.first }

abbrev pub done_of : RustDone.Done → RustGathered.Gathered → Done
done_of b g = record {
  variables = map type_of b.variables.items;
  body = statements_of b.body.items;
  line = b.line.number;
  changes = b.changes.items;
  gathered = gathered_of g;
}

abbrev pub routines_of : RustLocal.Local → RustGathered.Gathered → Routines
routines_of l g = record { known = map meaning_of l.known.items; changes = l.changes.items; gathered = gathered_of g }

abbrev pub entries_of : ℕ → List RustMeaning.Meaning → Entries
entries_of next known = record { next = next; known = map meaning_of known }

abbrev pub files_of : RustFiles.Files → Files
files_of f = record { names = f.names; known = map meaning_of f.known.items }

-- what a required name denotes
unfoldable pub standard_meaning : Standard.Standard → Meaning
standard_meaning (s.«Type» ordinal) = TypeMeaning (OrdinalType ordinal)
standard_meaning (s.Constant ordinal value) = ConstantMeaning ordinal value
standard_meaning (s.Routine routine) = RequiredMeaning routine
standard_meaning s.LeftOut = LeftOutMeaning
