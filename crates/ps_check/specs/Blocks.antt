-- Routines and blocks (6.2.1, 6.6.1, 6.6.2).
use Rattle.std.specs.Prelude.{ℕ, Bool, ◌&&◌, List, [], ◌∷◌, ◌++◌, length, map, slice_get, slice_set, nat_le, nat_lt}
use Rattle.std.specs.Prelude.{Option, Some, None, is_none, option_and_then, if◌then◌else◌}
use Rattle.ps_syntax.specs.declared.program.Heading as syntax
use Rattle.ps_syntax.specs.declared.program.Routine as syntax_routine
use Rattle.ps_syntax.specs.declared.program.Block as syntax_block
use Rattle.ps_syntax.specs.declared.program.Block.{out-Block}
use Rattle.ps_syntax.specs.declared.program.Routine.TheOpen.{Routine-F}
use Rattle.ps_syntax.specs.declared.program.Routine.TheFolds.{fold-Block, fold-Routine}
use Rattle.ps_tree.specs.declared.limits.TheConstants.{MAX_CELLS, MAX_NODES, MAX_ROUTINES}
use Rattle.ps_tree.specs.Types.{DataType}
use Rattle.ps_tree.specs.Tree as Tree
use Rattle.ps_tree.specs.Counts.{routine_cells, routine_nodes}
use Rattle.ps_check_judgement.specs.declared.change.Change.{Change}
use Rattle.ps_check_judgement.specs.declared.refusal.Rule.TheVariants.{Unknown, Twice, UsedBefore, WrongKind}
use Rattle.ps_check_judgement.specs.declared.refusal.Rule.TheVariants.{NoResultAssigned, Limit}
use Rattle.ps_check_judgement.specs.Judged.{Judged, Yes, No, ◌>>=◌, provided, steps}
use Rattle.ps_check_names.specs.Spelling.{spelled, has, place, line_in}
use Rattle.ps_check_names.specs.Regions.{BlockRegion, Meaning, RoutineMeaning, Heading, Context, formals_of}
use Rattle.ps_check_declarations.specs.Points.{all}
use Rattle.ps_check_declarations.specs.Denoters.{Frame, Hidden}
use Rattle.ps_check_declarations.specs.Declarations.{declarations}
use Rattle.ps_check_declarations.specs.Headings.{heading, section_list, section_points}
use Rattle.ps_check_statements.specs.Statements.{statements}
use Rattle.ps_check.specs.Changes.{assigns, outward}
use Rattle.ps_check.specs.Readings.{Gathered, Done, Routines, BlockReading, RoutineReading, RoutineLayer, BlockLayer}
use Rattle.ps_check.specs.Readings.{heading_name, heading_list}
use Rattle.ps_check.specs.Forwards.{block_names, is_waiting, all_complete}
use Rattle.ps_check.specs.Entries.{start}

-- ---- the routine of a heading

unfoldable pub routine_tree : List ℕ → Heading → Done → Tree.Routine
routine_tree chain h b = record {
  chain = chain;
  formals = formals_of h.sections;
  result = h.result;
  variables = b.variables;
  body = b.body;
  line = b.line;
}

-- the limits on cells and nodes (this project's)
unfoldable pub is_small_routine : Tree.Routine → Bool
is_small_routine r = nat_le (routine_cells r) MAX_CELLS && nat_le (routine_nodes r) MAX_NODES

-- A routine is complete if a function's result is assigned in its block. Its name is at `at`.
unfoldable pub finished : (at : ℕ) → Heading → List ℕ → Done → Judged Gathered
finished at h chain b = do
  tree ← provided (assigns h.result b.changes) NoResultAssigned at (routine_tree chain h b)
  small ← provided (is_small_routine tree) Limit at tree
  Yes (record (b.gathered) { routines = slice_set b.gathered.routines h.number (Some small) })

unfoldable pub heading_at : (at : ℕ) → Option Meaning → Judged Heading
heading_at at (Some (RoutineMeaning h)) = Yes h
heading_at at _ = No WrongKind at

unfoldable pub own_number : List ℕ → ℕ
own_number [] = 0
own_number (n ∷ ns) = n

-- the context of a block's statements, in which more domain types are known, and what the routines of the block change
abbrev pub of_statements : Context → List DataType → List Change → Context
of_statements c domains inner = record c { domains = domains; controls = []; inner = inner }

-- ---- routines and blocks

-- what a name of the block denotes, if that is known
abbrev pub known_as : Frame → List Meaning → List ℕ → Option Meaning
known_as f known s = option_and_then (slice_get known) (place f.names s)

-- A routine's name in its own heading: its defining point comes before the rest of the heading, where it hides others
-- with its spelling.
abbrev pub hidden_in_heading : Frame → syntax.Heading → Hidden
hidden_in_heading f h = (spelled f.text (heading_name h) ∷ [], 1) ∷ []

-- A new heading, with the next number (this project's limit).
unfoldable pub new_heading : Frame → Bool → Routines → syntax.Heading → Judged Routines
new_heading f is_forward r h = do
  n ← provided (nat_lt (length r.gathered.routines) MAX_ROUTINES) Limit (heading_name h).from
      (length r.gathered.routines)
  s ← (heading f r.known h).1 (hidden_in_heading f h)
  let new : Heading = record {
    number = n;
    at = (heading_name h).from;
    sections = section_list s.0;
    result = s.1;
    names = map (spelled f.text) (all (map (section_points f r.known) (heading_list h)));
    is_forward = is_forward;
  }
  Yes (record r {
    known = r.known ++ RoutineMeaning new ∷ [];
    gathered = record (r.gathered) { routines = r.gathered.routines ++ None ∷ [] };
  })

-- `function` with a name that is not that of a forward heading
abbrev pub unheaded : Frame → RoutineReading → Judged Routines
unheaded f x = No (if has f.names (spelled f.text x.name) then UsedBefore else Unknown) x.name.from

abbrev pub headed : Frame → RoutineReading → Routines → Option syntax.Heading → Judged Routines
headed f x r None = unheaded f x
headed f x r (Some h) = new_heading f (is_none x.block) r h

-- the heading of a routine is new, unless its name is that of a forward heading, which it completes
unfoldable pub introduce : Frame → RoutineReading → Routines → Option Meaning → Judged Routines
introduce f x r (Some m) = provided (is_waiting r.gathered x m) Twice x.name.from r
introduce f x r None = headed f x r x.heading

abbrev pub introduced : Frame → RoutineReading → Routines → Judged Routines
introduced f x r = introduce f x r (known_as f r.known (spelled f.text x.name))

-- the block of a routine whose heading is known
unfoldable pub read_block : Frame → List ℕ → RoutineReading → Routines → Option BlockReading → Judged Routines
read_block f chain x r None = Yes r
read_block f chain x r (Some block) = do
  h ← heading_at x.name.from (known_as f r.known (spelled f.text x.name))
  s ← start x.name.from chain h
  b ← block (BlockRegion f.routine f.names r.known ∷ f.outer) s r.gathered
  g ← finished x.name.from h s.chain b
  Yes (record { known = r.known; changes = r.changes ++ outward b.changes; gathered = g })

unfoldable pub one_routine : Frame → List ℕ → Routines → RoutineReading → Judged Routines
one_routine f chain r x = do
  s ← introduced f x r
  read_block f chain x s x.block

unfoldable pub routine_step : RoutineLayer → RoutineReading
routine_step (Routine-F.Whole h b) = record { name = heading_name h; heading = Some h; block = Some b }
routine_step (Routine-F.Forward h) = record { name = heading_name h; heading = Some h; block = None }
routine_step (Routine-F.Completion name b) = record { name = name; heading = None; block = Some b }

-- the declarations of a block, and the types of its variables
unfoldable pub declared : Frame → BlockLayer → (first : ℕ) → List Meaning → Gathered → Judged (Routines × List DataType)
declared f b first known g = do
  d ← declarations f first
      (record { known = known; domains = g.domains; pending = []; variables = [] }) b.constants b.types b.variables
  Yes (record { known = d.known; changes = []; gathered = record g { domains = d.domains } }, d.variables)

-- The statements of a block whose routines have their blocks, with what they change.
unfoldable pub block_body : Context → Frame → BlockLayer → Routines → Judged (Tree.Statements × List Change)
block_body c f b r = do
  _ ← all_complete r.gathered r.known
  statements (of_statements c r.gathered.domains r.changes)
      (BlockRegion f.routine f.names r.known ∷ f.outer) b.statements []

module _ (c : Context) where
  -- All names of the region are known before any of them is used, and this reports nothing. Then come the declarations,
  -- the routines and the statements.
  unfoldable pub block_step : BlockLayer → BlockReading
  block_step b outer start g = do
    let f : Frame = record {
      text = c.text;
      routine = own_number start.chain;
      names = block_names c.text b start.names;
      begun = [];
      outer = outer;
    }
    d ← declared f b start.first start.known g
    r ← steps (one_routine f start.chain) d.0 b.routines
    body ← block_body c f b r
    Yes (record {
      variables = d.1;
      body = body.0;
      line = line_in c.text b.begin.from;
      changes = r.changes ++ body.1;
      gathered = r.gathered;
    })

  abbrev pub block : syntax_block.Block → BlockReading
  block = fold-Block RoutineReading BlockReading routine_step block_step

  abbrev pub routine : syntax_routine.Routine → RoutineReading
  routine = fold-Routine RoutineReading BlockReading routine_step block_step

  -- a block, given the readings of its routines
  abbrev pub layer : syntax_block.Block → BlockLayer
  layer b = record {
    constants = (out-Block b).constants;
    types = (out-Block b).types;
    variables = (out-Block b).variables;
    routines = map routine (out-Block b).routines;
    begin = (out-Block b).begin;
    statements = (out-Block b).statements;
  }
