-- The names of a block's routines, and the forward headings among them (6.6.1, 6.6.2).
use Rattle.std.specs.Prelude.{ℕ, Bool, true, false, ◌&&◌, ◌||◌, not, List, [], ◌∷◌, ◌++◌, slice_get, Option, Some}
use Rattle.std.specs.Prelude.{None, is_some, is_none, if◌then◌else◌}
use Rattle.ps_tree.specs.Tree as Tree
use Rattle.ps_check_judgement.specs.declared.refusal.Rule.TheVariants.{ForwardOpen}
use Rattle.ps_check_judgement.specs.Judged.{Judged, Yes, holds, steps}
use Rattle.ps_check_names.specs.Spelling.{spelled, has}
use Rattle.ps_check_names.specs.Regions.{Meaning, RoutineMeaning, Heading}
use Rattle.ps_check_declarations.specs.Points.{add_points, block_points}
use Rattle.ps_check.specs.Readings.{Gathered, RoutineReading, BlockLayer, is_name_alone}

-- ---- the names of a block's routines, which come after those of its declarations

-- a heading defines its name, unless the name is present already
unfoldable pub add_routine : List ℕ → List (List ℕ) → RoutineReading → List (List ℕ)
add_routine text names r = if is_none r.heading || has names (spelled text r.name) then names else names
    ++ spelled text r.name ∷ []

abbrev pub add_routines : List ℕ → List (List ℕ) → List RoutineReading → List (List ℕ)
add_routines text names [] = names
add_routines text names (r ∷ rs) = add_routines text (add_routine text names r) rs

-- all names of a block's region, each once: those of its constants, types and variables, and those of its routines
unfoldable pub block_names : List ℕ → BlockLayer → List (List ℕ) → List (List ℕ)
block_names text b names = add_routines text
    (add_points text names (block_points b.constants b.types b.variables)) b.routines

-- ---- forward headings

-- the routine with this number has no block yet
abbrev pub is_vacant : Option (Option Tree.Routine) → Bool
is_vacant (Some None) = true
is_vacant _ = false

abbrev pub is_open : Gathered → Heading → Bool
is_open g h = is_vacant (slice_get g.routines h.number)

-- a procedure's heading completes a procedure's, and `function` with a name a function's
abbrev pub is_same_kind : RoutineReading → Heading → Bool
is_same_kind r h = if is_some r.heading then is_none h.result else is_some h.result

-- 6.6.1, 6.6.2: a heading with only the name and a block completes a forward heading
abbrev pub may_complete : RoutineReading → Bool
may_complete r = is_some r.block && is_name_alone r.heading

-- the meaning is a forward heading that lacks its block, and the routine completes it
unfoldable pub is_waiting : Gathered → RoutineReading → Meaning → Bool
is_waiting g r (RoutineMeaning h) = may_complete r && (is_open g h && is_same_kind r h)
is_waiting g r _ = false

-- 6.6.1: a routine of the block has its block; otherwise that is reported at its heading's name
unfoldable pub one_complete : Gathered → Unit {0} → Meaning → Judged (Unit {0})
one_complete g _ (RoutineMeaning h) = holds (not (is_open g h)) ForwardOpen h.at
one_complete g _ _ = Yes tt

-- the same for all of them, in the order in which their names were defined
unfoldable pub all_complete : Gathered → List Meaning → Judged (Unit {0})
all_complete g ms = steps (one_complete g) tt ms
