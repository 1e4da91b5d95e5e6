-- What a name denotes in a program (6.2.2), stated for the whole tree: a defining point is given by the path of its
-- block and its place among the points there.
use Rattle.std.specs.Prelude.{◌≡◌, ◌<◌, ℕ, suc, ◌+◌, false, List, [], ◌∷◌, ◌++◌, map, Option, Some, slice_get, take}
use Rattle.std.specs.Prelude.{if◌then◌else◌}
use Rattle.ps_text.specs.declared.Span.{Span}
use Rattle.ps_syntax.specs.declared.program.Heading.{Heading}
use Rattle.ps_syntax.specs.declared.program.Block.{Block, out-Block}
use Rattle.ps_syntax.specs.declared.program.Routine.{Routine}
use Rattle.ps_syntax.specs.declared.program.Routine.TheOpen.{Routine-F, Block-F}
use Rattle.ps_syntax.specs.declared.program.Routine.TheFolds.{fold-Block, fold-Routine}
use Rattle.ps_syntax.specs.declared.program.Program as syntax
use Rattle.ps_check_laws.specs.Option.{◌>>=◌}
use Rattle.ps_check_names.specs.Spelling.{spelled, has, place}
use Rattle.ps_check.specs.Readings.{heading_name}
use Rattle.ps_check.specs.Paths.{block_at}
use Rattle.ps_check_laws.specs.Definitions.{Declarations, OfFile, Definition, formal_declarations, entries_before}
use Rattle.ps_check_laws.specs.Definitions.{definitions_of, names_of, introducer, heading_of, routine_name}
use Rattle.ps_check_laws.specs.Definitions.{routine_names, introduced, points_before}

-- ---- the points of the blocks

-- The points that the region of the block at a path has before the block's own: the program's parameters, or the formal
-- parameters of the routine. Paths list routines from the inside out.
unfoldable pub first_declarations : List ℕ → syntax.Program → List ℕ → Option Declarations
first_declarations text p [] = Some (map OfFile p.parameters)
first_declarations text p (k ∷ v) = do
  b ← block_at p.block v
  first ← first_declarations text p v
  r ← slice_get (out-Block b).routines k
  h ← heading_of text (definitions_of text first b) r
  Some (formal_declarations h)

-- the heading of routine k of the block at a path: its own, or the forward heading
unfoldable pub heading_at : List ℕ → syntax.Program → ℕ → List ℕ → Option Heading
heading_at text p k v = do
  b ← block_at p.block v
  first ← first_declarations text p v
  r ← slice_get (out-Block b).routines k
  heading_of text (definitions_of text first b) r

-- the entry of the first variable of the block at a path: 0, or after those of the routine's result and formal
-- parameters
unfoldable pub first_entry_at : List ℕ → syntax.Program → List ℕ → Option ℕ
first_entry_at text p [] = Some 0
first_entry_at text p (k ∷ v) = do
  b ← block_at p.block v
  first ← first_declarations text p v
  r ← slice_get (out-Block b).routines k
  h ← heading_of text (definitions_of text first b) r
  Some (entries_before h)

-- the points of the region of the block at a path
unfoldable pub definitions_at : List ℕ → syntax.Program → List ℕ → Option (List Definition)
definitions_at text p v = do
  b ← block_at p.block v
  first ← first_declarations text p v
  Some (definitions_of text first b)

-- the number of those before the block of routine k there
unfoldable pub points_before_at : List ℕ → syntax.Program → ℕ → List ℕ → Option ℕ
points_before_at text p k v = do
  b ← block_at p.block v
  first ← first_declarations text p v
  Some (points_before text first b k)

-- ---- what a name denotes

-- where a defining point is
pub record Where : Type 0 where
  pub path : List ℕ
  pub number : ℕ

-- A use of a spelling, at a place of the block at a path that comes after n points of the block, denotes the point of
-- the innermost enclosing block that defines the spelling (6.2.2.5); the point comes before the use (6.2.2.9).
pub data Denotes (text : List ℕ) (p : syntax.Program) (s : List ℕ) : List ℕ → ℕ → Where → Type 0 where
  here : (v : List ℕ) (n i : ℕ) (ds : List Definition) → definitions_at text p v ≡ Some ds → place (names_of text ds) s
      ≡ Some i → i < n → Denotes text p s v n (record {
        path = v;
        number = i;
      })
  outward : (k : ℕ) (v : List ℕ) (n m : ℕ) (w : Where) (ds : List Definition) → definitions_at text p (k ∷ v) ≡ Some ds
      → has (names_of text ds) s ≡ false
      → points_before_at text p k v ≡ Some m → Denotes text p s v m w → Denotes text p s (k ∷ v) n w

-- ---- the numbers of the routines, in the order of their first headings

-- a routine: its name, and the number of routines introduced within its block
abbrev pub Count : Type 0
Count = Span × ℕ

abbrev pub count_step : Routine-F Count ℕ → Count
count_step (Routine-F.Whole h n) = (heading_name h, n)
count_step (Routine-F.Forward h) = (heading_name h, 0)
count_step (Routine-F.Completion name n) = (name, n)

-- the number of headings in some routines, after names of routines that come before
unfoldable pub counted : List ℕ → (before : List (List ℕ)) → List Count → ℕ
counted text before [] = 0
counted text before (r ∷ rs) =
    if has before (spelled text r.0) then r.1 + counted text before rs else suc
    (r.1 + counted text (before ++ spelled text r.0 ∷ []) rs)

unfoldable pub block_step : List ℕ → Block-F Count ℕ → ℕ
block_step text b = counted text [] b.routines

abbrev pub routine_count : List ℕ → Routine → Count
routine_count text = fold-Routine Count ℕ count_step (block_step text)

-- the number of headings within a block
abbrev pub headings_within : List ℕ → Block → ℕ
headings_within text = fold-Block Count ℕ count_step (block_step text)

-- the number of headings in the block before its routine k
unfoldable pub headings_before : List ℕ → Block → ℕ → ℕ
headings_before text b k = counted text [] (map (routine_count text) (take k (out-Block b).routines))

-- 1 if routine k introduces its name
unfoldable pub own_heading : List ℕ → Block → ℕ → Routine → ℕ
own_heading text b k r = if has (routine_names text (introduced text (take k (out-Block b).routines)))
    (spelled text (routine_name r)) then 0 else 1

-- the number of the first heading within the block at a path
unfoldable pub first_number : List ℕ → syntax.Program → List ℕ → Option ℕ
first_number text p [] = Some 1
first_number text p (k ∷ v) = do
  b ← block_at p.block v
  n ← first_number text p v
  r ← slice_get (out-Block b).routines k
  Some (n + headings_before text b k + own_heading text b k r)

-- the number of the routine whose block is at a path
unfoldable pub number_at : List ℕ → syntax.Program → List ℕ → Option ℕ
number_at text p [] = Some 0
number_at text p (k ∷ v) = do
  b ← block_at p.block v
  n ← first_number text p v
  ds ← definitions_at text p v
  r ← slice_get (out-Block b).routines k
  q ← introducer text ds (spelled text (routine_name r))
  Some (n + headings_before text b q.0)

-- the numbers of the routine and of those around it, innermost first
unfoldable pub chain_at : List ℕ → syntax.Program → List ℕ → Option (List ℕ)
chain_at text p [] = Some (0 ∷ [])
chain_at text p (k ∷ v) = do
  n ← number_at text p (k ∷ v)
  ns ← chain_at text p v
  Some (n ∷ ns)
