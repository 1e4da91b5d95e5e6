-- What becomes of a text whose run is observed, as the status says.
use Rattle.std.specs.Prelude.{◌≡◌, ◌⊎◌, ℕ, suc, nat_eq, if◌then◌else◌, Bool, true, false, not, List, Option}
use Rattle.std.specs.Prelude.{Some, None, is_some, option_map, string_bytes}
use Rattle.std.specs.List.{list_any}
use Rattle.std.specs.Str.{str_eq_ignore_ascii_case}
use Rattle.risc_machine.specs.Console.{World}
use Rattle.ps_map.specs.declared.map.Map.{Map}
use Rattle.pascal_command.specs.Command.{Limits, Text}
use Rattle.pascal_cli.specs.Failures.{HasRefusal}
use Rattle.pascal_cli.specs.Jobs.{RanOf}
use Rattle.pascal_command.specs.declared.options.Options.{Options}
use Rattle.pascal_command.specs.declared.job.Watch.{Watch}
use Rattle.pascal_command.specs.declared.job.Watch.TheVariants.{Why, Trace, Cover, Profile}

-- ---- the routine whose statements are told

-- the routine that the options name
abbrev pub routine_of : Options → Option Text
routine_of options = option_map (λ name. name.now) options.traces.routine

-- a routine of the map has the name, in letters of either case
abbrev pub has_routine : Map → Text → Bool
has_routine map name = list_any (λ routine. str_eq_ignore_ascii_case (string_bytes routine.name) name)
    map.routines.items

-- a routine is named that the map doesn't have
abbrev pub lacks_routine : Map → Option Text → Bool
lacks_routine map None = false
lacks_routine map (Some name) = not (has_routine map name)

-- a trace is requested for a routine with this name
abbrev pub names_routine : Watch → Options → Bool
names_routine Trace options = is_some (routine_of options)
names_routine Why options = false
names_routine Cover options = false
names_routine Profile options = false

-- ---- what is reported of a run

-- The status is that of the run; or it is 1, since the report on the run is not whole, which has failed.
abbrev pub IsReported : (Ran : ℕ → Type 0) → (failed : Bool) → (status : ℕ) → Type 0
IsReported Ran failed status = Ran status ⊎ ((status ≡ 1) × (failed ≡ true) × ((ended : ℕ) × Ran ended))

-- If there is no such routine, nothing is run. Otherwise there was a run, or nothing is run since something failed.
abbrev pub IsTraced : (lacks : Bool) → (old new : World) → (failed : Bool) → (status : ℕ) → (Ran : ℕ → Type 0) → Type 0
IsTraced true old new failed status Ran = (status ≡ 1) × (new ≡ old)
IsTraced false old new failed status Ran =
    IsReported Ran failed status ⊎ ((status ≡ 1) × (new ≡ old) × (failed ≡ true))

-- ---- one run

-- The text was built, and the status is that of the run of its image within the limits; or something failed.
abbrev pub IsRun : (text : List ℕ) → Limits → (failed : Bool) → (status : ℕ) → Type 0
IsRun text limits failed status = RanOf text limits status ⊎ ((status ≡ 1) × (failed ≡ true))

-- ---- one run after another

-- the status of the first that failed
abbrev pub first_failed : (status next : ℕ) → ℕ
first_failed status next = if nat_eq status 0 then next else status

-- this many runs, each of which ended so, and the status of all
pub data Covers (Ended : ℕ → Type 0) : (runs status : ℕ) → Type 0 where
  first : (status : ℕ) → Ended status → Covers Ended 1 status
  more : (runs status next : ℕ) → Covers Ended runs status → Ended next
      → Covers Ended (suc runs) (first_failed status next)

-- ---- what is watched

-- the text was run; or something failed, or no routine has the requested name
abbrev pub IsWatched : (text : List ℕ) → Limits → (names failed : Bool) → (status : ℕ) → Type 0
IsWatched text limits names failed status =
    RanOf text limits status ⊎ ((status ≡ 1) × ((failed ≡ true) ⊎ (names ≡ true)))

-- the same for a text that may be refused, and not because out of memory
abbrev pub IsWatchedText : (text : List ℕ) → Limits → (names failed : Bool) → (status : ℕ) → Type 0
IsWatchedText text limits names failed status =
    IsWatched text limits names failed status ⊎ ((status ≡ 1) × HasRefusal text)

-- some text was observed so, or none could be read
abbrev pub IsWatchedFile : Limits → (names failed : Bool) → (status : ℕ) → Type 0
IsWatchedFile limits names failed status =
    ((text : List ℕ) × IsWatchedText text limits names failed status) ⊎ ((status ≡ 1) × (failed ≡ true))
