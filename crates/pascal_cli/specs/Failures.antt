-- What failed while a command was executed, and what its status says.
use Rattle.std.specs.Prelude.{◌≡◌, ◌⊎◌, ◌&&◌, ◌||◌, ℕ, Bool, true, false, List, [], ◌∷◌, Option, Some, None, Result}
use Rattle.std.specs.Prelude.{Ok, Err, codes}
use Rattle.std.specs.Str.{bytes_eq}
use Rattle.ps_build.specs.Accepts.{IsRefused}
use Rattle.ps_build.specs.declared.refusal.Refusal.{Refusal}
use Rattle.ps_build.specs.declared.refusal.Refusal.TheVariants.{OutOfMemory}
use Rattle.pascal_command.specs.Command.{Text}
use Rattle.pascal_cli.specs.declared.failures.Failures.{Failures}

abbrev pub has_failed : Failures → Bool
has_failed failures = failures.is_any

-- something failed, or it is as before
abbrev pub Keeps : (old new : Bool) → Type 0
Keeps old new = (new ≡ true) ⊎ (new ≡ old)

-- what is lacking failed
abbrev pub Notes : {T : Type 0} → Option T → (old new : Bool) → Type 0
Notes (Some value) old new = Keeps old new
Notes None old new = new ≡ true

abbrev pub NotesFault : (is_done old new : Bool) → Type 0
NotesFault true old new = Keeps old new
NotesFault false old new = new ≡ true

-- the status of what was reported, and 1 if the report is not whole
abbrev pub status_told : (is_told : Bool) → ℕ → ℕ
status_told true status = status
status_told false status = 1

-- the text is refused, and not because out of memory
abbrev pub HasRefusal : List ℕ → Type 0
HasRefusal text = (refusal : Refusal) × IsRefused text refusal × (refusal ≡ OutOfMemory → ⊥)

-- a text is refused for what it says, or memory failed
abbrev pub TellsRefusal : (is_of_text : Bool) → Refusal → (old new : Bool) → Type 0
TellsRefusal true refusal old new = (refusal ≡ OutOfMemory → ⊥) × Keeps old new
TellsRefusal false refusal old new = new ≡ true

-- standard input is one of these paths, and two of them
abbrev pub is_named : List Text → Bool
is_named [] = false
is_named (path ∷ paths) = bytes_eq path (codes "-") || is_named paths

abbrev pub is_named_twice : List Text → Bool
is_named_twice [] = false
is_named_twice (path ∷ paths) = (bytes_eq path (codes "-") && is_named paths) || is_named_twice paths

-- what was made, if it was
abbrev pub made : {T E : Type 0} → Result T E → Option T
made (Ok value) = Some value
made (Err error) = None

-- an answer is right if nothing failed
abbrev pub Tells : (answer failed : Bool) → (is_so is_not_so : Type 0) → Type 0
Tells true failed is_so is_not_so = (failed ≡ true) ⊎ is_so
Tells false failed is_so is_not_so = (failed ≡ true) ⊎ is_not_so

-- 0 if the answer is yes and nothing failed
abbrev pub status_after : (answer failed : Bool) → ℕ
status_after true false = 0
status_after _ _ = 1

-- The status is 0 if it is so and nothing failed, and 1 if it is not so, or something failed.
abbrev pub Answers : (status : ℕ) → (failed : Bool) → (is_so is_not_so : Type 0) → Type 0
Answers status failed is_so is_not_so =
    ((status ≡ 0) × (failed ≡ false) × is_so) ⊎ ((status ≡ 1) × ((failed ≡ true) ⊎ is_not_so))
