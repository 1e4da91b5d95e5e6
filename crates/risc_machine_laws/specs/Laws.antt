-- The laws of views: what the processor does, as seen through them. Each holds from every state that shows the view.
use Rattle.std.specs.Prelude.{◌≡◌, ℕ, ◌+◌, ◌%◌, ◌≤◌, Bool, if◌then◌else◌, List, ◌∷◌, pos}
use Rattle.risc_word.specs.declared.instr.Condition.{Condition}
use Rattle.risc_word.specs.declared.instr.Target.{Target}
use Rattle.risc_word.specs.declared.instr.Width.TheVariants.{Word}
use Rattle.risc_word.specs.declared.instr.Instr.{Instr}
use Rattle.risc_word.specs.declared.instr.Instr.TheVariants.{Load, Store, Branch}
use Rattle.risc_machine.specs.Step.{State, start_state}
use Rattle.risc_machine.specs.Exec.{told}
use Rattle.risc_machine.specs.declared.limits.TheConstants.{MAX_MEMORY}
use Rattle.risc_machine_laws.specs.View.{View, Fits, IsAt, HasAt, Shows, AllPlain, line, at_view, link_view}
use Rattle.risc_machine_laws.specs.View.{holds_view, target_view}
use Rattle.risc_machine_laws.specs.Runs.{To, Way, StopsWith, TakesTo, same_tape}
use Rattle.risc_machine_laws.specs.Start.{code_bytes, AreWords, start_size, start_view}

-- a straight line of plain instructions, which ends at the view that evaluates it
abbrev pub StraightLinesRun : Type 0
StraightLinesRun =
    (code : List ℕ) (size : ℕ) (i : Instr) (is : List Instr) (m : State) (v : View)
    → Fits code size → Shows code size m v → HasAt code v.place (i ∷ is) → AllPlain code size (i ∷ is) v
    → To code size m same_tape (line (i ∷ is) v)

-- the same for a line that may have no instruction
abbrev pub AnyLinesRun : Type 0
AnyLinesRun =
    (code : List ℕ) (size : ℕ) (is : List Instr) (m : State) (v : View)
    → Fits code size → Shows code size m v → HasAt code v.place is → AllPlain code size is v
    → Way code size m same_tape (line is v)

-- a branch goes to its target, with a link in R15 if it asks for one, or on to the next instruction
abbrev pub branch_view : Condition → Bool → Target → View → View
branch_view c link t v = if holds_view v c then at_view (target_view v t) (link_view link v) else at_view
    (v.place + 1) v

abbrev pub BranchesRun : Type 0
BranchesRun =
    (code : List ℕ) (size : ℕ) (c : Condition) (link : Bool) (t : Target) (m : State) (v : View)
    → Fits code size → Shows code size m v → IsAt code v.place (Branch c link t)
    → To code size m same_tape (branch_view c link t v)

-- the device page, with its base FFFFC0H in register b as the word of -64: the store of register a at its word 2 puts
-- the lowest byte, the load there takes the next byte, and the store at its word 1 stops
abbrev pub PutsRun : Type 0
PutsRun =
    (code : List ℕ) (size a b : ℕ) (m : State) (v : View)
    → Fits code size → Shows code size m v → v.registers b ≡ 4294967232 → IsAt code v.place (Store Word a b (pos 8))
    → To code size m (told (v.registers a % 256)) (at_view (v.place + 1) v)

abbrev pub TakesRun : Type 0
TakesRun =
    (code : List ℕ) (size a b : ℕ) (m : State) (v : View)
    → Fits code size → Shows code size m v → v.registers b ≡ 4294967232 → IsAt code v.place (Load Word a b (pos 8))
    → TakesTo code size m a v

abbrev pub StopsRun : Type 0
StopsRun =
    (code : List ℕ) (size a b : ℕ) (m : State) (v : View)
    → Fits code size → Shows code size m v → v.registers b ≡ 4294967232 → IsAt code v.place (Store Word a b (pos 4))
    → StopsWith code size m (v.registers a) (at_view (v.place + 1) v)

-- the loaded state shows the view of the start
abbrev pub LoadedStateShows : Type 0
LoadedStateShows =
    (code : List ℕ) (global heap stack : ℕ) → AreWords code → start_size code global heap stack ≤ MAX_MEMORY
    → Shows code (start_size code global heap stack) (start_state (code_bytes code) global heap stack)
    (start_view code global heap stack)
