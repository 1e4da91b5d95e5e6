-- The law of steps.
use Rattle.std.specs.Prelude.{◌≡◌, ℕ, ◌+◌, false, List}
use Rattle.risc_machine.specs.Step as machine
use Rattle.risc_machine_laws.specs.View.{View, Shows}
use Rattle.tac_code.specs.Meaning.{State, step}
use Rattle.risc_emit_relation.specs.Context.{Context, is_program, Places}
use Rattle.risc_emit_forms.specs.Follows.{Built, Meets, Follows}

-- From a state of the machine that meets a state of the code, the words of the next instruction do what the instruction
-- means: they reach a state that meets the next one, or stop with the same ending and the same open calls. The budgets
-- of stack and heap are those between the code and the end of memory.
abbrev pub StepsFollow : Type 0
StepsFollow =
    (c : Context) (words : List ℕ) → Built c words → (p : Places) (S H : ℕ) → S + c.base ≡ c.size → H + c.heap_at
    ≡ c.base
    → (s : State) (f : ℕ) (m : machine.State) (v : View) → Shows words c.size m v → Meets c words p s v f
    → Follows c words (step c.code c.costs c.sizes S H s) s m

-- there is a code with a run-time routine whose words are as the law requires
abbrev pub ProgramsAreBuilt : Type 0
ProgramsAreBuilt = (c : Context) × (words : List ℕ) × Built c words × (is_program c 1 ≡ false)
