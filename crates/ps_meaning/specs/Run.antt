-- The run of a program (6.10): what it writes and looks at, and how it ends, with the calls that are open at an error.
use Rattle.std.specs.Prelude.{ℕ, List, [], get_or}
use Rattle.ps_tree.specs.Tree.{Program}
use Rattle.behavior.specs.Endings.{Normal}
use Rattle.behavior.specs.Transcripts.{Shown}
use Rattle.ps_meaning.specs.Text.{whole_input}
use Rattle.ps_meaning.specs.Worlds.{Outside, Context, World, unset, Answer, Gives, Ends, Done}
use Rattle.ps_meaning.specs.Statements.{Costs}
use Rattle.ps_meaning.specs.Calls.{call_routine, execute}

abbrev pub first_world : List ℕ → World
first_world input =
    record { next = 0; store = λ name. unset; objects = []; made = []; input = whole_input input; transcript = [] }

abbrev pub first_context : Context
first_context = record { env = Outside; opened = []; active = []; calls = [] }

-- frame bytes by routine number, object bytes by pointer type number, and the bytes of stack and heap
abbrev pub costs_of : List ℕ → List ℕ → ℕ → ℕ → Costs
costs_of F G S H = record { frame = λ r. get_or F r 0; object = λ t. get_or G t 0; stack = S; heap = H }

-- the program block is routine 0
abbrev pub answer : Program → Costs → List ℕ → ℕ → Answer Done
answer program costs input n = call_routine program costs (execute program costs n) 0 Outside [] first_context
    (first_world input)

-- what an answer shows: a block that ran to its end is a normal ending
abbrev pub shown : Answer Done → Shown
shown (Gives v w) = (w.transcript, Normal)
shown (Ends transcript ending) = (transcript, ending)

-- the run with n of fuel, under the costs F and G and the budget of S bytes of stack and H of heap
abbrev pub run_within : Program → (F G : List ℕ) → (S H : ℕ) → List ℕ → ℕ → Shown
run_within program F G S H input n = shown (answer program (costs_of F G S H) input n)

-- the run without costs, which is never stopped
abbrev pub run : Program → List ℕ → ℕ → Shown
run program input n = run_within program [] [] 0 0 input n
