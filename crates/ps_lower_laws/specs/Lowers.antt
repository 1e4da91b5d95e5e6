-- The code of a program does what the program means.
use Rattle.std.specs.Prelude.{ℕ, List, get_or}
use Rattle.behavior.specs.Endings.{Ending, Stuck}
use Rattle.behavior.specs.Transcripts.{AreBytes}
use Rattle.behavior.specs.Same.{Same}
use Rattle.tac_code.specs.declared.code.TacRoutine.{TacRoutine}
use Rattle.tac_code.specs.Run.{tac_run}
use Rattle.tac_code_steps.specs.InTurns.{Setting, ShowsInTurns}
use Rattle.ps_tree.specs.Tree.{Program}
use Rattle.ps_meaning.specs.Run.{run_within}
use Rattle.ps_lower_code.specs.Programs.{code_of}
use Rattle.ps_lower_relation.specs.RunTime.{WritesDo}
use Rattle.ps_lower_laws.specs.Fits.{ProgramFits}

-- These routines do what is required of the run-time routines, after any program, under any costs and budgets.
abbrev pub AreRunTime : List TacRoutine → Type 0
AreRunTime run_time = (program : Program) (frames objects : List ℕ) (stack heap : ℕ) → WritesDo (record {
  program = program;
  run_time = run_time;
  frames = frames;
  objects = objects;
  stack = stack;
  heap = heap;
})

-- Under any costs and budgets and on any input of bytes, the code shows what the program shows, and nothing else.
abbrev pub Lowers : List TacRoutine → Program → Type 0
Lowers run_time program =
    (F G : List ℕ) (S H : ℕ) (input : List ℕ) → AreBytes input
    → Same (run_within program F G S H input)
    (tac_run (code_of run_time program) (λ r. get_or F r 0) (λ t. get_or G t 0) S H input)

-- So it does in turns: if the program has come to n without an end, the code has turned aside at least n times.
abbrev pub LowersInTurns : List TacRoutine → Program → Type 0
LowersInTurns run_time program =
    (F G : List ℕ) (S H : ℕ) (input : List ℕ) → AreBytes input
    → ShowsInTurns (run_within program F G S H input) (code_of run_time program) (record {
      frames = λ r. get_or F r 0;
      objects = λ t. get_or G t 0;
      stack = S;
      heap = H;
      input = input;
    })

abbrev pub IsStuck : Ending → Type 0
IsStuck Stuck = Unit {0}
IsStuck _ = ⊥

-- there is a next step wherever the code has not reached its end
abbrev pub NeverStuck : List TacRoutine → Program → Type 0
NeverStuck run_time program =
    (F G : List ℕ) (S H : ℕ) (input : List ℕ) → AreBytes input
    → (n : ℕ) → IsStuck (tac_run (code_of run_time program) (λ r. get_or F r 0) (λ t. get_or G t 0) S H input n).1 → ⊥

abbrev pub ProgramsLower : Type 0
ProgramsLower = (run_time : List TacRoutine) → AreRunTime run_time → (program : Program) → ProgramFits program
    → Lowers run_time program

abbrev pub ProgramsLowerInTurns : Type 0
ProgramsLowerInTurns = (run_time : List TacRoutine) → AreRunTime run_time → (program : Program) → ProgramFits program
    → LowersInTurns run_time program

abbrev pub ProgramsGoOn : Type 0
ProgramsGoOn = (run_time : List TacRoutine) → AreRunTime run_time → (program : Program) → ProgramFits program
    → NeverStuck run_time program
