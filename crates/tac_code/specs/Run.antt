-- Whole runs of three-address code, under a budget of stack and heap.
use Rattle.std.specs.Prelude.{ℕ, zero, suc, false, List, [], None}
use Rattle.behavior.specs.Endings.{More}
use Rattle.behavior.specs.Transcripts.{Shown}
use Rattle.tac_code.specs.Meaning.{Code, State, Step, Goes, Over, enter, step}

-- before the program block is entered
abbrev pub before : List ℕ → State
before input =
    record {
      current = record {
        routine = 0;
        place = 0;
        number = 0;
        temporaries = λ t. None;
        result = 0;
        line = 0;
      };
      callers = [];
      memory = record {
        frames = [];
        scratch = [];
        objects = [];
      };
      count = 0;
      heap = 0;
      tape = record {
        input = input;
        ended = false;
        transcript = [];
      };
    }

-- a step's state goes on; if the run is over, it shows what the state before the step shows
abbrev pub after : Step → State → (State → Shown) → Shown
after (Goes t) s go = go t
after (Over e) s go = (s.tape.transcript, e)

module _ (code : Code) (F G : ℕ → ℕ) (S H : ℕ) where
  -- at most n instructions
  abbrev pub run : ℕ → State → Shown
  run zero s = (s.tape.transcript, More)
  run (suc k) s = after (step code F G S H s) s (run k)

  -- The whole run after at most n instructions, including the entry of the program block, which takes no operands.
  abbrev pub tac_run : List ℕ → ℕ → Shown
  tac_run input zero = ([], More)
  tac_run input (suc k) = after (enter code F G S H 0 [] 0 0 [] (before input)) (before input) (run k)
