-- What a run-time routine does, as if its call were one instruction.
use Rattle.std.specs.Prelude.{◌≡◌, ℕ, suc, ◌+◌, ◌<◌, List, [], ◌∷◌, ◌++◌, length, Some}
use Rattle.tac_code.specs.declared.code.Value.{Value}
use Rattle.tac_code.specs.declared.code.Instruction.TheVariants.{Call}
use Rattle.tac_code.specs.Memory.{Living, Memory}
use Rattle.tac_code.specs.Meaning.{State, Tape, fetch, values_of, giving}
use Rattle.tac_code_steps.specs.Runs.{Machine, Comes}

-- the number of a new activation is not that of any live block
abbrev pub AreBelow : ℕ → List Living → Type 0
AreBelow n [] = Unit {0}
AreBelow n (b ∷ bs) = (b.number < n) × AreBelow n bs

abbrev pub Fresh : State → Type 0
Fresh s = AreBelow s.count s.memory.frames × AreBelow s.count s.memory.scratch

-- Run-time routine k, called with these values in this memory and with this tape, returns v, and leaves that memory and
-- that tape.
pub record Does (m : Machine) (k : ℕ) (values : List Value) (memory : Memory) (tape : Tape) (v : Value)
    (memory' : Memory) (tape' : Tape) : Type 0 where
  pub by : (s : State) (t line : ℕ) (operands : List ℕ) → s.memory ≡ memory → s.tape ≡ tape → Fresh s
      → values_of s.current.temporaries operands ≡ Some values
      → fetch m.code s.current.routine s.current.place ≡ Some (Call t (length m.code.program + k) operands line)
      → Comes m s (record s { current = giving t v s.current; memory = memory'; tape = tape'; count = suc s.count })

-- these bytes are written after the others
abbrev pub wrote : Tape → List ℕ → Tape
wrote tape bytes = record { input = tape.input; ended = tape.ended; transcript = tape.transcript ++ bytes }
