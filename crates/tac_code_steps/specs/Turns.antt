-- How often a run turns aside. Each turn of a loop and each call of the language does so once at least, whatever is
-- spared between.
use Rattle.std.specs.Prelude.{ℕ, zero, suc, Bool, true, false, List, [], Option, Some}
use Rattle.tac_code.specs.declared.code.Instruction.{Instruction}
use Rattle.tac_code.specs.declared.code.Instruction.TheVariants.{Jump, JumpBack, Branch, BranchBack, Call, CallValue}
use Rattle.tac_code.specs.Meaning.{Code, State, Step, Goes, Over, fetch, enter, step}
use Rattle.tac_code.specs.Run.{before}

-- jumps, branches and calls, taken or not
abbrev pub turns_aside : Option Instruction → Bool
turns_aside (Some (Jump n)) = true
turns_aside (Some (JumpBack n)) = true
turns_aside (Some (Branch relation a b n)) = true
turns_aside (Some (BranchBack relation a b n)) = true
turns_aside (Some (Call t r operands line)) = true
turns_aside (Some (CallValue t a operands line)) = true
turns_aside _ = false

abbrev pub one_more_if : Bool → ℕ → ℕ
one_more_if true n = suc n
one_more_if false n = n

-- what is counted after a step
abbrev pub behind : Step → (State → ℕ) → ℕ
behind (Goes t) go = go t
behind (Over e) go = 0

module _ (code : Code) (F G : ℕ → ℕ) (S H : ℕ) where
  -- how many of the next instructions, up to this many, turn aside
  abbrev pub turns : ℕ → State → ℕ
  turns zero s = 0
  turns (suc k) s =
      one_more_if (turns_aside (fetch code s.current.routine s.current.place)) (behind (step code F G S H s) (turns k))

  -- the same of the whole run, whose first step is the entry of the program block
  abbrev pub tac_turns : List ℕ → ℕ → ℕ
  tac_turns input zero = 0
  tac_turns input (suc k) = behind (enter code F G S H 0 [] 0 0 [] (before input)) (turns k)
