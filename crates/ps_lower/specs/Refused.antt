-- How many instructions a code has, and what a program's refusal says about that number.
use Rattle.std.specs.Prelude.{◌≡◌, ℕ, ◌+◌, ◌<◌, List, [], ◌∷◌, ◌++◌, length, Result, MatchResult}
use Rattle.tac_code.specs.declared.code.Instruction.{Instruction}
use Rattle.tac_code.specs.declared.code.TacRoutine.{TacRoutine}
use Rattle.tac_code.specs.Meaning.{Code}
use Rattle.ps_lower.specs.declared.refusal.TheConstants.{MOST_INSTRUCTIONS}
use Rattle.ps_lower.specs.declared.refusal.LowerRefusal.{LowerRefusal}
use Rattle.ps_lower.specs.declared.refusal.LowerRefusal.TheVariants.{OutOfMemory, CodeTooLarge}

abbrev pub instructions_of : List TacRoutine → ℕ
instructions_of [] = 0
instructions_of (routine ∷ rest) = length routine.body + instructions_of rest

-- the instructions of the program's own routines
abbrev pub instruction_count : Code → ℕ
instruction_count code = instructions_of code.program

-- what a refusal says of code of `count` instructions
abbrev pub IsRefused : LowerRefusal → (count : ℕ) → Type 0
IsRefused OutOfMemory count = Unit {0}
IsRefused CodeTooLarge count = MOST_INSTRUCTIONS < count

-- code is added after what there is, or refused with it
abbrev pub Adds : {T : Type 0} → Result T LowerRefusal → (old new code : List Instruction) → Type 0
Adds result old new code = MatchResult result (λ added. new ≡ old ++ code)
    (λ refusal. IsRefused refusal (length (old ++ code)))
