-- The laws of tests that are left out, stated for callers of this crate.
use Rattle.tac_code.specs.Meaning.{Code}
use Rattle.tac_pass.specs.Keeps.{Keeps}
use Rattle.tac_pass_laws.specs.Passed.{IsPassed}
use Rattle.tac_known.specs.Again.{IsAgain}
use Rattle.tac_known.specs.Lean.{IsLean}

-- Code in which tests that can't fail have the number 0 shows what the code shows that it was made from.
abbrev pub LeanKeeps : Type 0
LeanKeeps = (old new : Code) → IsLean old new → Keeps old new

-- And it may replace that code.
abbrev pub LeanArePassed : Type 0
LeanArePassed = (old new : Code) → IsLean old new → IsPassed old new

-- A code is lean in its own place, with nothing known anywhere.
abbrev pub UnchangedIsLean : Type 0
UnchangedIsLean = (code : Code) → IsLean code code

-- Code in which an address that a temporary holds is copied may replace the original code.
abbrev pub AgainArePassed : Type 0
AgainArePassed = (old new : Code) → IsAgain old new → IsPassed old new
