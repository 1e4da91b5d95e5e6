-- The homes of temporaries: which of a list is whose.
use Rattle.std.specs.Prelude.{ℕ, zero, suc, ◌+◌, List, [], ◌∷◌, length, take, drop, slice_get, Option, Some, None}
use Rattle.tac_code.specs.declared.code.TacRoutine.{TacRoutine}
use Rattle.tac_code.specs.Meaning.{Code, routines}
use Rattle.risc_alloc.specs.declared.homes.Home.{Home}
use Rattle.risc_alloc.specs.declared.homes.Home.TheVariants.{Reg}

-- the temporaries of a routine, and of the routines before it
abbrev pub temporaries_in : Option TacRoutine → ℕ
temporaries_in None = 0
temporaries_in (Some routine) = routine.temporaries

abbrev pub temporaries_before : List TacRoutine → ℕ → ℕ
temporaries_before [] r = 0
temporaries_before (routine ∷ rest) zero = 0
temporaries_before (routine ∷ rest) (suc r) = routine.temporaries + temporaries_before rest r

-- all temporaries of a code: those before the routine after its last
abbrev pub all_temporaries : Code → ℕ
all_temporaries code = temporaries_before (routines code) (length (routines code))

-- the homes of a routine's temporaries
abbrev pub homes_of : Code → List Home → ℕ → List Home
homes_of code homes r =
    take (temporaries_in (slice_get (routines code) r)) (drop (temporaries_before (routines code) r) homes)

-- A temporary's home among its routine's. What is not a temporary counts as being in register 0.
abbrev pub found : Option Home → Home
found None = Reg 0
found (Some home) = home

abbrev pub home_in : List Home → ℕ → Home
home_in homes t = found (slice_get homes t)

-- the home of a routine's temporary
abbrev pub home_of : Code → List Home → ℕ → ℕ → Home
home_of code homes r t = home_in (homes_of code homes r) t
