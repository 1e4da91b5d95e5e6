-- A slot of its own for each temporary.
use Rattle.std.specs.Prelude.{◌≡◌, ℕ, zero, suc, ◌<◌, true, List, [], ◌∷◌, ◌++◌, slice_get, Some}
use Rattle.tac_code.specs.declared.code.Instruction.{Instruction}
use Rattle.tac_code.specs.declared.code.TacRoutine.{TacRoutine}
use Rattle.risc_alloc.specs.declared.homes.Home.{Home}
use Rattle.risc_alloc.specs.declared.homes.Home.TheVariants.{Slot}
use Rattle.risc_alloc.specs.Flow.{reads}

-- n slots
abbrev pub own_slots : ℕ → List Home
own_slots zero = []
own_slots (suc n) = own_slots n ++ Slot n ∷ []

-- for each routine as many as it has temporaries
abbrev pub every_slot : List TacRoutine → List Home
every_slot [] = []
every_slot (routine ∷ rest) = own_slots routine.temporaries ++ every_slot rest

abbrev pub IsOwn : List Home → Type 0
IsOwn homes = (t : ℕ) (home : Home) → slice_get homes t ≡ Some home → home ≡ Slot t

-- a body reads only temporaries below this number
abbrev pub ReadsBelow : ℕ → List Instruction → Type 0
ReadsBelow temporaries body =
    (place : ℕ) (i : Instruction) (u : ℕ) → slice_get body place ≡ Some i → reads (Some i) u ≡ true → u < temporaries
