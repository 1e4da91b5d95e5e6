-- What a placement keeps apart.
use Rattle.std.specs.Prelude.{◌≡◌, ◌≢◌, ℕ, ◌<◌, true, List, length, slice_get, Some}
use Rattle.tac_code.specs.declared.code.TacRoutine.{TacRoutine}
use Rattle.tac_code.specs.Meaning.{Code, routines, fetch}
use Rattle.risc_alloc.specs.declared.homes.Home.{Home}
use Rattle.risc_alloc.specs.declared.homes.Home.TheVariants.{Slot, Reg}
use Rattle.risc_alloc.specs.Flow.{writes, leads, comes_back}
use Rattle.risc_alloc.specs.Alive.{Alive}
use Rattle.risc_alloc.specs.Homes.{all_temporaries, temporaries_in, home_of}

-- Each temporary t of each routine r of the code has one home for the whole routine.
pub record Valid (code : Code) (homes : List Home) : Type 0 where
  pub count : length homes ≡ all_temporaries code
  -- a slot numbered below the count of the routine's temporaries, or one of registers 0 to 11
  pub slot : (r t j : ℕ) → home_of code homes r t ≡ Slot j → j < temporaries_in (slice_get (routines code) r)
  pub register : (r t q : ℕ) → home_of code homes r t ≡ Reg q → q < 12
  -- no two that are alive at one place share a home
  pub apart : (r place t u : ℕ) → Alive (fetch code r) place t → Alive (fetch code r) place u → t ≢ u
      → home_of code homes r t ≢ home_of code homes r u
  -- nor does one that an instruction writes share it with another that is alive after the instruction
  pub written : (r place next t u : ℕ) → leads (fetch code r place) place next ≡ true → writes (fetch code r place) t
      ≡ true → Alive (fetch code r) next u → u ≢ t → home_of code homes r u ≢ home_of code homes r t
  -- what is alive after a call has a slot, except for the call's result
  pub called : (r place t u : ℕ) → comes_back (fetch code r) place t ≡ true → Alive (fetch code r) place u → u ≢ t
      → (j : ℕ) × (home_of code homes r u ≡ Slot j)
  -- the entry of a routine writes all its parameters at once
  pub entered : (r t u : ℕ) (routine : TacRoutine) → slice_get (routines code) r ≡ Some routine → t < routine.parameters
      → Alive (fetch code r) 0 u → u ≢ t → home_of code homes r u ≢ home_of code homes r t
