-- Which temporaries are alive at a place of a routine.
use Rattle.std.specs.Prelude.{◌≡◌, ℕ, true, false, Option}
use Rattle.tac_code.specs.declared.code.Instruction.{Instruction}
use Rattle.risc_alloc.specs.Flow.{reads, writes, leads}

-- Some path of the code reaches a use with no write in between. A routine is given by the instructions at its places.
pub data Alive (at : ℕ → Option Instruction) : ℕ → ℕ → Type 0 where
  Used : (place u : ℕ) → reads (at place) u ≡ true → Alive at place u
  Passed : (place next u : ℕ) → leads (at place) place next ≡ true → writes (at place) u ≡ false → Alive at next u
      → Alive at place u
