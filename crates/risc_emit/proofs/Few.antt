-- Sound code passes few operands, and jumps within its routine.
use Rattle.std.proofs.Common.{◌≡◌, ℕ, suc, ◌+◌, ◌<◌, ◌≤◌, length, slice_get, Some, arith}
use Rattle.tac_code.specs.declared.code.Instruction.{Instruction}
use Rattle.tac_code.specs.declared.code.Instruction.TheVariants.{Jump, JumpBack, Branch, BranchBack, Call}
use Rattle.tac_code.specs.declared.code.Instruction.TheVariants.{CallValue}
use Rattle.tac_code.specs.declared.code.TacRoutine.{TacRoutine}
use Rattle.tac_code.specs.declared.check.Limits.{Limits}
use Rattle.tac_code.specs.Meaning.{Code, routines}
use Rattle.tac_code.specs.Sound.{IsSound, IsSoundAt, limits_of}
use Rattle.risc_emit.specs.Passes.{PassesFew, AimsNear}
use Rattle.risc_emit.specs.declared.pieces.TheConstants.{WORD_LIMIT}
use Rattle.risc_emit_laws.proofs.Built.{sound_routine}

few_at : (l : Limits) (k : ℕ) (i : Instruction) → IsSoundAt l k i → PassesFew i
few_at l k (Call t r list line) s = s.2.0
few_at l k (CallValue t a list line) s = s.2.0
few_at l k _ s = tt

pub passes_few : (code : Code) (r k : ℕ) (routine : TacRoutine) (i : Instruction) → IsSound code → slice_get
    (routines code) r ≡ Some routine → slice_get routine.body k ≡ Some i → PassesFew i
passes_few code r k routine i sound is at =
    few_at (limits_of code routine) k i ((sound_routine code sound r routine is).body k i at)

pub below : (a n m : ℕ) → a < n → n ≤ m → a < m
below a n m lt le = omega (arith, lt, le)

near_at : (l : Limits) (k : ℕ) (i : Instruction) → IsSoundAt l k i → l.places ≤ WORD_LIMIT → AimsNear k i
near_at l k (Jump n) s few = below (suc k + n) l.places WORD_LIMIT s few
near_at l k (JumpBack n) s few = s
near_at l k (Branch relation a b n) s few = below (suc k + n) l.places WORD_LIMIT s.2 few
near_at l k (BranchBack relation a b n) s few = s.2
near_at l k _ s few = tt

pub aims_near : (code : Code) (r k : ℕ) (routine : TacRoutine) (i : Instruction) → IsSound code → slice_get
    (routines code) r ≡ Some routine → slice_get routine.body k ≡ Some i → length routine.body ≤ WORD_LIMIT
    → AimsNear k i
aims_near code r k routine i sound is at few =
    near_at (limits_of code routine) k i ((sound_routine code sound r routine is).body k i at) few
