-- What activations are charged is a word.
use Rattle.std.proofs.Common.{◌≡◌, ℕ, ◌+◌, ◌*◌, ◌<◌, cond, length, length-append, ap, arith}
use Rattle.std.proofs.lemmas.Bool.{lt-ltb}
use Rattle.tac_code.specs.Meaning.{Code, routines}
use Rattle.tac_code.specs.Sound.{IsSound}
use Rattle.tac_code.proofs.Items.{there_is}
use Rattle.risc_alloc.specs.Homes.{temporaries_in}
use Rattle.risc_emit_laws.proofs.Built.{sound_routine}
use Rattle.risc_emit.specs.Layout.{frame_in, scratch_in, slots_at, used, frame_cost}
use Rattle.risc_emit.specs.declared.pieces.TheConstants.{WORD_LIMIT}

pub is_routine : (code : Code) (r : ℕ) → r < length code.program → r < length (routines code)
is_routine code r lt = let n = length-append code.program code.run_time in omega (arith, lt, n)

pub cost_small : (code : Code) → IsSound code → (r : ℕ) → r < length code.program → frame_cost code r < WORD_LIMIT
cost_small code sound r lt =
    let x = there_is (routines code) r (is_routine code r lt) in
    let small = (sound_routine code sound r x.0 x.1).bytes in
    let e = lt-ltb r (length code.program) lt in
    let cost : frame_cost code r ≡ used code r = ap (λ b. cond b (used code r) 0) e in
    let slots : slots_at code r ≡ 276 = ap (λ b. cond b 276 44) e in
    let blocks = ap (λ o. frame_in o + scratch_in o + 4 * temporaries_in o) x.1 in
    omega (arith, small, cost, slots, blocks)
