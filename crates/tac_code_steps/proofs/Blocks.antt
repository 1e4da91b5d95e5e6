-- Words of blocks by their offsets in bytes, and blocks by their names.
use Rattle.std.proofs.Common.{◌≡◌, ℕ, ◌*◌, ◌/◌, ◌%◌, ◌<◌, true, ◌&&◌, nat_lt, if◌then◌else◌, [], ◌∷◌, length}
use Rattle.std.proofs.Common.{slice_get, slice_set, Some, None, ap, ◌∙◌, arith, eq-eqb, lt-ltb}
use Rattle.tac_code.specs.declared.code.Value.{Value}
use Rattle.tac_code.specs.Memory.{Words, known, is_aligned, word_at, with_word}
use Rattle.tac_code.proofs.Numbers.{quarter}
use Rattle.tac_code_steps.specs.Splices.{spliced}
use Rattle.tac_code_steps.proofs.Splices.{set_spliced}

is_whole : (k : ℕ) → is_aligned (4 * k) ≡ true
is_whole k = let e : 4 * k % 4 ≡ 0 = omega arith in eq-eqb (4 * k % 4) 0 e

-- the word at its offset in bytes
pub word_read : (ws : Words) (k : ℕ) → word_at ws (4 * k) ≡ known (slice_get ws k)
word_read ws k =
    ap (λ b. if b then known (slice_get ws (4 * k / 4)) else None) (is_whole k)
    ∙ ap (λ i. known (slice_get ws i)) (quarter k)

pub word_written : (ws : Words) (k : ℕ) (v : Value) → k < length ws → with_word ws (4 * k) v ≡ Some
    (spliced k (Some v ∷ []) ws)
word_written ws k v l =
    let in_block : nat_lt (4 * k / 4) (length ws) ≡ true = ap (λ i. nat_lt i (length ws)) (quarter k) ∙ lt-ltb k
    (length ws) l in
    ap (λ b. if b && nat_lt (4 * k / 4) (length ws) then Some (slice_set ws (4 * k / 4) (Some v)) else None)
    (is_whole k)
    ∙ ap (λ b. if b then Some (slice_set ws (4 * k / 4) (Some v)) else None) in_block
    ∙ ap (λ i. Some (slice_set ws i (Some v))) (quarter k)
    ∙ ap Some (set_spliced ws k (Some v))
