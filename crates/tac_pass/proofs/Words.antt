-- Words of the own frame, read and written.
use Rattle.std.proofs.Common.{◌≡◌, ◌≢◌, ℕ, zero, suc, ◌+◌, ◌*◌, ◌/◌, ◌%◌, ◌<◌, Bool, true, false, ◌&&◌, nat_lt}
use Rattle.std.proofs.Common.{if◌then◌else◌, List, [], ◌∷◌, length, slice_get, slice_set, Some, None, refl, ap, ◌∙◌}
use Rattle.std.proofs.Common.{arith, eq-eqb}
use Rattle.tac_code.specs.declared.code.Block.TheVariants.{Frame}
use Rattle.tac_code.specs.declared.code.Value.{Value}
use Rattle.tac_code.specs.Memory.{Words, Living, Memory, Constants, known, is_aligned, word_at, with_word, living}
use Rattle.tac_code.specs.Memory.{instead, behind, changed, with_frames, value_in, load, store}
use Rattle.tac_code.proofs.Numbers.{eq_same, quarter}

pub get_set_same : {X : Type 0} (xs : List X) (i : ℕ) (v : X) → i < length xs → slice_get (slice_set xs i v) i ≡ Some v
get_set_same [] i v l = absurd (omega (arith, l))
get_set_same (x ∷ xs) zero v l = refl
get_set_same (x ∷ xs) (suc i) v l = get_set_same xs i v (omega (arith, l))

pub get_set_other : {X : Type 0} (xs : List X) (i j : ℕ) (v : X) → j ≢ i → slice_get (slice_set xs i v) j
    ≡ slice_get xs j
get_set_other [] i j v ne = refl
get_set_other (x ∷ xs) zero zero v ne = absurd (ne refl)
get_set_other (x ∷ xs) zero (suc j) v ne = refl
get_set_other (x ∷ xs) (suc i) zero v ne = refl
get_set_other (x ∷ xs) (suc i) (suc j) v ne = get_set_other xs i j v (λ e. ne (ap suc e))

is_whole : (k : ℕ) → is_aligned (4 * k) ≡ true
is_whole k = let e : 4 * k % 4 ≡ 0 = omega arith in eq-eqb (4 * k % 4) 0 e

word_read : (ws : Words) (k : ℕ) → word_at ws (4 * k) ≡ known (slice_get ws k)
word_read ws k =
    ap (λ b. if b then known (slice_get ws (4 * k / 4)) else None) (is_whole k)
    ∙ ap (λ i. known (slice_get ws i)) (quarter k)

abbrev pub with_own : ℕ → Words → List Living → Memory → Memory
with_own number words rest m = record m { frames = record { number = number; words = words } ∷ rest }

word_written : (ws : Words) (k : ℕ) (v : Value) → with_word ws (4 * k) v ≡ if nat_lt k (length ws) then Some
    (slice_set ws k (Some v)) else None
word_written ws k v =
    ap (λ b. if b && nat_lt (4 * k / 4) (length ws) then Some (slice_set ws (4 * k / 4) (Some v)) else None)
    (is_whole k)
    ∙ ap (λ i. if nat_lt i (length ws) then Some (slice_set ws i (Some v)) else None) (quarter k)

-- an offset of the own frame, counted from its begin
at_begin : (n k : ℕ) → n ≡ 4 * k → 0 + n ≡ 4 * k
at_begin n k e = omega (arith, e)

pub load_own : (constants : Constants) (m : Memory) (number : ℕ) (words : Words) (rest : List Living) (n k : ℕ)
    → m.frames ≡ record {
      number = number;
      words = words;
    } ∷ rest → n ≡ 4 * k
    → load constants m (Frame number) (0 + n) ≡ known (slice_get words k)
load_own constants m number words rest n k e f =
    ap (λ x. load constants m (Frame number) x) (at_begin n k f)
    ∙ ap (λ fs. value_in (living fs number) (4 * k)) e
    ∙ ap (λ b. value_in (if b then Some words else living rest number) (4 * k)) (eq_same number)
    ∙ word_read words k

-- a store into the own frame: there is one within the block, and none outside
pub store_own : (m : Memory) (number : ℕ) (words : Words) (rest : List Living) (n k : ℕ) (v : Value) → m.frames
    ≡ record {
      number = number;
      words = words;
    } ∷ rest → n ≡ 4 * k
    → store m (Frame number) (0 + n) v ≡ if nat_lt k (length words) then Some
    (with_own number (slice_set words k (Some v)) rest m) else None
store_own m number words rest n k v e f =
    ap (λ x. store m (Frame number) x v) (at_begin n k f)
    ∙ ap (λ fs. with_frames m (changed fs number (λ ws. with_word ws (4 * k) v))) e
    ∙ ap (λ b. with_frames m (if b then instead (record {
      number = number;
      words = words;
    }) rest (with_word words (4 * k) v) else behind (record {
      number = number;
      words = words;
    }) (changed rest number (λ ws. with_word ws (4 * k) v)))) (eq_same number)
    ∙ ap (λ o. with_frames m (instead (record { number = number; words = words }) rest o)) (word_written words k v)
    ∙ out (nat_lt k (length words))
  where
    out : (b : Bool) → with_frames m (instead (record {
      number = number;
      words = words;
    }) rest (if b then Some (slice_set words k (Some v)) else None)) ≡ if b then Some
        (with_own number (slice_set words k (Some v)) rest m) else None
    out true = refl
    out false = refl
