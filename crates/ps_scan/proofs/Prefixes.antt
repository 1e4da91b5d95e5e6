-- The longest prefix whose bytes pass a test.
use Rattle.std.proofs.Common.{◌≡◌, ℕ, suc, ◌+◌, ◌≤◌, Bool, true, false, cond, [], ◌∷◌, ◌++◌, length, take, drop, refl}
use Rattle.std.proofs.Common.{arith}
use Rattle.std.proofs.lemmas.Bool.{and_parts}
use Rattle.std.specs.List.{list_all, prefix_len}
use Rattle.ps_scan.specs.Tables.{Bytes}

-- the next byte, if there is one, doesn't pass
abbrev pub Stops : (ℕ → Bool) → Bytes → Type 0
Stops p [] = Unit {0}
Stops p (b ∷ bs) = p b ≡ false

pub prefix_is : (p : ℕ → Bool) (w rest : Bytes) → list_all p w ≡ true → Stops p rest → prefix_len p (w ++ rest)
    ≡ length w
prefix_is p [] [] all stops = refl
prefix_is p [] (b ∷ bs) all stops = rw stops refl
prefix_is p (b ∷ bs) rest all stops =
    let parts = and_parts (p b) (list_all p bs) all in rw (parts.0, prefix_is p bs rest parts.1 stops) (omega arith)

pub prefix_passes : (p : ℕ → Bool) (bs : Bytes) → list_all p (take (prefix_len p bs) bs) ≡ true
prefix_passes p [] = refl
prefix_passes p (b ∷ bs) =
    let more : 1 + prefix_len p bs ≡ suc (prefix_len p bs) = omega arith in
    elim (p b) as (λ v. p b ≡ v → list_all p (take (cond v (1 + prefix_len p bs) 0) (b ∷ bs)) ≡ true)
    [ true ↦ λ passes. rw (more, passes) (prefix_passes p bs) | false ↦ λ fails. refl ] refl

pub prefix_stops : (p : ℕ → Bool) (bs : Bytes) → Stops p (drop (prefix_len p bs) bs)
prefix_stops p [] = tt
prefix_stops p (b ∷ bs) =
    let more : 1 + prefix_len p bs ≡ suc (prefix_len p bs) = omega arith in
    elim (p b) as (λ v. p b ≡ v → Stops p (drop (cond v (1 + prefix_len p bs) 0) (b ∷ bs)))
    [ true ↦ λ passes. rw more (prefix_stops p bs) | false ↦ λ fails. fails ] refl

pub prefix_longest : (p : ℕ → Bool) (u v : Bytes) → list_all p u ≡ true → length u ≤ prefix_len p (u ++ v)
prefix_longest p [] v all = omega arith
prefix_longest p (b ∷ bs) v all =
    let parts = and_parts (p b) (list_all p bs) all in rw parts.0 (omega (arith, prefix_longest p bs v parts.1))

pub prefix_some : (p : ℕ → Bool) (b : ℕ) (bs : Bytes) → p b ≡ true → 1 ≤ prefix_len p (b ∷ bs)
prefix_some p b bs passes = rw passes (omega arith)

-- the first byte of the prefix stays
pub prefix_first : (p : ℕ → Bool) (b : ℕ) (bs : Bytes) → p b ≡ true → take (prefix_len p (b ∷ bs)) (b ∷ bs) ≡ b ∷ take
    (prefix_len p bs) bs
prefix_first p b bs passes = let more : 1 + prefix_len p bs ≡ suc (prefix_len p bs) = omega arith in rw
    (passes, more) refl
