-- Stretches of words: what is read of a block where one was replaced, and two replacements after one another.
use Rattle.std.proofs.Common.{◌≡◌, ℕ, zero, suc, ◌+◌, ◌<◌, ◌≤◌, [], ◌∷◌, length, slice_get, slice_set, Option, refl}
use Rattle.std.proofs.Common.{ap, ◌∙◌, arith}
use Rattle.tac_code.specs.declared.code.Value.{Value}
use Rattle.tac_code.specs.Memory.{Words}
use Rattle.tac_code_steps.specs.Splices.{overlaid, spliced}

pub overlaid_length : (ns ws : Words) → length (overlaid ns ws) ≡ length ws
overlaid_length [] ws = refl
overlaid_length (n ∷ ns) [] = refl
overlaid_length (n ∷ ns) (w ∷ ws) = ap suc (overlaid_length ns ws)

pub spliced_length : (k : ℕ) (ns ws : Words) → length (spliced k ns ws) ≡ length ws
spliced_length zero ns ws = overlaid_length ns ws
spliced_length (suc k) ns [] = refl
spliced_length (suc k) ns (w ∷ ws) = ap suc (spliced_length k ns ws)

overlaid_inside : (ns ws : Words) (i : ℕ) → i < length ns → length ns ≤ length ws → slice_get (overlaid ns ws) i
    ≡ slice_get ns i
overlaid_inside [] ws i h l = absurd (omega arith)
overlaid_inside (n ∷ ns) [] i h l = absurd (omega arith)
overlaid_inside (n ∷ ns) (w ∷ ws) zero h l = refl
overlaid_inside (n ∷ ns) (w ∷ ws) (suc i) h l = overlaid_inside ns ws i (omega arith) (omega arith)

-- what is read inside the stretch
pub spliced_inside : (k : ℕ) (ns ws : Words) (i : ℕ) → i < length ns → k + length ns ≤ length ws → slice_get
    (spliced k ns ws) (k + i) ≡ slice_get ns i
spliced_inside zero ns ws i h l = let e : 0 + i ≡ i = omega arith in ap (slice_get (overlaid ns ws)) e
    ∙ overlaid_inside ns ws i h (omega arith)
spliced_inside (suc k) ns [] i h l = absurd (omega arith)
spliced_inside (suc k) ns (w ∷ ws) i h l = let e : suc k + i ≡ suc (k + i) = omega arith
    in ap (slice_get (w ∷ spliced k ns ws)) e ∙ spliced_inside k ns ws i h (omega arith)

overlaid_outside : (ns ws : Words) (i : ℕ) → length ns ≤ i → slice_get (overlaid ns ws) i ≡ slice_get ws i
overlaid_outside [] ws i h = refl
overlaid_outside (n ∷ ns) [] i h = refl
overlaid_outside (n ∷ ns) (w ∷ ws) zero h = absurd (omega arith)
overlaid_outside (n ∷ ns) (w ∷ ws) (suc i) h = overlaid_outside ns ws i (omega arith)

-- what is read before it and after it
pub spliced_before : (k : ℕ) (ns ws : Words) (i : ℕ) → i < k → slice_get (spliced k ns ws) i ≡ slice_get ws i
spliced_before zero ns ws i h = absurd (omega arith)
spliced_before (suc k) ns [] i h = refl
spliced_before (suc k) ns (w ∷ ws) zero h = refl
spliced_before (suc k) ns (w ∷ ws) (suc i) h = spliced_before k ns ws i (omega arith)

pub spliced_behind : (k : ℕ) (ns ws : Words) (i : ℕ) → k + length ns ≤ i → slice_get (spliced k ns ws) i
    ≡ slice_get ws i
spliced_behind zero ns ws i h = overlaid_outside ns ws i (omega arith)
spliced_behind (suc k) ns [] i h = refl
spliced_behind (suc k) ns (w ∷ ws) zero h = absurd (omega arith)
spliced_behind (suc k) ns (w ∷ ws) (suc i) h = spliced_behind k ns ws i (omega arith)

-- a stretch after another that starts at the front
overlaid_past : (ns xs ws : Words) (k : ℕ) → length ns ≤ k → overlaid ns (spliced k xs ws) ≡ spliced k xs
    (overlaid ns ws)
overlaid_past [] xs ws k h = refl
overlaid_past (n ∷ ns) xs ws zero h = absurd (omega arith)
overlaid_past (n ∷ ns) xs [] (suc k) h = refl
overlaid_past (n ∷ ns) xs (w ∷ ws) (suc k) h = ap (λ l. n ∷ l) (overlaid_past ns xs ws k (omega arith))

-- two stretches that lie apart
pub spliced_past : (k j : ℕ) (xs ys ws : Words) → k + length xs ≤ j → spliced k xs (spliced j ys ws) ≡ spliced j ys
    (spliced k xs ws)
spliced_past zero j xs ys ws h = overlaid_past xs ys ws j (omega arith)
spliced_past (suc k) zero xs ys ws h = absurd (omega arith)
spliced_past (suc k) (suc j) xs ys [] h = refl
spliced_past (suc k) (suc j) xs ys (w ∷ ws) h = ap (λ l. w ∷ l) (spliced_past k j xs ys ws (omega arith))

overlaid_within : (xs ys ws : Words) → length xs ≤ length ys → overlaid xs (overlaid ys ws) ≡ overlaid
    (overlaid xs ys) ws
overlaid_within [] ys ws h = refl
overlaid_within (a ∷ xs) [] ws h = absurd (omega arith)
overlaid_within (a ∷ xs) (b ∷ ys) [] h = refl
overlaid_within (a ∷ xs) (b ∷ ys) (w ∷ ws) h = ap (λ l. a ∷ l) (overlaid_within xs ys ws (omega arith))

spliced_within_front : (j : ℕ) (xs ys ws : Words) → j + length xs ≤ length ys → spliced j xs (overlaid ys ws) ≡ overlaid
    (spliced j xs ys) ws
spliced_within_front zero xs ys ws h = overlaid_within xs ys ws (omega arith)
spliced_within_front (suc j) xs [] ws h = absurd (omega arith)
spliced_within_front (suc j) xs (b ∷ ys) [] h = refl
spliced_within_front (suc j) xs (b ∷ ys) (w ∷ ws) h = ap (λ l. b ∷ l) (spliced_within_front j xs ys ws (omega arith))

-- a stretch within another
pub spliced_within : (k j : ℕ) (xs ys ws : Words) → j + length xs ≤ length ys → spliced (k + j) xs (spliced k ys ws)
    ≡ spliced k (spliced j xs ys) ws
spliced_within zero j xs ys ws h = let e : 0 + j ≡ j = omega arith in ap (λ i. spliced i xs (overlaid ys ws)) e
    ∙ spliced_within_front j xs ys ws h
spliced_within (suc k) j xs ys [] h = let e : suc k + j ≡ suc (k + j) = omega arith in ap (λ i. spliced i xs []) e
spliced_within (suc k) j xs ys (w ∷ ws) h = let e : suc k + j ≡ suc (k + j) = omega arith
    in ap (λ i. spliced i xs (w ∷ spliced k ys ws)) e ∙ ap (λ l. w ∷ l) (spliced_within k j xs ys ws h)

-- one word
pub set_spliced : (ws : Words) (k : ℕ) (w : Option Value) → slice_set ws k w ≡ spliced k (w ∷ []) ws
set_spliced [] zero w = refl
set_spliced [] (suc k) w = refl
set_spliced (x ∷ ws) zero w = refl
set_spliced (x ∷ ws) (suc k) w = ap (λ l. x ∷ l) (set_spliced ws k w)
