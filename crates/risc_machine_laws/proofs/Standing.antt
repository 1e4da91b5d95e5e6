-- Instructions that are in a code: parts of a line, and lines within a longer code.
use Rattle.std.proofs.Common.{◌≡◌, ℕ, zero, suc, ◌+◌, List, [], ◌∷◌, ◌++◌, length, map, Some, refl, ap, ◌∙◌, subst}
use Rattle.std.proofs.Common.{arith, append_assoc, length-append}
use Rattle.std.specs.Prelude.{slice_get}
use Rattle.risc_word.specs.declared.instr.Instr.{Instr}
use Rattle.risc_word.specs.Words.{word_of, IsInstr}
use Rattle.risc_machine_laws.specs.View.{IsAt, HasAt}

-- each instruction's fields keep their ranges
abbrev pub AllInstr : List Instr → Type 0
AllInstr [] = Unit {0}
AllInstr (i ∷ is) = IsInstr i × AllInstr is

pub all_append : (is js : List Instr) → AllInstr is → AllInstr js → AllInstr (is ++ js)
all_append [] js h k = k
all_append (i ∷ is) js h k = (h.0, all_append is js h.1 k)

-- ---- parts of a line
pub has_front : (code : List ℕ) (place : ℕ) (is js : List Instr) → HasAt code place (is ++ js) → HasAt code place is
has_front code place [] js h = tt
has_front code place (i ∷ is) js h = (h.0, has_front code (place + 1) is js h.1)

pub has_back : (code : List ℕ) (place : ℕ) (is js : List Instr) → HasAt code place (is ++ js) → HasAt code
    (place + length is) js
has_back code place [] js h = let e : place ≡ place + 0 = omega arith in subst (λ p. HasAt code p js) e h
has_back code place (i ∷ is) js h =
    let e : place + 1 + length is ≡ place + suc (length is) = omega arith in
    subst (λ p. HasAt code p js) e (has_back code (place + 1) is js h.1)

pub has_join : (code : List ℕ) (place : ℕ) (is js : List Instr) → HasAt code place is → HasAt code
    (place + length is) js → HasAt code place (is ++ js)
has_join code place [] js h k = let e : place + 0 ≡ place = omega arith in subst (λ p. HasAt code p js) e k
has_join code place (i ∷ is) js h k =
    let e : place + suc (length is) ≡ place + 1 + length is = omega arith in
    (h.0, has_join code (place + 1) is js h.1 (subst (λ p. HasAt code p js) e k))

pub has_at : (code : List ℕ) (place k : ℕ) (is : List Instr) (i : Instr) → HasAt code place is → slice_get is k ≡ Some i
    → IsAt code (place + k) i
has_at code place k [] i h e = absurd (cc e)
has_at code place zero (j ∷ is) i h e =
    let same : j ≡ i = cc e in
    let p : place ≡ place + 0 = omega arith in
    subst (λ x. IsAt code (place + 0) x) same (subst (λ q. IsAt code q j) p h.0)
has_at code place (suc k) (j ∷ is) i h e =
    let p : place + 1 + k ≡ place + suc k = omega arith in
    subst (λ q. IsAt code q i) p (has_at code (place + 1) k is i h.1 e)

-- ---- a line within a longer code
word_past : (front back : List ℕ) (k : ℕ) → slice_get (front ++ back) (length front + k) ≡ slice_get back k
word_past [] back k = ap (slice_get back) (none k)
  where
    none : (k : ℕ) → 0 + k ≡ k
    none k = omega arith
word_past (w ∷ front) back k =
    let e : suc (length front) + k ≡ suc (length front + k) = omega arith in
    ap (slice_get (w ∷ (front ++ back))) e ∙ word_past front back k

first_word : (w : ℕ) (ws : List ℕ) → slice_get (w ∷ ws) 0 ≡ Some w
first_word w ws = refl

pub has_here : (front back : List ℕ) (is : List Instr) → AllInstr is → HasAt (front ++ (map word_of is ++ back))
    (length front) is
has_here front back [] h = tt
has_here front back (i ∷ is) h =
    let w = word_of i in
    let rest = map word_of is ++ back in
    let zero_more : length front ≡ length front + 0 = omega arith in
    let here = ap (slice_get (front ++ w ∷ rest)) zero_more ∙ word_past front (w ∷ rest) 0 ∙ first_word w rest in
    let tail = has_here (front ++ w ∷ []) back is h.1 in
    let codes : (front ++ w ∷ []) ++ rest ≡ front ++ w ∷ rest = append_assoc front (w ∷ []) rest in
    let places : length (front ++ w ∷ []) ≡ length front + 1 = length-append front (w ∷ []) in
    let moved = subst (λ c. HasAt c (length (front ++ w ∷ [])) is) codes tail in
    (record { word = here; ranges = h.0 }, subst (λ p. HasAt (front ++ w ∷ rest) p is) places moved)
