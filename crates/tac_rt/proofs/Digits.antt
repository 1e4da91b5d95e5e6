-- The numbers, digits and marks of an integer that is read.
use Rattle.std.proofs.Common.{◌≡◌, ◌⊎◌, inl, inr, ℕ, zero, suc, ◌+◌, ◌-◌, ◌<◌, ◌≤◌, ℤ, pos, negsuc, ◌-ℤ◌, Bool, true}
use Rattle.std.proofs.Common.{false, not, ◌&&◌, nat_eq, nat_lt, nat_le, List, [], ◌∷◌, ◌++◌, length, drop, replicate}
use Rattle.std.proofs.Common.{take_while, Some, refl, sym, ap, ◌∙◌, arith, lt-ltb, ltb-true, ltb-false, eqb-true}
use Rattle.std.proofs.Common.{leb-true, le-leb}
use Rattle.std.proofs.lemmas.Int.{ints}
use Rattle.std.specs.List.{All}
use Rattle.std.proofs.lemmas.Bool.{le-ltb, and_parts}
use Rattle.behavior.specs.Transcripts.{mark}
use Rattle.tac_code.specs.declared.code.Value.TheVariants.{Number}
use Rattle.tac_code.specs.declared.code.Operator.TheVariants.{Subtract}
use Rattle.tac_code.specs.declared.code.Relation.TheVariants.{Less, LessEqual, Greater}
use Rattle.tac_code.specs.declared.code.TacRoutine.{TacRoutine}
use Rattle.tac_code.specs.Numbers.{is_integer, same_number, within, computed, compared, Gives}
use Rattle.tac_code.specs.Meaning.{Temporaries, Tape}
use Rattle.tac_code.specs.declared.code.TheConstants.{NUMBER_LIMIT}
use Rattle.ps_meaning.specs.Text.{is_digit, is_empty}
use Rattle.ps_meaning.specs.Operators.{least}
use Rattle.tac_rt.specs.declared.reading.TheConstants.{READ_NUMBER}
use Rattle.tac_rt.specs.Bodies.{routine_of}
use Rattle.tac_rt.specs.Inputs.{first_or_end}
use Rattle.tac_rt.proofs.Arithmetic.{gives_natural, gives_negative, minus}
use Rattle.tac_rt.proofs.Strings.{append_nothing, append_after}

abbrev pub routine : TacRoutine
routine = routine_of 2 7 READ_NUMBER

-- ---- numbers

gives_minus : (n : ℕ) → n ≤ NUMBER_LIMIT → within 0 (minus n) ≡ Gives (minus n)
gives_minus zero l = refl
gives_minus (suc n) l = gives_negative n (omega arith)

pub digit_less : (a d : ℕ) → a + d ≤ NUMBER_LIMIT → computed Subtract 0 (minus a) (pos d) ≡ Gives (minus (a + d))
digit_less a d l = ap (within 0) (same a d) ∙ gives_minus (a + d) l
  where
    zero_less : (d n : ℕ) → n ≡ d → pos 0 -ℤ pos d ≡ minus n
    zero_less zero zero e = refl
    zero_less zero (suc n) e = absurd (omega arith)
    zero_less (suc d) zero e = absurd (omega arith)
    zero_less (suc d) (suc n) e = omega (arith, ints)

    less : (a d n : ℕ) → n ≡ suc (a + d) → negsuc a -ℤ pos d ≡ minus n
    less a d zero e = absurd (omega (arith, e))
    less a d (suc n) e = omega (arith, ints, e)

    same : (a d : ℕ) → minus a -ℤ pos d ≡ minus (a + d)
    same zero d = zero_less d (0 + d) (omega arith)
    same (suc a) d = less a d (suc a + d) (omega arith)

pub zero_less_minus : (n : ℕ) → n < NUMBER_LIMIT → computed Subtract 0 (pos 0) (minus n) ≡ Gives (pos n)
zero_less_minus n l = ap (within 0) (same n) ∙ gives_natural n l
  where
    same : (n : ℕ) → pos 0 -ℤ minus n ≡ pos n
    same zero = refl
    same (suc n) = omega (arith, ints)

pub below_limit : (n : ℕ) → 214748364 < n → compared Less (minus n) (negsuc 214748363) ≡ true
below_limit zero l = absurd (omega arith)
below_limit (suc k) l = lt-ltb 214748363 k (omega arith)

pub not_below_limit : (n : ℕ) → n ≤ 214748364 → compared Less (minus n) (negsuc 214748363) ≡ false
not_below_limit zero l = refl
not_below_limit (suc k) l = le-ltb 214748363 k (omega arith)

pub above_limit : (n : ℕ) → n < 214748364 → compared Greater (minus n) (negsuc 214748363) ≡ true
above_limit zero l = refl
above_limit (suc k) l = lt-ltb k 214748363 (omega arith)

pub not_above_limit : (n : ℕ) → 214748364 ≤ n → compared Greater (minus n) (negsuc 214748363) ≡ false
not_above_limit zero l = absurd (omega arith)
not_above_limit (suc k) l = le-ltb k 214748363 (omega arith)

pub minus_fits : (n : ℕ) → n ≤ NUMBER_LIMIT → is_integer (minus n) ≡ true
minus_fits zero l = refl
minus_fits (suc k) l = lt-ltb k NUMBER_LIMIT (omega arith)

pub minus_no : (n : ℕ) → NUMBER_LIMIT < n → is_integer (minus n) ≡ false
minus_no zero l = absurd (omega arith)
minus_no (suc k) l = le-ltb k NUMBER_LIMIT (omega arith)

pub least_is : (n : ℕ) → same_number (minus n) least ≡ true → n ≡ NUMBER_LIMIT
least_is zero e = absurd (cc)
least_is (suc k) e = let q = eqb-true k (NUMBER_LIMIT - 1) e in omega (arith, q)

pub least_no : (n : ℕ) → n ≤ NUMBER_LIMIT → same_number (minus n) least ≡ false → n < NUMBER_LIMIT
least_no zero l e = omega arith
least_no (suc k) l e = go (nat_lt k (NUMBER_LIMIT - 1)) refl
  where
    go : (b : Bool) → nat_lt k (NUMBER_LIMIT - 1) ≡ b → suc k < NUMBER_LIMIT
    go true q = let h = ltb-true k (NUMBER_LIMIT - 1) q in omega (arith, h)
    go false q = let h = ltb-false k (NUMBER_LIMIT - 1) q in let is : k ≡ NUMBER_LIMIT - 1 = omega (arith, h, l)
        in let y : true
        ≡ false = sym (ap (λ j. nat_eq j (NUMBER_LIMIT - 1)) is) ∙ e in absurd (cc)

-- ---- digits

-- what 48 less than a byte or the end is
abbrev pub digit_value : List ℕ → ℤ
digit_value [] = negsuc 48
digit_value (b ∷ rest) = pos b -ℤ pos 48

pub record IsDigit (b : ℕ) : Type 0 where
  pub low : 48 ≤ b
  pub high : b ≤ 57

pub digit_is : (b : ℕ) → is_digit b ≡ true → IsDigit b
digit_is b e = let h = and_parts (nat_le 48 b) (nat_le b 57) e in record {
  low = leb-true 48 b h.0;
  high = leb-true b 57 h.1;
}

first_small : (b : ℕ) (rest : List ℕ) → All (λ b. b < 256) (b ∷ rest) → b < 256
first_small b rest h = h 0 0 (omega arith)

pub rest_small : (b : ℕ) (rest : List ℕ) → All (λ b. b < 256) (b ∷ rest) → All (λ b. b < 256) rest
rest_small b rest h i d l = h (suc i) d (omega (arith, l))

pub subtracted : (u : List ℕ) → All (λ b. b < 256) u
    → computed Subtract 0 (first_or_end u) (pos 48) ≡ Gives (digit_value u)
subtracted [] h = refl
subtracted (b ∷ rest) h =
    let small = first_small b rest h in
    go (nat_lt b 48) refl small
  where
    go : (q : Bool) → nat_lt b 48 ≡ q → b < 256 → within 0 (pos b -ℤ pos 48) ≡ Gives (pos b -ℤ pos 48)
    go true e small = let l = ltb-true b 48 e in let z : pos b -ℤ pos 48 ≡ negsuc (47 - b) = omega (arith, ints, l)
        in ap (within 0) z ∙ gives_negative (47 - b) (omega arith) ∙ ap Gives (sym z)
    go false e small = let l = ltb-false b 48 e in let z : pos b -ℤ pos 48 ≡ pos (b - 48) = omega (arith, ints, l)
        in ap (within 0) z ∙ gives_natural (b - 48) (omega (arith, small)) ∙ ap Gives (sym z)

pub digit_known : (b : ℕ) (rest : List ℕ) → IsDigit b → digit_value (b ∷ rest) ≡ pos (b - 48)
digit_known b rest d = let l = d.low in omega (arith, ints, l)

-- where there is no digit, one of the two tests shows it
abbrev pub NoDigit : ℤ → Type 0
NoDigit z = (compared Less z (pos 0) ≡ true)
    ⊎ ((compared Less z (pos 0) ≡ false) × (compared LessEqual z (pos 9) ≡ false))

pub end_no : NoDigit (digit_value [])
end_no = inl refl

pub byte_no : (b : ℕ) (rest : List ℕ) → is_digit b ≡ false → NoDigit (digit_value (b ∷ rest))
byte_no b rest e = go (nat_lt b 48) refl
  where
    go : (q : Bool) → nat_lt b 48 ≡ q → (compared Less (pos b -ℤ pos 48) (pos 0) ≡ true)
        ⊎ ((compared Less (pos b -ℤ pos 48) (pos 0) ≡ false) × (compared LessEqual (pos b -ℤ pos 48) (pos 9) ≡ false))
    go true q = let l = ltb-true b 48 q in let z : pos b -ℤ pos 48 ≡ negsuc (47 - b) = omega (arith, ints, l) in inl
        (ap (λ y. compared Less y (pos 0)) z)
    go false q =
        let l = ltb-false b 48 q in
        let z : pos b -ℤ pos 48 ≡ pos (b - 48) = omega (arith, ints, l) in
        inr (
          ap (λ y. compared Less y (pos 0)) z ∙ le-ltb (b - 48) 0
              (omega arith),
          ap (λ y. compared LessEqual y (pos 9)) z ∙ ap not
              (lt-ltb 9 (b - 48) (high (nat_lt 57 b) refl)),
        )
      where
        high : (r : Bool) → nat_lt 57 b ≡ r → 9 < b - 48
        high true r = let h = ltb-true 57 b r in omega (arith, h)
        high false r =
            let h = ltb-false 57 b r in
            let l = ltb-false b 48 q in
            let y : true ≡ false = sym (ap (λ t. t && nat_le b 57) (le-leb 48 b (omega (arith, l))) ∙ le-leb b 57
            (omega (arith, h))) ∙ e in
            absurd (cc)

pub digit_test : (d : ℕ) → d ≤ 9 → (compared Less (pos d) (pos 0) ≡ false) × (compared LessEqual (pos d) (pos 9) ≡ true)
digit_test d l = (le-ltb d 0 (omega arith), ap not (le-ltb 9 d l))

-- ---- marks

abbrev pub told : List ℕ → List ℕ → List ℕ → List ℕ
told left later transcript = transcript ++ replicate (length left - length later) mark

pub told_same : (left transcript : List ℕ) → transcript ≡ told left left transcript
told_same left transcript = let z : 0 ≡ length left - length left = omega arith in append_nothing transcript
    ∙ ap (λ k. transcript ++ replicate k mark) z

pub told_one : (b : ℕ) (rest later transcript : List ℕ) → length later ≤ length rest → told rest later
    (transcript ++ mark ∷ []) ≡ told (b ∷ rest) later transcript
told_one b rest later transcript l = let e : suc (length rest - length later) ≡ suc (length rest) - length later = omega
    (arith, l) in append_after transcript (mark ∷ []) (replicate (length rest - length later) mark)
    ∙ ap (λ k. transcript ++ replicate k mark) e

marks_joined : (a b : ℕ) → replicate a mark ++ replicate b mark ≡ replicate (a + b) mark
marks_joined zero b = let e : b ≡ 0 + b = omega arith in ap (λ k. replicate k mark) e
marks_joined (suc a) b = let e : suc (a + b) ≡ suc a + b = omega arith in ap (λ l. mark ∷ l) (marks_joined a b)
    ∙ ap (λ k. replicate k mark) e

pub told_both : (left middle later transcript : List ℕ) → length middle ≤ length left → length later ≤ length middle
    → told middle later (told left middle transcript) ≡ told left later transcript
told_both left middle later transcript l h =
    let e : (length left - length middle) + (length middle - length later) ≡ length left - length later = omega
    (arith, l, h) in
    append_after transcript (replicate (length left - length middle) mark)
    (replicate (length middle - length later) mark)
    ∙ ap (λ xs. transcript ++ xs) (marks_joined (length left - length middle) (length middle - length later)
    ∙ ap (λ k. replicate k mark) e)

-- ---- what is held from one byte to the next

-- the tape, where the first of what is left, or the end, is in temporary 2
abbrev pub held : List ℕ → List ℕ → Tape
held left transcript = record { input = drop 1 left; ended = is_empty left; transcript = transcript }

abbrev pub sign_of : Bool → ℤ
sign_of true = pos 1
sign_of false = pos 0

abbrev pub digits_of : List ℕ → List ℕ
digits_of left = take_while is_digit left

-- what the temporaries hold, where the first of the bytes that are left is in the second: the sign, minus a number,
-- and whether one was passed that has no word
pub record Counts (t : Temporaries) (sign : ℤ) (written : ℕ) (left : List ℕ) (now : Temporaries) : Type 0 where
  pub zero_kept : now 0 ≡ t 0
  pub one_kept : now 1 ≡ t 1
  pub signed : now 3 ≡ Some (Number sign)
  pub next : now 2 ≡ Some (Number (first_or_end left))
  pub number : ℕ
  pub passed : Bool
  pub stands : now 5 ≡ Some (Number (minus number))
  pub flag : now 6 ≡ Some (Number (sign_of passed))
  pub small : number ≤ NUMBER_LIMIT
  pub same : passed ≡ false → number ≡ written
  pub large : passed ≡ true → NUMBER_LIMIT < written
