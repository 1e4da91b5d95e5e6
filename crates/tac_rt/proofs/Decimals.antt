-- The decimal digits of a number, highest first.
use Rattle.std.proofs.Common.{◌≡◌, ℕ, zero, suc, ◌+◌, ◌-◌, ◌*◌, ◌/◌, ◌%◌, ◌^◌, ◌<◌, ◌≤◌, Bool, true, false, nat_lt}
use Rattle.std.proofs.Common.{if◌then◌else◌, List, [], ◌∷◌, ◌++◌, length, refl, sym, ap, ◌∙◌, subst, arith, lt-ltb}
use Rattle.std.proofs.Common.{ltb-true, ltb-false}
use Rattle.std.proofs.Math.Nat.{pow-suc, mul-le-mul_right}
use Rattle.ps_meaning.specs.Text.{digits}

-- the number that digits write
abbrev pub worth : List ℕ → ℕ
worth [] = 0
worth (b ∷ bs) = (b - 48) * 10 ^ length bs + worth bs

abbrev pub AreDigits : List ℕ → Type 0
AreDigits [] = Unit {0}
AreDigits (b ∷ bs) = (48 ≤ b) × (b < 58) × AreDigits bs

pub power_positive : (k : ℕ) → 0 < 10 ^ k
power_positive zero = omega arith
power_positive (suc k) = let e = pow-suc 10 k in let l = power_positive k in omega (arith, e, l)

pub worth_below : (bs : List ℕ) → AreDigits bs → worth bs < 10 ^ length bs
worth_below [] h = omega arith
worth_below (b ∷ bs) h =
    let l = worth_below bs h.2 in
    let high = h.1 in
    let few : b - 48 ≤ 9 = omega (arith, high) in
    let e = pow-suc 10 (length bs) in
    let m = mul-le-mul_right (10 ^ length bs) few in
    omega (arith, l, e, m)

scaled : (c p d w : ℕ) → c * (p * 10) + (w * 10 + d) ≡ (c * p + w) * 10 + d
scaled c p d w = omega arith

length_behind : (bs : List ℕ) (b : ℕ) → length (bs ++ b ∷ []) ≡ suc (length bs)
length_behind [] b = refl
length_behind (c ∷ bs) b = ap suc (length_behind bs b)

worth_behind : (bs : List ℕ) (d : ℕ) → worth (bs ++ (48 + d) ∷ []) ≡ worth bs * 10 + d
worth_behind [] d = omega arith
worth_behind (b ∷ bs) d =
    ap (λ n. (b - 48) * 10 ^ n + worth (bs ++ (48 + d) ∷ [])) (length_behind bs (48 + d))
    ∙ ap (λ p. (b - 48) * p + worth (bs ++ (48 + d) ∷ [])) (pow-suc 10 (length bs))
    ∙ ap (λ w. (b - 48) * (10 ^ length bs * 10) + w) (worth_behind bs d)
    ∙ scaled (b - 48) (10 ^ length bs) d (worth bs)

digits_behind : (bs : List ℕ) (d : ℕ) → d < 10 → AreDigits bs → AreDigits (bs ++ (48 + d) ∷ [])
digits_behind [] d l h = (omega arith, omega arith, tt)
digits_behind (b ∷ bs) d l h = (h.0, h.1, digits_behind bs d l h.2)

pub record Decimal (n : ℕ) (text : List ℕ) : Type 0 where
  pub digits : AreDigits text
  pub worth : worth text ≡ n
  pub some : 0 < length text
  -- no digit of two or more is missed
  pub least : (j : ℕ) → suc j < length text → 10 ^ suc j ≤ n

digits_short : (k n : ℕ) → nat_lt n 10 ≡ true → digits (suc k) n ≡ (48 + n) ∷ []
unfolding digits
digits_short k n e = ap (λ b. if b then (48 + n) ∷ [] else digits k (n / 10) ++ (48 + n % 10) ∷ []) e

digits_long : (k n : ℕ) → nat_lt n 10 ≡ false → digits (suc k) n ≡ digits k (n / 10) ++ (48 + n % 10) ∷ []
unfolding digits
digits_long k n e = ap (λ b. if b then (48 + n) ∷ [] else digits k (n / 10) ++ (48 + n % 10) ∷ []) e

longer : (n : ℕ) (text : List ℕ) → 10 ≤ n → Decimal (n / 10) text → Decimal n (text ++ (48 + n % 10) ∷ [])
longer n text l d = record {
  digits = digits_behind text (n % 10) (omega arith) d.digits;
  worth = worth_behind text (n % 10) ∙ ap (λ w. w * 10 + n % 10) d.worth ∙ back;
  some = let e = length_behind text (48 + n % 10) in omega (arith, e);
  least = λ j h. let e = length_behind text (48 + n % 10) in least j (omega (arith, e, h));
}
  where
    back : n / 10 * 10 + n % 10 ≡ n
    back = omega arith

    least : (j : ℕ) → j < length text → 10 ^ suc j ≤ n
    least zero h = l
    least (suc j) h = let e = pow-suc 10 (suc j) in let m = d.least j h in omega (arith, e, m)

short_decimal : (k n : ℕ) → nat_lt n 10 ≡ true → Decimal n (digits (suc k) n)
short_decimal k n e =
    let low = ltb-true n 10 e in
    subst (Decimal n) (sym (digits_short k n e)) (record {
      digits = (omega arith, omega (arith, low), tt);
      worth = omega arith;
      some = omega arith;
      least = λ j h. absurd (omega (arith, h));
    })

pub decimal : (k n : ℕ) → n < 10 ^ suc k → Decimal n (digits (suc k) n)
decimal zero n l = short_decimal 0 n (lt-ltb n 10 (omega arith))
decimal (suc k) n l = go (λ h. decimal k (n / 10) h) (nat_lt n 10) refl
  where
    go : (n / 10 < 10 ^ suc k → Decimal (n / 10) (digits (suc k) (n / 10))) → (b : Bool) → nat_lt n 10 ≡ b → Decimal n
        (digits (suc (suc k)) n)
    go rest true e = short_decimal (suc k) n e
    go rest false e =
        let h = ltb-false n 10 e in
        let p = pow-suc 10 (suc k) in
        subst (Decimal n) (sym (digits_long (suc k) n e))
        (longer n (digits (suc k) (n / 10)) (omega (arith, h)) (rest (omega (arith, l, p))))
