-- Real literals: what comes after the first digits shows whether there is one, and how far it extends.
use Rattle.std.proofs.Common.{◌≡◌, ℕ, ◌+◌, ◌<◌, ◌≤◌, true, false, ◌==◌, ◌&&◌, ◌⊎◌, inl, inr, [], ◌∷◌, ◌++◌}
use Rattle.std.proofs.Common.{length, take, drop, slice_index, refl, sym, ap, ◌∙◌, subst, arith, append_assoc}
use Rattle.std.proofs.Common.{length-append, eq-eqb, take-append-drop}
use Rattle.std.proofs.lemmas.Bool.{and_parts, or_cases, or_left, or_right, and_from, cases_Bool}
use Rattle.std.proofs.lemmas.Bool.Decides.{Decides-eqb, nat_tests}
use Rattle.std.proofs.lemmas.List.{drop_at}
use Rattle.std.specs.Char.{is_ascii_digit, to_ascii_lowercase}
use Rattle.std.specs.List.{list_all}
use Rattle.ps_scan.specs.Lexemes.{IsDigits, IsReal, with_fraction, with_both, with_scale, IsScale, unsigned, signed}
use Rattle.ps_scan.specs.Scanner.{digits_len, is_sign, fraction_len, scale_by, scale_len, real_len}
use Rattle.ps_scan.specs.Tables.{Bytes}
use Rattle.ps_scan.proofs.Prefixes.{Stops, prefix_is, prefix_passes, prefix_stops, prefix_longest}

pub digits_pass : (w : Bytes) → IsDigits w → list_all is_ascii_digit w ≡ true
digits_pass [] d = absurd d
digits_pass (b ∷ bs) d = d

-- the first byte of digits
pub digits_first : (b : ℕ) (bs : Bytes) → IsDigits (b ∷ bs) → is_ascii_digit b ≡ true
digits_first b bs d = (and_parts (is_ascii_digit b) (list_all is_ascii_digit bs) d).0

-- digits and what follows them begin with a digit
pub digits_begin : (a v : Bytes) (b : ℕ) (bs : Bytes) → IsDigits a → a ++ v ≡ b ∷ bs → is_ascii_digit b ≡ true
digits_begin [] v b bs d e = absurd d
digits_begin (c ∷ cs) v b bs d e =
    let same : c ≡ b = cc in subst (λ z. is_ascii_digit z ≡ true) same (digits_first c cs d)

pub real_begins : (u v : Bytes) (b : ℕ) (bs : Bytes) → IsReal u → u ++ v ≡ b ∷ bs → is_ascii_digit b ≡ true
real_begins u v b bs (with_fraction a f d _) e = digits_begin a _ b bs d (sym (append_assoc a _ v) ∙ e)
real_begins u v b bs (with_both a f s d _ _) e = digits_begin a _ b bs d (sym (append_assoc a _ v) ∙ e)
real_begins u v b bs (with_scale a s d _) e = digits_begin a _ b bs d (sym (append_assoc a _ v) ∙ e)

-- ---- how far real literals reach

first_digit : (w rest : Bytes) → IsDigits w → is_ascii_digit (slice_index (w ++ rest) 0) ≡ true
first_digit [] rest d = absurd d
first_digit (b ∷ bs) rest d = digits_first b bs d

digit_no_sign : (b : ℕ) → is_ascii_digit b ≡ true → is_sign b ≡ false
digit_no_sign b h = grind (arith, nat_tests)

scale_letter : (e : ℕ) → to_ascii_lowercase e ≡ 101 → is_ascii_digit e ≡ false
scale_letter e h = grind (arith, nat_tests)

scale_no_point : (e : ℕ) → to_ascii_lowercase e ≡ 101 → (e == 46) ≡ false
scale_no_point e h = grind (arith, nat_tests)

sign_is : (sign : ℕ) → (sign ≡ 43) ⊎ (sign ≡ 45) → is_sign sign ≡ true
sign_is sign (inl plus) = or_left _ _ (eq-eqb sign 43 plus)
sign_is sign (inr minus) = or_right _ _ (eq-eqb sign 45 minus)

scale_stops : (s v : Bytes) → IsScale s → Stops is_ascii_digit (s ++ v)
scale_stops s v (unsigned {e = e} letter d) = scale_letter e letter
scale_stops s v (signed {e = e} letter is d) = scale_letter e letter

scale_reaches : (s v : Bytes) → IsScale s → length s ≤ scale_len (s ++ v)
unfolding scale_len scale_by
scale_reaches s v (unsigned {e = e} {ds = ds} letter d) =
    let digit = first_digit ds v d in
    rw (digit_no_sign _ digit, letter, digit) (omega (arith, prefix_longest is_ascii_digit ds v (digits_pass ds d)))
scale_reaches s v (signed {e = e} {sign = sign} {ds = ds} letter is d) =
    let reach = prefix_longest is_ascii_digit ds v (digits_pass ds d) in
    rw (sign_is sign is, letter, first_digit ds v d) (omega (arith, reach))

fraction_least : (f v : Bytes) → IsDigits f → 1 + length f ≤ fraction_len (46 ∷ (f ++ v))
unfolding fraction_len
fraction_least f v d = rw (first_digit f v d) (omega (arith, prefix_longest is_ascii_digit f v (digits_pass f d)))

fraction_whole : (f v : Bytes) → IsDigits f → Stops is_ascii_digit v → fraction_len (46 ∷ (f ++ v)) ≡ 1 + length f
unfolding fraction_len
fraction_whole f v d stops = rw (first_digit f v d, prefix_is is_ascii_digit f v (digits_pass f d) stops) refl

fraction_reaches : (f v : Bytes) → IsDigits f → 1 + length f ≤ real_len (46 ∷ (f ++ v))
unfolding real_len
fraction_reaches f v d = omega (arith, fraction_least f v d)

both_reach : (f s v : Bytes) → IsDigits f → IsScale s → 1 + length f + length s ≤ real_len (46 ∷ (f ++ (s ++ v)))
unfolding real_len
both_reach f s v d scale =
    let gone : drop (1 + length f) (46 ∷ (f ++ (s ++ v))) ≡ s ++ v =
    drop_at (46 ∷ f) (s ++ v) (1 + length f) (omega arith) in
    rw (fraction_whole f (s ++ v) d (scale_stops s v scale), gone) (omega (arith, scale_reaches s v scale))

no_fraction : (s v : Bytes) → IsScale s → fraction_len (s ++ v) ≡ 0
unfolding fraction_len
no_fraction s v (unsigned {e = e} letter d) = rw (scale_no_point e letter) refl
no_fraction s v (signed {e = e} letter is d) = rw (scale_no_point e letter) refl

only_scale_reaches : (s v : Bytes) → IsScale s → length s ≤ real_len (s ++ v)
unfolding real_len
only_scale_reaches s v scale = rw (no_fraction s v scale) (omega (arith, scale_reaches s v scale))

scale_some : (s : Bytes) → IsScale s → 0 < length s
scale_some s (unsigned letter d) = omega arith
scale_some s (signed letter is d) = omega arith

-- a real literal before other bytes: its first digits, and the rest of it, which the scanner finds
pub record Parts (u v : Bytes) : Type 0 where
  pub before : Bytes
  pub tail : Bytes
  pub split : u ≡ before ++ tail
  pub are_digits : IsDigits before
  pub some : 0 < length tail
  pub stops : Stops is_ascii_digit (tail ++ v)
  pub reaches : length tail ≤ real_len (tail ++ v)

pub real_parts : (u v : Bytes) → IsReal u → Parts u v
real_parts u v (with_fraction a f d d') =
    let far : length (46 ∷ f) ≤ real_len (46 ∷ (f ++ v)) = omega (arith, fraction_reaches f v d') in
    record { before = a; tail = 46 ∷ f; split = refl; are_digits = d; some = omega arith; stops = refl; reaches = far }
real_parts u v (with_both a f s d d' scale) = record {
  before = a;
  tail = 46 ∷ (f ++ s);
  split = refl;
  are_digits = d;
  some = omega arith;
  stops = refl;
  reaches = rw (append_assoc f s v) (omega (arith, both_reach f s v d' scale, length-append f s));
}
real_parts u v (with_scale a s d scale) =
    let stops = scale_stops s v scale in
    let far = only_scale_reaches s v scale in
    let some = scale_some s scale in
    record { before = a; tail = s; split = refl; are_digits = d; some = some; stops = stops; reaches = far }

-- how far the scanner goes for a number or a real literal
abbrev pub number_len : Bytes → ℕ
number_len bs = digits_len bs + real_len (drop (digits_len bs) bs)

pub number_len_is : (w rest : Bytes) → IsDigits w → Stops is_ascii_digit rest
    → number_len (w ++ rest) ≡ length w + real_len rest
number_len_is w rest d stops =
    rw (prefix_is is_ascii_digit w rest (digits_pass w d) stops, drop_at w rest (length w) refl) refl

-- no real literal extends further
pub real_reaches : (u v : Bytes) → IsReal u → length u ≤ number_len (u ++ v)
real_reaches u v r =
    let p = real_parts u v r in
    let whole : number_len (u ++ v) ≡ length p.before + real_len (p.tail ++ v) =
    ap number_len (ap (λ z. z ++ v) p.split ∙ append_assoc p.before p.tail v)
    ∙ number_len_is p.before (p.tail ++ v) p.are_digits p.stops in
    omega (arith, whole, p.reaches, ap length p.split, length-append p.before p.tail)

-- ---- what the scanner finds is a real literal

-- the digits that come next
record Digits (bs : Bytes) : Type 0 where
  digits : Bytes
  after : Bytes
  split : bs ≡ digits ++ after
  are_digits : IsDigits digits
  len : digits_len bs ≡ length digits

digits_of : (bs : Bytes) → is_ascii_digit (slice_index bs 0) ≡ true → Digits bs
digits_of [] digit = cc
digits_of (b ∷ bs) digit =
    let w = take (digits_len bs) bs in
    let rest = drop (digits_len bs) bs in
    let d : IsDigits (b ∷ w) = and_from _ _ digit (prefix_passes is_ascii_digit bs) in
    let split : b ∷ bs ≡ (b ∷ w) ++ rest = ap (λ z. b ∷ z) (sym (take-append-drop (digits_len bs) bs)) in
    record {
      digits = b ∷ w;
      after = rest;
      split = split;
      are_digits = d;
      len = ap digits_len split
          ∙ prefix_is is_ascii_digit (b ∷ w) rest d (prefix_stops is_ascii_digit bs);
    }

-- the scale that comes next
record Scaled (bs : Bytes) : Type 0 where
  scale : Bytes
  after : Bytes
  split : bs ≡ scale ++ after
  is_scale : IsScale scale
  len : scale_len bs ≡ length scale

unsigned_at : (e : ℕ) (next : Bytes) → is_sign (slice_index next 0) ≡ false
    → (scale_len (e ∷ next) ≡ 0) ⊎ Scaled (e ∷ next)
unfolding scale_len scale_by
unsigned_at e next no_sign = elim (cases_Bool (to_ascii_lowercase e == 101 && is_ascii_digit (slice_index next 0))) [
  | inl both ↦ (let parts = and_parts (to_ascii_lowercase e == 101) _ both in
      let d = digits_of next parts.1 in
      inr (record {
        scale = e ∷ d.digits;
        after = d.after;
        split = ap (λ z. e ∷ z) d.split;
        is_scale = unsigned ((Decides-eqb (to_ascii_lowercase e) 101).0 parts.0) d.are_digits;
        len = rw (no_sign, both) (omega (arith, d.len));
      }))
  | inr none ↦ inl (rw (no_sign, none) refl)
]

signed_at : (e sign : ℕ) (next : Bytes) → is_sign sign ≡ true
    → (scale_len (e ∷ sign ∷ next) ≡ 0) ⊎ Scaled (e ∷ sign ∷ next)
unfolding scale_len scale_by
signed_at e sign next is = elim (cases_Bool (to_ascii_lowercase e == 101 && is_ascii_digit (slice_index next 0))) [
  | inl both ↦ (let parts = and_parts (to_ascii_lowercase e == 101) _ both in
      let d = digits_of next parts.1 in
      inr (record {
        scale = e ∷ sign ∷ d.digits;
        after = d.after;
        split = ap (λ z. e ∷ sign ∷ z) d.split;
        is_scale = signed ((Decides-eqb (to_ascii_lowercase e) 101).0 parts.0) (sign_of sign is) d.are_digits;
        len = rw (is, both) (omega (arith, d.len));
      }))
  | inr none ↦ inl (rw (is, none) refl)
]
  where
    sign_of : (b : ℕ) → is_sign b ≡ true → (b ≡ 43) ⊎ (b ≡ 45)
    sign_of b h =
        elim (or_cases (b == 43) (b == 45) h) [
          | inl plus ↦ inl ((Decides-eqb b 43).0 plus)
          | inr minus ↦ inr
              ((Decides-eqb b 45).0 minus)
        ]

no_scale : scale_len [] ≡ 0
unfolding scale_len scale_by
no_scale = refl

scaled : (bs : Bytes) → (scale_len bs ≡ 0) ⊎ Scaled bs
scaled [] = inl no_scale
scaled (e ∷ []) = unsigned_at e [] refl
scaled (e ∷ sign ∷ next) =
    elim (cases_Bool (is_sign sign)) [
      | inl is ↦ signed_at e sign next is
      | inr other ↦ unsigned_at e
          (sign ∷ next) other
    ]

-- the real literal that w begins
pub record Real (w rest : Bytes) : Type 0 where
  pub tail : Bytes
  pub after : Bytes
  pub split : rest ≡ tail ++ after
  pub is_real : IsReal (w ++ tail)
  pub len : real_len rest ≡ length tail

real_by_scale : (w rest : Bytes) → IsDigits w → fraction_len rest ≡ 0 → 0 < real_len rest → Real w rest
unfolding real_len
real_by_scale w rest d none some =
    let same : real_len rest ≡ scale_len rest = rw none (omega arith) in
    elim (scaled rest) [
      | inl zero' ↦ absurd (omega (arith, same, some, zero'))
      | inr s ↦ record {
        tail = s.scale;
        after = s.after;
        split = s.split;
        is_real = with_scale w s.scale d s.is_scale;
        len = same ∙ s.len;
      }
    ]

real_by_fraction : (w next : Bytes) → IsDigits w → is_ascii_digit (slice_index next 0) ≡ true → Real w (46 ∷ next)
unfolding real_len fraction_len
real_by_fraction w next d digit =
    let f = digits_of next digit in
    let gone : drop (1 + digits_len next) (46 ∷ next) ≡ f.after =
    ap (λ z. drop (1 + digits_len next) (46 ∷ z)) f.split
    ∙ drop_at (46 ∷ f.digits) f.after (1 + digits_len next) (omega (arith, f.len)) in
    let whole : real_len (46 ∷ next) ≡ 1 + digits_len next + scale_len f.after = rw (digit, gone) refl in
    elim (scaled f.after) [
      | inl zero' ↦ record {
        tail = 46 ∷ f.digits;
        after = f.after;
        split = ap (λ z. 46 ∷ z) f.split;
        is_real = with_fraction w f.digits d f.are_digits;
        len = omega (arith, whole, f.len, zero');
      }
      | inr s ↦ record {
        tail = 46 ∷ (f.digits ++ s.scale);
        after = s.after;
        split = ap (λ z. 46 ∷ z) (f.split ∙ ap (λ z. f.digits ++ z) s.split
            ∙ sym (append_assoc f.digits s.scale s.after));
        is_real = with_both w f.digits s.scale d f.are_digits s.is_scale;
        len = omega (arith, whole, f.len, s.len, length-append f.digits s.scale);
      }
    ]

pub real_is : (w rest : Bytes) → IsDigits w → 0 < real_len rest → Real w rest
unfolding fraction_len
real_is w [] d some = real_by_scale w [] d refl some
real_is w (b ∷ next) d some = elim (cases_Bool (b == 46 && is_ascii_digit (slice_index next 0))) [
  | inl both ↦ (let parts = and_parts (b == 46) _ both in
      subst (λ z. Real w (z ∷ next)) (sym ((Decides-eqb b 46).0 parts.0)) (real_by_fraction w next d parts.1))
  | inr none ↦ real_by_scale w (b ∷ next) d (rw none refl) some
]
