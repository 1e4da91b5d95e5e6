-- Comments: how far one reaches.
use Rattle.std.proofs.Common.{◌≡◌, ◌≢◌, ℕ, ◌+◌, Bool, true, false, cond, ◌==◌, ◌||◌, ◌&&◌, [], ◌∷◌, ◌++◌, length, Some}
use Rattle.std.proofs.Common.{refl, sym, ap, ◌∙◌, inl, inr, subst, arith}
use Rattle.std.proofs.lemmas.Bool.{ne_eqb, eqb-false, and_right, and_left, and_parts, or_parts, or_from, or_cases}
use Rattle.std.proofs.lemmas.Bool.{cond-false}
use Rattle.std.proofs.lemmas.Bool.Decides.{Decides-eqb}
use Rattle.ps_scan.specs.Tables.{Bytes}
use Rattle.ps_scan.specs.Separators.{IsComment, brace, star, more}
use Rattle.ps_scan.specs.Scanner.{comment_end}

-- the bytes don't close a comment together with a star before them
abbrev pub Opens : Bool → Bytes → Type 0
Opens after_star [] = Unit {0}
Opens after_star (b ∷ bs) = after_star ≡ true → b ≢ 41

pub comment_end_is : {c : Bytes} (after_star : Bool) (n : ℕ) (rest : Bytes) → IsComment c → Opens after_star c
    → comment_end after_star n (c ++ rest) ≡ Some (n + length c)
comment_end_is after_star n rest brace opens = ap Some (omega arith)
comment_end_is after_star n rest star opens = ap Some (omega arith)
comment_end_is after_star n rest (more {b = b} {c = c} {bs = bs} other apart later) opens =
    let not_closing : (b == 41 && after_star) ≡ false = opens_is after_star b opens in
    cond-false (b == 125 || (b == 41 && after_star)) _ _ (or_from _ _ (ne_eqb b 125 other) not_closing)
    ∙ comment_end_is (b == 42) (n + 1) rest later (λ is_star. apart ((Decides-eqb b 42).0 is_star)) ∙ ap Some
    (omega arith)
  where
    opens_is : (after_star : Bool) (b : ℕ) → (after_star ≡ true → b ≢ 41) → (b == 41 && after_star) ≡ false
    opens_is true b opens = and_left (b == 41) true (ne_eqb b 41 (opens refl))
    opens_is false b opens = and_right (b == 41) false refl

-- a comment's bytes after its opening, or after its opening and a star
abbrev pub Goes : Bool → Bytes → Type 0
Goes true c = IsComment (42 ∷ c)
Goes false c = IsComment c

-- the comment ends within m bytes, n of which have been read: the rest of it, and what follows
pub record Closes (after_star : Bool) (n m : ℕ) (bs : Bytes) : Type 0 where
  pub inner : Bytes
  pub rest : Bytes
  pub split : bs ≡ inner ++ rest
  pub goes : Goes after_star inner
  pub len : m ≡ n + length inner

some_is : (m n : ℕ) → Some n ≡ Some m → m ≡ n
some_is m n e = cc

closing : (after_star : Bool) (b : ℕ) → (b == 125 || (b == 41 && after_star)) ≡ true → Goes after_star (b ∷ [])
closing true b closes = elim (or_cases (b == 125) (b == 41 && true) closes) [
  | inl brace' ↦ subst (λ z. IsComment (42 ∷ z ∷ [])) (sym ((Decides-eqb b 125).0 brace'))
      (more (eqb-false 42 125 refl) (λ _. eqb-false 125 41 refl) brace)
  | inr paren ↦ subst (λ z. IsComment (42 ∷ z ∷ []))
      (sym ((Decides-eqb b 41).0 (and_parts (b == 41) true paren).0)) star
]
closing false b closes = elim (or_cases (b == 125) (b == 41 && false) closes) [
  | inl brace' ↦ subst (λ z. IsComment (z ∷ [])) (sym ((Decides-eqb b 125).0 brace')) brace
  | inr paren ↦ (let no = (and_parts (b == 41) false paren).1 in cc)
]

-- one more byte before a comment's bytes, which isn't a star
longer : {c : Bytes} (b : ℕ) → b ≢ 125 → b ≢ 42 → IsComment c → IsComment (b ∷ c)
longer b other no_star brace = more other (λ is_star. absurd (no_star is_star)) brace
longer b other no_star star = more other (λ is_star. absurd (no_star is_star)) star
longer b other no_star (more ne apart c) = more other (λ is_star. absurd (no_star is_star)) (more ne apart c)

-- a star before a comment's bytes that begin with no closing parenthesis
starred : {c : Bytes} (b : ℕ) → b ≢ 41 → IsComment (b ∷ c) → IsComment (42 ∷ b ∷ c)
starred b no_paren c = more (eqb-false 42 125 refl) (λ _. no_paren) c

going : (after_star : Bool) (b : ℕ) (c : Bytes) → (b == 125 || (b == 41 && after_star)) ≡ false → Goes (b == 42) c
    → Goes after_star (b ∷ c)
going after_star b c stays goes =
    let parts = or_parts (b == 125) (b == 41 && after_star) stays in
    let later : IsComment (b ∷ c) = elim (b == 42) as (λ v. (b == 42) ≡ v → Goes v c → IsComment (b ∷ c)) [
      | true ↦ λ is_star d. subst (λ z. IsComment (z ∷ c)) (sym ((Decides-eqb b 42).0 is_star)) d
      | false ↦ λ no_star d. longer b (eqb-false b 125 parts.0) (eqb-false b 42 no_star) d
    ] refl goes
    in
    elim after_star as (λ v. (b == 41 && v) ≡ false → Goes v (b ∷ c)) [
      | true ↦ λ no_paren. starred b (eqb-false b 41 (and_true_false (b == 41) no_paren)) later
      | false ↦ λ _. later
    ] parts.1
  where
    and_true_false : (x : Bool) → (x && true) ≡ false → x ≡ false
    and_true_false true h = h
    and_true_false false h = h

pub comment_end_sound : (after_star : Bool) (n m : ℕ) (bs : Bytes) → comment_end after_star n bs ≡ Some m
    → Closes after_star n m bs
comment_end_sound after_star n m [] e = cc
comment_end_sound after_star n m (b ∷ bs) e =
    elim (b == 125 || (b == 41 && after_star)) as
    (λ v. (b == 125 || (b == 41 && after_star)) ≡ v → cond v (Some (n + 1)) (comment_end (b == 42) (n + 1) bs)
    ≡ Some m → Closes after_star n m (b ∷ bs)) [
      | true ↦ λ closes found. record {
        inner = b ∷ [];
        rest = bs;
        split = refl;
        goes = closing after_star b closes;
        len = some_is m (n + 1) found;
      }
      | false ↦ λ stays found. (let c = comment_end_sound (b == 42) (n + 1) m bs found in
          record {
            inner = b ∷ c.inner;
            rest = c.rest;
            split = ap (λ z. b ∷ z) c.split;
            goes = going after_star b c.inner stays c.goes;
            len = omega (arith, c.len);
          })
    ] refl e
