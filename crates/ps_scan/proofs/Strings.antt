-- Strings: how far one reaches.
use Rattle.std.proofs.Common.{◌≡◌, ℕ, ◌+◌, ◌≤◌, ◌⊎◌, inl, inr, Bool, true, false, cond, ◌==◌, ◌||◌, [], ◌∷◌, ◌++◌}
use Rattle.std.proofs.Common.{length, Some, None, refl, sym, ap, ◌∙◌, subst, arith, append_assoc}
use Rattle.std.proofs.lemmas.Bool.{ne_eqb, eqb-false, or_parts, or_cases}
use Rattle.std.proofs.lemmas.Bool.Decides.{Decides-eqb}
use Rattle.ps_scan.specs.Tables.{Bytes}
use Rattle.ps_scan.specs.Faults.{EndsLine, IsOpenString, unclosed}
use Rattle.ps_scan.specs.Lexemes.{IsInner, done, plain, quote}
use Rattle.ps_scan.specs.Scanner.{string_end}
use Rattle.ps_scan.proofs.Prefixes.{Stops}

abbrev pub is_quote : ℕ → Bool
is_quote b = b == 39

pub string_end_is : {inner : Bytes} (n : ℕ) (rest : Bytes) → IsInner inner → Stops is_quote rest
    → string_end false n (inner ++ 39 ∷ rest) ≡ Some (n + length inner + 1)
string_end_is n [] done stops = ap Some (omega arith)
string_end_is n (b ∷ bs) done stops = rw stops (ap Some (omega arith))
string_end_is n rest (plain {b = b} {bs = bs} other line return inner) stops =
    rw (ne_eqb b 39 other, ne_eqb b 10 line, ne_eqb b 13 return) (string_end_is (n + 1) rest inner stops
    ∙ ap Some (omega arith))
string_end_is n rest (quote {bs = bs} inner) stops = string_end_is (n + 1 + 1) rest inner stops ∙ ap Some (omega arith)

-- the string ends within m bytes, n of which have been read: the rest of it, its closing apostrophe and what follows
pub record Closes (n m : ℕ) (bs : Bytes) : Type 0 where
  pub inner : Bytes
  pub rest : Bytes
  pub split : bs ≡ inner ++ 39 ∷ rest
  pub is_inner : IsInner inner
  pub len : m ≡ n + length inner + 1
  pub stops : Stops is_quote rest

-- after a pending apostrophe the string ends at once, or another apostrophe comes
pub data Pends (n m : ℕ) : Bytes → Type 0 where
  ends : {bs : Bytes} → m ≡ n → Stops is_quote bs → Pends n m bs
  goes_on : {bs : Bytes} → Closes (n + 1) m bs → Pends n m (39 ∷ bs)

abbrev Ends : Bool → ℕ → ℕ → Bytes → Type 0
Ends true n m bs = Pends n m bs
Ends false n m bs = Closes n m bs

close : (n m : ℕ) (bs : Bytes) → Pends (n + 1) m bs → Closes n m (39 ∷ bs)
close n m bs (ends at stops) =
    record { inner = []; rest = bs; split = refl; is_inner = done; len = omega arith; stops = stops }
close n m _ (goes_on {bs = bs} c) =
    record {
      inner = 39 ∷ 39 ∷ c.inner;
      rest = c.rest;
      split = ap (λ z. 39 ∷ 39 ∷ z) c.split;
      is_inner = quote c.is_inner;
      len = omega (arith, c.len);
      stops = c.stops;
    }

some_is : (m n : ℕ) → Some n ≡ Some m → m ≡ n
some_is m n e = cc

ends_within : (flag : Bool) (n m : ℕ) (bs : Bytes) → string_end flag n bs ≡ Some m → Ends flag n m bs
ends_within true n m [] e = ends (some_is m n e) tt
ends_within false n m [] e = cc
ends_within true n m (b ∷ bs) e =
    elim (b == 39) as (λ v. (b == 39) ≡ v → cond v (string_end false (n + 1) bs) (Some n) ≡ Some m →
    Pends n m (b ∷ bs)) [
      | true ↦ λ same found. subst (λ z. Pends n m (z ∷ bs)) (sym ((Decides-eqb b 39).0 same))
          (goes_on (ends_within false (n + 1) m bs found))
      | false ↦ λ other found. ends (some_is m n found) other
    ] refl e
ends_within false n m (b ∷ bs) e =
    elim (b == 39) as (λ v. (b == 39) ≡ v → cond v (string_end true (n + 1) bs)
    (cond (b == 10 || b == 13) None (string_end false (n + 1) bs)) ≡ Some m → Closes n m (b ∷ bs)) [
      | true ↦ λ same found. subst (λ z. Closes n m (z ∷ bs)) (sym ((Decides-eqb b 39).0 same))
          (close n m bs (ends_within true (n + 1) m bs found))
      | false ↦ λ other found. elim (b == 10 || b == 13) as
          (λ v. (b == 10 || b == 13) ≡ v → cond v None (string_end false (n + 1) bs) ≡ Some m → Closes n m (b ∷ bs)) [
            | true ↦ λ _ nothing. cc
            | false ↦ λ line later.
                (let c = ends_within false (n + 1) m bs later in
                let parts = or_parts (b == 10) (b == 13) line in
                record {
                  inner = b ∷ c.inner;
                  rest = c.rest;
                  split = ap (λ z. b ∷ z) c.split;
                  is_inner = plain (eqb-false b 39 other) (eqb-false b 10 parts.0) (eqb-false b 13 parts.1) c.is_inner;
                  len = omega (arith, c.len);
                  stops = c.stops;
                })
          ] refl found
    ] refl e

pub string_end_sound : (n m : ℕ) (bs : Bytes) → string_end false n bs ≡ Some m → Closes n m bs
string_end_sound n m bs e = ends_within false n m bs e

-- what closes before no apostrophe reaches as far as any other that closes
pub inner_longest : {a b : Bytes} (r s : Bytes) → IsInner a → IsInner b → a ++ 39 ∷ r ≡ b ++ 39 ∷ s → Stops is_quote r
    → length b ≤ length a
inner_longest r s a done e stops = omega arith
inner_longest r s done (plain {b = b} other line return inner) e stops = absurd (other (cc))
inner_longest [] s done (quote inner) e stops = absurd (cc)
inner_longest (c ∷ r) s done (quote inner) e stops = let same : c ≡ 39 = cc in absurd (eqb-false c 39 stops same)
inner_longest r s (plain {bs = xs} other line return inner) (plain {bs = ys} other' line' return' inner') e stops =
    omega (arith, inner_longest r s inner inner' (cc) stops)
inner_longest r s (plain other line return inner) (quote inner') e stops = absurd (other (cc))
inner_longest r s (quote inner) (plain other' line' return' inner') e stops = absurd (other' (cc))
inner_longest r s (quote inner) (quote inner') e stops = omega (arith, inner_longest r s inner inner' (cc) stops)

-- two strings with nothing between them are one string
pub inner_joins : {a b : Bytes} → IsInner a → IsInner b → IsInner (a ++ 39 ∷ 39 ∷ b)
inner_joins done b = quote b
inner_joins (plain other line return a) b = plain other line return (inner_joins a b)
inner_joins (quote a) b = quote (inner_joins a b)

-- ---- strings that are open

-- inner bytes of a string, and then the end of its line
record Opens (bs : Bytes) : Type 0 where
  inner : Bytes
  rest : Bytes
  split : bs ≡ inner ++ rest
  is_inner : IsInner inner
  ends : EndsLine rest

abbrev Opened : Bool → Bytes → Type 0
Opened true bs = Opens (39 ∷ bs)
Opened false bs = Opens bs

opened : (flag : Bool) (n : ℕ) (bs : Bytes) → string_end flag n bs ≡ None → Opened flag bs
opened true n [] e = cc
opened false n [] e = record { inner = []; rest = []; split = refl; is_inner = done; ends = tt }
opened true n (b ∷ bs) e =
    elim (b == 39) as
    (λ v. (b == 39) ≡ v → cond v (string_end false (n + 1) bs) (Some n) ≡ None → Opens (39 ∷ b ∷ bs)) [
      | true ↦ λ same none. (let o = opened false (n + 1) bs none in
          subst (λ z. Opens (39 ∷ z ∷ bs)) (sym ((Decides-eqb b 39).0 same)) (record {
            inner = 39 ∷ 39 ∷ o.inner;
            rest = o.rest;
            split = ap (λ z. 39 ∷ 39 ∷ z) o.split;
            is_inner = quote o.is_inner;
            ends = o.ends;
          }))
      | false ↦ λ _ some. cc
    ] refl e
opened false n (b ∷ bs) e =
    elim (b == 39) as (λ v. (b == 39) ≡ v
    → cond v (string_end true (n + 1) bs) (cond (b == 10 || b == 13) None (string_end false (n + 1) bs)) ≡ None
    → Opens (b ∷ bs)) [
      | true ↦ λ same none. subst (λ z. Opens (z ∷ bs)) (sym ((Decides-eqb b 39).0 same)) (opened true (n + 1) bs none)
      | false ↦ λ other none. elim (b == 10 || b == 13) as (λ v. (b == 10 || b == 13) ≡ v
          → cond v None (string_end false (n + 1) bs) ≡ None → Opens (b ∷ bs)) [
            | true ↦ λ line _. record {
              inner = [];
              rest = b ∷ bs;
              split = refl;
              is_inner = done;
              ends = line_end b line;
            }
            | false ↦ λ line later.
                (let o = opened false (n + 1) bs later in
                let parts = or_parts (b == 10) (b == 13) line in
                record {
                  inner = b ∷ o.inner;
                  rest = o.rest;
                  split = ap (λ z. b ∷ z) o.split;
                  is_inner = plain (eqb-false b 39 other) (eqb-false b 10 parts.0) (eqb-false b 13 parts.1) o.is_inner;
                  ends = o.ends;
                })
          ] refl none
    ] refl e
  where
    line_end : (b : ℕ) → (b == 10 || b == 13) ≡ true → (b ≡ 10) ⊎ (b ≡ 13)
    line_end b h =
        elim (or_cases (b == 10) (b == 13) h) [
          | inl line ↦ inl ((Decides-eqb b 10).0 line)
          | inr return ↦ inr
              ((Decides-eqb b 13).0 return)
        ]

-- what continues after an apostrophe and inner bytes, and has no end, is open
pub string_opens : (n : ℕ) (before bs : Bytes) → IsInner before → string_end false n bs ≡ None
    → IsOpenString (39 ∷ (before ++ 39 ∷ 39 ∷ bs))
string_opens n before bs i e =
    let o = opened false n bs e in
    let split : (before ++ 39 ∷ 39 ∷ o.inner) ++ o.rest ≡ before ++ 39 ∷ 39 ∷ bs =
    append_assoc before (39 ∷ 39 ∷ o.inner) o.rest ∙ ap (λ z. before ++ 39 ∷ 39 ∷ z) (sym o.split) in
    let whole = unclosed (before ++ 39 ∷ 39 ∷ o.inner) o.rest (inner_joins i o.is_inner) o.ends in
    subst (λ z. IsOpenString (39 ∷ z)) split whole

pub open_at_once : (n : ℕ) (bs : Bytes) → string_end false n bs ≡ None → IsOpenString (39 ∷ bs)
open_at_once n bs e =
    let o = opened false n bs e in
    subst (λ z. IsOpenString (39 ∷ z)) (sym o.split) (unclosed o.inner o.rest o.is_inner o.ends)

line_stops : (n b : ℕ) (bs : Bytes) → (b ≡ 10) ⊎ (b ≡ 13) → string_end false n (b ∷ bs) ≡ None
line_stops n b bs (inl line) = subst (λ z. string_end false n (z ∷ bs) ≡ None) (sym line) refl
line_stops n b bs (inr return) = subst (λ z. string_end false n (z ∷ bs) ≡ None) (sym return) refl

no_end : {inner : Bytes} (n : ℕ) (rest : Bytes) → IsInner inner → EndsLine rest
    → string_end false n (inner ++ rest) ≡ None
no_end n [] done line_ends = refl
no_end n (b ∷ bs) done line_ends = line_stops n b bs line_ends
no_end n rest (plain {b = b} other line return inner) line_ends =
    rw (ne_eqb b 39 other, ne_eqb b 10 line, ne_eqb b 13 return) (no_end (n + 1) rest inner line_ends)
no_end n rest (quote inner) line_ends = no_end (n + 1 + 1) rest inner line_ends

-- an open string has no end, and an apostrophe first
pub open_has_none : {w : Bytes} (n b : ℕ) (bs : Bytes) → w ≡ b ∷ bs → IsOpenString w
    → (b ≡ 39) × (string_end false n bs ≡ None)
open_has_none n b bs e (unclosed inner rest i line_ends) =
    let first : b ≡ 39 = cc in
    let same : inner ++ rest ≡ bs = cc in
    (first, subst (λ z. string_end false n z ≡ None) same (no_end n rest i line_ends))
