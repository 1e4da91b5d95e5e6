-- The characters of a constant in the text are bytes, and no more than the text has.
use Rattle.std.proofs.Common.{ℕ, zero, suc, ◌-◌, ◌<◌, ◌≤◌, ◌==◌, Bool, true, false, ◌&&◌, nat_le, if◌then◌else◌, List}
use Rattle.std.proofs.Common.{[], ◌∷◌, length, take, drop, slice_range, arith}
use Rattle.ps_text.specs.declared.Span.{Span}
use Rattle.ps_text.specs.declared.TheConstants.{MAX_LENGTH}
use Rattle.ps_scan.specs.Values.{characters, characters_after}
use Rattle.ps_check_names.specs.Spelling.{bytes_at}
use Rattle.ps_lower_accepted.proofs.Lists.{Each}
use Rattle.ps_lower_accepted.proofs.Standing.{IsText}

-- ---- bytes of the text

each_drop : {A : Type 0} (P : A → Type 0) (n : ℕ) (xs : List A) → Each P xs → Each P (drop n xs)
each_drop P zero xs h = h
each_drop P (suc n) [] h = tt
each_drop P (suc n) (x ∷ xs) h = each_drop P n xs h.1

each_take : {A : Type 0} (P : A → Type 0) (n : ℕ) (xs : List A) → Each P xs → Each P (take n xs)
each_take P zero xs h = tt
each_take P (suc n) [] h = tt
each_take P (suc n) (x ∷ xs) h = (h.0, each_take P n xs h.1)

drop_short : {A : Type 0} (n : ℕ) (xs : List A) → length (drop n xs) ≤ length xs
drop_short zero xs = omega arith
drop_short (suc n) [] = omega arith
drop_short (suc n) (x ∷ xs) = let h = drop_short n xs in omega (arith, h)

take_short : {A : Type 0} (n : ℕ) (xs : List A) → length (take n xs) ≤ length xs
take_short zero xs = omega arith
take_short (suc n) [] = omega arith
take_short (suc n) (x ∷ xs) = let h = take_short n xs in omega (arith, h)

characters_bytes : (twin : Bool) (w : List ℕ) → Each (λ b. b < 256) w → Each (λ b. b < 256) (characters_after twin w)
characters_bytes twin [] h = tt
characters_bytes true (b ∷ bs) h = characters_bytes false bs h.1
characters_bytes false (b ∷ bs) h = (h.0, characters_bytes (b == 39) bs h.1)

characters_short : (twin : Bool) (w : List ℕ) → length (characters_after twin w) ≤ length w
characters_short twin [] = omega arith
characters_short true (b ∷ bs) = let h = characters_short false bs in omega (arith, h)
characters_short false (b ∷ bs) = let h = characters_short (b == 39) bs in omega (arith, h)

-- a part of a list of bytes
record PartOf (text w : List ℕ) : Type 0 where
  bytes : Each (λ b. b < 256) w
  short : length w ≤ length text

slice_there : (text : List ℕ) (from to : ℕ) → Each (λ b. b < 256) text → PartOf text (slice_range text from to)
slice_there text from to h = record {
  bytes = each_take (λ b. b < 256) (to - from) (drop from text) (each_drop (λ b. b < 256) from text h);
  short = let a = take_short (to - from) (drop from text) in let b = drop_short from text in omega (arith, a, b);
}

bytes_there : (text : List ℕ) (at : Span) → Each (λ b. b < 256) text → PartOf text (bytes_at text at)
bytes_there text at h = go (nat_le at.from at.to && nat_le at.to (length text))
  where
    go : (b : Bool) → PartOf text (if b then slice_range text at.from at.to else [])
    go true = slice_there text at.from at.to h
    go false = record { bytes = tt; short = omega arith }

pub within_text : (text : List ℕ) (at : Span) → Each (λ b. b < 256) text → length text ≤ MAX_LENGTH → IsText
    (characters (bytes_at text at))
unfolding characters
within_text text at h l =
    let w = bytes_at text at in
    let a = bytes_there text at h in
    let b = slice_there w 1 (length w - 1) a.bytes in
    record {
      bytes = characters_bytes false (slice_range w 1 (length w - 1)) b.bytes;
      short = let c = characters_short false (slice_range w 1 (length w - 1)) in let d = a.short in let e = b.short
          in omega (arith, c, d, e, l);
    }
