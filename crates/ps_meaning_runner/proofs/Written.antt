-- Texts that grow byte by byte.
use Rattle.std.proofs.Common.{◌≡◌, ℕ, zero, suc, ◌+◌, ◌-◌, ◌*◌, ◌^◌, ◌<◌, ◌≤◌, min, List, [], ◌∷◌, ◌++◌, length}
use Rattle.std.proofs.Common.{get_or, take, take_while, drop, true, false, replicate, refl, sym, ap, ◌∙◌, append_assoc}
use Rattle.std.proofs.Common.{add-one, arith}
use Rattle.std.proofs.lemmas.List.{take_more, take_all, length-drop, length-take}
use Rattle.std.specs.List.{prefix_len}
use Rattle.std.proofs.lemmas.List.Sums.{prefix_len-drop_yes, prefix_len-drop_no, prefix_len-drop_all}
use Rattle.std.proofs.lemmas.List.Sums.{prefix_len-le-length}
use Rattle.ps_meaning.specs.Text.{number_written, is_digit, is_empty}

written_more : (n : ℕ) (xs : List ℕ) (b : ℕ) → number_written n (xs ++ b ∷ []) ≡ 10 * number_written n xs + (b - 48)
written_more n [] b = refl
written_more n (x ∷ xs) b = written_more (10 * n + (x - 48)) xs b

capped : (n d : ℕ) → min (10 * min n (2 ^ 32) + d) (2 ^ 32) ≡ min (10 * n + d) (2 ^ 32)
capped n d = omega arith

pub written_next : (xs : List ℕ) (i sum : ℕ) → i < length xs → sum ≡ min (number_written 0 (take i xs)) (2 ^ 32) → min
    (10 * sum + (get_or xs i 0 - 48)) (2 ^ 32) ≡ min (number_written 0 (take (i + 1) xs)) (2 ^ 32)
written_next xs i sum lt is =
    ap (λ s. min (10 * s + (get_or xs i 0 - 48)) (2 ^ 32)) is ∙ capped (number_written 0 (take i xs))
    (get_or xs i 0 - 48) ∙ ap (λ n. min n (2 ^ 32))
    (sym (ap (number_written 0) (take_more xs i 0 lt) ∙ written_more 0 (take i xs) (get_or xs i 0)))

replicate_more : (n x : ℕ) → replicate (suc n) x ≡ replicate n x ++ x ∷ []
replicate_more zero x = refl
replicate_more (suc n) x = ap (λ l. x ∷ l) (replicate_more n x)

replicate_next : (n x : ℕ) → replicate (n + 1) x ≡ replicate n x ++ x ∷ []
replicate_next n x = ap (λ k. replicate k x) (add-one n) ∙ replicate_more n x

-- items that a loop adds, one after another
pub marks_next : (old now next : List ℕ) (n x : ℕ) → now ≡ old ++ replicate n x → next ≡ now ++ x ∷ [] → next ≡ old
    ++ replicate (n + 1) x
marks_next old now next n x is more = more ∙ ap (λ l. l ++ x ∷ []) is ∙ append_assoc old (replicate n x) (x ∷ [])
    ∙ ap (λ l. old ++ l) (sym (replicate_next n x))

pub spaces_next : (now next : List ℕ) (n x : ℕ) → now ≡ replicate n x → next ≡ now ++ x ∷ [] → next ≡ replicate
    (n + 1) x
spaces_next now next n x is more = more ∙ ap (λ l. l ++ x ∷ []) is ∙ sym (replicate_next n x)

prefix_within : (n : ℕ) (xs : List ℕ) → length (take n xs) ≤ length xs
prefix_within n xs = omega (arith, length-take n xs)

prefix_first : (n : ℕ) (xs : List ℕ) → take (length (take n xs)) xs ≡ take n xs
prefix_first zero xs = refl
prefix_first (suc n) [] = refl
prefix_first (suc n) (x ∷ xs) = ap (λ l. x ∷ l) (prefix_first n xs)

-- the digits that bytes begin with
pub digits_within : (bytes : List ℕ) → length (take_while is_digit bytes) ≤ length bytes
digits_within bytes = prefix_within (prefix_len is_digit bytes) bytes

pub digits_first : (bytes : List ℕ) → take (length (take_while is_digit bytes)) bytes ≡ take_while is_digit bytes
digits_first bytes = prefix_first (prefix_len is_digit bytes) bytes

pub whole_rest : (bytes : List ℕ) (n : ℕ) → take (length bytes - n) (drop n bytes) ≡ drop n bytes
whole_rest bytes n = take_all (length bytes - n) (drop n bytes) (omega (arith, length-drop n bytes))

pub no_bytes : (bytes : List ℕ) → length bytes ≡ 0 → is_empty bytes ≡ true
no_bytes [] e = refl
no_bytes (b ∷ rest) e = absurd (omega arith)

pub some_bytes : (bytes : List ℕ) → 1 ≤ length bytes → is_empty bytes ≡ false
some_bytes [] e = absurd (omega arith)
some_bytes (b ∷ rest) e = refl

-- how many digits bytes begin with, from a place on
pub digit_more : (bytes : List ℕ) (i : ℕ) → i < length bytes → is_digit (get_or bytes i 0) ≡ true → prefix_len is_digit
    (drop i bytes) ≡ 1 + prefix_len is_digit (drop (i + 1) bytes)
digit_more bytes i lt is = prefix_len-drop_yes is_digit bytes i 0 lt is

pub digit_none : (bytes : List ℕ) (i : ℕ) → i < length bytes → is_digit (get_or bytes i 0) ≡ false → prefix_len is_digit
    (drop i bytes) ≡ 0
digit_none bytes i lt is = prefix_len-drop_no is_digit bytes i 0 lt is

pub digits_past : (bytes : List ℕ) (i : ℕ) → length bytes ≤ i → prefix_len is_digit (drop i bytes) ≡ 0
digits_past bytes i le = prefix_len-drop_all is_digit bytes i le

pub digits_counted : (bytes : List ℕ) → length (take_while is_digit bytes) ≡ prefix_len is_digit bytes
digits_counted bytes = omega (arith, length-take (prefix_len is_digit bytes) bytes, prefix_len-le-length is_digit bytes)
