-- Words at the front of bytes.
use Rattle.std.proofs.Common.{◌≡◌, ◌≢◌, ℕ, Bool, true, [], ◌∷◌, ◌++◌, length, take, drop, refl, sym, ap, ◌∙◌, subst}
use Rattle.std.proofs.Common.{arith, append_assoc, length-append, take-append-drop}
use Rattle.std.proofs.lemmas.Bool.{and_from, and_parts, false_from_ne_true}
use Rattle.std.proofs.lemmas.Bool.Decides.{nat_tests}
use Rattle.std.proofs.lemmas.List.{take_at}
use Rattle.std.specs.Char.{is_ascii_alphabetic, is_ascii_alphanumeric}
use Rattle.std.specs.List.{list_all, prefix_len}
use Rattle.ps_scan.specs.Lexemes.{IsWord, word, of_word}
use Rattle.ps_scan.specs.Lexis.{IsLongest, IsJoined}
use Rattle.ps_scan.specs.Scanner as s
use Rattle.ps_scan.specs.Scanner.{front, word_len, digits_len, separator_of, token_of, string_end, comment_end}
use Rattle.ps_scan.specs.Tables.{Bytes, word_kind}
use Rattle.ps_scan.proofs.FirstBytes.{begins, word_at}
use Rattle.ps_scan.proofs.Fronts.{Front, stands, no_comment_at, no_string_at}
use Rattle.ps_scan.proofs.Prefixes.{Stops, prefix_is, prefix_passes, prefix_stops, prefix_longest}

letter_alnum : (b : ℕ) → is_ascii_alphabetic b ≡ true → is_ascii_alphanumeric b ≡ true
letter_alnum b h = grind (arith, nat_tests)

all_more : (p : ℕ → Bool) (bs : Bytes) (b : ℕ) → list_all p bs ≡ true → p b ≡ true → list_all p (bs ++ b ∷ []) ≡ true
all_more p [] b all passes = and_from _ _ passes refl
all_more p (c ∷ cs) b all passes =
    let parts = and_parts (p c) (list_all p cs) all in and_from _ _ parts.0 (all_more p cs b parts.1 passes)

word_passes : (u : Bytes) → IsWord u → list_all is_ascii_alphanumeric u ≡ true
word_passes [] w = absurd w
word_passes (b ∷ bs) w = and_from _ _ (letter_alnum b w.0) w.1

pub stops_joined : (rest : Bytes) → Stops is_ascii_alphanumeric rest → IsJoined rest → ⊥
stops_joined [] stops joined = joined
stops_joined (b ∷ bs) stops joined = cc

letter_no_paren : (b : ℕ) → is_ascii_alphabetic b ≡ true → b ≢ 40
letter_no_paren b letter same = grind (arith, nat_tests)

letter_no_quote : (b : ℕ) → is_ascii_alphabetic b ≡ true → b ≢ 39
letter_no_quote b letter same = grind (arith, nat_tests)

pub word_front : (b : ℕ) (w rest : Bytes) → is_ascii_alphabetic b ≡ true → list_all is_ascii_alphanumeric w ≡ true
    → Stops is_ascii_alphanumeric rest
    → IsLongest (b ∷ w) rest
word_front b w rest letter passes stops = record {
  fits = word (letter, passes);
  longest = λ u v e is_lexeme.
      (let is_word = word_at u b letter (begins u v b (w ++ rest) (sym e) is_lexeme) in
      let reach = prefix_longest is_ascii_alphanumeric u v (word_passes u is_word) in
      let whole = prefix_is is_ascii_alphanumeric (b ∷ w) rest (and_from _ _ (letter_alnum b letter) passes) stops in
      let same = ap (prefix_len is_ascii_alphanumeric) e in
      omega (arith, reach, whole, same));
  no_comment = no_comment_at b (w ++ rest) (letter_no_paren b letter);
}

pub word_is : (b : ℕ) (w rest : Bytes) → is_ascii_alphabetic b ≡ true → list_all is_ascii_alphanumeric w ≡ true
    → Stops is_ascii_alphanumeric rest
    → s.word (b ∷ (w ++ rest)) ≡ token_of (length (b ∷ w)) (word_kind (b ∷ w))
unfolding s.word
word_is b w rest letter passes stops =
    ap (λ n. token_of n (word_kind (take n (b ∷ (w ++ rest)))))
    (prefix_is is_ascii_alphanumeric (b ∷ w) rest (and_from _ _ (letter_alnum b letter) passes) stops)
    ∙ ap (λ z. token_of (length (b ∷ w)) (word_kind z)) (take_at (b ∷ w) rest (length (b ∷ w)) refl)

pub word_sound : (b : ℕ) (bs : Bytes) → is_ascii_alphabetic b ≡ true → Front (b ∷ bs) (s.word (b ∷ bs))
word_sound b bs letter =
    let w = take (word_len bs) bs in
    let rest = drop (word_len bs) bs in
    let passes = prefix_passes is_ascii_alphanumeric bs in
    let stops = prefix_stops is_ascii_alphanumeric bs in
    let closed = no_string_at b (w ++ rest) (letter_no_quote b letter) in
    let front = word_front b w rest letter passes stops in
    let here = stands (b ∷ w) rest front (of_word (letter, passes) refl) (λ _. stops_joined rest stops) closed in
    subst (λ z. Front (b ∷ z) (s.word (b ∷ z))) (take-append-drop (word_len bs) bs)
    (subst (λ l. Front (b ∷ (w ++ rest)) l) (sym (word_is b w rest letter passes stops)) here)

-- what touches no letter and no digit
pub stops_not_joined : (rest : Bytes) → (IsJoined rest → ⊥) → Stops is_ascii_alphanumeric rest
stops_not_joined [] apart = tt
stops_not_joined (b ∷ bs) apart = false_from_ne_true (is_ascii_alphanumeric b) apart

-- a longest word takes all letters and digits that come
pub word_len_is : (w rest : Bytes) → IsWord w → IsLongest w rest → word_len (w ++ rest) ≡ length w
word_len_is w rest is_word longest =
    prefix_is is_ascii_alphanumeric w rest (word_passes w is_word) (stops_there rest longest)
  where
    longer : (w : Bytes) (b : ℕ) → IsWord w → is_ascii_alphanumeric b ≡ true → IsWord (w ++ b ∷ [])
    longer [] b is_word alnum = absurd is_word
    longer (c ∷ cs) b is_word alnum = (is_word.0, all_more is_ascii_alphanumeric cs b is_word.1 alnum)

    stops_there : (rest : Bytes) → IsLongest w rest → Stops is_ascii_alphanumeric rest
    stops_there [] longest = tt
    stops_there (b ∷ bs) longest = false_from_ne_true (is_ascii_alphanumeric b) (λ alnum.
        (let split = sym (append_assoc w (b ∷ []) bs) in
        let least = longest.longest (w ++ b ∷ []) bs split (word (longer w b is_word alnum)) in
        absurd (omega (arith, least, length-append w (b ∷ [])))))
