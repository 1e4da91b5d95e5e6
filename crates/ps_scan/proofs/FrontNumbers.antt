-- Numbers and real literals at the front of bytes.
use Rattle.std.proofs.Common.{◌≡◌, ◌≢◌, ℕ, ◌+◌, ◌<◌, ◌≤◌, inl, inr, true, false, cond, [], ◌∷◌, ◌++◌, length, take}
use Rattle.std.proofs.Common.{drop, Ok, slice_index, refl, sym, ap, ◌∙◌, subst, arith, append_assoc, length-append}
use Rattle.std.proofs.Common.{take-append-drop}
use Rattle.std.proofs.lemmas.Bool.{and_from, false_from_ne_true}
use Rattle.std.proofs.lemmas.Bool.Decides.{nat_tests}
use Rattle.std.proofs.lemmas.List.{take_at, drop_at}
use Rattle.std.specs.Char.{is_ascii_alphabetic, is_ascii_alphanumeric, is_ascii_digit}
use Rattle.std.specs.List.{prefix_len}
use Rattle.std.specs.Prelude.{nat_lt}
use Rattle.ps_scan.specs.declared.TheConstants.{MAX_NUMBER}
use Rattle.ps_scan.specs.declared.refusal.ScanFault.TheVariants as fault
use Rattle.ps_scan.specs.declared.token.Kind.TheVariants as k
use Rattle.ps_scan.specs.Faults.{IsFault, touching, too_large, real_literal}
use Rattle.ps_scan.specs.Lexemes.{IsWord, IsDigits, IsReal, IsLexeme, digits, real, of_number, digits_value}
use Rattle.ps_scan.specs.Lexis.{IsLongest, IsJoined}
use Rattle.ps_scan.specs.Scanner as s
use Rattle.ps_scan.specs.Scanner.{Finding, fault_of, word_len, digits_len, token_of}
use Rattle.ps_scan.specs.Tables.{Bytes}
use Rattle.ps_scan.proofs.FirstBytes.{begins, number_at}
use Rattle.ps_scan.proofs.Fronts.{IsFound, stands, no_comment_at, no_string_at, either}
use Rattle.ps_scan.proofs.FrontWords.{stops_not_joined, word_front, word_len_is}
use Rattle.ps_scan.proofs.Prefixes.{Stops, prefix_is, prefix_passes, prefix_stops, prefix_longest}
use Rattle.ps_scan.proofs.Reals.{digits_pass, digits_first, real_parts, number_len, number_len_is, real_reaches}
use Rattle.ps_scan.proofs.Reals.{real_is}

-- what is found for the digits w, which rest follows
abbrev number_by : Bytes → Bytes → Finding
number_by w rest =
    cond (nat_lt 0 (s.real_len rest)) (fault_of fault.RealNumber 0 (length w + s.real_len rest))
    (cond (is_ascii_alphabetic (slice_index rest 0)) (fault_of fault.SeparatorMissing (length w) (word_len rest))
    (cond (nat_lt MAX_NUMBER (digits_value w)) (fault_of fault.NumberTooLarge 0 (length w))
    (Ok (token_of (length w) k.Number))))

number_is : (w rest : Bytes) → IsDigits w → Stops is_ascii_digit rest → s.number (w ++ rest) ≡ number_by w rest
unfolding s.number
number_is w rest d stops =
    rw (
      prefix_is is_ascii_digit w rest (digits_pass w d) stops,
      take_at w rest (length w) refl,
      drop_at w rest
          (length w) refl,
    ) refl

digit_no_paren : (b : ℕ) → is_ascii_digit b ≡ true → b ≢ 40
digit_no_paren b digit same = grind (arith, nat_tests)

digit_no_quote : (b : ℕ) → is_ascii_digit b ≡ true → b ≢ 39
digit_no_quote b digit same = grind (arith, nat_tests)

some_is : (n : ℕ) → nat_lt 0 n ≡ true → 0 < n
some_is n h = grind (arith, nat_tests)

none_is : (n : ℕ) → nat_lt 0 n ≡ false → n ≡ 0
none_is n h = grind (arith, nat_tests)

-- where a number begins, no lexeme extends past its digits and what is found after them
numbers_reach : (b : ℕ) (w rest : Bytes) → IsDigits (b ∷ w) → Stops is_ascii_digit rest → (u v : Bytes)
    → b ∷ (w ++ rest) ≡ u ++ v → IsLexeme u
    → length u ≤ length (b ∷ w) + s.real_len rest
numbers_reach b w rest d stops u v e is_lexeme =
    elim (number_at u b (digits_first b w d) (begins u v b (w ++ rest) (sym e) is_lexeme)) [
      | inl d' ↦ (let reach = prefix_longest is_ascii_digit u v (digits_pass u d') in
          let whole = prefix_is is_ascii_digit (b ∷ w) rest d stops in
          let same = ap (prefix_len is_ascii_digit) e in
          omega (arith, reach, whole, same))
      | inr r ↦ subst (λ n. length u ≤ n) (number_len_is (b ∷ w) rest d stops)
          (subst (λ z. length u ≤ number_len z) (sym e) (real_reaches u v r))
    ]

number_front : (b : ℕ) (w rest : Bytes) → IsDigits (b ∷ w) → Stops is_ascii_digit rest → s.real_len rest ≡ 0
    → IsLongest (b ∷ w) rest
number_front b w rest d stops no_real = record {
  fits = digits d;
  longest = λ u v e is_lexeme. omega (arith, numbers_reach b w rest d stops u v e is_lexeme, no_real);
  no_comment = no_comment_at b (w ++ rest) (digit_no_paren b (digits_first b w d));
}

-- digits that no digit and no letter follows don't touch what follows
apart : (rest : Bytes) → Stops is_ascii_digit rest → is_ascii_alphabetic (slice_index rest 0) ≡ false → IsJoined rest
    → ⊥
apart [] stops letter joined = joined
apart (b ∷ bs) stops letter joined = absurd (neither b stops letter joined)
  where
    neither : (b : ℕ) → is_ascii_digit b ≡ false → is_ascii_alphabetic b ≡ false → is_ascii_alphanumeric b ≡ true → ⊥
    neither b stops letter joined = grind (arith, nat_tests)

-- ---- sound
real_found : (b : ℕ) (w rest : Bytes) → IsDigits (b ∷ w) → Stops is_ascii_digit rest → 0 < s.real_len rest
    → IsFault (b ∷ (w ++ rest)) fault.RealNumber 0 (length (b ∷ w) + s.real_len rest)
real_found b w rest d stops some =
    let r = real_is (b ∷ w) rest d some in
    let whole : ((b ∷ w) ++ r.tail) ++ r.after ≡ b ∷ (w ++ rest) = append_assoc (b ∷ w) r.tail r.after
    ∙ ap (λ z. (b ∷ w) ++ z) (sym r.split) in
    let len : length ((b ∷ w) ++ r.tail) ≡ length (b ∷ w) + s.real_len rest =
    omega (arith, length-append (b ∷ w) r.tail, r.len) in
    let longest : IsLongest ((b ∷ w) ++ r.tail) r.after = record {
      fits = real r.is_real;
      longest = λ u v e is_lexeme. omega (arith, numbers_reach b w rest d stops u v (sym whole ∙ e) is_lexeme, len);
      no_comment = no_comment_at b ((w ++ r.tail) ++ r.after) (digit_no_paren b (digits_first b w d));
    } in
    subst (λ z. IsFault z fault.RealNumber 0 (length (b ∷ w) + s.real_len rest)) whole
    (subst (λ n. IsFault (((b ∷ w) ++ r.tail) ++ r.after) fault.RealNumber 0 n) len
    (real_literal ((b ∷ w) ++ r.tail) r.after longest r.is_real))

touch_found : (b : ℕ) (w rest : Bytes) → IsDigits (b ∷ w) → Stops is_ascii_digit rest → s.real_len rest ≡ 0
    → is_ascii_alphabetic (slice_index rest 0) ≡ true
    → IsFault (b ∷ (w ++ rest)) fault.SeparatorMissing (length (b ∷ w)) (word_len rest)
touch_found b w [] d stops no_real letter = cc
touch_found b w (c ∷ cs) d stops no_real letter =
    let v = take (word_len cs) cs in
    let rest = drop (word_len cs) cs in
    let passes = prefix_passes is_ascii_alphanumeric cs in
    let ends = prefix_stops is_ascii_alphanumeric cs in
    let split : (c ∷ v) ++ rest ≡ c ∷ cs = ap (λ z. c ∷ z) (take-append-drop (word_len cs) cs) in
    let word = word_front c v rest letter passes ends in
    let len : length (c ∷ v) ≡ word_len (c ∷ cs) = sym (word_len_is (c ∷ v) rest (letter, passes) word)
    ∙ ap word_len split in
    let front : IsLongest (b ∷ w) ((c ∷ v) ++ rest) =
    subst (λ z. IsLongest (b ∷ w) z) (sym split) (number_front b w (c ∷ cs) d stops no_real) in
    subst (λ z. IsFault (b ∷ (w ++ z)) fault.SeparatorMissing (length (b ∷ w)) (word_len (c ∷ cs))) split
    (subst (λ n. IsFault ((b ∷ w) ++ ((c ∷ v) ++ rest)) fault.SeparatorMissing (length (b ∷ w)) n) len
    (touching (b ∷ w) (c ∷ v) rest front d word (letter, passes)))

front_of_number : (b : ℕ) (w rest : Bytes) → IsDigits (b ∷ w) → Stops is_ascii_digit rest
    → IsFound (b ∷ (w ++ rest)) (number_by (b ∷ w) rest)
front_of_number b w rest d stops =
    either (IsFound (b ∷ (w ++ rest))) (nat_lt 0 (s.real_len rest)) _ _
    (λ some. real_found b w rest d stops (some_is _ some)) (λ none.
    (let front = number_front b w rest d stops (none_is _ none) in
    either (IsFound (b ∷ (w ++ rest))) (is_ascii_alphabetic (slice_index rest 0)) _ _
    (touch_found b w rest d stops (none_is _ none)) (λ letter.
    either (IsFound (b ∷ (w ++ rest))) (nat_lt MAX_NUMBER (digits_value (b ∷ w))) _ _
    (λ large. too_large (b ∷ w) rest front d (apart rest stops letter) (above _ _ large))
    (λ small. stands (b ∷ w) rest front (of_number d (not_above _ _ small)) (λ _. apart rest stops letter)
    (no_string_at b (w ++ rest) (digit_no_quote b (digits_first b w d)))))))
  where
    above : (m n : ℕ) → nat_lt m n ≡ true → m < n
    above m n h = grind (arith, nat_tests)

    not_above : (m n : ℕ) → nat_lt m n ≡ false → n ≤ m
    not_above m n h = grind (arith, nat_tests)

pub number_sound : (b : ℕ) (bs : Bytes) → is_ascii_digit b ≡ true → IsFound (b ∷ bs) (s.number (b ∷ bs))
number_sound b bs digit =
    let w = take (digits_len bs) bs in
    let rest = drop (digits_len bs) bs in
    let d : IsDigits (b ∷ w) = and_from _ _ digit (prefix_passes is_ascii_digit bs) in
    let stops = prefix_stops is_ascii_digit bs in
    let whole : b ∷ (w ++ rest) ≡ b ∷ bs = ap (λ z. b ∷ z) (take-append-drop (digits_len bs) bs) in
    let is = sym (number_is (b ∷ w) rest d stops) in
    subst (λ z. IsFound z (s.number z)) whole
    (subst (λ z. IsFound (b ∷ (w ++ rest)) z) is (front_of_number b w rest d stops))

-- ---- complete

-- no digit comes where neither a letter nor a digit does
digitless : (rest : Bytes) → Stops is_ascii_alphanumeric rest → Stops is_ascii_digit rest
digitless [] stops = tt
digitless (b ∷ bs) stops = grind (arith, nat_tests)

-- no real literal begins with digits that are the longest lexeme
no_real_behind : (w rest : Bytes) → IsDigits w → IsLongest w rest → nat_lt 0 (s.real_len rest) ≡ false
no_real_behind w rest d longest = false_from_ne_true _ (λ some.
    (let r = real_is w rest d (some_is _ some) in
    let least = longest.longest (w ++ r.tail) r.after (ap (λ z. w ++ z) r.split
    ∙ sym (append_assoc w r.tail r.after)) (real r.is_real) in
    let more = some_is _ some in
    absurd (omega (arith, least, length-append w r.tail, r.len, more))))

number_apart : (w rest : Bytes) → IsDigits w → IsLongest w rest → (IsJoined rest → ⊥)
    → s.number (w ++ rest)
    ≡ cond (nat_lt MAX_NUMBER (digits_value w)) (fault_of fault.NumberTooLarge 0 (length w))
    (Ok (token_of (length w) k.Number))
number_apart w rest d longest apart =
    let stops = stops_not_joined rest apart in
    number_is w rest d (digitless rest stops) ∙ rw (no_real_behind w rest d longest, letterless rest stops) refl
  where
    letterless : (rest : Bytes) → Stops is_ascii_alphanumeric rest → is_ascii_alphabetic (slice_index rest 0) ≡ false
    letterless [] stops = refl
    letterless (b ∷ bs) stops = grind (arith, nat_tests)

pub number_complete : (w rest : Bytes) → IsDigits w → digits_value w ≤ MAX_NUMBER → IsLongest w rest
    → (IsJoined rest → ⊥) → s.number (w ++ rest) ≡ Ok (token_of (length w) k.Number)
number_complete w rest d small longest apart = number_apart w rest d longest apart ∙ rw (not_more _ _ small) refl
  where
    not_more : (m n : ℕ) → n ≤ m → nat_lt m n ≡ false
    not_more m n h = grind (arith, nat_tests)

pub large_complete : (w rest : Bytes) → IsDigits w → MAX_NUMBER < digits_value w → IsLongest w rest
    → (IsJoined rest → ⊥) → s.number (w ++ rest) ≡ fault_of fault.NumberTooLarge 0 (length w)
large_complete w rest d large longest apart = number_apart w rest d longest apart ∙ rw (more _ _ large) refl
  where
    more : (m n : ℕ) → m < n → nat_lt m n ≡ true
    more m n h = grind (arith, nat_tests)

pub touch_complete : (w v rest : Bytes) → IsDigits w → IsLongest w (v ++ rest) → IsWord v → IsLongest v rest
    → s.number (w ++ (v ++ rest)) ≡ fault_of fault.SeparatorMissing (length w) (length v)
touch_complete w [] rest d longest is_word word = absurd is_word
touch_complete w (c ∷ cs) rest d longest is_word word =
    number_is w ((c ∷ cs) ++ rest) d (no_digit c is_word.0)
    ∙ rw (no_real_behind w ((c ∷ cs) ++ rest) d longest, is_word.0)
    (ap (λ n. fault_of fault.SeparatorMissing (length w) n) (word_len_is (c ∷ cs) rest is_word word))
  where
    no_digit : (c : ℕ) → is_ascii_alphabetic c ≡ true → is_ascii_digit c ≡ false
    no_digit c letter = grind (arith, nat_tests)

pub real_complete : (w rest : Bytes) → IsReal w → IsLongest w rest
    → s.number (w ++ rest) ≡ fault_of fault.RealNumber 0 (length w)
real_complete w rest is_real longest =
    let p = real_parts w rest is_real in
    let whole : w ++ rest ≡ p.before ++ (p.tail ++ rest) = ap (λ z. z ++ rest) p.split
    ∙ append_assoc p.before p.tail rest in
    let more : 0 < s.real_len (p.tail ++ rest) = omega (arith, p.some, p.reaches) in
    let r = real_is p.before (p.tail ++ rest) p.are_digits more in
    let split : w ++ rest ≡ (p.before ++ r.tail) ++ r.after = whole ∙ ap (λ z. p.before ++ z) r.split
    ∙ sym (append_assoc p.before r.tail r.after) in
    let least = longest.longest (p.before ++ r.tail) r.after split (real r.is_real) in
    let len : length p.before + s.real_len (p.tail ++ rest) ≡ length w =
    let parts = ap length p.split in
    omega (arith, least, length-append p.before r.tail, r.len, parts, length-append p.before p.tail, p.reaches) in
    ap s.number whole ∙ number_is p.before (p.tail ++ rest) p.are_digits p.stops
    ∙ rw (some_more _ more) (ap (λ n. fault_of fault.RealNumber 0 n) len)
  where
    some_more : (n : ℕ) → 0 < n → nat_lt 0 n ≡ true
    some_more n h = grind (arith, nat_tests)
