-- The scanner finds what is at the front of the bytes, and nothing else.
use Rattle.std.proofs.Common.{◌≡◌, ◌≢◌, ℕ, ◌<◌, ◌⊎◌, inl, inr, true, false, ◌==◌, ◌&&◌, List, [], ◌∷◌, ◌++◌, length}
use Rattle.std.proofs.Common.{Ok, slice_index, refl, sym, ap, ◌∙◌, subst, arith, length-append}
use Rattle.std.proofs.lemmas.Bool.{and_parts, and_from, false_from_ne_true}
use Rattle.std.proofs.lemmas.Bool.Decides.{Decides-eqb, nat_tests}
use Rattle.std.specs.Char.{is_ascii_alphabetic, is_ascii_digit}
use Rattle.ps_scan.specs.declared.refusal.ScanFault.{ScanFault}
use Rattle.ps_scan.specs.declared.refusal.ScanFault.TheVariants as fault
use Rattle.ps_scan.specs.declared.token.Kind.{Kind}
use Rattle.ps_scan.specs.declared.token.Token.{Token}
use Rattle.ps_scan.specs.Faults.{IsFault, begins_nothing, open_comment, brace_opens, star_opens, open_string}
use Rattle.ps_scan.specs.Faults.{empty_string, touching, too_large, real_literal, IsOpenString}
use Rattle.ps_scan.specs.Lexemes.{IsWord, IsDigits, IsReal, done, IsString, quoted, IsLexeme, word, digits, string}
use Rattle.ps_scan.specs.Lexemes.{symbol, IsOfKind, of_word, of_number, of_string, of_symbol}
use Rattle.ps_scan.specs.Lexis.{IsLongest, IsJoined, TokensFrom}
use Rattle.ps_scan.specs.Scanner as s
use Rattle.ps_scan.specs.Scanner.{front, fault_of, separator_of, token_of}
use Rattle.ps_scan.specs.Separators.{is_blank, brace, IsSeparator, blank, braced, starred}
use Rattle.ps_scan.specs.Tables.{Bytes}
use Rattle.ps_scan.proofs.FrontWords.{word_is, word_sound, stops_not_joined}
use Rattle.ps_scan.proofs.FrontNumbers.{number_sound, number_complete, large_complete, touch_complete, real_complete}
use Rattle.ps_scan.proofs.FrontStrings.{string_sound, Ends, string_ends, string_stops, string_complete, open_complete}
use Rattle.ps_scan.proofs.FrontStrings.{empty_complete}
use Rattle.ps_scan.proofs.FrontComments.{braced_sound, starred_sound, braced_complete, starred_complete, braced_open}
use Rattle.ps_scan.proofs.FrontComments.{starred_open}
use Rattle.ps_scan.proofs.FrontSymbols.{symbol_front_sound, symbol_complete}
use Rattle.ps_scan.proofs.Fronts.{IsFound, separates, either}
use Rattle.ps_scan.proofs.Reals.{digits_first, real_begins, real_parts}
use Rattle.ps_scan.proofs.Symbols.{is_other, symbol_first, symbol_short, symbol_none}

-- ---- sound
opening_sound : (b : ℕ) (bs : Bytes) → (b == 40 && slice_index bs 0 == 42) ≡ true
    → IsFound (b ∷ bs) (s.comment 2 (b ∷ bs))
opening_sound b [] both = let second = (and_parts (b == 40) false both).1 in cc
opening_sound b (c ∷ cs) both =
    let parts = and_parts (b == 40) (c == 42) both in
    let whole : 40 ∷ 42 ∷ cs ≡ b ∷ c ∷ cs = ap (λ z. z ∷ 42 ∷ cs) (sym ((Decides-eqb b 40).0 parts.0))
    ∙ ap (λ z. b ∷ z ∷ cs) (sym ((Decides-eqb c 42).0 parts.1)) in
    subst (λ z. IsFound z (s.comment 2 z)) whole (starred_sound cs)

-- what the scanner finds at the front is what the definition has there
pub front_sound : (b : ℕ) (bs : Bytes) → IsFound (b ∷ bs) (front (b ∷ bs))
unfolding front
front_sound b bs =
    either (IsFound (b ∷ bs)) (is_blank b) _ _ (λ is. separates (b ∷ []) bs (blank is)) (λ no_blank.
    either (IsFound (b ∷ bs)) (is_ascii_alphabetic b) _ _ (word_sound b bs) (λ no_letter.
    either (IsFound (b ∷ bs)) (is_ascii_digit b) _ _ (number_sound b bs) (λ no_digit.
    either (IsFound (b ∷ bs)) (b == 39) _ _
    (λ is. subst (λ z. IsFound (z ∷ bs) (s.string (z ∷ bs))) (sym ((Decides-eqb b 39).0 is)) (string_sound bs))
    (λ no_quote.
    either (IsFound (b ∷ bs)) (b == 123) _ _
    (λ is. subst (λ z. IsFound (z ∷ bs) (s.comment 1 (z ∷ bs))) (sym ((Decides-eqb b 123).0 is)) (braced_sound bs))
    (λ no_brace.
    either (IsFound (b ∷ bs)) (b == 40 && slice_index bs 0 == 42) _ _ (opening_sound b bs)
    (symbol_front_sound b bs (other_is b no_blank no_letter no_digit no_quote no_brace)))))))
  where
    other_is : (b : ℕ) → is_blank b ≡ false → is_ascii_alphabetic b ≡ false → is_ascii_digit b ≡ false
        → (b == 39) ≡ false → (b == 123) ≡ false → is_other b ≡ true
    other_is b no_blank no_letter no_digit no_quote no_brace = grind (arith, nat_tests)

-- ---- complete
pub front_blank : (b : ℕ) (bs : Bytes) → is_blank b ≡ true → front (b ∷ bs) ≡ Ok (separator_of 1)
unfolding front
front_blank b bs is = rw is refl

front_word : (b : ℕ) (bs : Bytes) → is_ascii_alphabetic b ≡ true → front (b ∷ bs) ≡ Ok (s.word (b ∷ bs))
unfolding front
front_word b bs letter = let no_blank : is_blank b ≡ false = grind (arith, nat_tests) in rw (no_blank, letter) refl

front_number : (b : ℕ) (bs : Bytes) → is_ascii_digit b ≡ true → front (b ∷ bs) ≡ s.number (b ∷ bs)
unfolding front
front_number b bs digit =
    let no_blank : is_blank b ≡ false = grind (arith, nat_tests) in
    let no_letter : is_ascii_alphabetic b ≡ false = grind (arith, nat_tests) in
    rw (no_blank, no_letter, digit) refl

front_other : (b : ℕ) (bs : Bytes) → is_other b ≡ true → (b == 40 && slice_index bs 0 == 42) ≡ false
    → front (b ∷ bs) ≡ s.symbol (b ∷ bs)
unfolding front
front_other b bs other none =
    let no_blank : is_blank b ≡ false = grind (arith, nat_tests) in
    let no_letter : is_ascii_alphabetic b ≡ false = grind (arith, nat_tests) in
    let no_digit : is_ascii_digit b ≡ false = grind (arith, nat_tests) in
    let no_quote : (b == 39) ≡ false = grind (arith, nat_tests) in
    let no_brace : (b == 123) ≡ false = grind (arith, nat_tests) in
    rw (no_blank, no_letter, no_digit, no_quote, no_brace, none) refl

pub separator_complete : (s rest : Bytes) → IsSeparator s → front (s ++ rest) ≡ Ok (separator_of (length s))
unfolding front
separator_complete s rest (blank {b = b} is) = front_blank b rest is
separator_complete s rest (braced {bs = bs} c) = braced_complete bs rest c
separator_complete s rest (starred {bs = bs} c) = starred_complete bs rest c

-- no comment opens at the place of a longest lexeme
unopened : (b : ℕ) (w rest : Bytes) → IsLongest (b ∷ w) rest → (b == 40 && slice_index (w ++ rest) 0 == 42) ≡ false
unopened b w rest longest = false_from_ne_true _ (λ both. opens (w ++ rest) refl both)
  where
    opens : (bs : Bytes) → w ++ rest ≡ bs → (b == 40 && slice_index bs 0 == 42) ≡ true → ⊥
    opens [] e both = let second = (and_parts (b == 40) false both).1 in cc
    opens (c ∷ cs) e both =
        let parts = and_parts (b == 40) (c == 42) both in
        longest.no_comment cs (ap (λ z. b ∷ z) e ∙ ap (λ z. z ∷ c ∷ cs) ((Decides-eqb b 40).0 parts.0)
        ∙ ap (λ z. 40 ∷ z ∷ cs) ((Decides-eqb c 42).0 parts.1))

front_string : (w rest : Bytes) → IsString w → front (w ++ rest) ≡ s.string (w ++ rest)
unfolding front
front_string w rest (quoted i) = refl

pub token_complete : {kind : Kind} (w rest : Bytes) → IsLongest w rest → IsOfKind w kind
    → (IsWord w ⊎ IsDigits w → IsJoined rest → ⊥) → Ends w rest
    → front (w ++ rest) ≡ Ok (token_of (length w) kind)
token_complete [] rest longest (of_word is_word _) apart ends = absurd is_word
token_complete (b ∷ w) rest longest (of_word {kind = kind} is_word is) apart ends =
    front_word b (w ++ rest) is_word.0
    ∙ ap Ok (word_is b w rest is_word.0 is_word.1 (stops_not_joined rest (apart (inl is_word)))
    ∙ ap (token_of (length (b ∷ w))) (sym is))
token_complete [] rest longest (of_number is_digits _) apart ends = absurd is_digits
token_complete (b ∷ w) rest longest (of_number is_digits small) apart ends =
    front_number b (w ++ rest) (digits_first b w is_digits)
    ∙ number_complete (b ∷ w) rest is_digits small longest (apart (inr is_digits))
token_complete w rest longest (of_string is_string some) apart ends = front_string w rest is_string
    ∙ string_complete w rest is_string some ends
token_complete [] rest longest (of_symbol {kind = kind} found) apart ends = let short = symbol_short [] kind found in cc
token_complete (b ∷ w) rest longest (of_symbol {kind = kind} found) apart ends =
    front_other b (w ++ rest) (symbol_first (b ∷ w) kind found) (unopened b w rest longest)
    ∙ symbol_complete (b ∷ w) rest kind found longest

-- where tokens follow a token, or no string is open at it, no apostrophe follows the string that it is
pub ends_by_tokens : {n : ℕ} (w rest : Bytes) (ts : List Token) → IsLongest w rest → TokensFrom n rest ts → Ends w rest
ends_by_tokens w rest ts longest later inner e i =
    string_ends inner rest ts i (subst (λ z. IsLongest z rest) e longest) later

pub ends_where_closed : (w rest : Bytes) → IsLongest w rest → (IsOpenString (w ++ rest) → ⊥) → Ends w rest
ends_where_closed w rest longest closed inner e i =
    string_stops inner rest i (subst (λ z. IsLongest z rest) e longest)
    (λ is_open. closed (subst (λ z. IsOpenString (z ++ rest)) (sym e) is_open))

-- a byte that begins nothing
bad_byte : (b : ℕ) (rest : Bytes) → ((u : Bytes) → IsLexeme (b ∷ u) ⊎ IsSeparator (b ∷ u) → ⊥)
    → front (b ∷ rest) ≡ fault_of fault.BadByte 0 1
bad_byte b rest never =
    front_other b rest other (opens_not b rest never)
    ∙ symbol_none b rest (λ u kind found. never u (inl (symbol found)))
  where
    is_byte : (b : ℕ) → is_blank b ≡ false → is_ascii_alphabetic b ≡ false → is_ascii_digit b ≡ false → b ≢ 39 → b ≢ 123
        → is_other b ≡ true
    is_byte b no_blank no_letter no_digit no_quote no_brace = grind (arith, nat_tests)

    other : is_other b ≡ true
    other = is_byte b
        (false_from_ne_true _ (λ is. never [] (inr (blank is))))
        (false_from_ne_true _ (λ letter. never [] (inl (word (letter, refl)))))
        (false_from_ne_true _ (λ digit. never [] (inl (digits (and_from _ _ digit refl)))))
        (λ same. never (39 ∷ []) (inl (subst (λ z. IsLexeme (z ∷ 39 ∷ [])) (sym same) (string (quoted done)))))
        (λ same. never (125 ∷ []) (inr (subst (λ z. IsSeparator (z ∷ 125 ∷ [])) (sym same) (braced brace))))

    opens_not : (b : ℕ) (rest : Bytes) → ((u : Bytes) → IsLexeme (b ∷ u) ⊎ IsSeparator (b ∷ u) → ⊥)
        → (b == 40 && slice_index rest 0 == 42) ≡ false
    opens_not b rest never = false_from_ne_true _ (λ both.
        (let same = (Decides-eqb b 40).0 (and_parts (b == 40) _ both).0 in
        never (42 ∷ 125 ∷ []) (inr (subst (λ z. IsSeparator (z ∷ 42 ∷ 125 ∷ [])) (sym same) (starred brace)))))

-- the first byte of digits, and of a real literal
digit_front : (w rest : Bytes) → IsDigits w → front (w ++ rest) ≡ s.number (w ++ rest)
digit_front [] rest d = absurd d
digit_front (b ∷ w) rest d = front_number b (w ++ rest) (digits_first b w d)

real_front : (w rest : Bytes) → IsReal w → (bs : Bytes) → w ++ rest ≡ bs → front bs ≡ s.number bs
real_front w rest r [] e =
    let p = real_parts w rest r in
    let some : 0 < length w = omega (arith, ap length p.split, length-append p.before p.tail, p.some) in
    absurd (omega (arith, ap length e, length-append w rest))
real_front w rest r (b ∷ bs) e = front_number b bs (real_begins w rest b bs r e)

pub fault_complete : {why : ScanFault} {ahead len : ℕ} {bs : Bytes} → IsFault bs why ahead len
    → front bs ≡ fault_of why ahead len
unfolding front
fault_complete (begins_nothing {b = b} rest never) = bad_byte b rest never
fault_complete (open_comment w rest brace_opens never) = braced_open rest never
fault_complete (open_comment w rest star_opens never) = starred_open rest never
fault_complete (open_string rest is_open) = open_complete rest is_open
fault_complete (empty_string rest longest closed) = empty_complete rest longest closed
fault_complete (touching w v rest longest d second is_word) = digit_front w (v ++ rest) d
    ∙ touch_complete w v rest d longest is_word second
fault_complete (too_large w rest longest d apart large) = digit_front w rest d
    ∙ large_complete w rest d large longest apart
fault_complete (real_literal w rest longest r) = real_front w rest r (w ++ rest) refl ∙ real_complete w rest r longest
