-- Symbols at the front of bytes.
use Rattle.std.proofs.Common.{◌≡◌, ◌≢◌, ℕ, suc, ◌⊎◌, inl, inr, true, false, ◌==◌, ◌&&◌, [], ◌∷◌, ◌++◌, length, Option}
use Rattle.std.proofs.Common.{Some, None, Ok, slice_index, refl, sym, ap, ◌∙◌, subst, arith, eq-eqb}
use Rattle.std.proofs.lemmas.Bool.{and_from}
use Rattle.std.proofs.lemmas.Bool.Decides.{nat_tests}
use Rattle.std.specs.Char.{is_ascii_alphabetic, is_ascii_digit}
use Rattle.std.specs.Prelude.{nat_le}
use Rattle.ps_scan.specs.declared.token.Kind.{Kind}
use Rattle.ps_scan.specs.Faults.{begins_nothing}
use Rattle.ps_scan.specs.Lexemes.{IsWord, IsDigits, IsLexeme, symbol, of_symbol}
use Rattle.ps_scan.specs.Lexis.{IsLongest}
use Rattle.ps_scan.specs.Scanner as s
use Rattle.ps_scan.specs.Scanner.{Finding, token_of}
use Rattle.ps_scan.specs.Separators.{is_blank, IsSeparator, blank, braced, starred}
use Rattle.ps_scan.specs.Tables.{Bytes, symbol_kind}
use Rattle.ps_scan.proofs.FirstBytes.{begins, symbol_at}
use Rattle.ps_scan.proofs.Fronts.{IsFound, stands, no_string_at}
use Rattle.ps_scan.proofs.Reals.{digits_first}
use Rattle.ps_scan.proofs.Symbols.{is_other, symbol_first, symbol_short, pair_is, single_is, pair_nil, AtSymbol, two}
use Rattle.ps_scan.proofs.Symbols.{one, neither, symbol_begins, symbol_sound, symbol_two, symbol_one}

-- the bytes of a symbol: one or two
short_cases : (u : Bytes) (kind : Kind) → symbol_kind u ≡ Some kind
    → ((a : ℕ) × (u ≡ a ∷ [])) ⊎ ((a b : ℕ) × (u ≡ a ∷ b ∷ []))
short_cases [] kind found = let short = symbol_short [] kind found in cc
short_cases (a ∷ []) kind found = inl (a, refl)
short_cases (a ∷ b ∷ []) kind found = inr (a, b, refl)
short_cases (a ∷ b ∷ c ∷ cs) kind found =
    let short = symbol_short (a ∷ b ∷ c ∷ cs) kind found in absurd (too_long (length cs) short)
  where
    too_long : (n : ℕ) → (nat_le 1 (suc (suc (suc n))) && nat_le (suc (suc (suc n))) 2) ≡ true → ⊥
    too_long n h = grind (arith, nat_tests)

other_apart : (b : ℕ) (bs : Bytes) → is_other b ≡ true → IsWord (b ∷ bs) ⊎ IsDigits (b ∷ bs) → ⊥
other_apart b bs other (inl is_word) = no_letter b other is_word.0
  where
    no_letter : (b : ℕ) → is_other b ≡ true → is_ascii_alphabetic b ≡ true → ⊥
    no_letter b other letter = grind (arith, nat_tests)
other_apart b bs other (inr is_digits) = no_digit b other (digits_first b bs is_digits)
  where
    no_digit : (b : ℕ) → is_other b ≡ true → is_ascii_digit b ≡ true → ⊥
    no_digit b other digit = grind (arith, nat_tests)

-- no comment opens where its two bytes don't come
no_opening : (a : ℕ) (bs : Bytes) → (a == 40 && slice_index bs 0 == 42) ≡ false → (v : Bytes) → a ∷ bs ≡ 40 ∷ 42 ∷ v → ⊥
no_opening a [] none v e = cc
no_opening a (b ∷ bs) none v e =
    let first : a ≡ 40 = cc in
    let second : b ≡ 42 = cc in
    let both = and_from _ _ (eq-eqb a 40 first) (eq-eqb b 42 second) in cc

symbols_at : (u v : Bytes) (a : ℕ) (bs : Bytes) → is_other a ≡ true → a ∷ bs ≡ u ++ v → IsLexeme u
    → (kind : Kind) × (symbol_kind u ≡ Some kind)
symbols_at u v a bs other e is_lexeme = symbol_at u a other (begins u v a bs (sym e) is_lexeme)

two_front : (a b : ℕ) (bs : Bytes) (kind : Kind) → symbol_kind (a ∷ b ∷ []) ≡ Some kind → (a == 40 && b == 42) ≡ false
    → IsLongest (a ∷ b ∷ []) bs
two_front a b bs kind found none = record {
  fits = symbol found;
  longest = λ u v e is_lexeme.
      (let s = symbols_at u v a (b ∷ bs) (symbol_first (a ∷ b ∷ []) kind found) e is_lexeme in
      elim (short_cases u s.0 s.1) [ inl t ↦ omega (arith, ap length t.1) | inr t ↦ omega (arith, ap length t.2) ]);
  no_comment = no_opening a (b ∷ bs) none;
}

one_front : (a : ℕ) (bs : Bytes) (kind : Kind) → symbol_kind (a ∷ []) ≡ Some kind → s.pair a (slice_index bs 0) ≡ None
    → (a == 40 && slice_index bs 0 == 42) ≡ false
    → IsLongest (a ∷ []) bs
one_front a bs kind found alone none = record {
  fits = symbol found;
  longest = λ u v e is_lexeme.
      (let s = symbols_at u v a bs (symbol_first (a ∷ []) kind found) e is_lexeme in
      elim (short_cases u s.0 s.1) [
        | inl t ↦ omega (arith, ap length t.1)
        | inr t ↦ absurd
            (no_second u v bs s.0 t.0 t.1 alone e s.1 t.2)
      ]);
  no_comment = no_opening a bs none;
}
  where
    no_second : (u v bs : Bytes) (kind : Kind) (c d : ℕ) → s.pair a (slice_index bs 0) ≡ None → a ∷ bs ≡ u ++ v
        → symbol_kind u ≡ Some kind → u ≡ c ∷ d ∷ [] → ⊥
    no_second u v [] kind c d alone e found is = let split : a ∷ [] ≡ c ∷ d ∷ v = e ∙ ap (λ z. z ++ v) is in cc
    no_second u v (b ∷ bs) kind c d alone e found is =
        let split : a ∷ b ∷ bs ≡ c ∷ d ∷ v = e ∙ ap (λ z. z ++ v) is in
        let first : a ≡ c = cc in
        let second : b ≡ d = cc in
        let pair' : s.pair a b ≡ Some kind = sym (pair_is a b)
        ∙ (ap (λ z. symbol_kind (z ∷ b ∷ [])) first ∙ ap (λ z. symbol_kind (c ∷ z ∷ [])) second)
        ∙ sym (ap symbol_kind is) ∙ found in
        cc

other_no_quote : (b : ℕ) → is_other b ≡ true → b ≢ 39
other_no_quote b other same = grind (arith, nat_tests)

no_blank : (b : ℕ) → is_other b ≡ true → is_blank b ≡ true → ⊥
no_blank b other is = grind (arith, nat_tests)

separates_not : (w : Bytes) (b : ℕ) (u : Bytes) → w ≡ b ∷ u → is_other b ≡ true → s.single b ≡ None → IsSeparator w → ⊥
unfolding s.single
separates_not w b u e other none (blank {b = c} is) =
    let same : c ≡ b = cc in no_blank b other (subst (λ z. is_blank z ≡ true) same is)
separates_not w b u e other none (braced c) =
    let same : 123 ≡ b = cc in let never = subst (λ z. is_other z ≡ true) (sym same) other in cc
separates_not w b u e other none (starred c) =
    let same : 40 ≡ b = cc in let never = subst (λ z. s.single z ≡ None) (sym same) none in cc

-- where no symbol begins, and no word, number, string, blank or comment in braces, nothing does
nothing_begins : (b : ℕ) (u : Bytes) → is_other b ≡ true → s.single b ≡ None → IsLexeme (b ∷ u) ⊎ IsSeparator (b ∷ u)
    → ⊥
nothing_begins b u other none (inl is_lexeme) =
    let s = symbol_at (b ∷ u) b other (begins (b ∷ u) [] b (u ++ []) refl is_lexeme) in
    symbol_begins (b ∷ u) s.0 s.1 none
nothing_begins b u other none (inr is_separator) = separates_not (b ∷ u) b u refl other none is_separator

pub symbol_front_sound : (a : ℕ) (bs : Bytes) → is_other a ≡ true → (a == 40 && slice_index bs 0 == 42) ≡ false
    → IsFound (a ∷ bs) (s.symbol (a ∷ bs))
symbol_front_sound a bs other none = at_symbol a bs _ other none (symbol_sound a bs)
  where
    at_symbol : (a : ℕ) (bs : Bytes) (found : Finding) → is_other a ≡ true → (a == 40 && slice_index bs 0 == 42) ≡ false
        → AtSymbol (a ∷ bs) found → IsFound (a ∷ bs) found
    at_symbol a bs found other none (two {b = b} {bs = cs} {kind = kind} is) =
        let kind_is = pair_is a b ∙ is in
        stands (a ∷ b ∷ []) cs (two_front a b cs kind kind_is none) (of_symbol kind_is)
        (λ class. absurd (other_apart a (b ∷ []) other class))
        (no_string_at a (b ∷ cs) (other_no_quote a other))
    at_symbol a bs found other none (one {kind = kind} alone is) =
        let kind_is = single_is a ∙ is in
        stands (a ∷ []) bs (one_front a bs kind kind_is alone none) (of_symbol kind_is)
        (λ class. absurd (other_apart a [] other class))
        (no_string_at a bs (other_no_quote a other))
    at_symbol a bs found other none (neither is) = begins_nothing bs (λ u. nothing_begins a u other is)

pub symbol_complete : (w rest : Bytes) (kind : Kind) → symbol_kind w ≡ Some kind → IsLongest w rest
    → s.symbol (w ++ rest) ≡ Ok (token_of (length w) kind)
symbol_complete w rest kind found longest = elim (short_cases w kind found) [
  | inl t ↦ subst (λ z. s.symbol (z ++ rest) ≡ Ok (token_of (length z) kind)) (sym t.1)
      (symbol_one t.0 rest kind (sym (ap symbol_kind t.1)
      ∙ found) (alone t.0 rest (subst (λ z. IsLongest z rest) t.1 longest)))
  | inr t ↦ subst (λ z. s.symbol (z ++ rest) ≡ Ok (token_of (length z) kind)) (sym t.2)
      (symbol_two t.0 t.1 rest kind (sym (ap symbol_kind t.2) ∙ found))
]
  where
    no_pair : (a b : ℕ) (bs : Bytes) (second : Option Kind) → s.pair a b ≡ second → IsLongest (a ∷ []) (b ∷ bs)
        → second ≡ None
    no_pair a b bs None e longest = refl
    no_pair a b bs (Some other) e longest =
        let least = longest.longest (a ∷ b ∷ []) bs refl (symbol (pair_is a b ∙ e)) in absurd (omega (arith, least))

    alone : (a : ℕ) (rest : Bytes) → IsLongest (a ∷ []) rest → s.pair a (slice_index rest 0) ≡ None
    alone a [] longest = pair_nil a
    alone a (b ∷ bs) longest = no_pair a b bs _ refl longest
