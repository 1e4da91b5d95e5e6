-- The lexical classes are distinguished by their first byte.
use Rattle.std.proofs.Common.{◌≡◌, ℕ, ◌⊎◌, inl, inr, true, false, cond, ◌==◌, [], ◌∷◌, ◌++◌, Some, refl, subst, arith}
use Rattle.std.proofs.lemmas.Bool.Decides.{nat_tests}
use Rattle.std.specs.Char.{is_ascii_alphabetic, is_ascii_digit}
use Rattle.ps_scan.specs.declared.token.Kind.{Kind}
use Rattle.ps_scan.specs.Lexemes.{IsWord, IsDigits, IsReal, IsString, quoted, IsLexeme, word, digits, real, string}
use Rattle.ps_scan.specs.Lexemes.{symbol}
use Rattle.ps_scan.specs.Tables.{Bytes, symbol_kind}
use Rattle.ps_scan.proofs.Reals.{digits_begin, real_begins}
use Rattle.ps_scan.proofs.Symbols.{is_other, symbol_first, symbol_short}

-- which lexical class begins with a byte: 0 words, 1 numbers and real literals, 2 strings, 3 symbols
abbrev pub class_of : ℕ → ℕ
class_of b = cond (is_ascii_alphabetic b) 0 (cond (is_ascii_digit b) 1 (cond (b == 39) 2 3))

pub class_of_letter : (b : ℕ) → is_ascii_alphabetic b ≡ true → class_of b ≡ 0
class_of_letter b letter = rw letter refl

pub class_of_digit : (b : ℕ) → is_ascii_digit b ≡ true → class_of b ≡ 1
class_of_digit b digit = let no : is_ascii_alphabetic b ≡ false = grind (arith, nat_tests) in rw (no, digit) refl

pub class_of_other : (b : ℕ) → is_other b ≡ true → class_of b ≡ 3
class_of_other b other = grind (arith, nat_tests)

-- a lexeme that begins with the byte
pub data Begins (u : Bytes) (b : ℕ) : Type 0 where
  with_letter : class_of b ≡ 0 → IsWord u → Begins u b
  with_digit : class_of b ≡ 1 → IsDigits u ⊎ IsReal u → Begins u b
  with_quote : class_of b ≡ 2 → IsString u → Begins u b
  with_other : {kind : Kind} → class_of b ≡ 3 → symbol_kind u ≡ Some kind → Begins u b

pub begins : (u v : Bytes) (b : ℕ) (bs : Bytes) → u ++ v ≡ b ∷ bs → IsLexeme u → Begins u b
begins [] v b bs e (word w) = absurd w
begins (c ∷ cs) v b bs e (word w) = let same : c ≡ b = cc in with_letter
    (class_of_letter b (subst (λ z. is_ascii_alphabetic z ≡ true) same w.0)) w
begins u v b bs e (digits d) = with_digit (class_of_digit b (digits_begin u v b bs d e)) (inl d)
begins u v b bs e (real r) = with_digit (class_of_digit b (real_begins u v b bs r e)) (inr r)
begins u v b bs e (string s) = with_quote (string_begins u v b bs s e) s
  where
    string_begins : (u v : Bytes) (b : ℕ) (bs : Bytes) → IsString u → u ++ v ≡ b ∷ bs → class_of b ≡ 2
    string_begins u v b bs (quoted inner) e = let same : 39 ≡ b = cc in subst (λ z. class_of z ≡ 2) same refl
begins [] v b bs e (symbol {kind = kind} s) = let short = symbol_short [] kind s in cc
begins (c ∷ cs) v b bs e (symbol {kind = kind} s) =
    let same : c ≡ b = cc in with_other (class_of_other b
    (subst (λ z. is_other z ≡ true) same (symbol_first (c ∷ cs) kind s))) s

-- ---- what a lexeme is, by its first byte
pub word_at : (u : Bytes) (b : ℕ) → is_ascii_alphabetic b ≡ true → Begins u b → IsWord u
word_at u b letter (with_letter _ w) = w
word_at u b letter (with_digit c _) = let c' = class_of_letter b letter in absurd (omega arith)
word_at u b letter (with_quote c _) = let c' = class_of_letter b letter in absurd (omega arith)
word_at u b letter (with_other c _) = let c' = class_of_letter b letter in absurd (omega arith)

pub number_at : (u : Bytes) (b : ℕ) → is_ascii_digit b ≡ true → Begins u b → IsDigits u ⊎ IsReal u
number_at u b digit (with_letter c _) = let c' = class_of_digit b digit in absurd (omega arith)
number_at u b digit (with_digit _ n) = n
number_at u b digit (with_quote c _) = let c' = class_of_digit b digit in absurd (omega arith)
number_at u b digit (with_other c _) = let c' = class_of_digit b digit in absurd (omega arith)

pub string_at : (u : Bytes) → Begins u 39 → IsString u
string_at u (with_letter c _) = absurd (omega arith)
string_at u (with_digit c _) = absurd (omega arith)
string_at u (with_quote _ s) = s
string_at u (with_other c _) = absurd (omega arith)

pub symbol_at : (u : Bytes) (b : ℕ) → is_other b ≡ true → Begins u b → (kind : Kind) × (symbol_kind u ≡ Some kind)
symbol_at u b other (with_letter c _) = let c' = class_of_other b other in absurd (omega arith)
symbol_at u b other (with_digit c _) = let c' = class_of_other b other in absurd (omega arith)
symbol_at u b other (with_quote c _) = let c' = class_of_other b other in absurd (omega arith)
symbol_at u b other (with_other {kind = kind} _ s) = (kind, s)
