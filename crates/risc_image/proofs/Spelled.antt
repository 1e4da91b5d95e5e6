-- Words in bytes: what is read was spelled so, and what was spelled is read again.
use Rattle.std.proofs.Common.{◌≡◌, ℕ, zero, suc, ◌+◌, ◌*◌, ◌/◌, ◌%◌, ◌^◌, ◌<◌, ◌≤◌, List, [], ◌∷◌, ◌++◌, length}
use Rattle.std.proofs.Common.{get_or, refl, sym, ap, ◌∙◌, append_assoc, arith}
use Rattle.std.specs.Prelude.{All}
use Rattle.std.specs.Int.{w32, to_le_bytes, from_le_bytes}
use Rattle.std.proofs.lemmas.Nat.{le_bytes_4, from_le_bytes-to_le_bytes_4}
use Rattle.risc_image.specs.Format.{word_bytes}
use Rattle.risc_image.specs.Table.{words}

-- what the type of a slice of bytes says
abbrev pub IsBytes : List ℕ → Type 0
IsBytes bytes = (i : ℕ) → get_or bytes i 0 < 256

-- the word that four bytes from a place on spell
abbrev pub word_from : List ℕ → ℕ → ℕ
word_from bytes at = from_le_bytes w32 (get_or bytes at 0 ∷ get_or bytes (at + 1) 0 ∷ get_or bytes (at + 2) 0
    ∷ get_or bytes (at + 3) 0 ∷ [])

word_from-later : (a b c d : ℕ) (rest : List ℕ) (at at' : ℕ) → at' ≡ at + 4 → word_from (a ∷ b ∷ c ∷ d ∷ rest) at'
    ≡ word_from rest at
word_from-later a b c d rest at at' e =
    let e0 : at' ≡ suc (suc (suc (suc at))) = omega arith in
    let e1 : at' + 1 ≡ suc (suc (suc (suc (at + 1)))) = omega arith in
    let e2 : at' + 2 ≡ suc (suc (suc (suc (at + 2)))) = omega arith in
    let e3 : at' + 3 ≡ suc (suc (suc (suc (at + 3)))) = omega arith in
    rw (e1, e2, e3, e0) refl

pub word_spelled : (bytes : List ℕ) (k : ℕ) → 4 * k + 4 ≤ length bytes → get_or (words bytes) k 0 ≡ word_from bytes
    (4 * k)
word_spelled (a ∷ b ∷ c ∷ d ∷ rest) zero fits = refl
word_spelled (a ∷ b ∷ c ∷ d ∷ rest) (suc k) fits =
    word_spelled rest k (omega arith) ∙ sym (word_from-later a b c d rest (4 * k) (4 * suc k) (omega arith))
word_spelled (a ∷ b ∷ c ∷ []) k fits = absurd (omega arith)
word_spelled (a ∷ b ∷ []) k fits = absurd (omega arith)
word_spelled (a ∷ []) k fits = absurd (omega arith)
word_spelled [] k fits = absurd (omega arith)

pub words_length : (bytes : List ℕ) → length (words bytes) ≡ length bytes / 4
words_length (a ∷ b ∷ c ∷ d ∷ rest) = omega (arith, words_length rest)
words_length (a ∷ b ∷ c ∷ []) = refl
words_length (a ∷ b ∷ []) = refl
words_length (a ∷ []) = refl
words_length [] = refl

pub word_bytes_length : (ws : List ℕ) → length (word_bytes ws) ≡ 4 * length ws
word_bytes_length [] = refl
word_bytes_length (w ∷ ws) = omega (arith, word_bytes_length ws)

pub words-word_bytes : (ws : List ℕ) → All (λ w. w < 2 ^ 32) ws → words (word_bytes ws) ≡ ws
words-word_bytes [] fits = refl
words-word_bytes (w ∷ ws) fits =
    let first : w < 2 ^ 32 = fits 0 0 (omega arith) in
    let others : All (λ w. w < 2 ^ 32) ws = λ k d lt. fits (suc k) d (omega arith) in
    rw (from_le_bytes-to_le_bytes_4 w first, words-word_bytes ws others) refl

pub word_bytes-words : (bytes : List ℕ) → length bytes % 4 ≡ 0 → IsBytes bytes → word_bytes (words bytes) ≡ bytes
word_bytes-words (a ∷ b ∷ c ∷ d ∷ rest) whole fits =
    let four : List ℕ = a ∷ b ∷ c ∷ d ∷ [] in
    let front : to_le_bytes w32 (from_le_bytes w32 (a ∷ b ∷ c ∷ d ∷ [])) ≡ a ∷ b ∷ c ∷ d ∷ [] = le_bytes_4
    (a ∷ b ∷ c ∷ d ∷ []) _ refl (below a b c d (fits 0) (fits 1) (fits 2) (fits 3)) refl in
    ap (λ (x : List ℕ). x ++ word_bytes (words rest)) front ∙ ap (λ (x : List ℕ). a ∷ b ∷ c ∷ d ∷ x)
    (word_bytes-words rest (omega arith) (λ i. fits (suc (suc (suc (suc i))))))
  where
    below : (a b c d : ℕ) → a < 256 → b < 256 → c < 256 → d < 256 → (i : ℕ) → get_or (a ∷ b ∷ c ∷ d ∷ []) i 0 < 256
    below a b c d p q r s zero = p
    below a b c d p q r s (suc zero) = q
    below a b c d p q r s (suc (suc zero)) = r
    below a b c d p q r s (suc (suc (suc zero))) = s
    below a b c d p q r s (suc (suc (suc (suc i)))) = omega arith
word_bytes-words (a ∷ b ∷ c ∷ []) whole fits = absurd (omega arith)
word_bytes-words (a ∷ b ∷ []) whole fits = absurd (omega arith)
word_bytes-words (a ∷ []) whole fits = absurd (omega arith)
word_bytes-words [] whole fits = refl

pub word_bytes-append : (vs ws : List ℕ) → word_bytes (vs ++ ws) ≡ word_bytes vs ++ word_bytes ws
word_bytes-append [] ws = refl
word_bytes-append (v ∷ vs) ws = ap (λ (x : List ℕ). to_le_bytes w32 v ++ x) (word_bytes-append vs ws) ∙ sym
    (append_assoc (to_le_bytes w32 v) (word_bytes vs) (word_bytes ws))

-- each word of bytes has 32 bits
pub words-below : (bytes : List ℕ) → IsBytes bytes → All (λ w. w < 2 ^ 32) (words bytes)
words-below (a ∷ b ∷ c ∷ d ∷ rest) fits zero e lt = omega (arith, fits 0, fits 1, fits 2, fits 3)
words-below (a ∷ b ∷ c ∷ d ∷ rest) fits (suc k) e lt = words-below rest (λ i. fits (suc (suc (suc (suc i))))) k e
    (omega arith)
words-below (a ∷ b ∷ c ∷ []) fits k e lt = absurd (omega arith)
words-below (a ∷ b ∷ []) fits k e lt = absurd (omega arith)
words-below (a ∷ []) fits k e lt = absurd (omega arith)
words-below [] fits k e lt = absurd (omega arith)
