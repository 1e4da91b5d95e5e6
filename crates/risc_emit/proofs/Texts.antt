-- The words of a constant, as they are spelled.
use Rattle.std.proofs.Common.{◌≡◌, ℕ, zero, suc, ◌+◌, ◌*◌, ◌/◌, ◌<◌, ◌≤◌, List, [], ◌∷◌, ◌++◌, length, drop, get_or}
use Rattle.std.proofs.Common.{append_assoc, refl, sym, ap, ◌∙◌, arith}
use Rattle.std.specs.Int.{w32, from_le_bytes, cast_unsigned, cast_signed}
use Rattle.std.proofs.lemmas.Int.{of_z-to_z}
use Rattle.std.proofs.lemmas.List.{append-nil}
use Rattle.risc_emit_laws.specs.Drawn.{text_words}

-- what four bytes spell
abbrev pub spelled : (a b c d : ℕ) → ℕ
spelled a b c d = from_le_bytes w32 (a ∷ b ∷ c ∷ d ∷ [])

abbrev pub spelled_at : List ℕ → ℕ → ℕ
spelled_at bytes at =
    spelled (get_or bytes at 0) (get_or bytes (at + 1) 0) (get_or bytes (at + 2) 0) (get_or bytes (at + 3) 0)

spelled_is : (a b c d : ℕ) → a < 256 → b < 256 → c < 256 → d < 256 → cast_unsigned w32
    (cast_signed w32 (a + 256 * b + 65536 * c + 16777216 * d)) ≡ spelled a b c d
spelled_is a b c d p q r s =
    of_z-to_z w32 (a + 256 * b + 65536 * c + 16777216 * d) (omega (arith, p, q, r, s)) ∙ same
  where
    same : a + 256 * b + 65536 * c + 16777216 * d ≡ spelled a b c d
    same = omega arith

abbrev pub AreBytes : List ℕ → Type 0
AreBytes bytes = (i : ℕ) → get_or bytes i 0 < 256

pub word_more : (bytes : List ℕ) (k : ℕ) → AreBytes bytes → 4 * k + 4 ≤ length bytes → text_words (drop (4 * k) bytes)
    ≡ spelled_at bytes (4 * k) ∷ text_words (drop (4 * (k + 1)) bytes)
word_more (a ∷ b ∷ c ∷ d ∷ rest) zero below fits =
    ap (λ w. w ∷ text_words rest) (spelled_is a b c d (below 0) (below 1) (below 2) (below 3))
word_more (a ∷ b ∷ c ∷ d ∷ rest) (suc k) below fits =
    let more = word_more rest k (λ i. below (suc (suc (suc (suc i))))) (omega (arith, fits)) in
    let e0 : 4 * suc k ≡ suc (suc (suc (suc (4 * k)))) = omega arith in
    let e1 : 4 * suc k + 1 ≡ suc (suc (suc (suc (4 * k + 1)))) = omega arith in
    let e2 : 4 * suc k + 2 ≡ suc (suc (suc (suc (4 * k + 2)))) = omega arith in
    let e3 : 4 * suc k + 3 ≡ suc (suc (suc (suc (4 * k + 3)))) = omega arith in
    let e4 : 4 * (suc k + 1) ≡ suc (suc (suc (suc (4 * (k + 1))))) = omega arith in
    rw (e1, e2, e3, e4, e0) more
word_more (a ∷ b ∷ c ∷ []) k below fits = absurd (few k fits)
  where
    few : (k : ℕ) → 4 * k + 4 ≤ 3 → ⊥
    few k le = omega (arith, le)
word_more (a ∷ b ∷ []) k below fits = absurd (few k fits)
  where
    few : (k : ℕ) → 4 * k + 4 ≤ 2 → ⊥
    few k le = omega (arith, le)
word_more (a ∷ []) k below fits = absurd (few k fits)
  where
    few : (k : ℕ) → 4 * k + 4 ≤ 1 → ⊥
    few k le = omega (arith, le)
word_more [] k below fits = absurd (few k fits)
  where
    few : (k : ℕ) → 4 * k + 4 ≤ 0 → ⊥
    few k le = omega (arith, le)

-- fewer than four bytes are no word
pub words_end : (bytes : List ℕ) (k : ℕ) → length bytes / 4 ≤ k → text_words (drop (4 * k) bytes) ≡ []
words_end (a ∷ b ∷ c ∷ d ∷ rest) zero le = absurd (many (length rest) le)
  where
    many : (n : ℕ) → suc (suc (suc (suc n))) / 4 ≤ 0 → ⊥
    many n le = omega (arith, le)
words_end (a ∷ b ∷ c ∷ d ∷ rest) (suc k) le =
    let e : 4 * suc k ≡ suc (suc (suc (suc (4 * k)))) = omega arith in
    rw e (words_end rest k (omega (arith, le)))
words_end (a ∷ b ∷ c ∷ []) zero le = refl
words_end (a ∷ b ∷ []) zero le = refl
words_end (a ∷ []) zero le = refl
words_end [] zero le = refl
words_end (a ∷ b ∷ c ∷ []) (suc k) le =
    let e : 4 * suc k ≡ suc (suc (suc (suc (4 * k)))) = omega arith in rw e refl
words_end (a ∷ b ∷ []) (suc k) le =
    let e : 4 * suc k ≡ suc (suc (suc (suc (4 * k)))) = omega arith in rw e refl
words_end (a ∷ []) (suc k) le =
    let e : 4 * suc k ≡ suc (suc (suc (suc (4 * k)))) = omega arith in rw e refl
words_end [] (suc k) le =
    let e : 4 * suc k ≡ suc (suc (suc (suc (4 * k)))) = omega arith in rw e refl

-- one more word is one fewer left
pub word_put : (texts texts' all bytes : List ℕ) (k w : ℕ) → AreBytes bytes → 4 * k + 4 ≤ length bytes → w
    ≡ spelled_at bytes (4 * k) → texts' ≡ texts ++ w ∷ [] → texts ++ text_words (drop (4 * k) bytes) ≡ all → texts'
    ++ text_words (drop (4 * (k + 1)) bytes) ≡ all
word_put texts texts' all bytes k w below fits is e inv =
    let rest = text_words (drop (4 * (k + 1)) bytes) in
    ap (λ l. l ++ rest) e ∙ append_assoc texts (w ∷ []) rest ∙ ap (λ x. texts ++ x ∷ rest) is ∙ ap (λ l. texts ++ l)
    (sym (word_more bytes k below fits)) ∙ inv

pub words_put : (texts all bytes : List ℕ) (k : ℕ) → length bytes / 4 ≤ k → texts ++ text_words (drop (4 * k) bytes)
    ≡ all → texts ≡ all
words_put texts all bytes k le inv =
    sym (append-nil texts) ∙ ap (λ l. texts ++ l) (sym (words_end bytes k le)) ∙ inv
