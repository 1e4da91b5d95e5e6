-- Consecutive components of arrays: their values and their words, where they are taken out of an array and where they
-- replace others.
use Rattle.std.proofs.Common.{◌≡◌, ℕ, zero, suc, ◌+◌, ◌*◌, ◌%◌, ◌<◌, ◌≤◌, ℤ, pos, unsigned_abs, Bool, true, false, not}
use Rattle.std.proofs.Common.{◌||◌, IsTrue, List, [], ◌∷◌, ◌++◌, length, slice_get, Some, refl, sym, ap, ◌∙◌, subst}
use Rattle.std.proofs.Common.{arith, append_assoc, lt-ltb}
use Rattle.tac_code.specs.declared.code.Value.TheVariants.{Number}
use Rattle.tac_code.specs.Numbers.{is_integer}
use Rattle.ps_meaning.specs.Operators.{is_between}
use Rattle.tac_code.specs.Memory.{Words}
use Rattle.tac_code.specs.declared.code.TheConstants.{NUMBER_LIMIT}
use Rattle.ps_meaning.specs.Values.{Value, StructureValue, Values, no_value, value_before, nth, with_nth, values_from}
use Rattle.ps_meaning.specs.Values.{first_values, with_values, number_of}
use Rattle.tac_code_steps.specs.Splices.{overlaid, spliced}
use Rattle.tac_code_steps.proofs.Pieces.{same_some, some_none}
use Rattle.ps_lower_layout.specs.Shapes.{Shape, NumberShape, ArrayShape, word_count}
use Rattle.ps_lower_layout.specs.Words.{bytes_of, each, value_words}
use Rattle.ps_lower_layout.specs.Paths.{AreByteValues, HaveShape}
use Rattle.ps_lower_layout.proofs.Counted.{counted}
use Rattle.ps_lower_relation.proofs.Spans.{get_front, get_back, component_set, each_writes}
use Rattle.ps_lower_relation.proofs.ByteParts.{byte_number}

-- ---- values

from_fits : (made : List ℕ) (shape : Shape) (k n m : ℕ) (vs : Values) → m ≡ k + n → HaveShape made vs m shape
    → HaveShape made (values_from vs k) n shape
from_fits made shape zero n m vs e h = let same : m ≡ n = omega (arith, e) in subst
    (λ c. HaveShape made vs c shape) same h
from_fits made shape (suc k) n zero vs e h = absurd (omega (arith, e))
from_fits made shape (suc k) n (suc m) no_value e h = absurd h
from_fits made shape (suc k) n (suc m) (value_before v vs) e h = from_fits made shape k n m vs (omega (arith, e)) h.2

first_fits : (made : List ℕ) (shape : Shape) (n m : ℕ) (vs : Values) → n ≤ m → HaveShape made vs m shape
    → HaveShape made (first_values n vs) n shape
first_fits made shape zero m vs l h = tt
first_fits made shape (suc n) zero vs l h = absurd (omega (arith, l))
first_fits made shape (suc n) (suc m) no_value l h = absurd h
first_fits made shape (suc n) (suc m) (value_before v vs) l h =
    (h.0, h.1, first_fits made shape n m vs (omega (arith, l)) h.2)

-- n components from k on
pub taken_fits : (made : List ℕ) (shape : Shape) (k n m : ℕ) (vs : Values) → HaveShape made vs (k + (n + m)) shape
    → HaveShape made (first_values n (values_from vs k)) n shape
taken_fits made shape k n m vs h = first_fits made shape n (n + m) (values_from vs k) (omega arith)
    (from_fits made shape k (n + m) (k + (n + m)) vs refl h)

pub replaced_fits : (made : List ℕ) (shape : Shape) (k n m : ℕ) (us vs : Values) → HaveShape made us m shape
    → HaveShape made vs n shape → HaveShape made (with_values us k vs) m shape
replaced_fits made shape k zero m us no_value h f = h
replaced_fits made shape k zero m us (value_before v vs) h f = absurd f
replaced_fits made shape k (suc n) m us no_value h f = absurd f
replaced_fits made shape k (suc n) m us (value_before v vs) h f = replaced_fits made shape (suc k) n m
    (with_nth us k v) vs (component_set made us m k shape v h f.0 f.1) f.2

-- ---- words

module _ (shape : Shape) where
  abbrev words_of : Value → Words
  words_of u = value_words shape u

  first_words : (n : ℕ) (vs : Values) → each n words_of (first_values n vs) ≡ each n words_of vs
  first_words zero vs = refl
  first_words (suc n) no_value = refl
  first_words (suc n) (value_before v vs) = ap (λ ws. words_of v ++ ws) (first_words n vs)

  from_more : (k : ℕ) (vs : Values) → values_from (values_from vs 1) k ≡ values_from vs (suc k)
  from_more zero no_value = refl
  from_more (suc k) no_value = refl
  from_more k (value_before v vs) = refl

  split_words : (k n m : ℕ) (vs : Values) → m ≡ k + n → each m words_of vs ≡ each k words_of vs ++ each n words_of
      (values_from vs k)
  split_words zero n m vs e = let same : m ≡ n = omega (arith, e) in ap (λ c. each c words_of vs) same
  split_words (suc k) n zero vs e = absurd (omega (arith, e))
  split_words (suc k) n (suc m) vs e =
      ap (λ ws. words_of (nth vs 0) ++ ws) (split_words k n m (values_from vs 1) (omega (arith, e)))
      ∙ ap (λ us. words_of (nth vs 0) ++ (each k words_of (values_from vs 1) ++ each n words_of us)) (from_more k vs)
      ∙ sym (append_assoc (words_of (nth vs 0)) (each k words_of (values_from vs 1))
      (each n words_of (values_from vs (suc k))))

  each_length : (n : ℕ) (vs : Values) → length (each n words_of vs) ≡ n * word_count shape
  each_length n vs = counted (ArrayShape n shape) (StructureValue vs)

  pub taken_words : (k n m i : ℕ) (vs : Values) → i < n * word_count shape → slice_get (each (k + (n + m)) words_of vs)
      (k * word_count shape + i) ≡ slice_get (each n words_of (first_values n (values_from vs k))) i
  taken_words k n m i vs l =
      let long = each_length n (values_from vs k) in
      ap (λ ws. slice_get ws (k * word_count shape + i)) (split_words k (n + m) (k + (n + m)) vs refl)
      ∙ get_back (each k words_of vs) (each (n + m) words_of (values_from vs k)) (k * word_count shape) i
      (sym (each_length k vs))
      ∙ ap (λ ws. slice_get ws i) (split_words n m (n + m) (values_from vs k) refl)
      ∙ get_front (each n words_of (values_from vs k)) (each m words_of (values_from (values_from vs k) n)) i
      (omega (arith, l, long))
      ∙ ap (λ ws. slice_get ws i) (sym (first_words n (values_from vs k)))

overlaid_joined : (xs ys ws : Words) → spliced (length xs) ys (overlaid xs ws) ≡ overlaid (xs ++ ys) ws
overlaid_joined [] ys ws = refl
overlaid_joined (x ∷ xs) ys [] = refl
overlaid_joined (x ∷ xs) ys (w ∷ ws) = ap (λ l. x ∷ l) (overlaid_joined xs ys ws)

-- one stretch after another
spliced_joined : (k n : ℕ) (xs ys ws : Words) → n ≡ k + length xs → spliced n ys (spliced k xs ws) ≡ spliced k
    (xs ++ ys) ws
spliced_joined zero n xs ys ws e = let a : n ≡ length xs = omega (arith, e) in ap (λ i. spliced i ys (overlaid xs ws)) a
    ∙ overlaid_joined xs ys ws
spliced_joined (suc k) zero xs ys ws e = absurd (omega (arith, e))
spliced_joined (suc k) (suc n) xs ys [] e = refl
spliced_joined (suc k) (suc n) xs ys (w ∷ ws) e = ap (λ l. w ∷ l) (spliced_joined k n xs ys ws (omega (arith, e)))

spliced_none : (k : ℕ) (ws : Words) → spliced k [] ws ≡ ws
spliced_none zero ws = refl
spliced_none (suc k) [] = refl
spliced_none (suc k) (w ∷ ws) = ap (λ l. w ∷ l) (spliced_none k ws)

pub replaced_words : (made : List ℕ) (shape : Shape) (k n m : ℕ) (us vs : Values) → HaveShape made us m shape
    → HaveShape made vs n shape → k + n ≤ m → each m (λ u. value_words shape u) (with_values us k vs) ≡ spliced
    (k * word_count shape) (each n (λ u. value_words shape u) vs) (each m (λ u. value_words shape u) us)
replaced_words made shape k zero m us no_value h f l = sym
    (spliced_none (k * word_count shape) (each m (λ u. value_words shape u) us))
replaced_words made shape k zero m us (value_before v vs) h f l = absurd f
replaced_words made shape k (suc n) m us no_value h f l = absurd f
replaced_words made shape k (suc n) m us (value_before v vs) h f l =
    let wide = counted shape v in
    let next : suc k * word_count shape ≡ k * word_count shape + length (value_words shape v) = omega (arith, wide) in
    replaced_words made shape (suc k) n m (with_nth us k v) vs (component_set made us m k shape v h f.0 f.1) f.2
    (omega (arith, l))
    ∙ ap (spliced (suc k * word_count shape) (each n (λ u. value_words shape u) vs))
    (each_writes made m k shape us v h (omega (arith, l)))
    ∙ spliced_joined (k * word_count shape) (suc k * word_count shape) (value_words shape v)
    (each n (λ u. value_words shape u) vs) (each m (λ u. value_words shape u) us) next

-- ---- bytes

-- each is a number of its own, one word
pub byte_words : (n i byte : ℕ) (first : ℤ) (narrow : Bool) (vs : Values) → AreByteValues n vs → slice_get
    (bytes_of n vs) i ≡ Some byte → slice_get (each n (λ u. value_words (NumberShape first narrow) u) vs) i ≡ Some
    (Some (Number (pos byte)))
byte_words zero i byte first narrow vs h e = some_none e
byte_words (suc n) i byte first narrow no_value h e = absurd h
byte_words (suc n) zero byte first narrow (value_before v vs) h e = ap (λ z. Some (Some (Number z)))
    (byte_number (number_of v) h.0) ∙ ap (λ b. Some (Some (Number (pos b)))) (same_some e)
byte_words (suc n) (suc i) byte first narrow (value_before v vs) h e = byte_words n i byte first narrow vs h.1 e

pub bytes_fit : (made : List ℕ) (n : ℕ) (first : ℤ) (narrow : Bool) (vs : Values) → AreByteValues n vs
    → HaveShape made vs n (NumberShape first narrow)
bytes_fit made zero first narrow no_value h = tt
bytes_fit made zero first narrow (value_before v vs) h = absurd h
bytes_fit made (suc n) first narrow no_value h = absurd h
bytes_fit made (suc n) first narrow (value_before v vs) h = (
  byte_integer (number_of v) h.0,
  keeps narrow
      (is_between (pos 0) (number_of v) (pos 255)) h.0,
  bytes_fit made n first narrow vs h.1,
)
  where
    keeps : (a b : Bool) → IsTrue b → IsTrue (not a || b)
    keeps true b h = h
    keeps false b h = refl

    byte_integer : (z : ℤ) → IsTrue (is_between (pos 0) z (pos 255)) → IsTrue (is_integer z)
    byte_integer z b =
        let n = unsigned_abs z % 256 in
        subst (λ y. IsTrue (is_integer y)) (sym (byte_number z b)) (lt-ltb n NUMBER_LIMIT (omega arith))

-- and numbers that are bytes
pub numbers_bytes : (made : List ℕ) (n : ℕ) (first : ℤ) (vs : Values) → HaveShape made vs n (NumberShape first true)
    → AreByteValues n vs
numbers_bytes made zero first no_value h = tt
numbers_bytes made zero first (value_before v vs) h = absurd h
numbers_bytes made (suc n) first no_value h = absurd h
numbers_bytes made (suc n) first (value_before v vs) h = (h.1, numbers_bytes made n first vs h.2)
