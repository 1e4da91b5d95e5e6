-- Every value of a shape has as many words as the shape.
use Rattle.std.proofs.Common.{◌≡◌, ℕ, zero, suc, ◌+◌, ◌*◌, ◌/◌, List, [], ◌∷◌, length, refl, ap, ◌∙◌, length-append}
use Rattle.std.proofs.Common.{arith}
use Rattle.tac_code.specs.Memory.{Words, constant_words}
use Rattle.ps_meaning.specs.Values.{Value, Values, nth, values_from, components_of}
use Rattle.ps_lower_layout.specs.Shapes.{Shape, NumberShape, PointerShape, SetShape, ByteShape, ArrayShape}
use Rattle.ps_lower_layout.specs.Shapes.{RecordShape, Shapes, no_shape, shape_before, word_count, word_counts}
use Rattle.ps_lower_layout.specs.Words.{filled, bytes_of, each, value_words, field_words}

pub bytes_length : (n : ℕ) (vs : Values) → length (bytes_of n vs) ≡ n
bytes_length zero vs = refl
bytes_length (suc n) vs = ap suc (bytes_length n (values_from vs 1))

filled_words : (bytes : List ℕ) → length (constant_words (filled bytes)) ≡ (length bytes + 3) / 4
filled_words [] = omega arith
filled_words (a ∷ []) = omega arith
filled_words (a ∷ b ∷ []) = omega arith
filled_words (a ∷ b ∷ c ∷ []) = omega arith
filled_words (a ∷ b ∷ c ∷ d ∷ rest) = let e = filled_words rest in omega (arith, e)

each_counted : (n k : ℕ) (words : Value → Words) (vs : Values) → ((v : Value) → length (words v) ≡ k) → length
    (each n words vs) ≡ n * k
each_counted zero k words vs h = omega arith
each_counted (suc n) k words vs h =
    let e = each_counted n k words (values_from vs 1) h in
    let a = h (nth vs 0) in
    let b = length-append (words (nth vs 0)) (each n words (values_from vs 1)) in
    let c : suc n * k ≡ k + n * k = omega arith in
    omega (arith, e, a, b, c)

mutual
  pub counted : (shape : Shape) (v : Value) → length (value_words shape v) ≡ word_count shape
  counted (NumberShape first narrow) v = refl
  counted (PointerShape pointer) v = refl
  counted SetShape v = refl
  counted (ByteShape count first) v = filled_words (bytes_of count (components_of v)) ∙ ap (λ n. (n + 3) / 4)
      (bytes_length count (components_of v))
  counted (ArrayShape count shape) v = each_counted count (word_count shape) (λ u. value_words shape u)
      (components_of v) (λ u. counted shape u)
  counted (RecordShape shapes) v = fields_counted shapes (components_of v)

  fields_counted : (shapes : Shapes) (vs : Values) → length (field_words shapes vs) ≡ word_counts shapes
  fields_counted no_shape vs = refl
  fields_counted (shape_before shape rest) vs =
      let a = counted shape (nth vs 0) in
      let b = fields_counted rest (values_from vs 1) in
      let c = length-append (value_words shape (nth vs 0)) (field_words rest (values_from vs 1)) in
      omega (arith, a, b, c)
