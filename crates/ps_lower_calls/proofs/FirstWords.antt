-- The words of first values, by the shape alone.
use Rattle.std.proofs.Common.{◌≡◌, ℕ, zero, suc, ◌+◌, ◌*◌, ◌/◌, ◌%◌, ◌≤◌, ℤ, pos, negsuc, Bool, true, false, ◌&&◌}
use Rattle.std.proofs.Common.{nat_eq, nat_le, List, [], ◌∷◌, ◌++◌, length, Some, if◌then◌else◌, unsigned_abs, refl}
use Rattle.std.proofs.Common.{sym, ap, ◌∙◌, arith, length-append, eqb-true, eq-eqb, leb-true}
use Rattle.ps_tree.proofs.Booleans.{and_second}
use Rattle.ps_tree.specs.Types.{DataType, OrdinalType, PointerType, NilType, SetType, EmptySetType, TextType}
use Rattle.ps_tree.specs.Types.{ArrayType, RecordType, field_list, DataTypes, no_type, type_before}
use Rattle.ps_tree.specs.Sizes.{value_count, fits_byte}
use Rattle.tac_code.specs.declared.code.Value.TheVariants.{Number as Numeral}
use Rattle.tac_code.specs.Numbers.{number_of as number_of_word}
use Rattle.tac_code.specs.Memory.{Words, constant_words}
use Rattle.ps_meaning.specs.Values.{Value, OrdinalValue, StructureValue, first, first_of_each, copies, number_of}
use Rattle.ps_meaning.specs.Operators.{is_between}
use Rattle.ps_lower_layout.specs.Shapes.{Shape, NumberShape, PointerShape, SetShape, ByteShape, ArrayShape}
use Rattle.ps_lower_layout.specs.Shapes.{RecordShape, Shapes, no_shape, shape_before, shape_of, shapes_of, first_of}
use Rattle.ps_lower_layout.specs.Shapes.{word_count, word_counts}
use Rattle.ps_lower_layout.specs.Words.{filled, byte_of, bytes_of, each, value_words, field_words}
use Rattle.ps_lower_layout.specs.Paths.{KeepsByte, HasShape, HaveShape, HaveShapes, AreByteValues}
use Rattle.ps_lower_code.specs.Statements.{bytes_below, byte_word}
use Rattle.ps_lower_relation.proofs.Copies.{repeated, repeated_length, AreWritten, written_both, written_repeated}
use Rattle.ps_lower_code.specs.First.{FirstFits, FieldsFit}

-- so many bytes of one value: whole words, and one that is filled up
abbrev pub rest_of_bytes : ℕ → ℤ → Words
rest_of_bytes count b = if nat_eq (count % 4) 0 then [] else (Some (Numeral (byte_word (count % 4) b)) ∷ [])

abbrev pub words_of_bytes : ℕ → ℤ → Words
words_of_bytes count b = repeated (count / 4) (Some (Numeral (byte_word 4 b)) ∷ []) ++ rest_of_bytes count b

abbrev mutual
  pub first_words : Shape → Words
  first_words (NumberShape z narrow) = Some (Numeral z) ∷ []
  first_words (PointerShape pointer) = Some (Numeral (pos 0)) ∷ []
  first_words SetShape = repeated 8 (Some (Numeral (pos 0)) ∷ [])
  first_words (ByteShape count b) = words_of_bytes count b
  first_words (ArrayShape count shape) = repeated count (first_words shape)
  first_words (RecordShape shapes) = fields_words shapes

  pub fields_words : Shapes → Words
  fields_words no_shape = []
  fields_words (shape_before shape rest) = first_words shape ++ fields_words rest

-- ---- how many there are, and that all are written

pub no_zero : (n : ℕ) → nat_eq n 0 ≡ false → n ≡ 0 → ⊥
no_zero n q e = absurd (let r : nat_eq n 0 ≡ true = eq-eqb n 0 e in no_both (nat_eq n 0) r q)
  where
    no_both : (b : Bool) → b ≡ true → b ≡ false → ⊥
    no_both true r q = absurd (cc)
    no_both false r q = absurd (cc)

rest_length : (count : ℕ) (b : ℤ) → count / 4 + length (rest_of_bytes count b) ≡ (count + 3) / 4
rest_length count b = go (nat_eq (count % 4) 0) refl
  where
    go : (t : Bool) → nat_eq (count % 4) 0 ≡ t → count / 4 + length
        (if t then [] else (Some (Numeral (byte_word (count % 4) b)) ∷ [])) ≡ (count + 3) / 4
    go true q = let e = eqb-true (count % 4) 0 q in omega (arith, e)
    go false q = let ne : count % 4 ≡ 0 → ⊥ = no_zero (count % 4) q in omega (arith, ne)

mutual
  pub first_counted : (shape : Shape) → length (first_words shape) ≡ word_count shape
  first_counted (NumberShape z narrow) = refl
  first_counted (PointerShape pointer) = refl
  first_counted SetShape = refl
  first_counted (ByteShape count b) =
      let one = repeated_length (count / 4) (Some (Numeral (byte_word 4 b)) ∷ []) in
      let both = length-append (repeated (count / 4) (Some (Numeral (byte_word 4 b)) ∷ [])) (rest_of_bytes count b) in
      let more = rest_length count b in
      omega (arith, one, both, more)
  first_counted (ArrayShape count shape) = repeated_length count (first_words shape) ∙ ap (λ n. count * n)
      (first_counted shape)
  first_counted (RecordShape shapes) = fields_counted shapes

  fields_counted : (shapes : Shapes) → length (fields_words shapes) ≡ word_counts shapes
  fields_counted no_shape = refl
  fields_counted (shape_before shape rest) =
      let a = first_counted shape in
      let b = fields_counted rest in
      let both = length-append (first_words shape) (fields_words rest) in
      omega (arith, a, b, both)

rest_written : (count : ℕ) (b : ℤ) → AreWritten (rest_of_bytes count b)
rest_written count b = go (nat_eq (count % 4) 0)
  where
    go : (t : Bool) → AreWritten (if t then [] else (Some (Numeral (byte_word (count % 4) b)) ∷ []))
    go true = tt
    go false = tt

mutual
  pub first_written : (shape : Shape) → AreWritten (first_words shape)
  first_written (NumberShape z narrow) = tt
  first_written (PointerShape pointer) = tt
  first_written SetShape = tt
  first_written (ByteShape count b) = written_both (repeated (count / 4) (Some (Numeral (byte_word 4 b)) ∷ []))
      (rest_of_bytes count b) (written_repeated (count / 4) (Some (Numeral (byte_word 4 b)) ∷ []) tt)
      (rest_written count b)
  first_written (ArrayShape count shape) = written_repeated count (first_words shape) (first_written shape)
  first_written (RecordShape shapes) = fields_written shapes

  fields_written : (shapes : Shapes) → AreWritten (fields_words shapes)
  fields_written no_shape = tt
  fields_written (shape_before shape rest) = written_both (first_words shape) (fields_words rest) (first_written shape)
      (fields_written rest)

-- ---- first values have these words

-- what the first value of a type is as a number
number_first : (type : DataType) → number_of (first type) ≡ first_of type
number_first (OrdinalType o) = refl
number_first (PointerType number) = refl
number_first NilType = refl
number_first (SetType denoter packing b) = refl
number_first EmptySetType = refl
number_first (TextType n) = refl
number_first (ArrayType at packed index component) = refl
number_first (RecordType at packed (field_list names types)) = refl

each_copied : (n : ℕ) (words : Value → Words) (v : Value) → each n words (copies n v) ≡ repeated n (words v)
each_copied zero words v = refl
each_copied (suc n) words v = ap (λ ws. words v ++ ws) (each_copied n words v)

-- a byte is itself modulo 256
byte_is : (v : Value) (m : ℕ) → number_of v ≡ pos m → m ≤ 255 → byte_of v ≡ m
byte_is v m e l = ap (λ z. unsigned_abs z % 256) e ∙ (let q : m % 256 ≡ m = omega (arith, l) in q)

bytes_copied : (n : ℕ) (v : Value) (m : ℕ) → byte_of v ≡ m → constant_words (filled (bytes_of n (copies n v)))
    ≡ words_of_bytes n (pos m)
bytes_copied zero v m e = refl
bytes_copied (suc zero) v m e = ap (λ b. constant_words (filled (b ∷ []))) e
    ∙ ap (λ z. Some (Numeral (number_of_word z)) ∷ [])
    (let q : m + 256 * 0 + 65536 * 0 + 16777216 * 0 ≡ bytes_below 1 m = omega arith in q)
bytes_copied (suc (suc zero)) v m e = ap (λ b. constant_words (filled (b ∷ b ∷ []))) e
    ∙ ap (λ z. Some (Numeral (number_of_word z)) ∷ [])
    (let q : m + 256 * m + 65536 * 0 + 16777216 * 0 ≡ bytes_below 2 m = omega arith in q)
bytes_copied (suc (suc (suc zero))) v m e = ap (λ b. constant_words (filled (b ∷ b ∷ b ∷ []))) e
    ∙ ap (λ z. Some (Numeral (number_of_word z)) ∷ [])
    (let q : m + 256 * m + 65536 * m + 16777216 * 0 ≡ bytes_below 3 m = omega arith in q)
bytes_copied (suc (suc (suc (suc n)))) v m e =
    let q : m + 256 * m + 65536 * m + 16777216 * m ≡ bytes_below 4 m = omega arith in
    let d : suc (suc (suc (suc n))) / 4 ≡ suc (n / 4) = omega arith in
    let r : suc (suc (suc (suc n))) % 4 ≡ n % 4 = omega arith in
    ap (λ b. Some (Numeral (number_of_word (b + 256 * b + 65536 * b + 16777216 * b))) ∷ constant_words
    (filled (bytes_of n (copies n v)))) e
    ∙ ap (λ z. Some (Numeral (number_of_word z)) ∷ constant_words (filled (bytes_of n (copies n v)))) q
    ∙ ap (λ ws. Some (Numeral (byte_word 4 (pos m))) ∷ ws) (bytes_copied n v m e)
    ∙ sym (ap (λ z. repeated z (Some (Numeral (byte_word 4 (pos m))) ∷ []) ++ rest_of_bytes (suc (suc (suc (suc n))))
    (pos m)) d
    ∙ ap (λ z. repeated (suc (n / 4)) (Some (Numeral (byte_word 4 (pos m))) ∷ [])
    ++ (if nat_eq z 0 then [] else (Some (Numeral (byte_word z (pos m))) ∷ []))) r)

-- bytes of a first value that is one
first_bytes : (n : ℕ) (v : Value) (z : ℤ) → number_of v ≡ z → FirstFits (ByteShape n z) → constant_words
    (filled (bytes_of n (copies n v))) ≡ words_of_bytes n z
first_bytes n v (pos m) e f = bytes_copied n v m (byte_is v m e
    (leb-true m 255 (and_second (nat_le 0 m) (nat_le m 255) f)))
first_bytes n v (negsuc m) e f = absurd (cc)

array_is : (b : Bool) (n : ℕ) (component : DataType) → FirstFits
    (if b then ByteShape n (first_of component) else ArrayShape n (shape_of component))
    → (FirstFits (shape_of component) → value_words (shape_of component) (first component) ≡ first_words
    (shape_of component))
    → value_words (if b then ByteShape n (first_of component) else ArrayShape n (shape_of component))
    (StructureValue (copies n (first component))) ≡ first_words
    (if b then ByteShape n (first_of component) else ArrayShape n (shape_of component))
array_is true n component f h = first_bytes n (first component) (first_of component) (number_first component) f
array_is false n component f h = each_copied n (λ u. value_words (shape_of component) u) (first component)
    ∙ ap (repeated n) (h f)

mutual
  pub first_is : (type : DataType) → FirstFits (shape_of type) → value_words (shape_of type) (first type) ≡ first_words
      (shape_of type)
  first_is (OrdinalType o) f = refl
  first_is (PointerType number) f = refl
  first_is NilType f = refl
  first_is (SetType denoter packing b) f = refl
  first_is EmptySetType f = refl
  first_is (TextType n) f = first_bytes n (OrdinalValue (pos 0)) (pos 0) refl f
  first_is (ArrayType at packed index component) f = array_is (packed && fits_byte component)
      (value_count index) component f (λ g. first_is component g)
  first_is (RecordType at packed (field_list names types)) f = fields_are types f

  fields_are : (types : DataTypes) → FieldsFit (shapes_of types) → field_words (shapes_of types) (first_of_each types)
      ≡ fields_words (shapes_of types)
  fields_are no_type f = refl
  fields_are (type_before type rest) f = ap (λ ws. ws ++ field_words (shapes_of rest) (first_of_each rest))
      (first_is type f.0) ∙ ap (λ ws. first_words (shape_of type) ++ ws) (fields_are rest f.1)

-- ---- and these shapes

bytes_are : (n : ℕ) (v : Value) (z : ℤ) → number_of v ≡ z → FirstFits (ByteShape n z) → AreByteValues n (copies n v)
bytes_are zero v z e f = tt
bytes_are (suc n) v z e f = (ap (λ x. is_between (pos 0) x (pos 255)) e ∙ f, bytes_are n v z e f)

components_are : (made : List ℕ) (n : ℕ) (v : Value) (shape : Shape) → HasShape made v shape → KeepsByte v shape
    → HaveShape made (copies n v) n shape
components_are made zero v shape h kept = tt
components_are made (suc n) v shape h kept = (h, kept, components_are made n v shape h kept)

array_keeps : (b : Bool) (n m : ℕ) (first : ℤ) (shape : Shape) (v : Value) → KeepsByte v
    (if b then ByteShape n first else ArrayShape m shape)
array_keeps true n m first shape v = tt
array_keeps false n m first shape v = tt

first_keeps : (type : DataType) → FirstFits (shape_of type) → KeepsByte (first type) (shape_of type)
first_keeps (OrdinalType o) f = f.1
first_keeps (PointerType number) f = tt
first_keeps NilType f = tt
first_keeps (SetType denoter packing b) f = tt
first_keeps EmptySetType f = tt
first_keeps (TextType n) f = tt
first_keeps (ArrayType at packed index component) f = array_keeps (packed && fits_byte component) (value_count index)
    (value_count index) (first_of component) (shape_of component) (first (ArrayType at packed index component))
first_keeps (RecordType at packed fields) f = tt

array_has : (made : List ℕ) (b : Bool) (n : ℕ) (component : DataType) → FirstFits
    (if b then ByteShape n (first_of component) else ArrayShape n (shape_of component))
    → (FirstFits (shape_of component) → HasShape made (first component) (shape_of component))
    → HasShape made (StructureValue (copies n (first component)))
    (if b then ByteShape n (first_of component) else ArrayShape n (shape_of component))
array_has made true n component f h = bytes_are n (first component) (first_of component) (number_first component) f
array_has made false n component f h = components_are made n (first component) (shape_of component) (h f)
    (first_keeps component f)

-- the first value of a type has its shape
mutual
  pub first_has_shape : (made : List ℕ) (type : DataType) → FirstFits (shape_of type) → HasShape made (first type)
      (shape_of type)
  first_has_shape made (OrdinalType o) f = f.0
  first_has_shape made (PointerType number) f = tt
  first_has_shape made NilType f = tt
  first_has_shape made (SetType denoter packing b) f = tt
  first_has_shape made EmptySetType f = tt
  first_has_shape made (TextType n) f = bytes_are n (OrdinalValue (pos 0)) (pos 0) refl f
  first_has_shape made (ArrayType at packed index component) f = array_has made (packed && fits_byte component)
      (value_count index) component f (λ g. first_has_shape made component g)
  first_has_shape made (RecordType at packed (field_list names types)) f = fields_have made types f

  fields_have : (made : List ℕ) (types : DataTypes) → FieldsFit (shapes_of types) → HaveShapes made
      (first_of_each types) (shapes_of types)
  fields_have made no_type f = tt
  fields_have made (type_before type rest) f = (first_has_shape made type f.0, fields_have made rest f.1)
