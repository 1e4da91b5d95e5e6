-- The words of values.
pub use Rattle.ps_tree.specs.Characters.{filled}
use Rattle.std.specs.Prelude.{ℕ, zero, suc, ◌+◌, ◌*◌, ◌%◌, pos, unsigned_abs, Bool, if◌then◌else◌, List, [], ◌∷◌, ◌++◌}
use Rattle.std.specs.Prelude.{Some}
use Rattle.tac_code.specs.declared.code.Block.TheVariants.{Object}
use Rattle.tac_code.specs.declared.code.Value.{Value as Word}
use Rattle.tac_code.specs.declared.code.Value.TheVariants.{Number, Address}
use Rattle.tac_code.specs.Numbers.{number_of as number_of_word}
use Rattle.tac_code.specs.Memory.{Words, constant_words}
use Rattle.ps_meaning.specs.Values.{Value, ObjectValue, Values, number_of, set_of, components_of, nth, values_from}
use Rattle.ps_lower_layout.specs.Shapes.{Shape, NumberShape, PointerShape, SetShape, ByteShape, ArrayShape}
use Rattle.ps_lower_layout.specs.Shapes.{RecordShape, Shapes, no_shape, shape_before}

-- nil is 0, and a pointer the address of its object
abbrev pub pointer_word : Value → Word
pointer_word (ObjectValue object) = Address (Object object) 0
pointer_word _ = Number (pos 0)

-- the first n components as bytes
abbrev pub byte_of : Value → ℕ
byte_of v = unsigned_abs (number_of v) % 256

abbrev pub bytes_of : ℕ → Values → List ℕ
bytes_of zero vs = []
bytes_of (suc n) vs = byte_of (nth vs 0) ∷ bytes_of n (values_from vs 1)

-- which numbers from k on are members, as n bits: k is the lowest bit
abbrev pub bits_from : ℕ → ℕ → (ℕ → Bool) → ℕ
bits_from zero k s = 0
bits_from (suc n) k s = (if s k then 1 else 0) + 2 * bits_from n (suc k) s

-- n words of 32 members each, the first word from k on
abbrev pub set_words_from : ℕ → ℕ → (ℕ → Bool) → Words
set_words_from zero k s = []
set_words_from (suc n) k s = Some (Number (number_of_word (bits_from 32 k s))) ∷ set_words_from n (k + 32) s

abbrev pub set_words : (ℕ → Bool) → Words
set_words s = set_words_from 8 0 s

-- the words of the first n components
abbrev pub each : ℕ → (Value → Words) → Values → Words
each zero words vs = []
each (suc n) words vs = words (nth vs 0) ++ each n words (values_from vs 1)

-- the words of a value in a variable of a shape: always as many as the shape has
abbrev mutual
  pub value_words : Shape → Value → Words
  value_words (NumberShape first narrow) v = Some (Number (number_of v)) ∷ []
  value_words (PointerShape pointer) v = Some (pointer_word v) ∷ []
  value_words SetShape v = set_words (set_of v)
  value_words (ByteShape count first) v = constant_words (filled (bytes_of count (components_of v)))
  value_words (ArrayShape count shape) v = each count (λ u. value_words shape u) (components_of v)
  value_words (RecordShape shapes) v = field_words shapes (components_of v)

  pub field_words : Shapes → Values → Words
  field_words no_shape vs = []
  field_words (shape_before shape rest) vs = value_words shape (nth vs 0) ++ field_words rest (values_from vs 1)
