-- Memory: live blocks of words. A word is unwritten or holds a value; bytes are those of words that hold numbers,
-- lowest first.
use Rattle.std.specs.Prelude.{ℕ, zero, suc, ◌+◌, ◌*◌, ◌/◌, ◌%◌, Bool, ◌&&◌, nat_eq, nat_lt, if◌then◌else◌, List, []}
use Rattle.std.specs.Prelude.{◌∷◌, length, slice_get, slice_set, Option, Some, None}
use Rattle.tac_code.specs.declared.code.Block.{Block}
use Rattle.tac_code.specs.declared.code.Block.TheVariants.{Frame, Scratch, Object, Constant}
use Rattle.tac_code.specs.declared.code.Value.{Value}
use Rattle.tac_code.specs.declared.code.Value.TheVariants.{Number, Address, Routine}
use Rattle.tac_code.specs.Numbers.{number_of, byte_of, with_byte}

abbrev pub Words : Type 0
Words = List (Option Value)

-- a block of an open activation: the activation's number, and the words
pub record Living : Type 0 where
  pub number : ℕ
  pub words : Words

-- the blocks of the open activations, innermost first, and the words of the objects in the order in which they were
-- made
pub record Memory : Type 0 where
  pub frames : List Living
  pub scratch : List Living
  pub objects : List Words

-- ---- the words of one block

abbrev pub known : Option (Option Value) → Option Value
known None = None
known (Some word) = word

abbrev pub is_aligned : ℕ → Bool
is_aligned offset = nat_eq (offset % 4) 0

-- the value at an offset: none if it is not a multiple of 4, is outside the block or was never written
abbrev pub word_at : Words → ℕ → Option Value
word_at words offset = if is_aligned offset then known (slice_get words (offset / 4)) else None

abbrev pub with_word : Words → ℕ → Value → Option Words
with_word words offset v =
    if is_aligned offset && nat_lt (offset / 4) (length words) then Some (slice_set words (offset / 4) (Some v))
    else None

-- a byte of a word: none unless the word is a number
abbrev pub byte_in : Option Value → ℕ → Option ℕ
byte_in None k = None
byte_in (Some (Number z)) k = Some (byte_of z k)
byte_in (Some (Address block offset)) k = None
byte_in (Some (Routine r)) k = None

abbrev pub byte_at : Words → ℕ → Option ℕ
byte_at words offset = byte_in (known (slice_get words (offset / 4))) (offset % 4)

abbrev pub changed_byte : Option Value → ℕ → ℕ → Option Value
changed_byte None k byte = None
changed_byte (Some (Number z)) k byte = Some (Number (with_byte z k byte))
changed_byte (Some (Address block offset)) k byte = None
changed_byte (Some (Routine r)) k byte = None

abbrev pub with_value : Words → ℕ → Option Value → Option Words
with_value words i None = None
with_value words i (Some v) = Some (slice_set words i (Some v))

abbrev pub with_byte_at : Words → ℕ → ℕ → Option Words
with_byte_at words offset byte =
    with_value words (offset / 4) (changed_byte (known (slice_get words (offset / 4))) (offset % 4) byte)

-- the words of a constant's bytes
abbrev pub constant_words : List ℕ → Words
constant_words [] = []
constant_words (a ∷ []) = []
constant_words (a ∷ b ∷ []) = []
constant_words (a ∷ b ∷ c ∷ []) = []
constant_words (a ∷ b ∷ c ∷ d ∷ rest) =
    Some (Number (number_of (a + 256 * b + 65536 * c + 16777216 * d))) ∷ constant_words rest

-- ---- blocks by their names

abbrev pub living : List Living → ℕ → Option Words
living [] number = None
living (b ∷ bs) number = if nat_eq b.number number then Some b.words else living bs number

-- the blocks with other words for one of them, if it is live and has such words
abbrev pub behind : Living → Option (List Living) → Option (List Living)
behind b None = None
behind b (Some bs) = Some (b ∷ bs)

abbrev pub instead : Living → List Living → Option Words → Option (List Living)
instead b bs None = None
instead b bs (Some words) = Some (record { number = b.number; words = words } ∷ bs)

abbrev pub changed : List Living → ℕ → (Words → Option Words) → Option (List Living)
changed [] number change = None
changed (b ∷ bs) number change =
    if nat_eq b.number number then instead b bs (change b.words) else behind b (changed bs number change)

abbrev pub instead_object : List Words → Option Words → Option (List Words)
instead_object bs None = None
instead_object bs (Some words) = Some (words ∷ bs)

abbrev pub behind_object : Words → Option (List Words) → Option (List Words)
behind_object b None = None
behind_object b (Some bs) = Some (b ∷ bs)

abbrev pub changed_object : List Words → ℕ → (Words → Option Words) → Option (List Words)
changed_object [] number change = None
changed_object (b ∷ bs) zero change = instead_object bs (change b)
changed_object (b ∷ bs) (suc number) change = behind_object b (changed_object bs number change)

abbrev pub constant_at : Option (List ℕ) → Option Words
constant_at None = None
constant_at (Some bytes) = Some (constant_words bytes)

-- The bytes of the constants, by the routine and the place of their instructions; the code has them.
abbrev pub Constants : Type 0
Constants = ℕ → ℕ → Option (List ℕ)

module _ (constants : Constants) (m : Memory) where
  -- the words of a live block
  abbrev pub words_in : Block → Option Words
  words_in (Frame a) = living m.frames a
  words_in (Scratch a) = living m.scratch a
  words_in (Object n) = slice_get m.objects n
  words_in (Constant r place) = constant_at (constants r place)

abbrev pub with_frames : Memory → Option (List Living) → Option Memory
with_frames m None = None
with_frames m (Some frames) = Some (record m { frames = frames })

abbrev pub with_scratch : Memory → Option (List Living) → Option Memory
with_scratch m None = None
with_scratch m (Some scratch) = Some (record m { scratch = scratch })

abbrev pub with_objects : Memory → Option (List Words) → Option Memory
with_objects m None = None
with_objects m (Some objects) = Some (record m { objects = objects })

-- the memory after a change in a block: none if it is not live or is a constant
abbrev pub changed_in : Memory → Block → (Words → Option Words) → Option Memory
changed_in m (Frame a) change = with_frames m (changed m.frames a change)
changed_in m (Scratch a) change = with_scratch m (changed m.scratch a change)
changed_in m (Object n) change = with_objects m (changed_object m.objects n change)
changed_in m (Constant r place) change = None

abbrev pub value_in : Option Words → ℕ → Option Value
value_in None offset = None
value_in (Some words) offset = word_at words offset

abbrev pub byte_value_in : Option Words → ℕ → Option ℕ
byte_value_in None offset = None
byte_value_in (Some words) offset = byte_at words offset

-- reads and writes by address
abbrev pub load : Constants → Memory → Block → ℕ → Option Value
load constants m block offset = value_in (words_in constants m block) offset

abbrev pub load_byte : Constants → Memory → Block → ℕ → Option ℕ
load_byte constants m block offset = byte_value_in (words_in constants m block) offset

abbrev pub store : Memory → Block → ℕ → Value → Option Memory
store m block offset v = changed_in m block (λ words. with_word words offset v)

abbrev pub store_byte : Memory → Block → ℕ → ℕ → Option Memory
store_byte m block offset byte = changed_in m block (λ words. with_byte_at words offset byte)
