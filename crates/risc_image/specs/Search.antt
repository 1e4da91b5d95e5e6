-- Rows with ascending first words.
use Rattle.std.specs.Prelude.{ℕ, ◌*◌, ◌<◌, List, slice_index}

-- the first words of the first `count` rows of `width` words ascend
abbrev pub KeysRise : (width count : ℕ) → List ℕ → Type 0
KeysRise width count ws = (j k : ℕ) → j < k → k < count → slice_index ws (width * j) < slice_index ws (width * k)
