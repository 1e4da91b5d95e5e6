-- The lines of a text, and its limits (this project's format).
use Rattle.std.specs.Prelude.{if◌then◌else◌, [], ◌∷◌, ℕ, ◌+◌, ◌≤◌, ◌==◌, Bool, List, length, take, count_by}
use Rattle.ps_text.specs.declared.TheConstants.{MAX_LENGTH, MAX_LINES}

-- byte 10 ends a line
abbrev pub is_line_end : ℕ → Bool
is_line_end byte = byte == 10

-- the number of lines in a text: 1 plus the number of its bytes 10
abbrev pub line_count : List ℕ → ℕ
line_count text = 1 + count_by is_line_end text

-- the line of an offset: 1 plus the number of bytes 10 before it
abbrev pub line_at : List ℕ → ℕ → ℕ
line_at text offset = line_count (take offset text)

-- a text within the limits
pub record IsSource (text : List ℕ) : Type 0 where
  pub length_fits : length text ≤ MAX_LENGTH
  pub lines_fit : line_count text ≤ MAX_LINES

-- the offsets of the bytes 10, where the first byte is at a given offset
abbrev pub line_ends : ℕ → List ℕ → List ℕ
line_ends offset [] = []
line_ends offset (b ∷ bs) = if is_line_end b then offset ∷ line_ends (offset + 1) bs else line_ends (offset + 1) bs
