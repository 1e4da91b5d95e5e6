-- Spellings of names (ISO 7185, 6.1.3), and the lines of tokens.
pub use Rattle.ps_tree.specs.Names.{same, has, place}
use Rattle.std.specs.Prelude.{ℕ, ◌&&◌, List, [], nat_le, if◌then◌else◌, length, min, slice_range}
use Rattle.ps_text.specs.declared.Span.{Span}
use Rattle.ps_text.specs.Lines.{line_at}
use Rattle.ps_scan.specs.Values.{spelling}

-- the bytes of a span; none if it isn't within the text
abbrev pub bytes_at : List ℕ → Span → List ℕ
bytes_at text at = if nat_le at.from at.to && nat_le at.to (length text) then slice_range text at.from at.to else []

-- the spelling of the name at this place
abbrev pub spelled : List ℕ → Span → List ℕ
spelled text at = spelling (bytes_at text at)

-- the line of an offset; after the end, that of the end
abbrev pub line_in : List ℕ → ℕ → ℕ
line_in text at = line_at text (min at (length text))
