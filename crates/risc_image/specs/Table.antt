-- The words that bytes spell, and the rows that words spell.
use Rattle.std.specs.Prelude.{ℕ, nat_eq, List, [], ◌∷◌, Option, find}
use Rattle.std.specs.Int.{w32, from_le_bytes}
use Rattle.risc_image.specs.declared.rows.FrameRow.{FrameRow}
use Rattle.risc_image.specs.declared.rows.ObjectRow.{ObjectRow}
use Rattle.risc_image.specs.declared.rows.TrapRow.{TrapRow}
use Rattle.risc_image.specs.declared.rows.CallRow.{CallRow}

-- four bytes a word, the lowest byte first
abbrev pub words : List ℕ → List ℕ
words (a ∷ b ∷ c ∷ d ∷ rest) = from_le_bytes w32 (a ∷ b ∷ c ∷ d ∷ []) ∷ words rest
words _ = []

abbrev pub frame_rows : List ℕ → List FrameRow
frame_rows (entry ∷ bytes ∷ rest) = record { entry = entry; bytes = bytes } ∷ frame_rows rest
frame_rows _ = []

abbrev pub object_rows : List ℕ → List ObjectRow
object_rows (pointer_type ∷ bytes ∷ rest) = record { pointer_type = pointer_type; bytes = bytes } ∷ object_rows rest
object_rows _ = []

abbrev pub trap_rows : List ℕ → List TrapRow
trap_rows (link ∷ error ∷ line ∷ rest) = record { link = link; error = error; line = line } ∷ trap_rows rest
trap_rows _ = []

abbrev pub call_rows_of : List ℕ → List CallRow
call_rows_of (link ∷ line ∷ rest) = record { link = link; line = line } ∷ call_rows_of rest
call_rows_of _ = []

-- the row of a link
abbrev pub trap_at : ℕ → List TrapRow → Option TrapRow
trap_at link rows = find (λ row. nat_eq row.link link) rows

abbrev pub call_at : ℕ → List CallRow → Option CallRow
call_at link rows = find (λ row. nat_eq row.link link) rows
