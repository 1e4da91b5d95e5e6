-- The listing of an image, as bytes: a line for each word of its code (this project's own form).
use Rattle.std.specs.Prelude.{ℕ, ◌+◌, ◌-◌, List, [], ◌∷◌, ◌++◌, length, replicate, Option, Some, None, true, codes}
use Rattle.std.specs.Prelude.{decimal}
use Rattle.std.specs.Fmt.{digits}
use Rattle.risc_word.specs.Words.{instr_at}
use Rattle.risc_word.specs.Printed.{printed}
use Rattle.risc_image.specs.Image.{Image}
use Rattle.risc_image.specs.Table.{trap_at}
use Rattle.risc_image.specs.declared.rows.TrapRow.{TrapRow}
use Rattle.risc_word.specs.declared.instr.Instr.{Instr}

-- the digits of a number to the base of 16, capitals, with zeros before them up to a width
abbrev pub hexadecimal : ℕ → ℕ → List ℕ
hexadecimal width n = replicate (width - length (digits 16 true n)) 48 ++ digits 16 true n

abbrev pub text_of : Option Instr → List ℕ
text_of (Some instr) = printed instr
text_of None = codes "word"

-- the instruction of a word, or `word`
abbrev pub instruction_text : ℕ → List ℕ
instruction_text word = text_of (instr_at word)

-- the line of the text to which a trap belongs
abbrev pub line_text : Option TrapRow → List ℕ
line_text None = []
line_text (Some row) = codes " ; line " ++ decimal row.line

-- an address and its word
abbrev pub numbers_text : ℕ → ℕ → List ℕ
numbers_text address word = hexadecimal 6 address ++ codes " " ++ hexadecimal 8 word ++ codes " "

-- A word at an address. A trap's link is the address after its word.
abbrev pub listing_line : List TrapRow → ℕ → ℕ → List ℕ
listing_line traps address word = numbers_text address word ++ instruction_text word ++ line_text
    (trap_at (address + 4) traps) ++ codes "\n"

-- the lines of these words, the first of which has this address
abbrev pub listing_from : List TrapRow → ℕ → List ℕ → List ℕ
listing_from traps address [] = []
listing_from traps address (word ∷ rest) = listing_line traps address word ++ listing_from traps (address + 4) rest

abbrev pub listing : Image → List ℕ
listing image = listing_from image.traps 0 image.code
