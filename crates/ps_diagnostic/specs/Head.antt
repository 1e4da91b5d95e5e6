-- The first line of a message for people.
use Rattle.std.specs.Prelude.{ℕ, ◌+◌, ◌==◌, if◌then◌else◌, min, List, [], ◌∷◌, ◌++◌, length, take, Option, Some, None}
use Rattle.std.specs.Prelude.{codes, decimal, string_bytes}
use Rattle.ps_text.specs.declared.Span.{Span}
use Rattle.ps_text.specs.Lines.{line_at}
use Rattle.ps_diagnostic.specs.Printable.{printable}
use Rattle.ps_diagnostic.specs.declared.Severity.{Severity}
use Rattle.ps_diagnostic.specs.declared.Severity.TheVariants.{Error, Warning}
use Rattle.ps_diagnostic.specs.declared.Diagnostic.{Diagnostic}

-- one more byte of a line, or none of the next one
abbrev pub step : ℕ → ℕ → ℕ
step before byte = if byte == 10 then 0 else before + 1

-- how many bytes come after the last line end, if this many of a line come before
abbrev pub behind_line_end : ℕ → List ℕ → ℕ
behind_line_end before [] = before
behind_line_end before (b ∷ bs) = behind_line_end (step before b) bs

-- an offset, or the end if it is past that
abbrev pub within : List ℕ → ℕ → ℕ
within text offset = min (length text) offset

-- the column of an offset: 1 plus the bytes of its line before it
abbrev pub column_at : List ℕ → ℕ → ℕ
column_at text offset = behind_line_end 0 (take offset text) + 1

abbrev pub word : Severity → List ℕ
word Error = codes "error"
word Warning = codes "warning"

-- the place, if there is one, as editors read it
abbrev pub place_text : List ℕ → Option Span → List ℕ
place_text text None = []
place_text text (Some span) = codes ":" ++ decimal (line_at text (within text span.from)) ++ codes ":" ++ decimal
    (column_at text (within text span.from))

-- what it is: error NUMBER NAME
abbrev pub kind_text : Diagnostic → List ℕ
kind_text d = word d.severity ++ codes " " ++ decimal d.number ++ codes " " ++ d.name.now

-- FILE:LINE:COLUMN: error NUMBER NAME: TEXT, with the file's name and the text as a terminal shows them
abbrev pub head : List ℕ → List ℕ → Diagnostic → List ℕ
head file text d = printable file ++ place_text text d.place ++ codes ": " ++ kind_text d ++ codes ": "
    ++ printable (string_bytes d.text) ++ codes "\n"
