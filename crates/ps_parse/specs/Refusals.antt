-- The numbers of refusals, and the lines and places at which they are reported (this project's format).
use Rattle.std.specs.Prelude.{ℕ, min, List, [], ◌∷◌, length, drop, Option, Some, None}
use Rattle.ps_text.specs.declared.Span.{Span}
use Rattle.ps_text.specs.Lines.{line_at}
use Rattle.ps_parse_grammar.specs.Symbols.{Tokens}
use Rattle.ps_parse.specs.declared.error.ParseFault.{ParseFault}
use Rattle.ps_parse.specs.declared.error.ParseFault.TheVariants.{NotAProgram, TooDeep, NotInProfile}
use Rattle.ps_parse.specs.declared.error.ParseRefusal.{ParseRefusal}
use Rattle.ps_parse.specs.declared.error.ParseRefusal.TheVariants.{OutOfMemory, Faulty}

abbrev pub number_of_fault : ParseFault → ℕ
number_of_fault NotAProgram = 20
number_of_fault TooDeep = 21
number_of_fault NotInProfile = 22

abbrev pub number_of : ParseRefusal → ℕ
number_of OutOfMemory = 9
number_of (Faulty fault line at from to) = number_of_fault fault

abbrev pub line_of : ParseRefusal → Option ℕ
line_of OutOfMemory = None
line_of (Faulty fault line at from to) = Some line

abbrev pub place_of : ParseRefusal → Option Span
place_of OutOfMemory = None
place_of (Faulty fault line at from to) = Some (record { from = from; to = to })

-- where the first of some tokens of a text begins; the end of the text if there is none
abbrev pub first_place : List ℕ → Tokens → ℕ
first_place text [] = length text
first_place text (t ∷ ts) = min t.span.from (length text)

-- the line of the token with a given number, counted from 0
abbrev pub token_line : List ℕ → Tokens → ℕ → ℕ
token_line text ts at = line_at text (first_place text (drop at ts))

-- the span of the first of some tokens of a text; an empty one at the end of the text if there is none
abbrev pub first_span : List ℕ → Tokens → Span
first_span text [] = record { from = length text; to = length text }
first_span text (t ∷ ts) = t.span

-- what is reported of the token with a given number
abbrev pub refusal_at : List ℕ → Tokens → ℕ → ParseFault → ParseRefusal
refusal_at text ts at fault = Faulty fault (token_line text ts at) (min at 4294967295)
    (first_span text (drop at ts)).from (first_span text (drop at ts)).to
