-- What a refusal says of the tokens before the one at which it is reported: they begin a program (this project's
-- format).
use Rattle.std.specs.Prelude.{ℕ, List, ◌++◌, take}
use Rattle.ps_syntax.specs.declared.program.Program.{Program}
use Rattle.ps_parse_grammar.specs.Symbols.{Tokens}
use Rattle.ps_parse_grammar.specs.Programs.{Derives}
use Rattle.ps_parse_grammar.specs.Forward.{is_forward}

-- Followed by some tokens they derive from `program`. Nothing is said of that program's height: if a construction is
-- nested as deeply as one may be, only a deeper one continues.
abbrev pub Begins : List ℕ → Tokens → Type 0
Begins text before = (behind : Tokens) × (p : Program) × Derives (is_forward text) (before ++ behind) p

-- the same for the tokens before the one with a given number, counted from 0
abbrev pub BeginsUntil : List ℕ → Tokens → ℕ → Type 0
BeginsUntil text ts at = Begins text (take at ts)
