-- How the tokens of a text are read.
use Rattle.std.specs.Prelude.{ℕ, List}
use Rattle.ps_syntax.specs.declared.program.Program.{Program}
use Rattle.ps_parse_grammar.specs.Forward.{is_forward}
use Rattle.ps_parse.specs.Steps.{Parser}
use Rattle.ps_parse.specs.ReadPrograms.{program, read_block}

-- where a program's height is at most n
abbrev pub reading : List ℕ → ℕ → Parser Program
reading text n = program (is_forward text) (read_block (is_forward text) n)
