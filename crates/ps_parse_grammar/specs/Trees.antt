-- Which tree a text's tokens have. The limit on heights is this project's choice.
use Rattle.std.specs.Prelude.{ℕ, ◌≤◌, ◌↔◌, Bool, List}
use Rattle.ps_text.specs.declared.Span.{Span}
use Rattle.ps_syntax.specs.declared.program.Program.{Program}
use Rattle.ps_syntax.specs.Height.{height_of}
use Rattle.ps_parse_grammar.specs.Symbols.{Tokens}
use Rattle.ps_parse_grammar.specs.Programs.{Derives, DerivesWithin}
use Rattle.ps_parse_grammar.specs.Forward.{is_forward}
use Rattle.ps_parse_grammar.specs.declared.TheConstants.{MAX_HEIGHT}

-- The tree derives from the tokens of the text, within as many levels as the limit allows: it isn't too high.
pub record IsTreeOf (text : List ℕ) (ts : Tokens) (p : Program) : Type 0 where
  pub derives : DerivesWithin (is_forward text) MAX_HEIGHT ts p

-- A tree derives within n levels if and only if it derives and is at most n high.
abbrev pub LevelsAreHeights : Type 0
LevelsAreHeights = (f : Span → Bool) (n : ℕ) (ts : Tokens) (p : Program) → DerivesWithin f n ts p
    ↔ (Derives f ts p × (height_of p ≤ n))
