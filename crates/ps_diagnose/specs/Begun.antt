-- Whether tokens begin a program (ISO 7185 6.2 to 6.10).
use Rattle.std.specs.Prelude.{◌≡◌, ℕ, ◌+◌, ◌<◌, ◌⊎◌, List, [], ◌∷◌, ◌++◌, length, All, AllPairs}
use Rattle.std.specs.List.{Contains}
use Rattle.ps_text.specs.declared.Span.{Span}
use Rattle.ps_scan.specs.declared.token.Kind.{Kind}
use Rattle.ps_parse_grammar.specs.Symbols.{Tokens, token}
use Rattle.ps_parse.specs.Begun.{Begins}
use Rattle.ps_parse.specs.Untaken.{IsRefusedAt}
use Rattle.ps_parse.specs.declared.error.ParseFault.TheVariants.{TooDeep}
use Rattle.ps_diagnose.specs.declared.begun.Answer.{Answer}
use Rattle.ps_diagnose.specs.declared.begun.Answer.TheVariants.{Begun, NotBegun, Unknown}

-- before the last token a construction is nested too deeply: with it and those before it a program begins, which is too
-- high
abbrev pub LieTooDeep : List ℕ → Tokens → Type 0
LieTooDeep text ts = (at : ℕ) × (at + 1 < length ts) × IsRefusedAt text ts at TooDeep

-- what an answer says of tokens
abbrev pub Tells : List ℕ → Tokens → Answer → Type 0
Tells text ts Begun = Begins text ts
Tells text ts NotBegun = Begins text ts → ⊥
Tells text ts Unknown = LieTooDeep text ts

-- the place of a token that is not in any text
abbrev pub nowhere : Span
nowhere = record { from = 4294967295; to = 4294967295 }

-- some tokens, and one more of this kind
abbrev pub one_more : Tokens → Kind → Tokens
one_more ts kind = ts ++ (token kind nowhere) ∷ []

-- a token of that kind could come after them
abbrev pub CouldStand : List ℕ → Tokens → Kind → Type 0
CouldStand text ts kind = Begins text (one_more ts kind)

-- whether a token of this kind could come after them is known, unless one is nested too deeply: the kind is listed, or
-- it could not
abbrev pub IsSettled : List ℕ → Tokens → List Kind → Kind → Type 0
IsSettled text ts given kind =
    Contains given kind ⊎ ((CouldStand text ts kind → ⊥) ⊎ LieTooDeep text (one_more ts kind))

-- none is listed twice
abbrev pub AreApart : List Kind → Type 0
AreApart given = AllPairs (λ one other. one ≡ other → ⊥) given

-- these kinds were tried, and those of them that could come there are listed, each once
pub record Asked (text : List ℕ) (ts : Tokens) (asked given : List Kind) : Type 0 where
  pub stand : All (CouldStand text ts) given
  pub settled : All (IsSettled text ts given) asked
  pub apart : AreApart given
  pub among : (kind : Kind) → Contains given kind → Contains asked kind

-- exactly the kinds that could come there are listed, each once: with one more token of such a kind they begin a
-- program, and with none of the others
pub record Expects (text : List ℕ) (ts : Tokens) (given : List Kind) : Type 0 where
  pub stand : All (CouldStand text ts) given
  pub settled : (kind : Kind) → IsSettled text ts given kind
  pub apart : AreApart given
