-- What a refusal says of the token at which it is reported: it is the first that no derivation takes, and why (this
-- project's format).
use Rattle.std.specs.Prelude.{◌≡◌, ◌≢◌, ℕ, ◌≤◌, List, [], ◌∷◌, ◌++◌, length, min, take, drop, Option, Some, None}
use Rattle.ps_text.specs.declared.Span.{Span}
use Rattle.ps_syntax.specs.declared.program.Program.{Program}
use Rattle.ps_parse_grammar.specs.Symbols.{Tokens}
use Rattle.ps_parse_grammar.specs.Trees.{IsTreeOf}
use Rattle.ps_parse.specs.Steps.{sees}
use Rattle.ps_scan.specs.declared.token.Kind.TheVariants as k
use Rattle.ps_parse.specs.Refusals.{token_line, first_span}
use Rattle.ps_parse.specs.Begun.{Begins, BeginsUntil}
use Rattle.ps_parse.specs.LeftOut.{in_place_of}
use Rattle.ps_parse.specs.Low.{IsLow, EndsLow}
use Rattle.ps_parse.specs.declared.error.ParseFault.{ParseFault}
use Rattle.ps_parse.specs.declared.error.ParseFault.TheVariants.{NotAProgram, TooDeep, NotInProfile}
use Rattle.ps_parse.specs.declared.error.ParseRefusal.{ParseRefusal}
use Rattle.ps_parse.specs.declared.error.ParseRefusal.TheVariants.{OutOfMemory, Faulty}

-- No derivation accepts the first of some tokens after those before it: whatever follows, nothing that begins with
-- those before and this one has a tree. If there is no such token, those before have none.
abbrev pub NoneTakes : List ℕ → Tokens → Tokens → Type 0
NoneTakes text before [] = (p : Program) → IsTreeOf text before p → ⊥
NoneTakes text before (t ∷ ts) = (behind : Tokens) (p : Program) → IsTreeOf text (before ++ t ∷ behind) p → ⊥

-- the same for the token with a given number, counted from 0
abbrev pub NoneTakesAt : List ℕ → Tokens → ℕ → Type 0
NoneTakesAt text ts at = NoneTakes text (take at ts) (drop at ts)

-- ---- why no derivation takes it

-- together with those before it the token begins a program, which is only too high; the end of the text is not a token
abbrev pub IsTooHigh : List ℕ → Tokens → Tokens → Type 0
IsTooHigh text before [] = ⊥
IsTooHigh text before (t ∷ ts) = Begins text (before ++ t ∷ [])

-- together with those before them some tokens begin a program
abbrev pub CouldStand : List ℕ → Tokens → Option Tokens → Type 0
CouldStand text before None = ⊥
CouldStand text before (Some others) = Begins text (before ++ others)

-- the token belongs to a construction that the profile leaves out, where the standard accepts it
abbrev pub IsLeftOut : List ℕ → Tokens → Tokens → Type 0
IsLeftOut text before [] = ⊥
IsLeftOut text before (t ∷ ts) = CouldStand text before (in_place_of t.kind (sees k.Colon ts))

-- so exactly one of three faults is reported
abbrev pub IsFault : List ℕ → Tokens → Tokens → ParseFault → Type 0
IsFault text before behind TooDeep = IsTooHigh text before behind
IsFault text before behind NotInProfile = (IsTooHigh text before behind → ⊥) × IsLeftOut text before behind
IsFault text before behind NotAProgram = (IsTooHigh text before behind → ⊥) × (IsLeftOut text before behind → ⊥)

-- what a fault at the token with a given number, counted from 0, says of some tokens
pub record IsRefusedAt (text : List ℕ) (ts : Tokens) (at : ℕ) (fault : ParseFault) : Type 0 where
  pub within : at ≤ length ts
  -- what comes before the token begins a program; with the token it begins none that is low enough
  pub begun : BeginsUntil text ts at
  pub untaken : NoneTakesAt text ts at
  -- no construction before the token is nested in too many others, and with it one is, or there is no program at all:
  -- so there is only one such token
  pub low : IsLow text (take at ts)
  pub ends_low : EndsLow text (take at ts) (drop at ts)
  pub is_fault : IsFault text (take at ts) (drop at ts) fault

-- The same, with the line and place at which it is reported, and its number as far as that goes.
pub record IsToldAt (text : List ℕ) (ts : Tokens) (fault : ParseFault) (line token : ℕ) (place : Span) : Type 0 where
  pub at : ℕ
  pub refused : IsRefusedAt text ts at fault
  pub on_line : line ≡ token_line text ts at
  pub numbered : token ≡ min at 4294967295
  pub placed : place ≡ first_span text (drop at ts)

-- running out of memory says nothing
abbrev pub IsTold : List ℕ → Tokens → ParseRefusal → Type 0
IsTold text ts OutOfMemory = Unit {0}
IsTold text ts (Faulty fault line token from to) = IsToldAt text ts fault line token (record { from = from; to = to })

-- Only one refusal is reported for tokens, except when out of memory.
abbrev pub RefusalsAreOne : Type 0
RefusalsAreOne = (text : List ℕ) (ts : Tokens) (x y : ParseRefusal) → IsTold text ts x → IsTold text ts y
    → x ≢ OutOfMemory → y ≢ OutOfMemory → x ≡ y
