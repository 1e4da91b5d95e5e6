-- What is reported of texts, and of changed texts: what the front end says.
use Rattle.std.specs.Prelude.{◌≡◌, ◌<◌, ◌≤◌, ⊤, ℕ, Bool, true, false, List, [], ◌∷◌, All, Option, Some, None, unwrap_or}
use Rattle.ps_build.specs.Accepts.{IsAccepted, IsRefused}
use Rattle.ps_build.specs.Headline.{Compiles}
use Rattle.ps_build.specs.Refusals.{line_of, name_of, number_of, place_of}
use Rattle.ps_build.specs.declared.refusal.Place.{Place}
use Rattle.ps_build.specs.declared.refusal.Refusal.{Refusal}
use Rattle.ps_build.specs.declared.refusal.Refusal.TheVariants.{OutOfMemory}
use Rattle.ps_diagnose.specs.Changes.{changed_from}
use Rattle.ps_diagnostic.specs.declared.Diagnostic.{Diagnostic}
use Rattle.ps_diagnostic.specs.declared.Mend.{Mend}
use Rattle.ps_diagnostic.specs.declared.Outcome.{Outcome}
use Rattle.ps_diagnostic.specs.declared.Outcome.TheVariants as outcome
use Rattle.ps_advise.specs.declared.answer.Advice.{Advice}
use Rattle.ps_advise.specs.declared.mends.Graded.{Graded}
use Rattle.ps_advise.specs.declared.rest.Rest.{Rest}
use Rattle.ps_advise.specs.declared.trial.Verdict.{Verdict}
use Rattle.ps_text.specs.declared.Span.{Span}
use Rattle.ps_advise.specs.declared.trial.Verdict.TheVariants.{Accepted, Refused}

-- the text is refused, and not because out of memory
abbrev pub IsAtFault : List ℕ → Refusal → Type 0
IsAtFault text refusal = IsRefused text refusal × (refusal ≡ OutOfMemory → ⊥)

-- what a verdict says of a text
abbrev pub Says : List ℕ → Verdict → Type 0
Says text Accepted = IsAccepted text
Says text (Refused refusal) = IsAtFault text refusal

-- what an outcome says of the text that was tried: that it is accepted, or the line at which it is refused
abbrev pub Tells : List ℕ → Outcome → Type 0
Tells text outcome.Accepted = IsAccepted text
Tells text (outcome.FaultAt line) = (refusal : Refusal) × IsAtFault text refusal
    × (line ≡ unwrap_or (line_of refusal) 0)

-- what a mend says of a text is true of the text that results from it
abbrev pub IsMendOf : List ℕ → Mend → Type 0
IsMendOf text mend = Tells (changed_from text 0 mend.edits.items) mend.outcome

-- each of the mends is one of the text
abbrev pub AreMendsOf : List ℕ → List Mend → Type 0
AreMendsOf text mends = All (IsMendOf text) mends

-- the same of graded ones
abbrev pub AreGradedOf : List ℕ → List Graded → Type 0
AreGradedOf text mends = All (λ graded. IsMendOf text graded.mend) mends

-- the report has mends of this text only
abbrev pub HasMendsOf : List ℕ → Diagnostic → Type 0
HasMendsOf text told = AreMendsOf text told.mends.items

abbrev pub HaveMendsOf : List ℕ → List Diagnostic → Type 0
HaveMendsOf text all = All (HasMendsOf text) all

-- what is left of a text is the text itself, as long as nothing was taken out of it
abbrev pub IsRestOf : List ℕ → Rest → Type 0
IsRestOf text rest = rest.is_whole ≡ true → rest.text.items ≡ text

-- the text has an image, or it is refused
abbrev pub IsTold : List ℕ → Bool → Type 0
IsTold text true = (bytes : List ℕ) × Compiles text bytes
IsTold text false = (refusal : Refusal) × IsAtFault text refusal

-- the report has the number and the name of a refusal
abbrev pub Names : Refusal → Diagnostic → Type 0
Names refusal told = (told.number ≡ number_of refusal) × (told.name.now ≡ name_of refusal)

-- A span shows a place: it begins there, and doesn't end before it. The numbers up to 12 are those of characters, which
-- are shown whole, and of comments and strings, which are shown to the end of their line.
abbrev pub Shows : ℕ → Place → Span → Type 0
Shows number place span = (span.from ≡ place.from) × (place.to ≤ span.to) × (12 < number → span.to ≡ place.to)

-- the report has a place if the refusal has one
abbrev pub IsPlaced : ℕ → Option Place → Option Span → Type 0
IsPlaced number (Some place) (Some span) = Shows number place span
IsPlaced number None None = ⊤
IsPlaced number _ _ = ⊥

-- the report has the number, the name and the place of a refusal
abbrev pub Reports : Refusal → Diagnostic → Type 0
Reports refusal told = Names refusal told × IsPlaced (number_of refusal) (place_of refusal) told.place

-- the text is still the one that was given, and this is its refusal
abbrev pub IsFirst : Refusal → Rest → Type 0
IsFirst refusal rest = (rest.refusal ≡ refusal) × (rest.is_whole ≡ true)

-- nothing is reported yet, or a refusal first
abbrev pub MayBegin : Refusal → List Diagnostic → Type 0
MayBegin refusal [] = ⊤
MayBegin refusal (told ∷ rest) = Reports refusal told

-- a refusal is reported first
abbrev pub Begins : Refusal → List Diagnostic → Type 0
Begins refusal [] = ⊥
Begins refusal (told ∷ rest) = Reports refusal told

-- if a text is refused, its refusal is reported first
abbrev pub BeginsAsRefused : List ℕ → Bool → List Diagnostic → Type 0
BeginsAsRefused text true told = ⊤
BeginsAsRefused text false told = (refusal : Refusal) × IsAtFault text refusal × Begins refusal told

-- The text is reported as accepted if it has an image; otherwise it is refused, and that is reported first; and each
-- mend that is shown is a mend of it.
abbrev pub IsAdviceOn : List ℕ → Advice → Type 0
IsAdviceOn text advice = IsTold text advice.is_accepted × HaveMendsOf text advice.told.items
    × BeginsAsRefused text advice.is_accepted advice.told.items
