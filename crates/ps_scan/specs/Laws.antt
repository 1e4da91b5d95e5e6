-- Laws of tokens and faults, each for all texts.
use Rattle.std.specs.Prelude.{◌≡◌, ◌<◌, ◌≤◌, List, length, All}
use Rattle.ps_text.specs.declared.Span.{Span}
use Rattle.ps_scan.specs.declared.refusal.ScanFault.{ScanFault}
use Rattle.ps_scan.specs.declared.token.Token.{Token}
use Rattle.ps_scan.specs.Tables.{Bytes}
use Rattle.ps_scan.specs.Lexis.{IsTokens}
use Rattle.ps_scan.specs.Spans.{AreOrdered, IsWithin}
use Rattle.ps_scan.specs.Faults.{RefusedFrom, Scanned, IsScanOf}

-- a text has one list of tokens or one first fault, and never both
abbrev pub EachTextIsScanned : Type 0
EachTextIsScanned = (text : Bytes)
    → (answer : Scanned) × IsScanOf text answer × ((other : Scanned) → IsScanOf text other → other ≡ answer)

-- the tokens of a text come one after the other within it
abbrev pub TokensStandInOrder : Type 0
TokensStandInOrder = (text : Bytes) (ts : List Token) → IsTokens text ts
    → AreOrdered 0 (length text) ts × All (IsWithin (length text)) ts

-- the place of a fault is within the text, and has at least one byte
abbrev pub FaultsStandWithin : Type 0
FaultsStandWithin = (text : Bytes) (why : ScanFault) (place : Span) → RefusedFrom 0 text why place
    → (place.from < place.to) × (place.to ≤ length text)
