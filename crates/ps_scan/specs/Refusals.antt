-- The numbers, lines and places of the scanner's refusals (this project's format).
use Rattle.std.specs.Prelude.{◌≡◌, ℕ, Option, Some, None}
use Rattle.ps_text.specs.declared.Span.{Span}
use Rattle.ps_text.specs.Lines.{line_at}
use Rattle.ps_scan.specs.declared.refusal.ScanFault.{ScanFault}
use Rattle.ps_scan.specs.declared.refusal.ScanFault.TheVariants as fault
use Rattle.ps_scan.specs.declared.refusal.ScanRefusal.{ScanRefusal}
use Rattle.ps_scan.specs.declared.refusal.ScanRefusal.TheVariants as r
use Rattle.ps_scan.specs.Faults.{RefusedFrom}
use Rattle.ps_scan.specs.Tables.{Bytes}

abbrev pub number_of_fault : ScanFault → ℕ
number_of_fault fault.BadByte = 10
number_of_fault fault.OpenComment = 11
number_of_fault fault.OpenString = 12
number_of_fault fault.EmptyString = 13
number_of_fault fault.SeparatorMissing = 14
number_of_fault fault.NumberTooLarge = 15
number_of_fault fault.RealNumber = 16

abbrev pub number_of : ScanRefusal → ℕ
number_of r.OutOfMemory = 9
number_of (r.Faulty why line from to) = number_of_fault why

-- the line of the fault, or 0 if out of memory
abbrev pub line_of : ScanRefusal → ℕ
line_of r.OutOfMemory = 0
line_of (r.Faulty why line from to) = line

-- the place of the fault, or none if out of memory
abbrev pub place_of : ScanRefusal → Option Span
place_of r.OutOfMemory = None
place_of (r.Faulty why line from to) = Some (record { from = from; to = to })

-- What is reported of a text is its first fault, with its place and the line of its first byte. Running out of memory
-- reports nothing.
abbrev pub IsTold : Bytes → ScanRefusal → Type 0
IsTold text r.OutOfMemory = Unit {0}
IsTold text (r.Faulty why line from to) =
    RefusedFrom 0 text why (record { from = from; to = to }) × (line ≡ line_at text from)
