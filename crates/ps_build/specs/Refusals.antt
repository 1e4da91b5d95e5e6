-- The table of refusals: their numbers, their names, and the place in the text that some of them have (this project's
-- format).
use Rattle.std.specs.Prelude.{ℕ, nat_eq, if◌then◌else◌, List, [], ◌∷◌, Option, Some, None, option_map, codes}
use Rattle.ps_text.specs.declared.TextRefusal.{TextRefusal}
use Rattle.ps_text.specs.declared.TextRefusal.TheVariants as t
use Rattle.ps_scan.specs.declared.refusal.ScanFault.{ScanFault}
use Rattle.ps_scan.specs.declared.refusal.ScanFault.TheVariants as scan_fault
use Rattle.ps_scan.specs.declared.token.Token.{Token}
use Rattle.ps_scan.specs.declared.refusal.ScanRefusal.{ScanRefusal}
use Rattle.ps_scan.specs.declared.refusal.ScanRefusal.TheVariants as s
use Rattle.ps_parse.specs.declared.error.ParseRefusal.{ParseRefusal}
use Rattle.ps_parse.specs.declared.error.ParseRefusal.TheVariants as p
use Rattle.ps_parse.specs.declared.error.ParseFault.{ParseFault}
use Rattle.ps_parse.specs.declared.error.ParseFault.TheVariants as parse_fault
use Rattle.ps_scan.specs.Refusals as Scanning
use Rattle.ps_parse.specs.Refusals as Parsing
use Rattle.ps_check_judgement.specs.declared.refusal.Rule.{Rule}
use Rattle.ps_check_judgement.specs.declared.refusal.Rule.TheVariants as r
use Rattle.ps_check_judgement.specs.Refusal.{number_of_rule}
use Rattle.ps_check_judgement.specs.declared.refusal.CheckRefusal.{CheckRefusal}
use Rattle.ps_check_judgement.specs.declared.refusal.CheckRefusal.TheVariants as c
use Rattle.ps_lower.specs.declared.refusal.LowerRefusal.{LowerRefusal}
use Rattle.ps_lower.specs.declared.refusal.LowerRefusal.TheVariants as w
use Rattle.risc_emit.specs.declared.emit.EmitRefusal.{EmitRefusal}
use Rattle.risc_emit.specs.declared.emit.EmitRefusal.TheVariants as e
use Rattle.risc_image.specs.declared.refusal.ImageRefusal.{ImageRefusal}
use Rattle.risc_image.specs.declared.refusal.ImageRefusal.TheVariants as i
use Rattle.risc_load.specs.declared.budget.LoadRefusal.{LoadRefusal}
use Rattle.risc_load.specs.declared.budget.LoadRefusal.TheVariants as l
use Rattle.ps_build.specs.declared.refusal.Place.{Place}
use Rattle.ps_build.specs.declared.refusal.Refusal.{Refusal}
use Rattle.ps_build.specs.declared.refusal.Refusal.TheVariants.{TooLong, TooManyLines, OutOfMemory, Scan, Parse, Check}
use Rattle.ps_build.specs.declared.refusal.Refusal.TheVariants.{CodeTooLarge, BadPlacement, Magic, Truncated, Trailing}
use Rattle.ps_build.specs.declared.refusal.Refusal.TheVariants.{TooLarge, BadTable, BudgetTooLarge, BudgetUneven}

abbrev pub number_of : Refusal → ℕ
number_of TooLong = 1
number_of TooManyLines = 2
number_of OutOfMemory = 9
number_of (Scan fault place) = Scanning.number_of_fault fault
number_of (Parse fault token place) = Parsing.number_of_fault fault
number_of (Check rule place) = number_of_rule rule
number_of CodeTooLarge = 50
number_of BadPlacement = 51
number_of Magic = 60
number_of Truncated = 61
number_of Trailing = 62
number_of TooLarge = 63
number_of BadTable = 64
number_of BudgetTooLarge = 70
number_of BudgetUneven = 71

abbrev pub name_of_scan : ScanFault → List ℕ
name_of_scan scan_fault.BadByte = codes "BadByte"
name_of_scan scan_fault.OpenComment = codes "OpenComment"
name_of_scan scan_fault.OpenString = codes "OpenString"
name_of_scan scan_fault.EmptyString = codes "EmptyString"
name_of_scan scan_fault.SeparatorMissing = codes "SeparatorMissing"
name_of_scan scan_fault.NumberTooLarge = codes "NumberTooLarge"
name_of_scan scan_fault.RealNumber = codes "RealNumber"

abbrev pub name_of_parse : ParseFault → List ℕ
name_of_parse parse_fault.NotAProgram = codes "NotAProgram"
name_of_parse parse_fault.TooDeep = codes "TooDeep"
name_of_parse parse_fault.NotInProfile = codes "NotInProfile"

abbrev pub name_of_rule : Rule → List ℕ
name_of_rule r.NotInProfile = codes "NotInProfile"
name_of_rule r.Unknown = codes "Unknown"
name_of_rule r.Twice = codes "Twice"
name_of_rule r.UsedBefore = codes "UsedBefore"
name_of_rule r.WrongKind = codes "WrongKind"
name_of_rule r.WrongType = codes "WrongType"
name_of_rule r.NotAssignable = codes "NotAssignable"
name_of_rule r.BadSubrange = codes "BadSubrange"
name_of_rule r.SetBase = codes "SetBase"
name_of_rule r.CaseTwice = codes "CaseTwice"
name_of_rule r.ControlVariable = codes "ControlVariable"
name_of_rule r.PackedVariable = codes "PackedVariable"
name_of_rule r.NotCongruous = codes "NotCongruous"
name_of_rule r.ForwardOpen = codes "ForwardOpen"
name_of_rule r.NoResultAssigned = codes "NoResultAssigned"
name_of_rule r.NoInputOutput = codes "NoInputOutput"
name_of_rule r.Limit = codes "Limit"

abbrev pub name_of : Refusal → List ℕ
name_of TooLong = codes "TooLong"
name_of TooManyLines = codes "TooManyLines"
name_of OutOfMemory = codes "OutOfMemory"
name_of (Scan fault place) = name_of_scan fault
name_of (Parse fault token place) = name_of_parse fault
name_of (Check rule place) = name_of_rule rule
name_of CodeTooLarge = codes "CodeTooLarge"
name_of BadPlacement = codes "BadPlacement"
name_of Magic = codes "Magic"
name_of Truncated = codes "Truncated"
name_of Trailing = codes "Trailing"
name_of TooLarge = codes "TooLarge"
name_of BadTable = codes "BadTable"
name_of BudgetTooLarge = codes "BudgetTooLarge"
name_of BudgetUneven = codes "BudgetUneven"

-- the place of those that report a fault of the text: 10 to 45
abbrev pub place_of : Refusal → Option Place
place_of (Scan fault place) = Some place
place_of (Parse fault token place) = Some place
place_of (Check rule place) = Some place
place_of _ = None

abbrev pub line_of : Refusal → Option ℕ
line_of refusal = option_map (λ (place : Place). place.line) (place_of refusal)

-- CodeTooLarge is reported only if a fact holds; no other refusal is reported except out of memory
abbrev pub OnlyTooLarge : Refusal → Type 0 → Type 0
OnlyTooLarge OutOfMemory fact = Unit {0}
OnlyTooLarge CodeTooLarge fact = fact
OnlyTooLarge _ fact = ⊥

-- ---- the refusals of the layers

abbrev pub of_text : TextRefusal → Refusal
of_text t.TooLong = TooLong
of_text t.TooManyLines = TooManyLines

abbrev pub of_scan : ScanRefusal → Refusal
of_scan s.OutOfMemory = OutOfMemory
of_scan (s.Faulty fault line from to) = Scan fault (record { line = line; from = from; to = to })

abbrev pub of_parse : ParseRefusal → Refusal
of_parse p.OutOfMemory = OutOfMemory
of_parse (p.Faulty fault line token from to) = Parse fault token (record { line = line; from = from; to = to })

-- where the token that begins at an offset ends
abbrev pub end_of_token : List Token → (at : ℕ) → ℕ
end_of_token [] at = at
end_of_token (t ∷ ts) at = if nat_eq t.span.from at then t.span.to else end_of_token ts at

-- the checker reports a token by the offset at which it begins
abbrev pub of_check : List Token → CheckRefusal → Refusal
of_check tokens c.OutOfMemory = OutOfMemory
of_check tokens (c.Broken rule at line) = Check rule (record { line = line; from = at; to = end_of_token tokens at })

abbrev pub of_lower : LowerRefusal → Refusal
of_lower w.OutOfMemory = OutOfMemory
of_lower w.CodeTooLarge = CodeTooLarge

abbrev pub of_emit : EmitRefusal → Refusal
of_emit e.CodeTooLarge = CodeTooLarge
of_emit e.OutOfMemory = OutOfMemory

abbrev pub of_image : ImageRefusal → Refusal
of_image i.Magic = Magic
of_image i.Truncated = Truncated
of_image i.Trailing = Trailing
of_image i.TooLarge = TooLarge
of_image i.BadTable = BadTable

abbrev pub of_load : LoadRefusal → Refusal
of_load l.OutOfMemory = OutOfMemory
of_load l.BudgetTooLarge = BudgetTooLarge
of_load l.BudgetUneven = BudgetUneven
