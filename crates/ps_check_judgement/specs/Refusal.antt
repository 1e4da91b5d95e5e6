-- The numbers and lines of the checker's refusals (this project's format).
use Rattle.std.specs.Prelude.{◌≡◌, ℕ, Option, Some, None}
use Rattle.ps_check_judgement.specs.declared.refusal.Rule.{Rule}
use Rattle.ps_check_judgement.specs.declared.refusal.Rule.TheVariants.{NotInProfile, Unknown, Twice, UsedBefore}
use Rattle.ps_check_judgement.specs.declared.refusal.Rule.TheVariants.{WrongKind, WrongType, NotAssignable}
use Rattle.ps_check_judgement.specs.declared.refusal.Rule.TheVariants.{BadSubrange, SetBase, CaseTwice}
use Rattle.ps_check_judgement.specs.declared.refusal.Rule.TheVariants.{ControlVariable, PackedVariable, NotCongruous}
use Rattle.ps_check_judgement.specs.declared.refusal.Rule.TheVariants.{ForwardOpen, NoResultAssigned, NoInputOutput}
use Rattle.ps_check_judgement.specs.declared.refusal.Rule.TheVariants.{Limit}
use Rattle.ps_check_judgement.specs.declared.refusal.CheckFault.{CheckFault}
use Rattle.ps_check_judgement.specs.declared.refusal.CheckFault.TheVariants as fault
use Rattle.ps_check_judgement.specs.declared.refusal.CheckRefusal.{CheckRefusal}
use Rattle.ps_check_judgement.specs.declared.refusal.CheckRefusal.TheVariants as refusal

abbrev pub number_of_rule : Rule → ℕ
number_of_rule NotInProfile = 22
number_of_rule Unknown = 30
number_of_rule Twice = 31
number_of_rule UsedBefore = 32
number_of_rule WrongKind = 33
number_of_rule WrongType = 34
number_of_rule NotAssignable = 35
number_of_rule BadSubrange = 36
number_of_rule SetBase = 37
number_of_rule CaseTwice = 38
number_of_rule ControlVariable = 39
number_of_rule PackedVariable = 40
number_of_rule NotCongruous = 41
number_of_rule ForwardOpen = 42
number_of_rule NoResultAssigned = 43
number_of_rule NoInputOutput = 44
number_of_rule Limit = 45

abbrev pub number_of : CheckRefusal → ℕ
number_of refusal.OutOfMemory = 9
number_of (refusal.Broken rule at line) = number_of_rule rule

abbrev pub line_of : CheckRefusal → Option ℕ
line_of refusal.OutOfMemory = None
line_of (refusal.Broken rule at line) = Some line

-- a fault of the program, and not lack of memory
abbrev pub IsFault : CheckFault → Type 0
IsFault fault.OutOfMemory = ⊥
IsFault (fault.Broken rule at) = Unit {0}

abbrev pub IsRefusal : CheckRefusal → Type 0
IsRefusal refusal.OutOfMemory = ⊥
IsRefusal (refusal.Broken rule at line) = Unit {0}
