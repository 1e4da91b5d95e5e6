use Rattle.std.proofs.Common.{◌≡◌, ℕ, List, length}
use Rattle.ps_check_names.specs.Regions.{Region, find_past}
use Rattle.ps_check_names.specs.Views.{opened_in}
use Rattle.ps_check_names.proofs.scope.past_records.Given as goal

-- what is left is searched as all of them are
abbrev pub invariant-loop-record : goal.invariant-loop-record
invariant-loop-record l = (up at : ℕ) (Γ : List Region) → find_past up l.which (opened_in Γ l.records) l.name at
    ≡ find_past up l.passed (opened_in Γ l.left) l.name at

abbrev pub decreases-loop-record : goal.decreases-loop-record
decreases-loop-record l = length l.left
