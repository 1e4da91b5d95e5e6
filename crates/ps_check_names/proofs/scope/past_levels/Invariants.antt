use Rattle.std.proofs.Common.{◌≡◌, ℕ, List}
use Rattle.ps_check_names.specs.Regions.{Region, find_past}
use Rattle.ps_check_names.specs.Views.{opened_in}
use Rattle.ps_check_names.specs.Nests.{levels_of, records_in, IsNumber}
use Rattle.ps_check_names.proofs.scope.past_levels.Given as goal

-- what is left is searched as all of them are
abbrev pub invariant-loop-left : goal.invariant-loop-left
invariant-loop-left l = ((up at : ℕ) (Γ : List Region) → find_past up l.which
    (opened_in Γ (records_in (levels_of l.levels))) l.name at ≡ find_past up l.passed
    (opened_in Γ (records_in (levels_of l.left))) l.name at) × IsNumber (levels_of l.left) l.name l.number
