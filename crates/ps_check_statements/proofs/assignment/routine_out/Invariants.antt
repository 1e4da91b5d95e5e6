use Rattle.std.proofs.Common.{◌≡◌, ℕ}
use Rattle.ps_check_names.specs.Regions.{Heading}
use Rattle.ps_check_names.specs.Views.{scope_of}
use Rattle.ps_check_statements.specs.Assignments.{result_in}
use Rattle.ps_check_statements.proofs.assignment.routine_out.Given as goal

-- what is left of the regions has the block where all of them have it
abbrev pub invariant-loop-here : goal.invariant-loop-here
invariant-loop-here l = (h : Heading) (levels : ℕ) → result_in (scope_of l.scope) l.further h levels ≡ result_in
    (scope_of l.here) l.left h levels
