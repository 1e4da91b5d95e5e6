use Rattle.std.proofs.Common.{◌≡◌, ℕ, IfSome}
use Rattle.ps_check_names.specs.Regions.{find_past, find}
use Rattle.ps_check_names.specs.Views.{scope_of}
use Rattle.ps_check_names.specs.Marks.{IsMark}
use Rattle.ps_check_names.proofs.scope.find.Given as goal

-- what is left of the regions is searched as all of them are, and a mark that is known is the name's
abbrev pub invariant-loop-here : goal.invariant-loop-here
invariant-loop-here l = ((at : ℕ) → find_past l.up l.which (scope_of l.here) l.name at ≡ find
    (scope_of l.scope) l.name at) × IfSome l.known_mark (λ mark. IsMark mark.state mark.number l.name)
