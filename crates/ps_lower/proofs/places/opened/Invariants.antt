use Rattle.std.proofs.Common.{◌≡◌, slice_get}
use Rattle.ps_lower.specs.Levels.{scope_of, opened_of}
use Rattle.ps_lower.proofs.places.opened.Given as goal

-- the record is the one with the number that is left, of those that are left
abbrev pub invariant-loop-here : goal.invariant-loop-here
invariant-loop-here l = slice_get (opened_of l.here) l.left ≡ slice_get (scope_of l.level).opened l.which
