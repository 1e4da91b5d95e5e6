use Rattle.std.proofs.Common.{◌≡◌, ◌+◌, ◌-◌, drop, length}
use Rattle.std.specs.List.{position_or_len}
use Rattle.pascal_cli.specs.NeedLines.{is_routine}
use Rattle.pascal_cli.proofs.need_lines.place_of.Given as goal

-- it stands where it stands among those that are left
abbrev pub invariant-loop-place : goal.invariant-loop-place
invariant-loop-place l =
    position_or_len (is_routine l.routine) l.routines
    ≡ l.place + position_or_len (is_routine l.routine) (drop l.place l.routines)

abbrev pub decreases-loop-place : goal.decreases-loop-place
decreases-loop-place l = length l.routines - l.place
