use Rattle.std.proofs.Common.{◌≡◌, ◌++◌, take}
use Rattle.std.specs.String.{string_bytes}
use Rattle.tac_code.specs.Printed.{numbered, printed_routine}
use Rattle.tac_code.proofs.print.add_routines.Given as goal

abbrev pub invariant-loop-place : goal.invariant-loop-place
invariant-loop-place l =
    string_bytes l.text ≡ string_bytes l.initial.text ++ numbered printed_routine l.first (take l.place l.routines)
