use Rattle.std.proofs.Common.{◌≡◌, ◌++◌, take}
use Rattle.std.specs.String.{string_bytes}
use Rattle.tac_code.specs.Printed.{numbered, instruction_line}
use Rattle.tac_code.proofs.print.add_instructions.Given as goal

abbrev pub invariant-loop-place : goal.invariant-loop-place
invariant-loop-place l =
    string_bytes l.text ≡ string_bytes l.initial.text ++ numbered instruction_line 0 (take l.place-counter l.body)
