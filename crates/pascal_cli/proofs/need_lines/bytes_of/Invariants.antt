use Rattle.std.proofs.Common.{◌≡◌, take}
use Rattle.pascal_cli.specs.NeedLines.{bytes_of}
use Rattle.pascal_cli.proofs.need_lines.bytes_of.Given as goal

abbrev pub invariant-loop-routine : goal.invariant-loop-routine
invariant-loop-routine l = l.bytes ≡ bytes_of l.told.needed.now (take l.routine-index l.routines)
