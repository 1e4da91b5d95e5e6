use Rattle.std.proofs.Common.{◌≡◌, map, take}
use Rattle.std.specs.Char.{to_ascii_lowercase}
use Rattle.ps_check_names.proofs.reading.Reading.spelling.Given as goal

abbrev pub invariant-loop-byte : goal.invariant-loop-byte
invariant-loop-byte l = l.spelling.items ≡ map to_ascii_lowercase (take l.byte-index l.bytes)
