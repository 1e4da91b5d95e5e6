use Rattle.std.proofs.Common.{◌≡◌, ◌+◌, ◌≤◌, false, drop, length}
use Rattle.ps_scan.specs.Values.{characters_after}
use Rattle.ps_scan.proofs.values.string_length.Given as goal

abbrev pub invariant-loop-byte : goal.invariant-loop-byte
invariant-loop-byte l =
    (l.length + length (characters_after l.is_twin (drop l.byte-index l.byte-items)) ≡ length
    (characters_after false l.byte-items)) × (l.length ≤ l.byte-index)
