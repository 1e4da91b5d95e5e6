use Rattle.std.proofs.Common.{◌≡◌, ◌++◌, false, drop}
use Rattle.ps_scan.specs.Values.{characters_after}
use Rattle.ps_scan.proofs.values.string_value.Given as goal

abbrev pub invariant-loop-byte : goal.invariant-loop-byte
invariant-loop-byte l = l.found.items ++ characters_after l.is_twin (drop l.byte-index l.byte-items)
    ≡ characters_after false l.byte-items
