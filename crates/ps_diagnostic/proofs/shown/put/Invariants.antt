use Rattle.std.proofs.Common.{◌≡◌, ◌++◌, map, string_bytes, encode_utf8_all}
use Rattle.ps_diagnostic.specs.Printable.{visible, printable_bytes}
use Rattle.ps_diagnostic.proofs.shown.put.Given as goal

-- what is put, and what will be put for the letters that are left
abbrev pub invariant-loop-letter : goal.invariant-loop-letter
invariant-loop-letter l = string_bytes l.out ++ encode_utf8_all (map visible l.letter-iterator)
    ≡ string_bytes l.fn.out ++ printable_bytes l.fn.bytes
