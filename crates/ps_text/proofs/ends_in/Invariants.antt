use Rattle.std.proofs.Common.{◌≡◌, ◌≤◌, take}
use Rattle.std.specs.List.{count_by}
use Rattle.ps_text.specs.Lines.{is_line_end}
use Rattle.ps_text.proofs.ends_in.Given as goal

abbrev pub invariant-loop-byte : goal.invariant-loop-byte
invariant-loop-byte l =
    (l.ends ≡ count_by is_line_end (take l.byte-index l.bytes)) × (l.ends ≤ l.byte-index)
