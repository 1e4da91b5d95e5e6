-- Which names are the directive `forward` (ISO 7185 6.1.4). It is not a word-symbol.
use Rattle.std.specs.Prelude.{ℕ, Bool, ◌&&◌, nat_le, List, length, slice_range, codes}
use Rattle.std.specs.Str.{str_eq_ignore_ascii_case}
use Rattle.ps_text.specs.declared.Span.{Span}

-- the name has this spelling, ignoring case
abbrev pub is_forward : List ℕ → Span → Bool
is_forward text at = nat_le at.from at.to && nat_le at.to (length text) && str_eq_ignore_ascii_case
    (slice_range text at.from at.to) (codes "forward")
