-- What edits make of a text.
use Rattle.std.specs.Prelude.{ℕ, nat_le, ◌&&◌, if◌then◌else◌, List, [], ◌∷◌, ◌++◌, length, slice_range, string_bytes}
use Rattle.ps_diagnostic.specs.declared.Edit.{Edit}

-- the part of a text from one offset up to another, if both are in the text and in order
abbrev pub part : List ℕ → ℕ → ℕ → List ℕ
part text from to = if nat_le from to && nat_le to (length text) then slice_range text from to else []

-- the result from an offset on: the text up to the next edit's span, what that edit puts, and so on after it
abbrev pub changed_from : List ℕ → ℕ → List Edit → List ℕ
changed_from text at [] = part text at (length text)
changed_from text at (edit ∷ edits) = part text at edit.span.from ++ string_bytes edit.put
    ++ changed_from text edit.span.to edits
