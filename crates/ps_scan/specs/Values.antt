-- What numbers, strings and names denote (ISO 7185, 6.1.3, 6.1.5 and 6.1.7).
use Rattle.std.specs.Prelude.{ℕ, ◌-◌, min, Bool, true, false, ◌==◌, [], ◌∷◌, length, map, slice_range}
use Rattle.std.specs.Char.{to_ascii_lowercase}
use Rattle.ps_scan.specs.declared.TheConstants.{MAX_NUMBER}
use Rattle.ps_scan.specs.Lexemes.{digits_value}
use Rattle.ps_scan.specs.Tables.{Bytes}

-- the value of digits; a token's is at most MAX_NUMBER
abbrev pub number_of_digits : Bytes → ℕ
number_of_digits w = min (digits_value w) MAX_NUMBER

-- The characters between the apostrophes of a string. The flag says that an apostrophe came before, whose twin is
-- skipped.
abbrev pub characters_after : Bool → Bytes → Bytes
characters_after twin [] = []
characters_after true (b ∷ bs) = characters_after false bs
characters_after false (b ∷ bs) = b ∷ characters_after (b == 39) bs

-- the characters of a string, which is given with its apostrophes
unfoldable pub characters : Bytes → Bytes
characters w = characters_after false (slice_range w 1 (length w - 1))

-- a name's spelling: case is not significant
abbrev pub spelling : Bytes → Bytes
spelling w = map to_ascii_lowercase w
