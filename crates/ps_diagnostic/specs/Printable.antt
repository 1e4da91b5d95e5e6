-- What is shown on a terminal for a text, or for bytes that may be none.
use Rattle.std.specs.Prelude.{ℕ, Bool, ◌==◌, ◌&&◌, ◌||◌, nat_le, if◌then◌else◌, List, map, chars, encode_utf8_all}
use Rattle.bstr.specs.Utf8.{lossy_chars}

-- the letter is one of those from the first up to the last
abbrev pub is_within : ℕ → ℕ → ℕ → Bool
is_within first last letter = nat_le first letter && nat_le letter last

-- the controls of ASCII and DEL, and those of ISO 6429: they could change what a terminal shows of the rest
abbrev pub is_control : ℕ → Bool
is_control letter = is_within 0 0x1F letter || is_within 0x7F 0x9F letter

-- the ends of lines and of paragraphs
abbrev pub is_separator : ℕ → Bool
is_separator letter = is_within 0x2028 0x2029 letter

-- the signs that turn the direction of what follows: embeddings, overrides and isolates, and the marks of a direction
abbrev pub is_direction : ℕ → Bool
is_direction letter = letter == 0x61C || is_within 0x200E 0x200F letter || is_within 0x202A 0x202E letter
    || is_within 0x2066 0x2069 letter

-- what stands for bytes that are no character
abbrev pub is_replacement : ℕ → Bool
is_replacement letter = letter == 0xFFFD

-- what is shown for a letter: a question mark for what isn't printable; a tab stays
abbrev pub visible : ℕ → ℕ
visible letter =
    if letter == 9 then 9
    else if is_control letter || is_separator letter || is_direction letter || is_replacement letter then 63
    else letter

-- a text, which is UTF-8, as it is shown
abbrev pub printable : List ℕ → List ℕ
printable text = encode_utf8_all (map visible (chars text))

-- bytes as they are shown: a piece of them that is no character counts as one
abbrev pub printable_bytes : List ℕ → List ℕ
printable_bytes bytes = encode_utf8_all (map visible (lossy_chars bytes))
