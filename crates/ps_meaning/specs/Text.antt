-- Text (6.9, 6.10): what each read looks at, takes and leaves, and what each write adds. Characters are bytes; byte
-- 10 ends a line.
use Rattle.std.specs.Prelude.{ℕ, zero, suc, ◌+◌, ◌-◌, ◌*◌, ◌/◌, ◌%◌, ℤ, pos, negsuc, neg_ℤ, Bool, true, false, not}
use Rattle.std.specs.Prelude.{◌&&◌, ◌||◌, ◌==◌, nat_lt, nat_le, if◌then◌else◌, List, [], ◌∷◌, ◌++◌, length, drop, take}
use Rattle.std.specs.Prelude.{take_while, replicate, Option, Some, None, codes}
use Rattle.behavior.specs.Transcripts.{mark}

-- The input that is left: its bytes; whether the first of them, or the end if there is none, was looked at; and whether
-- a line was begun and not ended, which counts as ended where the bytes end (a nonempty input whose last byte isn't 10
-- counts as having it).
pub record Input : Type 0 where
  pub left : List ℕ
  pub looked : Bool
  pub in_line : Bool

abbrev pub whole_input : List ℕ → Input
whole_input bytes = record { left = bytes; looked = false; in_line = false }

-- the next character; none at the end of input
abbrev pub next_of : List ℕ → Bool → Option ℕ
next_of [] in_line = if in_line then Some 10 else None
next_of (b ∷ rest) in_line = Some b

abbrev pub next_character : Input → Option ℕ
next_character i = next_of i.left i.in_line

-- a look at the next character
abbrev pub looked_at : Input → Input
looked_at i = record { left = i.left; looked = true; in_line = i.in_line }

-- the transcript has a mark for each first look at a byte of the input or at its end
abbrev pub look_marks : Input → List ℕ
look_marks i = if i.looked then [] else mark ∷ []

-- the input after the next character, which was looked at, is taken
abbrev pub taken_from : List ℕ → Input
taken_from [] = record { left = []; looked = true; in_line = false }
taken_from (b ∷ rest) = record { left = rest; looked = false; in_line = not (b == 10) }

abbrev pub taken : Input → Input
taken i = taken_from i.left

-- a line end is read as a space
abbrev pub as_character : ℕ → ℕ
as_character b = if b == 10 then 32 else b

-- An integer in the input: spaces and line ends are skipped, then it is the longest sequence of an optional sign and
-- digits. `rest` is what is left; its first byte, or the end, is the last thing looked at.
pub data Reading : Type 0 where
  EndFound : Reading
  NoInteger : Reading
  Integer : ℤ → Reading

pub record Scanned : Type 0 where
  pub found : Reading
  pub rest : List ℕ

abbrev pub is_blank : ℕ → Bool
is_blank b = b == 32 || b == 10

abbrev pub after_blanks : List ℕ → List ℕ
after_blanks [] = []
after_blanks (b ∷ rest) = if is_blank b then after_blanks rest else b ∷ rest

abbrev pub is_digit : ℕ → Bool
is_digit b = nat_le 48 b && nat_le b 57

abbrev pub has_sign : List ℕ → ℕ → Bool
has_sign [] sign = false
has_sign (b ∷ rest) sign = b == sign

-- + is byte 43, - is 45
abbrev pub after_sign : List ℕ → List ℕ
after_sign bytes = if has_sign bytes 43 || has_sign bytes 45 then drop 1 bytes else bytes

-- the number that digits write, after n
abbrev pub number_written : ℕ → List ℕ → ℕ
number_written n [] = n
number_written n (b ∷ rest) = number_written (10 * n + (b - 48)) rest

abbrev pub is_empty : List ℕ → Bool
is_empty [] = true
is_empty (b ∷ rest) = false

abbrev pub scan_integer : List ℕ → Scanned
scan_integer bytes =
    let start = after_blanks bytes in
    let unsigned = after_sign start in
    let written = take_while is_digit unsigned in
    let magnitude = pos (number_written 0 written) in
    if is_empty start then record { found = EndFound; rest = [] }
    else (if is_empty written then record { found = NoInteger; rest = unsigned }
    else record {
      found = Integer (if has_sign start 45 then neg_ℤ magnitude else magnitude);
      rest = drop (length written) unsigned;
    })

-- the marks of looks at all bytes from a place up to and including the first of the rest, or the end
abbrev pub marks_to : Input → List ℕ → List ℕ
marks_to i rest = replicate ((length i.left - length rest) + (if i.looked then 0 else 1)) mark

-- the input after an integer: its next byte, or the end, has been looked at, and a line is begun
abbrev pub after_integer : List ℕ → Input
after_integer rest = record { left = rest; looked = true; in_line = true }

-- readln: everything up to and including the line end is looked at and taken
abbrev pub has_line_end : List ℕ → Bool
has_line_end [] = false
has_line_end (b ∷ rest) = b == 10 || has_line_end rest

abbrev pub after_line_end : List ℕ → List ℕ
after_line_end [] = []
after_line_end (b ∷ rest) = if b == 10 then rest else after_line_end rest

abbrev pub after_line : Input → Input
after_line i =
    if has_line_end i.left then record { left = after_line_end i.left; looked = false; in_line = false }
    else record { left = []; looked = true; in_line = false }

abbrev pub line_marks : Input → List ℕ
line_marks i = if has_line_end i.left then replicate
    ((length i.left - length (after_line_end i.left)) - (if i.looked then 1 else 0)) mark else marks_to i []

-- 6.9.3.1: a text right-aligned in a field of n characters, wider if needed
abbrev pub right_aligned : ℕ → List ℕ → List ℕ
right_aligned n text = replicate (n - length text) 32 ++ text

-- a string right-aligned, or its first n characters
abbrev pub fitted : ℕ → List ℕ → List ℕ
fitted n text = if nat_lt n (length text) then take n text else right_aligned n text

-- the decimal digits of a number of at most k digits
unfoldable pub digits : ℕ → ℕ → List ℕ
digits zero n = []
digits (suc k) n = if nat_lt n 10 then (48 + n) ∷ [] else digits k (n / 10) ++ (48 + n % 10) ∷ []

-- an integer has at most ten digits
abbrev pub integer_text : ℤ → List ℕ
integer_text (pos n) = digits 10 n
integer_text (negsuc n) = 45 ∷ digits 10 (suc n)

abbrev pub boolean_text : Bool → List ℕ
boolean_text b = if b then codes "true" else codes "false"
