-- Which check refuses bytes, in the order of the checks (this project's image format, both versions).
use Rattle.std.specs.Prelude.{◌≡◌, ℕ, ◌+◌, ◌*◌, Bool, not, ◌||◌, ◌==◌, nat_eq, nat_lt, if◌then◌else◌, List, take, drop}
use Rattle.std.specs.Prelude.{length, slice_index, Option, Some, None, MatchOption, unwrap_or}
use Rattle.std.specs.List.{starts_with}
use Rattle.risc_image.specs.declared.refusal.ImageRefusal.{ImageRefusal}
use Rattle.risc_image.specs.declared.refusal.ImageRefusal.TheVariants.{Magic, Truncated, Trailing, TooLarge, BadTable}
use Rattle.risc_image.specs.declared.header.TheConstants.{MAX_COUNT}
use Rattle.risc_image.specs.Image.{Image}
use Rattle.risc_image.specs.Format.{IsImage, first_magic, second_magic}
use Rattle.risc_image.specs.Table.{words}

abbrev pub number_of : ImageRefusal → ℕ
number_of Magic = 60
number_of Truncated = 61
number_of Trailing = 62
number_of TooLarge = 63
number_of BadTable = 64

-- the first four bytes, as far as they are present, match the magic
abbrev pub begins_as_image : List ℕ → Bool
begins_as_image bytes = starts_with nat_eq first_magic (take 4 bytes) || starts_with nat_eq second_magic (take 4 bytes)

-- the second version, by the fourth byte of the magic
abbrev pub is_second : List ℕ → Bool
is_second bytes = slice_index bytes 3 == 0x32

-- the magic and the header
abbrev pub header_length : List ℕ → ℕ
header_length bytes = if is_second bytes then 28 else 24

-- word k of the header
abbrev pub header_word : List ℕ → ℕ → ℕ
header_word bytes k = slice_index (words (drop 4 bytes)) k

-- the count of calls, which the second version has
abbrev pub asked_calls : List ℕ → Option ℕ
asked_calls bytes = if is_second bytes then Some (header_word bytes 5) else None

abbrev pub call_count : List ℕ → ℕ
call_count bytes = unwrap_or (asked_calls bytes) 0

-- the bytes of the largest image of the version
abbrev pub longest : List ℕ → ℕ
longest bytes = if is_second bytes then 41943068 else 33554456

-- the file, its globals or one of its counts is above its limit
abbrev pub is_too_large : List ℕ → Bool
is_too_large bytes =
    nat_lt (longest bytes) (length bytes) || nat_lt MAX_COUNT (header_word bytes 0)
    || nat_lt MAX_COUNT (header_word bytes 1) || nat_lt MAX_COUNT (header_word bytes 2)
    || nat_lt MAX_COUNT (header_word bytes 3) || nat_lt MAX_COUNT (header_word bytes 4)
    || nat_lt MAX_COUNT (call_count bytes)

-- the bytes that the counts require
abbrev pub asked_length : List ℕ → ℕ
asked_length bytes =
    header_length bytes + 4 * header_word bytes 1 + 8 * header_word bytes 2 + 8 * header_word bytes 3
    + 12 * header_word bytes 4
    + 8 * call_count bytes

-- the first check of the magic, the header, the limits and the length that fails
abbrev pub first_fault : List ℕ → Option ImageRefusal
first_fault bytes =
    if not (begins_as_image bytes) then Some Magic else (
    if nat_lt (length bytes) (header_length bytes) then Some Truncated else (
    if is_too_large bytes then Some TooLarge else (
    if nat_lt (length bytes) (asked_length bytes) then Some Truncated else (
    if nat_lt (asked_length bytes) (length bytes) then Some Trailing else None))))

-- The bytes are refused by the first of those checks that fails, or otherwise, if they are not an image, by their
-- tables.
abbrev pub IsRefused : List ℕ → ImageRefusal → Type 0
IsRefused bytes refusal =
    MatchOption (first_fault bytes) ((refusal ≡ BadTable) × ((image : Image) → IsImage bytes image → ⊥))
    (λ first. refusal ≡ first)
