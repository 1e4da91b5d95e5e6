-- The scanner as functions on bytes, which the code follows step by step. Bytes past the end read as 0, and 0 begins
-- nothing.
use Rattle.std.specs.Prelude.{ℕ, ◌+◌, Bool, true, false, ◌&&◌, ◌||◌, ◌==◌, nat_lt, if◌then◌else◌, List, [], ◌∷◌, take}
use Rattle.std.specs.Prelude.{drop, slice_index, Option, Some, None, Result, Ok, Err}
use Rattle.std.specs.Char.{is_ascii_alphabetic, is_ascii_alphanumeric, is_ascii_digit, to_ascii_lowercase}
use Rattle.std.specs.List.{prefix_len}
use Rattle.std.specs.Str.{str_eq_ignore_ascii_case}
use Rattle.ps_scan.specs.declared.TheConstants.{MAX_NUMBER}
use Rattle.ps_scan.specs.declared.lexeme.FaultAhead.{FaultAhead}
use Rattle.ps_scan.specs.declared.lexeme.Lexeme.{Lexeme}
use Rattle.ps_scan.specs.declared.refusal.ScanFault.{ScanFault}
use Rattle.ps_scan.specs.declared.refusal.ScanFault.TheVariants as fault
use Rattle.ps_scan.specs.declared.token.Kind.{Kind}
use Rattle.ps_scan.specs.declared.token.Kind.TheVariants as k
use Rattle.ps_scan.specs.Lexemes.{digits_value}
use Rattle.ps_scan.specs.Separators.{is_blank}
use Rattle.ps_scan.specs.Tables.{Bytes, Spelling, word_kind}

-- ---- what is at the front of the bytes
abbrev pub separator_of : ℕ → Lexeme
separator_of len = record { kind = None; length = len }

abbrev pub token_of : ℕ → Kind → Lexeme
token_of len kind = record { kind = Some kind; length = len }

-- what is found at the front of the bytes
abbrev pub Finding : Type 0
Finding = Result Lexeme FaultAhead

-- a fault that some bytes precede
abbrev pub fault_of : ScanFault → (ahead len : ℕ) → Finding
fault_of why ahead len = Err (record { fault = why; ahead = ahead; length = len })

-- ---- words
abbrev pub find_word : List Spelling → Bytes → Kind
find_word [] w = k.Name
find_word (e ∷ es) w = if str_eq_ignore_ascii_case e.0 w then e.1 else find_word es w

abbrev pub word_len : Bytes → ℕ
word_len = prefix_len is_ascii_alphanumeric

unfoldable pub word : Bytes → Lexeme
word bs = token_of (word_len bs) (word_kind (take (word_len bs) bs))

-- ---- numbers
abbrev pub digits_len : Bytes → ℕ
digits_len = prefix_len is_ascii_digit

abbrev pub is_sign : ℕ → Bool
is_sign b = b == 43 || b == 45

abbrev pub sign_len : ℕ → ℕ
sign_len b = if is_sign b then 1 else 0

-- the length of a fraction, with its point; 0 if there is none
unfoldable pub fraction_len : Bytes → ℕ
fraction_len bs = if slice_index bs 0 == 46 && is_ascii_digit (slice_index bs 1) then 1 + digits_len (drop 1 bs) else 0

-- the length of a scale whose letter and sign take the given number of bytes; 0 if there is none
unfoldable pub scale_by : ℕ → Bytes → ℕ
scale_by opening bs =
    if to_ascii_lowercase (slice_index bs 0) == 101 && is_ascii_digit (slice_index bs opening)
    then opening + digits_len (drop opening bs) else 0

unfoldable pub scale_len : Bytes → ℕ
scale_len bs = scale_by (1 + sign_len (slice_index bs 1)) bs

-- the length of a real literal after its first digits; 0 if there is none
unfoldable pub real_len : Bytes → ℕ
real_len bs = fraction_len bs + scale_len (drop (fraction_len bs) bs)

unfoldable pub number : Bytes → Finding
number bs =
    let len = digits_len bs in
    let after = drop len bs in
    if nat_lt 0 (real_len after) then fault_of fault.RealNumber 0 (len + real_len after)
    else (if is_ascii_alphabetic (slice_index after 0) then fault_of fault.SeparatorMissing len (word_len after)
    else (if nat_lt MAX_NUMBER (digits_value (take len bs)) then fault_of fault.NumberTooLarge 0 len
    else Ok (token_of len k.Number)))

-- ---- strings
-- The length of a string after n bytes of it have been read. Pending: the last of them was an apostrophe, which closes
-- the string unless another follows.
abbrev pub string_end : Bool → ℕ → Bytes → Option ℕ
string_end true n [] = Some n
string_end false n [] = None
string_end true n (b ∷ bs) = if b == 39 then string_end false (n + 1) bs else Some n
string_end false n (b ∷ bs) =
    if b == 39 then string_end true (n + 1) bs else (if b == 10 || b == 13 then None else string_end false (n + 1) bs)

abbrev pub string_of : Option ℕ → Finding
string_of None = fault_of fault.OpenString 0 1
string_of (Some len) = if len == 2 then fault_of fault.EmptyString 0 2 else Ok (token_of len k.Text)

unfoldable pub string : Bytes → Finding
string bs = string_of (string_end false 1 (drop 1 bs))

-- ---- comments
-- The length of a comment after its opening, after n bytes have been read. The flag says that the last of them was a
-- star.
abbrev pub comment_end : Bool → ℕ → Bytes → Option ℕ
comment_end after_star n [] = None
comment_end after_star n (b ∷ bs) = if b == 125 || (b == 41 && after_star) then Some (n + 1) else comment_end (b == 42)
    (n + 1) bs

abbrev pub comment_of : ℕ → Option ℕ → Finding
comment_of opening None = fault_of fault.OpenComment 0 opening
comment_of opening (Some n) = Ok (separator_of (opening + n))

unfoldable pub comment : ℕ → Bytes → Finding
comment opening bs = comment_of opening (comment_end false 0 (drop opening bs))

-- ---- symbols
unfoldable pub pair : ℕ → ℕ → Option Kind
pair a b =
    if a == 60 && b == 62 then Some k.NotEqual
    else (if a == 60 && b == 61 then Some k.LessEqual else (if a == 62 && b == 61 then Some k.GreaterEqual
    else (if a == 40 && b == 46 then Some k.LeftBracket else (if a == 46 && b == 41 then Some k.RightBracket
    else (if a == 46 && b == 46 then Some k.DotDot else (if a == 58 && b == 61 then Some k.Assign else None))))))

unfoldable pub single : ℕ → Option Kind
single a =
    if a == 43 then Some k.Plus else (if a == 45 then Some k.Minus
    else (if a == 42 then Some k.Star else (if a == 47 then Some k.Slash
    else (if a == 61 then Some k.Equal else (if a == 60 then Some k.Less else (if a == 62 then Some k.Greater
    else (if a == 91 then Some k.LeftBracket else (if a == 93 then Some k.RightBracket
    else (if a == 40 then Some k.LeftParen else (if a == 41 then Some k.RightParen
    else (if a == 46 then Some k.Dot else (if a == 44 then Some k.Comma
    else (if a == 58 then Some k.Colon else (if a == 59 then Some k.Semicolon
    else (if a == 94 then Some k.Caret else (if a == 64 then Some k.Caret else None))))))))))))))))

abbrev pub symbol_of : Option Kind → Option Kind → Finding
symbol_of (Some kind) other = Ok (token_of 2 kind)
symbol_of None (Some kind) = Ok (token_of 1 kind)
symbol_of None None = fault_of fault.BadByte 0 1

unfoldable pub symbol : Bytes → Finding
symbol bs = symbol_of (pair (slice_index bs 0) (slice_index bs 1)) (single (slice_index bs 0))

-- ---- the front of the bytes, which are not empty
unfoldable pub front : Bytes → Finding
front bs =
    let b = slice_index bs 0 in
    if is_blank b then Ok (separator_of 1)
    else (if is_ascii_alphabetic b then Ok (word bs)
    else (if is_ascii_digit b then number bs
    else (if b == 39 then string bs
    else (if b == 123 then comment 1 bs
    else (if b == 40 && slice_index bs 1 == 42 then comment 2 bs
    else symbol bs)))))
