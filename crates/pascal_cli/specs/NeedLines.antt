-- The lines that `pascal needs` writes of what the image of a text needs.
use Rattle.std.specs.Prelude.{Bool, true, false, ◌||◌, ℕ, ◌+◌, ◌-◌, min, nat_eq, nat_lt, if◌then◌else◌, List, [], ◌∷◌}
use Rattle.std.specs.Prelude.{◌++◌, codes, decimal, drop, flat_map, fold, get_or, length, slice_get, take, Option, Some}
use Rattle.std.specs.Prelude.{None}
use Rattle.std.specs.List.{position_or_len}
use Rattle.ps_text.specs.declared.Span.{Span}
use Rattle.ps_needs_image.specs.declared.needed.Needed.{Needed}
use Rattle.ps_needs_least.specs.declared.least.Need.{Need}
use Rattle.ps_needs_least.specs.declared.least.Need.TheVariants.{Endless, Least}
use Rattle.pascal_command.specs.Command.{Text}

-- ---- routines

-- the bytes of the text from one offset to another
abbrev pub part_of : (text : List ℕ) → Span → Text
part_of text span =
    if nat_lt span.to span.from || nat_lt (length text) span.to then codes "?"
    else take (span.to - span.from) (drop span.from text)

abbrev pub name_at : (text : List ℕ) → Option Span → Text
name_at text None = codes "?"
name_at text (Some span) = part_of text span

-- the name of a routine, as the text has it
abbrev pub name_of : (text : List ℕ) → Needed → ℕ → Text
name_of text needed routine = name_at text (slice_get needed.names.items routine)

-- the bytes of a routine's frame
abbrev pub frame_of : Needed → ℕ → ℕ
frame_of needed routine = get_or needed.frames.items routine 0

-- those of several frames, at most what 64 bits can hold
abbrev pub bytes_of : Needed → List ℕ → ℕ
bytes_of needed routines =
    fold (λ bytes routine. min (bytes + frame_of needed routine) 18446744073709551615) 0 routines

-- a number between two texts
unfoldable pub with_number : (before : Text) → ℕ → (behind : Text) → Text
with_number before number behind = before ++ (decimal number ++ behind)

-- a name between two
unfoldable pub with_name : (before name behind : Text) → Text
with_name before name behind = before ++ (name ++ behind)

-- after the first and fifteen others this many more are only counted
abbrev pub more_text : (between : Text) → List ℕ → Text
more_text between routines =
    if nat_lt 15 (length routines) then with_number between (length routines - 15) (codes " more") else []

-- ---- a stack with a bound

abbrev pub frame_text : (text : List ℕ) → Needed → ℕ → Text
frame_text text needed routine = name_of text needed routine ++ (codes " " ++ decimal (frame_of needed routine))

abbrev pub next_frame : (text : List ℕ) → Needed → ℕ → Text
next_frame text needed routine = codes " + " ++ frame_text text needed routine

-- a path of calls, each with its frame
abbrev pub path_text : (text : List ℕ) → Needed → List ℕ → Text
path_text text needed [] = []
path_text text needed (routine ∷ behind) =
    frame_text text needed routine
    ++ (flat_map (next_frame text needed) (take 15 behind) ++ more_text (codes " + ") behind)

abbrev pub least_line : (text : List ℕ) → Needed → (bytes : ℕ) → (path : List ℕ) → Text
least_line text needed bytes path =
    with_number (codes "stack ") bytes (codes " bytes, proved: ") ++ (path_text text needed path ++ codes "\n")

-- ---- a stack without a known bound

abbrev pub next_name : (text : List ℕ) → Needed → ℕ → Text
next_name text needed routine = with_name (codes ", `") (name_of text needed routine) (codes "`")

-- the other routines through which a routine may call itself
abbrev pub others_text : (text : List ℕ) → Needed → List ℕ → Text
others_text text needed [] = []
others_text text needed (routine ∷ behind) =
    with_name (codes " through `") (name_of text needed routine) (codes "`")
    ++ (flat_map (next_name text needed) (take 15 behind) ++ more_text (codes " and ") behind)

abbrev pub turn_name : (text : List ℕ) → Needed → (routine : ℕ) → (others : List ℕ) → Text
turn_name text needed routine others =
    with_name (codes "stack without a known bound: `") (name_of text needed routine) (codes "` may call itself")
    ++ others_text text needed others

abbrev pub turn_bytes : Needed → (before turn : List ℕ) → Text
turn_bytes needed before turn =
    with_number (codes "; ") (bytes_of needed before) (codes " bytes")
    ++ with_number (codes " + ") (bytes_of needed turn) (codes " for each open call of it\n")

-- the calls before a routine, and those from it until it is called again
abbrev pub turn_line : (text : List ℕ) → Needed → (before turn : List ℕ) → Text
turn_line text needed before [] = []
turn_line text needed before (routine ∷ others) =
    turn_name text needed routine others ++ turn_bytes needed before (routine ∷ others)

abbrev pub is_routine : (routine other : ℕ) → Bool
is_routine routine other = nat_eq other routine

-- the calls of a path except the last, which is of a routine that already occurs among them
abbrev pub open_calls : List ℕ → List ℕ
open_calls path = take (length path - 1) path

-- where it first occurs
abbrev pub first_call : List ℕ → ℕ
first_call path = position_or_len (is_routine (get_or path (length path - 1) 0)) (open_calls path)

abbrev pub endless_line : (text : List ℕ) → Needed → (path : List ℕ) → Text
endless_line text needed path =
    turn_line text needed (take (first_call path) (open_calls path)) (drop (first_call path) (open_calls path))

-- ---- all lines

abbrev pub stack_line : (text : List ℕ) → Needed → Need → Text
stack_line text needed (Least bytes path) = least_line text needed bytes path.items
stack_line text needed (Endless path) = endless_line text needed path.items

abbrev pub heap_line : (makes_objects : Bool) → Text
heap_line true = codes "heap not known: the text has `new`\n"
heap_line false = codes "heap 0 bytes: no `new`\n"

abbrev pub needed_lines : (text : List ℕ) → Needed → Text
needed_lines text needed = stack_line text needed needed.need ++ heap_line needed.makes_objects
