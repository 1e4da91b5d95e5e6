-- The walk over the frames of open calls, from the words of memory alone.
use Rattle.std.specs.Prelude.{ℕ, zero, suc, ◌+◌, ◌%◌, Bool, ◌&&◌, nat_eq, nat_le, if◌then◌else◌, List, [], ◌∷◌, Option}
use Rattle.std.specs.Prelude.{Some, None}

abbrev pub and_on : Option ℕ → List ℕ → List ℕ
and_on None rest = []
and_on (Some line) rest = line ∷ rest

-- whether a memory of `size` bytes holds a frame's first two words: the link, and where the caller's frame is
abbrev pub is_frame : (size f : ℕ) → Bool
is_frame size f = nat_eq (f % 4) 0 && nat_le (f + 8) size

-- At most n lines: for each frame the line of the call that its link comes back to, then the frame of its caller. A
-- link that is of no call ends it, and so does a frame that is not within memory.
abbrev pub walk : (line : ℕ → Option ℕ) → (size n : ℕ) → (words : ℕ → ℕ) → (f : ℕ) → List ℕ
walk line size zero w f = []
walk line size (suc n) w f =
    if is_frame size f then and_on (line (w f)) (walk line size n w (w (f + 4))) else []
