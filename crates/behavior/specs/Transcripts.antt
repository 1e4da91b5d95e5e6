-- What a run shows: the bytes that it writes, with its looks at the input among them, and how it ends.
use Rattle.std.specs.Prelude.{◌≡◌, ◌⊎◌, ℕ, ◌<◌, nat_lt, List, ◌++◌, filter}
use Rattle.std.specs.List.{All}
use Rattle.behavior.specs.Endings.{Ending}

-- A transcript is the list of the bytes written, with a mark at each first look at a byte of the input or at its end.
abbrev pub mark : ℕ
mark = 256

-- the bytes written: a transcript without its marks
abbrev pub output : List ℕ → List ℕ
output transcript = filter (λ n. nat_lt n mark) transcript

-- what an input is
abbrev pub AreBytes : List ℕ → Type 0
AreBytes bytes = All (λ b. b < 256) bytes

-- a transcript and an ending
abbrev pub Shown : Type 0
Shown = List ℕ × Ending

-- what is written, and how it ends
abbrev pub written : Shown → List ℕ × Ending
written x = (output x.0, x.1)

-- x goes on to y: it is y, or it breaks off, with such an ending, after a part of y's transcript
abbrev pub GoesOn : {E : Type 0} → (Breaks : E → Type 0) → List ℕ × E → List ℕ × E → Type 0
GoesOn Breaks x y = (x ≡ y) ⊎ (Breaks x.1 × ((rest : List ℕ) × (y.0 ≡ x.0 ++ rest)))
