-- The code of a list of names: words of 16 bits by which two long lists are compared quickly (this project's format).
-- Letters, digits and the ends of names are symbols from 1 to 39, and a word holds up to three of them in base 40.
use Rattle.std.specs.Prelude.{ℕ, ◌+◌, ◌-◌, ◌*◌, Bool, List, [], ◌∷◌, ◌++◌, nat_le, nat_lt, ◌&&◌, if◌then◌else◌}

-- A byte of a name. One that is neither a letter nor a digit is not a symbol: it takes a word of its own, above those
-- that hold symbols.
abbrev pub symbol : ℕ → ℕ
symbol b = if nat_le 97 b && nat_le b 122 then b - 96 else if nat_le 48 b && nat_le b 57 then b - 21 else 64000 + b

-- The symbols of a name, followed by 37, its end.
abbrev pub name_symbols : List ℕ → List ℕ
name_symbols [] = 37 ∷ []
name_symbols (b ∷ s) = symbol b ∷ name_symbols s

abbrev pub names_symbols : List (List ℕ) → List ℕ
names_symbols [] = []
names_symbols (s ∷ names) = name_symbols s ++ names_symbols names

-- Whether a word holds fewer than three symbols, and what comes next is one.
abbrev pub fits : (word next : ℕ) → Bool
fits word next = nat_lt word 1600 && nat_lt next 40

-- Words, and what comes next: in the last of them if it fits there, otherwise in a word of its own.
abbrev pub joined : List ℕ → ℕ → List ℕ
joined [] s = s ∷ []
joined (w ∷ []) s = if fits w s then (40 * w + s) ∷ [] else w ∷ s ∷ []
joined (w ∷ v ∷ words) s = w ∷ joined (v ∷ words) s

abbrev pub packed : (words symbols : List ℕ) → List ℕ
packed words [] = words
packed words (s ∷ symbols) = packed (joined words s) symbols

abbrev pub names_code : List (List ℕ) → List ℕ
names_code names = packed [] (names_symbols names)
