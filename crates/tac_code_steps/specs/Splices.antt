-- The words of a block with a stretch replaced.
use Rattle.std.specs.Prelude.{◌⊎◌, ℕ, zero, suc, ◌+◌, ◌≤◌, List, [], ◌∷◌, length}
use Rattle.tac_code.specs.Memory.{Words}

-- these words replace the first ones
abbrev pub overlaid : Words → Words → Words
overlaid [] ws = ws
overlaid (n ∷ ns) [] = []
overlaid (n ∷ ns) (w ∷ ws) = n ∷ overlaid ns ws

-- these words replace those from k on
abbrev pub spliced : ℕ → Words → Words → Words
spliced zero ns ws = overlaid ns ws
spliced (suc k) ns [] = []
spliced (suc k) ns (w ∷ ws) = w ∷ spliced k ns ws

-- words, and their place in a block
pub record Piece : Type 0 where
  pub place : ℕ
  pub words : Words

-- one piece after another
abbrev pub placed : List Piece → Words → Words
placed [] ws = ws
placed (p ∷ ps) ws = placed ps (spliced p.place p.words ws)

abbrev pub LieApart : Piece → Piece → Type 0
LieApart p q = (p.place + length p.words ≤ q.place) ⊎ (q.place + length q.words ≤ p.place)

abbrev pub ApartFrom : Piece → List Piece → Type 0
ApartFrom p [] = Unit {0}
ApartFrom p (q ∷ qs) = LieApart p q × ApartFrom p qs

-- the pieces are disjoint, and within n words
abbrev pub ArePlaced : ℕ → List Piece → Type 0
ArePlaced size [] = Unit {0}
ArePlaced size (p ∷ ps) = (p.place + length p.words ≤ size) × ApartFrom p ps × ArePlaced size ps

-- the piece of this number, with other words
abbrev pub with_words : List Piece → ℕ → Words → List Piece
with_words [] i ws = []
with_words (p ∷ ps) zero ws = record { place = p.place; words = ws } ∷ ps
with_words (p ∷ ps) (suc i) ws = p ∷ with_words ps i ws
