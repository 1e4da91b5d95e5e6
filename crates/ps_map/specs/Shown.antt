-- What a listing with the text of its program keeps of the listing without it: each line, in their order.
use Rattle.std.specs.Prelude.{◌≡◌, ◌==◌, ⊤, ℕ, List, [], ◌∷◌, ◌++◌}
use Rattle.std.specs.List.{slice_split}

-- the text went on
abbrev pub Grows : List ℕ → List ℕ → Type 0
Grows old new = (more : List ℕ) × (new ≡ old ++ more)

-- whole lines, or nothing: after the end of a line it ends with the end of one
pub record AreLines (text : List ℕ) : Type 0 where
  pub front : List ℕ
  pub ends : 10 ∷ text ≡ front ++ 10 ∷ []

-- whole lines were added, or nothing
pub record AddsLines (old new : List ℕ) : Type 0 where
  pub more : List ℕ
  pub is : new ≡ old ++ more
  pub lines : AreLines more

-- whole lines were added, followed by this one, with more at its end
pub record AddsLine (line old new : List ℕ) : Type 0 where
  pub before : List ℕ
  pub behind : List ℕ
  pub is : new ≡ old ++ before ++ line ++ behind ++ 10 ∷ []
  pub lines : AreLines before

-- the lines of a text, without their ends
abbrev pub lines_of : List ℕ → List (List ℕ)
lines_of text = slice_split (λ byte. byte == 10) text

-- each line that isn't empty comes in the text after the end of a line, in their order
abbrev pub HasLines : List (List ℕ) → List ℕ → Type 0
HasLines [] text = ⊤
HasLines ([] ∷ rest) text = HasLines rest text
HasLines ((byte ∷ line) ∷ rest) text = (before : List ℕ) × (behind : List ℕ)
    × (text ≡ before ++ 10 ∷ byte ∷ line ++ behind) × HasLines rest behind

-- A listing is shown: each of its lines begins a line of what is shown, in their order. There may be more at their
-- ends, and other lines between them.
abbrev pub Shows : List ℕ → List ℕ → Type 0
Shows listing shown = HasLines (lines_of listing) (10 ∷ shown)
