-- The frame that a call binds: what its entries are, and what the world has more than before.
use Rattle.std.specs.Prelude.{◌≡◌, ℕ, suc, ◌<◌, ◌≤◌, List, [], ◌∷◌}
use Rattle.ps_tree.specs.Types.{DataType}
use Rattle.ps_meaning.specs.Values.{Value, first}
use Rattle.ps_meaning.specs.Worlds.{World}
use Rattle.ps_lower_layout.specs.Shapes.{shape_of}
use Rattle.ps_lower_relation.specs.Ghosts.{Slot, OwnSlot}
use Rattle.ps_lower_code.specs.First.{FirstFits}

-- the second world has only more names
pub record Extends (w w' : World) : Type 0 where
  pub objects : w'.objects ≡ w.objects
  pub made : w'.made ≡ w.made
  pub input : w'.input ≡ w.input
  pub transcript : w'.transcript ≡ w.transcript
  pub next : w.next ≤ w'.next
  pub store : (n : ℕ) → n < w.next → w'.store n ≡ w.store n

-- variables of these types, under the names from n on
abbrev pub variable_slots : List DataType → (n : ℕ) → List Slot
variable_slots [] n = []
variable_slots (type ∷ rest) n = OwnSlot (shape_of type) n ∷ variable_slots rest (suc n)

-- each has its first value
abbrev pub HaveFirsts : (ℕ → Value) → List DataType → (n : ℕ) → Type 0
HaveFirsts store [] n = Unit {0}
HaveFirsts store (type ∷ rest) n = (store n ≡ first type) × HaveFirsts store rest (suc n)

abbrev pub FirstsFit : List DataType → Type 0
FirstsFit [] = Unit {0}
FirstsFit (type ∷ rest) = FirstFits (shape_of type) × FirstsFit rest
