-- The scope rules in the words of the standard (6.2.2): which defining point a name denotes at a place that these
-- regions enclose, from the inside out.
use Rattle.std.specs.Prelude.{◌≡◌, ◌↔◌, ◌≤◌, ℕ, suc, List, [], ◌∷◌, ◌++◌, Some, slice_get}
use Rattle.ps_check_judgement.specs.Judged.{Yes}
use Rattle.ps_tree.specs.Types.{DataType, field_in}
use Rattle.ps_check_names.specs.Spelling.{place}
use Rattle.ps_check_names.specs.Regions.{Region, BlockRegion, RecordRegion, OwnNames, Point, BlockPoint, FieldPoint}
use Rattle.ps_check_names.specs.Regions.{Meaning, find}

-- the region has a defining point of this spelling, before the place or after it
abbrev pub Defines : Region → List ℕ → Type 0
Defines (BlockRegion routine names known) s = (i : ℕ) × (place names s ≡ Some i)
Defines (RecordRegion type fields) s = (f : ℕ × DataType) × (field_in fields s ≡ Some f)
Defines (OwnNames names defined) s = (i : ℕ) × (place names s ≡ Some i)

-- The point is the region's defining point of this spelling, and comes before the place, so it has a meaning there. It
-- is given with the numbers of blocks and opened records further in.
abbrev pub IsPointOf : Region → (up which : ℕ) → List ℕ → Point → Type 0
IsPointOf (BlockRegion routine names known) up which s p = (i : ℕ) × (m : Meaning) × (place names s ≡ Some i)
    × (slice_get known i ≡ Some m) × (p ≡ BlockPoint up m)
IsPointOf (RecordRegion type fields) up which s p = (f : ℕ × DataType) × (field_in fields s ≡ Some f)
    × (p ≡ FieldPoint which type f.0 f.1)
IsPointOf (OwnNames names defined) up which s p = ⊥

-- none of these regions has a defining point of this spelling
abbrev pub NoneDefines : List Region → List ℕ → Type 0
NoneDefines [] s = Unit {0}
NoneDefines (r ∷ rs) s = (Defines r s → ⊥) × NoneDefines rs s

-- the number of blocks
abbrev pub blocks : List Region → ℕ
blocks [] = 0
blocks (BlockRegion routine names known ∷ rs) = suc (blocks rs)
blocks (RecordRegion type fields ∷ rs) = blocks rs
blocks (OwnNames names defined ∷ rs) = blocks rs

-- the number of opened records
abbrev pub records : List Region → ℕ
records [] = 0
records (BlockRegion routine names known ∷ rs) = records rs
records (RecordRegion type fields ∷ rs) = suc (records rs)
records (OwnNames names defined ∷ rs) = records rs

-- A name denotes the defining point of the closest region that defines its spelling: nested regions that define it
-- again are excluded. A use before the defining point in its region denotes nothing.
pub record Denotes (Γ : List Region) (s : List ℕ) (p : Point) : Type 0 where
  pub inner : List Region
  pub region : Region
  pub outer : List Region
  pub encloses : Γ ≡ inner ++ region ∷ outer
  -- no region further in defines it
  pub closest : NoneDefines inner s
  pub point : IsPointOf region (blocks inner) (records inner) s p
  -- the counts are among those that this project represents
  pub few_blocks : blocks inner ≤ 4294967295
  pub few_records : records inner ≤ 4294967295

-- the search finds the denoted point, and finds none only if none is denoted
abbrev pub FindsWhatIsDenoted : Type 0
FindsWhatIsDenoted = (Γ : List Region) (s : List ℕ) (at : ℕ) (p : Point) → (find Γ s at ≡ Yes p) ↔ Denotes Γ s p
