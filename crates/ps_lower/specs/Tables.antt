-- Where the entries of a frame are.
use Rattle.std.specs.Prelude.{◌≡◌, ℕ, ◌+◌, ◌*◌, Bool, true, false, List, [], ◌∷◌, map}
use Rattle.ps_tree.specs.Checked.{Parts, program_in}
use Rattle.ps_tree.specs.Counts.{is_within_limits}
use Rattle.ps_tree.specs.Tree.{Routine}
use Rattle.ps_lower_layout.specs.Frames.{Kind, Reference, kind_words, words_of_all, entries}
use Rattle.ps_lower.specs.declared.frame.Spot.{Spot}
use Rattle.ps_lower.specs.declared.frame.Table.{Table}

abbrev pub is_reference : Kind → Bool
is_reference (Reference shape) = true
is_reference _ = false

-- an entry at a place, which is given in words
abbrev pub spot : ℕ → Bool → Spot
spot p reference = record { offset = 4 * p; reference = reference }

abbrev pub spot_at : ℕ → Kind → Spot
spot_at p kind = spot p (is_reference kind)

abbrev pub spots_from : ℕ → List Kind → List Spot
spots_from p [] = []
spots_from p (kind ∷ rest) = spot_at p kind ∷ spots_from (p + kind_words kind) rest

-- the entries, and the words up to the end of the last
pub record Contents : Type 0 where
  pub spots : List Spot
  pub words : ℕ

abbrev pub contents_of : Routine → Contents
contents_of r = record { spots = spots_from 1 (entries r); words = 1 + words_of_all (entries r) }

abbrev pub contents_in : Table → Contents
contents_in t = record { spots = t.spots.items; words = t.words }

-- the tables of all routines
abbrev pub AreTables : List Table → List Routine → Type 0
AreTables tables routines = map contents_in tables ≡ map contents_of routines

-- the tables of a checked program, which keeps the limits
pub record AreFrames (tables : List Table) (parts : Parts) : Type 0 where
  pub are : AreTables tables (program_in parts).routines
  pub limits : is_within_limits (program_in parts) ≡ true
