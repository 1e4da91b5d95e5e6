-- A routine that is being written: what its pieces depend on.
use Rattle.std.specs.Prelude.{◌≡◌, ℕ, ◌<◌, List, length, slice_get, Some}
use Rattle.tac_code.specs.Meaning.{Code, routines}
use Rattle.risc_alloc.specs.declared.homes.Home.{Home}
use Rattle.risc_alloc.specs.declared.homes.Home.TheVariants.{Reg}
use Rattle.risc_alloc.specs.Homes.{homes_of}
use Rattle.risc_emit_relation.specs.Context.{Context}
use Rattle.risc_emit.specs.declared.frame.TheConstants.{OFFSET_LIMIT}
use Rattle.risc_emit.specs.declared.frame.Offsets.{Offsets}
use Rattle.risc_emit.specs.Layout.{laid_out, link_at, slots_at, frame_at, scratch_at, frame_cost}

-- a routine of a code, by its number, with the homes of all temporaries
pub record Place : Type 0 where
  pub code : Code
  pub homes : List Home
  pub number : ℕ

abbrev pub place_of : Code → List Home → ℕ → Place
place_of code homes r = record { code = code; homes = homes; number = r }

abbrev pub context_of : Place → Context
context_of place = laid_out place.code place.homes

-- the offsets are those of the layout, and far below the greatest numbers
pub record AreOffsets (code : Code) (r : ℕ) (offsets : Offsets) : Type 0 where
  pub link : offsets.link ≡ link_at code r
  pub slots : offsets.slots ≡ slots_at code r
  pub frame : offsets.frame ≡ frame_at code r
  pub scratch : offsets.scratch ≡ scratch_at code r
  pub program : offsets.program ≡ frame_at code 0
  pub cost : offsets.cost ≡ frame_cost code r
  pub small : (offsets.frame < OFFSET_LIMIT) × (offsets.scratch < OFFSET_LIMIT) × (offsets.program < OFFSET_LIMIT)
      × (offsets.cost < OFFSET_LIMIT)

-- the homes of a routine's temporaries; registers are 0 to 11
pub record AreHomes (code : Code) (homes : List Home) (r : ℕ) (own : List Home) : Type 0 where
  pub exists : r < length (routines code)
  pub is_own : own ≡ homes_of code homes r
  pub register : (t q : ℕ) → slice_get own t ≡ Some (Reg q) → q < 12
