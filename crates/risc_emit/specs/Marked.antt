-- What the marks of a draft say: where the words of routines, instructions and constants begin.
use Rattle.std.specs.Prelude.{◌≡◌, ℕ, suc, ◌≤◌, List, length, slice_get, Some}
use Rattle.tac_code.specs.declared.code.TacRoutine.{TacRoutine}
use Rattle.tac_code.specs.Meaning.{routines}
use Rattle.risc_emit_relation.specs.Context.{Context}
use Rattle.risc_emit_laws.specs.Drawn.{entry_place, site_place, text_place}
use Rattle.risc_emit.specs.declared.marks.Mark.{Mark}
use Rattle.risc_emit.specs.declared.marks.Marks.{Marks}

abbrev pub mark_of : (site text : ℕ) → Mark
mark_of site text = record { site = site; text = text }

-- for a routine: its entry, and each place up to the one after its last instruction
pub record AreMarksOf (c : Context) (r : ℕ) (routine : TacRoutine) (m : Marks) : Type 0 where
  pub entry : m.entry ≡ entry_place c r
  pub count : length m.places.items ≡ suc (length routine.body)
  pub each : (k : ℕ) → k ≤ length routine.body → (mark : Mark) × (slice_get m.places.items k ≡ Some mark)
      × (mark.site ≡ site_place c r routine k) × (mark.text ≡ text_place c.code r routine k)

pub record AreMarked (c : Context) (marks : List Marks) : Type 0 where
  pub count : length marks ≡ length (routines c.code)
  pub each : (r : ℕ) (routine : TacRoutine) → slice_get (routines c.code) r ≡ Some routine → (m : Marks)
      × (slice_get marks r ≡ Some m) × AreMarksOf c r routine m
