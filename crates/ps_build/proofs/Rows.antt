-- The trap table's row of a link, as the image and as the machine's run looks it up.
use Rattle.std.proofs.Common.{◌≡◌, ℕ, Bool, true, false, cond, List, [], ◌∷◌, map, Option, Some, refl}
use Rattle.std.specs.Prelude.{nat_eq, option_map}
use Rattle.risc_image.specs.declared.rows.TrapRow.{TrapRow}
use Rattle.risc_image.specs.Table.{trap_at}
use Rattle.risc_machine.specs.Exec.{row_at}
use Rattle.risc_load.specs.Shows.{trap_row}

-- a table's row is the first, or the row among the others
with_row : (b : Bool) (row : TrapRow) (found : Option (ℕ × ℕ × ℕ)) (others : Option TrapRow) → found
    ≡ option_map trap_row others → cond b (Some (trap_row row)) found ≡ option_map trap_row (cond b (Some row) others)
with_row true row found others e = refl
with_row false row found others e = e

pub row_of_link : (link : ℕ) (rows : List TrapRow) → row_at link (map trap_row rows) ≡ option_map trap_row
    (trap_at link rows)
row_of_link link [] = refl
row_of_link link (row ∷ rows) =
    with_row (nat_eq row.link link) row (row_at link (map trap_row rows)) (trap_at link rows) (row_of_link link rows)
