use Rattle.risc_image.specs.declared.rows.TrapRow.{TrapRow}
use Rattle.risc_image.specs.Image.{IsTrap}
use Rattle.risc_image.specs.Table.{words, trap_rows}
use Rattle.risc_image.proofs.Checked.{IsGoodBelow}
use Rattle.risc_image.proofs.tables.are_traps.Given as goal

abbrev pub invariant-loop-k : goal.invariant-loop-k
invariant-loop-k l = IsGoodBelow (IsTrap l.end) (λ (row : TrapRow). row.link) (trap_rows (words l.table)) l.k
