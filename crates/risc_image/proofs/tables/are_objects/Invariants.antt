use Rattle.risc_image.specs.declared.rows.ObjectRow.{ObjectRow}
use Rattle.risc_image.specs.Image.{IsObject}
use Rattle.risc_image.specs.Table.{words, object_rows}
use Rattle.risc_image.proofs.Checked.{IsGoodBelow}
use Rattle.risc_image.proofs.tables.are_objects.Given as goal

abbrev pub invariant-loop-k : goal.invariant-loop-k
invariant-loop-k l = IsGoodBelow (IsObject) (λ (row : ObjectRow). row.pointer_type) (object_rows (words l.table)) l.k
