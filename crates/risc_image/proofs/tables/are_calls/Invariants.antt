use Rattle.risc_image.specs.declared.rows.CallRow.{CallRow}
use Rattle.risc_image.specs.Image.{IsCall}
use Rattle.risc_image.specs.Table.{words, call_rows_of}
use Rattle.risc_image.proofs.Checked.{IsGoodBelow}
use Rattle.risc_image.proofs.tables.are_calls.Given as goal

abbrev pub invariant-loop-k : goal.invariant-loop-k
invariant-loop-k l = IsGoodBelow (IsCall l.end) (λ (row : CallRow). row.link) (call_rows_of (words l.table)) l.k
