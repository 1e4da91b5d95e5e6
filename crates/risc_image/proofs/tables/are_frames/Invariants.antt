use Rattle.risc_image.specs.declared.rows.FrameRow.{FrameRow}
use Rattle.risc_image.specs.Image.{IsFrame}
use Rattle.risc_image.specs.Table.{words, frame_rows}
use Rattle.risc_image.proofs.Checked.{IsGoodBelow}
use Rattle.risc_image.proofs.tables.are_frames.Given as goal

abbrev pub invariant-loop-k : goal.invariant-loop-k
invariant-loop-k l = IsGoodBelow (IsFrame l.end) (λ (row : FrameRow). row.entry) (frame_rows (words l.table)) l.k
