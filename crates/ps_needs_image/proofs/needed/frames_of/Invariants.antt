use Rattle.std.proofs.Common.{◌≡◌, map, take}
use Rattle.risc_image.specs.declared.rows.FrameRow.{FrameRow}
use Rattle.ps_needs_image.proofs.needed.frames_of.Given as goal

abbrev pub invariant-loop-routine : goal.invariant-loop-routine
invariant-loop-routine l = l.frames.items ≡ map (λ (row : FrameRow). row.bytes) (take l.routine l.image.frames)
