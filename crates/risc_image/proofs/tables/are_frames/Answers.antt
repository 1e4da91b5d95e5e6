-- A row that is bad, or not above the row before it, is met where it stands, and without one the table is good.
use Rattle.std.proofs.Common.{ℕ, ◌-◌, ◌≡◌, length, arith, rules, subst}
use Rattle.risc_image.specs.declared.rows.FrameRow.{FrameRow}
use Rattle.risc_image.specs.Image.{IsFrame}
use Rattle.risc_image.specs.Table.{words, frame_rows}
use Rattle.risc_image.proofs.Checked.{IsGoodBelow, good_more, good_all, good_order, above_previous}
use Rattle.risc_image.proofs.tables.are_frames.Goals as goal
use Rattle.risc_image.proofs.tables.are_frames.Goals.{else-k-gt0-via-then-k-gt0+else-read_frame-row}
use Rattle.risc_image.proofs.tables.are_frames.Goals.{else-k-gt0-via-else-k-gt0}

pub returns-then-read_frame-row : goal.returns-then-read_frame-row
returns-then-read_frame-row c = (
  (λ impossible. search rules),
  (λ good. absurd (omega (
    arith,
    good_order (λ (row : FrameRow). row.entry) (frame_rows (words c.args.table.now))
        (c.loop-k.k - 1) c.loop-k.k c.read_frame.result c.read_frame-row.result good.rising
        (omega arith) c.read_frame.ensures c.read_frame-row.ensures,
  ))),
)

pub loop-k-preserved : goal.loop-k-preserved
loop-k-preserved c =
    let good : IsFrame c.args.end c.read_frame-row.result = search rules in
    good_more (IsFrame c.args.end) (λ (row : FrameRow). row.entry)
    (frame_rows (words c.args.table.now)) c.loop-k.k c.read_frame-row.result c.loop-k.invariant
    c.read_frame-row.ensures good
    (λ j next. elim c.else-k-gt0.branch [
      | else-k-gt0-via-then-k-gt0+else-read_frame-row w ↦ above_previous (λ (row : FrameRow). row.entry)
          (frame_rows (words c.args.table.now)) c.loop-k.k w.read_frame.result c.read_frame-row.result
          w.read_frame.ensures (omega arith) j next
      | else-k-gt0-via-else-k-gt0 w ↦ absurd (omega arith)
    ])

pub returns : goal.returns
returns c =
    let all : c.loop-k.k ≡ length (frame_rows (words c.args.table.now)) = omega arith in
    let table = good_all (IsFrame c.args.end) (λ (row : FrameRow). row.entry) (frame_rows (words c.args.table.now))
    (subst (λ (k : ℕ). IsGoodBelow (IsFrame c.args.end) (λ (row : FrameRow). row.entry)
    (frame_rows (words c.args.table.now)) k) all c.loop-k.invariant) in
    ((λ _. record { each = table.0; rising = table.1 }), (λ _. search rules))
