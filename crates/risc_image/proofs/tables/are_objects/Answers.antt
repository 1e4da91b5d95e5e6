-- A row that is bad, or not above the row before it, is met where it stands, and without one the table is good.
use Rattle.std.proofs.Common.{ℕ, ◌-◌, ◌≡◌, length, arith, rules, subst}
use Rattle.risc_image.specs.declared.rows.ObjectRow.{ObjectRow}
use Rattle.risc_image.specs.Image.{IsObject}
use Rattle.risc_image.specs.Table.{words, object_rows}
use Rattle.risc_image.proofs.Checked.{IsGoodBelow, good_more, good_all, good_order, above_previous}
use Rattle.risc_image.proofs.tables.are_objects.Goals as goal
use Rattle.risc_image.proofs.tables.are_objects.Goals.{else-k-gt0-via-then-k-gt0+else-read_object-row}
use Rattle.risc_image.proofs.tables.are_objects.Goals.{else-k-gt0-via-else-k-gt0}

pub returns-then-read_object-row : goal.returns-then-read_object-row
returns-then-read_object-row c = (
  (λ impossible. search rules),
  (λ good. absurd (omega (
    arith,
    good_order (λ (row : ObjectRow). row.pointer_type)
        (object_rows (words c.args.table.now)) (c.loop-k.k - 1) c.loop-k.k c.read_object.result c.read_object-row.result
        good.rising (omega arith) c.read_object.ensures c.read_object-row.ensures,
  ))),
)

pub loop-k-preserved : goal.loop-k-preserved
loop-k-preserved c =
    let good : IsObject c.read_object-row.result = search rules in
    good_more (IsObject) (λ (row : ObjectRow). row.pointer_type)
    (object_rows (words c.args.table.now)) c.loop-k.k c.read_object-row.result c.loop-k.invariant
    c.read_object-row.ensures good
    (λ j next. elim c.else-k-gt0.branch [
      | else-k-gt0-via-then-k-gt0+else-read_object-row w ↦ above_previous (λ (row : ObjectRow). row.pointer_type)
          (object_rows (words c.args.table.now)) c.loop-k.k w.read_object.result c.read_object-row.result
          w.read_object.ensures (omega arith) j next
      | else-k-gt0-via-else-k-gt0 w ↦ absurd (omega arith)
    ])

pub returns : goal.returns
returns c =
    let all : c.loop-k.k ≡ length (object_rows (words c.args.table.now)) = omega arith in
    let table = good_all (IsObject) (λ (row : ObjectRow). row.pointer_type) (object_rows (words c.args.table.now))
    (subst (λ (k : ℕ). IsGoodBelow (IsObject) (λ (row : ObjectRow). row.pointer_type)
    (object_rows (words c.args.table.now)) k) all c.loop-k.invariant) in
    ((λ _. record { each = table.0; rising = table.1 }), (λ _. search rules))
