-- A row that is bad, or not above the row before it, is met where it stands, and without one the table is good.
use Rattle.std.proofs.Common.{ℕ, ◌-◌, ◌≡◌, length, arith, rules, subst}
use Rattle.risc_image.specs.declared.rows.CallRow.{CallRow}
use Rattle.risc_image.specs.Image.{IsCall}
use Rattle.risc_image.specs.Table.{words, call_rows_of}
use Rattle.risc_image.proofs.Checked.{IsGoodBelow, good_more, good_all, good_order, above_previous}
use Rattle.risc_image.proofs.tables.are_calls.Goals as goal
use Rattle.risc_image.proofs.tables.are_calls.Goals.{else-k-gt0-via-then-k-gt0+else-read_call-row}
use Rattle.risc_image.proofs.tables.are_calls.Goals.{else-k-gt0-via-else-k-gt0}

pub returns-then-read_call-row : goal.returns-then-read_call-row
returns-then-read_call-row c = (
  (λ impossible. search rules),
  (λ good. absurd (omega (
    arith,
    good_order (λ (row : CallRow). row.link) (call_rows_of (words c.args.table.now))
        (c.loop-k.k - 1) c.loop-k.k c.read_call.result c.read_call-row.result good.rising
        (omega arith) c.read_call.ensures c.read_call-row.ensures,
  ))),
)

pub loop-k-preserved : goal.loop-k-preserved
loop-k-preserved c =
    let good : IsCall c.args.end c.read_call-row.result = search rules in
    good_more (IsCall c.args.end) (λ (row : CallRow). row.link)
    (call_rows_of (words c.args.table.now)) c.loop-k.k c.read_call-row.result c.loop-k.invariant
    c.read_call-row.ensures good
    (λ j next. elim c.else-k-gt0.branch [
      | else-k-gt0-via-then-k-gt0+else-read_call-row w ↦ above_previous (λ (row : CallRow). row.link)
          (call_rows_of (words c.args.table.now)) c.loop-k.k w.read_call.result c.read_call-row.result
          w.read_call.ensures (omega arith) j next
      | else-k-gt0-via-else-k-gt0 w ↦ absurd (omega arith)
    ])

pub returns : goal.returns
returns c =
    let all : c.loop-k.k ≡ length (call_rows_of (words c.args.table.now)) = omega arith in
    let table = good_all (IsCall c.args.end) (λ (row : CallRow). row.link) (call_rows_of (words c.args.table.now))
    (subst (λ (k : ℕ). IsGoodBelow (IsCall c.args.end) (λ (row : CallRow). row.link)
    (call_rows_of (words c.args.table.now)) k) all c.loop-k.invariant) in
    ((λ _. record { each = table.0; rising = table.1 }), (λ _. search rules))
