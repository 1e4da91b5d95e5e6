-- A row that is bad, or not above the row before it, is met where it stands, and without one the table is good.
use Rattle.std.proofs.Common.{ℕ, ◌-◌, ◌≡◌, length, arith, rules, subst}
use Rattle.risc_image.specs.declared.rows.TrapRow.{TrapRow}
use Rattle.risc_image.specs.Image.{IsTrap}
use Rattle.risc_image.specs.Table.{words, trap_rows}
use Rattle.risc_image.proofs.Checked.{IsGoodBelow, good_more, good_all, good_order, above_previous}
use Rattle.risc_image.proofs.tables.are_traps.Goals as goal
use Rattle.risc_image.proofs.tables.are_traps.Goals.{else-k-gt0-via-then-k-gt0+else-read_trap-row}
use Rattle.risc_image.proofs.tables.are_traps.Goals.{else-k-gt0-via-else-k-gt0}

pub returns-then-read_trap-row : goal.returns-then-read_trap-row
returns-then-read_trap-row c = (
  (λ impossible. search rules),
  (λ good. absurd (omega (
    arith,
    good_order (λ (row : TrapRow). row.link) (trap_rows (words c.args.table.now))
        (c.loop-k.k - 1) c.loop-k.k c.read_trap.result c.read_trap-row.result good.rising
        (omega arith) c.read_trap.ensures c.read_trap-row.ensures,
  ))),
)

pub loop-k-preserved : goal.loop-k-preserved
loop-k-preserved c =
    let good : IsTrap c.args.end c.read_trap-row.result = search rules in
    good_more (IsTrap c.args.end) (λ (row : TrapRow). row.link)
    (trap_rows (words c.args.table.now)) c.loop-k.k c.read_trap-row.result c.loop-k.invariant
    c.read_trap-row.ensures good
    (λ j next. elim c.else-k-gt0.branch [
      | else-k-gt0-via-then-k-gt0+else-read_trap-row w ↦ above_previous (λ (row : TrapRow). row.link)
          (trap_rows (words c.args.table.now)) c.loop-k.k w.read_trap.result c.read_trap-row.result w.read_trap.ensures
          (omega arith) j next
      | else-k-gt0-via-else-k-gt0 w ↦ absurd (omega arith)
    ])

pub returns : goal.returns
returns c =
    let all : c.loop-k.k ≡ length (trap_rows (words c.args.table.now)) = omega arith in
    let table = good_all (IsTrap c.args.end) (λ (row : TrapRow). row.link) (trap_rows (words c.args.table.now))
    (subst (λ (k : ℕ). IsGoodBelow (IsTrap c.args.end) (λ (row : TrapRow). row.link)
    (trap_rows (words c.args.table.now)) k) all c.loop-k.invariant) in
    ((λ _. record { each = table.0; rising = table.1 }), (λ _. search rules))
