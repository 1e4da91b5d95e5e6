use Rattle.std.proofs.Common.{ℕ, ◌<◌, ◌≤◌, ◌-◌, length, slice_index}
use Rattle.risc_alloc.specs.Windows.{IsIn}
use Rattle.risc_alloc.proofs.table.Table.is_within.Given as goal

abbrev pub invariant-loop-seat : goal.invariant-loop-seat
invariant-loop-seat l =
    (l.next ≤ length l.list) × ((seat : ℕ) → seat < l.seat → 0 < slice_index l.self.holders.items seat → IsIn l.list
    (slice_index l.self.holders.items seat - 1))
