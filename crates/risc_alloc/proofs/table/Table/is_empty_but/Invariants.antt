use Rattle.std.proofs.Common.{◌≡◌, ℕ, ◌+◌, ◌<◌, slice_index}
use Rattle.risc_alloc.proofs.table.Table.is_empty_but.Given as goal

abbrev pub invariant-loop-seat : goal.invariant-loop-seat
invariant-loop-seat l =
    (seat : ℕ) → seat < l.seat → 0 < slice_index l.self.holders.items seat → slice_index l.self.holders.items seat
    ≡ l.temporary + 1
