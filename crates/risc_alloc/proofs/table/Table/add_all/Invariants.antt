use Rattle.std.proofs.Common.{ℕ, ◌<◌, slice_index}
use Rattle.risc_alloc.specs.Windows.{IsHeldHere, Keeps}
use Rattle.risc_alloc.proofs.table.Table.add_all.Given as goal

abbrev pub invariant-loop-temporary : goal.invariant-loop-temporary
invariant-loop-temporary l =
    Keeps l.window l.fn.self.holders.items l.self.holders.items
    × ((k : ℕ) → k < l.temporary-index → IsHeldHere l.window l.self.holders.items (slice_index l.list k))
