use Rattle.std.proofs.Common.{◌≡◌, ◌≢◌, ℕ, ◌+◌, ◌<◌, length, slice_index}
use Rattle.risc_alloc.specs.Windows.{IsMarked}
use Rattle.risc_alloc.proofs.window.marks_of_strangers.Given as goal

abbrev pub invariant-loop-temporary : goal.invariant-loop-temporary
invariant-loop-temporary l =
    (length l.marks.items ≡ l.count) × ((t : ℕ) → t < l.temporary → slice_index l.seats t ≢ 12 + t
    → slice_index l.seats t < length l.marks.items → IsMarked l.marks.items (slice_index l.seats t))
