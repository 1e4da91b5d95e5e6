use Rattle.std.proofs.Common.{ℕ, ◌-◌, ◌<◌, ◌≤◌, length}
use Rattle.risc_alloc.specs.Windows.{IsMarked}
use Rattle.risc_alloc.proofs.window.is_marked.Given as goal

abbrev pub invariant-loop-seat : goal.invariant-loop-seat
invariant-loop-seat l =
    (l.from ≤ l.seat) × ((seat : ℕ) → l.from ≤ seat → seat < l.seat → IsMarked l.marks seat → ⊥)

abbrev pub decreases-loop-seat : goal.decreases-loop-seat
decreases-loop-seat l = length l.marks - l.seat
