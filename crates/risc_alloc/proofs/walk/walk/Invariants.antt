use Rattle.std.proofs.Common.{◌≡◌, ◌≤◌, false, length}
use Rattle.risc_alloc.specs.Walk.{Walked}
use Rattle.risc_alloc.proofs.walk.walk.Given as goal

abbrev pub invariant-loop-place : goal.invariant-loop-place
invariant-loop-place l =
    (l.place ≤ length l.body) × (l.grew ≡ false → (l.claims ≡ l.initial.claims)
    × Walked l.window l.claims l.body l.place l.table.holders.items)

abbrev pub decreases-loop-place : goal.decreases-loop-place
decreases-loop-place l = l.place
