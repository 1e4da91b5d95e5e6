-- The rows below `low` have lower keys, and those from `high` on higher ones.
use Rattle.std.proofs.Common.{ℕ, ◌-◌, ◌*◌, ◌<◌, ◌≤◌, get_or}
use Rattle.risc_image.specs.Table.{words}
use Rattle.risc_image.proofs.search.row_of.Given as goal

abbrev pub invariant-loop-low : goal.invariant-loop-low
invariant-loop-low l = record {
  within : l.high ≤ l.count;
  below : (k : ℕ) → k < l.low → get_or (words l.table) (l.width * k) 0 < l.key;
  above : (k : ℕ) → l.high ≤ k → k < l.count → l.key < get_or (words l.table) (l.width * k) 0;
}

abbrev pub decreases-loop-low : goal.decreases-loop-low
decreases-loop-low l = l.high - l.low
