use Rattle.std.proofs.Common.{ℕ, ◌<◌}
use Rattle.risc_alloc.specs.Windows.{IsFreeFor}
use Rattle.risc_alloc.proofs.walk.are_free_for.Given as goal

abbrev pub invariant-loop-parameter : goal.invariant-loop-parameter
invariant-loop-parameter l = (t : ℕ) → t < l.parameter → IsFreeFor l.window l.table.holders.items t
