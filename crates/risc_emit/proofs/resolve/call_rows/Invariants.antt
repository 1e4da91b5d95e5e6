-- The rows of the pieces that are left are what is missing.
use Rattle.std.proofs.Common.{◌≡◌, ◌++◌, drop}
use Rattle.risc_emit_laws.specs.Drawn.{call_rows_of}
use Rattle.risc_emit.specs.Meant.{all_meant}
use Rattle.risc_emit.proofs.resolve.call_rows.Given as goal

abbrev pub invariant-loop-at : goal.invariant-loop-at
invariant-loop-at l =
    l.rows.items ++ call_rows_of l.at (all_meant (drop l.at l.pieces)) ≡ call_rows_of 0 (all_meant l.pieces)
