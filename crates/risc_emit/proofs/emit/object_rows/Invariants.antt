-- The rows of the types that are left are what is missing.
use Rattle.std.proofs.Common.{◌≡◌, ◌++◌, drop}
use Rattle.risc_emit_laws.specs.Drawn.{object_rows_of}
use Rattle.risc_emit.specs.Layout.{laid_out}
use Rattle.risc_emit.proofs.emit.object_rows.Given as goal

abbrev pub invariant-loop-number : goal.invariant-loop-number
invariant-loop-number l =
    l.rows.items ++ object_rows_of (laid_out l.tac l.homes) l.number (drop l.number l.tac.objects) ≡ object_rows_of
    (laid_out l.tac l.homes) 0 l.tac.objects
