use Rattle.std.proofs.Common.{◌≡◌, length}
use Rattle.std.specs.Vec.Iter.{into_iter_items, into_iter_len}
use Rattle.ps_check.proofs.Collected.{Collected}
use Rattle.ps_check.proofs.program.all_routines.Given as goal

abbrev pub invariant-loop-finished : goal.invariant-loop-finished
invariant-loop-finished l =
    Collected l.at (into_iter_items l.initial.finished-iterator) (into_iter_items l.finished-iterator) l.routines.items
    × (into_iter_len l.finished-iterator ≡ length (into_iter_items l.finished-iterator))
