use Rattle.std.proofs.Common.{◌≡◌}
use Rattle.risc_emit_forms.specs.Peephole.{deferred_at}
use Rattle.risc_emit.specs.Frames.{context_of}
use Rattle.risc_emit.proofs.Drafting.{Drafted}
use Rattle.risc_emit.proofs.draft.put_routine.Given as goal

abbrev pub invariant-loop-place : goal.invariant-loop-place
invariant-loop-place l =
    Drafted (context_of l.frame) l.frame.number l.routine l.fn.pieces l.fn.texts.items l.place l.pieces l.texts.items
    l.places.items × (l.here ≡ deferred_at (context_of l.frame) l.frame.number l.place)
