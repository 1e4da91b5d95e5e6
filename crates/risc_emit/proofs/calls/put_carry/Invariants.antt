-- The pieces of the operands that are left are what is missing.
use Rattle.std.proofs.Common.{◌≡◌, ◌≤◌, ◌++◌}
use Rattle.risc_emit_forms.specs.Forms.{carry}
use Rattle.risc_emit.specs.Frames.{context_of}
use Rattle.risc_emit.proofs.calls.put_carry.Given as goal

abbrev pub invariant-loop-j : goal.invariant-loop-j
invariant-loop-j l =
    (l.j ≤ l.n) × (l.pieces ++ carry (context_of l.frame) l.frame.number l.n l.j l.operands ≡ l.initial.pieces ++ carry
    (context_of l.frame) l.frame.number l.n l.n l.operands)

abbrev pub decreases-loop-j : goal.decreases-loop-j
decreases-loop-j l = l.j
