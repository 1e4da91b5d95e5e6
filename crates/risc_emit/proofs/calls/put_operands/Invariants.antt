-- The pieces of the operands that are left are what is missing.
use Rattle.std.proofs.Common.{◌≡◌, ◌++◌, drop}
use Rattle.risc_emit_forms.specs.Forms.{pass}
use Rattle.risc_emit.specs.Frames.{context_of}
use Rattle.risc_emit.proofs.calls.put_operands.Given as goal

abbrev pub invariant-loop-j : goal.invariant-loop-j
invariant-loop-j l =
    l.pieces ++ pass (context_of l.frame) l.frame.number l.n l.j (drop l.j l.operands) ≡ l.initial.pieces ++ pass
    (context_of l.frame) l.frame.number l.n 0 l.operands
