-- The pieces of the parameters that are left are what is missing.
use Rattle.std.proofs.Common.{◌≡◌, ◌-◌, ◌++◌}
use Rattle.risc_emit_forms.specs.Forms.{carried, parameters}
use Rattle.risc_emit.specs.Frames.{context_of}
use Rattle.risc_emit.proofs.entry.put_parameters.Given as goal

abbrev pub invariant-loop-j : goal.invariant-loop-j
invariant-loop-j l =
    l.pieces ++ parameters (context_of l.frame) l.frame.number (carried l.count) l.behind l.j (l.count - l.j)
    ≡ l.initial.pieces ++ parameters (context_of l.frame) l.frame.number (carried l.count) l.behind 0 l.count
