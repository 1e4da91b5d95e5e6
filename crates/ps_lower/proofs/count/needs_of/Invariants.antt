-- Both are the largest so far.
use Rattle.ps_lower_code.specs.Programs.{temporaries_in, scratch_in}
use Rattle.ps_lower.proofs.Largest.{Largest}
use Rattle.ps_lower.proofs.count.needs_of.Given as goal

abbrev pub invariant-loop-instruction : goal.invariant-loop-instruction
invariant-loop-instruction l =
    Largest temporaries_in l.list l.instruction-index l.temporaries
    × Largest scratch_in l.list l.instruction-index l.scratch
