use Rattle.std.proofs.Common.{map}
use Rattle.ps_check_judgement.proofs.Lists.{Stepped}
use Rattle.ps_check_names.specs.Views.{context_of}
use Rattle.ps_check_declarations.specs.Views.{frame_of}
use Rattle.ps_check.specs.Blocks.{one_routine, routine}
use Rattle.ps_check.specs.Views.{routines_of}
use Rattle.ps_check.proofs.blocks.+block.Given as goal

abbrev pub invariant-read_routines-loop-written : goal.invariant-read_routines-loop-written
invariant-read_routines-loop-written l = Stepped (one_routine (frame_of l.frame) l.chain)
    (routines_of l.fn.local l.fn.gathered) (map (routine (context_of l.frame.reading.now)) l.list) l.written-index
    (routines_of l.local l.gathered)
