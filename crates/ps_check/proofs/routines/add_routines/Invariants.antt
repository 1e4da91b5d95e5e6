use Rattle.ps_check_names.specs.Views.{context_of}
use Rattle.ps_check.specs.Blocks.{routine}
use Rattle.ps_check.proofs.Lists.{Headed}
use Rattle.ps_check.proofs.routines.add_routines.Given as goal

abbrev pub invariant-loop-written : goal.invariant-loop-written
invariant-loop-written l = Headed l.reading.source.now
    (routine (context_of l.reading)) l.fn.names l.list l.written-index l.names
