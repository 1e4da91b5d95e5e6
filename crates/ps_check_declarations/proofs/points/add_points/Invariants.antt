use Rattle.ps_check_declarations.proofs.Walks.{Added}
use Rattle.ps_check_declarations.proofs.points.add_points.Given as goal

abbrev pub invariant-loop-point : goal.invariant-loop-point
invariant-loop-point l = Added l.reading.source.now l.fn.names l.points l.point-index l.names
