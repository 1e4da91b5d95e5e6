use Rattle.ps_check_declarations.specs.Points.{ordinal_points}
use Rattle.ps_check_declarations.proofs.Walks.{Walked}
use Rattle.ps_check_declarations.proofs.points.add_ordinals.Given as goal

abbrev pub invariant-loop-ordinal : goal.invariant-loop-ordinal
invariant-loop-ordinal l = Walked l.reading.source.now ordinal_points l.fn.names l.ordinals l.ordinal-index l.names
