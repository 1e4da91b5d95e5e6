use Rattle.ps_check_declarations.specs.Points.{constant_points}
use Rattle.ps_check_declarations.proofs.Walks.{Walked}
use Rattle.ps_check_declarations.proofs.points.add_constants.Given as goal

abbrev pub invariant-loop-definition : goal.invariant-loop-definition
invariant-loop-definition l = Walked l.reading.source.now constant_points l.fn.names l.definitions l.definition-index
    l.names
