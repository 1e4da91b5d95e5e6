use Rattle.ps_check_declarations.specs.Points.{definition_points}
use Rattle.ps_check_declarations.proofs.Walks.{Walked}
use Rattle.ps_check_declarations.proofs.points.add_definitions.Given as goal

abbrev pub invariant-loop-definition : goal.invariant-loop-definition
invariant-loop-definition l = Walked l.reading.source.now definition_points l.fn.names l.definitions l.definition-index
    l.names
