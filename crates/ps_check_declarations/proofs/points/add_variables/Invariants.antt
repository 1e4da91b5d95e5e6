use Rattle.ps_check_declarations.specs.Points.{variables_points}
use Rattle.ps_check_declarations.proofs.Walks.{Walked}
use Rattle.ps_check_declarations.proofs.points.add_variables.Given as goal

abbrev pub invariant-loop-declaration : goal.invariant-loop-declaration
invariant-loop-declaration l = Walked l.reading.source.now variables_points l.fn.names l.declarations
    l.declaration-index l.names
