use Rattle.ps_check_judgement.proofs.Lists.{Stepped}
use Rattle.ps_check_declarations.specs.Points.{new_point}
use Rattle.ps_check_declarations.proofs.points.new_points.Given as goal

abbrev pub invariant-loop-point : goal.invariant-loop-point
invariant-loop-point l = Stepped (new_point l.reading.source.now l.names l.begun) l.count l.points l.point-index
    l.defined
