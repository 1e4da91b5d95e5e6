use Rattle.ps_check_declarations.specs.Points.{fields_points}
use Rattle.ps_check_declarations.proofs.Walks.{Walked}
use Rattle.ps_check_declarations.proofs.points.+points.Given as goal

abbrev pub invariant-add_fields-loop-fields : goal.invariant-add_fields-loop-fields
invariant-add_fields-loop-fields l = Walked l.reading.source.now fields_points l.fn.names l.sections l.fields-index
    l.names
