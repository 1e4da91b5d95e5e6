use Rattle.ps_tree.specs.View.{write_of}
use Rattle.ps_check_expressions.specs.View.{context_at, regions_at}
use Rattle.ps_check_statements.specs.Procedures.{write_parameter}
use Rattle.ps_check_statements.proofs.Loops.{Added}
use Rattle.ps_check_statements.proofs.text.write_parameters.Given as goal

abbrev pub invariant-loop-parameter : goal.invariant-loop-parameter
invariant-loop-parameter l = Added (write_parameter (context_at l.site) (regions_at l.site)) write_of l.rest
    l.fn.changes.items l.parameter-index l.list.items l.changes.items
