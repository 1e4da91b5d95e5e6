use Rattle.ps_tree.specs.View.{read_of}
use Rattle.ps_check_expressions.specs.View.{context_at, regions_at}
use Rattle.ps_check_statements.specs.Procedures.{read_parameter}
use Rattle.ps_check_statements.proofs.Loops.{Added}
use Rattle.ps_check_statements.proofs.text.read_parameters.Given as goal

abbrev pub invariant-loop-parameter : goal.invariant-loop-parameter
invariant-loop-parameter l = Added (read_parameter (context_at l.site) (regions_at l.site)) read_of l.rest
    l.fn.changes.items l.parameter-index l.list.items l.changes.items
