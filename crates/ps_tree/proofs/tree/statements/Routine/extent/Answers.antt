use Rattle.std.proofs.Common.{◌∙◌}
use Rattle.ps_tree.proofs.FormalLemmas.{extent_parts}
use Rattle.ps_tree.proofs.tree.statements.Routine.extent.Goals as goal

pub returns : goal.returns
returns c =
    c.both-3.ensures _ _ (c.both-2.ensures _ _
    (c.both.ensures _ _ c.count_formals-formals.ensures c.count_result-outcome.ensures)
    c.count_variables-variables.ensures) c.count_statements-body.ensures
    ∙ extent_parts c.args.self.now _ _ _ c.deref.ensures.value c.deref-2.ensures.value c.deref-3.ensures.value
