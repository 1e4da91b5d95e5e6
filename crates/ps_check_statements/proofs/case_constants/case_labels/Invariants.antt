use Rattle.std.proofs.Common.{◌≡◌, [], ◌++◌}
use Rattle.ps_check_judgement.proofs.Lists.{Stepped}
use Rattle.ps_check_expressions.specs.View.{context_at, regions_at}
use Rattle.ps_check_statements.specs.Structured.{next_label}
use Rattle.ps_check_statements.proofs.case_constants.case_labels.Given as goal

abbrev pub invariant-loop-label : goal.invariant-loop-label
invariant-loop-label l = record {
  stepped : Stepped (next_label (context_at l.site) (regions_at l.site) l.index l.fn.seen.keys) [] l.constants
      l.label-index l.own.items;
  seen : l.seen.keys ≡ l.fn.seen.keys ++ l.own.items;
}
