use Rattle.std.proofs.Common.{◌≡◌, [], map}
use Rattle.ps_tree.specs.View.{place_of}
use Rattle.ps_check_judgement.proofs.Lists.{Stepped}
use Rattle.ps_check_names.specs.Views.{opened_in}
use Rattle.ps_check_expressions.specs.View.{context_at, regions_at}
use Rattle.ps_check_statements.specs.Structured.{open_next}
use Rattle.ps_check_statements.proofs.with_statements.open_all.Given as goal

-- the records so far are open
abbrev pub invariant-loop-variable : goal.invariant-loop-variable
invariant-loop-variable l = Stepped (λ t x. open_next (context_at l.site) t.0 x t.1)
    (([], regions_at l.site), l.fn.changes.items) l.records l.variable-index
    ((map place_of l.places.items, opened_in (regions_at l.site) l.opened.records.items), l.changes.items)
    × (l.opened.wides.now ≡ l.wides)
