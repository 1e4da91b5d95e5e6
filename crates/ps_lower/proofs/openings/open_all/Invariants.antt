use Rattle.ps_lower.specs.Levels.{scope_of}
use Rattle.ps_lower.proofs.Opening.{Opening, Widening}
use Rattle.ps_lower.proofs.openings.open_all.Given as goal

abbrev pub invariant-loop-variable : goal.invariant-loop-variable
invariant-loop-variable l = Opening (scope_of l.level) l.calls l.d l.fn.out l.records l.variable-index l.out
    l.sites.items l.depth × Widening (scope_of l.level) l.calls l.records l.variable-index l.sites.items l.depth
