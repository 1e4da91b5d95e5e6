use Rattle.ps_lower.proofs.Appends.{Added}
use Rattle.ps_lower.proofs.Rows.{writes_added}
use Rattle.ps_lower.specs.Levels.{scope_of}
use Rattle.ps_lower.proofs.writes.writes.Given as goal

abbrev pub invariant-loop-parameter : goal.invariant-loop-parameter
invariant-loop-parameter l = Added (writes_added (scope_of l.level) l.d) l.fn.out l.parameters l.parameter-index l.out
