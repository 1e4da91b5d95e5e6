use Rattle.ps_lower.proofs.Appends.{Added}
use Rattle.ps_lower.proofs.Reading.{reads_added}
use Rattle.ps_lower.specs.Levels.{scope_of}
use Rattle.ps_lower.proofs.reads.reads.Given as goal

abbrev pub invariant-loop-variable : goal.invariant-loop-variable
invariant-loop-variable l = Added (reads_added (scope_of l.level) l.d) l.fn.out l.variables l.variable-index l.out
