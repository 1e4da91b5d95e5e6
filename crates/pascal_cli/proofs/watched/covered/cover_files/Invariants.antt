use Rattle.std.proofs.Common.{◌+◌}
use Rattle.pascal_cli.specs.Failures.{has_failed}
use Rattle.pascal_cli.specs.Jobs.{limits_in}
use Rattle.pascal_cli.specs.Watched.{Covers, IsRun}
use Rattle.pascal_cli.proofs.watched.covered.cover_files.Given as goal

-- the status is that of the runs so far, of which the first was before the loop
abbrev pub invariant-loop-input : goal.invariant-loop-input
invariant-loop-input g l = Covers (IsRun l.program.text.now (limits_in l.job) (has_failed l.failures))
    (l.input-index + 1) l.status
