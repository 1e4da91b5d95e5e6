use Rattle.std.proofs.Common.{subst, arith, length-drop}
use Rattle.pascal_cli.specs.Failures.{has_failed}
use Rattle.pascal_cli.specs.Jobs.{limits_in}
use Rattle.pascal_cli.specs.Watched.{Covers, IsRun, first}
use Rattle.pascal_cli.proofs.Watches.{covers_more}
use Rattle.pascal_cli.proofs.watched.covered.cover_files.Goals as goal

pub loop-input-init : goal.loop-input-init
loop-input-init g c = first c.cover_file-status.result c.cover_file-status.ensures.run

pub loop-input-preserved : goal.loop-input-preserved
loop-input-preserved g c = covers_more c.args.program.text.now (limits_in c.args.job.now)
    (has_failed c.loop-input.failures) (has_failed c.cover_file-next.new.failures) c.loop-input.input-index
    c.loop-input.status c.cover_file-next.result c.first_failed-status.result c.cover_file-next.ensures.kept
    c.first_failed-status.ensures c.loop-input.invariant c.cover_file-next.ensures.run

pub returns : goal.returns
returns g c = subst
    (λ n. Covers (IsRun c.args.program.text.now (limits_in c.args.job.now) (has_failed c.loop-input.failures)) n
    c.loop-input.status)
    (omega (arith, length-drop 1 c.args.options.now.inputs.items, c.requires.some)) c.loop-input.invariant
