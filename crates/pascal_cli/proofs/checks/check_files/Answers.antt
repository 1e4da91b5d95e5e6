use Rattle.std.proofs.Common.{◌+◌, inr, sym, subst}
use Rattle.pascal_cli.specs.Failures.{Tells, has_failed}
use Rattle.pascal_cli.specs.Jobs.{AreAccepted, SomeAccepted, SomeRefused}
use Rattle.pascal_cli.proofs.Done.{next_accepted, none_accepted}
use Rattle.pascal_cli.proofs.Failed.{told_both}
use Rattle.pascal_cli.proofs.checks.check_files.Goals as goal

pub loop-path-init : goal.loop-path-init
loop-path-init g c = inr none_accepted

pub loop-path-preserved : goal.loop-path-preserved
loop-path-preserved g c =
    let before = has_failed c.loop-path.failures in
    let after = has_failed c.check_file-checked.new.failures in
    let one = c.loop-path.are_accepted in
    let other = c.check_file-checked.result.is_accepted in
    let count = c.loop-path.path-index + 1 in
    subst (λ b. Tells b after (AreAccepted count) SomeRefused) (sym c.are_both-are_accepted.ensures)
    (told_both (AreAccepted c.loop-path.path-index) SomeAccepted (AreAccepted count) SomeRefused one other before after
    c.check_file-checked.ensures.kept (λ others more. next_accepted c.loop-path.path-index more others)
    c.loop-path.invariant c.check_file-checked.ensures.told)
