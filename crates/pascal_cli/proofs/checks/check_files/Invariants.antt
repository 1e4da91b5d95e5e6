use Rattle.pascal_cli.specs.Failures.{Tells, has_failed}
use Rattle.pascal_cli.specs.Jobs.{AreAccepted, SomeRefused}
use Rattle.pascal_cli.proofs.checks.check_files.Given as goal

-- of the texts so far it is known whether each is accepted, if nothing failed
abbrev pub invariant-loop-path : goal.invariant-loop-path
invariant-loop-path g l = Tells l.are_accepted (has_failed l.failures) (AreAccepted l.path-index) SomeRefused
