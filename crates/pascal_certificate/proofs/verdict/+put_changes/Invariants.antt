use Rattle.std.proofs.Common.{length}
use Rattle.pascal_certificate.proofs.verdict.+put_changes.Given as goal

abbrev pub decreases-put_changes : goal.decreases-put_changes
decreases-put_changes l = length l.changes.now
