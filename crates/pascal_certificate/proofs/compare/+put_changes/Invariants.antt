use Rattle.std.proofs.Common.{length}
use Rattle.pascal_certificate.proofs.compare.+put_changes.Given as goal

abbrev pub decreases-put_changes : goal.decreases-put_changes
decreases-put_changes l = length l.facts.now
