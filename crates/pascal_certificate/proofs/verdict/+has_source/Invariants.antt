use Rattle.std.proofs.Common.{length}
use Rattle.pascal_certificate.proofs.verdict.+has_source.Given as goal

abbrev pub decreases-has_source : goal.decreases-has_source
decreases-has_source l = length l.changes.now
