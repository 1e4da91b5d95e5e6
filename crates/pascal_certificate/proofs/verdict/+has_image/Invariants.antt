use Rattle.std.proofs.Common.{length}
use Rattle.pascal_certificate.proofs.verdict.+has_image.Given as goal

abbrev pub decreases-has_image : goal.decreases-has_image
decreases-has_image l = length l.changes.now
