use Rattle.std.proofs.Common.{length}
use Rattle.pascal_certificate.proofs.verdict.+has_program.Given as goal

abbrev pub decreases-has_program : goal.decreases-has_program
decreases-has_program l = length l.changes.now
