use Rattle.std.proofs.Common.{length}
use Rattle.pascal_certificate.proofs.form.+put_lines.Given as goal

abbrev pub decreases-put_lines : goal.decreases-put_lines
decreases-put_lines l = length l.facts.now
