use Rattle.std.proofs.Common.{length}
use Rattle.ps_diagnose.proofs.changes.+put_changed.Given as goal

abbrev pub decreases-put_changed : goal.decreases-put_changed
decreases-put_changed l = length l.edits.now
