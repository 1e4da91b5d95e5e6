use Rattle.std.proofs.Common.{length}
use Rattle.pascal_cli.proofs.need_lines.+put_names.Given as goal

abbrev pub decreases-put_names : goal.decreases-put_names
decreases-put_names l = length l.routines.now
