use Rattle.std.proofs.Common.{length}
use Rattle.pascal_cli.proofs.need_lines.+put_frames.Given as goal

abbrev pub decreases-put_frames : goal.decreases-put_frames
decreases-put_frames l = length l.routines.now
