use Rattle.std.proofs.Common.{◌+◌, ◌*◌}
use Rattle.ps_scene.proofs.values.Printer.+values.Given as goal

abbrev pub decreases-put_value : goal.decreases-put_value
decreases-put_value l = 2 * l.left

abbrev pub decreases-put_array : goal.decreases-put_array
decreases-put_array l = 2 * l.left + 1

abbrev pub decreases-put_record : goal.decreases-put_record
decreases-put_record l = 2 * l.left + 1
