use Rattle.std.proofs.Common.{length, ◌+◌, ◌*◌}
use Rattle.ps_meaning_runner.proofs.value.+with.Given as goal

abbrev pub decreases-Value::with_part : goal.decreases-Value::with_part
decreases-Value::with_part l = 2 * length l.path.now

abbrev pub decreases-with_component : goal.decreases-with_component
decreases-with_component l = 2 * length l.rest.now + 1
