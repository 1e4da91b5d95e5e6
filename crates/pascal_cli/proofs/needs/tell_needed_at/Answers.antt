use Rattle.pascal_cli.proofs.Answered.{some_needs}
use Rattle.pascal_cli.proofs.needs.tell_needed_at.Goals as goal

pub returns-in-Some : goal.returns-in-Some
returns-in-Some g c = some_needs _ _ c.deref.result.now c.tell_needed.ensures
