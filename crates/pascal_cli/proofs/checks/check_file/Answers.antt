use Rattle.pascal_cli.proofs.Answered.{some_text}
use Rattle.pascal_cli.proofs.checks.check_file.Goals as goal

pub returns-in-Some-clause-told : goal.returns-in-Some-clause-told
returns-in-Some-clause-told g c = some_text _ _ c.deref.result.now c.check_text.ensures.told
