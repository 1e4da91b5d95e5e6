use Rattle.pascal_cli.proofs.Answered.{some_holding}
use Rattle.pascal_cli.proofs.certificates.verifying.verify_paths.Goals as goal

pub returns-in-Some : goal.returns-in-Some
returns-in-Some g c = some_holding c.verify_text.result _ c.deref.result.now c.verify_text.ensures
