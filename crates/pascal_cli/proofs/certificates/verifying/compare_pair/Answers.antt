use Rattle.pascal_cli.proofs.Made.{made_is}
use Rattle.pascal_cli.proofs.certificates.verifying.compare_pair.Goals as goal

pub returns-clause-compared : goal.returns-clause-compared
returns-clause-compared g c = made_is c.comparison.result _ c.made.result c.comparison.ensures c.made.ensures.value
