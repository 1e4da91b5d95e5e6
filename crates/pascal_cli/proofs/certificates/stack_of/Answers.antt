use Rattle.pascal_cli.proofs.Certified.{least_is}
use Rattle.pascal_cli.proofs.certificates.stack_of.Goals as goal

pub returns-in-Ok : goal.returns-in-Ok
returns-in-Ok c = least_is c.least_of.result c.args.source.now c.in-Ok.needed c.in-Ok.ensures.needed c.least_of.ensures
