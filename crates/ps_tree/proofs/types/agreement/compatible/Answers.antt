use Rattle.ps_tree.proofs.Compatibility.{compatible_means}
use Rattle.ps_tree.specs.TypeView.{type_of}
use Rattle.ps_tree.proofs.types.agreement.compatible.Goals as goal

pub returns-clause-rule : goal.returns-clause-rule
returns-clause-rule c = rw c.test_compatible.ensures (compatible_means (type_of c.args.a.now) (type_of c.args.b.now))
