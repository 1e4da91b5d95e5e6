use Rattle.std.proofs.Common.{arith}
use Rattle.ps_tree.specs.View.{statements_of}
use Rattle.ps_lower_least.proofs.Bounding.{statements_least}
use Rattle.ps_lower_least.proofs.least.fewest.Goals as goal

pub returns : goal.returns
returns c k d =
    let h = statements_least k (statements_of c.args.statements.now) d in
    let g = c.add_statements.ensures.most in
    omega (arith, g, h)
