use Rattle.std.proofs.Common.{arith}
use Rattle.ps_lower.proofs.Limits.{count_few}
use Rattle.ps_lower.proofs.frames.Frames.count.Goals as goal

pub overflow_cast-result : goal.overflow_cast-result
overflow_cast-result c = let l = count_few c.self.inside.checked.now c.routines.result.now c.routines.ensures.routines
    c.routines.ensures.limits in omega (arith, l)

pub returns-clause-small : goal.returns-clause-small
returns-clause-small c = count_few c.self.inside.checked.now c.routines.result.now c.routines.ensures.routines
    c.routines.ensures.limits
