use Rattle.ps_lower.proofs.Hopping.{Hopped}
use Rattle.ps_lower.proofs.levels.hops.Given as goal

abbrev pub invariant-loop : goal.invariant-loop
invariant-loop l = Hopped l.t l.count l.fn.out l.counter l.out
