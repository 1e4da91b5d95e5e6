use Rattle.ps_lower.specs.Levels.{scope_of}
use Rattle.ps_lower.proofs.Begins.{Begun, Beginning}
use Rattle.ps_lower.proofs.firsts.firsts.Given as goal

abbrev pub invariant-loop-ty : goal.invariant-loop-ty
invariant-loop-ty l = Begun (scope_of l.level) l.t l.fn.out l.begin l.variables l.ty-index l.out l.place
    × Beginning l.variables l.ty-index l.place
