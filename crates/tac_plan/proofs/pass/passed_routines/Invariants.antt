use Rattle.std.proofs.Common.{◌≡◌, map, take}
use Rattle.tac_code.specs.Meaning.{size}
use Rattle.tac_plan.specs.Passes.{PassesSoFar}
use Rattle.tac_plan.proofs.pass.passed_routines.Given as goal

abbrev pub invariant-loop-at : goal.invariant-loop-at
invariant-loop-at l = PassesSoFar l.first l.routines l.at l.list.items
    × (map size l.list.items ≡ map size (take l.at l.routines))
