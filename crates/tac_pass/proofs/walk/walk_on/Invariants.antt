use Rattle.tac_pass.specs.Walk.{spot, Walked}
use Rattle.tac_pass.proofs.walk.walk_on.Given as goal

abbrev pub invariant-loop-place : goal.invariant-loop-place
invariant-loop-place l =
    Walked l.way.routine l.way.minded.now l.way.steps.now l.way.starts.now l.body l.place (spot l.rows l.out.items)
