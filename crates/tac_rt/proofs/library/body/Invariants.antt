use Rattle.std.proofs.Common.{◌≡◌, map, take}
use Rattle.tac_rt.specs.Bodies.{instruction_of}
use Rattle.tac_rt.proofs.library.body.Given as goal

abbrev pub invariant-loop-step : goal.invariant-loop-step
invariant-loop-step l = l.list.items ≡ map instruction_of (take l.step-index l.steps)
