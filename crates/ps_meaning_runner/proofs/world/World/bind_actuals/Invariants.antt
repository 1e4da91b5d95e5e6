use Rattle.std.proofs.Common.{◌≡◌, List, map, drop}
use Rattle.ps_tree.specs.Types.{DataType}
use Rattle.ps_meaning.specs.Calls.{bind_actuals}
use Rattle.ps_meaning_runner.specs.Worlds.{actual_of, world_of}
use Rattle.ps_meaning_runner.specs.Blocks.{with_entries}
use Rattle.ps_meaning_runner.proofs.world.World.bind_actuals.Given as goal

abbrev pub invariant-loop-actual : goal.invariant-loop-actual
invariant-loop-actual l = (variables : List DataType) → with_entries l.fn.frame.items
    (bind_actuals (map actual_of l.actuals) variables (world_of l.fn.self)) ≡ with_entries l.frame.items
    (bind_actuals (map actual_of (drop l.actual-index l.actuals)) variables (world_of l.self))
