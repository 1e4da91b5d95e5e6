use Rattle.std.proofs.Common.{◌≡◌, map, drop}
use Rattle.ps_tree.specs.View.{type_of}
use Rattle.ps_meaning.specs.Calls.{bind_variables}
use Rattle.ps_meaning_runner.specs.Worlds.{world_of}
use Rattle.ps_meaning_runner.specs.Blocks.{with_entries}
use Rattle.ps_meaning_runner.proofs.world.World.bind_variables.Given as goal

abbrev pub invariant-loop-ty : goal.invariant-loop-ty
invariant-loop-ty l = with_entries l.fn.frame.items (bind_variables (map type_of l.types) (world_of l.fn.self))
    ≡ with_entries l.frame.items (bind_variables (map type_of (drop l.ty-index l.types)) (world_of l.self))
