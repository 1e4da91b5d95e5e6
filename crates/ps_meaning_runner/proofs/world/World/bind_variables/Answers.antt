use Rattle.std.proofs.Common.{◌+◌, ap, sym, ◌∙◌, map, drop}
use Rattle.ps_tree.specs.View.{type_of}
use Rattle.ps_meaning.specs.Calls.{bind_variables}
use Rattle.ps_meaning_runner.specs.View.{value_of}
use Rattle.ps_meaning_runner.specs.Worlds.{world_of}
use Rattle.ps_meaning_runner.specs.Blocks.{with_entries}
use Rattle.ps_meaning_runner.proofs.Blocks.{variables_next}
use Rattle.ps_meaning_runner.proofs.world.World.bind_variables.Goals as goal

pub loop-ty-preserved : goal.loop-ty-preserved
loop-ty-preserved c =
    c.loop-ty.invariant ∙ variables_next c.args.types.now c.loop-ty.ty-index c.ty-item.result
    (value_of c.in_ok-value.value) c.loop-ty.frame.items c.in_ok-declared.field-0 (world_of c.loop-ty.self)
    (world_of c.declared.new.self) c.loop-ty-test.true c.ty-item.is c.in_ok-value.ensures c.in_ok-declared.ensures
    ∙ ap (λ l. with_entries l (bind_variables (map type_of (drop (c.loop-ty.ty-index + 1) c.args.types.now))
    (world_of c.declared.new.self))) (sym c.in_ok-push.ensures.items)
