use Rattle.std.proofs.Common.{◌+◌, ap, sym, ◌∙◌, map, drop}
use Rattle.ps_meaning.specs.Calls.{bind_actuals}
use Rattle.ps_meaning_runner.specs.Worlds.{actual_of, world_of}
use Rattle.ps_meaning_runner.specs.Blocks.{with_entries}
use Rattle.ps_meaning_runner.proofs.Blocks.{actuals_next}
use Rattle.ps_meaning_runner.proofs.world.World.bind_actuals.Goals as goal

pub loop-actual-preserved : goal.loop-actual-preserved
loop-actual-preserved c =
    λ variables. c.loop-actual.invariant variables
    ∙ actuals_next c.args.actuals.now c.loop-actual.actual-index c.actual-item.result c.loop-actual.frame.items
    c.in_ok-actual_entry.field-0 (world_of c.loop-actual.self)
    (world_of c.actual_entry.new.self) c.loop-actual-test.true c.actual-item.is c.in_ok-actual_entry.ensures
    variables ∙ ap (λ l. with_entries l (bind_actuals
    (map actual_of (drop (c.loop-actual.actual-index + 1) c.args.actuals.now)) variables
    (world_of c.actual_entry.new.self))) (sym c.in_ok-push.ensures.items)
