use Rattle.std.proofs.Common.{ap, ◌∙◌}
use Rattle.ps_meaning.specs.Values.{Declared, entire}
use Rattle.ps_meaning_runner.specs.View.{value_of}
use Rattle.ps_meaning_runner.specs.Worlds.{world_of}
use Rattle.ps_meaning_runner.proofs.Blocks.{declared_is}
use Rattle.ps_meaning_runner.proofs.world.World.declared.Goals as goal

pub returns : goal.returns
returns c =
    λ others. declared_is (value_of c.args.value) (world_of c.args.self.now)
    (world_of c.declare.new.self) c.entire.result others c.in_ok-name.ensures.world
    (c.entire.ensures ∙ ap (λ n. entire (Declared n)) c.in_ok-name.ensures.name)
