use Rattle.std.proofs.Common.{◌≡◌, take}
use Rattle.ps_meaning.specs.Worlds.{says}
use Rattle.ps_meaning_runner.specs.Worlds.{world_of}
use Rattle.ps_meaning_runner.proofs.world.World.say.Given as goal

abbrev pub invariant-loop-byte : goal.invariant-loop-byte
invariant-loop-byte l = world_of l.self ≡ says (world_of l.fn.self) (take l.byte-index l.bytes)
