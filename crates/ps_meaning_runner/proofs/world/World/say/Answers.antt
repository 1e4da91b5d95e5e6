use Rattle.std.proofs.Common.{◌≡◌, get_or, rules}
use Rattle.ps_meaning_runner.specs.Worlds.{world_of}
use Rattle.ps_meaning_runner.proofs.Worlds.{says_more}
use Rattle.ps_meaning_runner.proofs.world.World.say.Goals as goal

pub loop-byte-preserved : goal.loop-byte-preserved
loop-byte-preserved c =
    let at : c.from.result ≡ get_or c.args.bytes.now c.loop-byte.byte-index 0 = search rules in
    rw c.in_ok-push.ensures.items (says_more (world_of c.loop-byte.self)
    (world_of c.args.self.now) c.args.bytes.now c.loop-byte.byte-index c.from.result c.loop-byte-test.true at
    c.loop-byte.invariant)
