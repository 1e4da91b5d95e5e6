use Rattle.std.proofs.Common.{◌≡◌}
use Rattle.ps_meaning.specs.Worlds.{above}
use Rattle.ps_meaning_runner.specs.Worlds.{env_of}
use Rattle.ps_meaning_runner.proofs.world.above.Given as goal

abbrev pub invariant-loop-left : goal.invariant-loop-left
invariant-loop-left l = above (env_of l.inner.value) l.left ≡ above (env_of l.env.value) l.up

abbrev pub decreases-loop-left : goal.decreases-loop-left
decreases-loop-left l = l.left
