use Rattle.std.proofs.Common.{◌≡◌, ◌++◌}
use Rattle.ps_meaning_runner.specs.Worlds.{numbers_of}
use Rattle.ps_meaning_runner.proofs.world.Numbers.listed.Given as goal

abbrev pub invariant-loop-left : goal.invariant-loop-left
invariant-loop-left l = l.numbers.items ++ numbers_of l.left ≡ numbers_of l.self
