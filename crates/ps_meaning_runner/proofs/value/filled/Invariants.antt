use Rattle.std.proofs.Common.{◌≡◌}
use Rattle.ps_meaning.specs.Values.{copies}
use Rattle.ps_meaning_runner.specs.View.{value_of, values_of}
use Rattle.ps_meaning_runner.proofs.value.filled.Given as goal

abbrev pub invariant-loop-turn : goal.invariant-loop-turn
invariant-loop-turn l = values_of l.made.items ≡ copies l._turn (value_of l.value)
