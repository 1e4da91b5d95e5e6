use Rattle.std.specs.Prelude.{◌∷◌, []}
use Rattle.ps_lower.proofs.Actuals.{Worded, Ended}
use Rattle.ps_lower.proofs.calls.words.Given as goal

abbrev pub invariant-loop-argument : goal.invariant-loop-argument
invariant-loop-argument l = Worded (l.link ∷ []) l.arguments l.d l.argument-index l.rest l.list.items l.depth
    × Ended l.arguments l.d l.argument-index l.rest l.depth
