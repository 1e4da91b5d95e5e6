use Rattle.std.proofs.Common.{◌≡◌, true, drop}
use Rattle.tac_known.specs.Kinds.{say_no_more}
use Rattle.tac_known.proofs.kind.say_no_more.Given as goal

abbrev pub invariant-loop-at : goal.invariant-loop-at
invariant-loop-at l =
    say_no_more (drop l.at l.from) (drop l.at l.to) ≡ true → say_no_more l.from l.to ≡ true
