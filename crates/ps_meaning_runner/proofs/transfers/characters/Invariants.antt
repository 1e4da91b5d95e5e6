use Rattle.std.proofs.Common.{◌≡◌, take}
use Rattle.ps_meaning.specs.Statements.{characters}
use Rattle.ps_meaning_runner.specs.View.{values_of}
use Rattle.ps_meaning_runner.proofs.transfers.characters.Given as goal

abbrev pub invariant-loop-value : goal.invariant-loop-value
invariant-loop-value l = l.text.items ≡ characters (values_of (take l.value-index l.values))
