use Rattle.std.proofs.Common.{◌≡◌, take}
use Rattle.ps_meaning.specs.Values.{text_values}
use Rattle.ps_meaning_runner.specs.View.{values_of}
use Rattle.ps_meaning_runner.proofs.value.text_values.Given as goal

abbrev pub invariant-loop-character : goal.invariant-loop-character
invariant-loop-character l = values_of l.values.items ≡ text_values (take l.character-index l.characters)
