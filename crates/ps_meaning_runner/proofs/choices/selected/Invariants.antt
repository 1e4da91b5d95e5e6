use Rattle.std.proofs.Common.{drop}
use Rattle.ps_tree.specs.View.{elements_of}
use Rattle.ps_meaning.specs.Values.{number_of}
use Rattle.ps_meaning_runner.specs.View.{value_of}
use Rattle.ps_meaning_runner.proofs.Acts.{SelectsAs}
use Rattle.ps_meaning_runner.proofs.choices.selected.Given as goal

abbrev pub invariant-loop-element : goal.invariant-loop-element
invariant-loop-element l = SelectsAs (elements_of (drop l.element-index l.elements)) (elements_of l.elements)
    (number_of (value_of l.value))
