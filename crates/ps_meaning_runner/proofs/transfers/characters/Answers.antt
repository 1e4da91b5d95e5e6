use Rattle.std.proofs.Common.{ap, ◌∙◌, arith}
use Rattle.std.proofs.lemmas.List.{take_all}
use Rattle.ps_meaning.specs.Statements.{characters}
use Rattle.ps_meaning_runner.specs.View.{values_of}
use Rattle.ps_meaning_runner.proofs.Values.{characters_next}
use Rattle.ps_meaning_runner.proofs.transfers.characters.Goals as goal

pub loop-value-preserved : goal.loop-value-preserved
loop-value-preserved c =
    rw c.in_ok-push.ensures.items (characters_next c.args.values.now c.loop-value.value-index c.loop-value.text.items
    c.value-item.result c.character.result c.loop-value.invariant c.value-item.is c.character.ensures
    c.loop-value-test.true)

pub returns : goal.returns
returns c = c.loop-value.invariant ∙ ap (λ l. characters (values_of l))
    (take_all c.loop-value.value-index c.args.values.now (omega arith))
