use Rattle.ps_meaning_runner.proofs.Values.{text_next}
use Rattle.ps_meaning_runner.proofs.value.text_values.Goals as goal

pub loop-character-preserved : goal.loop-character-preserved
loop-character-preserved c =
    rw c.in_ok-push.ensures.items (text_next c.args.characters.now c.loop-character.values.items
    c.loop-character.character-index c.character_value.result c.loop-character-test.true c.character_value.ensures
    c.loop-character.invariant)
