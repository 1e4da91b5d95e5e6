use Rattle.std.proofs.Common.{◌∙◌, refl}
use Rattle.ps_text.proofs.Pieces.{next_piece}
use Rattle.ps_text.proofs.lines_of.Goals as goal

pub loop-rest-preserved : goal.loop-rest-preserved
loop-rest-preserved c = next_piece c.loop-rest.lines c.from-lines.result _ c.min-length.result _
    c.loop-rest.rest.now refl (c.from-lines.ensures ∙ c.ends_in.ensures) c.loop-rest.invariant
