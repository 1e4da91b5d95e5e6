use Rattle.std.proofs.Common.{ap, sym, ◌∙◌}
use Rattle.std.proofs.lemmas.Option.{get_or_from_slice_get, slice_get-get_or}
use Rattle.risc_image.specs.declared.rows.FrameRow.{FrameRow}
use Rattle.ps_needs_image.proofs.needed.frame_of.Goals as goal

pub returns-in-Some : goal.returns-in-Some
returns-in-Some c d = ap (λ (r : FrameRow). r.bytes)
    (sym (get_or_from_slice_get c.args.image.now.frames c.args.routine c.in-Some.row d
    (sym c.frame.ensures ∙ c.in-Some.is)))

pub returns-in-None : goal.returns-in-None
returns-in-None c d = absurd (let no = sym c.in-None.is ∙ c.frame.ensures
    ∙ slice_get-get_or c.args.image.now.frames c.args.routine d c.requires in cc no)
