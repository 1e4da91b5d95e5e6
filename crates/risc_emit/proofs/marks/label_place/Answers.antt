use Rattle.risc_emit_forms.specs.Pieces.{AtText}
use Rattle.risc_emit.proofs.marks.label_place.Goals as goal

pub constant_at-requires : goal.constant_at-requires
constant_at-requires c = c.requires (AtText c.in-Text.routine c.in-Text.place)
