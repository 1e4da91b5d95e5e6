use Rattle.risc_image.specs.declared.header.TheConstants.{MAX_COUNT}
use Rattle.risc_emit_forms.specs.Pieces.{AtEntry}
use Rattle.risc_emit.proofs.Places.{no_greater}
use Rattle.risc_emit.proofs.resolve.instr_at.Goals as goal

pub near-requires-in-Enters-clause-place : goal.near-requires-in-Enters-clause-place
near-requires-in-Enters-clause-place c =
    no_greater _ _ MAX_COUNT c.entry_at.ensures (c.requires.near (AtEntry c.in-Enters.routine))
