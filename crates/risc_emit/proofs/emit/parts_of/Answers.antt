use Rattle.std.proofs.Common.{refl, sym, ap, ◌∙◌, length, Some, subst}
use Rattle.std.proofs.lemmas.List.{length-map}
use Rattle.risc_emit.specs.Meant.{meant}
use Rattle.risc_emit.specs.Layout.{laid_out}
use Rattle.risc_emit.specs.Marked.{AreMarked}
use Rattle.risc_emit.proofs.Places.{are_near}
use Rattle.risc_emit.proofs.Written.{is_made, made_formed, made_emits, made_bounded}
use Rattle.risc_emit.proofs.emit.parts_of.Goals as goal

pub code_of-requires-clause-near : goal.code_of-requires-clause-near
code_of-requires-clause-near c =
    are_near c.args.tac.now c.args.homes.now _
    (subst (AreMarked (laid_out c.args.tac.now c.args.homes.now))
    (sym c.as_slice-marks.ensures.value) c.requires.marks) _
    (sym (length-map c.as_slice-pieces.result.now meant) ∙ ap length
    (c.as_slice-pieces.ensures ∙ c.requires.pieces)) c.requires.few

pub invariant_of-result : goal.invariant_of-result
invariant_of-result c =
    made_formed c.args.tac.now c.args.homes.now c.keeps_invariant.ensures c.requires.valid _ _ _ _
    (is_made c.args.tac.now c.args.homes.now _ _ _ _ _ _ _ c.requires.marks c.as_slice-marks.ensures.value
    c.as_slice-pieces.ensures c.requires.pieces c.requires.texts c.as_slice.ensures.value c.requires.few refl
    c.in_ok-code.ensures c.in_ok-frames.ensures c.in_ok-objects.ensures c.in_ok-traps.ensures
    (ap (λ rows. Some rows) c.in_ok-calls.ensures))

pub returns-clause-emits : goal.returns-clause-emits
returns-clause-emits c =
    made_emits c.args.tac.now c.args.homes.now c.keeps_invariant.ensures c.requires.valid _ _ _ _
    (is_made c.args.tac.now c.args.homes.now _ _ _ _ _ _ _ c.requires.marks c.as_slice-marks.ensures.value
    c.as_slice-pieces.ensures c.requires.pieces c.requires.texts c.as_slice.ensures.value c.requires.few refl
    c.in_ok-code.ensures c.in_ok-frames.ensures c.in_ok-objects.ensures c.in_ok-traps.ensures
    (ap (λ rows. Some rows) c.in_ok-calls.ensures))

pub returns-clause-bounds : goal.returns-clause-bounds
returns-clause-bounds c =
    made_bounded c.args.tac.now c.args.homes.now c.keeps_invariant.ensures c.requires.valid _ _ _ _
    (is_made c.args.tac.now c.args.homes.now _ _ _ _ _ _ _ c.requires.marks c.as_slice-marks.ensures.value
    c.as_slice-pieces.ensures c.requires.pieces c.requires.texts c.as_slice.ensures.value c.requires.few refl
    c.in_ok-code.ensures c.in_ok-frames.ensures c.in_ok-objects.ensures c.in_ok-traps.ensures
    (ap (λ rows. Some rows) c.in_ok-calls.ensures))
