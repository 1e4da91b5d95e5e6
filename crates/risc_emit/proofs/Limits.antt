-- A draft that has too many words already is part of a code that has.
use Rattle.std.proofs.Common.{◌≡◌, ℕ, ◌+◌, ◌<◌, true, nat_lt, List, ◌++◌, length, length-append, take, Some}
use Rattle.std.proofs.Common.{slice_get, ap, arith}
use Rattle.std.proofs.lemmas.Bool.{ltb-true}
use Rattle.tac_code.specs.declared.code.TacRoutine.{TacRoutine}
use Rattle.tac_code.specs.Meaning.{routines}
use Rattle.risc_emit_relation.specs.Context.{Context}
use Rattle.risc_emit_forms.specs.Pieces.{Piece}
use Rattle.risc_emit_forms.specs.Forms.{entry_form}
use Rattle.risc_emit_laws.specs.Drawn.{body_pieces, program_pieces, entry_place, body_texts, routines_texts}
use Rattle.risc_emit.specs.declared.marks.Mark.{Mark}
use Rattle.risc_emit.proofs.Places.{site_low, text_low}
use Rattle.risc_emit.proofs.Drafting.{Drafted}

pub drafted_past : (c : Context) (r : ℕ) (routine : TacRoutine) (front : List Piece) (behind : List ℕ) (k n : ℕ)
    (ps : List Piece) (ts : List ℕ) (ms : List Mark) → slice_get (routines c.code) r ≡ Some routine → length front
    ≡ entry_place c r → length behind ≡ length (routines_texts (take r (routines c.code)))
    → Drafted c r routine front behind k ps ts ms → nat_lt n (length ps + length ts) ≡ true → n < length
    (program_pieces c) + length (routines_texts (routines c.code))
drafted_past c r routine front behind k n ps ts ms own entry first d past =
    let lt = ltb-true n (length ps + length ts) past in
    let site = site_low c r k routine own in
    let text = text_low c.code r k routine own in
    let pieces = ap length d.pieces in
    let front_and = length-append front (entry_form c r routine ++ body_pieces c r 0 (take k routine.body)) in
    let entry_and = length-append (entry_form c r routine) (body_pieces c r 0 (take k routine.body)) in
    let texts = ap length d.texts in
    let behind_and = length-append behind (body_texts (take k routine.body)) in
    omega (arith, lt, site, text, pieces, front_and, entry_and, texts, behind_and, entry, first)
