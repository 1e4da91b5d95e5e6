-- What was read is the one image of the bytes, and what was refused is none.
use Rattle.std.proofs.Common.{◌≡◌, true, subst, sym, ◌∙◌, arith}
use Rattle.risc_image.specs.Image.{Image, IsWellFormed}
use Rattle.risc_image.specs.Format.{IsImage}
use Rattle.risc_image.specs.Refusal.{header_word, is_second}
use Rattle.risc_image.specs.Cut.{AreTables}
use Rattle.risc_image.proofs.Spelled.{IsBytes}
use Rattle.risc_image.proofs.Unique.{image_once}
use Rattle.risc_image.proofs.Reading.{faulty_is_none, candidate_is_image, bad_is_none, bad_is_refused}
use Rattle.risc_image.proofs.Reading.{view_is_candidate, calls_whole, code_spelled, tables_along}
use Rattle.risc_image.proofs.view.ImageView.read.Goals as goal

pub returns-in_err-header-clause-exact : goal.returns-in_err-header-clause-exact
returns-in_err-header-clause-exact c = λ image is. absurd (faulty_is_none _ _ image c.in_err-header.ensures.err is)

pub returns-then-not-are_tables-clause-err : goal.returns-then-not-are_tables-clause-err
returns-then-not-are_tables-clause-err c =
    bad_is_refused c.args.bytes.now _ _ _ _ _ _
    (λ i. omega (arith, c.type_inv.bytes i)) c.in_ok-header.ensures.passes c.pieces_of-parts.ensures
    (λ tables. let yes : c.are_tables.result ≡ true = c.are_tables.ensures.1
    (tables_along _ _ _ _ _ _ _ (sym c.in_ok-header.ensures.header.global) tables) in cc)

pub returns-then-not-are_tables-clause-exact : goal.returns-then-not-are_tables-clause-exact
returns-then-not-are_tables-clause-exact c = λ image is.
    bad_is_none c.args.bytes.now _ _ _ _ _ _ image
    (λ i. omega (arith, c.type_inv.bytes i)) c.in_ok-header.ensures.passes c.pieces_of-parts.ensures
    (λ tables. let yes : c.are_tables.result ≡ true = c.are_tables.ensures.1
    (tables_along _ _ _ _ _ _ _ (sym c.in_ok-header.ensures.header.global) tables) in cc) is

pub invariant_of-result : goal.invariant_of-result
invariant_of-result c =
    let bytes : IsBytes c.args.bytes.now = λ i. omega (arith, c.type_inv.bytes i) in
    let tables : AreTables (header_word c.args.bytes.now 0) c.pieces_of-parts.result.code.now
    c.pieces_of-parts.result.frames.now c.pieces_of-parts.result.objects.now c.pieces_of-parts.result.traps.now
    c.pieces_of-parts.result.calls.now =
    tables_along _ _ _ _ _ _ _ c.in_ok-header.ensures.header.global (c.are_tables.ensures.0 c.if-not-are_tables.false)
    in
    let is = candidate_is_image c.args.bytes.now _ _ _ _ _ _ bytes c.in_ok-header.ensures.passes
    c.pieces_of-parts.ensures tables in
    record {
      code = code_spelled c.args.bytes.now _ _ _ _ _ _ bytes c.pieces_of-parts.ensures;
      frames = omega (arith, c.pieces_of-parts.ensures.frames);
      objects = omega (arith, c.pieces_of-parts.ensures.objects);
      traps = omega (arith, c.pieces_of-parts.ensures.traps);
      calls = calls_whole (is_second c.args.bytes.now) _ c.pieces_of-parts.result.calls.now _ c.call_part.ensures
          c.pieces_of-parts.ensures.calls;
      well_formed = subst (λ (i : Image). IsWellFormed i)
          (sym (view_is_candidate c.args.bytes.now c.pieces_of-parts.result.code.now c.pieces_of-parts.result.frames.now
          c.pieces_of-parts.result.objects.now c.pieces_of-parts.result.traps.now c.pieces_of-parts.result.calls.now _ _
          c.in_ok-header.ensures.header.global c.call_part.ensures)) is.well_formed;
    }

pub returns-clause-ok : goal.returns-clause-ok
returns-clause-ok c =
    let bytes : IsBytes c.args.bytes.now = λ i. omega (arith, c.type_inv.bytes i) in
    let tables : AreTables (header_word c.args.bytes.now 0) c.pieces_of-parts.result.code.now
    c.pieces_of-parts.result.frames.now c.pieces_of-parts.result.objects.now c.pieces_of-parts.result.traps.now
    c.pieces_of-parts.result.calls.now =
    tables_along _ _ _ _ _ _ _ c.in_ok-header.ensures.header.global (c.are_tables.ensures.0 c.if-not-are_tables.false)
    in
    subst (λ (i : Image). IsImage c.args.bytes.now i)
    (sym (view_is_candidate c.args.bytes.now c.pieces_of-parts.result.code.now c.pieces_of-parts.result.frames.now
    c.pieces_of-parts.result.objects.now c.pieces_of-parts.result.traps.now c.pieces_of-parts.result.calls.now _ _
    c.in_ok-header.ensures.header.global c.call_part.ensures))
    (candidate_is_image c.args.bytes.now _ _ _ _ _ _ bytes c.in_ok-header.ensures.passes c.pieces_of-parts.ensures
    tables)

pub returns-clause-exact : goal.returns-clause-exact
returns-clause-exact c = λ image is.
    let bytes : IsBytes c.args.bytes.now = λ i. omega (arith, c.type_inv.bytes i) in
    let tables : AreTables (header_word c.args.bytes.now 0) c.pieces_of-parts.result.code.now
    c.pieces_of-parts.result.frames.now c.pieces_of-parts.result.objects.now c.pieces_of-parts.result.traps.now
    c.pieces_of-parts.result.calls.now =
    tables_along _ _ _ _ _ _ _ c.in_ok-header.ensures.header.global (c.are_tables.ensures.0 c.if-not-are_tables.false)
    in
    view_is_candidate c.args.bytes.now c.pieces_of-parts.result.code.now c.pieces_of-parts.result.frames.now
    c.pieces_of-parts.result.objects.now c.pieces_of-parts.result.traps.now c.pieces_of-parts.result.calls.now _ _
    c.in_ok-header.ensures.header.global c.call_part.ensures
    ∙ image_once c.args.bytes.now _ image (candidate_is_image c.args.bytes.now _ _ _ _ _ _ bytes
    c.in_ok-header.ensures.passes c.pieces_of-parts.ensures tables) is
