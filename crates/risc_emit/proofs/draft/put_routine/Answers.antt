use Rattle.tac_code.specs.Meaning.{body_at}
use Rattle.std.proofs.Common.{◌+◌, ◌≤◌, nat_lt, length, slice_get, refl, sym, ap, ◌∙◌, subst, arith, rules}
use Rattle.std.proofs.lemmas.Bool.{ltb-false}
use Rattle.std.proofs.lemmas.Option.{slice_get_read}
use Rattle.risc_image.specs.declared.header.TheConstants.{MAX_COUNT}
use Rattle.risc_emit.specs.Frames.{context_of}
use Rattle.risc_emit.specs.declared.pieces.TheConstants.{WORD_LIMIT}
use Rattle.risc_emit.proofs.Few.{passes_few, aims_near, below}
use Rattle.risc_emit.proofs.Peephole.{flagged_here, deferred_here, deferred_next, loads_near}
use Rattle.risc_emit.proofs.Drafting.{drafted_more, drafted_marks}
use Rattle.risc_emit.proofs.Limits.{drafted_past}
use Rattle.risc_emit.proofs.draft.put_routine.Goals as goal

pub put_place-requires : goal.put_place-requires
put_place-requires c =
    let k = context_of c.args.frame.now in
    let r = c.args.frame.now.number in
    let here = ap (λ l. slice_get l c.loop-place.place) (sym c.as_slice-body.ensures)
    ∙ slice_get_read c.as_slice-body.result.now _ c.loop-place.place c.index-body-place.result refl
    c.loop-place-test.true c.index-body-place.is in
    let words = ap (λ t. nat_lt MAX_COUNT (length c.loop-place.pieces + length t)) (sym c.as_slice.ensures.value)
    ∙ sym c.is_too_large.ensures ∙ c.if-is_too_large.false in
    let named = c.is_past_labels.ensures c.if-is_past_labels.false in
    record {
      routine = let lt = named.0 in let same = c.number.ensures in omega (arith, lt, same);
      place = below c.loop-place.place (length c.as_slice-body.result.now) WORD_LIMIT c.loop-place-test.true named.1;
      aims = aims_near c.args.frame.now.code r c.loop-place.place c.args.routine.now c.index-body-place.result
          c.keeps_invariant.ensures c.requires.own here
          (subst (λ l. length l ≤ WORD_LIMIT) c.as_slice-body.ensures named.1);
      room = ltb-false MAX_COUNT (length c.loop-place.pieces + length c.loop-place.texts.items) words;
      few = passes_few c.args.frame.now.code r c.loop-place.place c.args.routine.now c.index-body-place.result
          c.keeps_invariant.ensures c.requires.own here;
      flagged = flagged_here k r c.loop-place.place c.args.routine.now c.as_slice-body.result.now
          c.flagged-flagged.result c.requires.own c.as_slice-body.ensures c.flagged-flagged.ensures;
      deferred = c.loop-place.invariant.1;
      next = deferred_next k r c.loop-place.place c.args.routine.now c.as_slice-body.result.now c.deferred-next.result
          c.requires.own c.as_slice-body.ensures c.deferred-next.ensures;
      near = loads_near k r c.loop-place.place c.index-body-place.result c.loop-place.here
          (ap (λ o. body_at o c.loop-place.place) c.requires.own ∙ here) c.loop-place.invariant.1;
    }

pub loop-place-init : goal.loop-place-init
loop-place-init c = (
  search rules,
  deferred_here (context_of c.args.frame.now) c.args.frame.now.number 0 c.args.routine.now c.as_slice-body.result.now
      c.deferred-here.result c.requires.own c.as_slice-body.ensures c.deferred-here.ensures,
)

pub loop-place-preserved : goal.loop-place-preserved
loop-place-preserved c = (
  drafted_more (context_of c.args.frame.now) c.args.frame.now.number c.args.routine.now c.args.pieces.now
      c.args.texts.now.items c.requires.entry c.requires.first c.loop-place.place c.index-body-place.result _ _ _ _ _
      _ c.loop-place.invariant.0 (ap (λ l. slice_get l c.loop-place.place) (sym c.as_slice-body.ensures)
      ∙ slice_get_read c.as_slice-body.result.now _ c.loop-place.place c.index-body-place.result refl
      c.loop-place-test.true c.index-body-place.is) c.in_ok-put_place.ensures.pieces c.in_ok-put_place.ensures.texts
      c.in_ok-put_place.ensures.mark,
  deferred_here (context_of c.args.frame.now) c.args.frame.now.number (c.loop-place.place + 1) c.args.routine.now
      c.as_slice-body.result.now c.deferred-next.result c.requires.own c.as_slice-body.ensures c.deferred-next.ensures,
)

pub returns-clause-marks : goal.returns-clause-marks
returns-clause-marks c =
    drafted_marks (context_of c.args.frame.now) c.args.frame.now.number c.args.routine.now c.args.pieces.now
    c.args.texts.now.items c.requires.entry c.requires.first c.loop-place.place _ _ _
    (search rules) c.loop-place.invariant.0 _ (search rules) c.len-entry.ensures (search rules)

pub returns-then-is_too_large-clause-too_large : goal.returns-then-is_too_large-clause-too_large
returns-then-is_too_large-clause-too_large c =
    λ _. drafted_past (context_of c.args.frame.now) c.args.frame.now.number c.args.routine.now c.args.pieces.now
    c.args.texts.now.items c.loop-place.place MAX_COUNT _ _ _ c.requires.own c.requires.entry c.requires.first
    c.loop-place.invariant.0 (ap (λ t. nat_lt MAX_COUNT (length c.loop-place.pieces + length t))
    (sym c.as_slice.ensures.value) ∙ sym c.is_too_large.ensures ∙ c.if-is_too_large.true)

pub returns-then-is_too_large-2-clause-too_large : goal.returns-then-is_too_large-2-clause-too_large
returns-then-is_too_large-2-clause-too_large c =
    λ _. drafted_past (context_of c.args.frame.now) c.args.frame.now.number c.args.routine.now c.args.pieces.now
    c.args.texts.now.items c.loop-place.place MAX_COUNT _ _ _ c.requires.own c.requires.entry c.requires.first
    c.loop-place.invariant.0 (ap (λ t. nat_lt MAX_COUNT (length c.loop-place.pieces + length t))
    (sym c.as_slice-2.ensures.value) ∙ sym c.is_too_large-2.ensures ∙ c.if-is_too_large-2.true)

pub mark_of-requires : goal.mark_of-requires
mark_of-requires c =
    let words = ap (λ t. nat_lt MAX_COUNT (length c.loop-place.pieces + length t)) (sym c.as_slice-2.ensures.value)
    ∙ sym c.is_too_large-2.ensures ∙ c.if-is_too_large-2.false in
    let few = ltb-false MAX_COUNT (length c.loop-place.pieces + length c.loop-place.texts.items) words in
    let same = ap length c.as_slice-3.ensures.value in
    omega (arith, few, same)
