use borrow.Author.Rules.{get_or_read}
use Rattle.std.proofs.Common.{rules, ◌≡◌, length, map, refl, sym, ap, arith, ◌∙◌}
use Rattle.std.proofs.lemmas.List.{length-map}
use Rattle.ps_syntax.specs.declared.program.Structure.TheFolds.{the_lemmas}
use Rattle.ps_tree.specs.View.{type_of}
use Rattle.ps_check_judgement.specs.Judged.{Yes}
use Rattle.ps_check_judgement.proofs.Lists.{told_bind, handed_on}
use Rattle.ps_check_declarations.specs.Denoters.{array_type, record_type}
use Rattle.ps_check_declarations.specs.Views.{frame_of, declared_of, hidden_of}
use Rattle.ps_check_declarations.proofs.DenoterLemmas.{section_read}
use Rattle.ps_check_declarations.proofs.FoldLemmas.{denoter_Ordinal, denoter_Pointer, denoter_Structure}
use Rattle.ps_check_declarations.proofs.FoldLemmas.{denoter_Packed, structure_Array, structure_Record, structure_Set}
use Rattle.ps_check_declarations.proofs.Handed.{in_any_case, kept_refused, told_same, then_told, then_is}
use Rattle.ps_check_declarations.proofs.Handed.{then_answers, answers_more}
use Rattle.ps_check_declarations.proofs.HidingLemmas.{left_again, covers_still, has_still, covers_one_more}
use Rattle.ps_check_declarations.proofs.HidingLemmas.{covers_entered, has_entered}
use Rattle.ps_check_declarations.proofs.Steps.{mapped_start, mapped_next, mapped_fault, mapped_end}
use Rattle.ps_check_declarations.proofs.denoters.+denoter.Goals as goal

-- ---- what a call within the cycle needs: its measure is less, and the names that hide others are in the list

pub denoter-structure-requires : goal.denoter-structure-requires
denoter-structure-requires t c = (search (rules, the_lemmas), c.requires)

pub denoter-structure-requires-in-Packed : goal.denoter-structure-requires-in-Packed
denoter-structure-requires-in-Packed t c = (search (rules, the_lemmas), c.requires)

pub structure-array_type-requires : goal.structure-array_type-requires
structure-array_type-requires t c = (search (rules, the_lemmas), c.requires)

pub structure-record_type-requires : goal.structure-record_type-requires
structure-record_type-requires t c = (search (rules, the_lemmas), c.requires)

pub array_type-denoter-requires : goal.array_type-denoter-requires
array_type-denoter-requires t c = (omega (arith, c.decreases), c.requires)

pub add_fields-denoter-requires : goal.add_fields-denoter-requires
unfolding hidden_of
add_fields-denoter-requires t c = (
  search (rules, the_lemmas),
  covers_one_more _ _ _ _ c.requires.names c.requires.covers,
)

pub all_fields-add_fields-requires : goal.all_fields-add_fields-requires
all_fields-add_fields-requires t c = (
  search (rules, the_lemmas, get_or_read),
  (
    covers_still _ _ _ c.loop-section.invariant.1 c.requires.covers,
    has_still _ _ _ c.loop-section.invariant.1 c.requires.names,
  ),
)

pub own_fields-all_fields-requires : goal.own_fields-all_fields-requires
own_fields-all_fields-requires t c = (
  omega (arith, c.decreases),
  (
    covers_entered _ _ _ _ c.in_ok-enter.ensures c.requires,
    has_entered _ _ _ c.in_ok-enter.ensures,
  ),
)

pub record_type-own_fields-requires : goal.record_type-own_fields-requires
record_type-own_fields-requires t c = (omega (arith, c.decreases), c.requires)

-- ---- denoters

pub denoter-returns-in-Ordinal-clause-kept : goal.denoter-returns-in-Ordinal-clause-kept
denoter-returns-in-Ordinal-clause-kept t c = in_any_case _ _ refl

pub denoter-returns-in-Ordinal-clause-judged : goal.denoter-returns-in-Ordinal-clause-judged
denoter-returns-in-Ordinal-clause-judged t c = rw (c.in-Ordinal.is, denoter_Ordinal) c.simple_type.ensures

pub denoter-returns-in-Pointer-clause-kept : goal.denoter-returns-in-Pointer-clause-kept
denoter-returns-in-Pointer-clause-kept t c = in_any_case _ _ refl

pub denoter-returns-in-Pointer-clause-judged : goal.denoter-returns-in-Pointer-clause-judged
denoter-returns-in-Pointer-clause-judged t c = rw (c.in-Pointer.is, denoter_Pointer) c.pointer.ensures

pub denoter-returns-in-Structure-clause-judged : goal.denoter-returns-in-Structure-clause-judged
denoter-returns-in-Structure-clause-judged t c = rw (c.in-Structure.is, denoter_Structure) c.structure.ensures.judged

pub denoter-returns-in-Packed-clause-judged : goal.denoter-returns-in-Packed-clause-judged
denoter-returns-in-Packed-clause-judged t c = rw (c.in-Packed.is, denoter_Packed) c.structure-in-Packed.ensures.judged

-- ---- structures

pub structure-returns-in-Array-clause-judged : goal.structure-returns-in-Array-clause-judged
structure-returns-in-Array-clause-judged t c = rw
    (c.in-Array.is, structure_Array, ← c.as_slice.ensures, ← c.get.ensures) c.array_type.ensures.judged

pub structure-returns-in-Record-clause-judged : goal.structure-returns-in-Record-clause-judged
structure-returns-in-Record-clause-judged t c = rw
    (c.in-Record.is, structure_Record, ← c.as_slice-in-Record.ensures) c.record_type.ensures.judged

pub structure-returns-in-Set-clause-kept : goal.structure-returns-in-Set-clause-kept
structure-returns-in-Set-clause-kept t c = in_any_case _ _ refl

pub structure-returns-in-Set-clause-judged : goal.structure-returns-in-Set-clause-judged
structure-returns-in-Set-clause-judged t c = rw (c.in-Set.is, structure_Set) c.set_type.ensures

-- ---- arrays

pub array_type-returns-in_err-indices-clause-kept : goal.array_type-returns-in_err-indices-clause-kept
array_type-returns-in_err-indices-clause-kept t c = kept_refused c.from_residual.result _ _ c.from_residual.ensures.1

pub array_type-returns-in_err-indices-clause-judged : goal.array_type-returns-in_err-indices-clause-judged
unfolding array_type
array_type-returns-in_err-indices-clause-judged t c = handed_on _ _ _ _ c.from_residual.ensures.1
    (rw (← c.begins.ensures) (told_bind _ _ _ c.in_err-indices.ensures))

pub array_type-returns-in_err-component-clause-kept : goal.array_type-returns-in_err-component-clause-kept
array_type-returns-in_err-component-clause-kept t c = kept_refused c.from_residual-in_err-component.result _ _
    c.from_residual-in_err-component.ensures.1

pub array_type-returns-in_err-component-clause-judged : goal.array_type-returns-in_err-component-clause-judged
unfolding array_type
array_type-returns-in_err-component-clause-judged t c = handed_on _ _ _ _
    c.from_residual-in_err-component.ensures.1
    (rw (← c.begins.ensures)
    (then_told _ _ _ _ c.in_ok-indices.ensures (told_bind _ _ _ c.in_err-component.ensures.judged)))

pub array_type-returns-clause-kept : goal.array_type-returns-clause-kept
array_type-returns-clause-kept t c = in_any_case _ _ c.in_ok-component.ensures.kept

pub array_type-returns-clause-judged : goal.array_type-returns-clause-judged
unfolding array_type
array_type-returns-clause-judged t c = rw (← c.begins.ensures, ← c.is_packed.ensures)
    (then_answers _ _ _ _ _ c.in_ok-indices.ensures (then_answers _ _ _ _ _ c.in_ok-component.ensures.judged
    (answers_more _ (λ ty. type_of ty) (λ type. (type, declared_of c.denoter.new.declared)) _ c.array_of.ensures)))

-- ---- records

pub add_fields-returns-in_err-defined-clause-kept : goal.add_fields-returns-in_err-defined-clause-kept
add_fields-returns-in_err-defined-clause-kept t c = kept_refused c.from_residual.result _ _ c.from_residual.ensures.1

pub add_fields-returns-in_err-defined-clause-judged : goal.add_fields-returns-in_err-defined-clause-judged
add_fields-returns-in_err-defined-clause-judged t c =
    let n : c.len.result ≡ length (map type_of c.args.done.now.items) = omega
    (arith, c.len.ensures, c.args.done.now.ok.0, length-map c.args.done.now.items type_of) in
    handed_on _ _ _ _ c.from_residual.ensures.1
    (told_same _ _ _ (section_read (frame_of c.args.place.now.frame) c.args.names.now
    (hidden_of c.args.place.now.hidden)
    (map type_of c.args.done.now.items) (declared_of c.args.declared.now) c.args.section.now
    c.as_slice-points.result.now c.len.result c.as_slice-points.ensures n)
    (told_bind _ _ _ c.in_err-defined.ensures))

pub add_fields-returns-in_err-ty-clause-kept : goal.add_fields-returns-in_err-ty-clause-kept
add_fields-returns-in_err-ty-clause-kept t c = kept_refused c.from_residual-in_err-ty.result _ _
    c.from_residual-in_err-ty.ensures.1

pub add_fields-returns-in_err-ty-clause-judged : goal.add_fields-returns-in_err-ty-clause-judged
unfolding hidden_of
add_fields-returns-in_err-ty-clause-judged t c =
    let n : c.len.result ≡ length (map type_of c.args.done.now.items) = omega
    (arith, c.len.ensures, c.args.done.now.ok.0, length-map c.args.done.now.items type_of) in
    handed_on _ _ _ _ c.from_residual-in_err-ty.ensures.1
    (told_same _ _ _ (section_read (frame_of c.args.place.now.frame) c.args.names.now
    (hidden_of c.args.place.now.hidden)
    (map type_of c.args.done.now.items) (declared_of c.args.declared.now) c.args.section.now
    c.as_slice-points.result.now c.len.result c.as_slice-points.ensures n)
    (then_told _ _ _ _ c.in_ok-defined.ensures (told_bind _ _ _ c.in_err-ty.ensures.judged)))

pub add_fields-returns-in_err-fields_of_type-clause-kept : goal.add_fields-returns-in_err-fields_of_type-clause-kept
add_fields-returns-in_err-fields_of_type-clause-kept t c = kept_refused c.from_residual-in_err-fields_of_type.result _
    _ c.from_residual-in_err-fields_of_type.ensures.1

pub add_fields-returns-in_err-fields_of_type-clause-judged : goal.add_fields-returns-in_err-fields_of_type-clause-judged
add_fields-returns-in_err-fields_of_type-clause-judged t c = handed_on _ _ _ _
    c.from_residual-in_err-fields_of_type.ensures.1 tt

pub add_fields-returns-clause-kept : goal.add_fields-returns-clause-kept
add_fields-returns-clause-kept t c = c.in_ok-ty.ensures.kept

pub add_fields-returns-clause-judged : goal.add_fields-returns-clause-judged
unfolding hidden_of
add_fields-returns-clause-judged t c =
    let n : c.len.result ≡ length (map type_of c.args.done.now.items) = omega
    (arith, c.len.ensures, c.args.done.now.ok.0, length-map c.args.done.now.items type_of) in
    section_read (frame_of c.args.place.now.frame) c.args.names.now (hidden_of c.args.place.now.hidden)
    (map type_of c.args.done.now.items) (declared_of c.args.declared.now) c.args.section.now
    c.as_slice-points.result.now c.len.result c.as_slice-points.ensures n
    ∙ then_is _ _ _ _ c.in_ok-defined.ensures
    (then_is _ _ _ _ c.in_ok-ty.ensures.judged
    (ap (λ l. Yes (l, declared_of c.denoter.new.declared)) (sym c.in_ok-fields_of_type.ensures)))

pub all_fields-loop-section-init : goal.all_fields-loop-section-init
all_fields-loop-section-init t c = (rw c.new-done.ensures.items (mapped_start _ _ _ _), refl)

pub all_fields-loop-section-preserved : goal.all_fields-loop-section-preserved
all_fields-loop-section-preserved t c = (
  mapped_next _ _ _ _ _ _ c.section-item.result _ c.loop-section-test.true c.section-item.is
      c.loop-section.invariant.0 c.in_ok-add_fields.ensures.judged,
  c.in_ok-add_fields.ensures.kept ∙ c.loop-section.invariant.1,
)

pub all_fields-returns-in_err-add_fields-clause-kept : goal.all_fields-returns-in_err-add_fields-clause-kept
all_fields-returns-in_err-add_fields-clause-kept t c = kept_refused c.from_residual.result _ _ c.from_residual.ensures.1

pub all_fields-returns-in_err-add_fields-clause-judged : goal.all_fields-returns-in_err-add_fields-clause-judged
all_fields-returns-in_err-add_fields-clause-judged t c = handed_on _ _ _ _ c.from_residual.ensures.1
    (mapped_fault _ _ _ _ _ _ c.section-item.result _ c.loop-section-test.true c.section-item.is
    c.loop-section.invariant.0 c.in_err-add_fields.ensures.judged)

pub all_fields-returns-clause-kept : goal.all_fields-returns-clause-kept
all_fields-returns-clause-kept t c = c.loop-section.invariant.1

pub all_fields-returns-clause-judged : goal.all_fields-returns-clause-judged
all_fields-returns-clause-judged t c = mapped_end _ _ _ _ _ _ c.loop-section-test.false c.loop-section.invariant.0

pub own_fields-returns-in_err-enter-clause-kept : goal.own_fields-returns-in_err-enter-clause-kept
own_fields-returns-in_err-enter-clause-kept t c = kept_refused c.from_residual.result _ _ c.from_residual.ensures.1

pub own_fields-returns-in_err-enter-clause-judged : goal.own_fields-returns-in_err-enter-clause-judged
own_fields-returns-in_err-enter-clause-judged t c = handed_on _ _ _ _ c.from_residual.ensures.1 tt

pub own_fields-returns-in_err-types-clause-kept : goal.own_fields-returns-in_err-types-clause-kept
own_fields-returns-in_err-types-clause-kept t c = kept_refused c.from_residual-in_err-types.result _ _
    c.from_residual-in_err-types.ensures.1

pub own_fields-returns-in_err-types-clause-judged : goal.own_fields-returns-in_err-types-clause-judged
own_fields-returns-in_err-types-clause-judged t c = handed_on _ _ _ _ c.from_residual-in_err-types.ensures.1
    c.in_err-types.ensures.judged

pub own_fields-returns-clause-kept : goal.own_fields-returns-clause-kept
own_fields-returns-clause-kept t c = left_again c.args.hiding.now c.enter.new.self c.all_fields.new.hiding
    c.leave.new.self c.args.names.now c.len-outside.result c.len-outside.ensures c.in_ok-enter.ensures
    c.in_ok-types.ensures.kept c.leave.ensures

pub own_fields-returns-clause-judged : goal.own_fields-returns-clause-judged
own_fields-returns-clause-judged t c = c.in_ok-types.ensures.judged

pub record_type-returns-in_err-names-clause-kept : goal.record_type-returns-in_err-names-clause-kept
record_type-returns-in_err-names-clause-kept t c = kept_refused c.from_residual.result _ _ c.from_residual.ensures.1

pub record_type-returns-in_err-names-clause-judged : goal.record_type-returns-in_err-names-clause-judged
record_type-returns-in_err-names-clause-judged t c = handed_on _ _ _ _ c.from_residual.ensures.1 tt

pub record_type-returns-in_err-types-clause-kept : goal.record_type-returns-in_err-types-clause-kept
record_type-returns-in_err-types-clause-kept t c = kept_refused c.from_residual-in_err-types.result _ _
    c.from_residual-in_err-types.ensures.1

pub record_type-returns-in_err-types-clause-judged : goal.record_type-returns-in_err-types-clause-judged
unfolding record_type
record_type-returns-in_err-types-clause-judged t c = handed_on _ _ _ _ c.from_residual-in_err-types.ensures.1
    (rw (← c.in_ok-names.ensures) (told_bind _ _ _ c.in_err-types.ensures.judged))

pub record_type-returns-in_err-ty-clause-kept : goal.record_type-returns-in_err-ty-clause-kept
record_type-returns-in_err-ty-clause-kept t c = kept_refused c.from_residual-in_err-ty.result _ _
    c.from_residual-in_err-ty.ensures.1

pub record_type-returns-in_err-ty-clause-judged : goal.record_type-returns-in_err-ty-clause-judged
unfolding record_type
record_type-returns-in_err-ty-clause-judged t c = handed_on _ _ _ _ c.from_residual-in_err-ty.ensures.1
    (rw (← c.in_ok-names.ensures, ← c.begins.ensures, ← c.is_packed.ensures)
    (then_told _ _ _ _ c.in_ok-types.ensures.judged (told_bind _ _ _ c.in_err-ty.ensures)))

pub record_type-returns-in_err-note_type-clause-kept : goal.record_type-returns-in_err-note_type-clause-kept
record_type-returns-in_err-note_type-clause-kept t c = kept_refused c.from_residual-in_err-note_type.result _ _
    c.from_residual-in_err-note_type.ensures.1

pub record_type-returns-in_err-note_type-clause-judged : goal.record_type-returns-in_err-note_type-clause-judged
record_type-returns-in_err-note_type-clause-judged t c = handed_on _ _ _ _
    c.from_residual-in_err-note_type.ensures.1 tt

pub record_type-returns-clause-kept : goal.record_type-returns-clause-kept
record_type-returns-clause-kept t c = c.in_ok-types.ensures.kept

pub record_type-returns-clause-judged : goal.record_type-returns-clause-judged
unfolding record_type
record_type-returns-clause-judged t c = rw (← c.in_ok-names.ensures, ← c.begins.ensures, ← c.is_packed.ensures)
    (then_is _ _ _ _ c.in_ok-types.ensures.judged
    (then_is _ _ _ _ c.in_ok-ty.ensures (rw c.in_ok-note_type.ensures refl)))

-- ---- what a call of another function needs

pub denoter-simple_type-requires : goal.denoter-simple_type-requires
denoter-simple_type-requires t c = c.requires

pub denoter-pointer-requires : goal.denoter-pointer-requires
denoter-pointer-requires t c = c.requires

pub structure-set_type-requires : goal.structure-set_type-requires
structure-set_type-requires t c = c.requires

pub array_type-index_types-requires : goal.array_type-index_types-requires
array_type-index_types-requires t c = c.requires

pub denoter-returns-in-Structure-clause-kept : goal.denoter-returns-in-Structure-clause-kept
denoter-returns-in-Structure-clause-kept t c = c.structure.ensures.kept

pub denoter-returns-in-Packed-clause-kept : goal.denoter-returns-in-Packed-clause-kept
denoter-returns-in-Packed-clause-kept t c = c.structure-in-Packed.ensures.kept

pub structure-returns-in-Array-clause-kept : goal.structure-returns-in-Array-clause-kept
structure-returns-in-Array-clause-kept t c = c.array_type.ensures.kept

pub structure-returns-in-Record-clause-kept : goal.structure-returns-in-Record-clause-kept
structure-returns-in-Record-clause-kept t c = c.record_type.ensures.kept
