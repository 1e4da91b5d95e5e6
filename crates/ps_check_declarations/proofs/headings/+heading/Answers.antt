use borrow.Author.Rules.{get_or_read}
use Rattle.std.proofs.Common.{rules, map, refl, sym, ap, arith, ◌∙◌}
use Rattle.std.proofs.lemmas.List.{map_push}
use Rattle.ps_syntax.specs.declared.program.Heading.TheFolds.{the_lemmas}
use Rattle.ps_check_judgement.specs.Judged.{Yes}
use Rattle.ps_check_judgement.proofs.Lists.{told_bind, handed_on}
use Rattle.ps_check_names.specs.SectionViews.{section_of}
use Rattle.ps_check_declarations.specs.Headings.{section_points, sections_of}
use Rattle.ps_check_declarations.specs.Views.{hidden_of}
use Rattle.ps_check_declarations.proofs.Handed.{kept_refused, then_told, then_is}
use Rattle.ps_check_declarations.proofs.HeadingLemmas.{heading_Procedure, heading_Function, section_Value}
use Rattle.ps_check_declarations.proofs.HeadingLemmas.{section_Variable, section_Routine, routine_made}
use Rattle.ps_check_declarations.proofs.HidingLemmas.{left_again, covers_still, has_still, covers_one_more}
use Rattle.ps_check_declarations.proofs.HidingLemmas.{covers_entered, has_entered}
use Rattle.ps_check_declarations.proofs.Steps.{mapped_start, mapped_next, mapped_fault, mapped_end}
use Rattle.ps_check_declarations.proofs.headings.+heading.Goals as goal

-- ---- what a call within the cycle needs: its measure is less, and the names that hide others are in the list

pub heading-sections-requires : goal.heading-sections-requires
heading-sections-requires t c = (search (rules, the_lemmas), c.requires)

pub heading-sections-requires-in-Function : goal.heading-sections-requires-in-Function
heading-sections-requires-in-Function t c = (search (rules, the_lemmas), c.requires)

pub sections-own_sections-requires : goal.sections-own_sections-requires
sections-own_sections-requires t c = (omega (arith, c.decreases), c.requires)

pub own_sections-all_sections-requires : goal.own_sections-all_sections-requires
own_sections-all_sections-requires t c = (
  omega (arith, c.decreases),
  (
    covers_entered _ _ _ _ c.in_ok-enter.ensures c.requires,
    has_entered _ _ _ c.in_ok-enter.ensures,
  ),
)

pub all_sections-add_section-requires : goal.all_sections-add_section-requires
all_sections-add_section-requires t c = (
  search (rules, the_lemmas, get_or_read),
  (
    covers_still _ _ _ c.loop-written.invariant.1 c.requires.covers,
    has_still _ _ _ c.loop-written.invariant.1 c.requires.names,
  ),
)

pub add_section-section-requires : goal.add_section-section-requires
unfolding hidden_of
add_section-section-requires t c = (
  omega (arith, c.decreases),
  covers_one_more _ _ _ _ c.requires.names c.requires.covers,
)

pub section-heading-requires : goal.section-heading-requires
section-heading-requires t c = (search (rules, the_lemmas), c.requires)

-- ---- headings

pub heading-returns-in_err-sections-in-Procedure-clause-kept :
    goal.heading-returns-in_err-sections-in-Procedure-clause-kept
heading-returns-in_err-sections-in-Procedure-clause-kept t c =
    kept_refused c.from_residual.result _ _ c.from_residual.ensures.1

pub heading-returns-in_err-sections-in-Procedure-clause-judged :
    goal.heading-returns-in_err-sections-in-Procedure-clause-judged
heading-returns-in_err-sections-in-Procedure-clause-judged t c = handed_on _ _ _ _ c.from_residual.ensures.1
    (rw (c.in-Procedure.is, heading_Procedure, ← c.as_slice.ensures)
    (told_bind _ _ _ c.in_err-sections-in-Procedure.ensures.judged))

pub heading-returns-in_ok-sections-in-Procedure-clause-kept :
    goal.heading-returns-in_ok-sections-in-Procedure-clause-kept
heading-returns-in_ok-sections-in-Procedure-clause-kept t c = c.in_ok-sections-in-Procedure.ensures.kept

pub heading-returns-in_ok-sections-in-Procedure-clause-judged :
    goal.heading-returns-in_ok-sections-in-Procedure-clause-judged
heading-returns-in_ok-sections-in-Procedure-clause-judged t c = rw
    (c.in-Procedure.is, heading_Procedure, ← c.as_slice.ensures)
    (then_is _ _ _ _ c.in_ok-sections-in-Procedure.ensures.judged refl)

pub heading-returns-in_err-sections-in-Function-clause-kept :
    goal.heading-returns-in_err-sections-in-Function-clause-kept
heading-returns-in_err-sections-in-Function-clause-kept t c =
    kept_refused c.from_residual-in_err-sections-in-Function.result _ _
    c.from_residual-in_err-sections-in-Function.ensures.1

pub heading-returns-in_err-sections-in-Function-clause-judged :
    goal.heading-returns-in_err-sections-in-Function-clause-judged
heading-returns-in_err-sections-in-Function-clause-judged t c =
    handed_on _ _ _ _ c.from_residual-in_err-sections-in-Function.ensures.1
    (rw (c.in-Function.is, heading_Function, ← c.as_slice-in-Function.ensures)
    (told_bind _ _ _ c.in_err-sections-in-Function.ensures.judged))

pub heading-returns-in_err-ty-in-Function-clause-kept : goal.heading-returns-in_err-ty-in-Function-clause-kept
heading-returns-in_err-ty-in-Function-clause-kept t c = kept_refused c.from_residual-in_err-ty-in-Function.result _ _
    c.from_residual-in_err-ty-in-Function.ensures.1

pub heading-returns-in_err-ty-in-Function-clause-judged : goal.heading-returns-in_err-ty-in-Function-clause-judged
heading-returns-in_err-ty-in-Function-clause-judged t c = handed_on _ _ _ _
    c.from_residual-in_err-ty-in-Function.ensures.1
    (rw (c.in-Function.is, heading_Function, ← c.as_slice-in-Function.ensures)
    (then_told _ _ _ _ c.in_ok-sections-in-Function.ensures.judged (told_bind _ _ _ c.in_err-ty-in-Function.ensures)))

pub heading-returns-in_ok-ty-in-Function-clause-kept : goal.heading-returns-in_ok-ty-in-Function-clause-kept
heading-returns-in_ok-ty-in-Function-clause-kept t c = c.in_ok-sections-in-Function.ensures.kept

pub heading-returns-in_ok-ty-in-Function-clause-judged : goal.heading-returns-in_ok-ty-in-Function-clause-judged
heading-returns-in_ok-ty-in-Function-clause-judged t c = rw
    (c.in-Function.is, heading_Function, ← c.as_slice-in-Function.ensures)
    (then_is _ _ _ _ c.in_ok-sections-in-Function.ensures.judged (then_is _ _ _ _ c.in_ok-ty-in-Function.ensures refl))

-- ---- lists of sections

pub sections-returns-in_err-names-clause-kept : goal.sections-returns-in_err-names-clause-kept
sections-returns-in_err-names-clause-kept t c = kept_refused c.from_residual.result _ _ c.from_residual.ensures.1

pub sections-returns-in_err-names-clause-judged : goal.sections-returns-in_err-names-clause-judged
sections-returns-in_err-names-clause-judged t c = handed_on _ _ _ _ c.from_residual.ensures.1 tt

pub sections-returns-in_err-_count-clause-kept : goal.sections-returns-in_err-_count-clause-kept
sections-returns-in_err-_count-clause-kept t c = kept_refused c.from_residual-in_err-_count.result _ _
    c.from_residual-in_err-_count.ensures.1

pub sections-returns-in_err-_count-clause-judged : goal.sections-returns-in_err-_count-clause-judged
unfolding sections_of
sections-returns-in_err-_count-clause-judged t c = handed_on _ _ _ _ c.from_residual-in_err-_count.ensures.1
    (rw (← c.in_ok-names.ensures, ← c.len.ensures) (told_bind _ _ _ c.in_err-_count.ensures))

pub sections-returns-in_err-sections-clause-kept : goal.sections-returns-in_err-sections-clause-kept
sections-returns-in_err-sections-clause-kept t c = kept_refused c.from_residual-in_err-sections.result _ _
    c.from_residual-in_err-sections.ensures.1

pub sections-returns-in_err-sections-clause-judged : goal.sections-returns-in_err-sections-clause-judged
unfolding sections_of
sections-returns-in_err-sections-clause-judged t c = handed_on _ _ _ _ c.from_residual-in_err-sections.ensures.1
    (rw (← c.in_ok-names.ensures, ← c.len.ensures)
    (then_told _ _ _ _ c.in_ok-_count.ensures (told_bind _ _ _ c.in_err-sections.ensures.judged)))

pub sections-returns-clause-kept : goal.sections-returns-clause-kept
sections-returns-clause-kept t c = c.in_ok-sections.ensures.kept

pub sections-returns-clause-judged : goal.sections-returns-clause-judged
unfolding sections_of
sections-returns-clause-judged t c = rw (← c.in_ok-names.ensures, ← c.len.ensures)
    (then_is _ _ _ _ c.in_ok-_count.ensures (then_is _ _ _ _ c.in_ok-sections.ensures.judged refl))

pub all_sections-loop-written-init : goal.all_sections-loop-written-init
all_sections-loop-written-init t c = (rw c.new-done.ensures.items (mapped_start _ _ _ _), refl)

pub all_sections-loop-written-preserved : goal.all_sections-loop-written-preserved
all_sections-loop-written-preserved t c = (
  mapped_next _ _ _ _ _ _ c.written-item.result _ c.loop-written-test.true c.written-item.is
      c.loop-written.invariant.0 c.in_ok-defined.ensures.judged,
  c.in_ok-defined.ensures.kept ∙ c.loop-written.invariant.1,
)

pub all_sections-returns-in_err-defined-clause-kept : goal.all_sections-returns-in_err-defined-clause-kept
all_sections-returns-in_err-defined-clause-kept t c = kept_refused c.from_residual.result _ _ c.from_residual.ensures.1

pub all_sections-returns-in_err-defined-clause-judged : goal.all_sections-returns-in_err-defined-clause-judged
all_sections-returns-in_err-defined-clause-judged t c = handed_on _ _ _ _ c.from_residual.ensures.1
    (mapped_fault _ _ _ _ _ _ c.written-item.result _ c.loop-written-test.true c.written-item.is
    c.loop-written.invariant.0 c.in_err-defined.ensures.judged)

pub all_sections-returns-clause-kept : goal.all_sections-returns-clause-kept
all_sections-returns-clause-kept t c = c.loop-written.invariant.1

pub all_sections-returns-clause-judged : goal.all_sections-returns-clause-judged
all_sections-returns-clause-judged t c = mapped_end _ _ _ _ _ _ c.loop-written-test.false c.loop-written.invariant.0

pub own_sections-returns-in_err-enter-clause-kept : goal.own_sections-returns-in_err-enter-clause-kept
own_sections-returns-in_err-enter-clause-kept t c = kept_refused c.from_residual.result _ _ c.from_residual.ensures.1

pub own_sections-returns-in_err-enter-clause-judged : goal.own_sections-returns-in_err-enter-clause-judged
own_sections-returns-in_err-enter-clause-judged t c = handed_on _ _ _ _ c.from_residual.ensures.1 tt

pub own_sections-returns-in_err-sections-clause-kept : goal.own_sections-returns-in_err-sections-clause-kept
own_sections-returns-in_err-sections-clause-kept t c = kept_refused c.from_residual-in_err-sections.result _ _
    c.from_residual-in_err-sections.ensures.1

pub own_sections-returns-in_err-sections-clause-judged : goal.own_sections-returns-in_err-sections-clause-judged
own_sections-returns-in_err-sections-clause-judged t c = handed_on _ _ _ _ c.from_residual-in_err-sections.ensures.1
    c.in_err-sections.ensures.judged

pub own_sections-returns-clause-kept : goal.own_sections-returns-clause-kept
own_sections-returns-clause-kept t c = left_again c.args.hiding.now c.enter.new.self c.all_sections.new.hiding
    c.leave.new.self c.args.names.now c.len-outside.result c.len-outside.ensures c.in_ok-enter.ensures
    c.in_ok-sections.ensures.kept c.leave.ensures

pub own_sections-returns-clause-judged : goal.own_sections-returns-clause-judged
own_sections-returns-clause-judged t c = c.in_ok-sections.ensures.judged

-- ---- sections

pub add_section-returns-in_err-defined-clause-kept : goal.add_section-returns-in_err-defined-clause-kept
add_section-returns-in_err-defined-clause-kept t c = kept_refused c.from_residual.result _ _ c.from_residual.ensures.1

pub add_section-returns-in_err-defined-clause-judged : goal.add_section-returns-in_err-defined-clause-judged
unfolding section_points
add_section-returns-in_err-defined-clause-judged t c = handed_on _ _ _ _ c.from_residual.ensures.1
    (told_bind _ _ _ c.in_err-defined.ensures)

pub add_section-returns-in_err-section-clause-kept : goal.add_section-returns-in_err-section-clause-kept
add_section-returns-in_err-section-clause-kept t c = kept_refused c.from_residual-in_err-section.result _ _
    c.from_residual-in_err-section.ensures.1

pub add_section-returns-in_err-section-clause-judged : goal.add_section-returns-in_err-section-clause-judged
unfolding section_points hidden_of
add_section-returns-in_err-section-clause-judged t c = handed_on _ _ _ _ c.from_residual-in_err-section.ensures.1
    (then_told _ _ _ _ c.in_ok-defined.ensures (told_bind _ _ _ c.in_err-section.ensures.judged))

pub add_section-returns-in_err-push-clause-kept : goal.add_section-returns-in_err-push-clause-kept
add_section-returns-in_err-push-clause-kept t c = kept_refused c.from_residual-in_err-push.result _ _
    c.from_residual-in_err-push.ensures.1

pub add_section-returns-in_err-push-clause-judged : goal.add_section-returns-in_err-push-clause-judged
add_section-returns-in_err-push-clause-judged t c = handed_on _ _ _ _ c.from_residual-in_err-push.ensures.1 tt

pub add_section-returns-clause-kept : goal.add_section-returns-clause-kept
add_section-returns-clause-kept t c = c.in_ok-section.ensures.kept

pub add_section-returns-clause-judged : goal.add_section-returns-clause-judged
unfolding section_points hidden_of
add_section-returns-clause-judged t c =
    then_is _ _ _ _ c.in_ok-defined.ensures
    (then_is _ _ _ _ c.in_ok-section.ensures.judged
    (ap (λ l. Yes (l, c.in_ok-defined.defined))
    (sym (ap (map section_of) c.in_ok-push.ensures.items ∙ map_push section_of _ _))))

pub section-returns-in_err-count-in-Value-clause-kept : goal.section-returns-in_err-count-in-Value-clause-kept
section-returns-in_err-count-in-Value-clause-kept t c = kept_refused c.from_residual.result _ _
    c.from_residual.ensures.1

pub section-returns-in_err-count-in-Value-clause-judged : goal.section-returns-in_err-count-in-Value-clause-judged
section-returns-in_err-count-in-Value-clause-judged t c = handed_on _ _ _ _ c.from_residual.ensures.1
    (rw (c.in-Value.is, section_Value, ← c.len.ensures) (told_bind _ _ _ c.in_err-count-in-Value.ensures))

pub section-returns-in_err-ty-in-Value-clause-kept : goal.section-returns-in_err-ty-in-Value-clause-kept
section-returns-in_err-ty-in-Value-clause-kept t c = kept_refused c.from_residual-in_err-ty-in-Value.result _ _
    c.from_residual-in_err-ty-in-Value.ensures.1

pub section-returns-in_err-ty-in-Value-clause-judged : goal.section-returns-in_err-ty-in-Value-clause-judged
section-returns-in_err-ty-in-Value-clause-judged t c = handed_on _ _ _ _ c.from_residual-in_err-ty-in-Value.ensures.1
    (rw (c.in-Value.is, section_Value, ← c.len.ensures)
    (then_told _ _ _ _ c.in_ok-count-in-Value.ensures (told_bind _ _ _ c.in_err-ty-in-Value.ensures)))

pub section-returns-in_ok-ty-in-Value-clause-judged : goal.section-returns-in_ok-ty-in-Value-clause-judged
unfolding section_of
section-returns-in_ok-ty-in-Value-clause-judged t c = rw (c.in-Value.is, section_Value, ← c.len.ensures)
    (then_is _ _ _ _ c.in_ok-count-in-Value.ensures (then_is _ _ _ _ c.in_ok-ty-in-Value.ensures refl))

pub section-returns-in_err-count-in-Variable-clause-kept : goal.section-returns-in_err-count-in-Variable-clause-kept
section-returns-in_err-count-in-Variable-clause-kept t c = kept_refused c.from_residual-in_err-count-in-Variable.result
    _ _ c.from_residual-in_err-count-in-Variable.ensures.1

pub section-returns-in_err-count-in-Variable-clause-judged : goal.section-returns-in_err-count-in-Variable-clause-judged
section-returns-in_err-count-in-Variable-clause-judged t c = handed_on _ _ _ _
    c.from_residual-in_err-count-in-Variable.ensures.1
    (rw (c.in-Variable.is, section_Variable, ← c.len-in-Variable.ensures)
    (told_bind _ _ _ c.in_err-count-in-Variable.ensures))

pub section-returns-in_err-ty-in-Variable-clause-kept : goal.section-returns-in_err-ty-in-Variable-clause-kept
section-returns-in_err-ty-in-Variable-clause-kept t c = kept_refused c.from_residual-in_err-ty-in-Variable.result _ _
    c.from_residual-in_err-ty-in-Variable.ensures.1

pub section-returns-in_err-ty-in-Variable-clause-judged : goal.section-returns-in_err-ty-in-Variable-clause-judged
section-returns-in_err-ty-in-Variable-clause-judged t c = handed_on _ _ _ _
    c.from_residual-in_err-ty-in-Variable.ensures.1
    (rw (c.in-Variable.is, section_Variable, ← c.len-in-Variable.ensures)
    (then_told _ _ _ _ c.in_ok-count-in-Variable.ensures (told_bind _ _ _ c.in_err-ty-in-Variable.ensures)))

pub section-returns-in_ok-ty-in-Variable-clause-judged : goal.section-returns-in_ok-ty-in-Variable-clause-judged
unfolding section_of
section-returns-in_ok-ty-in-Variable-clause-judged t c = rw
    (c.in-Variable.is, section_Variable, ← c.len-in-Variable.ensures)
    (then_is _ _ _ _ c.in_ok-count-in-Variable.ensures (then_is _ _ _ _ c.in_ok-ty-in-Variable.ensures refl))

pub section-returns-in_err-sections-in-Routine-clause-kept : goal.section-returns-in_err-sections-in-Routine-clause-kept
section-returns-in_err-sections-in-Routine-clause-kept t c = kept_refused
    c.from_residual-in_err-sections-in-Routine.result _ _ c.from_residual-in_err-sections-in-Routine.ensures.1

pub section-returns-in_err-sections-in-Routine-clause-judged :
    goal.section-returns-in_err-sections-in-Routine-clause-judged
section-returns-in_err-sections-in-Routine-clause-judged t c =
    handed_on _ _ _ _ c.from_residual-in_err-sections-in-Routine.ensures.1
    (rw (c.in-Routine.is, section_Routine) (told_bind _ _ _ c.in_err-sections-in-Routine.ensures.judged))

pub section-returns-in_err-shared-in-Routine-clause-kept : goal.section-returns-in_err-shared-in-Routine-clause-kept
section-returns-in_err-shared-in-Routine-clause-kept t c = kept_refused c.from_residual-in_err-shared-in-Routine.result
    _ _ c.from_residual-in_err-shared-in-Routine.ensures.1

pub section-returns-in_err-shared-in-Routine-clause-judged : goal.section-returns-in_err-shared-in-Routine-clause-judged
section-returns-in_err-shared-in-Routine-clause-judged t c = handed_on _ _ _ _
    c.from_residual-in_err-shared-in-Routine.ensures.1 tt

pub section-returns-in_ok-shared-in-Routine-clause-judged : goal.section-returns-in_ok-shared-in-Routine-clause-judged
section-returns-in_ok-shared-in-Routine-clause-judged t c = search (rules, section_Routine, routine_made)

-- ---- what a call of another function needs

pub section-type_in-requires : goal.section-type_in-requires
section-type_in-requires t c = c.requires

pub section-type_in-requires-in-Variable : goal.section-type_in-requires-in-Variable
section-type_in-requires-in-Variable t c = c.requires
