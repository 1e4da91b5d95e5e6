use Rattle.std.proofs.Common.{rules, ◌≡◌, ◌+◌, ◌*◌, ◌<◌, ◌∙◌, subst, arith}
use Rattle.ps_check_names.specs.SectionCode.{depth, section_depth}
use Rattle.ps_check_names.specs.SectionViews.{section_of, sections_of}
use Rattle.ps_check_names.proofs.ViewLemmas.{depth_at, list_falls}
use Rattle.ps_check.proofs.FormalLemmas.{listed_next, listed_end, routine_pushed}
use Rattle.ps_check.proofs.formals.+formals.Goals as goal

pub add_formals-returns-in_ok-push-in-Routine : goal.add_formals-returns-in_ok-push-in-Routine
add_formals-returns-in_ok-push-in-Routine t c = routine_pushed c.args.formals.now.items c.push.new.self.items
    c.in_ok-inner-in-Routine.inner c.in_ok-copy_result-in-Routine.field-0 c.in-Routine.sections c.in-Routine.result
    c.args.section.now (search rules) c.in-Routine.is (search rules) (search rules)

pub formals_of-loop-section-preserved : goal.formals_of-loop-section-preserved
formals_of-loop-section-preserved t c = listed_next _ _ _ _ _ c.loop-section-test.true c.section-item.is
    c.loop-section.invariant c.in_ok-add_formals.ensures

pub formals_of-returns : goal.formals_of-returns
formals_of-returns t c = listed_end _ _ _ c.loop-section-test.false c.loop-section.invariant

-- ---- the walk ends

pub add_formals-formals_of-requires : goal.add_formals-formals_of-requires
add_formals-formals_of-requires t c =
    let d : 2 * section_depth (section_of c.args.section.now) ≡ t = c.decreases in
    let falls = list_falls c.args.section.now c.in-Routine.sections c.in-Routine.result
    (sections_of c.as_slice.result.now) c.in-Routine.is (c.as_slice.ensures ∙ c.deref.ensures) in
    (subst (λ n. 2 * depth (sections_of c.as_slice.result.now) + 1 < n) d (omega (arith, falls)), tt)

pub formals_of-add_formals-requires : goal.formals_of-add_formals-requires
formals_of-add_formals-requires t c =
    let d : 2 * depth (sections_of c.args.sections.now) + 1 ≡ t = c.decreases in
    let within = depth_at c.args.sections.now c.loop-section.section-index c.section-item.result
    c.loop-section-test.true c.section-item.is in
    (subst (λ n. 2 * section_depth (section_of c.section-item.result) < n) d (omega (arith, within)), tt)
