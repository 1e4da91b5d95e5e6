use Rattle.std.proofs.Common.{◌≡◌, ◌+◌, ◌*◌, ◌<◌, ◌∙◌, sym, subst, arith}
use Rattle.ps_check_names.specs.SectionCode.{depth, section_depth}
use Rattle.ps_check_names.specs.SectionViews.{section_of, sections_of}
use Rattle.ps_check_names.proofs.ViewLemmas.{depth_at, list_falls}
use Rattle.ps_check_expressions.proofs.ParameterLemmas.{alike_fault, alike_next, alike_end}
use Rattle.ps_check_expressions.proofs.parameter.+congruity.Goals as goal

pub are_all_alike-returns-then-not-are_alike : goal.are_all_alike-returns-then-not-are_alike
are_all_alike-returns-then-not-are_alike t c =
    sym (alike_fault _ _ c.loop-i.i c.index-a-i.result c.index-b-i.result (omega arith)
    (omega arith) c.index-a-i.is c.index-b-i.is
    (sym c.are_alike.ensures ∙ c.if-not-are_alike.true) c.loop-i.invariant)

pub are_all_alike-loop-i-preserved : goal.are_all_alike-loop-i-preserved
are_all_alike-loop-i-preserved t c =
    alike_next _ _ c.loop-i.i c.index-a-i.result c.index-b-i.result (omega arith)
    (omega arith) c.index-a-i.is c.index-b-i.is
    (sym c.are_alike.ensures ∙ c.if-not-are_alike.false) c.loop-i.invariant

pub are_all_alike-returns : goal.are_all_alike-returns
are_all_alike-returns t c = sym (alike_end _ _ c.loop-i.i (omega arith) (omega arith) c.loop-i.invariant)

-- ---- the walk ends

pub congruous-are_all_alike-requires : goal.congruous-are_all_alike-requires
congruous-are_all_alike-requires t c =
    let d : 3 * depth c.args.a.now + 2 ≡ t = c.decreases in
    let here : 3 * depth (sections_of c.as_slice.result.now) + 1 < 3 * depth c.args.a.now + 2 = subst
    (λ s. 3 * depth (sections_of c.as_slice.result.now) + 1 < 3 * depth s + 2) c.as_slice.ensures (omega arith) in
    (subst (λ n. 3 * depth (sections_of c.as_slice.result.now) + 1 < n) d here, tt)

pub are_all_alike-are_alike-requires : goal.are_all_alike-are_alike-requires
are_all_alike-are_alike-requires t c =
    let d : 3 * depth (sections_of c.args.a.now) + 1 ≡ t = c.decreases in
    let within = depth_at c.args.a.now c.loop-i.i c.index-a-i.result (omega arith) c.index-a-i.is in
    (subst (λ n. 3 * section_depth (section_of c.index-a-i.result) < n) d (omega (arith, within)), tt)

pub are_alike-congruous-requires : goal.are_alike-congruous-requires
are_alike-congruous-requires t c =
    let d : 3 * section_depth (section_of c.args.a.now) ≡ t = c.decreases in
    let falls = list_falls c.args.a.now c.in-Routine.s c.in-Routine.r c.deref.result.now c.in-Routine.is
    c.deref.ensures in
    (subst (λ n. 3 * depth c.deref.result.now + 2 < n) d (omega (arith, falls)), tt)
