-- The answers of chains of steps, selectors and values.

use Rattle.std.proofs.Common.{rules, arith, ◌≡◌, ◌+◌, ◌≤◌, List, ◌++◌, OnOk, IfOk, sym, ap, subst, ◌∙◌}
use borrow.Author.Rules.{get_or_read}
use Rattle.ps_tree.specs.declared.tree.Argument.TheFolds.{the_lemmas}
use Rattle.ps_tree.specs.declared.tree.Selector.{Selector}
use Rattle.ps_tree.specs.declared.tree.ArithmeticStep.{out-ArithmeticStep}
use Rattle.ps_tree.specs.View.{base_of, selector_of, selectors_of, expr_of}
use Rattle.ps_lower_code.specs.Scopes.{unless_known}
use Rattle.ps_lower_code.specs.Statements.{expr_code}
use Rattle.ps_lower_code.specs.Values.{selectors_code, selectors_site}
use Rattle.ps_lower.specs.Levels.{scope_of, site_of}
use Rattle.ps_lower.specs.Sites.{selector_code, selector_site, site_behind}
use Rattle.ps_lower.specs.declared.depth.TheConstants.{MAX_NUMBER}
use Rattle.ps_lower.proofs.Selecting.{led_start, led_next}
use Rattle.ps_lower.proofs.Placing.{place_told, site_told}
use Rattle.ps_lower.proofs.Arms.{behind, minus_made}
use Rattle.ps_lower.proofs.Gathering.{constructor_is}
use Rattle.ps_lower.proofs.Appends.{and_then, unchanged, added_next, added_all}
use Rattle.ps_lower.proofs.Chains.{steps_added, steps_further, step_added, step_told, operands_added, operands_nothing}
use Rattle.ps_lower.proofs.Chains.{operands_further, operand_added, operand_told}
use Rattle.ps_lower.proofs.Weighing.{step_in, operand_in, leads_start, leads_depth, leads_reach, leads_next}
use Rattle.ps_lower_bounds.specs.Weights.{expr_weight, set_weight}
use Rattle.ps_lower.proofs.+values.Goals as goal

pub go_on_with-returns : goal.values::go_on_with-returns
go_on_with-returns t c = added_all (operands_added (scope_of c.args.level.now) c.args.operator c.args.a c.args.x)
    (operands_nothing (scope_of c.args.level.now) c.args.operator c.args.a c.args.x) _ _ _ _ c.loop-operand-test.false
    c.loop-operand.invariant

pub go_on-loop-step-preserved : goal.values::go_on-loop-step-preserved
go_on-loop-step-preserved t c =
    added_next (steps_added (scope_of c.args.level.now) c.args.a c.args.x)
    (step_added (scope_of c.args.level.now) c.args.a c.args.x)
    (steps_further (scope_of c.args.level.now) c.args.a c.args.x) _ _ _ _ _ c.step-item.result c.loop-step-test.true
    c.loop-step.invariant
    (and_then _ _ _ _ _ c.in_ok-unless_known.ensures c.in_ok-arithmetic.ensures
    ∙ ap (λ l. c.loop-step.out ++ l) (step_told
    (scope_of c.args.level.now) c.args.a c.args.x c.even_above-t.result c.step-item.result c.operator.result
    c.literal.result c.operand-right.result c.even_above-t.ensures.value c.operator.ensures c.literal.ensures
    c.operand-right.ensures ∙ ap (step_added (scope_of c.args.level.now) c.args.a c.args.x) c.step-item.is))

pub go_on_with-loop-operand-preserved : goal.values::go_on_with-loop-operand-preserved
go_on_with-loop-operand-preserved t c =
    added_next (operands_added (scope_of c.args.level.now) c.args.operator c.args.a c.args.x)
    (operand_added (scope_of c.args.level.now) c.args.operator c.args.a c.args.x)
    (operands_further (scope_of c.args.level.now) c.args.operator c.args.a c.args.x) _ _ _ _ _ c.operand-item.result
    c.loop-operand-test.true c.loop-operand.invariant
    (and_then _ _ _ _ _ (and_then _ _ _ _ _ c.in_ok-front.ensures c.in_ok-truth_finish.ensures) c.in_ok-bits.ensures
    ∙ ap (λ l. c.loop-operand.out ++ l) (operand_told
    (scope_of c.args.level.now) c.args.operator c.args.a c.args.x c.even_above-t.result c.operand-item.result
    c.bit_operator.result c.even_above-t.ensures.value c.bit_operator.ensures
    ∙ ap (operand_added (scope_of c.args.level.now) c.args.operator c.args.a c.args.x) c.operand-item.is))

pub place-returns-clause-code : goal.values::place-returns-clause-code
place-returns-clause-code t c =
    place_told (scope_of c.args.level.now) (base_of c.args.place.now.base)
    (selectors_of c.args.place.now.selectors.items) c.args.d c.args.x c.place_temporary-t.result
    (site_of c.in_ok-site.site) c.along.result c.along.new.out c.name.new.out c.args.out.now
    c.place_temporary-t.ensures.value c.in_ok-site.ensures.code c.in_ok-site.ensures.site
    (subst (λ (l : List Selector). OnOk c.along.result
    (c.along.new.out ≡ c.name.new.out ++ selectors_code (scope_of c.args.level.now) (selectors_of l)
    (site_of c.in_ok-site.site) c.place_temporary-t.result c.args.x)) c.deref.ensures.value c.along.ensures.code)

pub place-returns-clause-site : goal.values::place-returns-clause-site
place-returns-clause-site t c =
    site_told site_of (scope_of c.args.level.now) (base_of c.args.place.now.base)
    (selectors_of c.args.place.now.selectors.items) c.args.d c.place_temporary-t.result
    (site_of c.in_ok-site.site) c.along.result
    c.place_temporary-t.ensures.value c.in_ok-site.ensures.site
    (subst (λ (l : List Selector). IfOk c.along.result
    (λ s. site_of s ≡ selectors_site (selectors_of l) (site_of c.in_ok-site.site) c.place_temporary-t.result))
    c.deref.ensures.value c.along.ensures.site)

pub along-loop-selector-init : goal.values::along-loop-selector-init
along-loop-selector-init t c = (
  led_start (scope_of c.args.level.now) c.args.t c.args.x _ _ _,
  leads_start
      (scope_of c.args.level.now) c.args.t c.args.x c.args.selectors.now c.args.site.offset c.requires.depth
      c.requires.reach,
)

pub along-loop-selector-preserved : goal.values::along-loop-selector-preserved
along-loop-selector-preserved t c = (
  led_next (scope_of c.args.level.now) c.args.t c.args.x _ _ _ _ _ _ _ _ c.selector-item.result
      c.loop-selector-test.true c.loop-selector.invariant.0
      (c.in_ok-site.ensures.code ∙ ap
      (λ s. c.loop-selector.out ++ selector_code (scope_of c.args.level.now) (selector_of s)
      (site_of c.loop-selector.site) c.args.t c.args.x) c.selector-item.is)
      (c.in_ok-site.ensures.site ∙ ap (λ s. selector_site (selector_of s) (site_of c.loop-selector.site) c.args.t)
      c.selector-item.is),
  leads_next (scope_of c.args.level.now) c.args.t c.args.x c.args.selectors.now c.loop-selector.selector-index
      (site_of c.loop-selector.site) (site_of c.in_ok-site.site) c.selector-item.result c.loop-selector-test.true
      c.selector-item.is c.loop-selector.invariant.1 c.in_ok-site.ensures.site,
)

pub select-returns-in-Element-clause-code : goal.values::select-returns-in-Element-clause-code
unfolding selector_of
select-returns-in-Element-clause-code t c = subst
    (λ (s : Selector). OnOk c.element.result (c.element.new.out ≡ c.args.out.now ++ selector_code
    (scope_of c.args.level.now) (selector_of s) (site_of c.args.site) c.args.t c.args.x))
    (sym c.in-Element.is) c.element.ensures.code

pub select-returns-in-Element-clause-site : goal.values::select-returns-in-Element-clause-site
unfolding selector_of
select-returns-in-Element-clause-site t c = subst
    (λ (s : Selector). IfOk c.element.result (λ y. site_of y ≡ selector_site (selector_of s)
    (site_of c.args.site) c.args.t)) (sym c.in-Element.is) c.element.ensures.site

pub select-returns-in-Target-clause-code : goal.values::select-returns-in-Target-clause-code
unfolding selector_of
select-returns-in-Target-clause-code t c = subst
    (λ (s : Selector). OnOk c.pointed.result (c.pointed.new.out ≡ c.args.out.now ++ selector_code
    (scope_of c.args.level.now) (selector_of s) (site_of c.args.site) c.args.t c.args.x))
    (sym c.in-Target.is) c.pointed.ensures.code

pub select-returns-in-Target-clause-site : goal.values::select-returns-in-Target-clause-site
unfolding selector_of
select-returns-in-Target-clause-site t c = subst
    (λ (s : Selector). IfOk c.pointed.result (λ y. site_of y ≡ selector_site (selector_of s)
    (site_of c.args.site) c.args.t)) (sym c.in-Target.is) c.pointed.ensures.site

pub select-returns-in-Field-clause-code : goal.values::select-returns-in-Field-clause-code
unfolding selector_of
select-returns-in-Field-clause-code t c = subst
    (λ (s : Selector). c.args.out.now ≡ c.args.out.now ++ selector_code (scope_of c.args.level.now) (selector_of s)
    (site_of c.args.site) c.args.t c.args.x) (sym c.in-Field.is) (unchanged c.args.out.now)

pub select-returns-in-Field-clause-site : goal.values::select-returns-in-Field-clause-site
unfolding selector_of
select-returns-in-Field-clause-site t c = c.behind.ensures
    ∙ ap (site_behind (site_of c.args.site)) c.field_offset.ensures ∙ sym
    (ap (λ s. selector_site (selector_of s) (site_of c.args.site) c.args.t) c.in-Field.is)

pub unless_known-returns-in-Some : goal.values::unless_known-returns-in-Some
unless_known-returns-in-Some t c = subst (λ o. c.args.out.now ≡ c.args.out.now ++ unless_known o
    (expr_code (scope_of c.args.level.now) (expr_of c.args.e.now) c.args.d c.args.x)) c.in-Some.ensures
    (unchanged c.args.out.now)

pub unless_known-returns-in-None : goal.values::unless_known-returns-in-None
unless_known-returns-in-None t c = subst (λ o. OnOk c.value.result
    (c.value.new.out ≡ c.args.out.now ++ unless_known o
    (expr_code (scope_of c.args.level.now) (expr_of c.args.e.now) c.args.d c.args.x))) c.in-None.ensures c.value.ensures

pub minus-returns-in_ok-literal-in-None : goal.values::minus-returns-in_ok-literal-in-None
minus-returns-in_ok-literal-in-None t c =
    minus_made (scope_of c.args.level.now) (expr_of c.args.operand.now) c.args.d c.args.x c.args.line.number
    c.even_above-t.result
    c.arithmetic.result c.arithmetic.new.self c.literal-in-None.new.self c.value.new.out c.args.out.now
    c.in-None.ensures c.even_above-t.ensures.value c.in_ok-value-in-None.ensures c.in_ok-literal-in-None.ensures
    c.arithmetic.ensures

pub along-select-requires : goal.values::along-select-requires
along-select-requires t c = (
  search (rules, the_lemmas, get_or_read),
  (
    leads_depth (scope_of c.args.level.now) c.args.t c.args.x c.args.selectors.now c.loop-selector.selector-index
        (site_of c.loop-selector.site) c.selector-item.result c.loop-selector-test.true c.selector-item.is
        c.loop-selector.invariant.1,
    leads_reach (scope_of c.args.level.now) c.args.t c.args.x c.args.selectors.now
        c.loop-selector.selector-index (site_of c.loop-selector.site) c.selector-item.result c.loop-selector-test.true
        c.selector-item.is c.loop-selector.invariant.1,
  ),
)

pub adding-members-requires : goal.set_values::adding-members-requires
adding-members-requires t c =
    let e = ap (set_weight (scope_of c.args.level.now)) (constructor_is _ _ _ c.in-Constructor.is c.deref.ensures.value)
    in
    let r = c.requires in
    (search (rules, the_lemmas, get_or_read), omega (arith, e, r))

pub go_on-unless_known-requires : goal.values::go_on-unless_known-requires
go_on-unless_known-requires t c =
    let l = step_in (scope_of c.args.level.now) c.args.steps.now c.loop-step.step-index c.step-item.result
    c.loop-step-test.true c.step-item.is in
    let h = c.even_above-t.ensures.small in
    let r = c.requires in
    let room : c.even_above-t.result + c.args.x + expr_weight (scope_of c.args.level.now)
    (expr_of (out-ArithmeticStep c.step-item.result).operand) ≤ MAX_NUMBER = omega (arith, l, h, r) in
    search (rules, the_lemmas, get_or_read)

pub go_on_with-front-requires : goal.values::go_on_with-front-requires
go_on_with-front-requires t c =
    let l = operand_in (scope_of c.args.level.now) c.args.operands.now c.loop-operand.operand-index
    c.operand-item.result
    c.loop-operand-test.true c.operand-item.is in
    let h = c.even_above-t.ensures.small in
    let r = c.requires in
    let room : c.even_above-t.result + c.args.x + expr_weight (scope_of c.args.level.now)
    (expr_of c.operand-item.result) ≤ MAX_NUMBER = omega (arith, l, h, r) in
    search (rules, the_lemmas, get_or_read)

pub go_on_with-truth_finish-requires : goal.values::go_on_with-truth_finish-requires
go_on_with-truth_finish-requires t c =
    let l = operand_in (scope_of c.args.level.now) c.args.operands.now c.loop-operand.operand-index
    c.operand-item.result
    c.loop-operand-test.true c.operand-item.is in
    let h = c.even_above-t.ensures.small in
    let r = c.requires in
    omega (arith, l, h, r)

pub minus-value-requires : goal.values::minus-value-requires
minus-value-requires t c =
    let h = c.even_above-t.ensures.small in
    let r = c.requires in
    (search (rules, the_lemmas, get_or_read), omega (arith, h, r))
