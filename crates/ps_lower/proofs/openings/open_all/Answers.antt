use Rattle.std.proofs.Common.{◌+◌, ◌≤◌, ◌++◌, refl, ap, subst, sym, ◌∙◌}
use Rattle.ps_lower_bounds.specs.Weights.{place_weight}
use Rattle.ps_tree.specs.View.{place_of}
use Rattle.ps_lower_code.specs.Values.{place_code, place_site, place_temporary}
use Rattle.ps_lower.specs.Levels.{scope_of, within}
use Rattle.ps_lower.specs.declared.depth.TheConstants.{MAX_NUMBER}
use Rattle.ps_lower.proofs.Opening.{opening_start, opening_next, opening_code, opening_scope, opening_end}
use Rattle.ps_lower.proofs.Opening.{widening_start, widening_one, widening_next}
use Rattle.ps_lower.proofs.openings.open_all.Goals as goal

pub loop-variable-preserved : goal.loop-variable-preserved
loop-variable-preserved c = (
  opening_next (scope_of c.args.level.now) c.args.calls c.args.d c.args.out.now c.args.records.now
      c.loop-variable.variable-index c.loop-variable.out c.open.new.out c.loop-variable.sites.items
      c.push.new.self.items c.loop-variable.depth c.held-t.result c.place_temporary-depth.result
      (c.place_temporary-depth.result + 1) c.in_ok-site.site c.variable-item.result
      c.loop-variable-test.true c.loop-variable.invariant.0 c.held-t.ensures.value
      (c.in_ok-site.ensures.code
      ∙ ap (λ l. c.loop-variable.out ++ place_code (within (scope_of c.args.level.now) l)
      (place_of c.variable-item.result) c.held-t.result 0) c.as_slice.ensures.value
      ∙ ap (λ y. c.loop-variable.out ++ place_code (within (scope_of c.args.level.now) c.loop-variable.sites.items)
      (place_of y) c.held-t.result 0) c.variable-item.is)
      (c.in_ok-site.ensures.site
      ∙ ap (λ l. place_site (within (scope_of c.args.level.now) l) (place_of c.variable-item.result) c.held-t.result)
      c.as_slice.ensures.value
      ∙ ap (λ y. place_site (within (scope_of c.args.level.now) c.loop-variable.sites.items) (place_of y)
      c.held-t.result) c.variable-item.is)
      c.in_ok-push.ensures.items
      (c.place_temporary-depth.ensures.value ∙ ap (λ y. place_temporary (place_of y) c.held-t.result)
      c.variable-item.is)
      refl,
  widening_next (scope_of c.args.level.now) c.args.calls c.args.records.now c.loop-variable.variable-index
      c.loop-variable.sites.items c.push.new.self.items c.loop-variable.depth c.held-t.result
      c.place_temporary-depth.result (c.place_temporary-depth.result + 1) c.in_ok-site.site c.variable-item.result
      c.loop-variable-test.true c.variable-item.is c.loop-variable.invariant.1 c.held-t.ensures.value
      (c.in_ok-site.ensures.site ∙ ap (λ l. place_site (within (scope_of c.args.level.now) l)
      (place_of c.variable-item.result) c.held-t.result) c.as_slice.ensures.value)
      c.in_ok-push.ensures.items c.place_temporary-depth.ensures.value refl c.held-t.ensures.small
      c.place_temporary-depth.ensures.small,
)

pub open-requires : goal.open-requires
open-requires c =
    subst (λ l. c.held-t.result + place_weight (within (scope_of c.args.level.now) l)
    (place_of c.variable-item.result) ≤ MAX_NUMBER) (sym c.as_slice.ensures.value)
    (widening_one (scope_of c.args.level.now) c.args.calls c.args.records.now c.loop-variable.variable-index
    c.loop-variable.sites.items c.loop-variable.depth c.held-t.result c.variable-item.result
    c.loop-variable-test.true c.variable-item.is c.loop-variable.invariant.1 c.held-t.ensures.small)

pub returns-clause-code : goal.returns-clause-code
returns-clause-code c = opening_code (scope_of c.args.level.now) c.args.calls c.args.d _ c.args.records.now _ _ _ _
    c.loop-variable-test.false c.loop-variable.invariant.0

pub returns-clause-scope : goal.returns-clause-scope
returns-clause-scope c = opening_scope (scope_of c.args.level.now) c.args.calls c.args.d _ c.args.records.now _ _ _ _
    c.loop-variable-test.false c.loop-variable.invariant.0

pub returns-clause-depth : goal.returns-clause-depth
returns-clause-depth c = opening_end (scope_of c.args.level.now) c.args.calls c.args.d _ c.args.records.now _ _ _ _
    c.loop-variable-test.false c.loop-variable.invariant.0

pub loop-variable-init : goal.loop-variable-init
loop-variable-init c =
    let e = ap (within (scope_of c.args.level.now)) c.new-sites.ensures.items in (
      opening_start (scope_of c.args.level.now) c.args.calls c.args.d c.args.out.now c.args.records.now _ e,
      widening_start
          (scope_of c.args.level.now) c.args.calls c.args.records.now _ c.args.d e c.requires,
    )
