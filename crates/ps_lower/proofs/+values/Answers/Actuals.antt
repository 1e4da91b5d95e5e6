-- The answers of actual parameters, structures and elements.

use Rattle.std.proofs.Common.{rules, arith, ◌≡◌, suc, ◌+◌, ◌++◌, OnOk, IfOk, sym, ap, subst, ◌∙◌}
use borrow.Author.Rules.{get_or_read}
use Rattle.ps_tree.specs.declared.tree.Argument.TheFolds.{the_lemmas}
use Rattle.ps_tree.specs.declared.tree.Argument.{Argument}
use Rattle.ps_tree.specs.View.{type_of, expr_of, argument_of}
use Rattle.ps_lower_code.specs.Scopes.{held, even_from}
use Rattle.ps_lower_code.specs.Statements.{expr_code}
use Rattle.ps_lower_code.specs.Values.{element_site, index_code, argument_code, argument_end, argument_scratch}
use Rattle.ps_lower.specs.Levels.{scope_of, site_of}
use Rattle.ps_lower.proofs.Placing.{element_told}
use Rattle.ps_lower.proofs.Actuals.{handed_start, handed_next}
use Rattle.ps_lower.proofs.Gathering.{set_handed, value_handed, variable_handed}
use Rattle.ps_lower.proofs.Handing.{contents_made}
use Rattle.ps_lower.proofs.Appends.{unchanged}
use Rattle.ps_lower.proofs.Weighing.{handing_start, handing_one, handing_next, variable_room, contents_room}
use Rattle.ps_lower.proofs.+values.Goals as goal

pub element-returns-in-Some-clause-code : goal.values::element-returns-in-Some-clause-code
element-returns-in-Some-clause-code t c = subst
    (λ o. c.args.out.now ≡ c.args.out.now ++ index_code o (type_of c.args.ty.now)
    (site_of c.args.site) c.args.room.first
    (even_from (suc c.args.room.first)) c.args.line.number (expr_code (scope_of c.args.level.now)
    (expr_of c.args.index.now)
    (even_from (suc c.args.room.first)) c.args.room.scratch)) c.in-Some.ensures (unchanged c.args.out.now)

pub element-returns-in_ok-value-in-None-clause-code : goal.values::element-returns-in_ok-value-in-None-clause-code
element-returns-in_ok-value-in-None-clause-code t c =
    element_told (scope_of c.args.level.now) (type_of c.args.ty.now) (expr_of c.args.index.now) c.args.line.number
    (site_of c.args.site) c.args.room.first c.args.room.scratch c.even_above-at.result c.indexed.result
    c.indexed.new.out
    c.value.new.out c.args.out.now
    c.in-None.ensures c.even_above-at.ensures.value c.in_ok-value-in-None.ensures c.indexed.ensures.code

pub element-returns-in_ok-value-in-None-clause-site : goal.values::element-returns-in_ok-value-in-None-clause-site
element-returns-in_ok-value-in-None-clause-site t c = subst
    (λ o. IfOk c.indexed.result (λ s. site_of s ≡ element_site o
    (site_of c.args.site) c.args.room.first)) c.in-None.ensures
    c.indexed.ensures.site

pub structure-returns-in_ok-site-in-Contents : goal.values::structure-returns-in_ok-site-in-Contents
structure-returns-in_ok-site-in-Contents t c = contents_made
    (scope_of c.args.level.now) c.args.e.now c.in-Contents.variable c.in-Contents.ty c.deref.result.now
    c.byte_count.result
    c.args.d c.args.x (site_of c.in_ok-site-in-Contents.site) c.address.result c.address.new.out c.place.new.out
    c.args.out.now c.in-Contents.is c.deref.ensures c.byte_count.ensures c.in_ok-site-in-Contents.ensures.code
    c.in_ok-site-in-Contents.ensures.site c.address.ensures

pub arguments-loop-one-init : goal.values::arguments-loop-one-init
arguments-loop-one-init t c = (
  handed_start (scope_of c.args.level.now) _ _ _ _,
  handing_start
      (scope_of c.args.level.now) c.args.arguments.now c.args.d c.args.x c.requires,
)

pub arguments-loop-one-preserved : goal.values::arguments-loop-one-preserved
arguments-loop-one-preserved t c = (
  handed_next (scope_of c.args.level.now) _ _ _ _ _ _ _ _ _ _ _ _ _ _ c.one-item.result c.loop-one-test.true
      c.loop-one.invariant.0 c.tail-rest.ensures
      (c.held-t.ensures.value ∙ ap (λ b. held b c.loop-one.depth) c.arguments_call.ensures)
      (c.in_ok-argument.ensures ∙ ap (λ y. c.loop-one.out ++ argument_code (scope_of c.args.level.now)
      (argument_of y) c.held-t.result c.loop-one.scratch) c.one-item.is)
      (c.argument_end-depth.ensures.value ∙ ap (λ y. argument_end (argument_of y) c.held-t.result) c.one-item.is)
      (c.scratch_end-scratch.ensures ∙ ap (λ y. c.loop-one.scratch + argument_scratch (argument_of y)) c.one-item.is),
  handing_next (scope_of c.args.level.now) c.args.arguments.now c.loop-one.one-index c.loop-one.depth c.loop-one.scratch
      c.held-t.result c.argument_end-depth.result c.scratch_end-scratch.result c.one-item.result c.loop-one-test.true
      c.one-item.is c.loop-one.invariant.1 c.held-t.ensures.small c.argument_end-depth.ensures.small
      c.scratch_end-scratch.ensures,
)

pub argument-returns-in_ok-site-in-Variable : goal.values::argument-returns-in_ok-site-in-Variable
argument-returns-in_ok-site-in-Variable t c = variable_handed
    (scope_of c.args.level.now) c.args.argument.now _ c.args.t c.args.x
    (site_of c.in_ok-site-in-Variable.site) c.address.result c.address.new.out c.place.new.out c.args.out.now
    c.in-Variable.is c.in_ok-site-in-Variable.ensures.code c.in_ok-site-in-Variable.ensures.site c.address.ensures

pub argument-returns-in_ok-value-in-Value : goal.values::argument-returns-in_ok-value-in-Value
argument-returns-in_ok-value-in-Value t c = value_handed
    (scope_of c.args.level.now) c.args.argument.now _ _ _ c.args.t c.args.x c.gives_byte.result c.literal.result
    c.fitting.result c.fitting.new.out c.value.new.out c.args.out.now c.in-Value.is c.in_ok-value-in-Value.ensures
    c.gives_byte.ensures c.literal.ensures c.fitting.ensures

pub argument-returns-in-Routine : goal.values::argument-returns-in-Routine
unfolding argument_of
argument-returns-in-Routine t c = subst (λ (y : Argument). OnOk c.routine_value.result
    (c.routine_value.new.out ≡ c.args.out.now ++ argument_code (scope_of c.args.level.now)
    (argument_of y) c.args.t c.args.x)) (sym c.in-Routine.is) c.routine_value.ensures

pub argument-returns-in-Formal : goal.values::argument-returns-in-Formal
unfolding argument_of
argument-returns-in-Formal t c = subst (λ (y : Argument). OnOk c.formal.result
    (c.formal.new.out ≡ c.args.out.now ++ argument_code (scope_of c.args.level.now) (argument_of y) c.args.t c.args.x))
    (sym c.in-Formal.is) c.formal.ensures

pub argument-returns-in_ok-set-in-Set : goal.values::argument-returns-in_ok-set-in-Set
argument-returns-in_ok-set-in-Set t c = set_handed
    (scope_of c.args.level.now) c.args.argument.now _ _ _ _ c.args.t c.args.x c.hand_set.result c.hand_set.new.out
    c.set.new.out c.args.out.now c.in-Set.is c.in_ok-set-in-Set.ensures c.hand_set.ensures

pub argument-place-requires : goal.values::argument-place-requires
argument-place-requires t c =
    let e = variable_room (scope_of c.args.level.now) c.args.argument.now _ c.in-Variable.is in
    let r = c.requires in
    (search (rules, the_lemmas, get_or_read), omega (arith, e, r))

pub arguments-argument-requires : goal.values::arguments-argument-requires
arguments-argument-requires t c = (
  search (rules, the_lemmas, get_or_read),
  (handing_one (scope_of c.args.level.now) c.args.arguments.now c.loop-one.one-index c.loop-one.depth c.loop-one.scratch
      c.held-t.result c.one-item.result c.loop-one-test.true c.one-item.is c.loop-one.invariant.1
      c.held-t.ensures.small).0,
)

pub arguments-scratch_end-scratch-requires : goal.values::arguments-scratch_end-scratch-requires
arguments-scratch_end-scratch-requires t c =
    (handing_one (scope_of c.args.level.now) c.args.arguments.now c.loop-one.one-index c.loop-one.depth
    c.loop-one.scratch c.held-t.result c.one-item.result c.loop-one-test.true c.one-item.is c.loop-one.invariant.1
    c.held-t.ensures.small).1

pub structure-place-requires : goal.values::structure-place-requires
structure-place-requires t c =
    let e = contents_room (scope_of c.args.level.now) c.args.e.now _ _ c.deref.result.now c.in-Contents.is
    c.deref.ensures
    in
    let r = c.requires in
    (search (rules, the_lemmas, get_or_read), omega (arith, e, r))

pub element-value-requires : goal.values::element-value-requires
element-value-requires t c =
    let h = c.even_above-at.ensures.small in
    let r = c.requires.depth in
    (search (rules, the_lemmas, get_or_read), omega (arith, h, r))
