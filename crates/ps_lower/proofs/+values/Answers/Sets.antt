-- The answers of sets, their members and their steps.

use Rattle.std.proofs.Common.{rules, arith, ◌++◌, sym, ap, subst, ◌∙◌}
use borrow.Author.Rules.{get_or_read}
use Rattle.ps_tree.specs.declared.tree.Argument.TheFolds.{the_lemmas}
use Rattle.ps_tree.specs.View.{place_of, expr_of, set_of, member_of, members_of}
use Rattle.ps_lower_code.specs.Scopes.{held, even_from}
use Rattle.ps_lower_code.proofs.Masks.{IsMember, known_small}
use Rattle.ps_lower_code.specs.Values.{literal_of, member_code}
use Rattle.ps_lower.specs.Levels.{scope_of, site_of}
use Rattle.ps_lower.proofs.Arms.{behind}
use Rattle.ps_lower.proofs.Gathering.{load_set_is, constructor_is, combine_is, set_arm, members_added, members_further}
use Rattle.ps_lower.proofs.Gathering.{one_known, one_worked, several_made, set_steps_added, set_step_added}
use Rattle.ps_lower.proofs.Gathering.{set_steps_further, step_adding, step_joined, load_set_made, asked_arm}
use Rattle.ps_lower.proofs.Gathering.{asked_load_made, constructor_made}
use Rattle.ps_lower.proofs.Appends.{added_next}
use Rattle.ps_lower.proofs.Weighing.{set_step_in, member_in}
use Rattle.ps_lower_bounds.specs.Weights.{set_weight}
use Rattle.ps_lower.proofs.+values.Goals as goal

pub asked-returns-in_ok-site-in-Load : goal.set_values::asked-returns-in_ok-site-in-Load
asked-returns-in_ok-site-in-Load t c =
    asked_arm (scope_of c.args.level.now) c.args.e.now _ c.args.t c.args.x c.address.result c.address.new.out
    c.args.out.now (load_set_is _ _ _ c.in-Load.is c.deref.ensures)
    (asked_load_made (scope_of c.args.level.now) (place_of c.deref.result.now) c.args.t c.args.x
    (site_of c.in_ok-site-in-Load.site) c.address.result c.address.new.out c.place.new.out c.args.out.now
    c.in_ok-site-in-Load.ensures.code c.in_ok-site-in-Load.ensures.site c.address.ensures)

pub set-returns-in_ok-site-in-Load : goal.set_values::set-returns-in_ok-site-in-Load
set-returns-in_ok-site-in-Load t c =
    set_arm (scope_of c.args.level.now) c.args.e.now _ c.args.d c.args.x c.copied_set.result c.copied_set.new.out
    c.args.out.now (load_set_is _ _ _ c.in-Load.is c.deref.ensures)
    (load_set_made (scope_of c.args.level.now) (place_of c.deref.result.now) c.args.d c.args.x
    (site_of c.in_ok-site-in-Load.site) c.copied_set.result c.copied_set.new.out c.place.new.out c.args.out.now
    c.in_ok-site-in-Load.ensures.code c.in_ok-site-in-Load.ensures.site c.copied_set.ensures)

pub set-returns-in_ok-clear-in-Constructor : goal.set_values::set-returns-in_ok-clear-in-Constructor
set-returns-in_ok-clear-in-Constructor t c =
    set_arm (scope_of c.args.level.now) c.args.e.now _ c.args.d c.args.x c.members.result c.members.new.out
    c.args.out.now (constructor_is _ _ _ c.in-Constructor.is c.deref-in-Constructor.ensures.value)
    (constructor_made (scope_of c.args.level.now)
    (members_of c.deref-in-Constructor.result.now) c.args.d c.args.x c.even_from.result c.members.result
    c.members.new.out c.clear.new.out c.args.out.now c.even_from.ensures.value c.in_ok-clear-in-Constructor.ensures
    c.members.ensures)

pub set-returns-in_ok-set-in-Combine : goal.set_values::set-returns-in_ok-set-in-Combine
set-returns-in_ok-set-in-Combine t c =
    set_arm (scope_of c.args.level.now) c.args.e.now _ c.args.d c.args.x c.combine.result c.combine.new.out
    c.args.out.now (combine_is _ _ _ _ _ c.in-Combine.is c.deref-in-Combine.ensures c.deref-in-Combine-2.ensures.value)
    (behind c.combine.result c.combine.new.out c.set.new.out c.args.out.now _ _ c.in_ok-set-in-Combine.ensures
    c.combine.ensures)

pub combine-loop-step-preserved : goal.set_values::combine-loop-step-preserved
combine-loop-step-preserved t c =
    added_next (set_steps_added (scope_of c.args.level.now) c.args.d c.args.x)
    (set_step_added (scope_of c.args.level.now) c.args.d c.args.x)
    (set_steps_further (scope_of c.args.level.now) c.args.d c.args.x) _ _ _ _ _ c.step-item.result c.loop-step-test.true
    c.loop-step.invariant
    (c.in_ok-join.ensures ∙ ap (λ s. c.loop-step.out ++ set_step_added (scope_of c.args.level.now) c.args.d c.args.x s)
    c.step-item.is)

pub join-returns-then-adds : goal.set_values::join-returns-then-adds
join-returns-then-adds t c = step_adding (scope_of c.args.level.now) c.args.operator
    (set_of c.args.e.now) c.args.d c.args.x c.adding.result c.adding.new.out c.args.out.now
    (sym c.adds.ensures ∙ c.if-adds.true) c.adding.ensures

pub join-returns : goal.set_values::join-returns
join-returns t c =
    step_joined (scope_of c.args.level.now) c.args.operator
    (set_of c.args.e.now) c.args.d c.args.x c.even_from-t.result c.beside-second.result c.above-behind.result
    c.combined.result c.combined.new.out c.asked.new.out c.args.out.now
    (sym c.adds.ensures ∙ c.if-adds.false) c.even_from-t.ensures.value c.beside-second.ensures.value
    c.above-behind.ensures c.in_ok-asked.ensures c.combined.ensures

pub members-loop-one-preserved : goal.set_values::members-loop-one-preserved
members-loop-one-preserved t c =
    added_next (members_added (scope_of c.args.level.now) c.args.d c.args.x)
    (λ m. member_code (scope_of c.args.level.now) (member_of m) c.args.d c.args.x)
    (members_further (scope_of c.args.level.now) c.args.d c.args.x) _ _ _ _ _ c.one-item.result c.loop-one-test.true
    c.loop-one.invariant
    (c.in_ok-member.ensures ∙ ap (λ m. c.loop-one.out ++ member_code (scope_of c.args.level.now)
    (member_of m) c.args.d c.args.x) c.one-item.is)

pub one_member-returns-in-Some : goal.set_values::one_member-returns-in-Some
one_member-returns-in-Some t c =
    one_known (scope_of c.args.level.now) (expr_of c.args.e.now) c.args.line.number c.args.d c.args.x
    c.even_from-t.result c.in-Some.number c.add_bit.result c.add_bit.new.out c.args.out.now
    (sym c.in-Some.is ∙ c.known_member.ensures) c.even_from-t.ensures.value c.add_bit.ensures

pub one_member-returns-in_ok-value-in-None : goal.set_values::one_member-returns-in_ok-value-in-None
one_member-returns-in_ok-value-in-None t c =
    one_worked (scope_of c.args.level.now) (expr_of c.args.e.now) c.args.line.number c.args.d c.args.x
    c.even_from-t.result c.above-behind.result c.add_member.result c.add_member.new.out c.value.new.out c.args.out.now
    (sym c.in-None.is ∙ c.known_member.ensures) c.even_from-t.ensures.value c.above-behind.ensures
    c.in_ok-value-in-None.ensures c.add_member.ensures

pub member-returns-in_ok-value-in-Range-2 : goal.set_values::member-returns-in_ok-value-in-Range-2
member-returns-in_ok-value-in-Range-2 t c =
    several_made (scope_of c.args.level.now) c.args.one.now _ _ _ c.args.d c.args.x c.held-first.result
    c.even_above-last.result c.above-behind.result c.add_members.result c.add_members.new.out
    c.value-in-Range.new.out c.value.new.out c.args.out.now
    c.in-Range.is (c.held-first.ensures.value ∙ ap (λ b. held b c.args.d) c.expr_calls.ensures)
    c.even_above-last.ensures.value c.above-behind.ensures c.in_ok-value-in-Range.ensures
    c.in_ok-value-in-Range-2.ensures c.add_members.ensures

pub combine-join-requires : goal.set_values::combine-join-requires
combine-join-requires t c =
    let l = set_step_in (scope_of c.args.level.now) c.args.steps.now c.loop-step.step-index c.step-item.result
    c.loop-step-test.true c.step-item.is in
    let r = c.requires in
    (search (rules, the_lemmas, get_or_read), omega (arith, l, r))

pub join-asked-requires : goal.set_values::join-asked-requires
join-asked-requires t c =
    let h = c.even_from-t.ensures.small in
    let s = c.beside-second.ensures.small in
    let b = c.above-behind.ensures in
    let r = c.requires in
    (search (rules, the_lemmas, get_or_read), omega (arith, h, s, b, r))

pub members-member-requires : goal.set_values::members-member-requires
members-member-requires t c =
    let l = member_in (scope_of c.args.level.now) c.args.list.now c.loop-one.one-index c.one-item.result
    c.loop-one-test.true c.one-item.is in
    let r = c.requires in
    (search (rules, the_lemmas, get_or_read), omega (arith, l, r))

pub set-place-requires : goal.set_values::set-place-requires
set-place-requires t c =
    let e = ap (set_weight (scope_of c.args.level.now)) (load_set_is _ _ _ c.in-Load.is c.deref.ensures) in
    let r = c.requires in
    (search (rules, the_lemmas, get_or_read), omega (arith, e, r))

pub asked-place-requires : goal.set_values::asked-place-requires
asked-place-requires t c =
    let e = ap (set_weight (scope_of c.args.level.now)) (load_set_is _ _ _ c.in-Load.is c.deref.ensures) in
    let r = c.requires in
    (search (rules, the_lemmas, get_or_read), omega (arith, e, r))

pub set-members-requires : goal.set_values::set-members-requires
set-members-requires t c =
    let e = ap (set_weight (scope_of c.args.level.now))
    (constructor_is _ _ _ c.in-Constructor.is c.deref-in-Constructor.ensures.value) in
    let r = c.requires in
    (search (rules, the_lemmas, get_or_read), omega (arith, e, r))

pub set-combine-requires : goal.set_values::set-combine-requires
set-combine-requires t c =
    let e = ap (set_weight (scope_of c.args.level.now))
    (combine_is _ _ _ _ _ c.in-Combine.is c.deref-in-Combine.ensures c.deref-in-Combine-2.ensures.value) in
    let r = c.requires in
    (search (rules, the_lemmas, get_or_read), omega (arith, e, r))

pub one_member-add_bit-requires-clause-number : goal.set_values::one_member-add_bit-requires-clause-number
one_member-add_bit-requires-clause-number t c =
    let s = subst IsMember (sym c.known_member.ensures ∙ c.in-Some.is) (known_small (literal_of (expr_of c.args.e.now)))
    in
    omega (arith, s)

pub member-even_above-last-requires : goal.set_values::member-even_above-last-requires
member-even_above-last-requires t c =
    let h = c.held-first.ensures.small in
    let r = c.requires in
    omega (arith, h, r)

pub one_member-add_member-requires : goal.set_values::one_member-add_member-requires
one_member-add_member-requires t c =
    let h = c.even_from-t.ensures.small in
    let r = c.requires in
    omega (arith, h, r)

pub member-add_members-requires : goal.set_values::member-add_members-requires
member-add_members-requires t c =
    let h = c.even_above-last.ensures.small in
    let k = c.held-first.ensures.small in
    let r = c.requires in
    omega (arith, h, k, r)
