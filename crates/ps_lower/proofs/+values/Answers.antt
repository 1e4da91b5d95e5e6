mod Fronts
mod Sets
mod Actuals
mod Chains
use Rattle.std.proofs.Common.{rules, arith, ap, ◌∙◌}
use borrow.Author.Rules.{get_or_read}
use Rattle.ps_tree.specs.declared.tree.Argument.TheFolds.{the_lemmas}
use Rattle.ps_lower_code.specs.Values.{element_site}
use Rattle.ps_lower.specs.Levels.{scope_of, site_of}
use Rattle.ps_lower.proofs.Selecting.{led_code, led_site}
use Rattle.ps_lower.proofs.Arms.{number_is, nil_is, plus_is, minus_is, not_is, arm, behind}
use Rattle.ps_lower.proofs.Actuals.{handed_all}
use Rattle.ps_lower.proofs.Gathering.{members_added, members_nothing, one_arm, set_steps_added, set_steps_nothing}
use Rattle.ps_lower.proofs.Looking.{eof_is, eoln_is}
use Rattle.ps_lower.proofs.Appends.{added_start, added_all}
use Rattle.ps_lower.proofs.Chains.{steps_added, steps_nothing, operands_added}
use Rattle.ps_lower.proofs.Weighing.{depth_near, depth_far, depth_farther, scratch_near, chain_far}
use Rattle.ps_lower.proofs.+values.Answers.Fronts as fronts
use Rattle.ps_lower.proofs.+values.Answers.Sets as sets
use Rattle.ps_lower.proofs.+values.Answers.Actuals as actuals
use Rattle.ps_lower.proofs.+values.Answers.Chains as chains
use Rattle.ps_lower.proofs.+values.Goals as goal

pub values::front-returns-in-Number : goal.values::front-returns-in-Number
values::front-returns-in-Number t c = arm (scope_of c.args.level.now) c.args.e.now _ c.args.d c.args.x c.number.result
    c.number.new.out c.args.out.now (number_is _ _ c.in-Number.is) c.number.ensures

pub values::front-returns-in-Nil : goal.values::front-returns-in-Nil
values::front-returns-in-Nil t c = arm (scope_of c.args.level.now) c.args.e.now _ c.args.d c.args.x c.literal.result
    c.literal.new.self c.args.out.now (nil_is _ c.in-Nil.is) c.literal.ensures

pub values::front-returns-in_ok-site-in-Load : goal.values::front-returns-in_ok-site-in-Load
values::front-returns-in_ok-site-in-Load = fronts.front-returns-in_ok-site-in-Load

pub values::front-returns-in-Plus : goal.values::front-returns-in-Plus
values::front-returns-in-Plus t c = arm (scope_of c.args.level.now) c.args.e.now _ c.args.d c.args.x c.value.result
    c.value.new.out c.args.out.now (plus_is _ _ _ c.in-Plus.is c.deref-in-Plus.ensures) c.value.ensures

pub values::front-returns-in-Minus : goal.values::front-returns-in-Minus
values::front-returns-in-Minus t c = arm (scope_of c.args.level.now) c.args.e.now _ c.args.d c.args.x c.minus.result
    c.minus.new.out c.args.out.now (minus_is _ _ _ _ c.in-Minus.is c.deref-in-Minus.ensures) c.minus.ensures

pub values::front-returns-in-Not : goal.values::front-returns-in-Not
values::front-returns-in-Not t c = arm (scope_of c.args.level.now) c.args.e.now _ c.args.d c.args.x c.front.result
    c.front.new.out c.args.out.now (not_is _ _ _ c.in-Not.is c.deref-in-Not.ensures) c.front.ensures

pub values::front-returns-in_ok-value-in-Apply : goal.values::front-returns-in_ok-value-in-Apply
values::front-returns-in_ok-value-in-Apply = fronts.front-returns-in_ok-value-in-Apply

pub values::go_on-loop-step-init : goal.values::go_on-loop-step-init
values::go_on-loop-step-init t c = added_start (steps_added (scope_of c.args.level.now) c.args.a c.args.x) _ _

pub values::go_on-returns : goal.values::go_on-returns
values::go_on-returns t c = added_all (steps_added (scope_of c.args.level.now) c.args.a c.args.x)
    (steps_nothing (scope_of c.args.level.now) c.args.a c.args.x) _ _ _ _ c.loop-step-test.false c.loop-step.invariant

pub values::go_on_with-loop-operand-init : goal.values::go_on_with-loop-operand-init
values::go_on_with-loop-operand-init t c = added_start
    (operands_added (scope_of c.args.level.now) c.args.operator c.args.a c.args.x) _ _

pub values::go_on_with-returns : goal.values::go_on_with-returns
values::go_on_with-returns = chains.go_on_with-returns

pub values::front-returns-in_ok-go_on-in-Arithmetic : goal.values::front-returns-in_ok-go_on-in-Arithmetic
values::front-returns-in_ok-go_on-in-Arithmetic = fronts.front-returns-in_ok-go_on-in-Arithmetic

pub values::front-returns-in_ok-go_on_with-in-Logic : goal.values::front-returns-in_ok-go_on_with-in-Logic
values::front-returns-in_ok-go_on_with-in-Logic = fronts.front-returns-in_ok-go_on_with-in-Logic

pub values::front-returns-in_ok-value-in-Compare : goal.values::front-returns-in_ok-value-in-Compare
values::front-returns-in_ok-value-in-Compare = fronts.front-returns-in_ok-value-in-Compare

pub values::go_on-loop-step-preserved : goal.values::go_on-loop-step-preserved
values::go_on-loop-step-preserved = chains.go_on-loop-step-preserved

pub values::go_on_with-loop-operand-preserved : goal.values::go_on_with-loop-operand-preserved
values::go_on_with-loop-operand-preserved = chains.go_on_with-loop-operand-preserved

pub values::value-returns : goal.values::value-returns
values::value-returns t c = behind c.finish.result c.finish.new.out c.front.new.out c.args.out.now _ _
    c.in_ok-front.ensures
    c.finish.ensures

pub values::place-returns-clause-code : goal.values::place-returns-clause-code
values::place-returns-clause-code = chains.place-returns-clause-code

pub values::place-returns-clause-site : goal.values::place-returns-clause-site
values::place-returns-clause-site = chains.place-returns-clause-site

pub values::along-loop-selector-init : goal.values::along-loop-selector-init
values::along-loop-selector-init = chains.along-loop-selector-init

pub values::along-loop-selector-preserved : goal.values::along-loop-selector-preserved
values::along-loop-selector-preserved = chains.along-loop-selector-preserved

pub values::along-returns-clause-code : goal.values::along-returns-clause-code
values::along-returns-clause-code t c = led_code (scope_of c.args.level.now) c.args.t c.args.x _ _ _ _ _ _
    c.loop-selector-test.false c.loop-selector.invariant.0

pub values::along-returns-clause-site : goal.values::along-returns-clause-site
values::along-returns-clause-site t c = led_site (scope_of c.args.level.now) c.args.t c.args.x _ _ _ _ _ _
    c.loop-selector-test.false c.loop-selector.invariant.0

pub values::select-returns-in-Element-clause-code : goal.values::select-returns-in-Element-clause-code
values::select-returns-in-Element-clause-code = chains.select-returns-in-Element-clause-code

pub values::select-returns-in-Element-clause-site : goal.values::select-returns-in-Element-clause-site
values::select-returns-in-Element-clause-site = chains.select-returns-in-Element-clause-site

pub values::select-returns-in-Target-clause-code : goal.values::select-returns-in-Target-clause-code
values::select-returns-in-Target-clause-code = chains.select-returns-in-Target-clause-code

pub values::select-returns-in-Target-clause-site : goal.values::select-returns-in-Target-clause-site
values::select-returns-in-Target-clause-site = chains.select-returns-in-Target-clause-site

pub values::select-returns-in-Field-clause-code : goal.values::select-returns-in-Field-clause-code
values::select-returns-in-Field-clause-code = chains.select-returns-in-Field-clause-code

pub values::select-returns-in-Field-clause-site : goal.values::select-returns-in-Field-clause-site
values::select-returns-in-Field-clause-site = chains.select-returns-in-Field-clause-site

pub values::element-returns-in-Some-clause-code : goal.values::element-returns-in-Some-clause-code
values::element-returns-in-Some-clause-code = actuals.element-returns-in-Some-clause-code

pub values::element-returns-in-Some-clause-site : goal.values::element-returns-in-Some-clause-site
values::element-returns-in-Some-clause-site t c = c.behind.ensures
    ∙ ap (λ o. element_site o (site_of c.args.site) c.args.room.first) c.in-Some.ensures

pub values::element-returns-in_ok-value-in-None-clause-code :
    goal.values::element-returns-in_ok-value-in-None-clause-code
values::element-returns-in_ok-value-in-None-clause-code = actuals.element-returns-in_ok-value-in-None-clause-code

pub values::element-returns-in_ok-value-in-None-clause-site :
    goal.values::element-returns-in_ok-value-in-None-clause-site
values::element-returns-in_ok-value-in-None-clause-site = actuals.element-returns-in_ok-value-in-None-clause-site

pub values::unless_known-returns-in-Some : goal.values::unless_known-returns-in-Some
values::unless_known-returns-in-Some = chains.unless_known-returns-in-Some

pub values::unless_known-returns-in-None : goal.values::unless_known-returns-in-None
values::unless_known-returns-in-None = chains.unless_known-returns-in-None

pub values::minus-returns-in_ok-literal-in-None : goal.values::minus-returns-in_ok-literal-in-None
values::minus-returns-in_ok-literal-in-None = chains.minus-returns-in_ok-literal-in-None

pub values::structure-returns-in_ok-site-in-Contents : goal.values::structure-returns-in_ok-site-in-Contents
values::structure-returns-in_ok-site-in-Contents = actuals.structure-returns-in_ok-site-in-Contents

pub values::front-returns-in_ok-structure-in-CompareStrings-2 :
    goal.values::front-returns-in_ok-structure-in-CompareStrings-2
values::front-returns-in_ok-structure-in-CompareStrings-2 = fronts.front-returns-in_ok-structure-in-CompareStrings-2

pub values::front-returns-in_ok-arguments-in-Call : goal.values::front-returns-in_ok-arguments-in-Call
values::front-returns-in_ok-arguments-in-Call = fronts.front-returns-in_ok-arguments-in-Call

pub values::front-returns-in_ok-arguments-in-CallFormal : goal.values::front-returns-in_ok-arguments-in-CallFormal
values::front-returns-in_ok-arguments-in-CallFormal = fronts.front-returns-in_ok-arguments-in-CallFormal

pub values::front-returns-in-Eof : goal.values::front-returns-in-Eof
values::front-returns-in-Eof t c = arm (scope_of c.args.level.now) c.args.e.now _ c.args.d c.args.x c.look_ahead.result
    c.look_ahead.new.out c.args.out.now (eof_is _ c.in-Eof.is) c.look_ahead.ensures

pub values::front-returns-in-Eoln : goal.values::front-returns-in-Eoln
values::front-returns-in-Eoln t c = arm (scope_of c.args.level.now) c.args.e.now _ c.args.d c.args.x c.look_on.result
    c.look_on.new.out c.args.out.now (eoln_is _ _ c.in-Eoln.is) c.look_on.ensures

pub values::arguments-loop-one-init : goal.values::arguments-loop-one-init
values::arguments-loop-one-init = actuals.arguments-loop-one-init

pub values::arguments-loop-one-preserved : goal.values::arguments-loop-one-preserved
values::arguments-loop-one-preserved = actuals.arguments-loop-one-preserved

pub values::arguments-returns : goal.values::arguments-returns
values::arguments-returns t c = handed_all (scope_of c.args.level.now) _ _ _ _ _ _ _ _ _ c.loop-one-test.false
    c.loop-one.invariant.0

pub values::argument-returns-in_ok-site-in-Variable : goal.values::argument-returns-in_ok-site-in-Variable
values::argument-returns-in_ok-site-in-Variable = actuals.argument-returns-in_ok-site-in-Variable

pub values::argument-returns-in_ok-value-in-Value : goal.values::argument-returns-in_ok-value-in-Value
values::argument-returns-in_ok-value-in-Value = actuals.argument-returns-in_ok-value-in-Value

pub values::argument-returns-in-Routine : goal.values::argument-returns-in-Routine
values::argument-returns-in-Routine = actuals.argument-returns-in-Routine

pub values::argument-returns-in-Formal : goal.values::argument-returns-in-Formal
values::argument-returns-in-Formal = actuals.argument-returns-in-Formal

pub values::argument-returns-in_ok-set-in-Set : goal.values::argument-returns-in_ok-set-in-Set
values::argument-returns-in_ok-set-in-Set = actuals.argument-returns-in_ok-set-in-Set

pub values::front-returns-in_ok-set-in-CompareSets-2 : goal.values::front-returns-in_ok-set-in-CompareSets-2
values::front-returns-in_ok-set-in-CompareSets-2 = fronts.front-returns-in_ok-set-in-CompareSets-2

pub values::front-returns-in_ok-asked-in-In : goal.values::front-returns-in_ok-asked-in-In
values::front-returns-in_ok-asked-in-In = fronts.front-returns-in_ok-asked-in-In

pub set_values::asked-returns-in_ok-site-in-Load : goal.set_values::asked-returns-in_ok-site-in-Load
set_values::asked-returns-in_ok-site-in-Load = sets.asked-returns-in_ok-site-in-Load

pub set_values::set-returns-in_ok-site-in-Load : goal.set_values::set-returns-in_ok-site-in-Load
set_values::set-returns-in_ok-site-in-Load = sets.set-returns-in_ok-site-in-Load

pub set_values::set-returns-in_ok-clear-in-Constructor : goal.set_values::set-returns-in_ok-clear-in-Constructor
set_values::set-returns-in_ok-clear-in-Constructor = sets.set-returns-in_ok-clear-in-Constructor

pub set_values::set-returns-in_ok-set-in-Combine : goal.set_values::set-returns-in_ok-set-in-Combine
set_values::set-returns-in_ok-set-in-Combine = sets.set-returns-in_ok-set-in-Combine

pub set_values::combine-loop-step-init : goal.set_values::combine-loop-step-init
set_values::combine-loop-step-init t c = added_start (set_steps_added (scope_of c.args.level.now) c.args.d c.args.x) _ _

pub set_values::combine-loop-step-preserved : goal.set_values::combine-loop-step-preserved
set_values::combine-loop-step-preserved = sets.combine-loop-step-preserved

pub set_values::join-returns-then-adds : goal.set_values::join-returns-then-adds
set_values::join-returns-then-adds = sets.join-returns-then-adds

pub set_values::join-returns : goal.set_values::join-returns
set_values::join-returns = sets.join-returns

pub set_values::combine-returns : goal.set_values::combine-returns
set_values::combine-returns t c = added_all (set_steps_added (scope_of c.args.level.now) c.args.d c.args.x)
    (set_steps_nothing (scope_of c.args.level.now) c.args.d c.args.x) _ _ _ _ c.loop-step-test.false
    c.loop-step.invariant

pub set_values::members-loop-one-init : goal.set_values::members-loop-one-init
set_values::members-loop-one-init t c = added_start (members_added (scope_of c.args.level.now) c.args.d c.args.x) _ _

pub set_values::members-loop-one-preserved : goal.set_values::members-loop-one-preserved
set_values::members-loop-one-preserved = sets.members-loop-one-preserved

pub set_values::members-returns : goal.set_values::members-returns
set_values::members-returns t c = added_all (members_added (scope_of c.args.level.now) c.args.d c.args.x)
    (members_nothing (scope_of c.args.level.now) c.args.d c.args.x) _ _ _ _ c.loop-one-test.false c.loop-one.invariant

pub set_values::member-returns-in-One : goal.set_values::member-returns-in-One
set_values::member-returns-in-One t c = one_arm
    (scope_of c.args.level.now) c.args.one.now _ _ c.args.d c.args.x c.one_member.result
    c.one_member.new.out c.args.out.now c.in-One.is c.one_member.ensures

pub set_values::one_member-returns-in-Some : goal.set_values::one_member-returns-in-Some
set_values::one_member-returns-in-Some = sets.one_member-returns-in-Some

pub set_values::one_member-returns-in_ok-value-in-None : goal.set_values::one_member-returns-in_ok-value-in-None
set_values::one_member-returns-in_ok-value-in-None = sets.one_member-returns-in_ok-value-in-None

pub set_values::member-returns-in_ok-value-in-Range-2 : goal.set_values::member-returns-in_ok-value-in-Range-2
set_values::member-returns-in_ok-value-in-Range-2 = sets.member-returns-in_ok-value-in-Range-2

pub values::along-select-requires : goal.values::along-select-requires
values::along-select-requires = chains.along-select-requires

pub values::argument-place-requires : goal.values::argument-place-requires
values::argument-place-requires = actuals.argument-place-requires

pub values::arguments-argument-requires : goal.values::arguments-argument-requires
values::arguments-argument-requires = actuals.arguments-argument-requires

pub values::arguments-scratch_end-scratch-requires : goal.values::arguments-scratch_end-scratch-requires
values::arguments-scratch_end-scratch-requires = actuals.arguments-scratch_end-scratch-requires

pub set_values::combine-join-requires : goal.set_values::combine-join-requires
set_values::combine-join-requires = sets.combine-join-requires

pub set_values::join-asked-requires : goal.set_values::join-asked-requires
set_values::join-asked-requires = sets.join-asked-requires

pub set_values::join-adding-requires : goal.set_values::join-adding-requires
set_values::join-adding-requires t c = let r = c.requires in (search (rules, the_lemmas, get_or_read), omega (arith, r))

pub set_values::adding-members-requires : goal.set_values::adding-members-requires
set_values::adding-members-requires = chains.adding-members-requires

pub values::front-place-requires : goal.values::front-place-requires
values::front-place-requires = fronts.front-place-requires

pub values::front-value-requires-in-Arithmetic : goal.values::front-value-requires-in-Arithmetic
values::front-value-requires-in-Arithmetic = fronts.front-value-requires-in-Arithmetic

pub values::front-go_on-requires : goal.values::front-go_on-requires
values::front-go_on-requires = fronts.front-go_on-requires

pub values::front-front-requires-in-Logic : goal.values::front-front-requires-in-Logic
values::front-front-requires-in-Logic = fronts.front-front-requires-in-Logic

pub values::front-go_on_with-requires : goal.values::front-go_on_with-requires
values::front-go_on_with-requires = fronts.front-go_on_with-requires

pub values::front-value-requires : goal.values::front-value-requires
values::front-value-requires = fronts.front-value-requires

pub values::front-minus-requires : goal.values::front-minus-requires
values::front-minus-requires = fronts.front-minus-requires

pub values::front-front-requires : goal.values::front-front-requires
values::front-front-requires = fronts.front-front-requires

pub values::front-value-requires-in-Apply : goal.values::front-value-requires-in-Apply
values::front-value-requires-in-Apply = fronts.front-value-requires-in-Apply

pub values::front-set-requires : goal.values::front-set-requires
values::front-set-requires = fronts.front-set-requires

pub values::front-set-requires-in-CompareSets : goal.values::front-set-requires-in-CompareSets
values::front-set-requires-in-CompareSets = fronts.front-set-requires-in-CompareSets

pub values::front-value-requires-in-In : goal.values::front-value-requires-in-In
values::front-value-requires-in-In = fronts.front-value-requires-in-In

pub values::front-asked-requires : goal.values::front-asked-requires
values::front-asked-requires = fronts.front-asked-requires

pub values::front-structure-requires : goal.values::front-structure-requires
values::front-structure-requires = fronts.front-structure-requires

pub values::front-arguments-requires : goal.values::front-arguments-requires
values::front-arguments-requires = fronts.front-arguments-requires

pub values::front-call-requires : goal.values::front-call-requires
values::front-call-requires = fronts.front-call-requires

pub values::front-arguments-requires-in-CallFormal : goal.values::front-arguments-requires-in-CallFormal
values::front-arguments-requires-in-CallFormal = fronts.front-arguments-requires-in-CallFormal

pub values::front-call_formal-requires-clause-depth : goal.values::front-call_formal-requires-clause-depth
values::front-call_formal-requires-clause-depth = fronts.front-call_formal-requires-clause-depth

pub values::go_on-unless_known-requires : goal.values::go_on-unless_known-requires
values::go_on-unless_known-requires = chains.go_on-unless_known-requires

pub values::go_on_with-front-requires : goal.values::go_on_with-front-requires
values::go_on_with-front-requires = chains.go_on_with-front-requires

pub values::go_on_with-truth_finish-requires : goal.values::go_on_with-truth_finish-requires
values::go_on_with-truth_finish-requires = chains.go_on_with-truth_finish-requires

pub set_values::members-member-requires : goal.set_values::members-member-requires
set_values::members-member-requires = sets.members-member-requires

pub set_values::set-place-requires : goal.set_values::set-place-requires
set_values::set-place-requires = sets.set-place-requires

pub set_values::asked-place-requires : goal.set_values::asked-place-requires
set_values::asked-place-requires = sets.asked-place-requires

pub set_values::set-members-requires : goal.set_values::set-members-requires
set_values::set-members-requires = sets.set-members-requires

pub set_values::set-combine-requires : goal.set_values::set-combine-requires
set_values::set-combine-requires = sets.set-combine-requires

pub values::structure-place-requires : goal.values::structure-place-requires
values::structure-place-requires = actuals.structure-place-requires

pub values::front-function-requires : goal.values::front-function-requires
values::front-function-requires t c = depth_near c.args.d c.args.x _ c.requires

pub values::front-look_ahead-requires : goal.values::front-look_ahead-requires
values::front-look_ahead-requires t c = depth_near c.args.d c.args.x _ c.requires

pub values::front-look_on-requires : goal.values::front-look_on-requires
values::front-look_on-requires t c = depth_near c.args.d c.args.x _ c.requires

pub values::value-finish-requires : goal.values::value-finish-requires
values::value-finish-requires t c = depth_near c.args.d c.args.x _ c.requires

pub set_values::set-copied_set-requires-clause-depth : goal.set_values::set-copied_set-requires-clause-depth
set_values::set-copied_set-requires-clause-depth t c = depth_near c.args.d c.args.x _ c.requires

pub set_values::set-copied_set-requires-clause-place : goal.set_values::set-copied_set-requires-clause-place
set_values::set-copied_set-requires-clause-place t c = scratch_near c.args.d c.args.x _ c.requires

pub values::front-held-first-requires : goal.values::front-held-first-requires
values::front-held-first-requires t c = depth_far c.args.d c.args.x _ c.requires

pub values::front-kept-member-requires : goal.values::front-kept-member-requires
values::front-kept-member-requires t c = depth_far c.args.d c.args.x _ c.requires

pub values::front-kept-held-requires : goal.values::front-kept-held-requires
values::front-kept-held-requires t c = depth_far c.args.d c.args.x _ c.requires

pub values::front-kept-sum-requires : goal.values::front-kept-sum-requires
values::front-kept-sum-requires t c = depth_far c.args.d c.args.x _ c.requires

pub values::front-kept-truth-requires : goal.values::front-kept-truth-requires
values::front-kept-truth-requires t c = depth_far c.args.d c.args.x _ c.requires

pub set_values::member-held-first-requires : goal.set_values::member-held-first-requires
set_values::member-held-first-requires t c = depth_far c.args.d c.args.x _ c.requires

pub values::place-place_temporary-t-requires : goal.values::place-place_temporary-t-requires
values::place-place_temporary-t-requires t c = depth_far c.args.d c.args.x _ c.requires

pub values::place-name-requires-clause-depth : goal.values::place-name-requires-clause-depth
values::place-name-requires-clause-depth t c =
    let l = depth_near c.args.d c.args.x _ c.requires in
    let s = c.place_temporary-t.ensures.small in
    omega (arith, l, s)

pub values::front-even_from-t-requires : goal.values::front-even_from-t-requires
values::front-even_from-t-requires t c = depth_farther c.args.d c.args.x _ c.requires

pub set_values::one_member-even_from-t-requires : goal.set_values::one_member-even_from-t-requires
set_values::one_member-even_from-t-requires t c = depth_farther c.args.d c.args.x _ c.requires

pub set_values::set-even_from-requires : goal.set_values::set-even_from-requires
set_values::set-even_from-requires t c = depth_farther c.args.d c.args.x _ c.requires

pub values::front-above-behind-requires : goal.values::front-above-behind-requires
values::front-above-behind-requires t c = scratch_near c.args.d c.args.x _ c.requires

pub set_values::one_member-above-behind-requires : goal.set_values::one_member-above-behind-requires
set_values::one_member-above-behind-requires t c = scratch_near c.args.d c.args.x _ c.requires

pub set_values::one_member-add_bit-requires-clause-number : goal.set_values::one_member-add_bit-requires-clause-number
set_values::one_member-add_bit-requires-clause-number = sets.one_member-add_bit-requires-clause-number

pub set_values::one_member-add_bit-requires-clause-place : goal.set_values::one_member-add_bit-requires-clause-place
set_values::one_member-add_bit-requires-clause-place t c = scratch_near c.args.d c.args.x _ c.requires

pub set_values::member-above-behind-requires : goal.set_values::member-above-behind-requires
set_values::member-above-behind-requires t c = scratch_near c.args.d c.args.x _ c.requires

pub values::go_on-even_above-t-requires : goal.values::go_on-even_above-t-requires
values::go_on-even_above-t-requires t c = chain_far c.args.a c.args.x _ c.requires

pub values::go_on_with-even_above-t-requires : goal.values::go_on_with-even_above-t-requires
values::go_on_with-even_above-t-requires t c = chain_far c.args.a c.args.x _ c.requires

pub values::value-front-requires : goal.values::value-front-requires
values::value-front-requires t c = (search (rules, the_lemmas, get_or_read), c.requires)

pub values::unless_known-value-requires : goal.values::unless_known-value-requires
values::unless_known-value-requires t c = (search (rules, the_lemmas, get_or_read), c.requires)

pub values::minus-value-requires : goal.values::minus-value-requires
values::minus-value-requires = chains.minus-value-requires

pub values::element-value-requires : goal.values::element-value-requires
values::element-value-requires = actuals.element-value-requires

pub values::element-known_steps-requires-clause-width : goal.values::element-known_steps-requires-clause-width
values::element-known_steps-requires-clause-width t c = c.requires.width

pub values::element-indexed-requires : goal.values::element-indexed-requires
values::element-indexed-requires t c = c.requires.width

pub set_values::set-clear-requires : goal.set_values::set-clear-requires
set_values::set-clear-requires t c = scratch_near c.args.d c.args.x _ c.requires

pub values::argument-hand_set-requires-clause-place : goal.values::argument-hand_set-requires-clause-place
values::argument-hand_set-requires-clause-place t c = scratch_near c.args.t c.args.x _ c.requires

pub values::front-compare_sets-requires-clause-place : goal.values::front-compare_sets-requires-clause-place
values::front-compare_sets-requires-clause-place t c = scratch_near c.args.d c.args.x _ c.requires

pub values::minus-even_above-t-requires : goal.values::minus-even_above-t-requires
values::minus-even_above-t-requires t c = let r = c.requires in omega (arith, r)

pub values::element-even_above-at-requires : goal.values::element-even_above-at-requires
values::element-even_above-at-requires t c = let r = c.requires.depth in omega (arith, r)

pub values::argument-hand_set-requires-clause-depth : goal.values::argument-hand_set-requires-clause-depth
values::argument-hand_set-requires-clause-depth t c = let r = c.requires in omega (arith, r)

pub values::argument-copied-requires-clause-depth : goal.values::argument-copied-requires-clause-depth
values::argument-copied-requires-clause-depth t c = let r = c.requires in omega (arith, r)

pub values::argument-routine_value-requires : goal.values::argument-routine_value-requires
values::argument-routine_value-requires t c = let r = c.requires in omega (arith, r)

pub values::argument-formal-requires-clause-depth : goal.values::argument-formal-requires-clause-depth
values::argument-formal-requires-clause-depth t c = let r = c.requires in omega (arith, r)

pub values::front-even_above-second-requires : goal.values::front-even_above-second-requires
values::front-even_above-second-requires = fronts.front-even_above-second-requires

pub values::front-even_above-t-requires : goal.values::front-even_above-t-requires
values::front-even_above-t-requires = fronts.front-even_above-t-requires

pub values::front-even_above-requires : goal.values::front-even_above-requires
values::front-even_above-requires = fronts.front-even_above-requires

pub values::front-compare_sets-requires-clause-depth : goal.values::front-compare_sets-requires-clause-depth
values::front-compare_sets-requires-clause-depth = fronts.front-compare_sets-requires-clause-depth

pub values::front-compare_strings-requires-clause-depth : goal.values::front-compare_strings-requires-clause-depth
values::front-compare_strings-requires-clause-depth = fronts.front-compare_strings-requires-clause-depth

pub set_values::member-even_above-last-requires : goal.set_values::member-even_above-last-requires
set_values::member-even_above-last-requires = sets.member-even_above-last-requires

pub set_values::one_member-add_member-requires : goal.set_values::one_member-add_member-requires
set_values::one_member-add_member-requires = sets.one_member-add_member-requires

pub set_values::member-add_members-requires : goal.set_values::member-add_members-requires
set_values::member-add_members-requires = sets.member-add_members-requires
