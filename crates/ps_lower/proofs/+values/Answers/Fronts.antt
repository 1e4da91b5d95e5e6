-- The answers of front: the arms of an expression.

use Rattle.std.proofs.Common.{rules, arith, ◌≡◌, ◌+◌, ◌≤◌, [], ◌∷◌, ◌++◌, pos, OnOk, refl, sym, ap, subst, ◌∙◌, ⊎_elim}
use borrow.Author.Rules.{get_or_read}
use Rattle.ps_tree.specs.declared.tree.Argument.TheFolds.{the_lemmas}
use Rattle.ps_tree.specs.declared.tree.Expr.{Expr}
use Rattle.ps_tree.specs.declared.tree.Structure.{Structure}
use Rattle.ps_tree.specs.View.{place_of, expr_of, arithmetic_of, operands_of, structure_of, arguments_of, set_of}
use Rattle.tac_code.specs.declared.code.Instruction.TheVariants as i
use Rattle.tac_rt.specs.declared.run_time.RunTime.TheVariants.{CompareBytes}
use Rattle.ps_lower_code.specs.Scopes.{kept, held, beside, unless_known, helper}
use Rattle.ps_lower_code.specs.Statements.{expr_code}
use Rattle.ps_lower_code.specs.Values.{literal_of, truth_finish, is_byte, text_length, structure_code, arguments_end}
use Rattle.ps_lower_code.specs.Values.{asked_code}
use Rattle.ps_lower.specs.Levels.{scope_of, site_of}
use Rattle.ps_lower.specs.declared.depth.TheConstants.{MAX_NUMBER}
use Rattle.ps_lower.proofs.Placing.{load_told}
use Rattle.ps_lower.proofs.Arms.{load_is, plus_is, minus_is, not_is, apply_is, arithmetic_is, logic_is, compare_is}
use Rattle.ps_lower.proofs.Arms.{compare_pointers_is, arm, behind, sum_made, truth_made, pair_made}
use Rattle.ps_lower.proofs.Gathering.{compare_sets_is, in_is, compared_made, in_made}
use Rattle.ps_lower.proofs.Handing.{compare_strings_is, strings_made, call_is, call_made, call_formal_is}
use Rattle.ps_lower.proofs.Handing.{call_formal_made}
use Rattle.ps_lower.proofs.Appends.{and_then}
use Rattle.ps_lower.proofs.Chains.{steps_added, operands_added}
use Rattle.ps_lower.proofs.Weighing.{sum_room, truth_room, arguments_far}
use Rattle.ps_lower_bounds.specs.Weights.{place_weight, expr_weight, steps_weight, operands_weight, set_weight}
use Rattle.ps_lower_bounds.specs.Weights.{structure_weight, arguments_weight}
use Rattle.ps_lower.proofs.+values.Goals as goal

pub front-returns-in_ok-site-in-Load : goal.values::front-returns-in_ok-site-in-Load
front-returns-in_ok-site-in-Load t c =
    arm (scope_of c.args.level.now) c.args.e.now _ c.args.d c.args.x c.fetch.result c.fetch.new.out c.args.out.now
    (load_is _ _ _ c.in-Load.is c.deref.ensures)
    (load_told (scope_of c.args.level.now) (place_of c.deref.result.now) c.args.d c.args.x
    (site_of c.in_ok-site-in-Load.site) c.is_byte.result c.fetch.result c.fetch.new.out c.place.new.out
    c.args.out.now c.in_ok-site-in-Load.ensures.code c.in_ok-site-in-Load.ensures.site
    (c.is_byte.ensures ∙ ap (λ y. is_byte (place_of y)) (c.deref-in-Load.ensures ∙ sym c.deref.ensures))
    c.fetch.ensures)

pub front-returns-in_ok-value-in-Apply : goal.values::front-returns-in_ok-value-in-Apply
front-returns-in_ok-value-in-Apply t c =
    arm (scope_of c.args.level.now) c.args.e.now _ c.args.d c.args.x c.function.result c.function.new.out c.args.out.now
    (apply_is _ _ _ _ _ c.in-Apply.is c.deref-in-Apply.ensures)
    (behind c.function.result c.function.new.out c.value-in-Apply.new.out c.args.out.now _ _
    c.in_ok-value-in-Apply.ensures c.function.ensures)

pub front-returns-in_ok-go_on-in-Arithmetic : goal.values::front-returns-in_ok-go_on-in-Arithmetic
front-returns-in_ok-go_on-in-Arithmetic t c =
    arm (scope_of c.args.level.now) c.args.e.now _ c.args.d c.args.x c.moved.result c.moved.new.out c.args.out.now
    (arithmetic_is c.args.e.now c.in-Arithmetic.first c.in-Arithmetic.steps c.deref-in-Arithmetic-2.result.now
    c.deref-in-Arithmetic.result.now c.in-Arithmetic.is c.deref-in-Arithmetic-2.ensures
    c.deref-in-Arithmetic.ensures.value)
    (sum_made (scope_of c.args.level.now) (expr_of c.deref-in-Arithmetic-2.result.now)
    (arithmetic_of c.deref-in-Arithmetic.result.now) c.args.d c.args.x c.kept-sum.result c.moved.result
    c.moved.new.out c.go_on.new.out c.value-in-Arithmetic.new.out c.args.out.now
    (c.kept-sum.ensures.value ∙ ap (λ b. kept b c.args.d) c.steps_call.ensures)
    c.in_ok-value-in-Arithmetic.ensures
    (c.in_ok-go_on-in-Arithmetic.ensures ∙ ap (λ l. c.value-in-Arithmetic.new.out ++ steps_added
    (scope_of c.args.level.now) c.kept-sum.result c.args.x l)
    (c.deref-in-Arithmetic-3.ensures.value ∙ sym c.deref-in-Arithmetic.ensures.value))
    c.moved.ensures)

pub front-returns-in_ok-go_on_with-in-Logic : goal.values::front-returns-in_ok-go_on_with-in-Logic
front-returns-in_ok-go_on_with-in-Logic t c =
    arm (scope_of c.args.level.now) c.args.e.now _ c.args.d c.args.x c.moved-in-Logic.result c.moved-in-Logic.new.out
    c.args.out.now
    (logic_is c.args.e.now c.in-Logic.operator c.in-Logic.first c.in-Logic.rest c.deref-in-Logic-2.result.now
    c.deref-in-Logic.result.now c.in-Logic.is c.deref-in-Logic-2.ensures c.deref-in-Logic.ensures.value)
    (truth_made (scope_of c.args.level.now) c.in-Logic.operator (expr_of c.deref-in-Logic-2.result.now)
    (operands_of c.deref-in-Logic.result.now) c.args.d c.args.x c.kept-truth.result c.moved-in-Logic.result
    c.moved-in-Logic.new.out c.go_on_with.new.out c.truth_finish.new.out c.args.out.now
    (c.kept-truth.ensures.value ∙ ap (λ b. kept b c.args.d) c.operands_call.ensures)
    (and_then _ _ _ _ _ c.in_ok-front-in-Logic.ensures
    (c.in_ok-truth_finish-in-Logic.ensures ∙ ap (λ (y : Expr). c.front-in-Logic.new.out ++ truth_finish
    (expr_of y) c.kept-truth.result) (c.deref-in-Logic-3.ensures ∙ sym c.deref-in-Logic-2.ensures)))
    (c.in_ok-go_on_with-in-Logic.ensures ∙ ap (λ l. c.truth_finish.new.out ++ operands_added
    (scope_of c.args.level.now) c.in-Logic.operator c.kept-truth.result c.args.x l)
    (c.deref-in-Logic-4.ensures.value ∙ sym c.deref-in-Logic.ensures.value))
    c.moved-in-Logic.ensures)

pub front-returns-in_ok-value-in-Compare : goal.values::front-returns-in_ok-value-in-Compare
front-returns-in_ok-value-in-Compare t c =
    let made =
    pair_made (scope_of c.args.level.now) (expr_of c.deref-in-Compare-2.result.now)
    (expr_of c.deref-in-Compare.result.now) c.args.d c.args.x c.kept-held.result c.even_above.result
    c.unless_known.result c.unless_known.new.out c.value-in-Compare.new.out c.args.out.now
    (c.kept-held.ensures.value ∙ ap (λ b. kept b c.args.d) c.expr_calls.ensures) c.even_above.ensures.value
    c.in_ok-value-in-Compare.ensures
    (subst (λ (y : Expr). OnOk c.unless_known.result
    (c.unless_known.new.out ≡ c.value-in-Compare.new.out ++ unless_known (literal_of (expr_of y))
    (expr_code (scope_of c.args.level.now) (expr_of y) c.even_above.result c.args.x)))
    (c.deref-in-Compare-3.ensures ∙ sym c.deref-in-Compare.ensures) c.unless_known.ensures)
    in
    ⊎_elim
    (λ w. arm (scope_of c.args.level.now) c.args.e.now _ c.args.d c.args.x c.unless_known.result c.unless_known.new.out
    c.args.out.now (compare_is c.args.e.now w.0 c.in-Compare.left c.deref-in-Compare-2.result.now c.in-Compare.right
    c.deref-in-Compare.result.now w.1 c.deref-in-Compare-2.ensures c.deref-in-Compare.ensures) made)
    (λ w. arm (scope_of c.args.level.now) c.args.e.now _ c.args.d c.args.x c.unless_known.result c.unless_known.new.out
    c.args.out.now (compare_pointers_is c.args.e.now w.0 c.in-Compare.left c.deref-in-Compare-2.result.now
    c.in-Compare.right c.deref-in-Compare.result.now w.1 c.deref-in-Compare-2.ensures c.deref-in-Compare.ensures)
    made)
    c.in-Compare.is

pub front-returns-in_ok-structure-in-CompareStrings-2 : goal.values::front-returns-in_ok-structure-in-CompareStrings-2
front-returns-in_ok-structure-in-CompareStrings-2 t c =
    arm (scope_of c.args.level.now) c.args.e.now _ c.args.d c.args.x c.compare_strings.result c.compare_strings.new.out
    c.args.out.now
    (compare_strings_is c.args.e.now c.in-CompareStrings.relation c.in-CompareStrings.left
    c.deref-in-CompareStrings-2.result.now c.in-CompareStrings.right c.deref-in-CompareStrings.result.now
    c.in-CompareStrings.is c.deref-in-CompareStrings-2.ensures c.deref-in-CompareStrings.ensures)
    (strings_made (scope_of c.args.level.now) c.in-CompareStrings.relation
    (structure_of c.deref-in-CompareStrings-2.result.now)
    (structure_of c.deref-in-CompareStrings.result.now) c.args.d c.args.x c.held-first.result
    c.even_above-second.result c.compare_strings.result c.compare_strings.new.out
    c.structure-in-CompareStrings.new.out c.structure.new.out c.args.out.now
    (c.held-first.ensures.value ∙ ap (λ b. held b c.args.d) c.structure_calls.ensures) c.even_above-second.ensures.value
    c.in_ok-structure-in-CompareStrings.ensures
    (c.in_ok-structure-in-CompareStrings-2.ensures
    ∙ ap (λ (y : Structure). c.structure.new.out ++ structure_code (scope_of c.args.level.now)
    (structure_of y) c.even_above-second.result c.args.x)
    (c.deref-in-CompareStrings-3.ensures ∙ sym c.deref-in-CompareStrings.ensures))
    (subst (λ (y : Structure). OnOk c.compare_strings.result
    (c.compare_strings.new.out ≡ c.structure-in-CompareStrings.new.out ++ i.Literal
    (beside c.even_above-second.result) (pos (text_length (structure_of y))) ∷ helper
    (scope_of c.args.level.now) CompareBytes (c.held-first.result ∷ c.even_above-second.result
    ∷ beside c.even_above-second.result ∷ []) c.args.d ∷ []))
    (c.deref-in-CompareStrings-4.ensures ∙ sym c.deref-in-CompareStrings-2.ensures) c.compare_strings.ensures))

pub front-returns-in_ok-arguments-in-Call : goal.values::front-returns-in_ok-arguments-in-Call
front-returns-in_ok-arguments-in-Call t c =
    arm (scope_of c.args.level.now) c.args.e.now _ c.args.d c.args.x c.call.result c.call.new.out c.args.out.now
    (call_is c.args.e.now c.in-Call.routine c.in-Call.up c.in-Call.actual c.in-Call.line c.deref-in-Call.result.now
    c.in-Call.is c.deref-in-Call.ensures.value)
    (call_made (scope_of c.args.level.now) c.deref-in-Call.result.now c.deref-in-Call-2.result.now c.in-Call.routine
    c.in-Call.up c.in-Call.line.number c.args.d c.args.x c.args.d c.call.result c.call.new.out c.arguments.new.out
    c.args.out.now (c.deref-in-Call-2.ensures.value ∙ sym c.deref-in-Call.ensures.value)
    c.in_ok-arguments-in-Call.ensures c.call.ensures)

pub front-returns-in_ok-arguments-in-CallFormal : goal.values::front-returns-in_ok-arguments-in-CallFormal
front-returns-in_ok-arguments-in-CallFormal t c =
    arm (scope_of c.args.level.now) c.args.e.now _ c.args.d c.args.x c.call_formal.result c.call_formal.new.out
    c.args.out.now
    (call_formal_is c.args.e.now c.in-CallFormal.up c.in-CallFormal.index c.in-CallFormal.actual c.in-CallFormal.line
    c.deref-in-CallFormal.result.now c.in-CallFormal.is c.deref-in-CallFormal.ensures.value)
    (call_formal_made (scope_of c.args.level.now) c.deref-in-CallFormal.result.now c.deref-in-CallFormal-2.result.now
    c.in-CallFormal.up c.in-CallFormal.index c.in-CallFormal.line.number c.args.d c.args.x c.args.d
    c.call_formal.result c.call_formal.new.out c.arguments-in-CallFormal.new.out c.args.out.now
    (c.deref-in-CallFormal-2.ensures.value ∙ sym c.deref-in-CallFormal.ensures.value)
    c.in_ok-arguments-in-CallFormal.ensures c.call_formal.ensures)

pub front-returns-in_ok-set-in-CompareSets-2 : goal.values::front-returns-in_ok-set-in-CompareSets-2
front-returns-in_ok-set-in-CompareSets-2 t c =
    arm (scope_of c.args.level.now) c.args.e.now _ c.args.d c.args.x c.compare_sets.result c.compare_sets.new.out
    c.args.out.now
    (compare_sets_is c.args.e.now c.in-CompareSets.relation c.in-CompareSets.left c.deref-in-CompareSets.result.now
    c.in-CompareSets.right c.deref-in-CompareSets-2.result.now c.in-CompareSets.is c.deref-in-CompareSets.ensures
    c.deref-in-CompareSets-2.ensures)
    (compared_made (scope_of c.args.level.now) c.in-CompareSets.relation (set_of c.deref-in-CompareSets.result.now)
    (set_of c.deref-in-CompareSets-2.result.now) c.args.d c.args.x c.even_from-t.result c.above-behind.result
    c.compare_sets.result c.compare_sets.new.out c.set-in-CompareSets.new.out c.set.new.out c.args.out.now
    c.even_from-t.ensures.value c.above-behind.ensures c.in_ok-set-in-CompareSets.ensures
    c.in_ok-set-in-CompareSets-2.ensures c.compare_sets.ensures)

pub front-returns-in_ok-asked-in-In : goal.values::front-returns-in_ok-asked-in-In
front-returns-in_ok-asked-in-In t c =
    arm (scope_of c.args.level.now) c.args.e.now _ c.args.d c.args.x c.is_member.result c.is_member.new.out
    c.args.out.now
    (in_is c.args.e.now c.in-In.left c.deref-in-In-2.result.now c.in-In.right c.deref-in-In.result.now c.in-In.is
    c.deref-in-In-2.ensures c.deref-in-In.ensures)
    (in_made (scope_of c.args.level.now) (expr_of c.deref-in-In-2.result.now)
    (set_of c.deref-in-In.result.now) c.args.d c.args.x c.kept-member.result c.even_above-t.result
    c.is_member.result c.is_member.new.out c.asked.new.out c.value-in-In.new.out c.args.out.now
    (c.kept-member.ensures.value ∙ ap (λ b. kept b c.args.d) c.asked_calls.ensures) c.even_above-t.ensures.value
    c.in_ok-value-in-In.ensures
    (c.in_ok-asked-in-In.ensures ∙ ap (λ y. c.value-in-In.new.out ++ asked_code (scope_of c.args.level.now)
    (set_of y) c.even_above-t.result c.args.x) (c.deref-in-In-3.ensures ∙ sym c.deref-in-In.ensures))
    c.is_member.ensures)

pub front-place-requires : goal.values::front-place-requires
front-place-requires t c =
    let e = ap (expr_weight (scope_of c.args.level.now)) (load_is _ _ _ c.in-Load.is c.deref.ensures) in
    let r = c.requires in
    let room : c.args.d + c.args.x + place_weight (scope_of c.args.level.now)
    (place_of c.deref.result.now) ≤ MAX_NUMBER = omega (arith, e, r) in
    search (rules, the_lemmas, get_or_read)

pub front-value-requires-in-Arithmetic : goal.values::front-value-requires-in-Arithmetic
front-value-requires-in-Arithmetic t c =
    let e = ap (expr_weight (scope_of c.args.level.now))
    (arithmetic_is c.args.e.now c.in-Arithmetic.first c.in-Arithmetic.steps c.deref-in-Arithmetic-2.result.now
    c.deref-in-Arithmetic.result.now c.in-Arithmetic.is c.deref-in-Arithmetic-2.ensures
    c.deref-in-Arithmetic.ensures.value) in
    let s = sum_room (arithmetic_of c.deref-in-Arithmetic.result.now) c.args.d c.kept-sum.result
    (c.kept-sum.ensures.value ∙ ap (λ b. kept b c.args.d) c.steps_call.ensures) in
    let r = c.requires in
    let room : c.kept-sum.result + c.args.x + expr_weight (scope_of c.args.level.now)
    (expr_of c.deref-in-Arithmetic-2.result.now) ≤ MAX_NUMBER = omega (arith, e, s, r) in
    search (rules, the_lemmas, get_or_read)

pub front-go_on-requires : goal.values::front-go_on-requires
front-go_on-requires t c =
    let e = ap (expr_weight (scope_of c.args.level.now))
    (arithmetic_is c.args.e.now c.in-Arithmetic.first c.in-Arithmetic.steps c.deref-in-Arithmetic-2.result.now
    c.deref-in-Arithmetic.result.now c.in-Arithmetic.is c.deref-in-Arithmetic-2.ensures
    c.deref-in-Arithmetic.ensures.value) in
    let s = c.kept-sum.ensures.small in
    let w = ap (λ l. steps_weight (scope_of c.args.level.now) (arithmetic_of l))
    (c.deref-in-Arithmetic-3.ensures.value ∙ sym c.deref-in-Arithmetic.ensures.value) in
    let r = c.requires in
    let room : c.kept-sum.result + c.args.x + steps_weight (scope_of c.args.level.now)
    (arithmetic_of c.deref-in-Arithmetic-3.result.now) ≤ MAX_NUMBER + 1 = omega (arith, e, s, w, r) in
    search (rules, the_lemmas, get_or_read)

pub front-front-requires-in-Logic : goal.values::front-front-requires-in-Logic
front-front-requires-in-Logic t c =
    let e = ap (expr_weight (scope_of c.args.level.now))
    (logic_is c.args.e.now c.in-Logic.operator c.in-Logic.first c.in-Logic.rest c.deref-in-Logic-2.result.now
    c.deref-in-Logic.result.now c.in-Logic.is c.deref-in-Logic-2.ensures c.deref-in-Logic.ensures.value) in
    let s = truth_room (operands_of c.deref-in-Logic.result.now) c.args.d c.kept-truth.result
    (c.kept-truth.ensures.value ∙ ap (λ b. kept b c.args.d) c.operands_call.ensures) in
    let r = c.requires in
    let room : c.kept-truth.result + c.args.x + expr_weight (scope_of c.args.level.now)
    (expr_of c.deref-in-Logic-2.result.now) ≤ MAX_NUMBER = omega (arith, e, s, r) in
    search (rules, the_lemmas, get_or_read)

pub front-go_on_with-requires : goal.values::front-go_on_with-requires
front-go_on_with-requires t c =
    let e = ap (expr_weight (scope_of c.args.level.now))
    (logic_is c.args.e.now c.in-Logic.operator c.in-Logic.first c.in-Logic.rest c.deref-in-Logic-2.result.now
    c.deref-in-Logic.result.now c.in-Logic.is c.deref-in-Logic-2.ensures c.deref-in-Logic.ensures.value) in
    let s = c.kept-truth.ensures.small in
    let w = ap (λ l. operands_weight (scope_of c.args.level.now) (operands_of l))
    (c.deref-in-Logic-4.ensures.value ∙ sym c.deref-in-Logic.ensures.value) in
    let r = c.requires in
    let room : c.kept-truth.result + c.args.x + operands_weight (scope_of c.args.level.now)
    (operands_of c.deref-in-Logic-4.result.now) ≤ MAX_NUMBER + 1 = omega (arith, e, s, w, r) in
    search (rules, the_lemmas, get_or_read)

pub front-value-requires : goal.values::front-value-requires
front-value-requires t c =
    let e = ap (expr_weight (scope_of c.args.level.now)) (plus_is _ _ _ c.in-Plus.is c.deref-in-Plus.ensures) in
    let r = c.requires in
    let room : c.args.d + c.args.x + expr_weight (scope_of c.args.level.now)
    (expr_of c.deref-in-Plus.result.now) ≤ MAX_NUMBER = omega (arith, e, r) in
    search (rules, the_lemmas, get_or_read)

pub front-minus-requires : goal.values::front-minus-requires
front-minus-requires t c =
    let e = ap (expr_weight (scope_of c.args.level.now)) (minus_is _ _ _ _ c.in-Minus.is c.deref-in-Minus.ensures) in
    let r = c.requires in
    let room : c.args.d + 8 + c.args.x + expr_weight (scope_of c.args.level.now)
    (expr_of c.deref-in-Minus.result.now) ≤ MAX_NUMBER = omega (arith, e, r) in
    search (rules, the_lemmas, get_or_read)

pub front-front-requires : goal.values::front-front-requires
front-front-requires t c =
    let e = ap (expr_weight (scope_of c.args.level.now)) (not_is _ _ _ c.in-Not.is c.deref-in-Not.ensures) in
    let r = c.requires in
    let room : c.args.d + c.args.x + expr_weight (scope_of c.args.level.now)
    (expr_of c.deref-in-Not.result.now) ≤ MAX_NUMBER = omega (arith, e, r) in
    search (rules, the_lemmas, get_or_read)

pub front-value-requires-in-Apply : goal.values::front-value-requires-in-Apply
front-value-requires-in-Apply t c =
    let e = ap (expr_weight (scope_of c.args.level.now)) (apply_is _ _ _ _ _ c.in-Apply.is c.deref-in-Apply.ensures) in
    let r = c.requires in
    let room : c.args.d + c.args.x + expr_weight (scope_of c.args.level.now)
    (expr_of c.deref-in-Apply.result.now) ≤ MAX_NUMBER = omega (arith, e, r) in
    search (rules, the_lemmas, get_or_read)

pub front-set-requires : goal.values::front-set-requires
front-set-requires t c =
    let e = ap (expr_weight (scope_of c.args.level.now))
    (compare_sets_is c.args.e.now c.in-CompareSets.relation c.in-CompareSets.left c.deref-in-CompareSets.result.now
    c.in-CompareSets.right c.in-CompareSets.right.value c.in-CompareSets.is c.deref-in-CompareSets.ensures refl) in
    let h0 = c.even_from-t.ensures.small in
    let r = c.requires in
    let room : c.even_from-t.result + c.args.x + set_weight (scope_of c.args.level.now)
    (set_of c.deref-in-CompareSets.result.now) ≤ MAX_NUMBER = omega (arith, e, h0, r) in
    search (rules, the_lemmas, get_or_read)

pub front-set-requires-in-CompareSets : goal.values::front-set-requires-in-CompareSets
front-set-requires-in-CompareSets t c =
    let e = ap (expr_weight (scope_of c.args.level.now))
    (compare_sets_is c.args.e.now c.in-CompareSets.relation c.in-CompareSets.left c.deref-in-CompareSets.result.now
    c.in-CompareSets.right c.deref-in-CompareSets-2.result.now c.in-CompareSets.is c.deref-in-CompareSets.ensures
    c.deref-in-CompareSets-2.ensures) in
    let h0 = c.even_from-t.ensures.small in
    let h1 = c.above-behind.ensures in
    let r = c.requires in
    let room : c.even_from-t.result + c.above-behind.result + set_weight (scope_of c.args.level.now)
    (set_of c.deref-in-CompareSets-2.result.now) ≤ MAX_NUMBER = omega (arith, e, h0, h1, r) in
    search (rules, the_lemmas, get_or_read)

pub front-value-requires-in-In : goal.values::front-value-requires-in-In
front-value-requires-in-In t c =
    let e = ap (expr_weight (scope_of c.args.level.now))
    (in_is c.args.e.now c.in-In.left c.deref-in-In-2.result.now c.in-In.right c.deref-in-In.result.now c.in-In.is
    c.deref-in-In-2.ensures c.deref-in-In.ensures) in
    let h0 = c.kept-member.ensures.small in
    let r = c.requires in
    let room : c.kept-member.result + c.args.x + expr_weight (scope_of c.args.level.now)
    (expr_of c.deref-in-In-2.result.now) ≤ MAX_NUMBER = omega (arith, e, h0, r) in
    search (rules, the_lemmas, get_or_read)

pub front-asked-requires : goal.values::front-asked-requires
front-asked-requires t c =
    let e = ap (expr_weight (scope_of c.args.level.now))
    (in_is c.args.e.now c.in-In.left c.deref-in-In-2.result.now c.in-In.right c.deref-in-In-3.result.now c.in-In.is
    c.deref-in-In-2.ensures c.deref-in-In-3.ensures) in
    let h0 = c.kept-member.ensures.small in
    let h1 = c.even_above-t.ensures.small in
    let r = c.requires in
    let room : c.even_above-t.result + c.args.x + set_weight (scope_of c.args.level.now)
    (set_of c.deref-in-In-3.result.now) ≤ MAX_NUMBER = omega (arith, e, h0, h1, r) in
    search (rules, the_lemmas, get_or_read)

pub front-structure-requires : goal.values::front-structure-requires
front-structure-requires t c =
    let e = ap (expr_weight (scope_of c.args.level.now))
    (compare_strings_is c.args.e.now c.in-CompareStrings.relation c.in-CompareStrings.left
    c.deref-in-CompareStrings-2.result.now c.in-CompareStrings.right c.deref-in-CompareStrings.result.now
    c.in-CompareStrings.is c.deref-in-CompareStrings-2.ensures c.deref-in-CompareStrings.ensures) in
    let h0 = c.held-first.ensures.small in
    let r = c.requires in
    let room : c.held-first.result + c.args.x + structure_weight (scope_of c.args.level.now)
    (structure_of c.deref-in-CompareStrings-2.result.now) ≤ MAX_NUMBER = omega (arith, e, h0, r) in
    search (rules, the_lemmas, get_or_read)

pub front-arguments-requires : goal.values::front-arguments-requires
front-arguments-requires t c =
    let e = ap (expr_weight (scope_of c.args.level.now))
    (call_is c.args.e.now c.in-Call.routine c.in-Call.up c.in-Call.actual c.in-Call.line c.deref-in-Call.result.now
    c.in-Call.is c.deref-in-Call.ensures.value) in
    let r = c.requires in
    let room : c.args.d + c.args.x + arguments_weight (scope_of c.args.level.now)
    (arguments_of c.deref-in-Call.result.now) ≤ MAX_NUMBER = omega (arith, e, r) in
    search (rules, the_lemmas, get_or_read)

pub front-call-requires : goal.values::front-call-requires
front-call-requires t c =
    let e = ap (expr_weight (scope_of c.args.level.now))
    (call_is c.args.e.now c.in-Call.routine c.in-Call.up c.in-Call.actual c.in-Call.line c.deref-in-Call.result.now
    c.in-Call.is c.deref-in-Call.ensures.value) in
    let a = arguments_far (scope_of c.args.level.now) (arguments_of c.deref-in-Call.result.now) c.args.d in
    let w = ap (λ l. arguments_end (arguments_of l) c.args.d)
    (c.deref-in-Call-2.ensures.value ∙ sym c.deref-in-Call.ensures.value) in
    let r = c.requires in
    omega (arith, e, a, w, r)

pub front-arguments-requires-in-CallFormal : goal.values::front-arguments-requires-in-CallFormal
front-arguments-requires-in-CallFormal t c =
    let e = ap (expr_weight (scope_of c.args.level.now))
    (call_formal_is c.args.e.now c.in-CallFormal.up c.in-CallFormal.index c.in-CallFormal.actual
    c.in-CallFormal.line c.deref-in-CallFormal.result.now c.in-CallFormal.is c.deref-in-CallFormal.ensures.value) in
    let r = c.requires in
    let room : c.args.d + c.args.x + arguments_weight (scope_of c.args.level.now)
    (arguments_of c.deref-in-CallFormal.result.now) ≤ MAX_NUMBER = omega (arith, e, r) in
    search (rules, the_lemmas, get_or_read)

pub front-call_formal-requires-clause-depth : goal.values::front-call_formal-requires-clause-depth
front-call_formal-requires-clause-depth t c =
    let e = ap (expr_weight (scope_of c.args.level.now))
    (call_formal_is c.args.e.now c.in-CallFormal.up c.in-CallFormal.index c.in-CallFormal.actual
    c.in-CallFormal.line c.deref-in-CallFormal.result.now c.in-CallFormal.is c.deref-in-CallFormal.ensures.value) in
    let a = arguments_far (scope_of c.args.level.now) (arguments_of c.deref-in-CallFormal.result.now) c.args.d in
    let w = ap (λ l. arguments_end (arguments_of l) c.args.d)
    (c.deref-in-CallFormal-2.ensures.value ∙ sym c.deref-in-CallFormal.ensures.value) in
    let r = c.requires in
    omega (arith, e, a, w, r)

pub front-even_above-second-requires : goal.values::front-even_above-second-requires
front-even_above-second-requires t c =
    let h = c.held-first.ensures.small in
    let r = c.requires in
    omega (arith, h, r)

pub front-even_above-t-requires : goal.values::front-even_above-t-requires
front-even_above-t-requires t c =
    let h = c.kept-member.ensures.small in
    let r = c.requires in
    omega (arith, h, r)

pub front-even_above-requires : goal.values::front-even_above-requires
front-even_above-requires t c =
    let h = c.kept-held.ensures.small in
    let r = c.requires in
    omega (arith, h, r)

pub front-compare_sets-requires-clause-depth : goal.values::front-compare_sets-requires-clause-depth
front-compare_sets-requires-clause-depth t c =
    let h = c.even_from-t.ensures.small in
    let r = c.requires in
    omega (arith, h, r)

pub front-compare_strings-requires-clause-depth : goal.values::front-compare_strings-requires-clause-depth
front-compare_strings-requires-clause-depth t c =
    let h = c.even_above-second.ensures.small in
    let k = c.held-first.ensures.small in
    let r = c.requires in
    omega (arith, h, k, r)
