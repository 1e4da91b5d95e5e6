use Rattle.std.proofs.Common.{◌+◌, ◌*◌, ◌≤◌, ◌++◌, List, OnOk, map, ap, subst, sym, ◌∙◌, ◌≡◌, arith}
use Rattle.ps_tree.specs.declared.types.Ty.{Ty}
use Rattle.ps_tree.specs.View.{type_of, formals_of, routine_of}
use Rattle.ps_lower_layout.specs.Frames.{kinds_of, listed_kinds, variable_kinds, words_of_all}
use Rattle.ps_lower.specs.Firsts.{firsts_code, parameters_at}
use Rattle.ps_lower.specs.Levels.{scope_of}
use Rattle.ps_lower.specs.declared.depth.TheConstants.{MAX_NUMBER}
use Rattle.ps_lower.proofs.Begins.{begin_made}
use Rattle.ps_lower.proofs.Limits.{parts_few}
use Rattle.ps_lower.proofs.routines.begin.Goals as goal

pub returns : goal.returns
returns c =
    begin_made (scope_of c.args.level.now) (routine_of c.args.routine.now) c.args.t c.in_ok-place.place
    c.in_ok-place-2.place c.firsts.result c.firsts.new.out c.parameters.new.out c.first_result.new.out
    c.head.new.out c.args.out.now
    c.requires.total c.in_ok-head.ensures c.in_ok-place.ensures.code c.in_ok-place.ensures.next
    (c.in_ok-place-2.ensures.code ∙ ap (λ l. c.first_result.new.out ++ parameters_at (scope_of c.args.level.now)
    (kinds_of (formals_of l)) 1 c.in_ok-place.place c.args.t) c.as_slice.ensures.value)
    (c.in_ok-place-2.ensures.next ∙ ap (λ l. c.in_ok-place.place + words_of_all
    (listed_kinds (kinds_of (formals_of l)))) c.as_slice.ensures.value)
    (subst (λ (l : List Ty). OnOk c.firsts.result
    (c.firsts.new.out ≡ c.parameters.new.out ++ firsts_code (scope_of c.args.level.now) c.args.t c.in_ok-place-2.place
    (map type_of l))) c.as_slice-2.ensures.value c.firsts.ensures)

pub parameters-requires-clause-words : goal.parameters-requires-clause-words
parameters-requires-clause-words c =
    let p = parts_few (routine_of c.args.routine.now) in
    let small = c.requires.small in
    let exact = c.requires.exact in
    let e = c.in_ok-place.ensures.next in
    subst (λ l. 4 * (c.in_ok-place.place + words_of_all (listed_kinds (kinds_of (formals_of l)))) ≤ MAX_NUMBER)
    (sym c.as_slice.ensures.value) (omega (arith, p, small, exact, e))

pub firsts-requires-clause-words : goal.firsts-requires-clause-words
firsts-requires-clause-words c =
    let p = parts_few (routine_of c.args.routine.now) in
    let small = c.requires.small in
    let exact = c.requires.exact in
    let e = c.in_ok-place.ensures.next in
    let f = c.in_ok-place-2.ensures.next ∙ ap (λ l. c.in_ok-place.place + words_of_all
    (listed_kinds (kinds_of (formals_of l)))) c.as_slice.ensures.value in
    subst (λ l. 4 * (c.in_ok-place-2.place + words_of_all (variable_kinds (map type_of l))) ≤ MAX_NUMBER)
    (sym c.as_slice-2.ensures.value) (omega (arith, p, small, exact, e, f))
