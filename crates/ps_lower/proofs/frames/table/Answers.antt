use Rattle.std.proofs.Common.{◌+◌, ◌*◌, ◌≤◌, ◌++◌, ◌∙◌, ap, map, option_map, refl, subst, sym, arith}
use Rattle.ps_tree.specs.View.{type_of, formals_of, routine_of}
use Rattle.ps_lower_layout.specs.Frames.{result_kinds, kinds_of, listed_kinds, variable_kinds, words_of_all}
use Rattle.ps_lower.specs.Tables.{spots_from}
use Rattle.ps_lower.specs.declared.depth.TheConstants.{MAX_NUMBER}
use Rattle.ps_lower.proofs.Laying.{laid_all}
use Rattle.ps_lower.proofs.Limits.{parts_few}
use Rattle.ps_lower.proofs.frames.table.Goals as goal

pub returns : goal.returns
returns c =
    laid_all (routine_of c.args.routine.now) (result_kinds (option_map type_of c.args.routine.now.result))
    (listed_kinds (kinds_of (formals_of c.args.routine.now.formals.items)))
    (variable_kinds (map type_of c.args.routine.now.variables.items)) _ _ _ _ _ _ _
    refl c.new-spots.ensures.items c.in_ok-place.ensures.spots c.in_ok-place.ensures.place
    (c.in_ok-place-2.ensures.spots ∙ ap (λ l. c.add_result.new.spots.items ++ spots_from c.in_ok-place.place
    (listed_kinds (kinds_of (formals_of l)))) c.deref.ensures.value)
    (c.in_ok-place-2.ensures.place ∙ ap (λ l. c.in_ok-place.place + words_of_all
    (listed_kinds (kinds_of (formals_of l)))) c.deref.ensures.value)
    (c.in_ok-words.ensures.spots ∙ ap (λ l. c.add_formals.new.spots.items ++ spots_from c.in_ok-place-2.place
    (variable_kinds (map type_of l))) c.deref-2.ensures.value)
    (c.in_ok-words.ensures.place ∙ ap (λ l. c.in_ok-place-2.place + words_of_all (variable_kinds (map type_of l)))
    c.deref-2.ensures.value)

pub add_result-requires : goal.add_result-requires
add_result-requires c = let p = parts_few (routine_of c.args.routine.now) in let l = c.requires in omega (arith, p, l)

pub add_formals-requires : goal.add_formals-requires
add_formals-requires c =
    let p = parts_few (routine_of c.args.routine.now) in
    let l = c.requires in
    let e = c.in_ok-place.ensures.place in
    subst (λ l. 4 * (c.in_ok-place.place + words_of_all (listed_kinds (kinds_of (formals_of l)))) ≤ MAX_NUMBER)
    (sym c.deref.ensures.value) (omega (arith, p, l, e))

pub add_variables-requires : goal.add_variables-requires
add_variables-requires c =
    let p = parts_few (routine_of c.args.routine.now) in
    let l = c.requires in
    let e = c.in_ok-place.ensures.place in
    let f = c.in_ok-place-2.ensures.place ∙ ap (λ l. c.in_ok-place.place + words_of_all
    (listed_kinds (kinds_of (formals_of l)))) c.deref.ensures.value in
    subst (λ l. 4 * (c.in_ok-place-2.place + words_of_all (variable_kinds (map type_of l))) ≤ MAX_NUMBER)
    (sym c.deref-2.ensures.value) (omega (arith, p, l, e, f))
