-- What the limits of a checked program say of its frames and objects.
use Rattle.std.proofs.Common.{◌≡◌, ℕ, zero, suc, ◌+◌, ◌*◌, ◌<◌, ◌≤◌, Bool, true, false, ◌&&◌, List, [], ◌∷◌, ◌++◌}
use Rattle.std.proofs.Common.{length, map, get_or, refl, subst, sym, ap, ◌∙◌, arith, leb-true}
use Rattle.std.proofs.lemmas.List.{get_or-map, length-map}
use Rattle.std.proofs.lemmas.Bool.{and_parts}
use Rattle.ps_tree.specs.Types.{DataType, PointerType}
use Rattle.ps_tree.specs.declared.types.Ty.{Ty}
use Rattle.ps_tree.specs.declared.tree.statements.Routine.{Routine}
use Rattle.ps_tree.specs.Sizes.{cells}
use Rattle.ps_tree.specs.Counts.{is_within_limits, are_routines_within_limits, is_routine_within_limits, are_small}
use Rattle.ps_tree.specs.Counts.{routine_extent}
use Rattle.ps_tree.specs.Checked.{Parts, program_in}
use Rattle.ps_tree.specs.Tree as t
use Rattle.ps_tree.specs.View.{type_of, routine_of}
use Rattle.ps_tree.specs.declared.limits.TheConstants.{MAX_ROUTINES}
use Rattle.ps_lower_layout.specs.Frames.{result_kinds, listed_kinds, kinds_of, variable_kinds, words_of_all, entries}
use Rattle.ps_lower_layout.specs.Frames.{layout_of}
use Rattle.ps_lower_code.specs.Programs.{object_bytes}
use Rattle.ps_lower_bounds.proofs.Cells.{words_cells, words_both, entries_words}
use Rattle.ps_lower_bounds.proofs.Offsets.{routine_limits, routines_part}
use Rattle.ps_lower_bounds.specs.Weights.{routine_weight, AreLight}
use Rattle.ps_lower.specs.declared.depth.TheConstants.{MAX_NUMBER}

-- ---- routines

words_few : (r : t.Routine) → is_routine_within_limits r ≡ true → words_of_all (entries r) ≤ 100000
unfolding routine_extent
words_few r e = let l = routine_limits r e in let few = l.0 in let w = entries_words r in omega (arith, few, w)

words_at : (list : List t.Routine) → are_routines_within_limits list ≡ true → (n : ℕ) → words_of_all
    (entries (get_or list n t.no_routine)) ≤ 100000
unfolding are_routines_within_limits
words_at [] e n = omega arith
words_at (r ∷ list) e zero = words_few r (and_parts _ _ e).0
words_at (r ∷ list) e (suc n) = words_at list (and_parts _ _ e).1 n

pub routines_keep : (program : t.Program) → is_within_limits program ≡ true
    → are_routines_within_limits program.routines ≡ true
routines_keep program e = routines_part program e

pub routines_few : (program : t.Program) → is_within_limits program ≡ true → length program.routines ≤ MAX_ROUTINES
unfolding is_within_limits
routines_few program e = leb-true (length program.routines) MAX_ROUTINES
    (and_parts _ _ (and_parts _ _ (and_parts _ _ e).0).0).0

pub input_few : (program : t.Program) → is_within_limits program ≡ true → (n : ℕ)
    → (layout_of (t.routine_at program n)).input ≤ 1000000
input_few program e n = let l = words_at program.routines (routines_part program e) n in omega (arith, l)

-- the entries of a routine as a loop has it
pub table_few : (items : List Routine) (i : ℕ) (r : Routine) → i < length items → r ≡ get_or items i r
    → are_routines_within_limits (map routine_of items) ≡ true → 4 *
    (1 + words_of_all (entries (routine_of r))) ≤ MAX_NUMBER
table_few items i r h e limits =
    let l = words_at (map routine_of items) limits i in
    let at : get_or (map routine_of items) i t.no_routine
    ≡ routine_of r = get_or-map routine_of items i r t.no_routine h ∙ ap routine_of (sym e) in
    let w = ap (λ x. words_of_all (entries x)) at in
    omega (arith, l, w)

-- a routine of a light program, as a loop has it
pub routine_light : (program : t.Program) (items : List Routine) (i : ℕ) (r : Routine) → program.routines
    ≡ map routine_of items → i < length items → r ≡ get_or items i r → AreLight program → routine_weight program
    (routine_of r) ≤ 1000000000
routine_light program items i r same h e light =
    let at : t.routine_at program i ≡ routine_of r = ap (λ l. get_or l i t.no_routine) same
    ∙ get_or-map routine_of items i r t.no_routine h ∙ ap routine_of (sym e) in
    let n : length program.routines ≡ length items = ap length same ∙ length-map items routine_of in
    subst (λ x. routine_weight program x ≤ 1000000000) at (light i (omega (arith, n, h)))

-- the parts of a frame, one after another
pub parts_few : (r : t.Routine) → words_of_all (entries r) ≡ words_of_all (result_kinds r.result) + words_of_all
    (listed_kinds (kinds_of r.formals)) + words_of_all (variable_kinds r.variables)
parts_few r =
    let a = words_both (result_kinds r.result ++ listed_kinds (kinds_of r.formals)) (variable_kinds r.variables) in
    let b = words_both (result_kinds r.result) (listed_kinds (kinds_of r.formals)) in
    omega (arith, a, b)

-- ---- objects

pub domains_keep : (program : t.Program) → is_within_limits program ≡ true → are_small program.domains ≡ true
unfolding is_within_limits
domains_keep program e = (and_parts _ _ (and_parts _ _ e).0).1

objects_at : (types : List DataType) → are_small types ≡ true → (n : ℕ) → object_bytes
    (get_or types n (PointerType 0)) ≤ 400000
unfolding are_small
objects_at [] e n = omega arith
objects_at (type ∷ types) e zero = let l = leb-true (cells type) 100000 (and_parts _ _ e).0 in let w = words_cells type
    in omega (arith, l, w)
objects_at (type ∷ types) e (suc n) = objects_at types (and_parts _ _ e).1 n

pub object_few : (items : List Ty) (i : ℕ) (ty : Ty) → i < length items → ty ≡ get_or items i ty → are_small
    (map type_of items) ≡ true → object_bytes (type_of ty) ≤ MAX_NUMBER
object_few items i ty h e limits =
    let l = objects_at (map type_of items) limits i in
    let at : get_or (map type_of items) i (PointerType 0) ≡ type_of ty = get_or-map type_of items i ty (PointerType 0) h
    ∙ ap type_of (sym e) in
    let w = ap object_bytes at in
    omega (arith, l, w)

-- the routines as a checked program has them
pub count_few : (parts : Parts) (rows : List Routine) → rows ≡ parts.routines → is_within_limits (program_in parts)
    ≡ true → length rows ≤ MAX_ROUTINES
count_few parts rows e limits =
    let l = routines_few (program_in parts) limits in
    let n : length (map routine_of parts.routines) ≡ length parts.routines = length-map parts.routines routine_of in
    let m = ap length e in
    omega (arith, l, n, m)
