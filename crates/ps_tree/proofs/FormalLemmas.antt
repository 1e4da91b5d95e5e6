-- Formal parameters and variables: what they denote, and their extents.
use Rattle.std.proofs.Common.{◌≡◌, ℕ, suc, ◌+◌, ◌<◌, ◌≤◌, List, [], ◌∷◌, length, drop, get_or, Bool, true, false, ◌&&◌}
use Rattle.std.proofs.Common.{map, Option, option_map, Vec, Global, nat_le, IsTrue, zero, min, refl, sym, ap, ◌∙◌}
use Rattle.std.proofs.Common.{arith}
use Rattle.std.proofs.Math.Seq.{drop-cons}
use Rattle.std.proofs.lemmas.List.{drop_all, get_or-map, length-map}
use Rattle.std.proofs.lemmas.Bool.{leb-true, and_left}
use Rattle.ps_tree.proofs.Booleans.{and_first, and_second}
use Rattle.ps_tree.specs.Tree as Tree
use Rattle.ps_tree.specs.declared.count.Extent.{Extent}
use Rattle.ps_tree.specs.declared.types.Ty.{Ty}
use Rattle.ps_tree.specs.declared.tree.statements.Routine.{Routine as RoutineOf}
use Rattle.ps_tree.specs.declared.tree.statements.Formal.{Formal, Routine, Row_of-Formal, end_of-Formal, more_of-Formal}
use Rattle.ps_tree.specs.declared.tree.statements.Formal.{items-the_row-Formal, items_hidden-the_row-Formal-0}
use Rattle.ps_tree.specs.declared.tree.statements.Formal.TheBlock.{hidden-the_row-Formal-0}
use Rattle.ps_tree.specs.declared.tree.statements.Statement.{Statement}
use Rattle.ps_tree.specs.Counts.{◌⊕◌, nothing, capped, result_extent, statements_extent, copy_of, formals_extent}
use Rattle.ps_tree.specs.Counts.{formal_cells, variables_extent, are_small, is_small, is_small_result, is_short}
use Rattle.ps_tree.specs.Counts.{are_small_formals, is_small_formal, are_routines_within_limits}
use Rattle.ps_tree.specs.Counts.{is_routine_within_limits, is_within_limits, routine_extent, routine_cells}
use Rattle.ps_tree.specs.Counts.{routine_nodes}
use Rattle.ps_tree.specs.View.{type_of, formal_of, formals_of, formals_of_row, routine_of, statements_of, program_of}
use Rattle.ps_tree.specs.declared.limits.TheConstants.{MAX_CELLS, MAX_NODES, MAX_ROUTINES}

formals_row_is : {n : _} (k : Row_of-Formal n) → formals_of_row k ≡ formals_of (items-the_row-Formal n k)
unfolding formals_of_row formals_of
formals_row_is end_of-Formal = refl
formals_row_is (more_of-Formal f rest) = ap (Tree.formal_before (formal_of f)) (formals_row_is rest)

pub formal_of_Routine : (v : Vec Formal Global) (t : Option Ty) → formal_of (Routine v t) ≡ Tree.RoutineFormal
    (formals_of v.items) (option_map type_of t)
unfolding formal_of
formal_of_Routine v t = ap (λ l. Tree.RoutineFormal l (option_map type_of t))
    (formals_row_is (hidden-the_row-Formal-0 v) ∙ ap formals_of (items_hidden-the_row-Formal-0 v))

-- one formal parameter
abbrev pub formal_extent : Formal → Extent
formal_extent f = record { nodes = 1; taken = formal_cells (formal_of f) }

abbrev pub formals_size : List Formal → Extent
formals_size items = formals_extent (formals_of items)

pub formals_none : formals_size [] ≡ nothing
unfolding formals_extent formals_of
formals_none = refl

pub formals_more : (x : Formal) (xs : List Formal) → formals_size (x ∷ xs) ≡ formal_extent x ⊕ formals_size xs
unfolding formals_extent formals_of
formals_more x xs = refl

abbrev pub variables_size : List Ty → Extent
variables_size items = variables_extent (map type_of items)

pub variables_none : variables_size [] ≡ nothing
unfolding variables_extent
variables_none = refl

pub variables_more : (x : Ty) (xs : List Ty) → variables_size (x ∷ xs) ≡ copy_of (type_of x) ⊕ variables_size xs
unfolding variables_extent
variables_more x xs = refl

-- a test of all items, where those before i passed
pub record Passed {A : Type 0} (whole : List A → Bool) (items : List A) (i : ℕ) : Type 0 where
  pub left : whole items ≡ whole (drop i items)

and_true : (a b : Bool) → a ≡ true → (a && b) ≡ b
and_true true b h = refl
and_true false b h = absurd (cc)

pub passed_start : {A : Type 0} (whole : List A → Bool) (items : List A) → Passed whole items 0
passed_start whole items = record { left = refl }

pub passed_next : {A : Type 0} (whole : List A → Bool) (one : A → Bool)
    → ((x : A) (xs : List A) → whole (x ∷ xs) ≡ (one x && whole xs)) → (items : List A) (i : ℕ) (d : A)
    → i < length items → Passed whole items i → one (get_or items i d) ≡ true → Passed whole items (i + 1)
passed_next whole one law items i d h p t = record {
  left =
      p.left
      ∙ ap whole (drop-cons items i d h)
      ∙ law (get_or items i d) (drop (suc i) items)
      ∙ and_true (one (get_or items i d)) (whole (drop (suc i) items)) t
      ∙ (let k : suc i ≡ i + 1 = omega arith in ap (λ j. whole (drop j items)) k);
}

pub passed_fails : {A : Type 0} (whole : List A → Bool) (one : A → Bool)
    → ((x : A) (xs : List A) → whole (x ∷ xs) ≡ (one x && whole xs)) → (items : List A) (i : ℕ) (d : A)
    → i < length items → Passed whole items i → one (get_or items i d) ≡ false → false ≡ whole items
passed_fails whole one law items i d h p t =
    sym (p.left ∙ ap whole (drop-cons items i d h) ∙ law (get_or items i d) (drop (suc i) items) ∙ and_left
    (one (get_or items i d)) (whole (drop (suc i) items)) t)

pub passed_end : {A : Type 0} (whole : List A → Bool) → whole [] ≡ true → (items : List A) (i : ℕ) → length items ≤ i
    → Passed whole items i → true ≡ whole items
passed_end whole none items i h p = sym (p.left ∙ ap whole (drop_all i items h) ∙ none)

abbrev pub small_types : List Ty → Bool
small_types items = are_small (map type_of items)

pub small_types_none : small_types [] ≡ true
unfolding are_small
small_types_none = refl

pub small_types_more : (x : Ty) (xs : List Ty) → small_types (x ∷ xs) ≡ (is_small (type_of x) && small_types xs)
unfolding are_small
small_types_more x xs = refl

abbrev pub small_formals : List Formal → Bool
small_formals items = are_small_formals (formals_of items)

pub small_formals_none : small_formals [] ≡ true
unfolding are_small_formals formals_of
small_formals_none = refl

pub small_formals_more : (x : Formal) (xs : List Formal) → small_formals (x ∷ xs)
    ≡ (is_small_formal (formal_of x) && small_formals xs)
unfolding are_small_formals formals_of
small_formals_more x xs = refl

abbrev pub routines_within : List RoutineOf → Bool
routines_within items = are_routines_within_limits (map routine_of items)

pub routines_within_none : routines_within [] ≡ true
unfolding are_routines_within_limits
routines_within_none = refl

pub routines_within_more : (x : RoutineOf) (xs : List RoutineOf) → routines_within (x ∷ xs)
    ≡ (is_routine_within_limits (routine_of x) && routines_within xs)
unfolding are_routines_within_limits
routines_within_more x xs = refl

pub routine_small : (f : Formal) (v : Vec Formal Global) (t : Option Ty) (items others : List Formal) (small : Bool) → f
    ≡ Routine v t → items ≡ v.items → others ≡ v.items → small ≡ are_small_formals (formals_of items)
    → (is_short (formals_of others) && small && is_small_result (option_map type_of t)) ≡ is_small_formal (formal_of f)
unfolding is_small_formal
routine_small f v t items others small e g h k =
    ap (λ l. is_short (formals_of l) && small && is_small_result (option_map type_of t)) h
    ∙ ap (λ b. is_short (formals_of v.items) && b && is_small_result (option_map type_of t)) (k ∙ ap small_formals g)
    ∙ sym (ap is_small_formal (ap formal_of e ∙ formal_of_Routine v t))

pub extent_parts : (r : RoutineOf) (fs : List Formal) (vs : List Ty) (ss : List Statement) → fs ≡ r.formals.items → vs
    ≡ r.variables.items → ss ≡ r.body.items → capped
    (formals_extent (formals_of fs) ⊕ result_extent (option_map type_of r.result) ⊕ variables_extent (map type_of vs)
    ⊕ statements_extent (statements_of ss)) ≡ capped (routine_extent (routine_of r))
unfolding routine_extent
extent_parts r fs vs ss e f g =
    ap (λ x. capped (formals_extent (formals_of x) ⊕ result_extent (option_map type_of r.result) ⊕ variables_extent
    (map type_of vs) ⊕ statements_extent (statements_of ss))) e
    ∙ ap (λ x. capped (formals_extent (formals_of r.formals.items) ⊕ result_extent (option_map type_of r.result)
    ⊕ variables_extent (map type_of x) ⊕ statements_extent (statements_of ss))) f
    ∙ ap (λ x. capped (formals_extent (formals_of r.formals.items) ⊕ result_extent (option_map type_of r.result)
    ⊕ variables_extent (map type_of r.variables.items) ⊕ statements_extent (statements_of x))) g

pub limits_of : (rs : List RoutineOf) (ds : List Ty) → is_within_limits (program_of rs ds)
    ≡ (nat_le (length rs) MAX_ROUTINES && nat_le (length ds) MAX_ROUTINES && small_types ds && routines_within rs)
unfolding is_within_limits
limits_of rs ds = rw (length-map rs routine_of, length-map ds type_of) refl

within_at : (items : List RoutineOf) (i : ℕ) (d : RoutineOf) → i < length items → routines_within items ≡ true
    → is_routine_within_limits (routine_of (get_or items i d)) ≡ true
within_at [] i d h t = absurd (omega arith)
within_at (r ∷ rest) zero d h t = and_first (is_routine_within_limits (routine_of r)) (routines_within rest)
    (sym (routines_within_more r rest) ∙ t)
within_at (r ∷ rest) (suc i) d h t = within_at rest i d (omega arith)
    (and_second (is_routine_within_limits (routine_of r)) (routines_within rest)
    (sym (routines_within_more r rest) ∙ t))

few_nodes : (r : Tree.Routine) → is_routine_within_limits r ≡ true → routine_nodes r ≤ MAX_NODES
unfolding is_routine_within_limits
few_nodes r t = leb-true (routine_nodes r) MAX_NODES (and_second _ _ t)

few_cells : (r : Tree.Routine) → is_routine_within_limits r ≡ true → routine_cells r ≤ MAX_CELLS
unfolding is_routine_within_limits
few_cells r t = leb-true (routine_cells r) MAX_CELLS (and_second _ _ (and_first _ _ t))

-- what is given of a routine of a checked program is given in full
pub nodes_told : (rs : List RoutineOf) (ds : List Ty) (i n : ℕ) (d : RoutineOf) → IsTrue
    (is_within_limits (program_of rs ds)) → i < length rs → n ≡ min
    (routine_nodes (routine_of (get_or rs i d))) 18446744073709551615 → n ≡ routine_nodes
    (Tree.routine_at (program_of rs ds) i)
nodes_told rs ds i n d t h e =
    let within : routines_within rs ≡ true = and_second _ _ (sym (limits_of rs ds) ∙ t) in
    let few : routine_nodes (routine_of (get_or rs i d)) ≤ MAX_NODES = few_nodes (routine_of (get_or rs i d))
    (within_at rs i d h within) in
    let all : n ≡ routine_nodes (routine_of (get_or rs i d)) = omega (arith, e, few) in
    all ∙ ap routine_nodes (sym (get_or-map routine_of rs i d Tree.no_routine h))

pub cells_told : (rs : List RoutineOf) (ds : List Ty) (i n : ℕ) (d : RoutineOf) → IsTrue
    (is_within_limits (program_of rs ds)) → i < length rs → n ≡ min
    (routine_cells (routine_of (get_or rs i d))) 18446744073709551615 → n ≡ routine_cells
    (Tree.routine_at (program_of rs ds) i)
cells_told rs ds i n d t h e =
    let within : routines_within rs ≡ true = and_second _ _ (sym (limits_of rs ds) ∙ t) in
    let few : routine_cells (routine_of (get_or rs i d)) ≤ MAX_CELLS = few_cells (routine_of (get_or rs i d))
    (within_at rs i d h within) in
    let all : n ≡ routine_cells (routine_of (get_or rs i d)) = omega (arith, e, few) in
    all ∙ ap routine_cells (sym (get_or-map routine_of rs i d Tree.no_routine h))
