-- A program within the limits has small frames, objects and scratch blocks: no variable has more words than cells.
use Rattle.std.proofs.Common.{◌≡◌, ℕ, zero, suc, ◌+◌, ◌*◌, ◌/◌, ◌<◌, ◌≤◌, Bool, true, false, ◌&&◌, if◌then◌else◌, List}
use Rattle.std.proofs.Common.{[], ◌∷◌, ◌++◌, get_or, Option, Some, None, refl, sym, subst, arith, leb-true}
use Rattle.std.proofs.Common.{mul-le-mul_left}
use Rattle.ps_tree.proofs.Booleans.{and_first as left, and_second as right}
use Rattle.ps_tree.specs.Types.{DataType, OrdinalType, PointerType, NilType, SetType, EmptySetType, TextType}
use Rattle.ps_tree.specs.Types.{ArrayType, RecordType, field_list, DataTypes, no_type, type_before}
use Rattle.ps_tree.specs.Sizes.{cells, record_cells, field_cells, value_count, fits_byte}
use Rattle.ps_tree.specs.Counts.{is_within_limits, are_small, are_routines_within_limits, is_routine_within_limits}
use Rattle.ps_tree.specs.Counts.{routine_cells, routine_nodes, routine_extent, formals_extent, formal_cells}
use Rattle.ps_tree.specs.Counts.{variables_extent, result_extent, statements_extent}
use Rattle.ps_tree.specs.Tree.{Formal, ValueFormal, VariableFormal, RoutineFormal, Formals, no_formal, formal_before}
use Rattle.ps_tree.specs.Tree.{Routine, Program, no_routine}
use Rattle.ps_tree.specs.declared.limits.TheConstants.{MAX_CELLS, MAX_NODES}
use Rattle.tac_code.specs.declared.code.TheConstants.{BLOCK_LIMIT}
use Rattle.ps_lower_layout.specs.Shapes.{ByteShape, ArrayShape, shape_of, shapes_of, first_of, word_count, word_counts}
use Rattle.ps_lower_layout.specs.Frames.{kind_of, kinds_of, listed_kinds, result_kinds, variable_kinds, entries}
use Rattle.ps_lower_layout.specs.Frames.{words_of_all, kind_words, layout_of, is_program_block}
use Rattle.ps_lower_code.specs.Programs.{scratch_in}
use Rattle.ps_lower_code.specs.Routines.{routine_code}
use Rattle.ps_lower_bounds.proofs.Routines.{sizes_bounded}
use Rattle.ps_lower_bounds.proofs.Cells.{words_both, byte_cell}
use Rattle.ps_lower_relation.specs.Here.{AreSmall}

-- ---- a variable

-- bytes are padded to no more words than there are bytes
filled : (n : ℕ) → (n + 3) / 4 ≤ n
filled n = omega arith

array_words : (packed : Bool) (n : ℕ) (component : DataType) → word_count (shape_of component) ≤ cells component
    → word_count (if packed && fits_byte component then ByteShape n (first_of component) else ArrayShape n
    (shape_of component)) ≤ n * cells component
array_words packed n component l = go (packed && fits_byte component) refl
  where
    go : (b : Bool) → (packed && fits_byte component) ≡ b → word_count
        (if b then ByteShape n (first_of component) else ArrayShape n (shape_of component)) ≤ n * cells component
    go true e = let one = byte_cell component (right packed (fits_byte component) e) in subst (λ c. (n + 3) / 4 ≤ n * c)
        (sym one) (let f = filled n in omega (arith, f))
    go false e = mul-le-mul_left n l

mutual
  unfolding cells record_cells field_cells

  words_cells : (type : DataType) → word_count (shape_of type) ≤ cells type
  words_cells (OrdinalType o) = omega arith
  words_cells (PointerType n) = omega arith
  words_cells NilType = omega arith
  words_cells (SetType d p b) = omega arith
  words_cells EmptySetType = omega arith
  words_cells (TextType n) = filled n
  words_cells (ArrayType at packed index component) = array_words packed (value_count index) component
      (words_cells component)
  words_cells (RecordType at packed (field_list names no_type)) = omega arith
  words_cells (RecordType at packed (field_list names (type_before type rest))) = let a = words_cells type
      in let b = words_fields rest in omega (arith, a, b)

  words_fields : (types : DataTypes) → word_counts (shapes_of types) ≤ field_cells types
  words_fields no_type = omega arith
  words_fields (type_before type rest) = let a = words_cells type in let b = words_fields rest in omega (arith, a, b)

-- ---- a frame

formal_words : (f : Formal) → kind_words (kind_of f) ≤ formal_cells f
unfolding formal_cells
formal_words (ValueFormal type) = words_cells type
formal_words (VariableFormal type) = omega arith
formal_words (RoutineFormal formals result) = omega arith

formals_words : (fs : Formals) → words_of_all (listed_kinds (kinds_of fs)) ≤ (formals_extent fs).taken
unfolding formals_extent
formals_words no_formal = omega arith
formals_words (formal_before f rest) = let a = formal_words f in let b = formals_words rest in omega (arith, a, b)

variables_words : (types : List DataType) → words_of_all (variable_kinds types) ≤ (variables_extent types).taken
unfolding variables_extent
variables_words [] = omega arith
variables_words (type ∷ rest) = let a = words_cells type in let b = variables_words rest in omega (arith, a, b)

result_words : (result : Option DataType) → words_of_all (result_kinds result) ≤ (result_extent result).taken
unfolding result_extent
result_words None = omega arith
result_words (Some type) = let a = words_cells type in omega (arith, a)

entries_words : (r : Routine) → words_of_all (entries r) ≤ routine_cells r
unfolding routine_extent
entries_words r =
    let a = result_words r.result in
    let b = formals_words r.formals in
    let c = variables_words r.variables in
    let d = words_both (result_kinds r.result ++ listed_kinds (kinds_of r.formals)) (variable_kinds r.variables) in
    let e = words_both (result_kinds r.result) (listed_kinds (kinds_of r.formals)) in
    omega (arith, a, b, c, d, e)

frame_small : (r : Routine) → routine_cells r ≤ MAX_CELLS → 4 * (layout_of r).size < BLOCK_LIMIT
frame_small r few = go (is_program_block r.chain)
  where
    go : (b : Bool) → 4 * (1 + words_of_all (entries r) + (if b then 2 else 0)) < BLOCK_LIMIT
    go true = let l = entries_words r in omega (arith, l, few)
    go false = let l = entries_words r in omega (arith, l, few)

-- ---- a program

few_cells : (r : Routine) → is_routine_within_limits r ≡ true → routine_cells r ≤ MAX_CELLS
unfolding is_routine_within_limits
few_cells r e = leb-true (routine_cells r) MAX_CELLS (right _ _ (left _ _ e))

frames_small : (rs : List Routine) (r : ℕ) → are_routines_within_limits rs ≡ true → 4 *
    (layout_of (get_or rs r no_routine)).size < BLOCK_LIMIT
unfolding are_routines_within_limits
frames_small [] r e = omega arith
frames_small (x ∷ rs) zero e = frame_small x (few_cells x (left _ _ e))
frames_small (x ∷ rs) (suc r) e = frames_small rs r (right _ _ e)

objects_small : (types : List DataType) (t : ℕ) → are_small types ≡ true → 4 * word_count
    (shape_of (get_or types t (PointerType 0))) < BLOCK_LIMIT
unfolding are_small
objects_small [] t e = omega arith
objects_small (type ∷ types) zero e = let few = leb-true (cells type) MAX_CELLS (left _ _ e) in let l = words_cells type
    in omega (arith, l, few)
objects_small (type ∷ types) (suc t) e = objects_small types t (right _ _ e)

-- ---- scratch

few_nodes : (r : Routine) → is_routine_within_limits r ≡ true → routine_nodes r ≤ MAX_NODES
unfolding is_routine_within_limits
few_nodes r e = leb-true (routine_nodes r) MAX_NODES (right _ _ e)

scratch_small : (program : Program) (r : Routine) → routine_cells r ≤ MAX_CELLS → routine_nodes r ≤ MAX_NODES
    → scratch_in (routine_code program r) < BLOCK_LIMIT
scratch_small program r few some = let b = sizes_bounded program r in omega (arith, b, few, some)

scratches_small : (program : Program) (rs : List Routine) (r : ℕ) → are_routines_within_limits rs ≡ true → scratch_in
    (routine_code program (get_or rs r no_routine)) < BLOCK_LIMIT
unfolding are_routines_within_limits routine_extent formals_extent result_extent variables_extent statements_extent
scratches_small program [] r e = scratch_small program no_routine (omega arith) (omega arith)
scratches_small program (x ∷ rs) zero e = scratch_small program x (few_cells x (left _ _ e)) (few_nodes x (left _ _ e))
scratches_small program (x ∷ rs) (suc r) e = scratches_small program rs r (right _ _ e)

pub limits_small : (program : Program) → is_within_limits program ≡ true → AreSmall program
unfolding is_within_limits
limits_small program e =
    record {
      frames = λ r. frames_small program.routines r (right _ _ e);
      objects = λ t. objects_small program.domains t (right _ _ (left _ _ e));
      scratch = λ r. scratches_small program program.routines r (right _ _ e);
    }
