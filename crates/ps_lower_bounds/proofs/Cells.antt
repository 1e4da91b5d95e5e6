-- No variable has more words than cells.
use Rattle.std.proofs.Common.{◌≡◌, ℕ, ◌+◌, ◌*◌, ◌/◌, ◌≤◌, Bool, true, false, ◌&&◌, if◌then◌else◌, List, [], ◌∷◌, ◌++◌}
use Rattle.std.proofs.Common.{Option, Some, None, refl, sym, subst, arith, mul-le-mul_left}
use Rattle.std.proofs.lemmas.Bool.{and_parts}
use Rattle.ps_tree.specs.Types.{DataType, OrdinalType, PointerType, NilType, SetType, EmptySetType, TextType}
use Rattle.ps_tree.specs.Types.{ArrayType, RecordType, field_list, DataTypes, no_type, type_before}
use Rattle.ps_tree.specs.Sizes.{cells, record_cells, field_cells, value_count, fits_byte}
use Rattle.ps_tree.specs.Counts.{formals_extent, formal_cells, variables_extent, result_extent}
use Rattle.ps_tree.specs.Tree.{Formal, ValueFormal, VariableFormal, RoutineFormal, Formals, no_formal, formal_before}
use Rattle.ps_tree.specs.Tree.{Routine}
use Rattle.ps_lower_layout.specs.Shapes.{ByteShape, ArrayShape, shape_of, shapes_of, first_of, word_count, word_counts}
use Rattle.ps_lower_layout.specs.Frames.{Kind, kind_of, kinds_of, listed_kinds, result_kinds, variable_kinds, entries}
use Rattle.ps_lower_layout.specs.Frames.{words_of_all, kind_words}
use Rattle.ps_lower_code.specs.Programs.{object_bytes}

-- ---- a variable

-- bytes are padded to no more words than there are bytes
filled : (n : ℕ) → (n + 3) / 4 ≤ n
filled n = omega arith

pub byte_cell : (type : DataType) → fits_byte type ≡ true → cells type ≡ 1
unfolding cells
byte_cell (OrdinalType o) e = refl
byte_cell (PointerType n) e = absurd (cc)
byte_cell NilType e = absurd (cc)
byte_cell (SetType d p b) e = absurd (cc)
byte_cell EmptySetType e = absurd (cc)
byte_cell (TextType n) e = absurd (cc)
byte_cell (ArrayType at p i c) e = absurd (cc)
byte_cell (RecordType at p f) e = absurd (cc)

array_words : (packed : Bool) (n : ℕ) (component : DataType) → word_count (shape_of component) ≤ cells component
    → word_count (if packed && fits_byte component then ByteShape n (first_of component) else ArrayShape n
    (shape_of component)) ≤ n * cells component
array_words packed n component l = go (packed && fits_byte component) refl
  where
    go : (b : Bool) → (packed && fits_byte component) ≡ b → word_count
        (if b then ByteShape n (first_of component) else ArrayShape n (shape_of component)) ≤ n * cells component
    go true e = let one = byte_cell component (and_parts packed (fits_byte component) e).1 in subst
        (λ c. (n + 3) / 4 ≤ n * c) (sym one) (let f = filled n in omega (arith, f))
    go false e = mul-le-mul_left n l

mutual
  unfolding cells record_cells field_cells

  pub words_cells : (type : DataType) → word_count (shape_of type) ≤ cells type
  words_cells (OrdinalType o) = omega arith
  words_cells (PointerType n) = omega arith
  words_cells NilType = omega arith
  words_cells (SetType d p b) = omega arith
  words_cells EmptySetType = omega arith
  words_cells (TextType n) = filled n
  words_cells (ArrayType at packed index component) = array_words packed (value_count index) component
      (words_cells component)
  words_cells (RecordType at packed (field_list names no_type)) = omega arith
  words_cells (RecordType at packed (field_list names (type_before type rest))) = let a = words_cells type
      in let b = words_fields rest in omega (arith, a, b)

  words_fields : (types : DataTypes) → word_counts (shapes_of types) ≤ field_cells types
  words_fields no_type = omega arith
  words_fields (type_before type rest) = let a = words_cells type in let b = words_fields rest in omega (arith, a, b)

-- ---- a frame

pub words_both : (ks ls : List Kind) → words_of_all (ks ++ ls) ≡ words_of_all ks + words_of_all ls
words_both [] ls = omega arith
words_both (k ∷ ks) ls = let e = words_both ks ls in omega (arith, e)

formal_words : (f : Formal) → kind_words (kind_of f) ≤ formal_cells f
unfolding formal_cells
formal_words (ValueFormal type) = words_cells type
formal_words (VariableFormal type) = omega arith
formal_words (RoutineFormal formals result) = omega arith

formals_words : (fs : Formals) → words_of_all (listed_kinds (kinds_of fs)) ≤ (formals_extent fs).taken
unfolding formals_extent
formals_words no_formal = omega arith
formals_words (formal_before f rest) = let a = formal_words f in let b = formals_words rest in omega (arith, a, b)

variables_words : (types : List DataType) → words_of_all (variable_kinds types) ≤ (variables_extent types).taken
unfolding variables_extent
variables_words [] = omega arith
variables_words (type ∷ rest) = let a = words_cells type in let b = variables_words rest in omega (arith, a, b)

result_words : (result : Option DataType) → words_of_all (result_kinds result) ≤ (result_extent result).taken
unfolding result_extent
result_words None = omega arith
result_words (Some type) = let a = words_cells type in omega (arith, a)

-- the words of a routine's entries
pub entries_words : (r : Routine) → words_of_all (entries r) ≤ (formals_extent r.formals).taken
    + (result_extent r.result).taken + (variables_extent r.variables).taken
entries_words r =
    let a = result_words r.result in
    let b = formals_words r.formals in
    let c = variables_words r.variables in
    let d = words_both (result_kinds r.result ++ listed_kinds (kinds_of r.formals)) (variable_kinds r.variables) in
    let e = words_both (result_kinds r.result) (listed_kinds (kinds_of r.formals)) in
    omega (arith, a, b, c, d, e)

pub objects_bounded : (type : DataType) → object_bytes type ≤ 4 * cells type
objects_bounded type = let w = words_cells type in omega (arith, w)
