-- What the limits say of shapes and of kinds: no variable has over 100,000 cells, and no heading over 32 parameters.
use Rattle.std.proofs.Common.{◌≡◌, ℕ, zero, suc, ◌+◌, ◌*◌, ◌-◌, ◌<◌, ◌≤◌, Bool, true, false, ◌&&◌, if◌then◌else◌}
use Rattle.std.proofs.Common.{nat_lt, List, [], ◌∷◌, ◌++◌, get_or, ℤ, pos, negsuc, ◌+ℤ◌, ◌-ℤ◌, unsigned_abs, int_lt}
use Rattle.std.proofs.Common.{int_le, Option, Some, None, IsTrue, refl, sym, subst, arith, lt-ltb, ltb-true, ltb-false}
use Rattle.std.proofs.Common.{leb-true, mul-le-mul_left, mul-le-mul_right}
use Rattle.std.proofs.lemmas.Option.{same_Some}
use Rattle.ps_tree.specs.Types.{DataType, OrdinalType, PointerType, NilType, SetType, EmptySetType, TextType}
use Rattle.ps_tree.specs.Types.{ArrayType, RecordType, field_list, DataTypes, no_type, type_before}
use Rattle.ps_tree.specs.Sizes.{cells, record_cells, field_cells, value_count, fits_byte}
use Rattle.ps_tree.specs.Counts.{is_within_limits, are_small, is_small, is_small_result, are_small_formals}
use Rattle.ps_tree.specs.Counts.{is_small_formal, is_short, are_routines_within_limits, is_routine_within_limits}
use Rattle.ps_tree.specs.Counts.{formals_extent}
use Rattle.ps_tree.specs.Tree.{Formal, ValueFormal, VariableFormal, RoutineFormal, Formals, no_formal, formal_before}
use Rattle.ps_tree.specs.Tree.{Routine, Program, no_routine, routine_at, domain_at}
use Rattle.ps_tree.specs.declared.limits.TheConstants.{MAX_CELLS}
use Rattle.tac_code.specs.Numbers.{is_integer}
use Rattle.tac_code.specs.declared.code.TheConstants.{NUMBER_LIMIT}
use Rattle.ps_lower_layout.specs.Shapes.{Shape, NumberShape, PointerShape, SetShape, ByteShape, ArrayShape}
use Rattle.ps_lower_layout.specs.Shapes.{RecordShape, Shapes, no_shape, shape_before, shape_of, shapes_of, first_of}
use Rattle.ps_lower_layout.specs.Shapes.{word_count, word_counts, byte_count, field_shape, field_part, Part, Whole}
use Rattle.ps_lower_layout.specs.Shapes.{Byte, component_part}
use Rattle.ps_lower_layout.specs.Frames.{Kind, Own, Reference, Closure, Kinds, no_kind, kind_before, kind_of, kinds_of}
use Rattle.ps_lower_layout.specs.Frames.{listed_kinds, result_kinds, variable_kinds, entries}
use Rattle.tac_code.proofs.Impossible.{never}
use Rattle.ps_lower_code.specs.Fits.{CountIs, HasCells}
use Rattle.ps_lower_code.specs.Routines.{count_kinds}
use Rattle.ps_lower_bounds.proofs.Lists.{Each, each_append, left, right, none_some}
use Rattle.ps_lower_bounds.proofs.Cells.{byte_cell}

-- ---- the cells of a shape

abbrev mutual
  pub shape_cells : Shape → ℕ
  shape_cells (NumberShape first narrow) = 1
  shape_cells (PointerShape pointer) = 1
  shape_cells SetShape = 8
  shape_cells (ByteShape count first) = count
  shape_cells (ArrayShape count shape) = count * shape_cells shape
  shape_cells (RecordShape no_shape) = 1
  shape_cells (RecordShape (shape_before shape rest)) = shape_cells shape + shapes_cells rest

  pub shapes_cells : Shapes → ℕ
  shapes_cells no_shape = 0
  shapes_cells (shape_before shape rest) = shape_cells shape + shapes_cells rest

array_cells : (packed : Bool) (n : ℕ) (c : DataType) → shape_cells (shape_of c) ≤ cells c → shape_cells
    (if packed && fits_byte c then ByteShape n (first_of c) else ArrayShape n (shape_of c)) ≤ n * cells c
array_cells packed n c l = go (packed && fits_byte c) refl
  where
    go : (b : Bool) → (packed && fits_byte c) ≡ b → shape_cells
        (if b then ByteShape n (first_of c) else ArrayShape n (shape_of c)) ≤ n * cells c
    go true e = subst (λ m. n ≤ n * m) (sym (byte_cell c (right packed (fits_byte c) e))) (omega arith)
    go false e = mul-le-mul_left n l

mutual
  unfolding cells record_cells field_cells

  cells_most : (type : DataType) → shape_cells (shape_of type) ≤ cells type
  cells_most (OrdinalType o) = omega arith
  cells_most (PointerType n) = omega arith
  cells_most NilType = omega arith
  cells_most (SetType d p b) = omega arith
  cells_most EmptySetType = omega arith
  cells_most (TextType n) = omega arith
  cells_most (ArrayType at packed index c) = array_cells packed (value_count index) c (cells_most c)
  cells_most (RecordType at packed (field_list names no_type)) = omega arith
  cells_most (RecordType at packed (field_list names (type_before type rest))) = let a = cells_most type
      in let b = fields_most rest in omega (arith, a, b)

  fields_most : (types : DataTypes) → shapes_cells (shapes_of types) ≤ field_cells types
  fields_most no_type = omega arith
  fields_most (type_before type rest) = let a = cells_most type in let b = fields_most rest in omega (arith, a, b)

-- a variable within the limits
abbrev pub Few : Shape → Type 0
Few shape = shape_cells shape ≤ MAX_CELLS

small_few : (type : DataType) → is_small type ≡ true → Few (shape_of type)
small_few type e = let a = cells_most type in let b = leb-true (cells type) MAX_CELLS e in omega (arith, a, b)

mutual
  words_most : (shape : Shape) → word_count shape ≤ shape_cells shape
  words_most (NumberShape first narrow) = omega arith
  words_most (PointerShape pointer) = omega arith
  words_most SetShape = omega arith
  words_most (ByteShape count first) = omega arith
  words_most (ArrayShape count shape) = mul-le-mul_left count (words_most shape)
  words_most (RecordShape no_shape) = omega arith
  words_most (RecordShape (shape_before shape rest)) = let a = words_most shape in let b = all_words_most rest in omega
      (arith, a, b)

  all_words_most : (shapes : Shapes) → word_counts shapes ≤ shapes_cells shapes
  all_words_most no_shape = omega arith
  all_words_most (shape_before shape rest) = let a = words_most shape in let b = all_words_most rest in omega
      (arith, a, b)

pub few_bytes : (shape : Shape) → Few shape → byte_count shape ≤ 400000
few_bytes shape l = let w = words_most shape in omega (arith, l, w)

-- ---- parts of a variable

abbrev pub PartFew : Part → Type 0
PartFew (Whole shape) = Few shape
PartFew Byte = Unit {0}

one_of_many : (n m : ℕ) → 1 ≤ n → m ≤ n * m
one_of_many n m l = let h = mul-le-mul_right m l in omega (arith, h)

pub component_few : (shape : Shape) (n : ℕ) → CountIs shape n → 1 ≤ n → Few shape → PartFew (component_part shape)
component_few (NumberShape first narrow) n e l f = absurd e
component_few (PointerShape pointer) n e l f = absurd e
component_few SetShape n e l f = absurd e
component_few (ByteShape count first) n e l f = tt
component_few (ArrayShape count shape) n e l f = let h = one_of_many count (shape_cells shape) (omega (arith, e, l))
    in omega (arith, h, f)
component_few (RecordShape shapes) n e l f = absurd e

field_few : (shapes : Shapes) (n : ℕ) (inner : Shape) → field_shape shapes n ≡ Some inner
    → shape_cells inner ≤ shapes_cells shapes
field_few no_shape n inner e = absurd (none_some e)
field_few (shape_before shape rest) zero inner e = subst (λ s. shape_cells s ≤ shape_cells shape + shapes_cells rest)
    (same_Some shape inner e) (omega arith)
field_few (shape_before shape rest) (suc n) inner e = let l = field_few rest n inner e in omega (arith, l)

pub field_part_few : (shape : Shape) (n : ℕ) (inner : Shape) → field_part shape n ≡ Some inner → Few shape → Few inner
field_part_few (RecordShape no_shape) n inner e f = absurd (none_some e)
field_part_few (RecordShape (shape_before shape rest)) n inner e f = let l = field_few
    (shape_before shape rest) n inner e in omega (arith, l, f)
field_part_few (NumberShape first narrow) n inner e f = absurd (none_some e)
field_part_few (PointerShape pointer) n inner e f = absurd (none_some e)
field_part_few SetShape n inner e f = absurd (none_some e)
field_part_few (ByteShape c first) n inner e f = absurd (none_some e)
field_part_few (ArrayShape c shape) n inner e f = absurd (none_some e)

-- ---- shapes whose arrays have components

pub has_cells : (shape : Shape) → HasCells shape → 1 ≤ shape_cells shape
has_cells (NumberShape first narrow) h = omega arith
has_cells (PointerShape pointer) h = omega arith
has_cells SetShape h = omega arith
has_cells (ByteShape count first) h = h
has_cells (ArrayShape count shape) h = let l = h.0 in let a = has_cells shape h.1 in let b = one_of_many count
    (shape_cells shape) l in omega (arith, a, b)
has_cells (RecordShape no_shape) h = omega arith
has_cells (RecordShape (shape_before shape rest)) h = let a = has_cells shape h.0 in omega (arith, a)

-- ---- indices

abbrev count_between : ℤ → ℤ → ℕ
count_between low high = if int_lt high low then 0 else unsigned_abs (high -ℤ low) + 1

-- so far above the low bound is within the high one
abbrev Reaches : ℤ → ℤ → ℕ → Type 0
Reaches (pos a) (pos b) n = a + n ≤ b
Reaches (pos a) (negsuc b) n = ⊥
Reaches (negsuc a) (pos b) n = n ≤ b + suc a
Reaches (negsuc a) (negsuc b) n = b + n ≤ a

reaches : (low high : ℤ) (n : ℕ) → n < count_between low high → Reaches low high n
reaches (pos zero) (pos b) n l = go (nat_lt b 0) refl l
  where
    go : (t : Bool) → nat_lt b 0 ≡ t → n < (if t then 0 else b + 0 + 1) → 0 + n ≤ b
    go true e k = absurd (omega (arith, k))
    go false e k = omega (arith, k)
reaches (pos (suc a)) (pos b) n l = go (nat_lt b (suc a)) refl l
  where
    go : (t : Bool) → nat_lt b (suc a) ≡ t → n <
        (if t then 0 else unsigned_abs (if t then negsuc (suc a - suc b) else pos (b - suc a)) + 1) → suc a + n ≤ b
    go true e k = absurd (omega (arith, k))
    go false e k = let f = ltb-false b (suc a) e in omega (arith, f, k)
reaches (pos a) (negsuc b) n l = absurd (omega (arith, l))
reaches (negsuc a) (pos b) n l = omega (arith, l)
reaches (negsuc a) (negsuc b) n l = go (nat_lt a b) (nat_lt (suc a) (suc b)) refl refl l
  where
    go : (t u : Bool) → nat_lt a b ≡ t → nat_lt (suc a) (suc b) ≡ u → n <
        (if t then 0 else unsigned_abs (if u then negsuc (suc b - suc (suc a)) else pos (suc a - suc b)) + 1) → b
        + n ≤ a
    go true u e f k = absurd (omega (arith, k))
    go false true e f k = let x = ltb-false a b e in let y = ltb-true (suc a) (suc b) f in absurd (omega (arith, x, y))
    go false false e f k = let x = ltb-false a b e in omega (arith, x, k)

within_negative : (a n : ℕ) (t : Bool) → a < NUMBER_LIMIT → n < NUMBER_LIMIT + suc a → IsTrue
    (is_integer (if t then negsuc (suc a - suc n) else pos (n - suc a)))
within_negative a n true l m = lt-ltb (suc a - suc n) NUMBER_LIMIT (omega (arith, l))
within_negative a n false l m = lt-ltb (n - suc a) NUMBER_LIMIT (omega (arith, m))

pub index_within : (low high : ℤ) (n : ℕ) → IsTrue (is_integer low) → IsTrue (is_integer high)
    → n < count_between low high → IsTrue (is_integer (low +ℤ pos n))
index_within (pos a) (pos b) n i j l = let r = reaches (pos a) (pos b) n l in lt-ltb (a + n) NUMBER_LIMIT
    (let h = ltb-true b NUMBER_LIMIT j in omega (arith, r, h))
index_within (pos a) (negsuc b) n i j l = absurd (reaches (pos a) (negsuc b) n l)
index_within (negsuc a) (pos b) n i j l = let r = reaches (negsuc a) (pos b) n l in within_negative a n
    (nat_lt n (suc a)) (ltb-true a NUMBER_LIMIT i) (let h = ltb-true b NUMBER_LIMIT j in omega (arith, r, h))
index_within (negsuc a) (negsuc b) n i j l = let r = reaches (negsuc a) (negsuc b) n l in within_negative a n
    (nat_lt n (suc a)) (ltb-true a NUMBER_LIMIT i) (let h = ltb-true a NUMBER_LIMIT i in omega (arith, r, h))

-- an index that rises has a value
pub count_there : (low high : ℤ) → int_le low high ≡ true → 1 ≤ count_between low high
count_there (pos a) (pos b) e = go (nat_lt b a) refl
  where
    go : (t : Bool) → nat_lt b a ≡ t → 1 ≤ (if t then 0 else unsigned_abs (pos b -ℤ pos a) + 1)
    go true f = let x = leb-true a b e in let y = ltb-true b a f in absurd (omega (arith, x, y))
    go false f = omega arith
count_there (pos a) (negsuc b) e = never e
count_there (negsuc a) (pos b) e = omega arith
count_there (negsuc a) (negsuc b) e = go (nat_lt a b) refl
  where
    go : (t : Bool) → nat_lt a b ≡ t → 1 ≤ (if t then 0 else unsigned_abs (negsuc b -ℤ negsuc a) + 1)
    go true f = let x = leb-true b a e in let y = ltb-true a b f in absurd (omega (arith, x, y))
    go false f = omega arith

-- ---- kinds within the limits

abbrev mutual
  pub KindFew : Kind → Type 0
  KindFew (Own shape) = Few shape
  KindFew (Reference shape) = Few shape
  KindFew (Closure kinds result) = (count_kinds kinds ≤ 32) × KindsFew kinds

  pub KindsFew : Kinds → Type 0
  KindsFew no_kind = Unit {0}
  KindsFew (kind_before kind rest) = KindFew kind × KindsFew rest

-- a heading
abbrev pub HeadingFew : Kinds → Type 0
HeadingFew kinds = (count_kinds kinds ≤ 32) × KindsFew kinds

counted : (fs : Formals) → count_kinds (kinds_of fs) ≡ (formals_extent fs).nodes
unfolding formals_extent
counted no_formal = refl
counted (formal_before f rest) = let e = counted rest in omega (arith, e)

short_counted : (fs : Formals) → is_short fs ≡ true → count_kinds (kinds_of fs) ≤ 32
short_counted fs e = let a = counted fs in let b = leb-true (formals_extent fs).nodes 32 e in omega (arith, a, b)

mutual
  unfolding is_small_formal are_small_formals

  formal_few : (f : Formal) → is_small_formal f ≡ true → KindFew (kind_of f)
  formal_few (ValueFormal type) e = small_few type e
  formal_few (VariableFormal type) e = small_few type e
  formal_few (RoutineFormal fs result) e = let both = left (is_short fs && are_small_formals fs)
      (is_small_result result) e in (
        short_counted fs (left (is_short fs) (are_small_formals fs) both),
        formals_few fs
            (right (is_short fs) (are_small_formals fs) both),
      )

  formals_few : (fs : Formals) → are_small_formals fs ≡ true → KindsFew (kinds_of fs)
  formals_few no_formal e = tt
  formals_few (formal_before f rest) e = (
    formal_few f
        (left (is_small_formal f) (are_small_formals rest) e),
    formals_few rest
        (right (is_small_formal f) (are_small_formals rest) e),
  )

listed_few : (kinds : Kinds) → KindsFew kinds → Each KindFew (listed_kinds kinds)
listed_few no_kind k = tt
listed_few (kind_before kind rest) k = (k.0, listed_few rest k.1)

result_few : (result : Option DataType) → is_small_result result ≡ true → Each KindFew (result_kinds result)
unfolding is_small_result
result_few None e = tt
result_few (Some type) e = (small_few type e, tt)

variables_few : (types : List DataType) → are_small types ≡ true → Each KindFew (variable_kinds types)
unfolding are_small
variables_few [] e = tt
variables_few (type ∷ types) e = (
  small_few type (left (is_small type) (are_small types) e),
  variables_few types
      (right (is_small type) (are_small types) e),
)

-- what the limits say of a routine
pub record RoutineFew (r : Routine) : Type 0 where
  pub heading : HeadingFew (kinds_of r.formals)
  pub kinds : Each KindFew (entries r)

routine_few : (r : Routine) → is_routine_within_limits r ≡ true → RoutineFew r
unfolding is_routine_within_limits
routine_few r e =
    let variables = left _ _ (left _ _ e) in
    let result = left _ _ variables in
    let formals = left _ _ result in
    let heading : HeadingFew (kinds_of r.formals) =
    (short_counted r.formals (right _ _ (left _ _ formals)), formals_few r.formals (right _ _ formals)) in
    record {
      heading = heading;
      kinds = each_append KindFew (result_kinds r.result ++ listed_kinds (kinds_of r.formals))
          (variable_kinds r.variables) (each_append KindFew (result_kinds r.result) (listed_kinds (kinds_of r.formals))
          (result_few r.result (right _ _ result)) (listed_few (kinds_of r.formals) heading.1))
          (variables_few r.variables (right _ _ variables));
    }

routines_few : (list : List Routine) → are_routines_within_limits list ≡ true → (r : ℕ) → RoutineFew
    (get_or list r no_routine)
unfolding are_routines_within_limits
routines_few [] e r = record { heading = (omega arith, tt); kinds = tt }
routines_few (x ∷ list) e zero = routine_few x (left (is_routine_within_limits x) (are_routines_within_limits list) e)
routines_few (x ∷ list) e (suc r) = routines_few list
    (right (is_routine_within_limits x) (are_routines_within_limits list) e) r

domains_few : (types : List DataType) → are_small types ≡ true → (t : ℕ) → Few
    (shape_of (get_or types t (PointerType 0)))
unfolding are_small
domains_few [] e t = omega arith
domains_few (type ∷ types) e zero = small_few type (left (is_small type) (are_small types) e)
domains_few (type ∷ types) e (suc t) = domains_few types (right (is_small type) (are_small types) e) t

-- and of a program
pub record ProgramFew (P : Program) : Type 0 where
  pub routines : (r : ℕ) → RoutineFew (routine_at P r)
  pub domains : (t : ℕ) → Few (shape_of (domain_at P t))

pub program_few : (P : Program) → is_within_limits P ≡ true → ProgramFew P
unfolding is_within_limits
program_few P e = record {
  routines = routines_few P.routines (right _ _ e);
  domains = domains_few P.domains (right _ _ (left _ _ e));
}
