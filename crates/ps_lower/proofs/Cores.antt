-- A type's first value is its core's: the code is the same, and there is no more to do for it.
use Rattle.std.proofs.Common.{◌≡◌, ℕ, zero, suc, ◌+◌, ◌-◌, ◌*◌, ◌/◌, ◌≤◌, max, nat_eq, nat_le, nat_lt, Bool, true}
use Rattle.std.proofs.Common.{false, ◌&&◌, not, ◌==◌, if◌then◌else◌, List, [], ◌∷◌, ◌++◌, refl, ap, sym, subst, ◌∙◌}
use Rattle.std.proofs.Common.{arith}
use Rattle.std.proofs.lemmas.Bool.Decides.{nat_tests}
use Rattle.std.proofs.lemmas.List.{append-nil}
use Rattle.tac_code.specs.declared.code.Base.{Base}
use Rattle.tac_code.specs.declared.code.Instruction.{Instruction}
use Rattle.tac_code.specs.declared.code.Instruction.TheVariants as i
use Rattle.tac_code.proofs.Impossible.{never}
use Rattle.ps_tree.specs.Types.{DataType, OrdinalType, PointerType, NilType, SetType, EmptySetType, TextType}
use Rattle.ps_tree.specs.Types.{ArrayType, RecordType, FieldList, field_list, field_types, DataTypes, no_type}
use Rattle.ps_tree.specs.Types.{type_before}
use Rattle.ps_tree.specs.Sizes.{bytes, value_count, fits_byte}
use Rattle.ps_tree.specs.Cores.{is_single, sole, core_of, cores_of}
use Rattle.ps_lower_layout.specs.Shapes.{Shape, NumberShape, PointerShape, SetShape, ByteShape, ArrayShape, RecordShape}
use Rattle.ps_lower_layout.specs.Shapes.{Shapes, no_shape, shape_before, shape_of, shapes_of, field_shapes, first_of}
use Rattle.ps_lower_layout.specs.Shapes.{word_count, word_counts, byte_count}
use Rattle.ps_lower_bounds.specs.Weights.{first_weight, fields_weight}
use Rattle.ps_lower_code.specs.Scopes.{Scope, beside, copy_code}
use Rattle.ps_lower_code.specs.Statements.{spread_code, bytes_code, first_code, fields_code}
use Rattle.ps_lower.specs.declared.task.Task.{Task}
use Rattle.ps_lower.specs.FirstTasks.{weight, weights, tasks_code, tasks_weight, tasks_reach, IsDone, IsLeft}
use Rattle.ps_lower.proofs.Sizes.{words_in}
use Rattle.ps_lower.proofs.Spreading.{first_repeated}

-- the first value of one shape is that of another, and has no more steps and no larger numbers
pub record Within (inner outer : Shape) : Type 0 where
  pub same : (k : Scope) (b : Base) (t offset : ℕ) → first_code k b t offset inner ≡ first_code k b t offset outer
  pub words : word_count inner ≡ word_count outer
  pub steps : weight inner ≤ weight outer
  pub near : first_weight inner ≤ first_weight outer

pub record AllWithin (inner outer : Shapes) : Type 0 where
  pub same : (k : Scope) (b : Base) (t offset : ℕ) → fields_code k b t offset inner ≡ fields_code k b t offset outer
  pub words : word_counts inner ≡ word_counts outer
  pub steps : weights inner ≤ weights outer
  pub near : fields_weight inner ≤ fields_weight outer

itself : (s : Shape) → Within s s
itself s = record { same = λ k b t offset. refl; words = refl; steps = omega arith; near = omega arith }

-- ---- what takes no word has no code

no_words : (n : ℕ) → (n + 3) / 4 ≡ 0 → n ≡ 0
no_words n e = omega (arith, e)

mutual
  empty_code : (k : Scope) (b : Base) (t offset : ℕ) (s : Shape) → word_count s ≡ 0 → first_code k b t offset s ≡ []
  empty_code k b t offset (NumberShape first narrow) e = absurd (omega (arith, e))
  empty_code k b t offset (PointerShape pointer) e = absurd (omega (arith, e))
  empty_code k b t offset SetShape e = absurd (omega (arith, e))
  empty_code k b t offset (ByteShape count first) e = ap (λ n. bytes_code k b t offset n first) (no_words count e)
  empty_code k b t offset (ArrayShape count s) e =
      let none : nat_eq (count * word_count s) 0 ≡ true = ap (λ n. nat_eq n 0) e in
      ap (λ c. if c then [] else (first_code k b t offset s ++ spread_code k b t offset (byte_count s)
      (count * byte_count s))) none
  empty_code k b t offset (RecordShape shapes) e = empty_fields k b t offset shapes e

  empty_fields : (k : Scope) (b : Base) (t offset : ℕ) (shapes : Shapes) → word_counts shapes ≡ 0 → fields_code k b t
      offset shapes ≡ []
  empty_fields k b t offset no_shape e = refl
  empty_fields k b t offset (shape_before s rest) e =
      ap (λ l. l ++ fields_code k b t (offset + byte_count s) rest) (empty_code k b t offset s (omega (arith, e)))
      ∙ empty_fields k b t (offset + byte_count s) rest (omega (arith, e))

-- ---- an array of one component

skipped : (c : Bool) (l : List Instruction) → c ≡ true → (if c then [] else l) ≡ []
skipped c l e = ap (λ x. if x then [] else l) e

once : (k : Scope) (b : Base) (t offset each : ℕ) → spread_code k b t offset each each ≡ []
once k b t offset each = skipped (nat_le each each) (i.Offset t b (offset + each) 0 ∷ i.Offset (beside t) b offset 0
    ∷ copy_code k t (beside t) (beside (beside t)) (each - each)) (grind (arith, nat_tests))

one_component : (n : ℕ) (s inner : Shape) → n ≡ 1 → ¬ (word_count s ≡ 0) → Within inner s → Within inner
    (ArrayShape n s)
one_component n s inner one some w = record {
  same = λ k b t offset.
      w.same k b t offset
      ∙ sym
      (first_repeated k b t offset n (byte_count s) (byte_count s) s refl whole (λ z. some (omega (arith, z)))
      ∙ ap (λ l. first_code k b t offset s ++ l) (once k b t offset (byte_count s))
      ∙ append-nil (first_code k b t offset s));
  words = w.words ∙ same_words;
  steps = omega (arith, w.steps);
  near = (let h = near n one in omega (arith, w.near, h));
}
  where
    whole : byte_count s ≡ n * byte_count s
    whole = (let h : byte_count s ≡ 1 * byte_count s = omega arith in h) ∙ ap (λ m. m * byte_count s) (sym one)

    same_words : word_count s ≡ n * word_count s
    same_words = (let h : word_count s ≡ 1 * word_count s = omega arith in h) ∙ ap (λ m. m * word_count s) (sym one)

    near : (n : ℕ) → n ≡ 1 → first_weight s ≤ first_weight (ArrayShape n s)
    near n one =
        let product : n * word_count s ≡ word_count s = ap (λ m. m * word_count s) one ∙ omega arith in
        let filled : nat_eq (n * word_count s) 0 ≡ false = grind (arith, nat_tests, product, some) in
        let h : first_weight (ArrayShape n s) ≡ max (n * byte_count s) (first_weight s) = ap (λ c. if c then 0 else max
        (n * byte_count s) (first_weight s)) filled in
        omega (arith, h)

all_true : (a b c : Bool) → ((a && b) && c) ≡ true → (a ≡ true) × (b ≡ true) × (c ≡ true)
all_true true true c e = (refl, refl, e)
all_true true false c e = never e
all_true false b c e = never e

is_one : (n : ℕ) → (n == 1) ≡ true → n ≡ 1
is_one n e = grind (arith, nat_tests, e)

is_not : (c : Bool) → not c ≡ true → c ≡ false
is_not false e = refl
is_not true e = sym e

some_words : (type : DataType) → nat_lt 0 (bytes type) ≡ true → ¬ (word_count (shape_of type) ≡ 0)
some_words type e z = let h : bytes type ≡ 4 * word_count (shape_of type) = words_in type in absurd
    (let f : nat_lt 0 (bytes type) ≡ false = grind (arith, nat_tests, h, z) in never (sym f ∙ e))

by_single : (at : ℕ) (packed : Bool) (index : _) (component : DataType) (c : Bool) → is_single packed index component
    ≡ c → Within (shape_of (core_of component)) (shape_of component) → Within
    (shape_of (if c then core_of component else (ArrayType at packed index component)))
    (shape_of (ArrayType at packed index component))
by_single at packed index component false e w = itself (shape_of (ArrayType at packed index component))
by_single at packed index component true e w =
    subst (λ c. Within (shape_of (core_of component)) (if c then (ByteShape (value_count index)
    (first_of component)) else (ArrayShape (value_count index) (shape_of component)))) (sym wide)
    (one_component (value_count index) (shape_of component) (shape_of (core_of component)) one some w)
  where
    parts : ((value_count index == 1) ≡ true) × (not (packed && fits_byte component) ≡ true)
        × (nat_lt 0 (bytes component) ≡ true)
    parts = all_true (value_count index == 1) (not (packed && fits_byte component)) (nat_lt 0 (bytes component)) e

    one : value_count index ≡ 1
    one = is_one (value_count index) parts.0

    wide : (packed && fits_byte component) ≡ false
    wide = is_not (packed && fits_byte component) parts.1

    some : ¬ (word_count (shape_of component) ≡ 0)
    some z = some_words component parts.2 z

-- ---- the fields of a record that take bytes

only_field : (types solid : DataTypes) (type : DataType) → AllWithin (shape_before (shape_of type) no_shape)
    (shapes_of types) → Within (shape_of type) (RecordShape (shapes_of types))
only_field types solid type a = record {
  same = λ k b t offset. sym (append-nil (first_code k b t offset (shape_of type))) ∙ a.same k b t offset;
  words = omega (arith, a.words);
  steps = omega (arith, a.steps);
  near = omega (arith, a.near);
}

by_fields : (solid types : DataTypes) (other : DataType) → shape_of other ≡ RecordShape (shapes_of types) → AllWithin
    (shapes_of solid) (shapes_of types) → Within (shape_of (sole solid other)) (RecordShape (shapes_of types))
by_fields no_type types other e a = subst (λ s. Within s (RecordShape (shapes_of types))) (sym e) (itself _)
by_fields (type_before type no_type) types other e a = only_field types no_type type a
by_fields (type_before type (type_before next rest)) types other e a = subst
    (λ s. Within s (RecordShape (shapes_of types))) (sym e) (itself _)

by_bytes : (type : DataType) (inner : DataType) (rest solid : DataTypes) (c : Bool) → nat_lt 0 (bytes type) ≡ c → Within
    (shape_of inner) (shape_of type) → AllWithin (shapes_of solid) (shapes_of rest) → AllWithin
    (shapes_of (if c then (type_before inner solid) else solid)) (shape_before (shape_of type) (shapes_of rest))
by_bytes type inner rest solid true e w a = record {
  same = λ k b t offset.
      ap (λ l. l ++ fields_code k b t (offset + byte_count (shape_of inner)) (shapes_of solid)) (w.same k b t offset)
      ∙ ap (λ n. first_code k b t offset (shape_of type) ++ fields_code k b t (offset + 4 * n)
      (shapes_of solid)) w.words
      ∙ ap (λ l. first_code k b t offset (shape_of type) ++ l) (a.same k b t (offset + byte_count (shape_of type)));
  words = omega (arith, w.words, a.words);
  steps = omega (arith, w.steps, a.steps);
  near = omega (arith, w.near, w.words, a.near);
}
by_bytes type inner rest solid false e w a = record {
  same = λ k b t offset.
      a.same k b t offset
      ∙ ap (λ n. fields_code k b t n (shapes_of rest)) (let h : offset ≡ offset + byte_count (shape_of type) =
      omega (arith, none) in h)
      ∙ ap (λ l. l ++ fields_code k b t (offset + byte_count (shape_of type)) (shapes_of rest))
      (sym (empty_code k b t offset (shape_of type) none));
  words = omega (arith, a.words, none);
  steps = omega (arith, a.steps);
  near = omega (arith, a.near, none);
}
  where
    none : word_count (shape_of type) ≡ 0
    none = let h = words_in type in grind (arith, nat_tests, h, e)

mutual
  unfolding core_of

  pub core_within : (type : DataType) → Within (shape_of (core_of type)) (shape_of type)
  core_within (OrdinalType o) = itself _
  core_within (PointerType number) = itself _
  core_within NilType = itself _
  core_within (SetType denoter packing base) = itself _
  core_within EmptySetType = itself _
  core_within (TextType length) = itself _
  core_within (ArrayType at packed index component) = by_single at packed index component
      (is_single packed index component) refl (core_within component)
  core_within (RecordType at packed (field_list names types)) = by_fields (cores_of types) types
      (RecordType at packed (field_list names types)) refl (cores_within types)

  pub cores_within : (types : DataTypes) → AllWithin (shapes_of (cores_of types)) (shapes_of types)
  cores_within no_type = record { same = λ k b t offset. refl; words = refl; steps = omega arith; near = omega arith }
  cores_within (type_before type rest) = by_bytes type (core_of type) rest (cores_of rest)
      (nat_lt 0 (bytes type)) refl (core_within type) (cores_within rest)

-- ---- steps

-- the fields that take bytes instead of all
pub solid_left : (offset : ℕ) (fields : FieldList) (solid : DataTypes) (old new : List Task) → solid ≡ cores_of
    (field_types fields) → IsLeft offset (RecordShape (shapes_of solid)) old new → IsLeft offset
    (RecordShape (field_shapes fields)) old new
solid_left offset (field_list names types) solid old new e l =
    let w = cores_within types in
    let m : IsLeft offset (RecordShape (shapes_of (cores_of types))) old new = subst
    (λ d. IsLeft offset (RecordShape (shapes_of d)) old new) e l in
    record {
      same = λ k b t. m.same k b t ∙ ap (λ c. c ++ tasks_code k b t old) (w.same k b t offset);
      less = omega (arith, m.less, w.steps);
      near = omega (arith, m.near, w.near);
    }

-- the core instead of the type
pub core_done : (k : Scope) (b : Base) (t offset : ℕ) (type inner : DataType) (start now : List Instruction)
    (old new : List Task) → inner ≡ core_of type → IsDone k b t (first_code k b t offset (shape_of inner))
    (weight (shape_of inner)) (offset + first_weight (shape_of inner)) start now old new → IsDone k b t
    (first_code k b t offset (shape_of type)) (weight (shape_of type)) (offset + first_weight (shape_of type)) start now
    old new
core_done k b t offset type inner start now old new e d =
    let w : Within (shape_of inner) (shape_of type) = subst (λ x. Within (shape_of x) (shape_of type)) (sym e)
    (core_within type) in
    record {
      same = d.same ∙ ap (λ c. (start ++ c) ++ tasks_code k b t old) (w.same k b t offset);
      less = omega (arith, d.less, w.steps);
      near = omega (arith, d.near, w.near);
    }

pub core_near : (offset most : ℕ) (type inner : DataType) → inner ≡ core_of type → offset + first_weight (shape_of type)
    ≤ most → offset + first_weight (shape_of inner) ≤ most
core_near offset most type inner e h =
    let w : Within (shape_of inner) (shape_of type) = subst (λ x. Within (shape_of x) (shape_of type)) (sym e)
    (core_within type) in
    omega (arith, h, w.near)
