-- What is in a type is less deep. No contract speaks of it: it makes a walk through a type terminate.
use Rattle.std.specs.Prelude.{◌≡◌, ℕ, suc, ◌≤◌, max, Bool, true, false, if◌then◌else◌, nat_lt, List, [], ◌∷◌}
use Rattle.std.proofs.Common.{arith, ap}
use denote.Param.Weighed.{most}
use Rattle.ps_tree.specs.declared.types.Ty.{Ty}
use Rattle.ps_tree.specs.declared.types.Ty.TheVariants.{Simple, Pointer, Nil, Set, EmptySet, Text, Array, Record}
use Rattle.ps_tree.specs.declared.types.Component.TheDeep.{deep-Ty, size-Ty}
use Rattle.ps_tree.specs.Types.{DataType, OrdinalType, PointerType, NilType, SetType, EmptySetType, TextType}
use Rattle.ps_tree.specs.Types.{ArrayType, RecordType, field_list, DataTypes, no_type, type_before}
use Rattle.ps_tree.specs.Sizes.{bytes, depth, greatest_depth, depth_of_fields}
use Rattle.ps_tree.specs.Cores.{is_single, sole, core_of, cores_of}
use Rattle.ps_tree.specs.TypeView.{type_of, types_of}

pub deep_in_type : (t : Ty) → max (deep-Ty t) 0 ≤ depth (type_of t)
unfolding type_of depth
deep_in_type (Simple o) = omega arith
deep_in_type (Pointer n) = omega arith
deep_in_type Nil = omega arith
deep_in_type (Set at packing base) = omega arith
deep_in_type EmptySet = omega arith
deep_in_type (Text length) = omega arith
deep_in_type (Array at packed index component) = omega arith
deep_in_type (Record at packed fields) = omega arith

pub deep_in_types : (ts : List Ty) → most deep-Ty ts ≤ greatest_depth (types_of ts)
unfolding depth
deep_in_types [] = omega arith
deep_in_types (t ∷ ts) = omega (arith, deep_in_type t, deep_in_types ts)

-- a core is no deeper than its type
sole_depth : (types : DataTypes) (other : DataType) (n : ℕ) → greatest_depth types ≤ n → depth other ≤ n → depth
    (sole types other) ≤ n
unfolding depth
sole_depth no_type other n h within = within
sole_depth (type_before type no_type) other n h within = omega arith
sole_depth (type_before type (type_before next rest)) other n h within = within

array_depth : (b : Bool) (inner outer : DataType) (n : ℕ) → depth inner ≤ n → depth outer ≤ n → depth
    (if b then inner else outer) ≤ n
array_depth true inner outer n h within = h
array_depth false inner outer n h within = within

before_depth : (b : Bool) (type : DataType) (types : DataTypes) (n : ℕ) → depth type ≤ n → greatest_depth types ≤ n
    → greatest_depth (if b then (type_before type types) else types) ≤ n
unfolding depth
before_depth true type types n h within = omega arith
before_depth false type types n h within = within

mutual
  unfolding core_of depth

  pub core_depth : (type : DataType) → depth (core_of type) ≤ depth type
  core_depth (OrdinalType o) = omega arith
  core_depth (PointerType number) = omega arith
  core_depth NilType = omega arith
  core_depth (SetType denoter packing base) = omega arith
  core_depth EmptySetType = omega arith
  core_depth (TextType length) = omega arith
  core_depth (ArrayType at packed index component) = array_depth (is_single packed index component)
      (core_of component) (ArrayType at packed index component) (suc (depth component))
      (omega (arith, core_depth component))
      (omega arith)
  core_depth (RecordType at packed (field_list names types)) = sole_depth (cores_of types)
      (RecordType at packed (field_list names types)) (suc (greatest_depth types)) (omega (arith, cores_depth types))
      (omega arith)

  pub cores_depth : (types : DataTypes) → greatest_depth (cores_of types) ≤ greatest_depth types
  cores_depth no_type = omega arith
  cores_depth (type_before type rest) = before_depth (nat_lt 0 (bytes type)) (core_of type) (cores_of rest)
      (max (depth type) (greatest_depth rest)) (omega (arith, core_depth type)) (omega (arith, cores_depth rest))

pub deep_in_component : (t inner : Ty) → type_of inner ≡ core_of (type_of t) → max (deep-Ty t) (max (deep-Ty inner) 0)
    ≤ depth (type_of t)
deep_in_component t inner e =
    let same : depth (type_of inner) ≡ depth (core_of (type_of t)) = ap depth e in
    omega (arith, deep_in_type t, deep_in_type inner, core_depth (type_of t), same)

pub deep_in_fields : (names : List (List ℕ)) (ts solid : List Ty) → types_of solid ≡ cores_of (types_of ts) → max
    (most deep-Ty ts) (max (most deep-Ty solid) 0) ≤ depth_of_fields (field_list names (types_of ts))
unfolding depth
deep_in_fields names ts solid e =
    let same : greatest_depth (types_of solid) ≡ greatest_depth (cores_of (types_of ts)) = ap greatest_depth e in
    omega (arith, deep_in_types ts, deep_in_types solid, cores_depth (types_of ts), same)

-- the depth of the deepest of some types
abbrev pub deepest : List Ty → ℕ
deepest ts = most size-Ty ts
