-- What is left when a type is taken out of some is no deeper.
use Rattle.std.proofs.Common.{◌≡◌, ℕ, zero, suc, ◌+◌, ◌*◌, ◌-◌, ◌<◌, ◌≤◌, List, [], ◌∷◌, length, take, slice_set}
use Rattle.std.proofs.Common.{slice_index_or, subst, sym, ap, arith}
use Rattle.std.specs.List.{swap_remove}
use denote.Param.Weighed.{most, at_most}
use Rattle.ps_tree.specs.declared.types.Ty.{Ty}
use Rattle.ps_tree.specs.declared.types.Component.TheDeep.{size-Ty}
use Rattle.ps_tree.specs.declared.types.Ty.TheVariants.{Simple, Pointer, Nil, Set, EmptySet, Text, Array, Record}
use Rattle.ps_tree.specs.Types.{DataType, FieldList, field_list}
use Rattle.ps_tree.specs.Sizes.{depth, greatest_depth, depth_of_fields}
use Rattle.ps_tree.specs.TypeView.{type_of, types_of}
use Rattle.ps_tree.specs.TypeDepth.{deepest}

module _ {X : Type 0} (f : X → ℕ) where
  most-take : (n : ℕ) (xs : List X) → most f (take n xs) ≤ most f xs
  most-take zero xs = omega arith
  most-take (suc n) [] = omega arith
  most-take (suc n) (x ∷ xs) = let h : most f (take n xs) ≤ most f xs = most-take n xs in omega arith

  most-set : (xs : List X) (i : ℕ) (y : X) (n : ℕ) → f y ≤ n → most f xs ≤ n → most f (slice_set xs i y) ≤ n
  most-set [] i y n p q = q
  most-set (x ∷ xs) zero y n p q = omega arith
  most-set (x ∷ xs) (suc i) y n p q = let h : most f (slice_set xs i y) ≤ n = most-set xs i y n p (omega arith)
      in omega arith

  most-removed : (xs : List X) (i : ℕ) (d : X) → i < length xs → most f (swap_remove xs i d) ≤ most f xs
  most-removed xs i d p =
      let last : f (slice_index_or xs (length xs - 1) d) ≤ most f xs = at_most f xs (length xs - 1) d (omega arith) in
      let set : most f (slice_set xs i (slice_index_or xs (length xs - 1) d)) ≤ most f xs = most-set xs i
      (slice_index_or xs (length xs - 1) d) (most f xs) last (omega arith) in
      let h : most f (take (length xs - 1) (slice_set xs i (slice_index_or xs (length xs - 1) d))) ≤ most f
      (slice_set xs i (slice_index_or xs (length xs - 1) d)) = most-take (length xs - 1)
      (slice_set xs i (slice_index_or xs (length xs - 1) d)) in
      omega arith

pub deepest_left : (ts new : List Ty) (i : ℕ) (t : Ty) → i < length ts → new ≡ swap_remove ts i t
    → deepest new ≤ deepest ts
deepest_left ts new i t p e = subst (λ l. deepest l ≤ deepest ts) (sym e) (most-removed size-Ty ts i t p)

pub deepest_taken : (ts : List Ty) (i : ℕ) (t : Ty) → i < length ts → t ≡ slice_index_or ts i t → size-Ty t ≤ deepest ts
deepest_taken ts i t p e = subst (λ n. n ≤ deepest ts) (sym (ap size-Ty e)) (at_most size-Ty ts i t p)

in_type : (t : Ty) → size-Ty t ≤ 2 * depth (type_of t) + 1
unfolding type_of depth
in_type (Simple o) = omega arith
in_type (Pointer n) = omega arith
in_type Nil = omega arith
in_type (Set at packing base) = omega arith
in_type EmptySet = omega arith
in_type (Text n) = omega arith
in_type (Array at packed index component) = omega arith
in_type (Record at packed fields) = omega arith

pub depth_of_component : (t : Ty) (c : DataType) → c ≡ type_of t → size-Ty t ≤ 2 * depth c + 1
depth_of_component t c e = subst (λ d. size-Ty t ≤ 2 * depth d + 1) (sym e) (in_type t)

in_types : (ts : List Ty) → deepest ts ≤ 2 * greatest_depth (types_of ts) + 1
unfolding depth
in_types [] = omega arith
in_types (t ∷ ts) = omega (arith, in_type t, in_types ts)

pub deepest_of_fields : (names : List (List ℕ)) (ts : List Ty) (fields : FieldList) → fields ≡ field_list names
    (types_of ts) → deepest ts ≤ 2 * depth_of_fields fields + 1
unfolding depth
deepest_of_fields names ts fields e = subst (λ f. deepest ts ≤ 2 * depth_of_fields f + 1) (sym e) (in_types ts)
