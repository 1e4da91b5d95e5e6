-- The fields of a record type, by their places.
use Rattle.std.proofs.Common.{rules, ◌≤◌, ◌≡◌, ◌<◌, ℕ, zero, suc, Bool, true, false, List, [], ◌∷◌, Option, Some, None}
use Rattle.std.proofs.Common.{option_map, slice_get, get_or, length, nat_le, cond, refl, sym, ap, ◌∙◌, arith}
use Rattle.std.specs.Prelude.{IsTrue, ◌↔◌}
use Rattle.std.proofs.lemmas.Option.{slice_get_read, slice_get_past}
use Rattle.ps_tree.specs.declared.types.Ty.{Ty}
use Rattle.ps_tree.specs.NameCode.{names_code}
use Rattle.ps_tree.specs.Types.{DataType, FieldList, field_list, field_names, field_types, type_at, field_at}
use Rattle.ps_tree.specs.Types.{type_count, HaveSameNames}
use Rattle.ps_tree.specs.TypeView.{type_of, types_of}
use Rattle.ps_tree.proofs.CodeLemmas.{names_told}

type_at_items : (types : List Ty) (n : ℕ) → type_at (types_of types) n ≡ option_map type_of (slice_get types n)
type_at_items [] n = refl
type_at_items (t ∷ ts) zero = refl
type_at_items (t ∷ ts) (suc n) = type_at_items ts n

abbrev told : Bool → ℕ → Option DataType → Option (ℕ × DataType)
told b n o = cond b (option_map (λ type. (n, type)) o) None

field_at_items : (types : List Ty) (n : ℕ) → field_at (types_of types) n ≡ told (nat_le n 4294967295) n
    (option_map type_of (slice_get types n))
field_at_items types n = ap (λ o. told (nat_le n 4294967295) n o) (type_at_items types n)

pub field_at_place : (types : List Ty) (n : ℕ) (t : Ty) → n < length types → n ≤ 4294967295 → t ≡ get_or types n t
    → Some (n, type_of t) ≡ field_at (types_of types) n
field_at_place types n t within h at =
    let e : nat_le n 4294967295 ≡ true = grind (arith, rules) in
    sym (
    field_at_items types n
    ∙ ap (λ b. told b n (option_map type_of (slice_get types n))) e
    ∙ ap (λ o. told true n (option_map type_of o)) (slice_get_read types (length types) n t refl within at))

pub no_field_past : (types : List Ty) (n : ℕ) → length types ≤ n → None ≡ field_at (types_of types) n
no_field_past types n h =
    sym (
    field_at_items types n
    ∙ ap (λ o. told (nat_le n 4294967295) n (option_map type_of o)) (slice_get_past types n h)
    ∙ none_told (nat_le n 4294967295) n)
  where
    none_told : (b : Bool) (n : ℕ) → told b n None ≡ None
    none_told true n = refl
    none_told false n = refl

pub no_field_above : (types : List Ty) (n : ℕ) → 4294967295 < n → None ≡ field_at (types_of types) n
no_field_above types n h = let e : nat_le n 4294967295 ≡ false = grind (arith, rules) in sym
    (ap (λ b. told b n (type_at (types_of types) n)) e)

pub count_is : (types : List Ty) → type_count (types_of types) ≡ length types
count_is [] = refl
count_is (t ∷ ts) = ap suc (count_is ts)

-- ---- the same names, told by their codes

module _ (names names' : List (List ℕ)) (types types' : List Ty) (code code' : List ℕ) (a b : FieldList)
    (is : field_list names (types_of types) ≡ a) (is' : field_list names' (types_of types') ≡ b) where
  count_of : type_count (field_types a) ≡ length types
  count_of = ap (λ f. type_count (field_types f)) (sym is) ∙ count_is types

  count_of' : type_count (field_types b) ≡ length types'
  count_of' = ap (λ f. type_count (field_types f)) (sym is') ∙ count_is types'

  pub one_length : code ≡ names_code names → code' ≡ names_code names' → length types ≡ length types' → (r : Bool)
      → (IsTrue r ↔ code ≡ code') → IsTrue r ↔ HaveSameNames a b
  one_length coded coded' even r told = (
    λ t. (
      ap field_names (sym is) ∙ names_told names names' (sym coded ∙ told.0 t ∙ coded') ∙ ap field_names is',
      count_of ∙ even ∙ sym count_of',
    ),
    λ h. told.1 (coded ∙ ap names_code (ap field_names is ∙ h.0 ∙ ap field_names (sym is')) ∙ sym coded'),
  )

  pub other_length : (r : Bool) → r ≡ false → (length types ≡ length types' → ⊥) → IsTrue r ↔ HaveSameNames a b
  other_length r e uneven = (
    λ t. absurd (let z = sym e ∙ t in cc),
    λ h. absurd (uneven (sym count_of ∙ h.1 ∙ count_of')),
  )
