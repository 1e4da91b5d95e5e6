-- The cores of types, and those that a record type stores.
use Rattle.std.proofs.Common.{◌≡◌, ℕ, suc, ◌+◌, ◌<◌, ◌≤◌, min, nat_lt, Bool, true, false, if◌then◌else◌}
use Rattle.std.proofs.Common.{List, [], ◌∷◌, ◌++◌, length, drop, get_or, map, refl, sym, ap, ◌∙◌, append_assoc}
use Rattle.std.proofs.Common.{append-nil, arith}
use Rattle.std.proofs.Math.Seq.{drop-cons}
use Rattle.std.proofs.lemmas.List.{drop_all}
use Rattle.ps_tree.specs.declared.types.Ty.{Ty}
use Rattle.ps_tree.specs.Types.{DataType, DataTypes, type_before, listed}
use Rattle.ps_tree.specs.Sizes.{bytes}
use Rattle.ps_tree.specs.Cores.{core_of, cores_of, sole}
use Rattle.ps_tree.specs.TypeView.{type_of, types_of}

-- as lists
abbrev pub taken : Bool → DataType → List DataType → List DataType
taken b type rest = if b then (type ∷ rest) else rest

abbrev pub cores_in : List Ty → List DataType
cores_in [] = []
cores_in (t ∷ ts) = taken (nat_lt 0 (bytes (type_of t))) (core_of (type_of t)) (cores_in ts)

listed_taken : (b : Bool) (type : DataType) (rest : List DataType) (types : DataTypes) → listed rest ≡ types → listed
    (taken b type rest) ≡ (if b then (type_before type types) else types)
listed_taken true type rest types e = ap (type_before type) e
listed_taken false type rest types e = e

listed_cores : (ts : List Ty) → listed (cores_in ts) ≡ cores_of (types_of ts)
unfolding core_of
listed_cores [] = refl
listed_cores (t ∷ ts) = listed_taken (nat_lt 0 (bytes (type_of t))) (core_of (type_of t)) (cores_in ts)
    (cores_of (types_of ts)) (listed_cores ts)

-- the cores of the types before i are kept
pub record Kept (items : List Ty) (i : ℕ) (solid : List Ty) : Type 0 where
  pub whole : map type_of solid ++ cores_in (drop i items) ≡ cores_in items

pub kept_start : (items : List Ty) → Kept items 0 []
kept_start items = record { whole = refl }

next_taken : (items : List Ty) (i : ℕ) (t : Ty) (b : Bool) → i < length items → t ≡ get_or items i t → nat_lt 0
    (bytes (type_of t)) ≡ b → cores_in (drop i items) ≡ taken b (core_of (type_of t)) (cores_in (drop (i + 1) items))
next_taken items i t b h at e =
    let split : drop i items ≡ get_or items i t ∷ drop (suc i) items = drop-cons items i t h in
    let after : suc i ≡ i + 1 = omega arith in
    ap cores_in (split ∙ ap (λ j. get_or items i t ∷ drop j items) after)
    ∙ ap (λ x. taken (nat_lt 0 (bytes (type_of x))) (core_of (type_of x)) (cores_in (drop (i + 1) items))) (sym at)
    ∙ ap (λ c. taken c (core_of (type_of t)) (cores_in (drop (i + 1) items))) e

pub kept_passed : (items solid : List Ty) (i : ℕ) (t : Ty) → i < length items → t ≡ get_or items i t → min
    (bytes (type_of t)) 4294967295 ≡ 0 → Kept items i solid → Kept items (i + 1) solid
kept_passed items solid i t h at none k =
    let e : nat_lt 0 (bytes (type_of t)) ≡ false = grind arith in
    record { whole = ap (λ l. map type_of solid ++ l) (sym (next_taken items i t false h at e)) ∙ k.whole }

pub kept_next : (items solid new : List Ty) (i : ℕ) (t inner : Ty) → i < length items → t ≡ get_or items i t
    → ¬ (min (bytes (type_of t)) 4294967295 ≡ 0) → type_of inner ≡ core_of (type_of t) → new ≡ solid ++ inner ∷ []
    → Kept items i solid → Kept items (i + 1) new
kept_next items solid new i t inner h at some same n k =
    let e : nat_lt 0 (bytes (type_of t)) ≡ true = grind arith in
    let last : map type_of (solid ++ inner ∷ []) ≡ map type_of solid ++ core_of (type_of t) ∷ [] = mapped solid in
    record {
      whole = ap (λ l. map type_of l ++ cores_in (drop (i + 1) items)) n
          ∙ ap (λ l. l ++ cores_in (drop (i + 1) items)) last
          ∙ append_assoc (map type_of solid) (core_of (type_of t) ∷ []) (cores_in (drop (i + 1) items))
          ∙ ap (λ l. map type_of solid ++ l) (sym (next_taken items i t true h at e))
          ∙ k.whole;
    }
  where
    mapped : (l : List Ty) → map type_of (l ++ inner ∷ []) ≡ map type_of l ++ core_of (type_of t) ∷ []
    mapped [] = ap (λ d. d ∷ []) same
    mapped (x ∷ xs) = ap (λ r. type_of x ∷ r) (mapped xs)

pub kept_end : (items solid : List Ty) (i : ℕ) → length items ≤ i → Kept items i solid → types_of solid ≡ cores_of
    (types_of items)
kept_end items solid i h k =
    ap listed (sym (append-nil (map type_of solid))
    ∙ ap (λ l. map type_of solid ++ cores_in l) (sym (drop_all i items h))
    ∙ k.whole)
    ∙ listed_cores items

pub some_bytes : (n : ℕ) → ¬ (min n 4294967295 ≡ 0) → nat_lt 0 n ≡ true
some_bytes n h = grind arith

pub no_bytes : (n : ℕ) → min n 4294967295 ≡ 0 → nat_lt 0 n ≡ false
no_bytes n h = grind arith

pub sole_one : (ts : List Ty) (t other : Ty) → length ts ≡ 1 → t ≡ get_or ts 0 t → type_of t ≡ sole (types_of ts)
    (type_of other)
sole_one [] t other h at = absurd (omega (arith, h))
sole_one (x ∷ []) t other h at = ap type_of at
sole_one (x ∷ y ∷ rest) t other h at = absurd (omega (arith, h))

pub sole_other : (ts : List Ty) (other : Ty) → ¬ (length ts ≡ 1) → type_of other ≡ sole (types_of ts) (type_of other)
sole_other [] other h = refl
sole_other (x ∷ []) other h = absurd (h refl)
sole_other (x ∷ y ∷ rest) other h = refl
