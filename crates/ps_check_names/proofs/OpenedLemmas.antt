-- A search through opened records looks into the last of them first.
use Rattle.std.proofs.Common.{◌≡◌, ◌+◌, ◌<◌, ◌≤◌, ◌-◌, ◌⊎◌, inl, inr, arith, ℕ, zero, suc, List, [], ◌∷◌, ◌++◌, length}
use Rattle.std.proofs.Common.{take, drop, Some, None, slice_get, Result, Ok, Err, IfOk, IfErr, refl, sym, ap, ◌∙◌}
use Rattle.std.specs.Prelude.{if◌then◌else◌}
use Rattle.std.proofs.Math.Nat.{eq-or-lt_of_le}
use Rattle.std.proofs.lemmas.Bool.{lt-ltb, le-ltb}
use Rattle.std.proofs.lemmas.List.{take-append-drop, length-drop}
use Rattle.ps_tree.specs.declared.types.Ty.{Ty}
use Rattle.ps_tree.specs.Types.{DataType, field_in}
use Rattle.ps_tree.specs.View.{type_of}
use Rattle.ps_check_judgement.specs.Judged.{Yes, No, ◌>>=◌, some_or}
use Rattle.ps_check_names.specs.Regions.{Region, RecordRegion, fields_of, FieldPoint, one_more, missing, in_record}
use Rattle.ps_check_names.specs.Regions.{find_past}
use Rattle.ps_check_names.specs.declared.scope.Lookup.{Lookup}
use Rattle.ps_check_names.specs.Views.{opened_in, found}
use Rattle.ps_check_names.specs.Opened.{NoneBehind}

-- the region of a record that a `with` opens
abbrev pub opened_region : Ty → Region
opened_region ty = RecordRegion (type_of ty) (fields_of (type_of ty))

pub opened_push : (Γ : List Region) (types : List Ty) (ty : Ty) → opened_in Γ (types ++ ty ∷ []) ≡ opened_region ty
    ∷ opened_in Γ types
unfolding opened_in
opened_push Γ [] ty = refl
opened_push Γ (t ∷ types) ty = opened_push (opened_region t ∷ Γ) types ty

pub opened_none : (Γ : List Region) (types : List Ty) → length types ≡ 0 → opened_in Γ types ≡ Γ
unfolding opened_in
opened_none Γ [] e = refl
opened_none Γ (t ∷ types) e = absurd (let k : ⊥ = omega (arith, e) in k)

-- records opened within others
pub opened_both : (Γ : List Region) (types more : List Ty) → opened_in Γ (types ++ more) ≡ opened_in
    (opened_in Γ types) more
unfolding opened_in
opened_both Γ [] more = refl
opened_both Γ (t ∷ types) more = opened_both (opened_region t ∷ Γ) types more

one_more_is : (n : ℕ) → n < 4294967295 → one_more n ≡ Some (n + 1)
one_more_is n l = ap (λ b. if b then Some (n + 1) else None) (lt-ltb n 4294967295 l)

no_more_is : (n : ℕ) → 4294967295 ≤ n → one_more n ≡ None
no_more_is n l = ap (λ b. if b then Some (n + 1) else None) (le-ltb n 4294967295 l)

module _ (up : ℕ) (s : List ℕ) (at : ℕ) where
  past_one : (Γ : List Region) (t : Ty) (n : ℕ) → field_in (fields_of (type_of t)) s ≡ None → find_past up n
      (opened_region t ∷ Γ) s at ≡ (some_or (missing s) at (one_more n) >>= (λ n. find_past up n Γ s at))
  unfolding find_past
  past_one Γ t n e = ap (λ o. in_record n (type_of t) o
      (some_or (missing s) at (one_more n) >>= (λ n. find_past up n Γ s at))) e

  -- records that don't have the name are passed, as far as they can be counted
  pub past_all : (types : List Ty) → ((k : ℕ) (ty : Ty) → slice_get types k ≡ Some ty → field_in
      (fields_of (type_of ty)) s ≡ None) → (Γ : List Region) (which : ℕ) → which + length types ≤ 4294967295
      → find_past up which (opened_in Γ types) s at ≡ find_past up (which + length types) Γ s at
  unfolding opened_in
  past_all [] none Γ which few = let z : which ≡ which + 0 = omega arith in ap (λ n. find_past up n Γ s at) z
  past_all (t ∷ types) none Γ which few =
      past_all types (λ k ty e. none (suc k) ty e) (opened_region t ∷ Γ) which (omega (arith, few))
      ∙ past_one Γ t (which + length types) (none 0 t refl)
      ∙ ap (λ o. some_or (missing s) at o >>= (λ n. find_past up n Γ s at))
      (one_more_is (which + length types) (omega (arith, few)))
      ∙ (let z : which + length types + 1 ≡ which + suc (length types) = omega arith
      in ap (λ n. find_past up n Γ s at) z)

  pub past_uncounted : (types : List Ty) → ((k : ℕ) (ty : Ty) → slice_get types k ≡ Some ty → field_in
      (fields_of (type_of ty)) s ≡ None) → (Γ : List Region) (which : ℕ) → which ≤ 4294967295 → 4294967295 < which
      + length types → find_past up which (opened_in Γ types) s at ≡ No (missing s) at
  unfolding opened_in
  past_uncounted [] none Γ which low high = absurd (omega (arith, low, high))
  past_uncounted (t ∷ types) none Γ which low high = by
      (eq-or-lt_of_le (let z : 4294967295 ≤ which + length types = omega (arith, high) in z))
      (past_uncounted types (λ k ty e. none (suc k) ty e) (opened_region t ∷ Γ) which low)
    where
      by : (4294967295 ≡ which + length types) ⊎ (4294967295 < which + length types) → (4294967295 < which
          + length types → find_past up which (opened_in (opened_region t ∷ Γ) types) s at ≡ No (missing s) at)
          → find_past up which (opened_in (opened_region t ∷ Γ) types) s at ≡ No (missing s) at
      by (inr h) rest = rest h
      by (inl h) rest =
          past_all types (λ k ty e. none (suc k) ty e) (opened_region t ∷ Γ) which (omega (arith, h))
          ∙ past_one Γ t (which + length types) (none 0 t refl)
          ∙ ap (λ o. some_or (missing s) at o >>= (λ n. find_past up n Γ s at))
          (no_more_is (which + length types) (omega (arith, h)))

get_behind : {A : Type 0} (n : ℕ) (xs : List A) (k : ℕ) → slice_get (drop n xs) k ≡ slice_get xs (n + k)
get_behind zero xs k = let z : k ≡ 0 + k = omega arith in ap (slice_get xs) z
get_behind (suc n) [] k = refl
get_behind (suc n) (x ∷ xs) k = get_behind n xs k
    ∙ (let z : suc (n + k) ≡ suc n + k = omega arith in ap (slice_get (x ∷ xs)) z)

-- none of the records from place n on has the name
module _ (records : List Ty) (n : ℕ) (s : List ℕ) (none : NoneBehind records n s) (up which at : ℕ)
    (Γ : List Region) where
  none_of_them : (k : ℕ) (ty : Ty) → slice_get (drop n records) k ≡ Some ty → field_in (fields_of (type_of ty)) s ≡ None
  none_of_them k ty e = none k ty (sym (get_behind n records k) ∙ e)

  in_two : opened_in Γ records ≡ opened_in (opened_in Γ (take n records)) (drop n records)
  in_two = ap (opened_in Γ) (sym (take-append-drop n records)) ∙ opened_both Γ (take n records) (drop n records)

  pub behind_passed : (passed : ℕ) → passed ≡ which + (length records - n) → passed ≤ 4294967295 → find_past up which
      (opened_in Γ records) s at ≡ find_past up passed (opened_in Γ (take n records)) s at
  behind_passed passed is few =
      let m : which + length (drop n records) ≡ passed = ap (λ k. which + k) (length-drop n records) ∙ sym is in
      ap (λ l. find_past up which l s at) in_two
      ∙ past_all up s at (drop n records) none_of_them (opened_in Γ (take n records)) which (omega (arith, m, few))
      ∙ ap (λ k. find_past up k (opened_in Γ (take n records)) s at) m

  pub behind_uncounted : which ≤ 4294967295 → 4294967295 < which + (length records - n) → find_past up which
      (opened_in Γ records) s at ≡ No (missing s) at
  behind_uncounted low high =
      let m : length (drop n records) ≡ length records - n = length-drop n records in
      ap (λ l. find_past up which l s at) in_two
      ∙ past_uncounted up s at (drop n records) none_of_them (opened_in Γ (take n records)) which low
      (rw (sym m) at high)

-- what the search in those before it gives
module _ (records : List Ty) (n : ℕ) (s : List ℕ) (none : NoneBehind records n s) (which passed : ℕ) (before : List Ty)
    (is : before ≡ take n records) (all : passed ≡ which + (length records - n)) (few : passed ≤ 4294967295) where
  in_those : (up at : ℕ) (Γ : List Region) → find_past up which (opened_in Γ records) s at ≡ find_past up passed
      (opened_in Γ before) s at
  in_those up at Γ = behind_passed records n s none up which at Γ passed all few
      ∙ ap (λ l. find_past up passed (opened_in Γ l) s at) (sym is)

  pub ok_behind : (r : Result ℕ Lookup) → IfOk r
      (λ m. (up at : ℕ) (Γ : List Region) → find_past up passed (opened_in Γ before) s at ≡ find_past up m Γ s at)
      → IfOk r (λ m. (up at : ℕ) (Γ : List Region) → find_past up which (opened_in Γ records) s at
      ≡ find_past up m Γ s at)
  ok_behind (Ok m) h = λ up at Γ. in_those up at Γ ∙ h up at Γ
  ok_behind (Err e) h = h

  pub err_behind : (r : Result ℕ Lookup) → IfErr r
      (λ e. (up at : ℕ) (Γ : List Region) → find_past up passed (opened_in Γ before) s at ≡ found at e) → IfErr r
      (λ e. (up at : ℕ) (Γ : List Region) → find_past up which (opened_in Γ records) s at ≡ found at e)
  err_behind (Ok m) h = h
  err_behind (Err e) h = λ up at Γ. in_those up at Γ ∙ h up at Γ

module _ (types rest : List Ty) (ty : Ty) (parts : types ≡ rest ++ ty ∷ []) (up which : ℕ) (s : List ℕ) (at : ℕ)
    (Γ : List Region) where
  last_first : find_past up which (opened_in Γ types) s at ≡ in_record which (type_of ty)
      (field_in (fields_of (type_of ty)) s) (some_or (missing s) at (one_more which)
      >>= (λ n. find_past up n (opened_in Γ rest) s at))
  unfolding find_past
  last_first = ap (λ l. find_past up which l s at) (ap (opened_in Γ) parts ∙ opened_push Γ rest ty)

  -- the last has a field of the name
  pub last_has : (f : ℕ × DataType) → field_in (fields_of (type_of ty)) s ≡ Some f → find_past up which
      (opened_in Γ types) s at ≡ Yes (FieldPoint which (type_of ty) f.0 f.1)
  last_has f e = last_first ∙ ap (λ o. in_record which (type_of ty) o
      (some_or (missing s) at (one_more which) >>= (λ n. find_past up n (opened_in Γ rest) s at))) e

  -- it has none, and one more can't be counted
  pub last_uncounted : field_in (fields_of (type_of ty)) s ≡ None → one_more which ≡ None → find_past up which
      (opened_in Γ types) s at ≡ No (missing s) at
  last_uncounted e n = last_first ∙ rw (e, n) refl

  -- it has none
  pub last_passed : (next : ℕ) → field_in (fields_of (type_of ty)) s ≡ None → one_more which ≡ Some next
      → find_past up which (opened_in Γ types) s at ≡ find_past up next (opened_in Γ rest) s at
  last_passed next e n = last_first ∙ rw (e, n) refl
