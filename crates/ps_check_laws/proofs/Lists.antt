-- Lists, and steps that were made.
use Rattle.std.proofs.Common.{◌≡◌, ℕ, zero, suc, ◌+◌, ◌<◌, ◌≤◌, Bool, true, false, ◌||◌, cond, List, [], ◌∷◌, ◌++◌}
use Rattle.std.proofs.Common.{length, take, drop, Option, Some, None, slice_get, slice_set, refl, ap, ◌∙◌}
use Rattle.std.proofs.Common.{arith}
use Rattle.std.specs.Prelude.{if◌then◌else◌}
use Rattle.std.specs.List.{position_from}
use Rattle.std.proofs.lemmas.Option.{same_Some}
use Rattle.std.proofs.lemmas.Bool.{or_parts}
use Rattle.ps_check_judgement.specs.Judged as j
use Rattle.ps_check_judgement.specs.Judged.{Judged, Yes, No}
use Rattle.ps_check_judgement.proofs.Binds.{no_yes, inside_yes}
use Rattle.ps_check_judgement.proofs.Impossible.{never, none_some}
use Rattle.ps_check_names.specs.Spelling.{same, has}
use Rattle.ps_check_laws.specs.Option.{◌>>=◌}
pub use Rattle.ps_check.specs.RegionNames.{Each}

-- ---- steps that were made

pub then_some : {A B : Type 0} (o : Option A) (f : A → Option B) (y : B) → (o >>= f) ≡ Some y → (x : A) × (o ≡ Some x)
    × (f x ≡ Some y)
then_some None f y h = absurd (none_some h)
then_some (Some x) f y h = (x, refl, h)

-- a judgement that changes nothing, and what comes after it
pub then_still : {A B D : Type 0} (q : Judged A) (d : D) (g : A × D → Judged B) (b : B) → j.◌>>=◌
    (j.◌>>=◌ q (λ a. Yes (a, d))) g ≡ Yes b → (a : A) × (q ≡ Yes a) × (g (a, d) ≡ Yes b)
then_still (Yes a) d g b e = (a, refl, e)
then_still (No rule at) d g b e = absurd (no_yes e)

-- the same at the end
pub last_still : {A D : Type 0} (q : Judged A) (d : D) (b : A × D) → j.◌>>=◌ q (λ a. Yes (a, d)) ≡ Yes b → (a : A)
    × (q ≡ Yes a) × ((a, d) ≡ b)
last_still (Yes a) d b e = (a, refl, inside_yes (a, d) b e)
last_still (No rule at) d b e = absurd (no_yes e)

pub some_if : {A : Type 0} (b : Bool) (x y : A) → (if b then Some x else None) ≡ Some y → (b ≡ true) × (x ≡ y)
some_if true x y h = (refl, same_Some x y h)
some_if false x y h = absurd (none_some h)

-- ---- items of lists

pub get_left : {A : Type 0} (xs ys : List A) (i : ℕ) → i < length xs → slice_get (xs ++ ys) i ≡ slice_get xs i
get_left [] ys i l = absurd (omega (arith, l))
get_left (x ∷ xs) ys zero l = refl
get_left (x ∷ xs) ys (suc i) l = get_left xs ys i (omega (arith, l))

pub get_at : {A : Type 0} (xs : List A) (y : A) (ys : List A) → slice_get (xs ++ y ∷ ys) (length xs) ≡ Some y
get_at [] y ys = refl
get_at (x ∷ xs) y ys = get_at xs y ys

-- an item is one of a list, or the one after it
pub get_last : {A : Type 0} (xs : List A) (y : A) (i : ℕ) (x : A) (C : Type 0) → slice_get (xs ++ y ∷ []) i ≡ Some x
    → (slice_get xs i ≡ Some x → C) → (i ≡ length xs → y ≡ x → C) → C
get_last [] y zero x C e before last = last refl (same_Some y x e)
get_last [] y (suc i) x C e before last = absurd (none_some e)
get_last (z ∷ xs) y zero x C e before last = before e
get_last (z ∷ xs) y (suc i) x C e before last = get_last xs y i x C e before (λ q. last (ap suc q))

pub take_left : {A : Type 0} (xs ys : List A) (i : ℕ) → i ≤ length xs → take i (xs ++ ys) ≡ take i xs
take_left xs ys zero l = refl
take_left [] ys (suc i) l = absurd (omega (arith, l))
take_left (x ∷ xs) ys (suc i) l = ap (λ l. x ∷ l) (take_left xs ys i (omega (arith, l)))

pub set_same : {A : Type 0} (xs : List A) (i : ℕ) (x y : A) → slice_get xs i ≡ Some x → slice_get (slice_set xs i y) i
    ≡ Some y
set_same [] i x y e = absurd (none_some e)
set_same (z ∷ xs) zero x y e = refl
set_same (z ∷ xs) (suc i) x y e = set_same xs i x y e

pub set_other : {A : Type 0} (xs : List A) (i j : ℕ) (y : A) → (i ≡ j → ⊥) → slice_get (slice_set xs j y) i
    ≡ slice_get xs i
set_other [] i j y e = refl
set_other (z ∷ xs) zero zero y e = absurd (e refl)
set_other (z ∷ xs) zero (suc j) y e = refl
set_other (z ∷ xs) (suc i) zero y e = refl
set_other (z ∷ xs) (suc i) (suc j) y e = set_other xs i j y (λ q. e (ap suc q))

-- ---- parts of lists

pub get_drop : {A : Type 0} (n : ℕ) (xs : List A) (i : ℕ) → slice_get (drop n xs) i ≡ slice_get xs (n + i)
get_drop zero xs i = let z : i ≡ 0 + i = omega arith in ap (slice_get xs) z
get_drop (suc n) [] i = refl
get_drop (suc n) (x ∷ xs) i = get_drop n xs i
    ∙ (let z : suc (n + i) ≡ suc n + i = omega arith in ap (slice_get (x ∷ xs)) z)

pub drop_length : {A : Type 0} (n : ℕ) (xs : List A) (m : ℕ) → length xs ≡ n + m → length (drop n xs) ≡ m
drop_length zero xs m e = e ∙ (let z : 0 + m ≡ m = omega arith in z)
drop_length (suc n) [] m e = absurd (omega (arith, e))
drop_length (suc n) (x ∷ xs) m e = drop_length n xs m (omega (arith, e))

pub take_length : {A : Type 0} (xs : List A) (k : ℕ) (x : A) → slice_get xs k ≡ Some x → length (take k xs) ≡ k
take_length [] k x e = absurd (none_some e)
take_length (y ∷ xs) zero x e = refl
take_length (y ∷ xs) (suc k) x e = ap suc (take_length xs k x e)

pub take_next : {A : Type 0} (xs : List A) (k : ℕ) (x : A) → slice_get xs k ≡ Some x → take (suc k) xs ≡ take k xs ++ x
    ∷ []
take_next [] k x e = absurd (none_some e)
take_next (y ∷ xs) zero x e = ap (λ z. z ∷ []) (same_Some y x e)
take_next (y ∷ xs) (suc k) x e = ap (λ l. y ∷ l) (take_next xs k x e)

pub take_drop : {A : Type 0} (n : ℕ) (xs : List A) → take n xs ++ drop n xs ≡ xs
take_drop zero xs = refl
take_drop (suc n) [] = refl
take_drop (suc n) (x ∷ xs) = ap (λ l. x ∷ l) (take_drop n xs)

pub take_all : {A : Type 0} (xs : List A) → take (length xs) xs ≡ xs
take_all [] = refl
take_all (x ∷ xs) = ap (λ l. x ∷ l) (take_all xs)

-- ---- numbers

pub compare : (k j : ℕ) (C : Type 0) → (k < j → C) → (k ≡ j → C) → (j < k → C) → C
compare zero zero C below same above = same refl
compare zero (suc j) C below same above = below (omega arith)
compare (suc k) zero C below same above = above (omega arith)
compare (suc k) (suc j) C below same above = compare k j C (λ l. below (omega (arith, l))) (λ q. same (ap suc q))
    (λ l. above (omega (arith, l)))

pub difference : (k j : ℕ) → k ≤ j → (m : ℕ) × (j ≡ k + m)
difference zero j l = (j, omega arith)
difference (suc k) zero l = absurd (omega (arith, l))
difference (suc k) (suc j) l = let r = difference k j (omega (arith, l)) in (r.0, (let z = r.1 in omega (arith, z)))

-- ---- places of names

pub has_append : (xs ys : List (List ℕ)) (s : List ℕ) → has (xs ++ ys) s ≡ (has xs s || has ys s)
has_append [] ys s = refl
has_append (x ∷ xs) ys s = at (same s x) (has_append xs ys s)
  where
    at : (b : Bool) → has (xs ++ ys) s ≡ (has xs s || has ys s) → (b || has (xs ++ ys) s)
        ≡ ((b || has xs s) || has ys s)
    at true e = refl
    at false e = e

-- the place of a name that is present
pub record Stands (n : ℕ) (xs ys : List (List ℕ)) (s : List ℕ) : Type 0 where
  pub index : ℕ
  pub found : position_from (same s) n (xs ++ ys) ≡ Some (n + index)
  pub below : index < length xs
  pub name : List ℕ
  pub there : slice_get xs index ≡ Some name
  pub alike : same s name ≡ true

stands_at : (n : ℕ) (x : List ℕ) (xs ys : List (List ℕ)) (s : List ℕ) (b : Bool) → same s x ≡ b → (b || has xs s) ≡ true
    → (has xs s ≡ true → Stands (n + 1) xs ys s) → Stands n (x ∷ xs) ys s
stands_at n x xs ys s true q e further = record {
  index = 0;
  found = ap (λ b. cond b (Some n) (position_from (same s) (n + 1) (xs ++ ys))) q
      ∙ (let z : n ≡ n + 0 = omega arith in ap (λ k. Some k) z);
  below = omega arith;
  name = x;
  there = refl;
  alike = q;
}
stands_at n x xs ys s false q e further =
    let r = further e in
    record {
      index = suc r.index;
      found = ap (λ b. cond b (Some n) (position_from (same s) (n + 1) (xs ++ ys))) q ∙ r.found
          ∙ (let z : (n + 1) + r.index ≡ n + suc r.index = omega arith in ap (λ k. Some k) z);
      below = (let l = r.below in omega (arith, l));
      name = r.name;
      there = r.there;
      alike = r.alike;
    }

pub there_place : (n : ℕ) (xs ys : List (List ℕ)) (s : List ℕ) → has xs s ≡ true → Stands n xs ys s
there_place n [] ys s e = never e
there_place n (x ∷ xs) ys s e = stands_at n x xs ys s (same s x) refl e (there_place (n + 1) xs ys s)

-- the place of a name that has none before
pub new_place : (n : ℕ) (xs ys : List (List ℕ)) (s x : List ℕ) → has xs s ≡ false → same s x ≡ true → position_from
    (same s) n (xs ++ x ∷ ys) ≡ Some (n + length xs)
new_place n [] ys s x e q = ap (λ b. cond b (Some n) (position_from (same s) (n + 1) ys)) q
    ∙ (let z : n ≡ n + 0 = omega arith in ap (λ k. Some k) z)
new_place n (y ∷ xs) ys s x e q =
    let h = or_parts (same s y) (has xs s) e in
    ap (λ b. cond b (Some n) (position_from (same s) (n + 1) (xs ++ x ∷ ys))) h.0 ∙ new_place (n + 1) xs ys s x h.1 q
    ∙ (let z : (n + 1) + length xs ≡ n + suc (length xs) = omega arith in ap (λ k. Some k) z)
