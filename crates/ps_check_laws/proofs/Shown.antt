-- The routines gathered at a place of the text, given the checked program: its first ones, except for those that are
-- vacant there.
use Rattle.std.proofs.Common.{◌≡◌, ℕ, zero, suc, ◌+◌, ◌<◌, ◌≤◌, Bool, true, false, if◌then◌else◌, List, [], ◌∷◌, ◌++◌}
use Rattle.std.proofs.Common.{length, map, take, drop, nat_eq, Option, Some, None, slice_get, slice_set, refl, sym, ap}
use Rattle.std.proofs.Common.{◌∙◌, eqb-true, arith}
use Rattle.std.proofs.lemmas.Bool.{ne_eqb}
use Rattle.std.proofs.lemmas.Option.{same_Some}
use Rattle.ps_tree.specs.Tree as Tree
use Rattle.ps_check_judgement.specs.declared.refusal.Rule.TheVariants.{Limit}
use Rattle.ps_check_judgement.specs.Judged.{Yes, ◌>>=◌, some_or, traverse}
use Rattle.ps_check_judgement.proofs.Impossible.{none_some}
use Rattle.ps_check_laws.proofs.Lists.{take_next}

-- ---- numbers

equal_at : (m k : ℕ) (b : Bool) → nat_eq m k ≡ b → (m ≡ k → ⊥) → b ≡ false
equal_at m k true e differs = absurd (differs (eqb-true m k e))
equal_at m k false e differs = refl

-- ---- parts of lists

pub split_at : {A : Type 0} (xs : List A) (i : ℕ) (x : A) → slice_get xs i ≡ Some x → xs ≡ take i xs ++ x ∷ drop
    (suc i) xs
split_at [] i x e = absurd (none_some e)
split_at (y ∷ xs) zero x e = ap (λ z. z ∷ xs) (same_Some y x e)
split_at (y ∷ xs) (suc i) x e = ap (λ l. y ∷ l) (split_at xs i x e)

pub take_many : {A : Type 0} (n : ℕ) (xs : List A) → n ≤ length xs → length (take n xs) ≡ n
take_many zero xs l = refl
take_many (suc n) [] l = absurd (omega (arith, l))
take_many (suc n) (x ∷ xs) l = ap suc (take_many n xs (omega (arith, l)))

pub take_add : {A : Type 0} (n m : ℕ) (xs : List A) → take (n + m) xs ≡ take n xs ++ take m (drop n xs)
take_add zero m xs = let z : 0 + m ≡ m = omega arith in ap (λ k. take k xs) z
take_add (suc n) m [] = let z : suc n + m ≡ suc (n + m) = omega arith in ap (λ k. take k []) z ∙ none m
  where
    none : {A : Type 0} (m : ℕ) → (let l : List A = [] in l) ≡ take m []
    none zero = refl
    none (suc m) = refl
take_add (suc n) m (x ∷ xs) = let z : suc n + m ≡ suc (n + m) = omega arith in ap (λ k. take k (x ∷ xs)) z
    ∙ ap (λ l. x ∷ l) (take_add n m xs)

pub drop_left : {A : Type 0} (xs ys : List A) → drop (length xs) (xs ++ ys) ≡ ys
drop_left [] ys = refl
drop_left (x ∷ xs) ys = drop_left xs ys

pub get_take : {A : Type 0} (xs : List A) (n i : ℕ) → i < n → slice_get (take n xs) i ≡ slice_get xs i
get_take xs zero i l = absurd (omega (arith, l))
get_take [] (suc n) i l = refl
get_take (x ∷ xs) (suc n) zero l = refl
get_take (x ∷ xs) (suc n) (suc i) l = get_take xs n i (omega (arith, l))

-- ---- routines that are shown

abbrev pub shown_from : (ℕ → Bool) → ℕ → List Tree.Routine → List (Option Tree.Routine)
shown_from vacant n [] = []
shown_from vacant n (r ∷ rs) = (if vacant n then None else Some r) ∷ shown_from vacant (n + 1) rs

pub shown_length : (vacant : ℕ → Bool) (n : ℕ) (rs : List Tree.Routine) → length (shown_from vacant n rs) ≡ length rs
shown_length vacant n [] = refl
shown_length vacant n (r ∷ rs) = ap suc (shown_length vacant (n + 1) rs)

pub shown_get : (vacant : ℕ → Bool) (n : ℕ) (rs : List Tree.Routine) (i : ℕ) (r : Tree.Routine) → slice_get rs i
    ≡ Some r → slice_get (shown_from vacant n rs) i ≡ Some (if vacant (n + i) then None else Some r)
shown_get vacant n [] i r e = absurd (none_some e)
shown_get vacant n (x ∷ rs) zero r e = let z : n ≡ n + 0 = omega arith
    in ap (λ k. Some (if vacant k then None else Some x)) z ∙ ap (λ y. Some (if vacant (n + 0) then None else Some y))
    (same_Some x r e)
shown_get vacant n (x ∷ rs) (suc i) r e = let z : (n + 1) + i ≡ n + suc i = omega arith in shown_get vacant
    (n + 1) rs i r e ∙ ap (λ k. Some (if vacant k then None else Some r)) z

pub shown_same : (vacant other : ℕ → Bool) (n : ℕ) (rs : List Tree.Routine)
    → ((m : ℕ) → n ≤ m → m < n + length rs → vacant m ≡ other m) → shown_from vacant n rs ≡ shown_from other n rs
shown_same vacant other n [] same = refl
shown_same vacant other n (r ∷ rs) same =
    ap (λ b. (if b then None else Some r) ∷ shown_from vacant (n + 1) rs) (same n (omega arith) (omega arith))
    ∙ ap (λ l. (if other n then None else Some r) ∷ l)
    (shown_same vacant other (n + 1) rs (λ m l k. same m (omega (arith, l)) (omega (arith, k))))

pub shown_append : (vacant : ℕ → Bool) (n : ℕ) (xs ys : List Tree.Routine) → shown_from vacant n (xs ++ ys)
    ≡ shown_from vacant n xs ++ shown_from vacant (n + length xs) ys
shown_append vacant n [] ys = let z : n ≡ n + 0 = omega arith in ap (λ k. shown_from vacant k ys) z
shown_append vacant n (x ∷ xs) ys =
    let z : (n + 1) + length xs ≡ n + suc (length xs) = omega arith in
    ap (λ l. (if vacant n then None else Some x) ∷ l)
    (shown_append vacant (n + 1) xs ys ∙ ap (λ k. shown_from vacant (n + 1) xs ++ shown_from vacant k ys) z)

pub shown_all : (vacant : ℕ → Bool) (n : ℕ) (rs : List Tree.Routine) → ((m : ℕ) → n ≤ m → vacant m ≡ false)
    → shown_from vacant n rs ≡ map (λ r. Some r) rs
shown_all vacant n [] none = refl
shown_all vacant n (r ∷ rs) none =
    ap (λ b. (if b then None else Some r) ∷ shown_from vacant (n + 1) rs) (none n (omega arith)) ∙ ap (λ l. Some r ∷ l)
    (shown_all vacant (n + 1) rs (λ m l. none m (omega (arith, l))))

-- one more is vacant
abbrev pub opened : ℕ → (ℕ → Bool) → ℕ → Bool
opened k vacant m = if nat_eq m k then true else vacant m

-- one of them is closed
abbrev pub closed : ℕ → (ℕ → Bool) → ℕ → Bool
closed k vacant m = if nat_eq m k then false else vacant m

pub shown_set : (vacant : ℕ → Bool) (n : ℕ) (rs : List Tree.Routine) (i : ℕ) (r : Tree.Routine) → slice_get rs i
    ≡ Some r → slice_set (shown_from vacant n rs) i (Some r) ≡ shown_from (closed (n + i) vacant) n rs
shown_set vacant n [] i r e = absurd (none_some e)
shown_set vacant n (x ∷ rs) zero r e =
    let z : n ≡ n + 0 = omega arith in
    ap (λ y. Some y ∷ shown_from vacant (n + 1) rs) (sym (same_Some x r e))
    ∙ ap (λ l. Some x ∷ l) (shown_same vacant (closed (n + 0) vacant) (n + 1) rs
    (λ m l k. ap (λ b. if b then false else vacant m) (sym (ne_eqb m (n + 0) (λ q. omega (arith, q, l))))))
    ∙ ap (λ b. (if (if b then false else vacant n) then None else Some x) ∷ shown_from (closed (n + 0) vacant)
    (n + 1) rs) (sym (equal n (n + 0) z))
  where
    equal : (m k : ℕ) → m ≡ k → nat_eq m k ≡ true
    equal m k e = grind (arith, e)
shown_set vacant n (x ∷ rs) (suc i) r e =
    let z : (n + 1) + i ≡ n + suc i = omega arith in
    ap (λ b. (if (if b then false else vacant n) then None else Some x) ∷ slice_set (shown_from vacant (n + 1) rs) i
    (Some r)) (sym (ne_eqb n (n + suc i) (λ q. omega (arith, q))))
    ∙ ap (λ l. (if (closed (n + suc i) vacant n) then None else Some x) ∷ l)
    (shown_set vacant (n + 1) rs i r e ∙ ap (λ k. shown_from (closed k vacant) (n + 1) rs) z)

-- ---- the first routines of a program

module _ (routines : List Tree.Routine) where
  abbrev pub shown : (ℕ → Bool) → ℕ → List (Option Tree.Routine)
  shown vacant n = shown_from vacant 0 (take n routines)

  pub shown_many : (vacant : ℕ → Bool) (n : ℕ) → n ≤ length routines → length (shown vacant n) ≡ n
  shown_many vacant n l = shown_length vacant 0 (take n routines) ∙ take_many n routines l

  pub shown_at : (vacant : ℕ → Bool) (n i : ℕ) (r : Tree.Routine) → i < n → slice_get routines i ≡ Some r → slice_get
      (shown vacant n) i ≡ Some (if vacant i then None else Some r)
  shown_at vacant n i r l e = shown_get vacant 0 (take n routines) i r (get_take routines n i l ∙ e)
      ∙ (let z : 0 + i ≡ i = omega arith in ap (λ k. Some (if vacant k then None else Some r)) z)

  -- a new heading, which is vacant
  pub shown_new : (vacant : ℕ → Bool) (n : ℕ) (r : Tree.Routine) → slice_get routines n ≡ Some r → n ≤ length routines
      → shown vacant n ++ None ∷ [] ≡ shown (opened n vacant) (n + 1)
  shown_new vacant n r e l =
      let one : n + 1 ≡ suc n = omega arith in
      let many = take_many n routines l in
      let at : 0 + length (take n routines) ≡ n = omega (arith, many) in
      ap (λ l. l ++ None ∷ []) (shown_same vacant (opened n vacant) 0 (take n routines)
      (λ m low high. ap (λ b. if b then true else vacant m) (sym (ne_eqb m n (λ q. omega (arith, q, high, many))))))
      ∙ ap (λ b. shown_from (opened n vacant) 0 (take n routines)
      ++ (if (if b then true else vacant n) then None else Some r) ∷ []) (sym (itself n))
      ∙ ap (λ k. shown_from (opened n vacant) 0 (take n routines) ++ (if opened n vacant k then None else Some r) ∷ [])
      (sym at)
      ∙ sym (shown_append (opened n vacant) 0 (take n routines) (r ∷ [])) ∙ ap (shown_from (opened n vacant) 0)
      (sym (take_next routines n r e)) ∙ ap (λ k. shown (opened n vacant) k) (sym one)
    where
      itself : (m : ℕ) → nat_eq m m ≡ true
      itself m = grind arith

  -- a routine has its block
  pub shown_closed : (vacant : ℕ → Bool) (n i : ℕ) (r : Tree.Routine) → i < n → slice_get routines i ≡ Some r
      → slice_set (shown vacant n) i (Some r) ≡ shown (closed i vacant) n
  shown_closed vacant n i r l e = shown_set vacant 0 (take n routines) i r (get_take routines n i l ∙ e)
      ∙ (let z : 0 + i ≡ i = omega arith in ap (λ k. shown (closed k vacant) n) z)

  pub shown_alike : (vacant other : ℕ → Bool) (n : ℕ) → ((m : ℕ) → m < n → vacant m ≡ other m) → n ≤ length routines
      → shown vacant n ≡ shown other n
  shown_alike vacant other n same l = (let many = take_many n routines l in shown_same vacant other 0 (take n routines)
      (λ m low high. same m (omega (arith, high, many))))

  -- those from a number on, where none of them is vacant
  pub shown_rest : (vacant : ℕ → Bool) (n m : ℕ) → n ≤ length routines → ((k : ℕ) → n ≤ k → vacant k ≡ false) → drop n
      (shown vacant (n + m)) ≡ map (λ r. Some r) (take m (drop n routines))
  shown_rest vacant n m l none =
      let many = shown_many vacant n l in
      let at : 0 + length (take n routines) ≡ n = (let z = take_many n routines l in omega (arith, z)) in
      ap (λ xs. drop n (shown_from vacant 0 xs)) (take_add n m routines) ∙ ap (drop n)
      (shown_append vacant 0 (take n routines) (take m (drop n routines)))
      ∙ ap (λ k. drop k (shown vacant n ++ shown_from vacant (0 + length (take n routines)) (take m (drop n routines))))
      (sym many) ∙ drop_left (shown vacant n)
      (shown_from vacant (0 + length (take n routines)) (take m (drop n routines)))
      ∙ ap (λ k. shown_from vacant k (take m (drop n routines))) at ∙ shown_all vacant n (take m (drop n routines)) none

pub all_some : (at : ℕ) (rs : List Tree.Routine) → traverse (some_or Limit at) (map (λ r. Some r) rs) ≡ Yes rs
all_some at [] = refl
all_some at (r ∷ rs) = ap (λ o. o >>= (λ ys. Yes (r ∷ ys))) (all_some at rs)
