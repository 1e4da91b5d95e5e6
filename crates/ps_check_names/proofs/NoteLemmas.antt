-- What is noted of the fields of opened records.
use Rattle.std.proofs.Common.{◌≡◌, ◌≢◌, ◌+◌, ◌<◌, ◌≤◌, ◌⊎◌, inl, inr, ℕ, zero, suc, Bool, true, false, not, ◌||◌}
use Rattle.std.proofs.Common.{List, [], ◌∷◌, ◌++◌, length, Option, Some, None, refl, sym, ap, ◌∙◌, cond, arith}
use Rattle.std.proofs.Common.{Result, Ok, Err, nat_eq, eqb-true, eq-eqb, slice_get, get_or, set}
use Rattle.std.specs.Prelude.{OnOk, if◌then◌else◌, option_and_then, option_map, nat_le}
use Rattle.std.specs.List.{list_any, position_from}
use Rattle.std.proofs.lemmas.List.{length-set, length-append, get_or-set_same, get_or-set_other, get_or_append_left}
use Rattle.std.proofs.Math.Nat.{eq-or-lt_of_le}
use Rattle.std.proofs.Math.Seq.{get_or-append_seam}
use Rattle.std.proofs.lemmas.Option.{slice_get_within, same_Some}
use Rattle.ps_tree.specs.declared.types.Ty.{Ty}
use Rattle.std.proofs.lemmas.Bool.{leb-true, leb-false, cases_lt}
use Rattle.ps_check_judgement.proofs.Impossible.{never, none_some}
use Rattle.ps_tree.specs.Types.{DataType, DataTypes, no_type, type_before, FieldList, field_list, field_in, field_at}
use Rattle.ps_tree.specs.Types.{type_at, type_count, HaveSameNames}
use Rattle.ps_tree.specs.Names.{same, has, place}
use Rattle.ps_tree.specs.View.{type_of}
use Rattle.ps_check_names.specs.Regions.{fields_of}
use Rattle.ps_check_names.specs.Opened.{HasField, at_place, reach_of, Covers, Keeps, Narrow, NoneBehind}
use Rattle.ps_check_names.specs.Sets.{Holds, Passed, Reached}
use Rattle.ps_check_names.proofs.SpellingLemmas.{same_equal, same_itself}

pub some_none : {A : Type 0} {x : A} → Some x ≡ None → ⊥
some_none q = cc

pub eq-or-not : (i j : ℕ) → (i ≡ j) ⊎ (i ≢ j)
eq-or-not i j = by (nat_eq i j) refl
  where
    by : (b : Bool) → nat_eq i j ≡ b → (i ≡ j) ⊎ (i ≢ j)
    by true q = inl (eqb-true i j q)
    by false q = inr (λ e. never (sym q ∙ eq-eqb i j e))

pub le-or-lt : (i j : ℕ) → (i ≤ j) ⊎ (j < i)
le-or-lt i j = by (nat_le i j) refl
  where
    by : (b : Bool) → nat_le i j ≡ b → (i ≤ j) ⊎ (j < i)
    by true q = inl (leb-true i j q)
    by false q = inr (leb-false i j q)

-- ---- places

module _ (s : List ℕ) where
  pub within_from : (n : ℕ) (xs : List (List ℕ)) (i : ℕ) → position_from (same s) n xs ≡ Some i → i < n + length xs
  within_from n [] i e = absurd (none_some e)
  within_from n (x ∷ xs) i e = here (same s x) e (within_from (n + 1) xs i)
    where
      here : (b : Bool) → cond b (Some n) (position_from (same s) (n + 1) xs) ≡ Some i
          → (position_from (same s) (n + 1) xs ≡ Some i → i < n + 1 + length xs) → i < n + suc (length xs)
      here true e rest = let z = same_Some n i e in omega (arith, z)
      here false e rest = let z = rest e in omega (arith, z)

  pub kept_from : (n : ℕ) (xs ys : List (List ℕ)) (i : ℕ) → position_from (same s) n xs ≡ Some i → position_from
      (same s) n
      (xs ++ ys) ≡ Some i
  kept_from n [] ys i e = absurd (none_some e)
  kept_from n (x ∷ xs) ys i e = here (same s x) e (kept_from (n + 1) xs ys i)
    where
      here : (b : Bool) → cond b (Some n) (position_from (same s) (n + 1) xs) ≡ Some i
          → (position_from (same s) (n + 1) xs ≡ Some i → position_from (same s) (n + 1) (xs ++ ys) ≡ Some i) → cond b
          (Some n) (position_from (same s) (n + 1) (xs ++ ys)) ≡ Some i
      here true e rest = e
      here false e rest = rest e

  pub new_from : (n : ℕ) (xs : List (List ℕ)) → position_from (same s) n xs ≡ None → position_from (same s) n
      (xs ++ s ∷ [])
      ≡ Some (n + length xs)
  new_from n [] e = ap (λ b. cond b (Some n) (position_from (same s) (n + 1) [])) (same_itself s)
      ∙ (let z : n ≡ n + 0 = omega arith in ap (λ k. Some k) z)
  new_from n (x ∷ xs) e = here (same s x) e (new_from (n + 1) xs)
    where
      here : (b : Bool) → cond b (Some n) (position_from (same s) (n + 1) xs) ≡ None
          → (position_from (same s) (n + 1) xs ≡ None → position_from (same s) (n + 1) (xs ++ s ∷ []) ≡ Some
          (n + 1 + length xs)) → cond b (Some n) (position_from (same s) (n + 1) (xs ++ s ∷ [])) ≡ Some
          (n + suc (length xs))
      here true e rest = absurd (some_none e)
      here false e rest = rest e ∙ (let z : n + 1 + length xs ≡ n + suc (length xs) = omega arith in ap (λ k. Some k) z)

  -- the name at the place of a spelling is that spelling
  pub placed : (n : ℕ) (xs : List (List ℕ)) (i : ℕ) → position_from (same s) n xs ≡ Some i → (m : ℕ) × (i ≡ n + m)
      × (slice_get xs m ≡ Some s)
  placed n [] i e = absurd (none_some e)
  placed n (x ∷ xs) i e = here (same s x) refl e (placed (n + 1) xs i)
    where
      here : (b : Bool) → same s x ≡ b → cond b (Some n) (position_from (same s) (n + 1) xs) ≡ Some i
          → (position_from (same s) (n + 1) xs ≡ Some i → (m : ℕ) × (i ≡ n + 1 + m) × (slice_get xs m ≡ Some s))
          → (m : ℕ) × (i ≡ n + m) × (slice_get (x ∷ xs) m ≡ Some s)
      here true q e rest = (
        0,
        sym (same_Some n i e) ∙ (let z : n ≡ n + 0 = omega arith in z),
        ap (λ y. Some y)
            (sym (same_equal s x q)),
      )
      here false q e rest = let r = rest e in (suc r.0, (let z = r.1 in omega (arith, z)), r.2)

-- ---- lists

pub last_or : {A : Type 0} (xs : List A) (y : A) (i : ℕ) (x : A) (C : Type 0) → slice_get (xs ++ y ∷ []) i ≡ Some x
    → (slice_get xs i ≡ Some x → C) → (i ≡ length xs → y ≡ x → C) → C
last_or [] y zero x C e before last = last refl (same_Some y x e)
last_or [] y (suc i) x C e before last = absurd (none_some e)
last_or (z ∷ xs) y zero x C e before last = before e
last_or (z ∷ xs) y (suc i) x C e before last = last_or xs y i x C e before (λ q. last (ap suc q))

pub got : {A : Type 0} (xs : List A) (i : ℕ) (x : A) → i < length xs → x ≡ get_or xs i x → slice_get xs i ≡ Some x
got [] i x l e = absurd (omega (arith, l))
got (y ∷ xs) zero x l e = ap (λ z. Some z) (sym e)
got (y ∷ xs) (suc i) x l e = got xs i x (omega (arith, l)) e

-- ---- notes

pub keeps_same : (names : List (List ℕ)) (reaches : List ℕ) → Keeps names reaches names reaches
keeps_same names reaches = λ s. omega arith

pub keeps_both : (a : List (List ℕ)) (x : List ℕ) (b : List (List ℕ)) (y : List ℕ) (c : List (List ℕ)) (z : List ℕ)
    → Keeps a x b y → Keeps b y c z → Keeps a x c z
keeps_both a x b y c z h g = λ s. let p = h s in let q = g s in omega (arith, p, q)

pub or_any : {A : Type 0} (xs : List A) (i : ℕ) (d e : A) → i < length xs → get_or xs i d ≡ get_or xs i e
or_any [] i d e l = absurd (omega (arith, l))
or_any (x ∷ xs) zero d e l = refl
or_any (x ∷ xs) (suc i) d e l = or_any xs i d e (omega (arith, l))

-- a name that is there reaches further
pub further_room : (names : List (List ℕ)) (reaches : List ℕ) (s : List ℕ) (index : ℕ) → place names s ≡ Some index
    → length reaches ≡ length names → index < length reaches
further_room names reaches s index there even = let z = within_from s 0 names index there in omega (arith, z, even)

pub further_even : (names : List (List ℕ)) (reaches reaches' : List ℕ) (index new : ℕ) → length reaches ≡ length names
    → reaches' ≡ set reaches index new → length reaches' ≡ length names
further_even names reaches reaches' index new even is = ap length is ∙ length-set reaches index new ∙ even

module _ (names : List (List ℕ)) (reaches reaches' : List ℕ) (s : List ℕ) (index new : ℕ)
    (there : place names s ≡ Some index) (even : length reaches ≡ length names)
    (is : reaches' ≡ set reaches index new) where
  here_now : get_or reaches' index 0 ≡ new
  here_now = ap (λ l. get_or l index 0) is ∙ get_or-set_same reaches index new 0
      (further_room names reaches s index there even)

  pub further_keeps : get_or reaches index 0 ≤ new → Keeps names reaches names reaches'
  further_keeps grown = λ t. by (place names t)
    where
      at : (i : ℕ) → (i ≡ index) ⊎ (i ≢ index) → get_or reaches i 0 ≤ get_or reaches' i 0
      at i (inl e) = let f = ap (λ j. get_or reaches' j 0) e ∙ here_now in let g = ap (λ j. get_or reaches j 0) e in
          omega (arith, f, g, grown)
      at i (inr n) = let f = ap (λ l. get_or l i 0) is ∙ get_or-set_other reaches index i new 0 n in omega (arith, f)

      by : (o : Option ℕ) → at_place reaches o ≤ at_place reaches' o
      by None = omega arith
      by (Some i) = at i (eq-or-not i index)

  pub further_noted : (reach : ℕ) → reach ≤ new → reach ≤ reach_of names reaches' s
  further_noted reach far = let f = ap (at_place reaches') there ∙ here_now in omega (arith, f, far)

-- a new name
pub none_any : (s : List ℕ) (n : ℕ) (xs : List (List ℕ)) → position_from (same s) n xs ≡ None → list_any
    (same s) xs ≡ false
none_any s n [] e = refl
none_any s n (x ∷ xs) e = here (same s x) e (none_any s (n + 1) xs)
  where
    here : (b : Bool) → cond b (Some n) (position_from (same s) (n + 1) xs) ≡ None
        → (position_from (same s) (n + 1) xs ≡ None → list_any (same s) xs ≡ false) → (b || list_any (same s) xs)
        ≡ false
    here true e rest = absurd (some_none e)
    here false e rest = rest e

module _ (names : List (List ℕ)) (reaches : List ℕ) (s : List ℕ) (reach : ℕ) (names' : List (List ℕ))
    (reaches' : List ℕ) (added : Bool) (new : place names s ≡ None) (even : length reaches ≡ length names)
    (a : added ≡ not (has names s)) (m : names' ≡ (if added then names ++ s ∷ [] else names))
    (r : reaches' ≡ reaches ++ reach ∷ []) where
  more_names : names' ≡ names ++ s ∷ []
  more_names = m ∙ ap (λ b. if b then names ++ s ∷ [] else names) (a ∙ ap not (none_any s 0 names new))

  pub more_even : length reaches' ≡ length names'
  more_even = let x = ap length r ∙ length-append reaches (reach ∷ []) in let y = ap length more_names
      ∙ length-append names (s ∷ []) in omega (arith, x, y, even)

  pub more_keeps : Keeps names reaches names' reaches'
  more_keeps = λ t. by t (place names t) refl
    where
      by : (t : List ℕ) (o : Option ℕ) → place names t ≡ o → at_place reaches o ≤ reach_of names' reaches' t
      by t None q = omega arith
      by t (Some i) q =
          let w = within_from t 0 names i q in
          let room : i < length reaches = omega (arith, w, even) in
          let f = ap (λ l. get_or l i 0) r ∙ get_or_append_left reaches (reach ∷ []) 0 i room in
          let p = ap (λ l. place l t) more_names ∙ kept_from t 0 names (s ∷ []) i q in
          let e = ap (at_place reaches') p in
          omega (arith, e, f)

  pub more_noted : reach ≤ reach_of names' reaches' s
  more_noted =
      let z : 0 + length names ≡ length reaches = omega (arith, even) in
      let p = ap (λ l. place l s) more_names ∙ new_from s 0 names new ∙ ap (λ n. Some n) z in
      let f : get_or reaches' (length reaches) 0 ≡ reach = ap (λ l. get_or l (length reaches) 0) r
      ∙ get_or-append_seam reaches reach [] 0 in
      let e = ap (at_place reaches') p ∙ f in
      omega (arith, e)

-- the names before index i are noted
abbrev pub Noted : (fields names : List (List ℕ)) (reaches : List ℕ) (reach i : ℕ) → Type 0
Noted fields names reaches reach i = (s : List ℕ) (m : ℕ) → m < i → slice_get fields m ≡ Some s → reach ≤ reach_of names
    reaches s

pub none_noted : (fields names : List (List ℕ)) (reaches : List ℕ) (reach : ℕ) → Noted fields names reaches reach 0
none_noted fields names reaches reach = λ s m l e. absurd (omega (arith, l))

pub noted_next : (fields names : List (List ℕ)) (reaches : List ℕ) (names' : List (List ℕ)) (reaches' : List ℕ)
    (reach i : ℕ) (x : List ℕ) → slice_get fields i ≡ Some x → Noted fields names reaches reach i
    → Keeps names reaches names' reaches' → reach ≤ reach_of names' reaches' x → Noted fields names' reaches' reach
    (i + 1)
noted_next fields names reaches names' reaches' reach i x is before keeps last = λ s m l e. by s m e
    (eq-or-lt_of_le (let z : m ≤ i = omega (arith, l) in z))
  where
    by : (s : List ℕ) (m : ℕ) → slice_get fields m ≡ Some s → (m ≡ i) ⊎ (m < i) → reach ≤ reach_of names' reaches' s
    by s m e (inr h) = let a = before s m h e in let b = keeps s in omega (arith, a, b)
    by s m e (inl h) = let z = ap (reach_of names' reaches')
        (same_Some x s (sym is ∙ ap (slice_get fields) (sym h) ∙ e)) in omega (arith, z, last)

-- each field of a record is noted
pub all_noted : (fields names : List (List ℕ)) (reaches : List ℕ) (reach i : ℕ) → length fields ≤ i
    → Noted fields names reaches reach i → (s : List ℕ) (m : ℕ) → place fields s ≡ Some m → reach ≤ reach_of names
    reaches s
all_noted fields names reaches reach i end noted s m e =
    let p = placed s 0 fields m e in
    let w = slice_get_within fields p.0 s p.2 in
    noted s p.0 (omega (arith, w, end)) p.2

-- ---- records

-- a field of a record has a place among the names of its fields
pub field_placed : (all : FieldList) (names fields : List (List ℕ)) (types : DataTypes) → all ≡ field_list names types
    → fields ≡ names → (s : List ℕ) (f : ℕ × DataType) → field_in all s ≡ Some f → (m : ℕ) × (place fields s ≡ Some m)
field_placed all names fields types parts same s f e = by (place fields s) refl
    (ap (λ o. option_and_then (field_at types) o) (ap (λ l. place l s) same)
    ∙ ap (λ l. field_in l s) (sym parts) ∙ e)
  where
    by : (o : Option ℕ) → place fields s ≡ o → option_and_then (field_at types) o ≡ Some f → (m : ℕ)
        × (place fields s ≡ Some m)
    by None q r = absurd (none_some r)
    by (Some m) q r = (m, q)

pub covers_none : (records : List Ty) (asked : ℕ) (names : List (List ℕ)) (reaches : List ℕ) (kinds : List ℕ → List ℕ)
    (present latest : List ℕ) → records ≡ [] → Covers records asked names reaches kinds present latest
covers_none records asked names reaches kinds present latest e = λ s k ty is has. absurd
    (none_some (ap (λ l. slice_get l k) (sym e) ∙ is))

-- a record of as many types and the same names has a field of each name too
type_there : (types others : DataTypes) → type_count types ≡ type_count others → (i : ℕ) (t : DataType)
    → type_at types i
    ≡ Some t → (u : DataType) × (type_at others i ≡ Some u)
type_there no_type others even i t e = absurd (none_some e)
type_there (type_before t ts) no_type even i x e = absurd (omega (arith, even))
type_there (type_before t ts) (type_before u us) even zero x e = (u, refl)
type_there (type_before t ts) (type_before u us) even (suc i) x e = type_there ts us (omega (arith, even)) i x e

field_there : (types others : DataTypes) → type_count types ≡ type_count others → (o : Option ℕ) (f : ℕ × DataType)
    → option_and_then (field_at types) o ≡ Some f → (g : ℕ × DataType) × (option_and_then (field_at others) o ≡ Some g)
field_there types others even None f e = absurd (none_some e)
field_there types others even (Some i) f e = by (nat_le i 4294967295) (type_at types i) refl e
  where
    by : (b : Bool) (o : Option DataType) → type_at types i ≡ o
        → (if b then option_map (λ type. (i, type)) o else None) ≡ Some f → (g : ℕ × DataType)
        × ((if b then option_map (λ type. (i, type)) (type_at others i) else None) ≡ Some g)
    by false o q e = absurd (none_some e)
    by true None q e = absurd (none_some e)
    by true (Some t) q e = let u = type_there types others even i t q in
        ((i, u.0), ap (option_map (λ type. (i, type))) u.1)

field_too : (a b : FieldList) → HaveSameNames a b → (s : List ℕ) (f : ℕ × DataType) → field_in b s ≡ Some f
    → (g : ℕ × DataType) × (field_in a s ≡ Some g)
field_too (field_list names types) (field_list names' types') same s f e =
    field_there types' types (sym same.1) (place names s) f
    (ap (λ l. option_and_then (field_at types') (place l s)) same.0 ∙ e)

pub has_fields : (ty other : Ty) (a b : FieldList) → fields_of (type_of ty) ≡ a → fields_of (type_of other) ≡ b
    → HaveSameNames a b → (s : List ℕ) → HasField other s → HasField ty s
has_fields ty other a b is is' same = λ s h.
    let g = field_too a b same s h.0 (ap (λ l. field_in l s) (sym is') ∙ h.1) in
    (g.0, ap (λ l. field_in l s) is ∙ g.1)

-- ---- the record behind the last

module _ (records : List Ty) (ty : Ty) (asked : ℕ) (names : List (List ℕ)) (reaches : List ℕ) (kinds : List ℕ → List ℕ)
    (present latest : List ℕ) (covers : Covers records asked names reaches kinds present latest) where
  -- its fields are noted, or it is asked
  pub covers_narrow : (asked' before : ℕ) (names' : List (List ℕ)) (reaches' : List ℕ) → before ≡ length records → asked
      ≤ asked' → Keeps names reaches names' reaches' → ((s : List ℕ) → HasField ty s → asked' < before + 1 → before + 1
      ≤ reach_of names' reaches' s) → Covers (records ++ ty ∷ []) asked' names' reaches' kinds present latest
  covers_narrow asked' before names' reaches' last more keeps noted = λ s k t is h apart passed. last_or records ty k
      t _
      is
      (λ e. let l = covers s k t e h (omega (arith, apart, more)) passed in let b = keeps s in omega (arith, l, b))
      (λ e f. let l = noted s (rw (sym f) at h) (omega (arith, apart, e, last)) in omega (arith, l, e, last))

  -- it is of a wide type
  pub covers_wide : (present' latest' : List ℕ) (number before : ℕ) → before ≡ length records
      → ((n : ℕ) → Holds present n → Holds present' n) → Holds present' number
      → ((n : ℕ) → get_or latest n 0 ≤ get_or latest' n 0) → before + 1 ≤ get_or latest' number 0
      → ((s : List ℕ) → HasField ty s → Holds (kinds s) number) → Covers (records ++ ty ∷ []) asked names reaches kinds
      present' latest'
  covers_wide present' latest' number before last kept there further reach has = λ s k t is h apart passed. last_or
      records
      ty k t _ is
      (λ e. covers s k t e h apart
      (λ n kind here. let a = passed n kind (kept n here) in let b = further n in omega (arith, a, b)))
      (λ e f. absurd (let a = passed number (has s (rw (sym f) at h)) there in omega (arith, a, e, last, reach)))

-- ---- what is noted of a name

module _ (names : List (List ℕ)) (reaches : List ℕ) (s : List ℕ) (k n : ℕ) where
  pub unnoted : place names s ≡ None → k < reach_of names reaches s → k < n
  unnoted e l = absurd (let z = ap (at_place reaches) e in omega (arith, l, z))

  -- nothing stands at its place
  pub noted_past : (index : ℕ) → place names s ≡ Some index → slice_get reaches index ≡ None → k < reach_of names
      reaches s → k < n
  noted_past index e none l = absurd (past reaches index none (let z = ap (at_place reaches) e in omega (arith, l, z)))
    where
      past : (xs : List ℕ) (i : ℕ) → slice_get xs i ≡ None → k < get_or xs i 0 → ⊥
      past [] i e l = omega (arith, l)
      past (x ∷ xs) zero e l = some_none e
      past (x ∷ xs) (suc i) e l = past xs i e l

  pub noted_to : (index m : ℕ) → place names s ≡ Some index → slice_get reaches index ≡ Some m → k < reach_of names
      reaches s → k < m
  noted_to index m e is l = to reaches index is (let z = ap (at_place reaches) e in omega (arith, l, z))
    where
      to : (xs : List ℕ) (i : ℕ) → slice_get xs i ≡ Some m → k < get_or xs i 0 → k < m
      to [] i e l = absurd (none_some e)
      to (x ∷ xs) zero e l = let z = same_Some x m e in omega (arith, l, z)
      to (x ∷ xs) (suc i) e l = to xs i e l

-- ---- the records up to the last that may have the field

-- behind the last of each wide type that has the name
pub narrow_noted : (records : List Ty) (asked : ℕ) (names : List (List ℕ)) (reaches : List ℕ) (kinds : List ℕ → List ℕ)
    (present latest : List ℕ) (s : List ℕ) (a c n : ℕ) → Covers records asked names reaches kinds present latest
    → ((k : ℕ) → k < reach_of names reaches s → k < a)
    → ((k : ℕ) (ty : Ty) → k < asked → slice_get records k ≡ Some ty → HasField ty s → k < c) → a ≤ n → c ≤ n → Narrow
    records kinds present latest s n
narrow_noted records asked names reaches kinds present latest s a c n covers noted first more also = λ k ty e h
    passed. by
    k ty e h passed (cases_lt k asked)
  where
    by : (k : ℕ) (ty : Ty) → slice_get records k ≡ Some ty → HasField ty s → Passed (kinds s) present latest k
        → (k < asked) ⊎ (asked ≤ k) → k < n
    by k ty e h passed (inl l) = let z = first k ty l e h in omega (arith, z, also)
    by k ty e h passed (inr l) = let z = noted k (covers s k ty e h l passed) in omega (arith, z, more)

-- and among them
pub none_behind : (records : List Ty) (kinds : List ℕ → List ℕ) (present latest : List ℕ) (s : List ℕ) (a b reach n : ℕ)
    → Narrow records kinds present latest s a → ((k : ℕ) → Reached (kinds s) present latest k → k < b) → a ≤ reach → b
    ≤ reach → ((k : ℕ) → k < length records → k < reach → k < n) → NoneBehind records n s
none_behind records kinds present latest s a b reach n narrow wide more also all = λ k ty e. by k ty e
    (field_in (fields_of (type_of ty)) s) refl
  where
    -- what is passed, or a type that isn't
    within : (k m : ℕ) → (m ≤ k) ⊎ (k < m) → (k < b → m ≤ k) → (k < m → k < b) → m ≤ k
    within k m (inl l) f g = l
    within k m (inr l) f g = f (g l)

    before : (k : ℕ) (ty : Ty) → slice_get records k ≡ Some ty → HasField ty s → n ≤ k → ⊥
    before k ty e h over =
        let room = slice_get_within records k ty e in
        let passed : Passed (kinds s) present latest k = λ m kind here. within k (get_or latest m 0)
        (le-or-lt (get_or latest m 0) k)
        (λ less. absurd (let z = all k room (omega (arith, less, also)) in omega (arith, z, over)))
        (λ more. wide k (m, kind, here, more)) in
        let l = narrow k ty e h passed in
        let z = all k room (omega (arith, l, more)) in
        omega (arith, z, over)

    by : (k : ℕ) (ty : Ty) → slice_get records (n + k) ≡ Some ty → (o : Option (ℕ × DataType)) → field_in
        (fields_of (type_of ty)) s ≡ o → field_in (fields_of (type_of ty)) s ≡ None
    by k ty e None q = q
    by k ty e (Some f) q = absurd (before (n + k) ty e (f, q) (omega arith))

-- what is noted of one record more
pub record_noted : (ty : Ty) (fields names : List (List ℕ)) (reaches : List ℕ) (reach asked : ℕ)
    → ((s : List ℕ) → HasField ty s → (m : ℕ) × (place fields s ≡ Some m))
    → ((s : List ℕ) (m : ℕ) → place fields s ≡ Some m → reach ≤ reach_of names reaches s) → (s : List ℕ) → HasField ty s
    → asked < reach → reach ≤ reach_of names reaches s
record_noted ty fields names reaches reach asked has noted s h l = let m = has s h in noted s m.0 m.1

pub record_asked : (ty : Ty) (names : List (List ℕ)) (reaches : List ℕ) (reach asked : ℕ) → reach ≤ asked
    → (s : List ℕ) → HasField ty s → asked < reach → reach ≤ reach_of names reaches s
record_asked ty names reaches reach asked l s h m = absurd (omega (arith, l, m))

-- what follows where a call succeeded
pub on_ok : {X E A B : Type 0} (r : Result X E) → OnOk r A → (A → B) → OnOk r B
on_ok (Ok x) h f = f h
on_ok (Err e) h f = h

pub on_ok_both : {X E A B C : Type 0} (r : Result X E) → OnOk r A → OnOk r B → (A → B → C) → OnOk r C
on_ok_both (Ok x) h g f = f h g
on_ok_both (Err e) h g f = h

-- the first i of the records are asked
abbrev pub AskedTo : (records : List Ty) (s : List ℕ) (i n : ℕ) → Type 0
AskedTo records s i n = (k : ℕ) (ty : Ty) → k < i → slice_get records k ≡ Some ty → HasField ty s → k < n

pub asked_start : (records : List Ty) (s : List ℕ) → AskedTo records s 0 0
asked_start records s = λ k ty l e h. absurd (omega (arith, l))

pub asked_next : (records : List Ty) (s : List ℕ) (i n here n' : ℕ) → AskedTo records s i n
    → ((ty : Ty) → slice_get records i ≡ Some ty → HasField ty s → i < here) → n ≤ n' → here ≤ n' → AskedTo records s
    (i + 1) n'
asked_next records s i n here n' so_far last more also = λ k ty l e h. by k ty e h
    (eq-or-lt_of_le (let z : k ≤ i = omega (arith, l) in z))
  where
    by : (k : ℕ) (ty : Ty) → slice_get records k ≡ Some ty → HasField ty s → (k ≡ i) ⊎ (k < i) → k < n'
    by k ty e h (inr l) = let z = so_far k ty l e h in omega (arith, z, more)
    by k ty e h (inl q) = let z = last ty (ap (slice_get records) (sym q) ∙ e) h in omega (arith, z, also, q)

pub asked_end : (records : List Ty) (s : List ℕ) (i count n : ℕ) → count ≤ i → AskedTo records s i n → (k : ℕ) (ty : Ty)
    → k < count → slice_get records k ≡ Some ty → HasField ty s → k < n
asked_end records s i count n end so_far k ty l e h = so_far k ty (omega (arith, l, end)) e h

-- one without the field, or none at all
pub no_field : (ty : Ty) (s : List ℕ) (k n : ℕ) → field_in (fields_of (type_of ty)) s ≡ None → HasField ty s → k < n
no_field ty s k n none h = absurd (none_some (sym none ∙ h.1))

pub no_record : (records : List Ty) (ty : Ty) (k n : ℕ) → slice_get records k ≡ None → slice_get records k ≡ Some ty
    → k < n
no_record records ty k n none is = absurd (none_some (sym none ∙ is))
