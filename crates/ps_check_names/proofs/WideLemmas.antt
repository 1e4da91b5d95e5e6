-- Sets of numbers by their bits, and the wide record types that have a field of a name.
use Rattle.std.proofs.Common.{◌≡◌, ◌≢◌, ◌+◌, ◌-◌, ◌*◌, ◌/◌, ◌%◌, ◌<◌, ◌≤◌, ◌⊎◌, inl, inr, min, ℕ, zero, suc, Bool, not}
use Rattle.std.proofs.Common.{List, [], ◌∷◌, ◌++◌, length, map, Option, Some, None, refl, sym, ap, subst, ◌∙◌, arith}
use Rattle.std.proofs.Common.{slice_get, get_or, set, drop, w64, Fits}
use Rattle.std.specs.Prelude.{if◌then◌else◌, bit_and, bit_or}
use Rattle.std.specs.Int.{bit_at, trailing_zeros}
use Rattle.std.proofs.lemmas.List.{length-set, length-append, get_or-set_same, get_or-set_other, get_or_append_left}
use Rattle.std.proofs.lemmas.List.{get_or-drop, get_or_past}
use Rattle.std.proofs.lemmas.Nat.Bits.{bit_at_and, bit_at_or, bit_at-lt, bit_at-zero, bit_at_lowest, bit_at-suc}
use Rattle.std.proofs.lemmas.Nat.Bits.{bit_at-trailing_zeros}
use Rattle.std.proofs.lemmas.Option.{slice_get_within, same_Some}
use Rattle.std.proofs.Math.Facts.{Fits-lt-pow}
use Rattle.std.proofs.Math.Nat.{eq-or-lt_of_le}
use Rattle.std.proofs.Math.Seq.{get_or-append_seam}
use Rattle.ps_check_judgement.proofs.Impossible.{none_some}
use Rattle.ps_tree.specs.declared.types.Ty.{Ty}
use Rattle.ps_tree.specs.Types.{field_in}
use Rattle.ps_tree.specs.Names.{has, place}
use Rattle.ps_tree.specs.View.{type_of}
use Rattle.ps_check_names.specs.Regions.{fields_of}
use Rattle.ps_check_names.specs.Opened.{HasField}
use Rattle.ps_check_names.specs.Sets.{Holds, Reached, Apart}
use Rattle.ps_check_names.specs.Wides.{kind_at, kind_of, Listed, KeepsKinds}
use Rattle.ps_check_names.proofs.NoteLemmas.{eq-or-not, le-or-lt, last_or, within_from, kept_from, new_from}
use Rattle.ps_check_names.proofs.NoteLemmas.{none_any, placed}

-- ---- numbers in lists

pub number_there : (xs : List ℕ) (i x : ℕ) → slice_get xs i ≡ Some x → x ≡ get_or xs i 0
number_there [] i x e = absurd (none_some e)
number_there (y ∷ xs) zero x e = sym (same_Some y x e)
number_there (y ∷ xs) (suc i) x e = number_there xs i x e

pub number_past : (xs : List ℕ) (i : ℕ) → slice_get xs i ≡ None → 0 ≡ get_or xs i 0
number_past [] i e = refl
number_past (y ∷ xs) zero e = absurd (none_some (sym e))
number_past (y ∷ xs) (suc i) e = number_past xs i e

-- a zero more changes no number
pub zero_more : (xs ys : List ℕ) (n : ℕ) → ys ≡ xs ++ 0 ∷ [] → get_or ys n 0 ≡ get_or xs n 0
zero_more xs ys n e = ap (λ l. get_or l n 0) e ∙ go xs n
  where
    go : (xs : List ℕ) (n : ℕ) → get_or (xs ++ 0 ∷ []) n 0 ≡ get_or xs n 0
    go [] zero = refl
    go [] (suc n) = refl
    go (x ∷ xs) zero = refl
    go (x ∷ xs) (suc n) = go xs n

pub zero_start : (xs : List ℕ) (n : ℕ) → get_or xs n 0 ≡ get_or xs n 0
zero_start xs n = refl

pub zero_next : (old xs ys : List ℕ) → ((n : ℕ) → get_or xs n 0 ≡ get_or old n 0) → ys ≡ xs ++ 0 ∷ [] → (n : ℕ) → get_or
    ys n 0 ≡ get_or old n 0
zero_next old xs ys same e n = zero_more xs ys n e ∙ same n

-- a number that is there is not past the end
pub not_past : (xs : List ℕ) (n k : ℕ) → k < get_or xs n 0 → n < length xs
not_past [] n k l = absurd (omega (arith, l))
not_past (x ∷ xs) zero k l = omega arith
not_past (x ∷ xs) (suc n) k l = let z = not_past xs n k l in omega (arith, z)

-- ---- sets

pub no_bit : (word i n : ℕ) → word ≡ 0 → bit_at word i ≡ 1 → n ≤ 0
no_bit word i n e b = absurd (let z = sym b ∙ ap (λ w. bit_at w i) e ∙ bit_at-zero i in omega (arith, z))

-- what is in two sets is in both words
pub in_both : (kind present : List ℕ) (n a b : ℕ) → a ≡ get_or kind (n / 64) 0 → b ≡ get_or present (n / 64) 0
    → Holds kind n
    → Holds present n → bit_at (bit_and a b) (n % 64) ≡ 1
in_both kind present n a b is is' there also =
    bit_at_and a b (n % 64) ∙ ap (λ x. min x (bit_at b (n % 64))) (ap (λ w. bit_at w (n % 64)) is ∙ there)
    ∙ ap (λ x. min 1 x) (ap (λ w. bit_at w (n % 64)) is' ∙ also)

-- one bit more
pub bits_kept : (word new bit : ℕ) → bit_at new bit ≡ 1 → ((i : ℕ) → i ≢ bit → bit_at new i ≡ bit_at word i) → (i : ℕ)
    → bit_at word i ≡ 1 → bit_at new i ≡ 1
bits_kept word new bit there others i on = by (eq-or-not i bit)
  where
    by : (i ≡ bit) ⊎ (i ≢ bit) → bit_at new i ≡ 1
    by (inl e) = ap (bit_at new) e ∙ there
    by (inr d) = others i d ∙ on

-- numbers that are the same hold the same
pub same_holds : (words words' : List ℕ) → ((n : ℕ) → get_or words' n 0 ≡ get_or words n 0) → (n : ℕ) → Holds words n
    → Holds words' n
same_holds words words' same n there = ap (λ w. bit_at w (n % 64)) (same (n / 64)) ∙ there

-- a word in the place of another
pub put_kept : (words words' : List ℕ) (index word new : ℕ) → index < length words → word ≡ get_or words index 0
    → words'
    ≡ set words index new → ((i : ℕ) → bit_at word i ≡ 1 → bit_at new i ≡ 1) → (n : ℕ) → Holds words n → Holds words' n
put_kept words words' index word new room is put more n there = by (eq-or-not (n / 64) index)
  where
    by : (n / 64 ≡ index) ⊎ (n / 64 ≢ index) → Holds words' n
    by (inl e) = ap (λ i. bit_at (get_or words' i 0) (n % 64)) e
        ∙ ap (λ w. bit_at w (n % 64)) (ap (λ l. get_or l index 0) put ∙ get_or-set_same words index new 0 room)
        ∙ more (n % 64) (ap (λ w. bit_at w (n % 64)) is ∙ ap (λ i. bit_at (get_or words i 0) (n % 64)) (sym e) ∙ there)
    by (inr d) = ap (λ l. bit_at (get_or l (n / 64) 0) (n % 64)) put
        ∙ ap (λ w. bit_at w (n % 64)) (get_or-set_other words index (n / 64) new 0 d) ∙ there

-- a word in the place of another, in a longer list
module _ (old words words' : List ℕ) (number word new : ℕ) (longer : (n : ℕ) → get_or words n 0 ≡ get_or old n 0)
    (room : number / 64 < length words) (is : word ≡ get_or words (number / 64) 0)
    (put : words' ≡ set words (number / 64) new) where
  here : get_or words' (number / 64) 0 ≡ new
  here = ap (λ l. get_or l (number / 64) 0) put ∙ get_or-set_same words (number / 64) new 0 room

  pub inserted : bit_at new (number % 64) ≡ 1 → Holds words' number
  inserted e = ap (λ w. bit_at w (number % 64)) here ∙ e

  pub insert_kept : ((i : ℕ) → bit_at word i ≡ 1 → bit_at new i ≡ 1) → (n : ℕ) → Holds old n → Holds words' n
  insert_kept more n there = put_kept words words' (number / 64) word new room is put more n
      (same_holds old words longer n there)

-- the words of a set are joined with those of another
pub put_as_long : (words words' : List ℕ) (index new : ℕ) → words' ≡ set words index new → length words' ≡ length words
put_as_long words words' index new put = ap length put ∙ length-set words index new

pub put_there : (words words' : List ℕ) (index new other : ℕ) → index < length words → words' ≡ set words index new
    → ((i : ℕ) → bit_at other i ≡ 1 → bit_at new i ≡ 1) → (i : ℕ) → bit_at other i ≡ 1 → bit_at
    (get_or words' index 0) i
    ≡ 1
put_there words words' index new other room put more i on = ap (λ w. bit_at w i)
    (ap (λ l. get_or l index 0) put ∙ get_or-set_same words index new 0 room) ∙ more i on

pub or_first : (a b i : ℕ) → bit_at a i ≡ 1 → bit_at (bit_or a b) i ≡ 1
or_first a b i on = let e = bit_at_or a b i in let l = bit_at-lt b i in omega (arith, e, l, on)

pub or_second : (a b i : ℕ) → bit_at b i ≡ 1 → bit_at (bit_or a b) i ≡ 1
or_second a b i on = let e = bit_at_or a b i in let l = bit_at-lt a i in omega (arith, e, l, on)

-- the words before index i are joined
abbrev pub JoinedTo : (others words : List ℕ) (i : ℕ) → Type 0
JoinedTo others words i = (n : ℕ) → n / 64 < i → Holds others n → Holds words n

pub joined_start : (others words : List ℕ) → JoinedTo others words 0
joined_start others words = λ n l. absurd (omega (arith, l))

pub joined_next : (others words words' : List ℕ) (other i : ℕ) → JoinedTo others words i → other ≡ get_or others i 0
    → ((n : ℕ) → Holds words n → Holds words' n)
    → ((j : ℕ) → bit_at other j ≡ 1 → bit_at (get_or words' i 0) j ≡ 1) → JoinedTo others words' (i + 1)
joined_next others words words' other i so_far is kept there = λ n l h. by n h
    (eq-or-lt_of_le (let z : n / 64 ≤ i = omega (arith, l) in z))
  where
    by : (n : ℕ) → Holds others n → (n / 64 ≡ i) ⊎ (n / 64 < i) → Holds words' n
    by n h (inr l) = kept n (so_far n l h)
    by n h (inl e) = ap (λ k. bit_at (get_or words' k 0) (n % 64)) e
        ∙ there (n % 64) (ap (λ w. bit_at w (n % 64)) (is ∙ ap (λ k. get_or others k 0) (sym e)) ∙ h)

pub joined_end : (others words : List ℕ) (i : ℕ) → length others ≤ i → JoinedTo others words i → (n : ℕ)
    → Holds others n
    → Holds words n
joined_end others words i end so_far n h = by (eq-or-not (get_or others (n / 64) 0) 0)
  where
    by : (get_or others (n / 64) 0 ≡ 0) ⊎ (get_or others (n / 64) 0 ≢ 0) → Holds words n
    by (inl e) = absurd (let z = sym h ∙ ap (λ w. bit_at w (n % 64)) e ∙ bit_at-zero (n % 64) in omega (arith, z))
    by (inr d) = so_far n (let z = not_past others (n / 64) 0 (omega (arith, d)) in omega (arith, z, end)) h

-- a greater number in the place of another, in a longer list
module _ (old numbers numbers' : List ℕ) (index before new : ℕ) (longer : (n : ℕ) → get_or numbers n 0 ≡ get_or old n 0)
    (room : index < length numbers) (is : before ≡ get_or numbers index 0)
    (put : numbers' ≡ set numbers index new) where
  there : get_or numbers' index 0 ≡ new
  there = ap (λ l. get_or l index 0) put ∙ get_or-set_same numbers index new 0 room

  pub raised : (least : ℕ) → least ≤ new → least ≤ get_or numbers' index 0
  raised least l = let z = there in omega (arith, z, l)

  pub raise_kept : before ≤ new → (n : ℕ) → get_or old n 0 ≤ get_or numbers' n 0
  raise_kept more n = by (eq-or-not n index)
    where
      by : (n ≡ index) ⊎ (n ≢ index) → get_or old n 0 ≤ get_or numbers' n 0
      by (inl e) =
          let a = ap (λ i. get_or numbers' i 0) e ∙ there in
          let b = sym (longer n) ∙ ap (λ i. get_or numbers i 0) e ∙ sym is in
          omega (arith, a, b, more)
      by (inr d) =
          let a = ap (λ l. get_or l n 0) put ∙ get_or-set_other numbers index n new 0 d in
          let b = longer n in
          omega (arith, a, b)

-- ---- what is noted of types

pub listed_none : (types : List Ty) (names kinds : List (List ℕ)) → types ≡ [] → Listed types names kinds
listed_none types names kinds e = λ s n ty is has. absurd (none_some (ap (λ l. slice_get l n) (sym e) ∙ is))

-- a type has the fields of another that is the same
pub same_fields : (ty' ty : Ty) → type_of ty' ≡ type_of ty → (s : List ℕ) → HasField ty' s → HasField ty s
same_fields ty' ty same s h = (h.0, ap (λ t. field_in (fields_of t) s) (sym same) ∙ h.1)

pub mapped_more : {A B : Type 0} (f : A → B) (xs ys : List A) (y : A) → ys ≡ xs ++ y ∷ [] → map f ys ≡ map f xs ++ f y
    ∷ []
mapped_more f xs ys y e = ap (map f) e ∙ go xs
  where
    go : (xs : List _) → map f (xs ++ y ∷ []) ≡ map f xs ++ f y ∷ []
    go [] = refl
    go (x ∷ xs) = ap (λ l. f x ∷ l) (go xs)

-- one type more, which is noted
pub listed_more : (types : List Ty) (ty' ty : Ty) (names kinds names' kinds' : List (List ℕ)) (number : ℕ)
    → ((s : List ℕ) → HasField ty' s → HasField ty s) → number ≡ length types → Listed types names kinds
    → KeepsKinds names kinds names' kinds' → ((s : List ℕ) → HasField ty s → Holds (kind_of names' kinds' s) number)
    → Listed (types ++ ty' ∷ []) names' kinds'
listed_more types ty' ty names kinds names' kinds' number same last listed keeps noted = λ s n t is h. last_or types
    ty' n
    t _ is (λ e. keeps s n (listed s n t e h))
    (λ e f. subst (λ m. Holds (kind_of names' kinds' s) m) (last ∙ sym e)
    (noted s (same s (subst (λ t. HasField t s) (sym f) h))))

pub kinds_same : (names kinds : List (List ℕ)) → KeepsKinds names kinds names kinds
kinds_same names kinds = λ s n h. h

pub kinds_both : (a x b y c z : List (List ℕ)) → KeepsKinds a x b y → KeepsKinds b y c z → KeepsKinds a x c z
kinds_both a x b y c z h g = λ s n e. g s n (h s n e)

-- a set more for a name that is there
module _ (names kinds kinds' : List (List ℕ)) (s : List ℕ) (index : ℕ) (new : List ℕ)
    (there : place names s ≡ Some index) (even : length kinds ≡ length names) (put : kinds' ≡ set kinds index new) where
  room : index < length kinds
  room = let z = within_from s 0 names index there in omega (arith, z, even)

  now : get_or kinds' index [] ≡ new
  now = ap (λ l. get_or l index []) put ∙ get_or-set_same kinds index new [] room

  pub put_even : length kinds' ≡ length names
  put_even = ap length put ∙ length-set kinds index new ∙ even

  pub put_noted : (number : ℕ) → Holds new number → Holds (kind_of names kinds' s) number
  put_noted number h = subst (λ k. Holds k number) (sym (ap (kind_at kinds') there ∙ now)) h

  pub put_keeps : ((n : ℕ) → Holds (get_or kinds index []) n → Holds new n) → KeepsKinds names kinds names kinds'
  put_keeps more = λ t n. by n (place names t)
    where
      at : (n i : ℕ) → (i ≡ index) ⊎ (i ≢ index) → Holds (get_or kinds i []) n → Holds (get_or kinds' i []) n
      at n i (inl e) h = subst (λ k. Holds k n) (sym (ap (λ j. get_or kinds' j []) e ∙ now))
          (more n (subst (λ k. Holds k n) (ap (λ j. get_or kinds j []) e) h))
      at n i (inr d) h = subst (λ k. Holds k n) (sym (ap (λ l. get_or l i []) put
          ∙ get_or-set_other kinds index i new [] d)) h

      by : (n : ℕ) (o : Option ℕ) → Holds (kind_at kinds o) n → Holds (kind_at kinds' o) n
      by n None h = h
      by n (Some i) h = at n i (eq-or-not i index) h

-- a new name
module _ (names kinds : List (List ℕ)) (s : List ℕ) (kind : List ℕ) (names' kinds' : List (List ℕ)) (added : Bool)
    (new : place names s ≡ None) (even : length kinds ≡ length names) (a : added ≡ not (has names s))
    (m : names' ≡ (if added then names ++ s ∷ [] else names)) (r : kinds' ≡ kinds ++ kind ∷ []) where
  more_names : names' ≡ names ++ s ∷ []
  more_names = m ∙ ap (λ b. if b then names ++ s ∷ [] else names) (a ∙ ap not (none_any s 0 names new))

  pub new_even : length kinds' ≡ length names'
  new_even = let x = ap length r ∙ length-append kinds (kind ∷ []) in let y = ap length more_names
      ∙ length-append names (s ∷ []) in omega (arith, x, y, even)

  pub new_keeps : KeepsKinds names kinds names' kinds'
  new_keeps = λ t n. by t n (place names t) refl
    where
      by : (t : List ℕ) (n : ℕ) (o : Option ℕ) → place names t ≡ o → Holds (kind_at kinds o) n → Holds
          (kind_of names' kinds' t) n
      by t n None q h = absurd (let z = sym h ∙ bit_at-zero (n % 64) in omega (arith, z))
      by t n (Some i) q h =
          let w = within_from t 0 names i q in
          let inner : i < length kinds = omega (arith, w, even) in
          let f = ap (λ l. get_or l i []) r ∙ get_or_append_left kinds (kind ∷ []) [] i inner in
          let p = ap (λ l. place l t) more_names ∙ kept_from t 0 names (s ∷ []) i q in
          subst (λ k. Holds k n) (sym (ap (kind_at kinds') p ∙ f)) h

  pub new_noted : (number : ℕ) → Holds kind number → Holds (kind_of names' kinds' s) number
  new_noted number h =
      let z : 0 + length names ≡ length kinds = omega (arith, even) in
      let p = ap (λ l. place l s) more_names ∙ new_from s 0 names new ∙ ap (λ n. Some n) z in
      let f : get_or kinds' (length kinds) [] ≡ kind = ap (λ l. get_or l (length kinds) []) r
      ∙ get_or-append_seam kinds kind [] [] in
      subst (λ k. Holds k number) (sym (ap (kind_at kinds') p ∙ f)) h

-- the names before index i are noted
abbrev pub NotedKinds : (fields names kinds : List (List ℕ)) (number i : ℕ) → Type 0
NotedKinds fields names kinds number i = (s : List ℕ) (m : ℕ) → m < i → slice_get fields m ≡ Some s → Holds
    (kind_of names kinds s) number

pub no_kinds : (fields names kinds : List (List ℕ)) (number : ℕ) → NotedKinds fields names kinds number 0
no_kinds fields names kinds number = λ s m l e. absurd (omega (arith, l))

pub kinds_next : (fields names kinds names' kinds' : List (List ℕ)) (number i : ℕ) (x : List ℕ) → slice_get fields i
    ≡ Some x → NotedKinds fields names kinds number i → KeepsKinds names kinds names' kinds'
    → Holds (kind_of names' kinds' x) number → NotedKinds fields names' kinds' number (i + 1)
kinds_next fields names kinds names' kinds' number i x is before keeps last = λ s m l e. by s m e
    (eq-or-lt_of_le (let z : m ≤ i = omega (arith, l) in z))
  where
    by : (s : List ℕ) (m : ℕ) → slice_get fields m ≡ Some s → (m ≡ i) ⊎ (m < i) → Holds (kind_of names' kinds' s) number
    by s m e (inr h) = keeps s number (before s m h e)
    by s m e (inl h) = subst (λ t. Holds (kind_of names' kinds' t) number)
        (same_Some x s (sym is ∙ ap (slice_get fields) (sym h) ∙ e)) last

pub all_kinds : (fields names kinds : List (List ℕ)) (number i : ℕ) → length fields ≤ i → NotedKinds fields names kinds
    number i → (s : List ℕ) (m : ℕ) → place fields s ≡ Some m → Holds (kind_of names kinds s) number
all_kinds fields names kinds number i end noted s m e =
    let p = placed s 0 fields m e in
    let w = slice_get_within fields p.0 s p.2 in
    noted s p.0 (omega (arith, w, end)) p.2

-- ---- the greatest of numbers

abbrev pub GreatestTo : (numbers : List ℕ) (i reach : ℕ) → Type 0
GreatestTo numbers i reach = (j : ℕ) → j < i → get_or numbers j 0 ≤ reach

pub greatest_start : (numbers : List ℕ) → GreatestTo numbers 0 0
greatest_start numbers = λ j l. absurd (omega (arith, l))

pub greatest_next : (numbers : List ℕ) (i reach reach' : ℕ) → GreatestTo numbers i reach → reach ≤ reach'
    → get_or numbers i 0 ≤ reach' → GreatestTo numbers (i + 1) reach'
greatest_next numbers i reach reach' so_far more here = λ j l. by j
    (eq-or-lt_of_le (let z : j ≤ i = omega (arith, l) in z))
  where
    by : (j : ℕ) → (j ≡ i) ⊎ (j < i) → get_or numbers j 0 ≤ reach'
    by j (inr h) = let z = so_far j h in omega (arith, z, more)
    by j (inl e) = subst (λ i. get_or numbers i 0 ≤ reach') (sym e) here

pub greatest_end : (numbers : List ℕ) (i reach : ℕ) → 64 ≤ i → GreatestTo numbers i reach → (j : ℕ) → j < 64
    → get_or numbers j 0 ≤ reach
greatest_end numbers i reach end so_far j l = so_far j (omega (arith, l, end))

-- the bits above one that is set are the same in the number before
above_kept : (n t i : ℕ) → t < i → bit_at n t ≡ 1 → bit_at n i ≡ 1 → bit_at (n - 1) i ≡ 1
above_kept n t zero l low on = absurd (omega (arith, l))
above_kept n zero (suc i) l low on =
    let odd = sym (bit_at_lowest n) ∙ low in
    let same : (n - 1) / 2 ≡ n / 2 = omega (arith, odd) in
    bit_at-suc (n - 1) i ∙ ap (λ m. bit_at m i) same ∙ sym (bit_at-suc n i) ∙ on
above_kept n (suc t) (suc i) l low on = by (eq-or-lt_of_le (let z : n % 2 ≤ 1 = omega arith in z))
    (above_kept (n / 2) t i (omega (arith, l)) (sym (bit_at-suc n t) ∙ low) on')
  where
    on' : bit_at (n / 2) i ≡ 1
    on' = sym (bit_at-suc n i) ∙ on

    by : (n % 2 ≡ 1) ⊎ (n % 2 < 1) → bit_at (n / 2 - 1) i ≡ 1 → bit_at (n - 1) (suc i) ≡ 1
    by (inl odd) next =
        let same : (n - 1) / 2 ≡ n / 2 = omega (arith, odd) in
        bit_at-suc (n - 1) i ∙ ap (λ m. bit_at m i) same ∙ on'
    by (inr even) next =
        let half : (n - 1) / 2 ≡ n / 2 - 1 = omega (arith, even) in
        bit_at-suc (n - 1) i ∙ ap (λ m. bit_at m i) half ∙ next

-- the lowest bit that is set comes first
least_set : (n i : ℕ) → n ≢ 0 → Fits w64 n → bit_at n i ≡ 1 → trailing_zeros w64 n ≤ i
least_set n i some fits on = by (le-or-lt (trailing_zeros w64 n) i)
  where
    by : (trailing_zeros w64 n ≤ i) ⊎ (i < trailing_zeros w64 n) → trailing_zeros w64 n ≤ i
    by (inl l) = l
    by (inr l) = absurd (let z = (bit_at-trailing_zeros w64 n (omega (arith, some)) (Fits-lt-pow fits)).2 i l in omega
        (arith, z, on))

-- the numbers of the bits that are no longer left
abbrev pub LeftIn : (word : ℕ) (numbers : List ℕ) (rest reach : ℕ) → Type 0
LeftIn word numbers rest reach = (j : ℕ) → bit_at word j ≡ 1 → (bit_at rest j ≡ 1) ⊎ (get_or numbers j 0 ≤ reach)

pub left_start : (word : ℕ) (numbers : List ℕ) → LeftIn word numbers word 0
left_start word numbers = λ j b. inl b

-- the lowest bit is cleared
pub left_next : (word : ℕ) (numbers : List ℕ) (rest reach number reach' : ℕ) → LeftIn word numbers rest reach
    → rest ≢ 0 → Fits w64 rest → number ≡ get_or numbers (trailing_zeros w64 rest) 0 → reach ≤ reach'
    → number ≤ reach' → LeftIn word numbers (bit_and rest (rest - 1)) reach'
left_next word numbers rest reach number reach' so_far some fits there more here = λ j b. by j (so_far j b)
  where
    lowest : bit_at rest (trailing_zeros w64 rest) ≡ 1
    lowest = (bit_at-trailing_zeros w64 rest (omega (arith, some)) (Fits-lt-pow fits)).1

    cleared : (j : ℕ) → bit_at rest j ≡ 1 → trailing_zeros w64 rest < j → bit_at (bit_and rest (rest - 1)) j ≡ 1
    cleared j on l = let a = bit_at_and rest (rest - 1) j in let b = above_kept rest _ j l lowest on in
        omega (arith, a, b, on)

    at : (j : ℕ) → bit_at rest j ≡ 1 → (trailing_zeros w64 rest ≡ j) ⊎ (trailing_zeros w64 rest < j)
        → (bit_at (bit_and rest (rest - 1)) j ≡ 1) ⊎ (get_or numbers j 0 ≤ reach')
    at j on (inr l) = inl (cleared j on l)
    at j on (inl e) = let z = there ∙ ap (λ i. get_or numbers i 0) e in
        inr (omega (arith, z, here))

    by : (j : ℕ) → (bit_at rest j ≡ 1) ⊎ (get_or numbers j 0 ≤ reach)
        → (bit_at (bit_and rest (rest - 1)) j ≡ 1) ⊎ (get_or numbers j 0 ≤ reach')
    by j (inr l) = inr (omega (arith, l, more))
    by j (inl on) = at j on (eq-or-lt_of_le (least_set rest j some fits on))

-- the number of the lowest bit is past the end, and so are those of the others
pub left_past : (word : ℕ) (numbers : List ℕ) (rest reach : ℕ) → LeftIn word numbers rest reach → rest ≢ 0
    → Fits w64 rest → length numbers ≤ trailing_zeros w64 rest → (i : ℕ) → bit_at word i ≡ 1
    → get_or numbers i 0 ≤ reach
left_past word numbers rest reach so_far some fits end i b = by (so_far i b)
  where
    by : (bit_at rest i ≡ 1) ⊎ (get_or numbers i 0 ≤ reach) → get_or numbers i 0 ≤ reach
    by (inr l) = l
    by (inl on) = let l = least_set rest i some fits on in
        let z = get_or_past numbers i 0 (omega (arith, l, end)) in omega (arith, z)

pub left_end : (word : ℕ) (numbers : List ℕ) (rest reach : ℕ) → LeftIn word numbers rest reach → rest ≡ 0 → (i : ℕ)
    → bit_at word i ≡ 1 → get_or numbers i 0 ≤ reach
left_end word numbers rest reach so_far none i b = by (so_far i b)
  where
    by : (bit_at rest i ≡ 1) ⊎ (get_or numbers i 0 ≤ reach) → get_or numbers i 0 ≤ reach
    by (inr l) = l
    by (inl on) = let z = no_bit rest i 1 none on in omega (arith, z)

-- from a place on
pub dropped : (word : ℕ) (numbers those : List ℕ) (from reach : ℕ) → those ≡ drop from numbers
    → ((i : ℕ) → bit_at word i ≡ 1 → get_or those i 0 ≤ reach) → (i : ℕ) → i < 64 → bit_at word i ≡ 1
    → get_or numbers (from + i) 0 ≤ reach
dropped word numbers those from reach e all i l b =
    let z = ap (λ l. get_or l i 0) e ∙ get_or-drop from numbers i 0 in let y = all i b in omega (arith, z, y)

pub dropped_all : (word : ℕ) (numbers those : List ℕ) (from reach : ℕ) → those ≡ drop from numbers
    → ((i : ℕ) → i < 64 → get_or those i 0 ≤ reach) → (i : ℕ) → i < 64 → bit_at word i ≡ 1
    → get_or numbers (from + i) 0 ≤ reach
dropped_all word numbers those from reach e all i l b =
    let z = ap (λ l. get_or l i 0) e ∙ get_or-drop from numbers i 0 in let y = all i l in omega (arith, z, y)

-- what is in both sets up to word i
abbrev pub CommonTo : (kind present latest : List ℕ) (i reach : ℕ) → Type 0
CommonTo kind present latest i reach = (n : ℕ) → n / 64 < i → Holds kind n → Holds present n → get_or latest n 0 ≤ reach

pub common_start : (kind present latest : List ℕ) → CommonTo kind present latest 0 0
common_start kind present latest = λ n l. absurd (omega (arith, l))

pub common_next : (kind present latest : List ℕ) (a b i reach here reach' : ℕ) → CommonTo kind present latest i reach
    → a
    ≡ get_or kind i 0 → b ≡ get_or present i 0
    → ((j : ℕ) → j < 64 → bit_at (bit_and a b) j ≡ 1 → get_or latest (64 * i + j) 0 ≤ here) → reach ≤ reach' → here
    ≤ reach' → CommonTo kind present latest (i + 1) reach'
common_next kind present latest a b i reach here reach' so_far is is' word more also = λ n l there too. by n there too
    (eq-or-lt_of_le (let z : n / 64 ≤ i = omega (arith, l) in z))
  where
    by : (n : ℕ) → Holds kind n → Holds present n → (n / 64 ≡ i) ⊎ (n / 64 < i) → get_or latest n 0 ≤ reach'
    by n there too (inr h) = let z = so_far n h there too in omega (arith, z, more)
    by n there too (inl e) =
        let r : n % 64 < 64 = omega arith in
        let bit = in_both kind present n a b (is ∙ ap (λ j. get_or kind j 0) (sym e))
        (is' ∙ ap (λ j. get_or present j 0)
        (sym e)) there too in
        let z = word (n % 64) r bit in
        let same : 64 * i + n % 64 ≡ n = omega (arith, e) in
        let y = ap (λ m. get_or latest m 0) same in
        omega (arith, z, also, y)

pub common_end : (kind present latest : List ℕ) (i reach : ℕ) → length latest / 64 + 1 ≤ i
    → CommonTo kind present latest i reach
    → (k : ℕ) → Reached kind present latest k → k < reach
common_end kind present latest i reach end so_far = λ k r.
    let w = not_past latest r.0 k r.3 in
    let inner : r.0 / 64 < i = omega (arith, w, end) in
    let z = so_far r.0 inner r.1 r.2 in
    let l = r.3 in
    omega (arith, z, l)

-- nothing is reached where nothing is opened
pub none_reached : (kind present latest : List ℕ) (k : ℕ) → length latest ≡ 0 → Reached kind present latest k → k < 0
none_reached kind present latest k none r = absurd (let w = not_past latest r.0 k r.3 in omega (arith, w, none))

-- ---- sets that have no number in common

-- up to word i
abbrev pub ApartTo : (kind present : List ℕ) (i : ℕ) → Type 0
ApartTo kind present i = (n : ℕ) → n / 64 < i → Holds kind n → Holds present n → ⊥

pub apart_start : (kind present : List ℕ) → ApartTo kind present 0
apart_start kind present = λ n l. absurd (omega (arith, l))

pub apart_next : (kind present : List ℕ) (a b i : ℕ) → ApartTo kind present i → a ≡ get_or kind i 0 → b
    ≡ get_or present i 0 → bit_and a b ≡ 0 → ApartTo kind present (i + 1)
apart_next kind present a b i so_far is is' none = λ n l there too. by n there too
    (eq-or-lt_of_le (let z : n / 64 ≤ i = omega (arith, l) in z))
  where
    by : (n : ℕ) → Holds kind n → Holds present n → (n / 64 ≡ i) ⊎ (n / 64 < i) → ⊥
    by n there too (inr h) = so_far n h there too
    by n there too (inl e) =
        let bit = in_both kind present n a b (is ∙ ap (λ j. get_or kind j 0) (sym e))
        (is' ∙ ap (λ j. get_or present j 0)
        (sym e)) there too in
        let z = sym bit ∙ ap (λ w. bit_at w (n % 64)) none ∙ bit_at-zero (n % 64) in
        omega (arith, z)

pub apart_end : (kind present : List ℕ) (i : ℕ) → length kind ≤ i → ApartTo kind present i → Apart kind present
apart_end kind present i end so_far = λ n there too. by n there too (eq-or-not (get_or kind (n / 64) 0) 0)
  where
    by : (n : ℕ) → Holds kind n → Holds present n → (get_or kind (n / 64) 0 ≡ 0) ⊎ (get_or kind (n / 64) 0 ≢ 0) → ⊥
    by n there too (inl e) = let z = sym there ∙ ap (λ w. bit_at w (n % 64)) e ∙ bit_at-zero (n % 64) in omega
        (arith, z)
    by n there too (inr d) = so_far n
        (let z = not_past kind (n / 64) 0 (omega (arith, d)) in omega (arith, z, end)) there too

-- none is in an empty set
pub apart_none : (kind present : List ℕ) → length present ≡ 0 → Apart kind present
apart_none kind present none = λ n there too. by n too (eq-or-not (get_or present (n / 64) 0) 0)
  where
    by : (n : ℕ) → Holds present n → (get_or present (n / 64) 0 ≡ 0) ⊎ (get_or present (n / 64) 0 ≢ 0) → ⊥
    by n too (inl e) = let z = sym too ∙ ap (λ w. bit_at w (n % 64)) e ∙ bit_at-zero (n % 64) in omega (arith, z)
    by n too (inr d) = let z = not_past present (n / 64) 0 (omega (arith, d)) in omega (arith, z, none)
