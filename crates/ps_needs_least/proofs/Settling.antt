-- Tables of depths while they are filled.
use Rattle.std.proofs.Common.{◌≡◌, ◌≢◌, ◌⊎◌, inl, inr, ℕ, zero, suc, ◌+◌, ◌-◌, ◌*◌, ◌<◌, ◌≤◌, max, nat_lt}
use Rattle.std.proofs.Common.{if◌then◌else◌, Bool, true, false, List, [], ◌∷◌, length, get_or, set, replicate, Option}
use Rattle.std.proofs.Common.{Some, None, refl, sym, ap, ◌∙◌, subst, arith}
use Rattle.std.specs.List.{Contains, slice_index_or}
use Rattle.std.proofs.lemmas.List.{get_or-set_same, get_or-set_other, get_or-replicate, get_or_past, length-replicate}
use Rattle.std.proofs.lemmas.List.{length-set}
use Rattle.std.proofs.lemmas.Bool.{cases_lt}
use Rattle.ps_needs_least.specs.declared.uses.Use.{Use}
use Rattle.ps_needs_least.specs.declared.uses.Use.TheVariants.{Called, Passed, ParameterCalled}
use Rattle.ps_needs_least.specs.Settled.{depth_of, larger, dearest, undone, Sound}

larger_some : (a b : Option ℕ) (m : ℕ) → larger a b ≡ Some m → (x : ℕ) × (y : ℕ) × (a ≡ Some x) × (b ≡ Some y)
    × (max x y ≡ m)
larger_some (Some x) (Some y) m e = (x, y, refl, refl, cc)
larger_some (Some x) None m e = absurd (cc)
larger_some None b m e = absurd (cc)

larger_none : (a b : Option ℕ) → larger a b ≡ None → (a ≡ None) ⊎ (b ≡ None)
larger_none (Some x) (Some y) e = absurd (cc)
larger_none (Some x) None e = inr refl
larger_none None b e = inl refl

either : (x y m : ℕ) → max x y ≡ m → (m ≡ x) ⊎ (m ≡ y)
either x y m e = go (cases_lt x y)
  where
    go : (x < y) ⊎ (y ≤ x) → (m ≡ x) ⊎ (m ≡ y)
    go (inl l) = inr (omega (arith, e, l))
    go (inr l) = inl (omega (arith, e, l))

max_is : (x y m : ℕ) → max x y ≡ m → (x ≤ m) × (y ≤ m) × ((m ≡ x) ⊎ (m ≡ y))
max_is x y m e = (omega (arith, e), omega (arith, e), either x y m e)

-- what the uses call has depths of m at most
pub dearest_all : (xs : List (Option ℕ)) (us : List Use) (m : ℕ) → dearest xs us ≡ Some m → (u : Use) (k : ℕ)
    → k < length us → slice_index_or us k u ≡ u → (e : ℕ) × (depth_of xs u ≡ Some e) × (e ≤ m)
dearest_all xs [] m e u k l is = absurd (omega (arith, l))
dearest_all xs (v ∷ us) m e u zero l is =
    let p = larger_some (depth_of xs v) (dearest xs us) m e in
    let most = max_is p.0 p.1 m p.4 in
    (p.0, ap (depth_of xs) (sym is) ∙ p.2, most.0)
dearest_all xs (v ∷ us) m e u (suc k) l is =
    let p = larger_some (depth_of xs v) (dearest xs us) m e in
    let most = max_is p.0 p.1 m p.4 in
    let rest = dearest_all xs us p.1 p.3 u k (omega (arith, l)) is in
    let below : rest.0 ≤ m = let a = rest.2 in let b = most.1 in omega (arith, a, b) in
    (rest.0, rest.1, below)

-- and m is the depth of one of them, or 0
pub dearest_taken : (xs : List (Option ℕ)) (us : List Use) (m : ℕ) → dearest xs us ≡ Some m → (m ≡ 0)
    ⊎ ((u : Use) × Contains us u × (depth_of xs u ≡ Some m))
dearest_taken xs [] m e = inl (cc)
dearest_taken xs (v ∷ us) m e =
    let p = larger_some (depth_of xs v) (dearest xs us) m e in
    go p.0 p.1 p.2 (dearest_taken xs us p.1 p.3) (max_is p.0 p.1 m p.4).2
  where
    go : (x y : ℕ) → depth_of xs v ≡ Some x → (y ≡ 0) ⊎ ((u : Use) × Contains us u × (depth_of xs u ≡ Some y)) → (m ≡ x)
        ⊎ (m ≡ y) → (m ≡ 0) ⊎ ((u : Use) × Contains (v ∷ us) u × (depth_of xs u ≡ Some m))
    go x y a rest (inl f) = inr (v, (0, omega arith, refl), a ∙ ap Some (sym f))
    go x y a (inl z) (inr f) = inl (f ∙ z)
    go x y a (inr r) (inr f) = let c = r.1 in let l = c.1 in inr
        (r.0, (suc c.0, omega (arith, l), c.2), r.2 ∙ ap Some (sym f))

-- where they have not all a depth, one of them has none
pub dearest_missing : (xs : List (Option ℕ)) (us : List Use) → dearest xs us ≡ None → (u : Use) × Contains us u
    × (depth_of xs u ≡ None)
dearest_missing xs [] e = absurd (cc)
dearest_missing xs (v ∷ us) e = go (larger_none (depth_of xs v) (dearest xs us) e) (λ f. dearest_missing xs us f)
  where
    go : (depth_of xs v ≡ None) ⊎ (dearest xs us ≡ None)
        → (dearest xs us ≡ None → (u : Use) × Contains us u × (depth_of xs u ≡ None)) → (u : Use) × Contains (v ∷ us) u
        × (depth_of xs u ≡ None)
    go (inl f) k = (v, (0, omega arith, refl), f)
    go (inr f) k = let r = k f in let c = r.1 in let l = c.1 in (r.0, (suc c.0, omega (arith, l), c.2), r.2)

-- ---- one more depth

pub same_or_not : (r i : ℕ) → (r ≡ i) ⊎ (r ≢ i)
same_or_not zero zero = inl refl
same_or_not zero (suc i) = inr (λ e. omega (arith, e))
same_or_not (suc r) zero = inr (λ e. omega (arith, e))
same_or_not (suc r) (suc i) = go (same_or_not r i)
  where
    go : (r ≡ i) ⊎ (r ≢ i) → (suc r ≡ suc i) ⊎ (suc r ≢ suc i)
    go (inl e) = inl (ap suc e)
    go (inr n) = inr (λ e. n (omega (arith, e)))

undone_set : (xs : List (Option ℕ)) (i d : ℕ) → i < length xs → get_or xs i None ≡ None → undone (set xs i (Some d)) + 1
    ≡ undone xs
undone_set [] i d l h = absurd (omega (arith, l))
undone_set (None ∷ xs) zero d l h = omega arith
undone_set (Some e ∷ xs) zero d l h = absurd (cc)
undone_set (None ∷ xs) (suc i) d l h = let rest = undone_set xs i d (omega (arith, l)) h in omega (arith, rest)
undone_set (Some e ∷ xs) (suc i) d l h = undone_set xs i d (omega (arith, l)) h

undone_most : (xs : List (Option ℕ)) → undone xs ≤ length xs
undone_most [] = omega arith
undone_most (None ∷ xs) = let l = undone_most xs in omega (arith, l)
undone_most (Some d ∷ xs) = let l = undone_most xs in omega (arith, l)

undone_some : (xs : List (Option ℕ)) (i : ℕ) → i < length xs → get_or xs i None ≡ None → 1 ≤ undone xs
undone_some xs i l h = let e = undone_set xs i 0 l h in omega (arith, e)

module _ (xs : List (Option ℕ)) (i d : ℕ) (within : i < length xs) (none : get_or xs i None ≡ None) where
  abbrev more : List (Option ℕ)
  more = set xs i (Some d)

  kept : (s e : ℕ) → get_or xs s None ≡ Some e → get_or more s None ≡ Some e
  kept s e f = go (same_or_not s i)
    where
      go : (s ≡ i) ⊎ (s ≢ i) → get_or more s None ≡ Some e
      go (inl g) = absurd (let no : None ≡ Some e = sym none ∙ ap (λ j. get_or xs j None) (sym g) ∙ f in cc no)
      go (inr n) = get_or-set_other xs i s (Some d) None n ∙ f

  counted : length more ≡ length xs
  counted = length-set xs i (Some d)

  called_kept : (s e : ℕ) (t : Bool) → (if t then get_or xs s None else Some 0) ≡ Some e
      → (if t then get_or more s None else Some 0) ≡ Some e
  called_kept s e true f = kept s e f
  called_kept s e false f = f

  depth_kept : (u : Use) (e : ℕ) → depth_of xs u ≡ Some e → depth_of more u ≡ Some e
  depth_kept (Called s) e f = ap (λ n. if nat_lt (s + 1) n then get_or more s None else Some 0) counted
      ∙ called_kept s e (nat_lt (s + 1) (length xs)) f
  depth_kept ParameterCalled e f = ap (λ n. get_or more (n - 1) None) counted ∙ kept (length xs - 1) e f
  depth_kept (Passed s) e f = f

  dearest_kept : (us : List Use) (m : ℕ) → dearest xs us ≡ Some m → dearest more us ≡ Some m
  dearest_kept [] m e = e
  dearest_kept (v ∷ us) m e =
      let p = larger_some (depth_of xs v) (dearest xs us) m e in
      ap (λ o. larger o (dearest more us)) (depth_kept v p.0 p.2) ∙ ap (λ o. larger (Some p.0) o)
      (dearest_kept us p.1 p.3) ∙ ap Some p.4

module _ (nodes : List (List Use)) (F : List ℕ) (xs : List (Option ℕ)) (sound : Sound nodes F xs) where
  called_room : (s m : ℕ) (t : Bool) → (if t then get_or xs s None else Some 0) ≡ Some m → m
      + undone xs * 4294967296 ≤ length xs * 4294967296
  called_room s m true e = sound.room s m e
  called_room s m false e = let z : m ≡ 0 = cc in let l = undone_most xs in omega (arith, z, l)

  depth_room : (u : Use) (m : ℕ) → depth_of xs u ≡ Some m → m + undone xs * 4294967296 ≤ length xs * 4294967296
  depth_room (Called s) m e = called_room s m (nat_lt (s + 1) (length xs)) e
  depth_room ParameterCalled m e = sound.room (length xs - 1) m e
  depth_room (Passed s) m e = called_room s m false e

  pub dearest_room : (us : List Use) (m : ℕ) → dearest xs us ≡ Some m → m
      + undone xs * 4294967296 ≤ length xs * 4294967296
  dearest_room us m e = go (dearest_taken xs us m e)
    where
      go : (m ≡ 0) ⊎ ((u : Use) × Contains us u × (depth_of xs u ≡ Some m)) → m
          + undone xs * 4294967296 ≤ length xs * 4294967296
      go (inl z) = let l = undone_most xs in omega (arith, z, l)
      go (inr r) = depth_room r.0 m r.2

  module _ (i m : ℕ) (within : i < length xs) (none : get_or xs i None ≡ None)
      (known : dearest xs (get_or nodes i []) ≡ Some m) where
    -- no sum is too large
    pub no_overflow : m + 4294967296 ≤ length xs * 4294967296
    no_overflow = let room = dearest_room (get_or nodes i []) m known in let some = undone_some xs i within none
        in omega (arith, room, some)

    module _ (small : get_or F i 0 < 4294967296) where
      abbrev d : ℕ
      d = get_or F i 0 + m

      abbrev next : List (Option ℕ)
      next = set xs i (Some d)

      settled_at : (r e : ℕ) → get_or next r None ≡ Some e → (r ≡ i) ⊎ (r ≢ i)
          → ((k : ℕ) × (dearest next (get_or nodes r []) ≡ Some k) × (e ≡ get_or F r 0 + k))
          × (e + undone next * 4294967296 ≤ length next * 4294967296)
      settled_at r e f (inl g) =
          let at : get_or next i None ≡ Some d = get_or-set_same xs i (Some d) None within in
          let is : d ≡ e = let all : Some d ≡ Some e = sym at ∙ ap (λ j. get_or next j None) (sym g) ∙ f in cc all in
          let room = dearest_room (get_or nodes i []) m known in
          let fewer = undone_set xs i d within none in
          let count = length-set xs i (Some d) in (
            (
              m,
              ap (λ j. dearest next (get_or nodes j [])) g ∙ dearest_kept xs i d within none
                  (get_or nodes i []) m known,
              sym is ∙ ap (λ j. get_or F j 0 + m) (sym g),
            ),
            omega
                (arith, room, fewer, count, small, is),
          )
      settled_at r e f (inr n) =
          let before : get_or xs r None ≡ Some e = sym (get_or-set_other xs i r (Some d) None n) ∙ f in
          let old = sound.settled r e before in
          let room = sound.room r e before in
          let fewer = undone_set xs i d within none in
          let count = length-set xs i (Some d) in (
            (old.0, dearest_kept xs i d within none (get_or nodes r []) old.0 old.1, old.2),
            omega
                (arith, room, fewer, count),
          )

      pub one_more : Sound nodes F next
      one_more = record {
        count = length-set xs i (Some d) ∙ sound.count;
        settled = λ r e f. (settled_at r e f (same_or_not r i)).0;
        room = λ r e f. (settled_at r e f (same_or_not r i)).1;
      }

-- the same of a depth that is told otherwise
pub settled_more : (nodes : List (List Use)) (F : List ℕ) (xs : List (Option ℕ)) (i m d : ℕ) → Sound nodes F xs
    → i < length xs → get_or xs i None ≡ None → dearest xs (get_or nodes i []) ≡ Some m → get_or F i 0 < 4294967296 → d
    ≡ get_or F i 0 + m → Sound nodes F (set xs i (Some d))
settled_more nodes F xs i m d sound within none known small is = subst (λ n. Sound nodes F (set xs i (Some n))) (sym is)
    (one_more nodes F xs sound i m within none known small)

pub fewer_undone : (xs : List (Option ℕ)) (i d : ℕ) → i < length xs → get_or xs i None ≡ None → undone
    (set xs i (Some d)) + 1 ≡ undone xs
fewer_undone xs i d l h = undone_set xs i d l h

-- ---- a table without depths

abbrev no_depths : ℕ → List (Option ℕ)
no_depths n = replicate n None

none_yet : (n r : ℕ) → get_or (no_depths n) r None ≡ None
none_yet n r = go (cases_lt r n)
  where
    go : (r < n) ⊎ (n ≤ r) → get_or (no_depths n) r None ≡ None
    go (inl l) = get_or-replicate n r None None l
    go (inr l) = get_or_past (no_depths n) r None
        (let e = length-replicate {A = Option ℕ} n None in omega (arith, l, e))

pub start_sound : (nodes : List (List Use)) (F : List ℕ) (xs : List (Option ℕ)) → xs ≡ no_depths (length nodes)
    → Sound nodes F xs
start_sound nodes F xs is = subst (Sound nodes F) (sym is) (record {
  count = length-replicate {A = Option ℕ} (length nodes) None;
  settled = λ r d e. absurd (let no : None ≡ Some d = sym (none_yet (length nodes) r) ∙ e in cc no);
  room = λ r d e. absurd (let no : None ≡ Some d = sym (none_yet (length nodes) r) ∙ e in cc no);
})
