-- What a table of depths, from which nothing more follows, tells of the paths of a program.
use Rattle.std.proofs.Common.{◌≡◌, ◌⊎◌, inl, inr, ℕ, zero, suc, ◌+◌, ◌-◌, ◌<◌, ◌≤◌, if◌then◌else◌, ◌&&◌, Bool, true}
use Rattle.std.proofs.Common.{false, List, [], ◌∷◌, ◌++◌, length, flat_map, get_or, Option, Some, None, refl, sym, ap}
use Rattle.std.proofs.Common.{◌∙◌, subst, arith, leb-true, lt-ltb, le-ltb}
use Rattle.std.specs.List.{Contains, slice_index_or}
use Rattle.std.proofs.lemmas.List.{get_or_past, get_or_append_left, length-map, length-append}
use Rattle.std.proofs.Math.ListN.{get_or-map as map_default}
use Rattle.std.proofs.Math.Seq.{get_or-append_seam}
use Rattle.std.proofs.lemmas.List.Concat.{flat_map-cons}
use Rattle.std.proofs.lemmas.List.Elements.{Contains-append_left, Contains-append_right, Contains-append_cases}
use Rattle.std.proofs.lemmas.Bool.{cases_lt}
use Rattle.ps_tree.proofs.Booleans.{and_first}
use Rattle.ps_tree.specs.Counts.{is_within_limits}
use Rattle.ps_tree.specs.Tree.{Program, Routine, no_routine}
use Rattle.ps_tree.specs.declared.limits.TheConstants.{MAX_ROUTINES}
use Rattle.ps_needs_least.specs.declared.uses.Use.{Use}
use Rattle.ps_needs_least.specs.declared.uses.Use.TheVariants.{Called, Passed, ParameterCalled}
use Rattle.ps_needs_least.specs.Uses.{statements_uses}
use Rattle.ps_needs_least.specs.Paths.{uses, IsPassed, MayCall}
use Rattle.ps_needs_least.specs.Least.{IsLeast, HasNoBound}
use Rattle.ps_needs_least.specs.Nodes.{passed_in, blocks_of, nodes_of}
use Rattle.ps_needs_least.specs.Settled.{depth_of, dearest, Sound, IsBlocked}
use Rattle.ps_needs_least.proofs.DepthTables.{price, Depths, depth_is_least, endless_has_no_bound}
use Rattle.ps_needs_least.proofs.Settling.{dearest_all, dearest_taken, dearest_missing}

-- ---- the routines that are passed

abbrev all_passed : List (List Use) → List Use
all_passed lists = flat_map (λ us. flat_map passed_in us) lists

split : (u : Use) (us : List Use) (v : Use) (k : ℕ) → k < length (u ∷ us) → slice_index_or (u ∷ us) k v ≡ v → (u ≡ v)
    ⊎ Contains us v
split u us v zero l e = inl e
split u us v (suc k) l e = inr (k, omega (arith, l), e)

longer : (u : Use) (us : List Use) (v : Use) → Contains us v → Contains (u ∷ us) v
longer u us v c = let l = c.1 in (suc c.0, omega (arith, l), c.2)

-- from a block to its calls
passed_there : (us : List Use) (s k : ℕ) → k < length us → slice_index_or us k (Passed s) ≡ Passed s → Contains
    (flat_map passed_in us) (Called s)
passed_there [] s k l e = absurd (omega (arith, l))
passed_there (u ∷ us) s k l e = subst (λ l. Contains l (Called s)) (sym (flat_map-cons passed_in u us))
    (go (split u us (Passed s) k l e) (λ c. passed_there us s c.0 c.1 c.2))
  where
    go : (u ≡ Passed s) ⊎ Contains us (Passed s)
        → (Contains us (Passed s) → Contains (flat_map passed_in us) (Called s)) → Contains
        (passed_in u ++ flat_map passed_in us) (Called s)
    go (inl f) more = Contains-append_left (passed_in u) (flat_map passed_in us) (Called s)
        (subst (λ v. Contains (passed_in v) (Called s)) (sym f) (0, omega arith, refl))
    go (inr c) more = Contains-append_right (passed_in u) (flat_map passed_in us) (Called s) (more c)

-- and back: a list of calls, each of a routine that is passed
one_passed : (u v : Use) → Contains (passed_in u) v → (s : ℕ) × (v ≡ Called s) × (u ≡ Passed s)
one_passed (Called r) v c = let l = c.1 in absurd (omega (arith, l))
one_passed (Passed r) v c = (r, go c.0 c.1 c.2, refl)
  where
    go : (k : ℕ) → k < 1 → slice_index_or (Called r ∷ []) k v ≡ v → v ≡ Called r
    go zero l e = sym e
    go (suc k) l e = absurd (omega (arith, l))
one_passed ParameterCalled v c = let l = c.1 in absurd (omega (arith, l))

passed_back : (us : List Use) (v : Use) → Contains (flat_map passed_in us) v → (s : ℕ) × (v ≡ Called s) × Contains us
    (Passed s)
passed_back [] v c = let l = c.1 in absurd (omega (arith, l))
passed_back (u ∷ us) v c = go (Contains-append_cases (passed_in u) (flat_map passed_in us) v
    (subst (λ l. Contains l v) (flat_map-cons passed_in u us) c)) (λ d. passed_back us v d)
  where
    go : Contains (passed_in u) v ⊎ Contains (flat_map passed_in us) v
        → (Contains (flat_map passed_in us) v → (s : ℕ) × (v ≡ Called s) × Contains us (Passed s)) → (s : ℕ)
        × (v ≡ Called s) × Contains (u ∷ us) (Passed s)
    go (inl d) more = let r = one_passed u v d in (r.0, r.1, (0, omega arith, r.2))
    go (inr d) more = let r = more d in (r.0, r.1, longer u us (Passed r.0) r.2)

lists_there : (lists : List (List Use)) (r : ℕ) (v : Use) → Contains (flat_map passed_in (get_or lists r [])) v
    → Contains (all_passed lists) v
lists_there [] r v c = let l = c.1 in absurd (omega (arith, l))
lists_there (us ∷ lists) zero v c = subst (λ l. Contains l v)
    (sym (flat_map-cons (λ us. flat_map passed_in us) us lists))
    (Contains-append_left (flat_map passed_in us) (all_passed lists) v c)
lists_there (us ∷ lists) (suc r) v c = subst (λ l. Contains l v)
    (sym (flat_map-cons (λ us. flat_map passed_in us) us lists))
    (Contains-append_right (flat_map passed_in us) (all_passed lists) v (lists_there lists r v c))

lists_back : (lists : List (List Use)) (v : Use) → Contains (all_passed lists) v → (r : ℕ) × Contains
    (flat_map passed_in (get_or lists r [])) v
lists_back [] v c = let l = c.1 in absurd (omega (arith, l))
lists_back (us ∷ lists) v c = go (Contains-append_cases (flat_map passed_in us) (all_passed lists) v
    (subst (λ l. Contains l v) (flat_map-cons (λ us. flat_map passed_in us) us lists) c)) (λ d. lists_back lists v d)
  where
    go : Contains (flat_map passed_in us) v ⊎ Contains (all_passed lists) v
        → (Contains (all_passed lists) v → (r : ℕ) × Contains (flat_map passed_in (get_or lists r [])) v) → (r : ℕ)
        × Contains (flat_map passed_in (get_or (us ∷ lists) r [])) v
    go (inl d) more = (0, d)
    go (inr d) more = let r = more d in (suc r.0, r.1)

-- ---- the nodes of a program

module _ (program : Program) where
  abbrev pub many : ℕ
  many = length program.routines

  pub count_is : length (nodes_of program) ≡ many + 1
  count_is = length-append (blocks_of program) _ ∙ ap (λ n. n + 1)
      (length-map program.routines (λ (r : Routine). statements_uses r.body))

  pub nodes_few : is_within_limits program ≡ true → length (nodes_of program) ≤ 2097152
  unfolding is_within_limits
  nodes_few e = let l = leb-true many MAX_ROUTINES (and_first _ _ (and_first _ _ (and_first _ _ e))) in let n = count_is
      in omega
      (arith, l, n)

  block_is : (r : ℕ) → get_or (blocks_of program) r [] ≡ uses program r
  block_is r = map_default (λ (q : Routine). statements_uses q.body) program.routines r no_routine

  pub node_is : (r : ℕ) → r < many → get_or (nodes_of program) r [] ≡ uses program r
  node_is r l =
      let w : r < length (blocks_of program) = let e = length-map program.routines
      (λ (q : Routine). statements_uses q.body) in omega (arith, l, e) in
      get_or_append_left (blocks_of program) _ [] r w ∙ block_is r

  pub last_is : get_or (nodes_of program) many [] ≡ all_passed (blocks_of program)
  last_is =
      ap (λ i. get_or (nodes_of program) i [])
      (sym (length-map program.routines (λ (q : Routine). statements_uses q.body)))
      ∙ get_or-append_seam (blocks_of program) (all_passed (blocks_of program)) [] []

  nothing_beyond : (r : ℕ) → many ≤ r → uses program r ≡ []
  nothing_beyond r l = ap (λ (q : Routine). statements_uses q.body) (get_or_past program.routines r no_routine l)

  may_within : (r s : ℕ) → MayCall program r s → r < many
  may_within r s may = go (cases_lt r many)
    where
      none : (u : Use) → many ≤ r → Contains (uses program r) u → r < many
      none u l c = let d = subst (λ us. Contains us u) (nothing_beyond r l) c in let k = d.1 in absurd
          (omega (arith, k))

      from : many ≤ r → Contains (uses program r) (Called s)
          ⊎ (Contains (uses program r) ParameterCalled × IsPassed program s) → r < many
      from l (inl c) = none (Called s) l c
      from l (inr p) = none ParameterCalled l p.0

      go : (r < many) ⊎ (many ≤ r) → r < many
      go (inl l) = l
      go (inr l) = from l may

  passed_is : (s : ℕ) → IsPassed program s → Contains (all_passed (blocks_of program)) (Called s)
  passed_is s p =
      let c = subst (λ l. Contains l (Passed s)) (sym (block_is p.0)) p.1 in
      lists_there (blocks_of program) p.0 (Called s) (passed_there (get_or (blocks_of program) p.0 []) s c.0 c.1 c.2)

  pub is_passed : (v : Use) → Contains (all_passed (blocks_of program)) v → (s : ℕ)
      × (v ≡ Called s) × IsPassed program s
  is_passed v c =
      let r = lists_back (blocks_of program) v c in
      let p = passed_back (get_or (blocks_of program) r.0 []) v r.1 in
      (p.0, p.1, (r.0, subst (λ l. Contains l (Passed p.0)) (block_is r.0) p.2))

  module _ (F : List ℕ) (xs : List (Option ℕ)) (frames : length F ≡ many) (sound : Sound (nodes_of program) F xs) where
    abbrev pub depth : ℕ → Option ℕ
    depth s = depth_of xs (Called s)

    pub counted : length xs ≡ many + 1
    counted = sound.count ∙ count_is

    pub within_is : (s : ℕ) → s < many → depth s ≡ get_or xs s None
    within_is s l = ap (λ t. if t then get_or xs s None else Some 0)
        (lt-ltb (s + 1) (length xs) (let e = counted in omega (arith, l, e)))

    pub beyond_is : (s : ℕ) → many ≤ s → depth s ≡ Some 0
    beyond_is s l = ap (λ t. if t then get_or xs s None else Some 0)
        (le-ltb (s + 1) (length xs) (let e = counted in omega (arith, l, e)))

    free : (s : ℕ) → many ≤ s → price F s ≡ 0
    free s l = get_or_past F s 0 (let e = frames in omega (arith, l, e))

    -- the depth of a routine, as its node has it
    pub own_is : (r d : ℕ) → depth r ≡ Some d → r < many → (m : ℕ) × (dearest xs (uses program r) ≡ Some m)
        × (d ≡ price F r + m)
    own_is r d e l =
        let s = sound.settled r d (sym (within_is r l) ∙ e) in
        (s.0, ap (dearest xs) (sym (node_is r l)) ∙ s.1, s.2)

    -- the depth of the parameters
    pub parameter_is : (d : ℕ) → depth_of xs ParameterCalled ≡ Some d → dearest xs
        (all_passed (blocks_of program)) ≡ Some d
    parameter_is d e =
        let at : length xs - 1 ≡ many = let c = counted in omega (arith, c) in
        let s = sound.settled many d (ap (λ i. get_or xs i None) (sym at) ∙ e) in
        let z : price F many ≡ 0 = free many (omega arith) in
        let is : s.0 ≡ d = let f = s.2 in omega (arith, f, z) in
        ap (dearest xs) (sym last_is) ∙ s.1 ∙ ap Some is

    pub depths_are : Depths program F depth
    depths_are = record {
      own = λ r d e. own r d e (cases_lt r many);
      calls = λ r s d e may. calls r s d e may;
      taken = λ r d e. taken r d e (cases_lt r many);
    }
      where
        own : (r d : ℕ) → depth r ≡ Some d → (r < many) ⊎ (many ≤ r) → price F r ≤ d
        own r d e (inl l) = let s = (own_is r d e l).2 in omega (arith, s)
        own r d e (inr l) = let z = free r l in omega (arith, z)

        called : (r s d m : ℕ) → d ≡ price F r + m → dearest xs (uses program r) ≡ Some m → Contains (uses program r)
            (Called s) ⊎ (Contains (uses program r) ParameterCalled × IsPassed program s) → (e : ℕ) × (depth s ≡ Some e)
            × (price F r + e ≤ d)
        called r s d m is known (inl c) =
            let a = dearest_all xs (uses program r) m known (Called s) c.0 c.1 c.2 in
            let l = a.2 in
            (a.0, a.1, omega (arith, is, l))
        called r s d m is known (inr p) =
            let c = p.0 in
            let a = dearest_all xs (uses program r) m known ParameterCalled c.0 c.1 c.2 in
            let q = passed_is s p.1 in
            let b = dearest_all xs (all_passed (blocks_of program)) a.0 (parameter_is a.0 a.1) (Called s) q.0 q.1 q.2 in
            let l = a.2 in
            let k = b.2 in
            (b.0, b.1, omega (arith, is, l, k))

        calls : (r s d : ℕ) → depth r ≡ Some d → MayCall program r s → (e : ℕ) × (depth s ≡ Some e)
            × (price F r + e ≤ d)
        calls r s d e may = let o = own_is r d e (may_within r s may) in called r s d o.0 o.2 o.1 may

        passed_taken : (r d m : ℕ) → d ≡ price F r + m → Contains (uses program r) ParameterCalled → (m ≡ 0)
            ⊎ ((u : Use) × Contains (all_passed (blocks_of program)) u × (depth_of xs u ≡ Some m)) → (d ≡ price F r)
            ⊎ ((s e : ℕ) × MayCall program r s × (depth s ≡ Some e) × (price F r + e ≡ d))
        passed_taken r d m is c (inl z) = inl (omega (arith, is, z))
        passed_taken r d m is c (inr q) =
            let p = is_passed q.0 q.1 in
            inr (p.0, m, inr (c, p.2), ap (depth_of xs) (sym p.1) ∙ q.2, sym is)

        use_taken : (r d m : ℕ) → d ≡ price F r + m → (u : Use) → Contains (uses program r) u → depth_of xs u ≡ Some m
            → (d ≡ price F r) ⊎ ((s e : ℕ) × MayCall program r s × (depth s ≡ Some e) × (price F r + e ≡ d))
        use_taken r d m is (Called s) c f = inr (s, m, inl c, f, sym is)
        use_taken r d m is (Passed s) c f = let z : m ≡ 0 = cc in inl (omega (arith, is, z))
        use_taken r d m is ParameterCalled c f = passed_taken r d m is c
            (dearest_taken xs (all_passed (blocks_of program)) m (parameter_is m f))

        which : (r d m : ℕ) → d ≡ price F r + m → (m ≡ 0)
            ⊎ ((u : Use) × Contains (uses program r) u × (depth_of xs u ≡ Some m)) → (d ≡ price F r)
            ⊎ ((s e : ℕ) × MayCall program r s × (depth s ≡ Some e) × (price F r + e ≡ d))
        which r d m is (inl z) = inl (omega (arith, is, z))
        which r d m is (inr p) = use_taken r d m is p.0 p.1 p.2

        taken : (r d : ℕ) → depth r ≡ Some d → (r < many) ⊎ (many ≤ r) → (d ≡ price F r)
            ⊎ ((s e : ℕ) × MayCall program r s × (depth s ≡ Some e) × (price F r + e ≡ d))
        taken r d e (inl l) = let o = own_is r d e l in which r d o.0 o.2 (dearest_taken xs (uses program r) o.0 o.1)
        taken r d e (inr l) = let z = free r l in let f : Some 0 ≡ Some d = sym (beyond_is r l) ∙ e in inl
            (let g : 0 ≡ d = cc f in omega (arith, z, g))

    module _ (positive : (r : ℕ) → r < length F → 1 ≤ get_or F r 0) where
      has_frame : (r : ℕ) → r < many → 1 ≤ price F r
      has_frame r l = positive r (let e = frames in omega (arith, l, e))

      pub least_is : (S : ℕ) → depth 0 ≡ Some S → IsLeast program F S
      least_is S begins = depth_is_least program F depth depths_are S begins
          (λ r s may. has_frame r (may_within r s may))

      module _ (blocked : (r : ℕ) → IsBlocked (nodes_of program) xs r) where
        abbrev Endless : ℕ → Type 0
        Endless r = (r < many) × (get_or xs r None ≡ None)

        endless_is : (s : ℕ) → depth s ≡ None → Endless s
        endless_is s e = go (cases_lt s many)
          where
            go : (s < many) ⊎ (many ≤ s) → Endless s
            go (inl l) = (l, sym (within_is s l) ∙ e)
            go (inr l) = absurd (let no : Some 0 ≡ None = sym (beyond_is s l) ∙ e in cc no)

        passed_next : (r : ℕ) → Contains (uses program r) ParameterCalled → depth_of xs ParameterCalled ≡ None → (s : ℕ)
            × MayCall program r s × Endless s
        passed_next r c e =
            let at : length xs - 1 ≡ many = let k = counted in omega (arith, k) in
            let none = blocked many (let k = counted in omega (arith, k)) (ap (λ i. get_or xs i None) (sym at) ∙ e) in
            let missing = dearest_missing xs (all_passed (blocks_of program)) (ap (dearest xs) (sym last_is) ∙ none) in
            let p = is_passed missing.0 missing.1 in
            (p.0, inr (c, p.2), endless_is p.0 (ap (depth_of xs) (sym p.1) ∙ missing.2))

        use_next : (r : ℕ) (u : Use) → Contains (uses program r) u → depth_of xs u ≡ None → (s : ℕ)
            × MayCall program r s × Endless s
        use_next r (Called s) c e = (s, inl c, endless_is s e)
        use_next r (Passed s) c e = absurd (cc)
        use_next r ParameterCalled c e = passed_next r c e

        next : (r : ℕ) → Endless r → (s : ℕ) × MayCall program r s × Endless s
        next r h =
            let none = blocked r (let k = counted in let l = h.0 in omega (arith, k, l)) h.1 in
            let missing = dearest_missing xs (uses program r) (ap (dearest xs) (sym (node_is r h.0)) ∙ none) in
            use_next r missing.0 missing.1 missing.2

        pub no_bound : depth 0 ≡ None → HasNoBound program F
        no_bound e = endless_has_no_bound program F Endless (λ r h. has_frame r h.0) (endless_is 0 e) next

-- the depth of the program block answers, or that it has none
pub answer_least : (program : Program) (F : List ℕ) (nodes : List (List Use)) (xs : List (Option ℕ)) → nodes
    ≡ nodes_of program → length F ≡ length program.routines → ((r : ℕ) → r < length F → 1 ≤ get_or F r 0)
    → Sound nodes F xs → (S : ℕ) → depth_of xs (Called 0) ≡ Some S → IsLeast program F S
answer_least program F nodes xs are frames positive sound S begins = least_is program F xs frames
    (subst (λ n. Sound n F xs) are sound) positive S begins

pub answer_none : (program : Program) (F : List ℕ) (nodes : List (List Use)) (xs : List (Option ℕ)) → nodes
    ≡ nodes_of program → length F ≡ length program.routines → ((r : ℕ) → r < length F → 1 ≤ get_or F r 0)
    → Sound nodes F xs → ((r : ℕ) → IsBlocked nodes xs r) → depth_of xs (Called 0) ≡ None → HasNoBound program F
answer_none program F nodes xs are frames positive sound blocked begins = no_bound program F xs frames
    (subst (λ n. Sound n F xs) are sound) positive (subst (λ n. (r : ℕ) → IsBlocked n xs r) are blocked) begins
