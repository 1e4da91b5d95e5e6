-- The paths that are told: each routine's call leads to one that has the depth which is left, or that has none either.
use Rattle.std.proofs.Common.{◌≡◌, ◌≢◌, ◌⊎◌, inl, inr, ℕ, zero, suc, ◌+◌, ◌-◌, ◌<◌, ◌≤◌, Bool, true, false, List, []}
use Rattle.std.proofs.Common.{◌∷◌, ◌++◌, length, reverse, get_or, set, replicate, sum_by, Option, Some, None, refl}
use Rattle.std.proofs.Common.{sym, ap, ◌∙◌, subst, arith}
use Rattle.std.specs.List.{Contains}
use Rattle.std.proofs.lemmas.List.{reverse-append, get_or-set_other, get_or-replicate, get_or_past, length-replicate}
use Rattle.std.proofs.lemmas.List.{length-set}
use Rattle.std.proofs.lemmas.List.Sums.{sum_by-append, sum_by-cons}
use Rattle.std.proofs.lemmas.List.Elements.{Contains-append_left, Contains-append_right}
use Rattle.std.proofs.lemmas.Bool.{cases_lt}
use Rattle.ps_tree.specs.Tree.{Program}
use Rattle.ps_needs_least.specs.declared.uses.Use.{Use}
use Rattle.ps_needs_least.specs.declared.uses.Use.TheVariants.{Called, ParameterCalled}
use Rattle.ps_needs_least.specs.Paths.{IsPassed, Path, program_block, call_within}
use Rattle.ps_needs_least.specs.Nodes.{nodes_of}
use Rattle.ps_needs_least.specs.Settled.{depth_of, dearest, Sound, IsBlocked}
use Rattle.ps_needs_least.specs.Tabled.{passed_of, Leads, IsPathOf, Tabled}
use Rattle.ps_needs_least.specs.Answers.{ComesBack, Takes}
use Rattle.ps_needs_least.proofs.DepthTables.{price}
use Rattle.ps_needs_least.proofs.Settling.{same_or_not, dearest_taken, dearest_missing}
use Rattle.ps_needs_least.proofs.Reading.{many, count_is, node_is, last_is, is_passed, counted, within_is, beyond_is}
use Rattle.ps_needs_least.proofs.Reading.{own_is, parameter_is, depths_are}

-- ---- which routine is called

-- of the nodes of a program, the last has calls alone
pub passed_called : (nodes : List (List Use)) (program : Program) → nodes ≡ nodes_of program → (u : Use) → Contains
    (passed_of nodes) u → (s : ℕ) × (u ≡ Called s)
passed_called nodes program are u c =
    let last : length (nodes_of program) - 1 ≡ many program = let e = count_is program in omega (arith, e) in
    let d = subst (λ l. Contains l u) (ap (λ i. get_or (nodes_of program) i []) last ∙ last_is program)
    (subst (λ n. Contains (passed_of n) u) are c) in
    let p = is_passed program u d in
    (p.0, p.1)

pub leads_by_name : (nodes : List (List Use)) (r s : ℕ) → r + 1 < length nodes → Contains (get_or nodes r []) (Called s)
    → Leads nodes r s
leads_by_name nodes r s within c program are =
    let l : r < many program = let e = count_is program in let f = ap (λ n. length n) are in omega
    (arith, within, e, f) in
    inl (subst (λ us. Contains us (Called s)) (node_is program r l)
    (subst (λ n. Contains (get_or n r []) (Called s)) are c))

pub leads_as_parameter : (nodes : List (List Use)) (r s : ℕ) → r + 1 < length nodes → Contains (get_or nodes r [])
    ParameterCalled → Contains (passed_of nodes) (Called s) → Leads nodes r s
leads_as_parameter nodes r s within c d program are =
    let l : r < many program = let e = count_is program in let f = ap (λ n. length n) are in omega
    (arith, within, e, f) in
    let last : length (nodes_of program) - 1 ≡ many program = let e = count_is program in omega (arith, e) in
    let p = is_passed program (Called s) (subst (λ l. Contains l (Called s))
    (ap (λ i. get_or (nodes_of program) i []) last ∙ last_is program)
    (subst (λ n. Contains (passed_of n) (Called s)) are d)) in
    let same : p.0 ≡ s = let e = p.1 in cc e in
    inr (
      subst (λ us. Contains us ParameterCalled) (node_is program r l)
          (subst (λ n. Contains (get_or n r []) ParameterCalled) are c),
      subst (λ q. IsPassed program q) same p.2,
    )

module _ (nodes : List (List Use)) (F : List ℕ) (xs : List (Option ℕ)) (t : Tabled nodes F xs) where
  abbrev own_sound : Sound (nodes_of t.program) F xs
  own_sound = subst (λ n. Sound n F xs) t.nodes_are t.sound

  own_blocked : (r : ℕ) → IsBlocked (nodes_of t.program) xs r
  own_blocked r = subst (λ n. IsBlocked n xs r) t.nodes_are (t.blocked r)

  table_is : length xs ≡ many t.program + 1
  table_is = counted t.program F xs t.frames own_sound

  nodes_count : length nodes ≡ many t.program + 1
  nodes_count = ap (λ n. length n) t.nodes_are ∙ count_is t.program

  pub some_depths : 1 ≤ length xs
  some_depths = let e = table_is in omega (arith, e)

  pub as_many : length xs ≡ length nodes
  as_many = t.sound.count

  -- a routine that has no depth, or takes something, is one of the program
  pub routine_within : (r : ℕ) (o : Option ℕ) → depth_of xs (Called r) ≡ o → o ≢ Some 0 → r + 1 < length nodes
  routine_within r o e deep = go (cases_lt r (many t.program))
    where
      go : (r < many t.program) ⊎ (many t.program ≤ r) → r + 1 < length nodes
      go (inl l) = let n = nodes_count in omega (arith, l, n)
      go (inr l) = absurd (deep (sym e ∙ beyond_is t.program F xs t.frames own_sound r l))

  pub passed_there : (o : Option ℕ) → o ≢ Some 0 → depth_of xs ParameterCalled ≡ o → (u : Use) × Contains
      (passed_of nodes) u × (depth_of xs u ≡ o)
  passed_there o deep e = go o deep e
    where
      last : get_or nodes (length nodes - 1) [] ≡ get_or (nodes_of t.program) (many t.program) []
      last = let n : length nodes - 1 ≡ many t.program = let k = nodes_count in omega (arith, k) in
          ap (λ i. get_or nodes i []) n ∙ ap (λ l. get_or l (many t.program) []) t.nodes_are

      back : (u : Use) → Contains (get_or (nodes_of t.program) (many t.program) []) u → Contains (passed_of nodes) u
      back u c = subst (λ l. Contains l u) (sym last) c

      some : (m : ℕ) → Some m ≢ Some 0 → (m ≡ 0) ⊎ ((u : Use) × Contains
          (get_or (nodes_of t.program) (many t.program) []) u × (depth_of xs u ≡ Some m)) → (u : Use) × Contains
          (passed_of nodes) u × (depth_of xs u ≡ Some m)
      some m deep (inl z) = absurd (deep (ap Some z))
      some m deep (inr p) = (p.0, back p.0 p.1, p.2)

      go : (o : Option ℕ) → o ≢ Some 0 → depth_of xs ParameterCalled ≡ o → (u : Use) × Contains (passed_of nodes) u
          × (depth_of xs u ≡ o)
      go (Some m) deep e = some m deep (dearest_taken xs (get_or (nodes_of t.program) (many t.program) []) m
          (ap (dearest xs) (last_is t.program) ∙ parameter_is t.program F xs t.frames own_sound m e))
      go None deep e =
          let at : length xs - 1 ≡ many t.program = let k = table_is in omega (arith, k) in
          let none = own_blocked (many t.program) (let k = table_is in omega (arith, k))
          (ap (λ i. get_or xs i None) (sym at) ∙ e) in
          let missing = dearest_missing xs (get_or (nodes_of t.program) (many t.program) []) none in
          (missing.0, back missing.0 missing.1, missing.2)

  -- the frame is within the depth, and what takes something has a frame
  pub frame_below : (r d : ℕ) → depth_of xs (Called r) ≡ Some d → get_or F r 0 ≤ d
  frame_below r d e = (depths_are t.program F xs t.frames own_sound).own r d e

  pub frame_there : (r d : ℕ) → depth_of xs (Called r) ≡ Some d → 1 ≤ d → 1 ≤ get_or F r 0
  frame_there r d e some =
      let within = routine_within r (Some d) e (λ z. let k : d ≡ 0 = cc z in omega (arith, k, some)) in
      let l : r < many t.program = let n = nodes_count in omega (arith, n, within) in
      t.positive r (let f = t.frames in omega (arith, f, l))

  -- what is left of a depth behind the frame is the depth of what one of the uses calls
  pub dearest_there : (r d m : ℕ) → depth_of xs (Called r) ≡ Some d → price F r + m ≡ d → m ≢ 0 → (u : Use)
      × Contains (get_or nodes r []) u × (depth_of xs u ≡ Some m)
  dearest_there r d m e is more =
      let some : 1 ≤ d = omega (arith, is, more) in
      let within = routine_within r (Some d) e (λ z. let k : d ≡ 0 = cc z in omega (arith, k, some)) in
      let l : r < many t.program = let n = nodes_count in omega (arith, n, within) in
      let own = own_is t.program F xs t.frames own_sound r d e l in
      let same : own.0 ≡ m = let sum = own.2 in omega (arith, sum, is) in
      go (dearest_taken xs (get_or nodes r []) m (ap (λ n. dearest xs (get_or n r [])) t.nodes_are
      ∙ ap (dearest xs) (node_is t.program r l) ∙ own.1 ∙ ap Some same))
    where
      go : (m ≡ 0) ⊎ ((u : Use) × Contains (get_or nodes r []) u × (depth_of xs u ≡ Some m)) → (u : Use) × Contains
          (get_or nodes r []) u × (depth_of xs u ≡ Some m)
      go (inl z) = absurd (more z)
      go (inr p) = p

  -- one of the uses of a routine that has no depth calls what has none
  pub endless_there : (r : ℕ) → depth_of xs (Called r) ≡ None → (u : Use) × Contains (get_or nodes r []) u
      × (depth_of xs u ≡ None)
  endless_there r e =
      let within = routine_within r None e (λ z. cc z) in
      let l : r < many t.program = let n = nodes_count in omega (arith, n, within) in
      let none = t.blocked r (let k = table_is in omega (arith, k, l))
      (sym (within_is t.program F xs t.frames own_sound r l) ∙ e) in
      dearest_missing xs (get_or nodes r []) none

-- ---- paths as they are told

module _ (nodes : List (List Use)) where
  turned : (rs : List ℕ) (r : ℕ) → reverse (rs ++ r ∷ []) ≡ r ∷ reverse rs
  turned rs r = reverse-append rs (r ∷ [])

  pub path_start : IsPathOf nodes (0 ∷ reverse [])
  path_start program are = program_block

  pub path_told : (rs next : List ℕ) (r : ℕ) → IsPathOf nodes (r ∷ reverse rs) → next ≡ rs ++ r ∷ [] → IsPathOf nodes
      (reverse next)
  path_told rs next r path e = subst (IsPathOf nodes) (sym (ap (λ l. reverse l) e ∙ turned rs r)) path

  pub path_more : (rs next : List ℕ) (r s : ℕ) → IsPathOf nodes (r ∷ reverse rs) → next ≡ rs ++ r ∷ []
      → Leads nodes r s → IsPathOf nodes (s ∷ reverse next)
  path_more rs next r s path e leads program are = subst (λ l. Path program (s ∷ l))
      (sym (ap (λ l. reverse l) e ∙ turned rs r))
      (call_within r s (reverse rs) (path program are) (leads program are))

-- a routine of the path that takes all, with what is left for it and what it calls
pub record Walked (nodes : List (List Use)) (F : List ℕ) (xs : List (Option ℕ)) (bytes : ℕ) (told : List ℕ) (r left : ℕ)
    : Type 0 where
  pub path : IsPathOf nodes (r ∷ reverse told)
  pub depth : depth_of xs (Called r) ≡ Some left
  pub spent : sum_by (λ q. get_or F q 0) told + left ≡ bytes

pub walked_start : (nodes : List (List Use)) (F : List ℕ) (xs : List (Option ℕ)) (bytes : ℕ) (path : List ℕ) → path ≡ []
    → depth_of xs (Called 0) ≡ Some bytes → Walked nodes F xs bytes path 0 bytes
walked_start nodes F xs bytes path e begins = subst (λ l. Walked nodes F xs bytes l 0 bytes) (sym e) (record {
  path = path_start nodes;
  depth = begins;
  spent = let n : sum_by (λ q. get_or F q 0) [] ≡ 0 = refl in omega (arith, n);
})

spent_more : (F path next : List ℕ) (r : ℕ) → next ≡ path ++ r ∷ [] → sum_by (λ q. get_or F q 0) next ≡ sum_by
    (λ q. get_or F q 0) path + get_or F r 0
spent_more F path next r e =
    let f = λ (q : ℕ). get_or F q 0 in
    let one : sum_by f (r ∷ []) ≡ get_or F r 0 = let c = sum_by-cons f r [] in let n : sum_by f [] ≡ 0 = refl in omega
    (arith, c, n) in
    let both = sum_by-append f path (r ∷ []) in
    ap (sum_by f) e ∙ both ∙ ap (λ n. sum_by f path + n) one

pub walked_next : (nodes : List (List Use)) (F : List ℕ) (xs : List (Option ℕ)) (bytes : ℕ) (path next : List ℕ)
    (r s left rest frame : ℕ) → Walked nodes F xs bytes path r left → next ≡ path ++ r ∷ [] → frame ≡ get_or F r 0
    → frame + rest ≡ left → Leads nodes r s → depth_of xs (Called s) ≡ Some rest → Walked nodes F xs bytes next s rest
walked_next nodes F xs bytes path next r s left rest frame w e is sum leads depth = record {
  path = path_more nodes path next r s w.path e leads;
  depth = depth;
  spent = let a = spent_more F path next r e in let b = w.spent in omega (arith, a, b, is, sum);
}

pub walked_all : (nodes : List (List Use)) (F : List ℕ) (xs : List (Option ℕ)) (bytes : ℕ) (path next : List ℕ)
    (r left frame : ℕ) → Walked nodes F xs bytes path r left → next ≡ path ++ r ∷ [] → frame ≡ get_or F r 0 → frame
    ≡ left → Takes F next bytes
walked_all nodes F xs bytes path next r left frame w e is all = let a = spent_more F path next r e in let b = w.spent in
    omega (arith, a, b, is, all)

-- ---- paths that come back

abbrev pub unseen : List Bool → ℕ
unseen [] = 0
unseen (true ∷ seen) = unseen seen
unseen (false ∷ seen) = suc (unseen seen)

pub fewer_unseen : (seen : List Bool) (i : ℕ) → i < length seen → get_or seen i false ≡ false → unseen (set seen i true)
    < unseen seen
fewer_unseen [] i l h = absurd (omega (arith, l))
fewer_unseen (false ∷ seen) zero l h = omega arith
fewer_unseen (true ∷ seen) zero l h = absurd (cc)
fewer_unseen (false ∷ seen) (suc i) l h = let rest = fewer_unseen seen i (omega (arith, l)) h in omega (arith, rest)
fewer_unseen (true ∷ seen) (suc i) l h = fewer_unseen seen i (omega (arith, l)) h

-- a routine of the path without a depth; those that were seen stand in it
pub record Turned (nodes : List (List Use)) (xs : List (Option ℕ)) (seen : List Bool) (told : List ℕ) (r : ℕ)
    : Type 0 where
  pub path : IsPathOf nodes (r ∷ reverse told)
  pub depth : depth_of xs (Called r) ≡ None
  pub count : length seen ≡ length nodes
  pub stands : (s : ℕ) → get_or seen s false ≡ true → Contains told s

none_seen : (n s : ℕ) → get_or (replicate n false) s false ≡ false
none_seen n s = go (cases_lt s n)
  where
    go : (s < n) ⊎ (n ≤ s) → get_or (replicate n false) s false ≡ false
    go (inl l) = get_or-replicate n s false false l
    go (inr l) = get_or_past (replicate n false) s false
        (let e = length-replicate {A = Bool} n false in omega (arith, l, e))

pub turned_start : (nodes : List (List Use)) (xs : List (Option ℕ)) (seen : List Bool) (path : List ℕ) (n : ℕ) → path
    ≡ [] → seen ≡ replicate n false → n ≡ length nodes → depth_of xs (Called 0) ≡ None → Turned nodes xs seen path 0
turned_start nodes xs seen path n e f count begins = subst (λ l. Turned nodes xs seen l 0) (sym e)
    (subst (λ l. Turned nodes xs l [] 0) (sym f) (record {
      path = path_start nodes;
      depth = begins;
      count = length-replicate {A = Bool} n false ∙ count;
      stands = λ s h. absurd (let no : false ≡ true = sym (none_seen n s) ∙ h in cc no);
    }))

pub turned_next : (nodes : List (List Use)) (xs : List (Option ℕ)) (seen : List Bool) (path next : List ℕ) (r s : ℕ)
    → Turned nodes xs seen path r → next ≡ path ++ r ∷ [] → Leads nodes r s → depth_of xs (Called s) ≡ None
    → Turned nodes xs (set seen r true) next s
turned_next nodes xs seen path next r s t e leads depth = record {
  path = path_more nodes path next r s t.path e leads;
  depth = depth;
  count = length-set seen r true ∙ t.count;
  stands = λ q h. subst (λ l. Contains l q) (sym e) (go q h (same_or_not q r));
}
  where
    go : (q : ℕ) → get_or (set seen r true) q false ≡ true → (q ≡ r) ⊎ (q ≢ r) → Contains (path ++ r ∷ []) q
    go q h (inl same) = subst (λ x. Contains (path ++ r ∷ []) x) (sym same)
        (Contains-append_right path (r ∷ []) r (0, omega arith, refl))
    go q h (inr other) = Contains-append_left path (r ∷ []) q
        (t.stands q (sym (get_or-set_other seen r q true false other) ∙ h))

pub comes_back : (path next : List ℕ) (r : ℕ) → Contains path r → next ≡ path ++ r ∷ [] → ComesBack next
comes_back path next r c e = record { before = path; last = r; whole = e; again = c }

-- ---- the answer

pub table_told : (program : Program) (nodes : List (List Use)) (F : List ℕ) (xs ys : List (Option ℕ)) → ys ≡ xs
    → nodes ≡ nodes_of program → length F ≡ length program.routines
    → ((r : ℕ) → r < length F → 1 ≤ get_or F r 0) → Sound nodes F xs → ((r : ℕ) → IsBlocked nodes xs r)
    → Tabled nodes F ys
table_told program nodes F xs ys e are frames positive sound blocked = subst (Tabled nodes F) (sym e) (record {
  program = program;
  nodes_are = are;
  frames = frames;
  positive = positive;
  sound = sound;
  blocked = blocked;
})
