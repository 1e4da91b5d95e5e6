-- In an accepted program neither the statement that a `for` statement repeats nor a routine within its block threatens
-- the control variable.
use Rattle.std.proofs.Common.{◌≡◌, ℕ, zero, suc, ◌+◌, ◌-◌, ◌==◌, Bool, true, false, ◌&&◌, if◌then◌else◌, List, [], ◌∷◌}
use Rattle.std.proofs.Common.{◌++◌, length, Some, slice_get, refl, sym, ap, ◌∙◌, subst, append-nil, length-append}
use Rattle.std.proofs.Common.{eqb-true, arith}
use Rattle.std.proofs.lemmas.Bool.{eq-eqb, ne_eqb}
use Rattle.std.proofs.lemmas.Option.{same_Some}
use Rattle.ps_syntax.specs.declared.program.Block as syntax_block
use Rattle.ps_syntax.specs.declared.program.Block.{out-Block}
use Rattle.ps_syntax.specs.declared.program.Routine.{Routine}
use Rattle.ps_syntax.specs.declared.program.Program as syntax
use Rattle.ps_tree.specs.Tree as Tree
use Rattle.ps_check_judgement.specs.declared.change.Change.{Change}
use Rattle.ps_check_judgement.proofs.Impossible.{never, none_some}
use Rattle.ps_check_names.specs.Regions.{Region}
use Rattle.ps_check.specs.Blocks.{own_number}
use Rattle.ps_check.specs.Changes.{outward}
use Rattle.ps_check.specs.Programs.{Files}
use Rattle.ps_check.specs.Paths.{routine_block, block_at}
use Rattle.ps_check_laws.specs.Denoting.{number_at, chain_at}
use Rattle.ps_check_laws.specs.Controls.{Loop, statements_loops, changes_by, changes_from}
use Rattle.ps_check_laws.specs.Threats.{Threatened, is_entry, statements_threaten, entries_of}
use Rattle.ps_check_laws.specs.Safe.{IsRoutineAt, IsSafe, ControlVariablesAreSafe}
use Rattle.ps_check_laws.specs.Rule.{KeepsRules, BlockIsRead, is_read}
use Rattle.ps_check_laws.proofs.Lists.{then_some, Each}
use Rattle.ps_check_laws.proofs.Threatened.{what_is_threatened_is_changed}
use Rattle.ps_check_laws.proofs.Controls.{IsKept, AreKept, loops_kept}
use Rattle.ps_check_laws.proofs.Accepted.{checked_programs_are_read}

-- ---- lists

each_left : {A : Type 0} (P : A → Type 0) (xs ys : List A) → Each P (xs ++ ys) → Each P xs
each_left P [] ys h = tt
each_left P (x ∷ xs) ys h = (h.0, each_left P xs ys h.1)

each_right : {A : Type 0} (P : A → Type 0) (xs ys : List A) → Each P (xs ++ ys) → Each P ys
each_right P [] ys h = h
each_right P (x ∷ xs) ys h = each_right P xs ys h.1

-- a change of this entry, the given number of blocks out
abbrev is_at : (up entry : ℕ) → Change → Bool
is_at up entry x = x.up == up && x.entry == entry

abbrev NoneAt : ℕ → ℕ → List Change → Type 0
NoneAt up entry xs = Each (λ x. is_at up entry x ≡ false) xs

abbrev NoEntry : ℕ → ℕ → Threatened → Type 0
NoEntry up entry a = Each (λ e. is_entry up entry e ≡ false) a

no_entries : (up entry : ℕ) (xs : List Change) → NoneAt up entry xs → NoEntry up entry (entries_of xs)
no_entries up entry [] h = tt
no_entries up entry (x ∷ xs) h = (h.0, no_entries up entry xs h.1)

-- ---- what a block around it sees

further_out : (m u : ℕ) → (m == 0) ≡ false → (m == (u + 1)) ≡ ((m - 1) == u)
further_out zero u e = never (sym e)
further_out (suc m) u e = at (m == u) refl ∙ (let n : m ≡ suc m - 1 = omega arith in ap (λ k. k == u) n)
  where
    at : (b : Bool) → (m == u) ≡ b → (suc m == (u + 1)) ≡ (m == u)
    at true q = eq-eqb (suc m) (u + 1) (let z = eqb-true m u q in omega (arith, z)) ∙ sym q
    at false q = ne_eqb (suc m) (u + 1) (λ e. never (sym q ∙ eq-eqb m u (omega (arith, e)))) ∙ sym q

not_here : (m u : ℕ) (b : Bool) → (m == 0) ≡ true → ((m == (u + 1)) && b) ≡ false
not_here m u b e = ap (λ z. z && b) (ne_eqb m (u + 1) (λ q. let z = eqb-true m 0 e in omega (arith, q, z)))

outward_none : (u i : ℕ) (xs : List Change) → NoneAt u i (outward xs) → NoneAt (u + 1) i xs
unfolding outward
outward_none u i [] h = tt
outward_none u i (x ∷ xs) h = at (x.up == 0) refl h (λ g. outward_none u i xs g)
  where
    at : (b : Bool) → (x.up == 0) ≡ b → NoneAt u i (if b then outward xs else record {
      up = x.up - 1;
      entry = x.entry;
      at = x.at;
    } ∷ outward xs) → (NoneAt u i (outward xs) → NoneAt (u + 1) i xs) → NoneAt (u + 1) i (x ∷ xs)
    at true q g rest = (not_here x.up u (x.entry == i) q, rest g)
    at false q g rest = (ap (λ z. z && (x.entry == i)) (further_out x.up u q) ∙ g.0, rest g.1)

-- for each routine of a block
of_routine : (P : Change → Type 0) (changes : ℕ → List Change) (rs : List Routine) (j i : ℕ) (r : Routine) → Each P
    (changes_from changes j rs) → slice_get rs i ≡ Some r → Each P (changes_by (changes (j + i)) (routine_block r))
unfolding changes_from
of_routine P changes [] j i r h e = absurd (none_some e)
of_routine P changes (y ∷ rs) j zero r h e =
    let here = each_left P (changes_by (changes j) (routine_block y)) (changes_from changes (j + 1) rs) h in
    let z : j ≡ j + 0 = omega arith in
    subst (λ k. Each P (changes_by (changes k) (routine_block r))) z
    (subst (λ q. Each P (changes_by (changes j) (routine_block q))) (same_Some y r e) here)
of_routine P changes (y ∷ rs) j (suc i) r h e =
    let more = of_routine P changes rs (j + 1) i r
    (each_right P (changes_by (changes j) (routine_block y)) (changes_from changes (j + 1) rs) h) e in
    let z : (j + 1) + i ≡ j + suc i = omega arith in
    subst (λ k. Each P (changes_by (changes k) (routine_block r))) z more

-- ---- paths further in

-- the path that leads on by these routines, the outermost first
abbrev under : List ℕ → List ℕ → List ℕ
under [] v = v
under (k ∷ ks) v = under ks (k ∷ v)

under_last : (ks : List ℕ) (k : ℕ) (v : List ℕ) → under (ks ++ k ∷ []) v ≡ k ∷ under ks v
under_last [] k v = refl
under_last (j ∷ ks) k v = under_last ks k (j ∷ v)

record Turned (inner v : List ℕ) : Type 0 where
  steps : List ℕ
  leads : under steps v ≡ inner ++ v
  many : length steps ≡ length inner

turned : (inner v : List ℕ) → Turned inner v
turned [] v = record { steps = []; leads = refl; many = refl }
turned (x ∷ inner) v =
    let r = turned inner v in
    record {
      steps = r.steps ++ x ∷ [];
      leads = under_last r.steps x v ∙ ap (λ l. x ∷ l) r.leads;
      many = (let a = length-append r.steps (x ∷ []) in let m = r.many in omega (arith, a, m));
    }

there_outside : (root : syntax_block.Block) (ks v : List ℕ) (x : syntax_block.Block) → block_at root (under ks v)
    ≡ Some x → (b : syntax_block.Block) × (block_at root v ≡ Some b)
unfolding block_at
there_outside root [] v x e = (x, e)
there_outside root (k ∷ ks) v x e =
    let a = there_outside root ks (k ∷ v) x e in
    let b = then_some (block_at root v) _ a.0 a.1 in
    (b.0, b.1)

record InnerBlock (b : syntax_block.Block) (k : ℕ) (a : syntax_block.Block) : Type 0 where
  routine : Routine
  there : slice_get (out-Block b).routines k ≡ Some routine
  is : routine_block routine ≡ Some a

inner_block : (root : syntax_block.Block) (k : ℕ) (v : List ℕ) (b a : syntax_block.Block) → block_at root v ≡ Some b
    → block_at root (k ∷ v) ≡ Some a → InnerBlock b k a
unfolding block_at
inner_block root k v b a e g =
    let y = then_some (block_at root v) _ a g in
    let r = then_some (slice_get (out-Block y.0).routines k) routine_block a y.2 in
    record {
      routine = r.0;
      there = ap (λ (z : syntax_block.Block). slice_get (out-Block z).routines k) (same_Some b y.0 (sym e ∙ y.1)) ∙ r.1;
      is = r.2;
    }

own_is : (text : List ℕ) (p : syntax.Program) (v chain : List ℕ) (n : ℕ) → chain_at text p v ≡ Some chain
    → number_at text p v ≡ Some n → own_number chain ≡ n
unfolding chain_at number_at own_number
own_is text p [] chain n e g = ap own_number (sym (same_Some (0 ∷ []) chain e)) ∙ same_Some 0 n g
own_is text p (k ∷ v) chain n e g =
    let m = then_some (number_at text p (k ∷ v)) _ chain e in
    let ns = then_some (chain_at text p v) _ chain m.2 in
    ap own_number (sym (same_Some (m.0 ∷ ns.0) chain ns.2)) ∙ same_Some m.0 n (sym m.1 ∙ g)

-- ---- the routines within a block

module _ (text : List ℕ) (p : syntax.Program) (files : Files) (made : Tree.Program) where
  same_routine : (v : List ℕ) (b : syntax_block.Block) (Γ : List Region) (own : KeepsRules text p files made v b Γ)
      (q : Tree.Routine) → IsRoutineAt text p made v q → own.routine ≡ q
  same_routine v b Γ own q t = same_Some own.routine q
      (sym own.checked ∙ ap (slice_get made.routines) (own_is text p v own.start.chain t.number own.chain t.numbered)
      ∙ t.checked)

  -- for the routine whose block it is
  own_threatens : (v : List ℕ) (b : syntax_block.Block) (Γ : List Region) (own : KeepsRules text p files made v b Γ)
      (q : Tree.Routine) → IsRoutineAt text p made v q → (u i : ℕ) → NoneAt u i own.changes → NoEntry u i
      (statements_threaten q.body)
  own_threatens v b Γ own q t u i h =
      let entries = what_is_threatened_is_changed _ _ (out-Block b).statements own.routine.body own.changes own.body in
      subst (λ (r : Tree.Routine). NoEntry u i (statements_threaten r.body)) (same_routine v b Γ own q t)
      (subst (NoEntry u i) entries (no_entries u i own.changes h))

  -- what a block doesn't change, no routine within it threatens
  reach : (ks v : List ℕ) (b : syntax_block.Block) (Γ : List Region) (all : List Change)
      → BlockIsRead text p files made v b Γ all → block_at p.block v ≡ Some b → (u i : ℕ) → NoneAt u i all
      → (x : syntax_block.Block) (q : Tree.Routine) → block_at p.block (under ks v) ≡ Some x → IsRoutineAt text p made
      (under ks v) q → NoEntry (length ks + u) i (statements_threaten q.body)
  reach [] v b Γ all (is_read u' a H some own all_are changes inner_are nested) there u i h x q at t =
      let z : u ≡ 0 + u = omega arith in
      let mine = each_right (λ x. is_at u i x ≡ false) own.inner own.changes (subst (NoneAt u i) all_are h) in
      subst (λ n. NoEntry n i (statements_threaten q.body)) z (own_threatens v b Γ own q t u i mine)
  reach (k ∷ ks) v b Γ all (is_read u' a H some own all_are changes inner_are nested) there u i h x q at t =
      let o = there_outside p.block ks (k ∷ v) x at in
      let r = inner_block p.block k v b o.0 there o.1 in
      let theirs = subst (NoneAt u i) inner_are
      (each_left (λ x. is_at u i x ≡ false) own.inner own.changes (subst (NoneAt u i) all_are h)) in
      let one = of_routine (λ x. is_at u i x ≡ false) changes (out-Block b).routines 0 k r.routine theirs r.there in
      let n : 0 + k ≡ k = omega arith in
      let out : NoneAt u i (outward (changes k)) = subst (λ m. NoneAt u i (outward (changes m))) n
      (subst (λ o. NoneAt u i (changes_by (changes (0 + k)) o)) r.is one) in
      let z : length ks + (u + 1) ≡ suc (length ks) + u = omega arith in
      subst (λ n. NoEntry n i (statements_threaten q.body)) z
      (reach ks (k ∷ v) o.0 _ (changes k) (nested k r.routine o.0 r.there r.is) o.1 (u + 1) i
      (outward_none u i (changes k) out) x q at t)

  -- the reading of a block further in
  record ReadAt (v : List ℕ) (b : syntax_block.Block) : Type 0 where
    regions : List Region
    changed : List Change
    reading : BlockIsRead text p files made v b regions changed

  read_at : (ks v : List ℕ) (b : syntax_block.Block) (Γ : List Region) (all : List Change)
      → BlockIsRead text p files made v b Γ all → block_at p.block v ≡ Some b → (x : syntax_block.Block)
      → block_at p.block (under ks v) ≡ Some x → ReadAt (under ks v) x
  read_at [] v b Γ all t there x at = record {
    regions = Γ;
    changed = all;
    reading = subst (λ y. BlockIsRead text p files made v y Γ all) (same_Some b x (sym there ∙ at)) t;
  }
  read_at (k ∷ ks) v b Γ all (is_read u a H some own all_are changes inner_are nested) there x at =
      let o = there_outside p.block ks (k ∷ v) x at in
      let r = inner_block p.block k v b o.0 there o.1 in
      read_at ks (k ∷ v) o.0 _ (changes k) (nested k r.routine o.0 r.there r.is) o.1 x at

  -- ---- the `for` statements of a block

  all_safe : (v : List ℕ) (c : _) (loops : List Loop) → AreKept c loops
      → ((loop : Loop) → IsKept c loop → IsSafe text p made v loop) → Each (IsSafe text p made v) loops
  all_safe v c [] h one = tt
  all_safe v c (loop ∷ loops) h one = (one loop h.0, all_safe v c loops h.1 one)

  safe_at : (v : List ℕ) (b : syntax_block.Block) (Γ : List Region) (all : List Change)
      → BlockIsRead text p files made v b Γ all → block_at p.block v ≡ Some b → (r : Tree.Routine)
      → IsRoutineAt text p made v r → Each (IsSafe text p made v) (statements_loops r.body)
  safe_at v b Γ all (is_read u' a H some own all_are changes inner_are nested) there r t =
      let kept = loops_kept _ _ (out-Block b).statements [] (own.routine.body, own.changes) own.body in
      subst (λ (q : Tree.Routine). Each (IsSafe text p made v) (statements_loops q.body)) (same_routine v b Γ own r t)
      (all_safe v _ (statements_loops own.routine.body) kept (λ loop k. record {
        itself = k.itself;
        within = λ u w x q at is.
            let s = turned w.inner (w.number ∷ v) in
            let path : under s.steps (w.number ∷ v) ≡ u = s.leads ∙ sym w.is in
            let at_path : block_at p.block (under s.steps (w.number ∷ v)) ≡ Some x = ap (block_at p.block) path ∙ at in
            let o = there_outside p.block s.steps (w.number ∷ v) x at_path in
            let i = inner_block p.block w.number v b o.0 there o.1 in
            let one = of_routine (λ x. is_at 0 loop.0 x ≡ false) changes (out-Block b).routines 0 w.number i.routine
            (subst (NoneAt 0 loop.0) inner_are k.outside) i.there in
            let n : 0 + w.number ≡ w.number = omega arith in
            let out : NoneAt 0 loop.0 (outward (changes w.number)) = subst
            (λ m. NoneAt 0 loop.0 (outward (changes m))) n
            (subst (λ o. NoneAt 0 loop.0 (changes_by (changes (0 + w.number)) o)) i.is one) in
            let here = reach s.steps (w.number ∷ v) o.0 _ (changes w.number)
            (nested w.number i.routine o.0 i.there i.is) o.1 (0 + 1) loop.0
            (outward_none 0 loop.0 (changes w.number) out) x q at_path
            (subst (λ l. IsRoutineAt text p made l q) (sym path) is) in
            let m = s.many in
            let z : length s.steps + (0 + 1) ≡ length w.inner + 1 = omega (arith, m) in
            subst (λ n. NoEntry n loop.0 (statements_threaten q.body)) z here;
      }))

pub control_variables_are_safe : ControlVariablesAreSafe
unfolding block_at
control_variables_are_safe text p made e v b r there t =
    let is = checked_programs_are_read text p made e in
    let s = turned v [] in
    let path : under s.steps [] ≡ v = s.leads ∙ append-nil v in
    let reading = subst (λ l. ReadAt text p is.files made l b) path
    (read_at text p is.files made s.steps [] p.block _ is.changes is.block refl b
    (ap (block_at p.block) path ∙ there)) in
    safe_at text p is.files made v b reading.regions reading.changed reading.reading there r t
