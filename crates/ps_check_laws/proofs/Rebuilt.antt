-- A block that keeps the rules is what the checker reads.
use Rattle.std.proofs.Common.{◌≡◌, ℕ, zero, suc, ◌+◌, ◌<◌, ◌≤◌, Bool, true, false, ◌||◌, not, if◌then◌else◌, List, []}
use Rattle.std.proofs.Common.{◌∷◌, ◌++◌, length, take, drop, nat_eq, Some, slice_get, refl, sym, ap, ◌∙◌}
use Rattle.std.proofs.Common.{append_assoc, append-nil, length-append, eqb-true, arith}
use Rattle.std.proofs.lemmas.List.{map-append}
use Rattle.std.proofs.lemmas.Option.{slice_get_within, same_Some}
use Rattle.std.proofs.lemmas.Bool.{eq-eqb, ne_eqb}
use Rattle.std.proofs.Math.Seq.{take-append_seam}
use Rattle.ps_check_judgement.proofs.Impossible.{never, none_some}
use Rattle.ps_check_judgement.proofs.Items.{get_stays}
use Rattle.ps_syntax.specs.declared.program.Heading as syntax
use Rattle.ps_syntax.specs.declared.program.Routine.{Routine, out-Routine}
use Rattle.ps_syntax.specs.declared.program.Routine.TheOpen.{Routine-F}
use Rattle.ps_tree.specs.Tree as Tree
use Rattle.ps_tree.specs.Counts.{is_routine_within_limits, are_routines_within_limits}
use Rattle.ps_check_names.specs.Spelling.{spelled, has}
use Rattle.ps_check_names.specs.Regions.{Context}
use Rattle.ps_check.specs.RegionNames.{AreApart}
use Rattle.ps_check_laws.specs.Definitions.{Declarations, InPart, routine_name, routine_names, introduced, names_of}
use Rattle.ps_check_laws.specs.Denoting.{counted, routine_count}
use Rattle.ps_check_laws.specs.Forward.{layer_completes, Completes, AreCompleted}
use Rattle.ps_check_laws.proofs.Lists.{get_at, get_last}
use Rattle.ps_check_laws.proofs.Lists.{take_next, compare, difference, has_append}
use Rattle.ps_check_laws.proofs.Shown.{split_at, take_add, opened, closed}
use Rattle.ps_check_laws.proofs.Routines.{sp, introduced_last, introduced_more, introduced_append, names_last, own}
use Rattle.ps_check_laws.proofs.Routines.{counts, counted_none, counted_last}
use Rattle.ps_check_laws.proofs.BlockPoints.{points}
use Rattle.ps_tree.proofs.Booleans.{and_first, and_second}
use Rattle.ps_check_laws.proofs.Ordered.{has_at, before, Point, new, old, routed}

-- ---- numbers and limits

-- the limits of a program hold of each of its routines
pub routine_small : (rs : List Tree.Routine) (n : ℕ) (r : Tree.Routine) → are_routines_within_limits rs ≡ true
    → slice_get rs n ≡ Some r → is_routine_within_limits r ≡ true
unfolding are_routines_within_limits
routine_small [] n r limits e = absurd (none_some e)
routine_small (x ∷ rs) zero r limits e = ap is_routine_within_limits (sym (same_Some x r e)) ∙ and_first
    (is_routine_within_limits x) (are_routines_within_limits rs) limits
routine_small (x ∷ rs) (suc n) r limits e = routine_small rs n r
    (and_second (is_routine_within_limits x) (are_routines_within_limits rs) limits) e

-- ---- counts

module _ (text : List ℕ) where
  pub counted_end : (done : List Routine) (x : Routine) → counted text [] (counts text (done ++ x ∷ []))
      ≡ counted text [] (counts text done) + ((routine_count text x).1 + own text (introduced text done) x)
  unfolding routine_names
  counted_end done x = counted_last text [] 0 done x

  pub counted_more : (ys xs : List Routine) → counted text [] (counts text xs) ≤ counted text []
      (counts text (xs ++ ys))
  counted_more [] xs = let z = ap (λ l. counted text [] (counts text l)) (append-nil xs) in omega (arith, z)
  counted_more (y ∷ ys) xs =
      let one = counted_end xs y in
      let rest = counted_more ys (xs ++ y ∷ []) in
      let z = ap (λ l. counted text [] (counts text l)) (append_assoc xs (y ∷ []) ys) in
      omega (arith, one, rest, z)

  in_names : (xs ys : List InPart) (s : List ℕ) → has (routine_names text xs) s ≡ true → has
      (routine_names text (xs ++ ys)) s ≡ true
  unfolding routine_names
  in_names xs ys s h =
      ap (λ l. has l s) (map-append (λ (r : InPart). spelled text (routine_name r.1)) xs ys) ∙ has_append
      (routine_names text xs) (routine_names text ys) s
      ∙ ap (λ b. b || has (routine_names text ys) s) h

  last_named : (I : List InPart) (k : ℕ) (x : Routine) (b : Bool) → has (routine_names text I) (sp text x) ≡ b → has
      (routine_names text (if b then I else I ++ (k, x) ∷ [])) (sp text x) ≡ true
  last_named I k x true h = h
  last_named I k x false h = ap (λ l. has l (sp text x)) (names_last text I k x) ∙ has_at
      (routine_names text I ++ sp text x ∷ []) (length (routine_names text I)) (sp text x)
      (get_at (routine_names text I) (sp text x) [])

  -- a routine at a place has its name among those introduced
  done_named : (done : List Routine) (j : ℕ) (y : Routine) → slice_get done j ≡ Some y → has
      (routine_names text (introduced text done)) (sp text y) ≡ true
  done_named done j y e =
      let A = take j done in
      let I = introduced text A in
      let B = introduced text (A ++ y ∷ []) in
      let more = introduced_more text B (0 + length (A ++ y ∷ [])) (drop (suc j) done) in
      let all : introduced text done ≡ B ++ more.0 = ap (introduced text)
      (split_at done j y e ∙ sym (append_assoc A (y ∷ []) (drop (suc j) done))) ∙ introduced_append text [] 0
      (A ++ y ∷ []) (drop (suc j) done) ∙ more.1 in
      let there : has (routine_names text B) (sp text y) ≡ true = ap (λ l. has (routine_names text l) (sp text y))
      (introduced_last text A y) ∙ last_named I (length A) y (has (routine_names text I) (sp text y)) refl in
      ap (λ l. has (routine_names text l) (sp text y)) all ∙ in_names B more.0 (sp text y) there

  forward_not : (z y : Routine) (h : syntax.Heading) → Completes text z y → out-Routine y ≡ Routine-F.Forward h → ⊥
  forward_not z y h k o = never (sym (ap (layer_completes k.heading) o) ∙ k.block)

  pub own_one : (I : List InPart) (x : Routine) → has (routine_names text I) (sp text x) ≡ false → own text I x ≡ 1
  own_one I x h = ap (λ b. if b then 0 else 1) h

  pub own_none : (I : List InPart) (x : Routine) → has (routine_names text I) (sp text x) ≡ true → own text I x ≡ 0
  own_none I x h = ap (λ b. if b then 0 else 1) h

-- ---- the routines of a block, some of which are done

-- no routine after number j among them has the name
abbrev pub NotYet : List ℕ → List Routine → ℕ → Routine → Type 0
NotYet text done j y = (i : ℕ) (z : Routine) → j < i → slice_get done i ≡ Some z → sp text z ≡ sp text y → ⊥

module _ (c : Context) (D : Declarations) (rs : List Routine)
    (apart : AreApart (names_of c.text (points c.text D (introduced c.text rs)))) (completed : AreCompleted c.text rs)
    (next : ℕ) where
  abbrev pub number_of : ℕ → ℕ
  number_of k = next + counted c.text [] (counts c.text (take k rs))

  abbrev pub numbered_to : List Routine → ℕ
  numbered_to done = next + counted c.text [] (counts c.text done)

  forward_new : (j : ℕ) (y : Routine) (h : syntax.Heading) → slice_get rs j ≡ Some y → out-Routine y
      ≡ Routine-F.Forward h → has (routine_names c.text (introduced c.text (take j rs))) (sp c.text y) ≡ false
  forward_new j y h e o = at (routed c D rs apart completed (take j rs) (drop (suc j) rs) y (split_at rs j y e))
    where
      at : Point c D rs apart completed (take j rs) (drop (suc j) rs) y (split_at rs j y e) → has
          (routine_names c.text (introduced c.text (take j rs))) (sp c.text y) ≡ false
      at (new absent grown free there) = absent
      at (old i n z kept here among there in_done alike completes) = absurd (forward_not c.text z y h completes o)

  pub forward_less : (j i : ℕ) (y : Routine) (h : syntax.Heading) → j < i → slice_get rs j ≡ Some y → out-Routine y
      ≡ Routine-F.Forward h → number_of j < number_of i
  forward_less j i y h l e o =
      let m = difference (suc j) i (omega (arith, l)) in
      let one = counted_end c.text (take j rs) y in
      let is_one = own_one c.text (introduced c.text (take j rs)) y (forward_new j y h e o) in
      let a = ap (λ l. counted c.text [] (counts c.text l)) (take_next rs j y e) in
      let b = counted_more c.text (take m.0 (drop (suc j) rs)) (take (suc j) rs) in
      let d = ap (λ l. counted c.text [] (counts c.text l))
      (sym (take_add (suc j) m.0 rs) ∙ ap (λ k. take k rs) (sym m.1)) in
      omega (arith, one, is_one, a, b, d)

  -- a heading whose block is pending
  pub record Waiting (done : List Routine) (m : ℕ) : Type 0 where
    pub at : ℕ
    pub routine_there : Routine
    pub said : syntax.Heading
    pub there : slice_get done at ≡ Some routine_there
    pub forward : out-Routine routine_there ≡ Routine-F.Forward said
    pub number : m ≡ number_of at
    pub not_yet : NotYet c.text done at routine_there

  -- which routines have no block, where some are done: those that had none before, and the headings whose block is
  -- pending
  pub record Are (done : List Routine) (before vacant : ℕ → Bool) : Type 0 where
    pub same : (m : ℕ) → m < next → vacant m ≡ before m
    pub below : (m : ℕ) → numbered_to done ≤ m → vacant m ≡ false
    pub waiting : (m : ℕ) → next ≤ m → vacant m ≡ true → Waiting done m
    pub waits : (j : ℕ) (y : Routine) (h : syntax.Heading) → slice_get done j ≡ Some y → out-Routine y
        ≡ Routine-F.Forward h → NotYet c.text done j y → vacant (number_of j) ≡ true

  pub none_are : (before : ℕ → Bool) → ((m : ℕ) → next ≤ m → before m ≡ false) → Are [] before before
  none_are before low = record {
    same = λ m l. refl;
    below = λ m l. let z = counted_none c.text [] in low m (omega (arith, l, z));
    waiting = λ m l e. never (sym (low m l) ∙ e);
    waits = λ j y h e o n. absurd (none_some e);
  }

  -- at the end all have come
  pub all_come : (before vacant : ℕ → Bool) → Are rs before vacant → (m : ℕ) → next ≤ m → vacant m ≡ false
  all_come before vacant a m l = at (vacant m) refl
    where
      at : (b : Bool) → vacant m ≡ b → b ≡ false
      at true e =
          let w = a.waiting m l e in
          let h = completed.each w.at w.routine_there w.said w.there w.forward in
          absurd (w.not_yet h.number h.routine h.behind h.there h.completes.named)
      at false e = refl

  pub all_alike : (before vacant : ℕ → Bool) → Are rs before vacant → ((m : ℕ) → next ≤ m → before m ≡ false) → (m : ℕ)
      → vacant m ≡ before m
  all_alike before vacant a low m = compare m next (vacant m ≡ before m) (λ l. a.same m l)
      (λ e. above (omega (arith, e))) (λ l. above (omega (arith, l)))
    where
      above : next ≤ m → vacant m ≡ before m
      above l = all_come before vacant a m l ∙ sym (low m l)

  module _ (done rest : List Routine) (x : Routine) (split : rs ≡ done ++ x ∷ rest) (first vacant : ℕ → Bool)
      (a : Are done first vacant) where
    abbrev k : ℕ
    k = length done

    at_k : slice_get rs k ≡ Some x
    at_k = ap (λ l. slice_get l k) split ∙ get_at done x rest

    taken_k : take k rs ≡ done
    taken_k = ap (take k) split ∙ take-append_seam done (x ∷ rest)

    is_numbered : number_of k ≡ numbered_to done
    is_numbered = ap (λ l. numbered_to l) taken_k

    in_rs : (j : ℕ) (y : Routine) → slice_get done j ≡ Some y → slice_get rs j ≡ Some y
    in_rs j y e = ap (λ l. slice_get l j) split ∙ get_stays done (x ∷ rest) j y e

    pub grows : numbered_to (done ++ x ∷ []) ≡ numbered_to done
        + ((routine_count c.text x).1 + own c.text (introduced c.text done) x)
    grows = let z = counted_end c.text done x in omega (arith, z)

    earlier : (y : Routine) (j : ℕ) → NotYet c.text (done ++ x ∷ []) j y → NotYet c.text done j y
    earlier y j n i z l e q = n i z l (get_stays done (x ∷ []) i z e) q

    -- a heading whose block is pending stays so, if the routine has another name
    waits_on : (m : ℕ) (w : Waiting done m) → (sp c.text x ≡ sp c.text w.routine_there → ⊥) → Waiting (done ++ x ∷ []) m
    waits_on m w differs = record {
      at = w.at;
      routine_there = w.routine_there;
      said = w.said;
      there = get_stays done (x ∷ []) w.at w.routine_there w.there;
      forward = w.forward;
      number = w.number;
      not_yet = λ i z l e q. get_last done x i z ⊥ e (λ before. w.not_yet i z l before q)
          (λ n is. differs (ap (sp c.text) is ∙ q));
    }

    new_differs : has (routine_names c.text (introduced c.text done)) (sp c.text x) ≡ false → (j : ℕ) (y : Routine)
        → slice_get done j ≡ Some y → sp c.text x ≡ sp c.text y → ⊥
    new_differs absent j y e q = never (sym absent ∙ ap (has (routine_names c.text (introduced c.text done))) q
        ∙ done_named c.text done j y e)

    module _ (absent : has (routine_names c.text (introduced c.text done)) (sp c.text x) ≡ false) where
      abbrev n : ℕ
      n = numbered_to done

      free : vacant n ≡ false
      free = a.below n (omega arith)

      more : n + 1 ≤ numbered_to (done ++ x ∷ [])
      more = let z = grows in let y = own_one c.text (introduced c.text done) x absent in omega (arith, z, y)

      -- a forward heading is vacant from there on
      pub forward_are : (h : syntax.Heading) → out-Routine x ≡ Routine-F.Forward h → Are (done ++ x ∷ []) first
          (opened n vacant)
      forward_are h o = record {
        same = λ m l. ap (λ b. if b then true else vacant m) (ne_eqb m n (λ q. omega (arith, q, l))) ∙ a.same m l;
        below = λ m l. let z = more in ap (λ b. if b then true else vacant m) (ne_eqb m n (λ q. omega (arith, q, l, z)))
            ∙ a.below m (omega (arith, l, z));
        waiting = λ m l e. at m l (nat_eq m n) refl e;
        waits = λ j y g e f not. get_last done x j y (opened n vacant (number_of j) ≡ true) e
            (λ before. still (number_of j) (nat_eq (number_of j) n) (a.waits j y g before f (earlier y j not)))
            (λ q is. let z = is_numbered in ap (λ b. if b then true else vacant (number_of j))
            (eq-eqb (number_of j) n (ap number_of q ∙ z)));
      }
        where
          still : (m : ℕ) (b : Bool) → vacant m ≡ true → (if b then true else vacant m) ≡ true
          still m true e = refl
          still m false e = e

          at : (m : ℕ) → next ≤ m → (b : Bool) → nat_eq m n ≡ b → (if b then true else vacant m) ≡ true → Waiting
              (done ++ x ∷ []) m
          at m l true q e = record {
            at = k;
            routine_there = x;
            said = h;
            there = get_at done x [];
            forward = o;
            number = eqb-true m n q ∙ sym is_numbered;
            not_yet = λ i z below there same_name. let y = slice_get_within (done ++ x ∷ []) i z there
                in let s = length-append done (x ∷ []) in omega (arith, below, y, s);
          }
          at m l false q e = let w = a.waiting m l e in waits_on m w (new_differs absent w.at w.routine_there w.there)

      -- a routine with its block is so within it
      pub whole_are : ((h : syntax.Heading) → out-Routine x ≡ Routine-F.Forward h → ⊥) → Are (done ++ x ∷ []) first
          (closed n (opened n vacant))
      whole_are no_forward = record {
        same = λ m l. at m l;
        below = λ m l. let z = more in plain m (omega (arith, l, z)) ∙ a.below m (omega (arith, l, z));
        waiting = λ m l e. let w = waiting_at m l (nat_eq m n) e in waits_on m w
            (new_differs absent w.at w.routine_there w.there);
        waits = λ j y g e f not. get_last done x j y (closed n (opened n vacant) (number_of j) ≡ true) e
            (λ before.
            let w = a.waits j y g before f (earlier y j not) in
            here (number_of j) (λ q. never (sym free ∙ ap vacant (sym q) ∙ w)) ∙ w)
            (λ q is. absurd (no_forward g (ap out-Routine is ∙ f)));
      }
        where
          here : (m : ℕ) → (m ≡ n → ⊥) → closed n (opened n vacant) m ≡ vacant m
          here m q = ap (λ b. if b then false else (if b then true else vacant m)) (ne_eqb m n q)

          plain : (m : ℕ) → n < m → closed n (opened n vacant) m ≡ vacant m
          plain m l = here m (λ q. omega (arith, q, l))

          at : (m : ℕ) → m < next → closed n (opened n vacant) m ≡ first m
          at m l = here m (λ q. omega (arith, q, l)) ∙ a.same m l

          waiting_at : (m : ℕ) → next ≤ m → (b : Bool) → (if b then false else (if b then true else vacant m)) ≡ true
              → Waiting done m
          waiting_at m l true e = never e
          waiting_at m l false e = a.waiting m l e

      pub inner_low : (m : ℕ) → n + 1 ≤ m → opened n vacant m ≡ false
      inner_low m l = ap (λ b. if b then true else vacant m) (ne_eqb m n (λ q. omega (arith, q, l))) ∙ a.below m
          (omega (arith, l))

    -- the routine completes one that is pending
    module _ (j : ℕ) (y : Routine) (there : slice_get done j ≡ Some y) (alike : sp c.text y ≡ sp c.text x)
        (completes : Completes c.text y x) where
      pub no_forward : (h : syntax.Heading) → out-Routine x ≡ Routine-F.Forward h → ⊥
      no_forward h o = forward_not c.text y x h completes o

      below_k : j < k
      below_k = slice_get_within done j y there

      -- none between them has the name
      between : NotYet c.text done j y
      between i z l e q =
          let one = completed.only j i y z l (in_rs j y there) (in_rs i z e) q in
          let two = completed.only i k z x (slice_get_within done i z e) (in_rs i z e) at_k (sym (q ∙ alike)) in
          forward_not c.text y z two.heading one two.forward

      pub is_open_there : vacant (number_of j) ≡ true
      is_open_there = a.waits j y completes.heading there completes.forward between

      number_low : next ≤ number_of j
      number_low = omega arith

      pub completed_are : Are (done ++ x ∷ []) first (closed (number_of j) vacant)
      completed_are = record {
        same = λ m l. ap (λ b. if b then false else vacant m) (ne_eqb m (number_of j) (λ q. omega (arith, q, l)))
            ∙ a.same m l;
        below = λ m l. at m (nat_eq m (number_of j)) (let z = grows in a.below m (omega (arith, l, z)));
        waiting = λ m l e. waiting_at m l (nat_eq m (number_of j)) refl e;
        waits = λ i z g e f not. get_last done x i z (closed (number_of j) vacant (number_of i) ≡ true) e
            (λ before. ap (λ b. if b then false else vacant (number_of i))
            (ne_eqb (number_of i) (number_of j) (λ q. numbers_differ i z g before f not q)) ∙ a.waits i z g before f
            (earlier z i not))
            (λ q is. absurd (no_forward g (ap out-Routine is ∙ f)));
      }
        where
          at : (m : ℕ) (b : Bool) → vacant m ≡ false → (if b then false else vacant m) ≡ false
          at m true e = refl
          at m false e = e

          -- a routine that is pending with the name is that one
          waiting_at : (m : ℕ) → next ≤ m → (b : Bool) → nat_eq m (number_of j) ≡ b → (if b then false else vacant m)
              ≡ true → Waiting (done ++ x ∷ []) m
          waiting_at m l true q e = never e
          waiting_at m l false q e =
              let w = a.waiting m l e in
              waits_on m w (λ s.
              compare w.at j ⊥
              (λ less. w.not_yet j y less there (alike ∙ s))
              (λ same_place. never (sym q ∙ eq-eqb m (number_of j) (w.number ∙ ap number_of same_place)))
              (λ more. between w.at w.routine_there more w.there (sym s ∙ sym alike)))

          numbers_differ : (i : ℕ) (z : Routine) (g : syntax.Heading) → slice_get done i ≡ Some z → out-Routine z
              ≡ Routine-F.Forward g → NotYet c.text (done ++ x ∷ []) i z → number_of i ≡ number_of j → ⊥
          numbers_differ i z g e f not q =
              compare i j ⊥
              (λ l. let m = forward_less i j z g l (in_rs i z e) f in omega (arith, m, q))
              (λ same_place. not k x (slice_get_within done i z e) (get_at done x [])
              (sym alike ∙ ap (sp c.text) (same_Some y z (sym there ∙ ap (slice_get done) (sym same_place) ∙ e))))
              (λ l. let m = forward_less j i y completes.heading l (in_rs j y there) completes.forward in omega
              (arith, m, q))
