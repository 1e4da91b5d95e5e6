-- A word that changes in any live block: its address, and the relation after it.
use Rattle.std.proofs.Common.{◌≡◌, ◌≢◌, ℕ, zero, suc, ◌+◌, ◌*◌, ◌%◌, ◌<◌, ◌≤◌, ◌⊎◌, inl, inr, ⊎_elim, Bool, true}
use Rattle.std.proofs.Common.{false, cond, nat_eq, List, [], ◌∷◌, length, Option, Some, None, slice_get, slice_set}
use Rattle.std.proofs.Common.{refl, sym, ap, ◌∙◌, subst, arith}
use Rattle.std.proofs.lemmas.Bool.{cases_eq, eqb-true, cases_Bool}
use Rattle.std.proofs.lemmas.Option.{slice_get_within}
use Rattle.tac_code.specs.declared.code.Value.{Value}
use Rattle.tac_code.specs.Memory.{Words, Living, known, behind, instead, changed, behind_object, instead_object}
use Rattle.tac_code.specs.Memory.{changed_object}
use Rattle.tac_code.specs.Meaning.{Activation}
use Rattle.tac_code.proofs.Items.{set_length}
use Rattle.risc_emit_relation.specs.Context.{Context, is_program, cost, Places, word, IsValue, IsLaid}
use Rattle.risc_emit_relation.specs.Related.{Holds, Owner, owner_of, Own, Waits, Open, Stands, Objects}
use Rattle.risc_emit_relation.proofs.Basics.{get_set_same, get_set_other}
use Rattle.risc_emit_relation.proofs.Basics.{update_at, update_other}
use Rattle.risc_emit_relation.proofs.Frames.{free_at, free_program, free_leaf, program_room, leaf_room, holds_keeps}
use Rattle.risc_emit_relation.proofs.Frames.{open_room, open_bottom, open_within, own_keeps, waits_keeps}
use Rattle.risc_emit_relation.proofs.Found.{cost_aligned}
use Rattle.risc_emit_relation.specs.Changes.{StoodAt, update}

-- ---- a change of one word of a block

-- what a change does: word i becomes a value, which Q relates to what was there
pub record Sets (i : ℕ) (Q : Option Value → Value → Type 0) (ws ws' : Words) : Type 0 where
  pub value : Value
  pub within : i < length ws
  pub becomes : ws' ≡ slice_set ws i (Some value)
  pub why : Q (known (slice_get ws i)) value

abbrev pub IsChange : ℕ → (Option Value → Value → Type 0) → (Words → Option Words) → Type 0
IsChange i Q change = (ws ws' : Words) → change ws ≡ Some ws' → Sets i Q ws ws'

module _ (c : Context) (laid : IsLaid c) (p : Places) where
  -- Q gives values where there were values
  abbrev pub IsGood : (Option Value → Value → Type 0) → Type 0
  IsGood Q = (o : Option Value) (x : Value) → Q o x → IsValue c p x

  known_some : (o : Option (Option Value)) (v : Value) → known o ≡ Some v → o ≡ Some (Some v)
  known_some None v e = absurd (cc e)
  known_some (Some x) v e = ap Some e

  stood : (w : ℕ → ℕ) (at i : ℕ) (ws : Words) → Holds c p w at ws → StoodAt c p w (at + 4 * i) (known (slice_get ws i))
  stood w at i ws h v e = h i v (known_some (slice_get ws i) v e)

  pub holds_set : (w : ℕ → ℕ) (at i : ℕ) (ws : Words) (x : Value) → i < length ws → IsValue c p x → Holds c p w at ws
      → Holds c p (update (at + 4 * i) (word c p x) w) at (slice_set ws i (Some x))
  holds_set w at i ws x lt good h j v e =
      ⊎_elim
      (λ (same : j ≡ i).
      let e1 : slice_get (slice_set ws i (Some x)) i ≡ Some (Some v) = subst
      (λ k. slice_get (slice_set ws i (Some x)) k ≡ Some (Some v)) same e in
      let xv : x ≡ v = cc (sym (get_set_same ws i (Some x) lt) ∙ e1) in
      let at_j : at + 4 * j ≡ at + 4 * i = ap (λ k. at + 4 * k) same in
      (subst (IsValue c p) xv good, update_at w (at + 4 * i) (word c p x) (at + 4 * j) at_j ∙ ap (word c p) xv))
      (λ (ne : j ≢ i).
      let k = h j v (sym (get_set_other ws i j (Some x) ne) ∙ e) in
      let far : at + 4 * j ≢ at + 4 * i = omega arith in
      (k.0, update_other w (at + 4 * i) (word c p x) (at + 4 * j) far ∙ k.1))
      (cases_eq j i)

  pub holds_apart : (w : ℕ → ℕ) (at a n : ℕ) (ws : Words) → (a + 4 ≤ at) ⊎ (at + 4 * length ws ≤ a) → Holds c p w at ws
      → Holds c p (update a n w) at ws
  holds_apart w at a n ws (inl le) h =
      holds_keeps c p w (update a n w) at ws (λ i lt. let ne : at + 4 * i ≢ a = omega arith in update_other w a n _ ne)
      h
  holds_apart w at a n ws (inr le) h =
      holds_keeps c p w (update a n w) at ws (λ i lt. let ne : at + 4 * i ≢ a = omega arith in update_other w a n _ ne)
      h

  -- ---- a change in a frame or a scratch block of any open activation

  pub record Stored (w : ℕ → ℕ) (f : ℕ) (y : Owner) (xs : List Activation) (bs ds : List Living) (at : ℕ)
      (Q : Option Value → Value → Type 0) : Type 0 where
    pub value : Value
    pub before : Option Value
    pub why : Q before value
    pub stood : StoodAt c p w at before
    pub aligned : at % 4 ≡ 0
    -- after the innermost activation's slots, within memory, and not one of the two words of the heap and the stack
    pub low : f + c.frame_at y.routine ≤ at
    pub high : at + 4 ≤ c.size
    pub free : (at + 4 ≤ c.bottom + 268) ⊎ (c.bottom + 276 ≤ at)
    pub frames : Open c p (update at (word c p value) w) f y xs bs ds

  outside : (w : ℕ → ℕ) (f r at n : ℕ) → f + free_at c r ≤ at → at + 4 ≤ f + c.used r → (x : ℕ) → f ≤ x
      → (x < f + free_at c r) ⊎ (f + c.used r ≤ x) → update at n w x ≡ w x
  outside w f r at n lo hi x le (inl lt) = let ne : x ≢ at = omega arith in update_other w at n x ne
  outside w f r at n lo hi x le (inr ge) = let ne : x ≢ at = omega arith in update_other w at n x ne

  free_before : (r : ℕ) → (free_at c r ≤ c.frame_at r) × (4 ≤ c.frame_at r)
  free_before r = by_kind (cases_Bool (is_program c r))
    where
      by_kind : (is_program c r ≡ true) ⊎ (is_program c r ≡ false) → (free_at c r ≤ c.frame_at r) × (4 ≤ c.frame_at r)
      by_kind (inl e) = let q = program_room c laid p r e in let k = free_program c r e
          in (omega (arith, q.0, q.1, k), omega (arith, q.0, q.1))
      by_kind (inr e) = let q = leaf_room c laid p r e in let k = free_leaf c r e
          in (omega (arith, q.1, q.2, k), omega (arith, q.1, q.2))

  -- an address within the innermost frame
  free_in : (w : ℕ → ℕ) (f : ℕ) (y : Owner) (xs : List Activation) (bs ds : List Living) (at : ℕ)
      → Open c p w f y xs bs ds → f + c.frame_at y.routine ≤ at → at + 4 ≤ f + c.used y.routine
      → (at + 4 ≤ c.bottom + 268) ⊎ (c.bottom + 276 ≤ at)
  free_in w f y xs bs ds at h lo hi = by_kind (cases_Bool (is_program c y.routine))
      (open_bottom c laid p w f y xs bs ds h)
    where
      by_kind : (is_program c y.routine ≡ true) ⊎ (is_program c y.routine ≡ false)
          → ((f ≡ c.bottom) × (is_program c y.routine ≡ true)) ⊎ (f + cost c y.routine ≤ c.bottom)
          → (at + 4 ≤ c.bottom + 268) ⊎ (c.bottom + 276 ≤ at)
      by_kind (inl e) (inl k) = let q = program_room c laid p y.routine e in inr (omega (arith, k.0, q.0, q.1))
      by_kind (inl e) (inr le) = let q = program_room c laid p y.routine e in inl (omega (arith, q.4))
      by_kind (inr e) (inl k) = let no : true ≡ false = sym k.1 ∙ e in absurd (cc no)
      by_kind (inr e) (inr le) = let q = leaf_room c laid p y.routine e in inl (omega (arith, q.5))

  module _ (i : ℕ) (Q : Option Value → Value → Type 0) (good : IsGood Q) where
    -- in the innermost activation's own frame block
    own_frame_set : (w : ℕ → ℕ) (f : ℕ) (y : Owner) (b d : Living) (ws' : Words) (o : Own c p w f y b d)
        (t : Sets i Q b.words ws') → Own c p (update (f + c.frame_at y.routine + 4 * i) (word c p t.value) w) f y
        (record {
          number = b.number;
          words = ws';
        }) d
    own_frame_set w f y b d ws' o t =
        let at = f + c.frame_at y.routine + 4 * i in
        let lf = laid.frame y.routine o.routine o.is in
        let fb = free_before y.routine in
        record {
          routine = o.routine;
          is = o.is;
          frame_number = o.frame_number;
          scratch_number = o.scratch_number;
          named = o.named;
          frame_place = o.frame_place;
          scratch_place = o.scratch_place;
          frame_length = ap (λ l. 4 * length l) t.becomes ∙ ap (λ n. 4 * n) (set_length b.words i (Some t.value))
              ∙ o.frame_length;
          scratch_length = o.scratch_length;
          frame = subst (Holds c p (update at (word c p t.value) w) (f + c.frame_at y.routine)) (sym t.becomes)
              (holds_set w _ i b.words t.value t.within (good _ _ t.why) o.frame);
          scratch = holds_apart w _ at (word c p t.value) d.words
              (inl (let lt = t.within in omega (arith, lf.1, o.frame_length, lt))) o.scratch;
          back = λ e.
              let q = program_room c laid p y.routine e in
              let ne : f + 4 ≢ at = omega (arith, q.0, q.1) in
              update_other w at (word c p t.value) (f + 4) ne ∙ o.back e;
        }

    own_scratch_set : (w : ℕ → ℕ) (f : ℕ) (y : Owner) (b d : Living) (ws' : Words) (o : Own c p w f y b d)
        (t : Sets i Q d.words ws') → Own c p (update (f + c.scratch_at y.routine + 4 * i) (word c p t.value) w) f y b
        (record {
          number = d.number;
          words = ws';
        })
    own_scratch_set w f y b d ws' o t =
        let at = f + c.scratch_at y.routine + 4 * i in
        let lf = laid.frame y.routine o.routine o.is in
        record {
          routine = o.routine;
          is = o.is;
          frame_number = o.frame_number;
          scratch_number = o.scratch_number;
          named = o.named;
          frame_place = o.frame_place;
          scratch_place = o.scratch_place;
          frame_length = o.frame_length;
          scratch_length = ap (λ l. 4 * length l) t.becomes ∙ ap (λ n. 4 * n) (set_length d.words i (Some t.value))
              ∙ o.scratch_length;
          frame = holds_apart w _ at (word c p t.value) b.words (inr (omega (arith, lf.1, o.frame_length))) o.frame;
          scratch = subst (Holds c p (update at (word c p t.value) w) (f + c.scratch_at y.routine)) (sym t.becomes)
              (holds_set w _ i d.words t.value t.within (good _ _ t.why) o.scratch);
          back = λ e.
              let q = program_room c laid p y.routine e in
              let ne : f + 4 ≢ at = omega (arith, q.0, q.1, q.2) in
              update_other w at (word c p t.value) (f + 4) ne ∙ o.back e;
        }

    -- the change in the innermost activation's own blocks
    frame_here : (w : ℕ → ℕ) (f : ℕ) (y : Owner) (xs : List Activation) (b d : Living) (bs ds : List Living)
        (ws' : Words) (n : ℕ) → f % 4 ≡ 0 → Own c p w f y b d → Open c p w f y xs (b ∷ bs) (d ∷ ds) → b.number ≡ n
        → Sets i Q b.words ws' → Stored w f y xs (record {
          number = b.number;
          words = ws';
        } ∷ bs) (d ∷ ds) (p.frame n + 4 * i) Q
    frame_here w f y xs b d bs ds ws' n al o h e t =
        let at : p.frame n ≡ f + c.frame_at y.routine = ap p.frame (sym e ∙ o.frame_number) ∙ o.frame_place in
        let lf = laid.frame y.routine o.routine o.is in
        let ls = laid.scratch y.routine o.routine o.is in
        let ar = laid.aligned y.routine in
        let fb = free_before y.routine in
        let top = open_room c laid p w f y xs (b ∷ bs) (d ∷ ds) h in
        let lt = t.within in
        let a = f + c.frame_at y.routine + 4 * i in
        let hi : a + 4 ≤ f + c.used y.routine = omega (arith, lf.1, ls.1, o.frame_length, lt) in
        subst (λ k. Stored w f y xs (record {
          number = b.number;
          words = ws';
        } ∷ bs) (d ∷ ds) (k + 4 * i) Q) (sym at) (record {
          value = t.value;
          before = known (slice_get b.words i);
          why = t.why;
          stood = stood w _ i b.words o.frame;
          aligned = omega (arith, al, ar.2);
          low = omega arith;
          high = omega (arith, hi, top);
          free = free_in w f y xs (b ∷ bs) (d ∷ ds) a h (omega arith) hi;
          frames = open_within c laid p w (update a (word c p t.value) w) f y xs b d (record {
            number = b.number;
            words = ws';
          }) d bs ds (outside w f y.routine a (word c p t.value) (omega (arith, fb.0)) hi)
              (own_frame_set w f y b d ws' o t) h;
        })

    scratch_here : (w : ℕ → ℕ) (f : ℕ) (y : Owner) (xs : List Activation) (b d : Living) (bs ds : List Living)
        (ws' : Words) (n : ℕ) → f % 4 ≡ 0 → Own c p w f y b d → Open c p w f y xs (b ∷ bs) (d ∷ ds) → d.number ≡ n
        → Sets i Q d.words ws' → Stored w f y xs (b ∷ bs) (record {
          number = d.number;
          words = ws';
        } ∷ ds) (p.scratch n + 4 * i) Q
    scratch_here w f y xs b d bs ds ws' n al o h e t =
        let at : p.scratch n ≡ f + c.scratch_at y.routine = ap p.scratch (sym e ∙ o.scratch_number) ∙ o.scratch_place in
        let ls = laid.scratch y.routine o.routine o.is in
        let ar = laid.aligned y.routine in
        let fb = free_before y.routine in
        let fs = laid.frame_before y.routine in
        let top = open_room c laid p w f y xs (b ∷ bs) (d ∷ ds) h in
        let lt = t.within in
        let a = f + c.scratch_at y.routine + 4 * i in
        let hi : a + 4 ≤ f + c.used y.routine = omega (arith, ls.1, o.scratch_length, lt) in
        subst (λ k. Stored w f y xs (b ∷ bs) (record {
          number = d.number;
          words = ws';
        } ∷ ds) (k + 4 * i) Q) (sym at) (record {
          value = t.value;
          before = known (slice_get d.words i);
          why = t.why;
          stood = stood w _ i d.words o.scratch;
          aligned = omega (arith, al, ar.3);
          low = omega (arith, fs);
          high = omega (arith, hi, top);
          free = free_in w f y xs (b ∷ bs) (d ∷ ds) a h (omega (arith, fs)) hi;
          frames = open_within c laid p w (update a (word c p t.value) w) f y xs b d b (record {
            number = d.number;
            words = ws';
          }) bs ds (outside w f y.routine a (word c p t.value) (omega (arith, fb.0, fs)) hi)
              (own_scratch_set w f y b d ws' o t) h;
        })

    -- in an activation further out
    stored_behind : (w : ℕ → ℕ) (f : ℕ) (y : Owner) (x : Activation) (xs : List Activation) (b d : Living)
        (bs' ds' : List Living) (at : ℕ) → Own c p w f y b d → Waits c p w (f + cost c y.routine) x y
        (w (f + c.link_at y.routine)) → Stored w (f + cost c y.routine) (owner_of x) xs bs' ds' at Q → Stored w f y
        (x ∷ xs) (b ∷ bs') (d ∷ ds') at Q
    stored_behind w f y x xs b d bs' ds' at o wait t =
        let n = word c p t.value in
        let u = used_below (cases_Bool (is_program c y.routine)) in
        let l : f + c.link_at y.routine ≢ at = omega (
          arith,
          u,
          laid.link y.routine,
          laid.slots_before y.routine,
          laid.frame_before y.routine,
          laid.scratch_before y.routine,
        ) in
        record {
          value = t.value;
          before = t.before;
          why = t.why;
          stood = t.stood;
          aligned = t.aligned;
          low = omega (arith, u, laid.frame_before y.routine, laid.scratch_before y.routine);
          high = t.high;
          free = t.free;
          frames = (
            own_keeps c laid p w (update at n w) f y b d
                (λ e. let q = program_room c laid p y.routine e in let ne : f + 4 ≢ at = omega
                (arith, u, q.0, q.1, q.2, q.3) in update_other w at n (f + 4) ne)
                (λ a le hi. let ne : a ≢ at = omega (arith, u) in update_other w at n a ne) o,
            waits_keeps c laid p w
                (update at n w) (f + cost c y.routine) x y _ _ (update_other w at n (f + c.link_at y.routine) l)
                (λ a le hi. let ne : a ≢ at = omega (arith, t.low) in update_other w at n a ne) wait,
            t.frames,
          );
        }
      where
        used_below : (is_program c y.routine ≡ true) ⊎ (is_program c y.routine ≡ false) → f + c.used y.routine ≤ at
        used_below (inl e) = let q = program_room c laid p y.routine e in omega (arith, q.4, t.low)
        used_below (inr e) =
            let q = leaf_room c laid p y.routine e in
            let k = program_room c laid p x.routine wait.program in
            omega (arith, q.5, k.0, k.1, t.low)

    module _ (change : Words → Option Words) (ok : IsChange i Q change) where
      instead_some : (b : Living) (bs : List Living) (o : Option Words) (bs' : List Living) → instead b bs o ≡ Some bs'
          → (ws : Words) × (o ≡ Some ws) × (bs' ≡ record {
            number = b.number;
            words = ws;
          } ∷ bs)
      instead_some b bs None bs' e = absurd (cc e)
      instead_some b bs (Some ws) bs' e = (ws, refl, cc e)

      behind_some : (b : Living) (o : Option (List Living)) (bs' : List Living) → behind b o ≡ Some bs'
          → (rest : List Living) × (o ≡ Some rest) × (bs' ≡ b ∷ rest)
      behind_some b None bs' e = absurd (cc e)
      behind_some b (Some rest) bs' e = (rest, refl, cc e)

      pub frame_store : (w : ℕ → ℕ) (f : ℕ) (y : Owner) (xs : List Activation) (bs ds bs' : List Living) (n : ℕ) → f % 4
          ≡ 0 → Open c p w f y xs bs ds → changed bs n change ≡ Some bs' → Stored w f y xs bs' ds (p.frame n + 4 * i) Q
      frame_store w f y xs [] ds bs' n al h e = absurd h
      frame_store w f y xs (b ∷ bs) [] bs' n al h e = absurd h
      frame_store w f y [] (b ∷ bs) (d ∷ ds) bs' n al h e = go (nat_eq b.number n) refl e
        where
          go : (t : Bool) → nat_eq b.number n ≡ t → cond t (instead b bs (change b.words))
              (behind b (changed bs n change)) ≡ Some bs' → Stored w f y [] bs' (d ∷ ds) (p.frame n + 4 * i) Q
          go true is e =
              let s = instead_some b bs (change b.words) bs' e in
              subst (λ l. Stored w f y [] l (d ∷ ds) (p.frame n + 4 * i) Q) (sym s.2)
              (frame_here w f y [] b d bs ds s.0 n al h.0 h (eqb-true b.number n is) (ok b.words s.0 s.1))
          go false is e =
              let s = behind_some b (changed bs n change) bs' e in
              let none : changed [] n change ≡ Some s.0 = subst (λ l. changed l n change ≡ Some s.0) h.2 s.1 in
              absurd (cc none)
      frame_store w f y (x ∷ xs) (b ∷ bs) (d ∷ ds) bs' n al h e =
          go (λ rest k. frame_store w (f + cost c y.routine) (owner_of x) xs bs ds rest n
          (let a = cost_aligned c laid p w y.routine in omega (arith, al, a)) h.2 k) (nat_eq b.number n) refl e
        where
          go : ((rest : List Living) → changed bs n change ≡ Some rest → Stored w (f + cost c y.routine)
              (owner_of x) xs rest ds (p.frame n + 4 * i) Q) → (t : Bool) → nat_eq b.number n ≡ t → cond t
              (instead b bs (change b.words)) (behind b (changed bs n change)) ≡ Some bs' → Stored w f y (x ∷ xs) bs'
              (d ∷ ds) (p.frame n + 4 * i) Q
          go further true is e =
              let s = instead_some b bs (change b.words) bs' e in
              subst (λ l. Stored w f y (x ∷ xs) l (d ∷ ds) (p.frame n + 4 * i) Q) (sym s.2)
              (frame_here w f y (x ∷ xs) b d bs ds s.0 n al h.0 h (eqb-true b.number n is) (ok b.words s.0 s.1))
          go further false is e =
              let s = behind_some b (changed bs n change) bs' e in
              subst (λ l. Stored w f y (x ∷ xs) l (d ∷ ds) (p.frame n + 4 * i) Q) (sym s.2)
              (stored_behind w f y x xs b d s.0 ds (p.frame n + 4 * i) h.0 h.1 (further s.0 s.1))

      pub scratch_store : (w : ℕ → ℕ) (f : ℕ) (y : Owner) (xs : List Activation) (bs ds ds' : List Living) (n : ℕ)
          → f % 4 ≡ 0 → Open c p w f y xs bs ds → changed ds n change ≡ Some ds' → Stored w f y xs bs ds'
          (p.scratch n + 4 * i) Q
      scratch_store w f y xs [] ds ds' n al h e = absurd h
      scratch_store w f y xs (b ∷ bs) [] ds' n al h e = absurd h
      scratch_store w f y [] (b ∷ bs) (d ∷ ds) ds' n al h e = go (nat_eq d.number n) refl e
        where
          go : (t : Bool) → nat_eq d.number n ≡ t → cond t (instead d ds (change d.words))
              (behind d (changed ds n change)) ≡ Some ds' → Stored w f y [] (b ∷ bs) ds' (p.scratch n + 4 * i) Q
          go true is e =
              let s = instead_some d ds (change d.words) ds' e in
              subst (λ l. Stored w f y [] (b ∷ bs) l (p.scratch n + 4 * i) Q) (sym s.2)
              (scratch_here w f y [] b d bs ds s.0 n al h.0 h (eqb-true d.number n is) (ok d.words s.0 s.1))
          go false is e =
              let s = behind_some d (changed ds n change) ds' e in
              let none : changed [] n change ≡ Some s.0 = subst (λ l. changed l n change ≡ Some s.0) h.3 s.1 in
              absurd (cc none)
      scratch_store w f y (x ∷ xs) (b ∷ bs) (d ∷ ds) ds' n al h e =
          go (λ rest k. scratch_store w (f + cost c y.routine) (owner_of x) xs bs ds rest n
          (let a = cost_aligned c laid p w y.routine in omega (arith, al, a)) h.2 k) (nat_eq d.number n) refl e
        where
          go : ((rest : List Living) → changed ds n change ≡ Some rest → Stored w (f + cost c y.routine)
              (owner_of x) xs bs rest (p.scratch n + 4 * i) Q) → (t : Bool) → nat_eq d.number n ≡ t → cond t
              (instead d ds (change d.words)) (behind d (changed ds n change)) ≡ Some ds' → Stored w f y (x ∷ xs)
              (b ∷ bs) ds' (p.scratch n + 4 * i) Q
          go further true is e =
              let s = instead_some d ds (change d.words) ds' e in
              subst (λ l. Stored w f y (x ∷ xs) (b ∷ bs) l (p.scratch n + 4 * i) Q) (sym s.2)
              (scratch_here w f y (x ∷ xs) b d bs ds s.0 n al h.0 h (eqb-true d.number n is) (ok d.words s.0 s.1))
          go further false is e =
              let s = behind_some d (changed ds n change) ds' e in
              subst (λ l. Stored w f y (x ∷ xs) (b ∷ bs) l (p.scratch n + 4 * i) Q) (sym s.2)
              (stored_behind w f y x xs b d bs s.0 (p.scratch n + 4 * i) h.0 h.1 (further s.0 s.1))

      -- ---- in an object

      instead_object_some : (bs : List Words) (o : Option Words) (bs' : List Words) → instead_object bs o ≡ Some bs'
          → (ws : Words) × (o ≡ Some ws) × (bs' ≡ ws ∷ bs)
      instead_object_some bs None bs' e = absurd (cc e)
      instead_object_some bs (Some ws) bs' e = (ws, refl, cc e)

      behind_object_some : (b : Words) (o : Option (List Words)) (bs' : List Words) → behind_object b o ≡ Some bs'
          → (rest : List Words) × (o ≡ Some rest) × (bs' ≡ b ∷ rest)
      behind_object_some b None bs' e = absurd (cc e)
      behind_object_some b (Some rest) bs' e = (rest, refl, cc e)

      object_changed : (objects objects' : List Words) (n : ℕ) → changed_object objects n change ≡ Some objects'
          → (ws : Words) × (ws' : Words) × (slice_get objects n ≡ Some ws) × (change ws ≡ Some ws')
          × (objects' ≡ slice_set objects n ws')
      object_changed [] objects' n e = absurd (cc e)
      object_changed (b ∷ bs) objects' zero e =
          let s = instead_object_some bs (change b) objects' e in (b, s.0, refl, s.1, s.2)
      object_changed (b ∷ bs) objects' (suc n) e =
          let s = behind_object_some b (changed_object bs n change) objects' e in
          let r = object_changed bs s.0 n s.1 in
          (r.0, r.1, r.2, r.3, s.2 ∙ ap (λ l. b ∷ l) r.4)

      pub record ObjectStored (w : ℕ → ℕ) (objects' : List Words) (next at : ℕ) : Type 0 where
        pub value : Value
        pub before : Option Value
        pub why : Q before value
        pub stood : StoodAt c p w at before
        pub aligned : at % 4 ≡ 0
        pub low : c.heap_at ≤ at
        pub high : at + 4 ≤ next
        pub objects : Objects c p (update at (word c p value) w) objects' next

      pub object_store : (w : ℕ → ℕ) (objects objects' : List Words) (next n : ℕ) → Objects c p w objects next
          → changed_object objects n change ≡ Some objects' → ObjectStored w objects' next (p.object n + 4 * i)
      object_store w objects objects' next n h e =
          let r = object_changed objects objects' n e in
          let ws = r.0 in
          let ws' = r.1 in
          let t = ok ws ws' r.3 in
          let s = h.each n ws r.2 in
          let lt = t.within in
          let at = p.object n + 4 * i in
          record {
            value = t.value;
            before = known (slice_get ws i);
            why = t.why;
            stood = stood w _ i ws s.holds;
            aligned = omega (arith, s.aligned);
            low = omega (arith, s.low);
            high = omega (arith, s.high);
            objects = subst (λ l. Objects c p (update at (word c p t.value) w) l next) (sym r.4) (record {
              count = set_length objects n ws' ∙ h.count;
              each = λ m vs is. each_after ws ws' r.2 t s m vs is (cases_eq m n);
              rise = λ m k us vs less im ik.
                  let om = old ws ws' r.2 t m us im in
                  let ok' = old ws ws' r.2 t k vs ik in
                  let q = h.rise m k om.0 ok'.0 less om.1 ok'.1 in
                  (q.0, omega (arith, q.1, om.2));
            });
          }
        where
          -- what was in the place of an object, as long as it
          old : (ws ws' : Words) → slice_get objects n ≡ Some ws → Sets i Q ws ws' → (m : ℕ) (vs : Words) → slice_get
              (slice_set objects n ws') m ≡ Some vs → (us : Words) × (slice_get objects m ≡ Some us)
              × (length vs ≡ length us)
          old ws ws' there t m vs is =
              ⊎_elim
              (λ (same : m ≡ n).
              let e1 : slice_get (slice_set objects n ws') n ≡ Some vs = subst
              (λ k. slice_get (slice_set objects n ws') k ≡ Some vs) same is in
              let e2 : ws' ≡ vs = cc (sym (get_set_same objects n ws' (slice_get_within objects n ws there)) ∙ e1) in (
                ws,
                ap (slice_get objects) same ∙ there,
                ap length (sym e2) ∙ ap length t.becomes ∙ set_length ws i
                    (Some t.value),
              ))
              (λ (ne : m ≢ n). (vs, sym (get_set_other objects n m ws' ne) ∙ is, refl))
              (cases_eq m n)

          each_after : (ws ws' : Words) → slice_get objects n ≡ Some ws → (t : Sets i Q ws ws') → Stands c p w n ws next
              → (m : ℕ) (vs : Words) → slice_get (slice_set objects n ws') m ≡ Some vs → (m ≡ n) ⊎ (m ≢ n) → Stands c p
              (update (p.object n + 4 * i) (word c p t.value) w) m vs next
          each_after ws ws' there t s m vs is (inl same) =
              let e1 : slice_get (slice_set objects n ws') n ≡ Some vs = subst
              (λ k. slice_get (slice_set objects n ws') k ≡ Some vs) same is in
              let e2 : ws' ≡ vs = cc (sym (get_set_same objects n ws' (slice_get_within objects n ws there)) ∙ e1) in
              let len : length (slice_set ws i (Some t.value)) ≡ length ws = set_length ws i (Some t.value) in
              subst (λ k. Stands c p (update (p.object n + 4 * i) (word c p t.value) w) k vs next) (sym same)
              (subst (λ l. Stands c p (update (p.object n + 4 * i) (word c p t.value) w) n l next)
              (sym t.becomes ∙ e2) (record {
                aligned = s.aligned;
                low = s.low;
                room = s.room;
                high = omega (arith, s.high, len);
                holds = holds_set w (p.object n) i ws t.value t.within (good _ _ t.why) s.holds;
              }))
          each_after ws ws' there t s m vs is (inr ne) =
              let im : slice_get objects m ≡ Some vs = sym (get_set_other objects n m ws' ne) ∙ is in
              let k = h.each m vs im in
              let lt = t.within in
              record {
                aligned = k.aligned;
                low = k.low;
                room = k.room;
                high = k.high;
                holds = holds_apart w (p.object m) (p.object n + 4 * i) (word c p t.value) vs
                    (sides m n ws vs im there lt (less_or_more m n ne)) k.holds;
              }
            where
              less_or_more : (a b : ℕ) → a ≢ b → (a < b) ⊎ (b < a)
              less_or_more a b ne = grind arith

              sides : (m n : ℕ) (ws vs : Words) → slice_get objects m ≡ Some vs → slice_get objects n ≡ Some ws
                  → i < length ws → (m < n) ⊎ (n < m) → (p.object n + 4 * i + 4 ≤ p.object m)
                  ⊎ (p.object m + 4 * length vs ≤ p.object n + 4 * i)
              sides m n ws vs im there lt (inl less) = let q = h.rise m n vs ws less im there in inr
                  (omega (arith, q.1))
              sides m n ws vs im there lt (inr more) = let q = h.rise n m ws vs more there im in inl
                  (omega (arith, q.1))
