-- Calls and returns: the frame that is made, and the caller that is found again.
use Rattle.std.proofs.Common.{◌≡◌, ◌≢◌, ℕ, zero, suc, ◌+◌, ◌/◌, ◌<◌, ◌≤◌, ◌⊎◌, inl, inr, ⊎_elim, true, false, ◌||◌}
use Rattle.std.proofs.Common.{nat_eq, List, [], ◌∷◌, length, replicate, Option, Some, None, slice_get, refl, sym, ap}
use Rattle.std.proofs.Common.{◌∙◌, subst, arith}
use Rattle.std.proofs.lemmas.Bool.{cases_eq, cases_Bool}
use Rattle.tac_code.specs.declared.code.Value.{Value}
use Rattle.tac_code.specs.declared.code.Instruction.{Instruction}
use Rattle.tac_code.specs.declared.code.Instruction.TheVariants.{Literal, Copy, Arithmetic, Bits, Compare, CheckRange}
use Rattle.tac_code.specs.declared.code.Instruction.TheVariants.{CheckPointer, Text, Offset, Index, RoutineValue, Load}
use Rattle.tac_code.specs.declared.code.Instruction.TheVariants.{Store, LoadByte, StoreByte, Jump, JumpBack, Branch}
use Rattle.tac_code.specs.declared.code.Instruction.TheVariants.{BranchBack, Call, CallValue, Return, Trap, Take, Put}
use Rattle.tac_code.specs.declared.code.Instruction.TheVariants.{New, End}
use Rattle.tac_code.specs.declared.code.TacRoutine.{TacRoutine}
use Rattle.tac_code.specs.Memory.{Words, Living}
use Rattle.risc_alloc.specs.Flow.{writes, leads, gives_to}
use Rattle.tac_code.specs.Meaning.{routines, fetch, Activation, State, onward, unwritten, without_first, entered}
use Rattle.tac_code.proofs.Numbers.{eq_same}
use Rattle.risc_alloc.specs.declared.homes.Home.TheVariants.{Slot}
use Rattle.risc_alloc.specs.Alive.{Passed}
use Rattle.risc_machine.specs.declared.limits.TheConstants.{ADDRESSES}
use Rattle.risc_emit_relation.specs.Context.{Context, home, called, IsAlive, IsPlaced, is_program, cost, slot_at}
use Rattle.risc_emit_relation.specs.Context.{Places, word, IsValue, Grown, IsLaid}
use Rattle.risc_emit_relation.specs.Related.{Owner, owner_of, Own, Waits, Open, Held, Machine, value_of, Related}
use Rattle.risc_emit_relation.proofs.Basics.{update_same, update_other}
use Rattle.risc_emit_relation.proofs.Grown.{value_grown, word_grown, open_grown, objects_grown}
use Rattle.risc_emit_relation.proofs.Frames.{program_room, leaf_room, open_room, open_bottom, inside_program}
use Rattle.risc_emit_relation.specs.Changes.{entered_places, Entering, Leaving, left, update}
use Rattle.risc_emit_relation.proofs.Found.{cost_aligned}
use Rattle.risc_emit_relation.proofs.Kept.{objects_keep}
use Rattle.risc_emit_relation.proofs.Steps.{held_slots, put_same, put_other}

-- a call writes its result and leads to the next place
call_writes : (o : Option Instruction) (k t : ℕ) → gives_to o t ≡ true → (writes o t ≡ true)
    × (leads o k (suc k) ≡ true)
call_writes None k t e = absurd (cc e)
call_writes (Some (Call to r operands line)) k t e = (e, here (suc k))
  where
    here : (n : ℕ) → nat_eq n n || false ≡ true
    here n = rw (eq_same n) refl
call_writes (Some (CallValue to a operands line)) k t e = (e, here (suc k))
  where
    here : (n : ℕ) → nat_eq n n || false ≡ true
    here n = rw (eq_same n) refl
call_writes (Some (Literal to z)) k t e = absurd (cc e)
call_writes (Some (Copy to a)) k t e = absurd (cc e)
call_writes (Some (Arithmetic operator to a b number line)) k t e = absurd (cc e)
call_writes (Some (Bits operator to a b)) k t e = absurd (cc e)
call_writes (Some (Compare relation to a b)) k t e = absurd (cc e)
call_writes (Some (CheckRange a low high number line)) k t e = absurd (cc e)
call_writes (Some (CheckPointer a number line)) k t e = absurd (cc e)
call_writes (Some (Text to bytes)) k t e = absurd (cc e)
call_writes (Some (Offset to a n extent)) k t e = absurd (cc e)
call_writes (Some (Index to a i low high width number line)) k t e = absurd (cc e)
call_writes (Some (RoutineValue to r)) k t e = absurd (cc e)
call_writes (Some (Load to a n)) k t e = absurd (cc e)
call_writes (Some (Store a n b)) k t e = absurd (cc e)
call_writes (Some (LoadByte to a n)) k t e = absurd (cc e)
call_writes (Some (StoreByte a n b)) k t e = absurd (cc e)
call_writes (Some (Jump n)) k t e = absurd (cc e)
call_writes (Some (JumpBack n)) k t e = absurd (cc e)
call_writes (Some (Branch relation a b n)) k t e = absurd (cc e)
call_writes (Some (BranchBack relation a b n)) k t e = absurd (cc e)
call_writes (Some (Return a)) k t e = absurd (cc e)
call_writes (Some (Trap number line)) k t e = absurd (cc e)
call_writes (Some (Take to)) k t e = absurd (cc e)
call_writes (Some (Put a)) k t e = absurd (cc e)
call_writes (Some (New to type line)) k t e = absurd (cc e)
call_writes (Some End) k t e = absurd (cc e)

pub unwritten_nothing : (n i : ℕ) (x : Value) → slice_get (replicate n None) i ≡ Some (Some x) → ⊥
unwritten_nothing zero i x e = cc e
unwritten_nothing (suc n) zero x e = cc e
unwritten_nothing (suc n) (suc i) x e = unwritten_nothing n i x e

abbrev pub nothing : ℕ → Words
nothing n = replicate n None

pub length_unwritten : (n : ℕ) → length (nothing n) ≡ n
length_unwritten zero = refl
length_unwritten (suc n) = ap suc (length_unwritten n)

pub entered_grown : (c : Context) (p : Places) (n g q : ℕ) → p.activations ≡ n → Grown p (entered_places c p n g q)
entered_grown c p n g q e =
    record {
      activations = omega (arith, e);
      objects = omega arith;
      frame = λ a lt. let ne : a ≢ n = omega (arith, e) in update_other p.frame n _ a ne;
      scratch = λ a lt. let ne : a ≢ n = omega (arith, e) in update_other p.scratch n _ a ne;
      object = λ a lt. refl;
    }

pub low_update : (h : ℕ → ℕ) (n x : ℕ) → x < ADDRESSES → ((a : ℕ) → h a < ADDRESSES) → (a : ℕ) →
    update n x h a < ADDRESSES
low_update h n x lt all a =
    ⊎_elim
    (λ (same : a ≡ n). subst (λ j. update n x h j < ADDRESSES) (sym same)
    (subst (λ v. v < ADDRESSES) (sym (update_same h n x)) lt))
    (λ (ne : a ≢ n). subst (λ v. v < ADDRESSES) (sym (update_other h n x a ne)) (all a))
    (cases_eq a n)

module _ (c : Context) (laid : IsLaid c) (valid : IsPlaced c) (p : Places) where
  -- the blocks of a new activation
  new_own : (w : ℕ → ℕ) (g q n result line : ℕ) (routine : TacRoutine) → slice_get (routines c.code) q ≡ Some routine
      → (is_program c q ≡ true → w (g + 4) ≡ g + cost c q) → Own c (entered_places c p n g q) w g (record {
        routine = q;
        number = n;
        result = result;
        line = line;
      }) (record {
        number = n;
        words = unwritten routine.frame;
      }) (record {
        number = n;
        words = unwritten routine.scratch;
      })
  new_own w g q n result line routine is back =
      let lf = laid.frame q routine is in
      let ls = laid.scratch q routine is in
      record {
        routine = routine;
        is = is;
        frame_number = refl;
        scratch_number = refl;
        named = omega arith;
        frame_place = update_same p.frame n _;
        scratch_place = update_same p.scratch n _;
        frame_length = let l = length_unwritten (routine.frame / 4) in omega (arith, l, lf.0);
        scratch_length = let l = length_unwritten (routine.scratch / 4) in omega (arith, l, ls.0);
        frame = λ i x e. absurd (unwritten_nothing (routine.frame / 4) i x e);
        scratch = λ i x e. absurd (unwritten_nothing (routine.scratch / 4) i x e);
        back = back;
      }

  module _ (G : ℕ → ℕ) (S H : ℕ) where
    pub related_enters : (s : State) (m m' : Machine) (f g q t line l : ℕ) (routine : TacRoutine) (values : List Value)
        → Related c p s m f → Entering c p s m m' f g q t line l routine values → Related c
        (entered_places c p s.count g q) (entered c.code c.costs G S H routine q values t line
        (onward s.current ∷ s.callers) s) m' g
    related_enters s m m' f g q t line l routine values h n =
        let p' = entered_places c p s.count g q in
        let gr = entered_grown c p s.count g q h.held.count in
        let x = onward s.current in
        let r = s.current.routine in
        let y : Owner = record { routine = q; number = s.count; result = t; line = line } in
        let qc = program_room c laid p r n.caller in
        let slots_same : (a : ℕ) → f ≤ a → (a < f + 8) ⊎ (f + c.frame_at r ≤ a) → m'.words a
        ≡ m.words a = widened qc.0 qc.1 n.same in
        let inner = inside_program c laid p m.words m'.words f
        (owner_of s.current) s.callers s.memory.frames s.memory.scratch n.caller slots_same h.held.frames in
        let callers' = open_grown c p p' gr m'.words f
        (owner_of s.current) s.callers s.memory.frames s.memory.scratch inner in
        let top = open_room c laid p m.words f (owner_of s.current) s.callers s.memory.frames s.memory.scratch
        h.held.frames in
        let reach = used_reach (cases_Bool (is_program c q)) top qc.0 qc.1 qc.2 qc.3 n.below in
        let waits : Waits c p' m'.words f x y (m'.words (g + c.link_at q)) = record {
          program = n.caller;
          call = n.call;
          resume = n.link ∙ n.resume;
          line = λ e. ap c.line n.link ∙ n.row e;
          saved = λ u k v live ne e home.
              let v' = h.homes u v (Passed _ _ u n.leads (n.only u ne) live) e in
              let here : value_of c r f m (Slot k) ≡ word c p v = ap (value_of c r f m) (sym home) ∙ v'.1 in (
                value_grown c p p' gr v v'.0,
                n.same (f + slot_at c r k) (omega arith) (inr (omega (arith, qc.0))) ∙ here
                    ∙ sym (word_grown c p p' gr v v'.0),
              );
        } in
        let own = new_own m'.words g q s.count t line routine n.is (λ e. n.back e ∙ sym n.below) in
        let two : (a : ℕ) → c.bottom + 268 ≤ a → m'.words a ≡ m.words a = two_words
        (open_bottom c laid p m.words f (owner_of s.current) s.callers s.memory.frames s.memory.scratch
        h.held.frames) qc.4 n.same in
        let whole = cost_aligned c laid p m.words q in
        record {
          stack = n.stack;
          globals = n.globals ∙ h.globals;
          held = record {
            aligned = omega (arith, n.below, whole, h.held.aligned);
            low = n.room;
            frames = subst (λ z. Own c p' m'.words g y (record {
              number = s.count;
              words = unwritten routine.frame;
            }) (record {
              number = s.count;
              words = unwritten routine.scratch;
            }) × Waits c p' m'.words z x y (m'.words (g + c.link_at q)) × Open c p' m'.words z
                (owner_of x) s.callers s.memory.frames s.memory.scratch) (sym n.below) (own, waits, callers');
            objects = objects_grown c p p' gr m'.words s.memory.objects _ refl
                (objects_keep c laid p m.words m'.words s.memory.objects _
                (λ a hi. n.heap a (omega (arith, h.held.room))) h.held.objects);
            limit = two _ (omega arith) ∙ h.held.limit;
            next = two _ (omega arith) ∙ h.held.next;
            room = h.held.room;
            whole = h.held.whole;
            count = refl;
            some = omega arith;
            program = gr.frame 0 h.held.some ∙ h.held.program;
            places = record {
              frame = low_update p.frame s.count _ (omega
                  (arith, reach, laid.frame_before q, laid.scratch_before q, laid.order.3)) h.held.places.frame;
              scratch = low_update p.scratch s.count _
                  (omega (arith, reach, laid.scratch_before q, laid.order.3)) h.held.places.scratch;
              object = h.held.places.object;
            };
          };
          homes = λ u v live e. let v' = n.homes u v live e
              in (value_grown c p p' gr v v'.0, v'.1 ∙ sym (word_grown c p p' gr v v'.0));
        }
      where
        widened : 276 ≤ c.slots_at s.current.routine → c.slots_at s.current.routine ≤ c.frame_at s.current.routine
            → ((a : ℕ) → f ≤ a → (a < f + 8) ⊎ (f + 268 ≤ a) → m'.words a ≡ m.words a) → (a : ℕ) → f ≤ a → (a < f + 8)
            ⊎ (f + c.frame_at s.current.routine ≤ a) → m'.words a ≡ m.words a
        widened k0 k1 same a le (inl lt) = same a le (inl lt)
        widened k0 k1 same a le (inr ge) = same a le (inr (omega arith))

        used_reach : (is_program c q ≡ true) ⊎ (is_program c q ≡ false) → f + c.used s.current.routine ≤ c.size
            → 276 ≤ c.slots_at s.current.routine → c.slots_at s.current.routine ≤ c.frame_at s.current.routine
            → c.frame_at s.current.routine ≤ c.scratch_at s.current.routine
            → c.scratch_at s.current.routine ≤ c.used s.current.routine → g + cost c q ≡ f → g + c.used q ≤ c.size
        used_reach (inl e) top k0 k1 k2 k3 below = let z = program_room c laid p q e in omega (arith, z.4)
        used_reach (inr e) top k0 k1 k2 k3 below = let z = leaf_room c laid p q e in omega (arith, z.5, z.6)

        two_words : ((f ≡ c.bottom) × (is_program c s.current.routine ≡ true))
            ⊎ (f + cost c s.current.routine ≤ c.bottom) → c.used s.current.routine ≤ cost c s.current.routine
            → ((a : ℕ) → f ≤ a → (a < f + 8) ⊎ (f + 268 ≤ a) → m'.words a ≡ m.words a) → (a : ℕ) → c.bottom + 268 ≤ a
            → m'.words a ≡ m.words a
        two_words (inl e) k same a le = let z = e.0 in same a (omega (arith, z)) (inr (omega (arith, z)))
        two_words (inr b) k same a le = same a (omega arith) (inr (omega arith))

  -- ---- returns

  -- what a return finds in the frames
  pub record Back (w : ℕ → ℕ) (f : ℕ) (y : Owner) (x : Activation) (xs : List Activation) (bs ds : List Living)
      : Type 0 where
    pub waits : Waits c p w (f + cost c y.routine) x y (w (f + c.link_at y.routine))
    pub frames : Open c p w (f + cost c y.routine) (owner_of x) xs (without_first bs) (without_first ds)
    pub caller : is_program c y.routine ≡ true → w (f + 4) ≡ f + cost c y.routine

  pub back_of : (w : ℕ → ℕ) (f : ℕ) (y : Owner) (x : Activation) (xs : List Activation) (bs ds : List Living)
      → Open c p w f y (x ∷ xs) bs ds → Back w f y x xs bs ds
  back_of w f y x xs [] ds h = absurd h
  back_of w f y x xs (b ∷ bs) [] h = absurd h
  back_of w f y x xs (b ∷ bs) (d ∷ ds) h = record { waits = h.1; frames = h.2; caller = h.0.back }

  -- a call's result shares no home with what is alive after the call
  result_apart : (r k t u : ℕ) → called c r k t ≡ true → IsAlive c r k u → u ≢ t → home c r u ≢ home c r t
  result_apart r zero t u e live ne = absurd (cc e)
  result_apart r (suc k) t u e live ne =
      let w = call_writes (fetch c.code r k) k t e in valid.written r k (suc k) t u w.1 w.0 live ne

  pub related_leaves : (s : State) (x : Activation) (xs : List Activation) (m m' : Machine) (f : ℕ) (v : Value)
      → Related c p s m f → s.callers ≡ x ∷ xs → Leaving c p s x m m' (f + cost c s.current.routine) v → Related c p
      (left v x xs s) m' (f + cost c s.current.routine)
  related_leaves s x xs m m' f v h is n =
      let f' = f + cost c s.current.routine in
      let k = back_of m.words f (owner_of s.current) x xs s.memory.frames s.memory.scratch
      (subst (λ l. Open c p m.words f (owner_of s.current) l s.memory.frames s.memory.scratch) is h.held.frames) in
      let whole = cost_aligned c laid p m.words s.current.routine in
      let here : Held c p (left v x xs s) m.words f' = record {
        aligned = omega (arith, h.held.aligned, whole);
        low = omega (arith, h.held.low);
        frames = k.frames;
        objects = h.held.objects;
        limit = h.held.limit;
        next = h.held.next;
        room = h.held.room;
        whole = h.held.whole;
        count = h.held.count;
        some = h.held.some;
        program = h.held.program;
        places = h.held.places;
      } in
      record {
        stack = n.stack;
        globals = n.globals ∙ h.globals;
        held = held_slots c laid valid p (left v x xs s) m.words m'.words f' n.words here;
        homes = λ u y live e.
            ⊎_elim
            (λ (same : u ≡ s.current.result).
            let vy : v ≡ y = put_same c laid valid p x.temporaries s.current.result v y u same e in (
              subst (IsValue c p) vy n.good,
              ap (λ j. value_of c x.routine f' m' (home c x.routine j)) same ∙ n.here
                  ∙ ap (word c p) vy,
            ))
            (λ (ne : u ≢ s.current.result).
            let z = valid.called x.routine x.place s.current.result u k.waits.call live ne in
            let apart = result_apart x.routine x.place s.current.result u k.waits.call live ne in
            let w = k.waits.saved u z.0 y live ne (put_other c laid valid p x.temporaries s.current.result v y u ne e)
            z.1 in
            let far : Slot z.0 ≢ home c x.routine s.current.result = λ q. apart (z.1 ∙ q) in
            (w.0, ap (value_of c x.routine f' m') z.1 ∙ n.slots z.0 far ∙ w.1))
            (cases_eq u s.current.result);
      }
