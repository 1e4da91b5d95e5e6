-- Steps within an activation: what they write in the machine, and the relation after them.
use Rattle.std.proofs.Common.{◌≡◌, ◌≢◌, ℕ, suc, ◌+◌, ◌<◌, ◌≤◌, ◌⊎◌, inl, inr, ⊎_elim, true, false, List, Option, Some}
use Rattle.std.proofs.Common.{refl, sym, ap, ◌∙◌, subst, arith}
use Rattle.std.proofs.lemmas.Bool.{cases_eq, cases_Bool}
use Rattle.tac_code.specs.declared.code.Value.{Value}
use Rattle.tac_code.specs.Memory.{Living, Memory}
use Rattle.tac_code.specs.Meaning.{Temporaries, put, Activation, State, onward, giving}
use Rattle.tac_code.proofs.Numbers.{eq_same}
use Rattle.risc_alloc.specs.declared.homes.Home.{Home}
use Rattle.risc_alloc.specs.declared.homes.Home.TheVariants.{Slot, Reg}
use Rattle.risc_alloc.specs.Alive.{Used, Passed}
use Rattle.risc_emit_relation.specs.Context.{Context, home, reads, IsPlaced, Passes, Writes, is_program, cost, slot_at}
use Rattle.risc_emit_relation.specs.Context.{Places, word, IsValue, IsLaid}
use Rattle.risc_emit_relation.specs.Related.{Owner, owner_of, Open, Held, Machine, value_of, Related}
use Rattle.risc_emit_relation.proofs.Basics.{eqb_other, update_other}
use Rattle.risc_emit_relation.proofs.Frames.{free_at, free_program, free_leaf, program_room, leaf_room, open_bottom}
use Rattle.risc_emit_relation.proofs.Frames.{open_inside}
use Rattle.risc_emit_relation.specs.Changes.{Near, Settled, Kept, update}
use Rattle.risc_emit_relation.proofs.Kept.{objects_keep}

module _ (c : Context) (laid : IsLaid c) (valid : IsPlaced c) (p : Places) where
  -- words that are no slots of the innermost activation
  pub slots_side : (w : ℕ → ℕ) (f : ℕ) (y : Owner) (xs : List Activation) (bs ds : List Living) (a : ℕ)
      → Open c p w f y xs bs ds → c.bottom + 268 ≤ a → a < c.bottom + 276 → (a < f + c.slots_at y.routine)
      ⊎ (f + c.frame_at y.routine ≤ a)
  slots_side w f y xs bs ds a h lo hi = by_kind (cases_Bool (is_program c y.routine))
      (open_bottom c laid p w f y xs bs ds h)
    where
      by_kind : (is_program c y.routine ≡ true) ⊎ (is_program c y.routine ≡ false)
          → ((f ≡ c.bottom) × (is_program c y.routine ≡ true)) ⊎ (f + cost c y.routine ≤ c.bottom)
          → (a < f + c.slots_at y.routine) ⊎ (f + c.frame_at y.routine ≤ a)
      by_kind (inl e) (inl k) = let q = program_room c laid p y.routine e in inl (omega (arith, k.0, q.0))
      by_kind (inl e) (inr le) = let q = program_room c laid p y.routine e in inr (omega (arith, q.2, q.3, q.4))
      by_kind (inr e) (inl k) = let no : true ≡ false = sym k.1 ∙ e in absurd (cc no)
      by_kind (inr e) (inr le) = let q = leaf_room c laid p y.routine e in inr (omega (arith, q.3, q.4, q.5))

  free_slots : (r : ℕ) → free_at c r ≤ c.slots_at r
  free_slots r = by_kind (cases_Bool (is_program c r))
    where
      by_kind : (is_program c r ≡ true) ⊎ (is_program c r ≡ false) → free_at c r ≤ c.slots_at r
      by_kind (inl e) = let q = program_room c laid p r e in let k = free_program c r e in omega (arith, q.0, k)
      by_kind (inr e) = let k = free_leaf c r e in omega (arith, laid.link r, k)

  -- the slots of the innermost activation are not part of what is held
  pub held_slots : (s : State) (w w' : ℕ → ℕ) (f : ℕ)
      → ((a : ℕ) → (a < f + c.slots_at s.current.routine) ⊎ (f + c.frame_at s.current.routine ≤ a) → w' a ≡ w a)
      → Held c p s w f → Held c p s w' f
  held_slots s w w' f same h =
      let y = owner_of s.current in
      let fs = free_slots s.current.routine in
      record {
        aligned = h.aligned;
        low = h.low;
        frames = open_inside c laid p w w' f y s.callers s.memory.frames s.memory.scratch
            (λ a le side. ⊎_elim (λ (lt : a < f + free_at c s.current.routine). same a (inl (omega (arith, fs))))
            (λ (ge : f + c.frame_at s.current.routine ≤ a). same a (inr ge)) side) h.frames;
        objects = objects_keep c laid p w w' s.memory.objects _
            (λ a hi. same a (inl (omega (arith, h.room, h.low)))) h.objects;
        limit = same _ (slots_side w f y s.callers s.memory.frames s.memory.scratch (c.bottom + 268) h.frames
            (omega arith) (omega arith)) ∙ h.limit;
        next = same _ (slots_side w f y s.callers s.memory.frames s.memory.scratch (c.bottom + 272) h.frames
            (omega arith) (omega arith)) ∙ h.next;
        room = h.room;
        whole = h.whole;
        count = h.count;
        some = h.some;
        program = h.program;
        places = h.places;
      }

  -- the same for a state whose innermost activation has another place and other temporaries
  pub held_onward : (s : State) (a : Activation) (w : ℕ → ℕ) (f : ℕ) → owner_of a ≡ owner_of s.current → Held c p s w f
      → Held c p (record s { current = a }) w f
  held_onward s a w f e h =
      record {
        aligned = h.aligned;
        low = h.low;
        frames = subst (λ y. Open c p w f y s.callers s.memory.frames s.memory.scratch) (sym e) h.frames;
        objects = h.objects;
        limit = h.limit;
        next = h.next;
        room = h.room;
        whole = h.whole;
        count = h.count;
        some = h.some;
        program = h.program;
        places = h.places;
      }

  -- ---- homes

  pub value_near : (r f : ℕ) (m m' : Machine) (h : Home) → ((q : ℕ) → h ≡ Reg q → q < 12) → Near m m'
      → value_of c r f m' h ≡ value_of c r f m h
  value_near r f m m' (Slot k) low n = n.words _
  value_near r f m m' (Reg q) low n = let lt = low q refl in n.registers q (omega arith) (omega arith)

  -- what is read at a place is in its home
  pub home_read : (s : State) (m : Machine) (f u : ℕ) (v : Value) → Related c p s m f
      → reads c s.current.routine s.current.place u ≡ true → s.current.temporaries u ≡ Some v → IsValue c p v
      × (value_of c s.current.routine f m (home c s.current.routine u) ≡ word c p v)
  home_read s m f u v h reads e = h.homes u v (Used _ u reads) e

  -- ---- an instruction that writes no temporary goes on to a place

  pub related_goes : (s : State) (m m' : Machine) (f k : ℕ) → Related c p s m f
      → Passes c s.current.routine s.current.place k → Near m m' → Related c p
      (record s { current = record s.current { place = k } }) m' f
  related_goes s m m' f k h g n =
      let r = s.current.routine in
      record {
        stack = n.registers 14 (omega arith) (omega arith) ∙ h.stack;
        globals = n.registers 13 (omega arith) (omega arith) ∙ h.globals;
        held = held_onward s (record s.current { place = k }) m'.words f refl
            (held_slots s m.words m'.words f (λ a side. n.words a) h.held);
        homes = λ u v live e.
            let v' = h.homes u v (Passed _ k u g.there (g.none u) live) e in
            (v'.0, value_near r f m m' (home c r u) (λ q is. valid.register r u q is) n ∙ v'.1);
      }

  pub put_same : (ts : Temporaries) (t : ℕ) (x v : Value) (u : ℕ) → u ≡ t → put ts t x u ≡ Some v → x ≡ v
  put_same ts t x v u same e =
      let e1 : put ts t x t ≡ Some v = subst (λ j. put ts t x j ≡ Some v) same e in
      let e2 : put ts t x t ≡ Some x = rw (eq_same t) refl in
      cc (sym e2 ∙ e1)

  pub put_other : (ts : Temporaries) (t : ℕ) (x v : Value) (u : ℕ) → u ≢ t → put ts t x u ≡ Some v → ts u ≡ Some v
  put_other ts t x v u ne e = rw (eqb_other u t ne) at e

  -- ---- an instruction that writes a temporary: this ends each of them

  pub related_gives : (s : State) (m m' : Machine) (f t : ℕ) (x : Value) → Related c p s m f
      → Writes c s.current.routine s.current.place t → IsValue c p x → Settled c s.current.routine f
      (home c s.current.routine t) (word c p x) m m' → Related c p (record s { current = giving t x s.current }) m' f
  related_gives s m m' f t x h g good d =
      let r = s.current.routine in
      record {
        stack = d.stack ∙ h.stack;
        globals = d.globals ∙ h.globals;
        held = held_onward s (giving t x s.current) m'.words f refl (held_slots s m.words m'.words f d.words h.held);
        homes = λ u v live e.
            ⊎_elim
            (λ (same : u ≡ t).
            let xv : x ≡ v = put_same s.current.temporaries t x v u same e in
            (subst (IsValue c p) xv good, ap (λ j. value_of c r f m' (home c r j)) same ∙ d.here ∙ ap (word c p) xv))
            (λ (ne : u ≢ t).
            let v' = h.homes u v (Passed _ _ u g.next (g.only u ne) live) (put_other s.current.temporaries t x v u ne e)
            in (
              v'.0,
              d.others (home c r u) (valid.written r _ _ t u g.next g.here live ne)
                  (λ q is. valid.register r u q is) ∙ v'.1,
            ))
            (cases_eq u t);
      }

  -- ---- a store through an address

  pub related_stores : (s : State) (m m' : Machine) (f at : ℕ) (memory : Memory) (Q : Option Value → Value → Type 0)
      → Related c p s m f → Passes c s.current.routine s.current.place (suc s.current.place)
      → (k : Kept c p s memory m.words f at Q) → ((q : ℕ) → q ≢ 12 → q ≢ 15 → m'.registers q ≡ m.registers q)
      → ((a : ℕ) → m'.words a ≡ update at (word c p k.value) m.words a) → Related c p
      (record s { current = onward s.current; memory = memory }) m' f
  related_stores s m m' f at memory Q h g k regs words =
      let r = s.current.routine in
      let s' = record s { memory = memory } in
      let near : Near (record {
        registers = m.registers;
        words = update at (word c p k.value) m.words;
      }) m' = record {
        registers = regs;
        words = words;
      } in
      let wide = wide_apart r k.beside in
      record {
        stack = regs 14 (omega arith) (omega arith) ∙ h.stack;
        globals = regs 13 (omega arith) (omega arith) ∙ h.globals;
        held = held_onward s' (onward s.current) m'.words f refl
            (held_slots s' (update at (word c p k.value) m.words) m'.words f (λ a side. words a) k.held);
        homes = λ u v live e.
            let v' = h.homes u v (Passed _ _ u g.there (g.none u) live) e in (
              v'.0,
              value_near r f (record {
                registers = m.registers;
                words = update at (word c p k.value) m.words;
              }) m' (home c r u) (λ q is. valid.register r u q is) near ∙ home_beside r u (home c r u) refl wide ∙ v'.1,
            );
      }
    where
      wide_apart : (r : ℕ) → (at + 4 ≤ f) ⊎ (f + c.frame_at r ≤ at) → (j u : ℕ) → home c r u ≡ Slot j → f
          + slot_at c r j ≢ at
      wide_apart r (inl le) j u e = omega arith
      wide_apart r (inr le) j u e = let q = laid.slots r u j e in omega (arith, q)

      home_beside : (r u : ℕ) (g : Home) → home c r u ≡ g → ((j u : ℕ) → home c r u ≡ Slot j → f + slot_at c r j ≢ at)
          → value_of c r f (record {
            registers = m.registers;
            words = update at (word c p k.value) m.words;
          }) g ≡ value_of c r f m g
      home_beside r u (Slot j) e wide = update_other m.words at (word c p k.value) (f + slot_at c r j) (wide j u e)
      home_beside r u (Reg q) e wide = refl
