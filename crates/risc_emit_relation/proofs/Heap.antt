-- A new object: its address, the heap's next address, and the relation after it.
use Rattle.std.proofs.Common.{◌≡◌, ◌≢◌, ℕ, zero, suc, ◌+◌, ◌*◌, ◌/◌, ◌%◌, ◌<◌, ◌≤◌, ◌⊎◌, inl, inr, ⊎_elim, List, []}
use Rattle.std.proofs.Common.{◌∷◌, ◌++◌, length, Some, slice_get, refl, sym, ap, ◌∙◌, subst, arith}
use Rattle.tac_code.specs.declared.code.Block.TheVariants.{Object}
use Rattle.tac_code.specs.declared.code.Value.TheVariants.{Address}
use Rattle.tac_code.specs.Memory.{Words}
use Rattle.tac_code.specs.Meaning.{State, unwritten, made}
use Rattle.risc_alloc.specs.declared.homes.Home.{Home}
use Rattle.risc_alloc.specs.declared.homes.Home.TheVariants.{Slot, Reg}
use Rattle.risc_emit_relation.specs.Context.{Context, home, IsPlaced, Writes, slot_at, Places, word, Grown, IsLaid}
use Rattle.risc_emit_relation.specs.Related.{owner_of, Stands, Objects, Machine, value_of, Related}
use Rattle.risc_emit_relation.proofs.Basics.{update_same, update_other}
use Rattle.risc_emit_relation.proofs.Grown.{value_grown, word_grown, open_grown, stands_grown}
use Rattle.risc_emit_relation.proofs.Frames.{open_heap}
use Rattle.risc_emit_relation.proofs.Kept.{objects_keep, base_bottom}
use Rattle.risc_emit_relation.specs.Changes.{Settled, made_places, advanced, with_object, update}
use Rattle.risc_emit_relation.proofs.Steps.{slots_side, related_gives}
use Rattle.risc_emit_relation.proofs.Calls.{unwritten_nothing, nothing, length_unwritten, low_update}

-- an element of a list with one more
get_more : (xs : List Words) (v : Words) (n : ℕ) (ws : Words) → slice_get (xs ++ v ∷ []) n ≡ Some ws
    → ((n < length xs) × (slice_get xs n ≡ Some ws)) ⊎ ((n ≡ length xs) × (v ≡ ws))
get_more [] v zero ws e = inr (refl, cc e)
get_more [] v (suc n) ws e = absurd (cc e)
get_more (x ∷ xs) v zero ws e = inl (omega arith, e)
get_more (x ∷ xs) v (suc n) ws e =
    ⊎_elim (λ h. inl (omega (arith, h.0), h.1)) (λ h. inr (ap suc h.0, h.1)) (get_more xs v n ws e)

length_more : (xs : List Words) (v : Words) → length (xs ++ v ∷ []) ≡ suc (length xs)
length_more [] v = refl
length_more (x ∷ xs) v = ap suc (length_more xs v)

pub made_grown : (p : Places) (n at : ℕ) → p.objects ≡ n → Grown p (made_places p n at)
made_grown p n at e =
    record {
      activations = omega arith;
      objects = omega (arith, e);
      frame = λ a lt. refl;
      scratch = λ a lt. refl;
      object = λ a lt. let ne : a ≢ n = omega (arith, e) in update_other p.object n at a ne;
    }

module _ (c : Context) (laid : IsLaid c) (p : Places) where
  -- one more object, at the next address
  pub objects_made : (w : ℕ → ℕ) (objects : List Words) (next bytes more : ℕ) → next % 4 ≡ 0 → c.heap_at ≤ next
      → bytes % 4 ≡ 0 → bytes ≤ more → 4 ≤ more → Objects c p w objects next → Objects c
      (made_places p (length objects) next) w (objects ++ unwritten bytes ∷ []) (next + more)
  objects_made w objects next bytes more al low whole le four h =
      let n = length objects in
      let q = made_places p n next in
      let gr = made_grown p n next (sym h.count) in
      let len : 4 * length (nothing (bytes / 4)) ≡ bytes = let l = length_unwritten (bytes / 4) in omega
      (arith, l, whole) in
      let here : q.object n ≡ next = update_same p.object n next in
      record {
        count = length_more objects (unwritten bytes);
        each = λ m ws e.
            ⊎_elim
            (λ (old : (m < length objects) × (slice_get objects m ≡ Some ws)).
            stands_grown c p q gr w m ws next (next + more) (omega (arith, old.0, h.count)) (omega arith)
            (h.each m ws old.1))
            (λ (new : (m ≡ length objects) × (unwritten bytes ≡ ws)).
            subst (λ l. Stands c q w m l (next + more)) new.1
            (subst (λ k. Stands c q w k (unwritten bytes) (next + more)) (sym new.0) (record {
              aligned = ap (λ a. a % 4) here ∙ al;
              low = omega (arith, here, low);
              room = omega (arith, here, four);
              high = omega (arith, here, len, le);
              holds = λ i x is. absurd (unwritten_nothing (bytes / 4) i x is);
            })))
            (get_more objects (unwritten bytes) m ws e);
        rise = λ m k ws vs lt e e'. rises q gr here m k ws vs lt (get_more objects (unwritten bytes) m ws e)
            (get_more objects (unwritten bytes) k vs e');
      }
    where
      rises : (q : Places) → Grown p q → q.object (length objects) ≡ next → (m k : ℕ) (ws vs : Words) → m < k
          → ((m < length objects) × (slice_get objects m ≡ Some ws)) ⊎ ((m ≡ length objects) × (unwritten bytes ≡ ws))
          → ((k < length objects) × (slice_get objects k ≡ Some vs)) ⊎ ((k ≡ length objects) × (unwritten bytes ≡ vs))
          → (q.object m + 4 ≤ q.object k) × (q.object m + 4 * length ws ≤ q.object k)
      rises q gr here m k ws vs lt (inl a) (inl b) =
          let r = h.rise m k ws vs lt a.1 b.1 in
          let em = gr.object m (omega (arith, a.0, h.count)) in
          let ek = gr.object k (omega (arith, b.0, h.count)) in
          (omega (arith, r.0, em, ek), omega (arith, r.1, em, ek))
      rises q gr here m k ws vs lt (inl a) (inr b) =
          let s = h.each m ws a.1 in
          let em = gr.object m (omega (arith, a.0, h.count)) in
          let ek : q.object k ≡ next = ap q.object b.0 ∙ here in
          (omega (arith, s.room, em, ek), omega (arith, s.high, em, ek))
      rises q gr here m k ws vs lt (inr a) (inl b) = absurd (omega (arith, a.0, b.0))
      rises q gr here m k ws vs lt (inr a) (inr b) = absurd (omega (arith, a.0, b.0))

module _ (c : Context) (laid : IsLaid c) (valid : IsPlaced c) (p : Places) where
  pub related_grows : (s : State) (m : Machine) (f bytes more : ℕ) → Related c p s m f → bytes % 4 ≡ 0 → more % 4 ≡ 0
      → bytes ≤ more → 4 ≤ more → c.heap_at + s.heap + more ≤ c.base → Related c
      (made_places p (length s.memory.objects) (c.heap_at + s.heap)) (with_object s bytes more)
      (advanced c m (c.heap_at + s.heap + more)) f
  related_grows s m f bytes more h whole whole' le four room =
      let next = c.heap_at + s.heap in
      let p' = made_places p (length s.memory.objects) next in
      let gr = made_grown p (length s.memory.objects) next (sym h.held.objects.count) in
      let w' = update (c.bottom + 272) (next + more) m.words in
      let under = base_bottom c laid p s m.words f h.held in
      let al : next % 4 ≡ 0 = omega (arith, laid.even.0, h.held.whole) in
      record {
        stack = h.stack;
        globals = h.globals;
        held = record {
          aligned = h.held.aligned;
          low = h.held.low;
          frames = open_grown c p p' gr w' f (owner_of s.current) s.callers s.memory.frames s.memory.scratch
              (open_heap c laid p m.words w' f (owner_of s.current) s.callers s.memory.frames s.memory.scratch
              (λ a side. ⊎_elim (λ (lt : a < c.bottom + 268). let ne : a ≢ c.bottom + 272 = omega arith
              in update_other m.words _ _ a ne) (λ (ge : c.bottom + 276 ≤ a). let ne : a ≢ c.bottom + 272 = omega arith
              in update_other m.words _ _ a ne) side) h.held.frames);
          objects = subst (Objects c p' w' (s.memory.objects ++ unwritten bytes ∷ [])) (sums s.heap)
              (objects_made c laid p w' s.memory.objects next bytes more al (omega arith) whole le four
              (objects_keep c laid p m.words w' s.memory.objects next
              (λ a hi. let ne : a ≢ c.bottom + 272 = omega (arith, under, room) in update_other m.words _ _ a ne)
              h.held.objects));
          limit = let ne : c.bottom + 268 ≢ c.bottom + 272 = omega arith in update_other m.words _ _ _ ne
              ∙ h.held.limit;
          next = update_same m.words (c.bottom + 272) (next + more) ∙ sums s.heap;
          room = omega (arith, room);
          whole = omega (arith, h.held.whole, whole');
          count = h.held.count;
          some = h.held.some;
          program = h.held.program;
          places = record {
            frame = h.held.places.frame;
            scratch = h.held.places.scratch;
            object = low_update p.object (length s.memory.objects) next
                (omega (arith, room, laid.order.2, laid.order.3)) h.held.places.object;
          };
        };
        homes = λ u v live e.
            let v' = h.homes u v live e in (
              value_grown c p p' gr v v'.0,
              beside u (home c s.current.routine u) refl ∙ v'.1 ∙ sym
                  (word_grown c p p' gr v v'.0),
            );
      }
    where
      sums : (x : ℕ) → c.heap_at + x + more ≡ c.heap_at + (x + more)
      sums x = omega arith

      beside : (u : ℕ) (g : Home) → home c s.current.routine u ≡ g → value_of c s.current.routine f
          (advanced c m (c.heap_at + s.heap + more)) g ≡ value_of c s.current.routine f m g
      beside u (Slot k) e =
          let q = laid.slots s.current.routine u k e in
          let side = slots_side c laid valid p m.words f (owner_of s.current) s.callers s.memory.frames s.memory.scratch
          (c.bottom + 272) h.held.frames (omega arith) (omega arith) in
          let ne : f + slot_at c s.current.routine k ≢ c.bottom + 272 = apart q side in
          update_other m.words (c.bottom + 272) _ _ ne
        where
          apart : slot_at c s.current.routine k + 4 ≤ c.frame_at s.current.routine
              → (c.bottom + 272 < f + c.slots_at s.current.routine)
              ⊎ (f + c.frame_at s.current.routine ≤ c.bottom + 272) → f + slot_at c s.current.routine k ≢ c.bottom + 272
          apart q (inl lt) = omega arith
          apart q (inr ge) = omega arith
      beside u (Reg k) e = refl

  -- `new`: the address goes to a temporary
  pub related_makes : (G : ℕ → ℕ) (S H : ℕ) (s : State) (m m' : Machine) (f t type bytes : ℕ) → Related c p s m f
      → bytes % 4 ≡ 0 → G type % 4 ≡ 0 → bytes ≤ G type → 4 ≤ G type → c.heap_at + s.heap + G type ≤ c.base
      → Writes c s.current.routine s.current.place t → Settled c s.current.routine f (home c s.current.routine t)
      (c.heap_at + s.heap) (advanced c m (c.heap_at + s.heap + G type)) m' → Related c
      (made_places p (length s.memory.objects) (c.heap_at + s.heap)) (made c.code c.costs G S H t type bytes s) m' f
  related_makes G S H s m m' f t type bytes h whole whole' le four room g d =
      let next = c.heap_at + s.heap in
      let p' = made_places p (length s.memory.objects) next in
      let r = related_grows s m f bytes (G type) h whole whole' le four room in
      let here : word c p' (Address (Object (length s.memory.objects)) 0) ≡ next = let e = update_same p.object
      (length s.memory.objects) next in omega (arith, e) in
      related_gives c laid valid p' (with_object s bytes (G type)) (advanced c m (next + G type)) m' f t
      (Address (Object (length s.memory.objects)) 0) r g (omega arith, omega arith) (record {
        here = d.here ∙ sym here;
        others = d.others;
        words = d.words;
        globals = d.globals;
        stack = d.stack;
      })
