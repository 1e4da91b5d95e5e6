-- Loads and stores by address, over the whole relation: a store into any block keeps it, also of an outer frame or an
-- object.
use Rattle.std.proofs.Common.{◌≡◌, ◌≢◌, ℕ, ◌+◌, ◌*◌, ◌/◌, ◌%◌, ◌<◌, ◌≤◌, ◌⊎◌, inl, inr, ⊎_elim, Bool, true, false}
use Rattle.std.proofs.Common.{cond, ◌&&◌, nat_lt, List, length, Option, Some, None, slice_get, slice_set, refl, sym}
use Rattle.std.proofs.Common.{ap, ◌∙◌, subst, arith}
use Rattle.std.proofs.lemmas.Bool.{ltb-true, eqb-true}
use Rattle.std.proofs.lemmas.Int.{ints}
use Rattle.std.proofs.lemmas.Option.{slice_get_within}
use Rattle.tac_code.specs.declared.code.Block.{Block}
use Rattle.tac_code.specs.declared.code.Block.TheVariants.{Frame, Scratch, Object, Constant}
use Rattle.tac_code.specs.declared.code.Value.{Value}
use Rattle.tac_code.specs.declared.code.Value.TheVariants.{Number, Address, Routine}
use Rattle.tac_code.specs.Numbers.{with_byte, number_of}
use Rattle.tac_code.specs.Memory.{Words, Living, Memory, known, is_aligned, with_word, byte_in, changed_byte}
use Rattle.tac_code.specs.Memory.{with_value, with_byte_at, changed, changed_object, with_frames, with_scratch}
use Rattle.tac_code.specs.Memory.{with_objects, changed_in, value_in, byte_value_in, words_in, load, load_byte, store}
use Rattle.tac_code.specs.Memory.{store_byte}
use Rattle.tac_code.specs.Meaning.{State, text_at}
use Rattle.risc_emit_relation.specs.Context.{Context, Places, place, word, IsNumber, IsValue, IsLaid}
use Rattle.risc_emit_relation.specs.Related.{owner_of, Objects, Held}
use Rattle.risc_emit_relation.proofs.Basics.{update_other}
use Rattle.risc_emit_relation.proofs.Frames.{open_above, open_bottom}
use Rattle.risc_emit_relation.proofs.Found.{found}
use Rattle.risc_emit_relation.specs.Changes.{Found, ConstantsStand, Kept, IsStored, IsByteStored, Loaded, ByteLoaded}
use Rattle.risc_emit_relation.specs.Changes.{update}
use Rattle.risc_emit_relation.proofs.Stores.{Sets, IsChange, IsGood, frame_store, scratch_store, object_store}

frames_some : (m m' : Memory) (o : Option (List Living)) → with_frames m o ≡ Some m' → (l : List Living) × (o ≡ Some l)
    × (m' ≡ record m { frames = l })
frames_some m m' None e = absurd (cc e)
frames_some m m' (Some l) e = (l, refl, cc e)

scratch_some : (m m' : Memory) (o : Option (List Living)) → with_scratch m o ≡ Some m' → (l : List Living)
    × (o ≡ Some l) × (m' ≡ record m { scratch = l })
scratch_some m m' None e = absurd (cc e)
scratch_some m m' (Some l) e = (l, refl, cc e)

objects_some : (m m' : Memory) (o : Option (List Words)) → with_objects m o ≡ Some m' → (l : List Words) × (o ≡ Some l)
    × (m' ≡ record m { objects = l })
objects_some m m' None e = absurd (cc e)
objects_some m m' (Some l) e = (l, refl, cc e)

known_some : (o : Option (Option Value)) (v : Value) → known o ≡ Some v → o ≡ Some (Some v)
known_some None v e = absurd (cc e)
known_some (Some x) v e = ap Some e

known_within : (ws : Words) (i : ℕ) (v : Value) → known (slice_get ws i) ≡ Some v → i < length ws
known_within ws i v e = slice_get_within ws i (Some v) (known_some (slice_get ws i) v e)

module _ (c : Context) (laid : IsLaid c) (p : Places) where
  -- objects are below the stack
  pub objects_keep : (w w' : ℕ → ℕ) (objects : List Words) (next : ℕ) → ((x : ℕ) → x + 4 ≤ next → w' x ≡ w x)
      → Objects c p w objects next → Objects c p w' objects next
  objects_keep w w' objects next same h =
      record {
        count = h.count;
        each = λ n ws e.
            let s = h.each n ws e in
            record {
              aligned = s.aligned;
              low = s.low;
              room = s.room;
              high = s.high;
              holds = λ i x is. let k = s.holds i x is in let lt = slice_get_within ws i (Some x) is
                  in (k.0, same (p.object n + 4 * i) (omega (arith, s.high, lt)) ∙ k.1);
            };
        rise = h.rise;
      }

  -- the program block's frame is on the stack
  pub base_bottom : (s : State) (w : ℕ → ℕ) (f : ℕ) → Held c p s w f → c.base ≤ c.bottom
  base_bottom s w f h =
      ⊎_elim (λ e. omega (arith, e.0, h.low)) (λ le. omega (arith, h.low))
      (open_bottom c laid p w f (owner_of s.current) s.callers s.memory.frames s.memory.scratch h.frames)

  module _ (i : ℕ) (Q : Option Value → Value → Type 0) (good : IsGood c laid p Q) (change : Words → Option Words)
      (ok : IsChange i Q change) where
    above_heap : (s : State) (w : ℕ → ℕ) (f at n : ℕ) → Held c p s w f → c.base ≤ at → Objects c p
        (update at n w) s.memory.objects (c.heap_at + s.heap)
    above_heap s w f at n h le =
        objects_keep w (update at n w) s.memory.objects _
        (λ x hi. let ne : x ≢ at = omega (arith, h.room) in update_other w at n x ne) h.objects

    two_words : (w : ℕ → ℕ) (at n : ℕ) → (at + 4 ≤ c.bottom + 268) ⊎ (c.bottom + 276 ≤ at)
        → (update at n w (c.bottom + 268) ≡ w (c.bottom + 268)) × (update at n w (c.bottom + 272) ≡ w (c.bottom + 272))
    two_words w at n (inl le) =
        let n0 : c.bottom + 268 ≢ at = omega arith in
        let n1 : c.bottom + 272 ≢ at = omega arith in
        (update_other w at n _ n0, update_other w at n _ n1)
    two_words w at n (inr le) =
        let n0 : c.bottom + 268 ≢ at = omega arith in
        let n1 : c.bottom + 272 ≢ at = omega arith in
        (update_other w at n _ n0, update_other w at n _ n1)

    pub change_kept : (s : State) (m' : Memory) (w : ℕ → ℕ) (f : ℕ) (block : Block) → Held c p s w f
        → changed_in s.memory block change ≡ Some m' → Kept c p s m' w f (place c p block + 4 * i) Q
    change_kept s m' w f (Frame a) h e =
        let r = frames_some s.memory m' (changed s.memory.frames a change) e in
        let t = frame_store c laid p i Q good change ok w f
        (owner_of s.current) s.callers s.memory.frames s.memory.scratch r.0 a h.aligned h.frames r.1 in
        let at = p.frame a + 4 * i in
        let two = two_words w at (word c p t.value) t.free in
        subst (λ l. Kept c p s l w f at Q) (sym r.2) (record {
          value = t.value;
          before = t.before;
          why = t.why;
          stood = t.stood;
          aligned = t.aligned;
          low = omega (arith, laid.order.1, h.low, t.low);
          high = t.high;
          beside = inr t.low;
          held = record {
            aligned = h.aligned;
            low = h.low;
            frames = t.frames;
            objects = above_heap s w f at (word c p t.value) h (omega (arith, h.low, t.low));
            limit = two.0 ∙ h.limit;
            next = two.1 ∙ h.next;
            room = h.room;
            whole = h.whole;
            count = h.count;
            some = h.some;
            program = h.program;
            places = h.places;
          };
        })
    change_kept s m' w f (Scratch a) h e =
        let r = scratch_some s.memory m' (changed s.memory.scratch a change) e in
        let t = scratch_store c laid p i Q good change ok w f
        (owner_of s.current) s.callers s.memory.frames s.memory.scratch r.0 a h.aligned h.frames r.1 in
        let at = p.scratch a + 4 * i in
        let two = two_words w at (word c p t.value) t.free in
        subst (λ l. Kept c p s l w f at Q) (sym r.2) (record {
          value = t.value;
          before = t.before;
          why = t.why;
          stood = t.stood;
          aligned = t.aligned;
          low = omega (arith, laid.order.1, h.low, t.low);
          high = t.high;
          beside = inr t.low;
          held = record {
            aligned = h.aligned;
            low = h.low;
            frames = t.frames;
            objects = above_heap s w f at (word c p t.value) h (omega (arith, h.low, t.low));
            limit = two.0 ∙ h.limit;
            next = two.1 ∙ h.next;
            room = h.room;
            whole = h.whole;
            count = h.count;
            some = h.some;
            program = h.program;
            places = h.places;
          };
        })
    change_kept s m' w f (Object n) h e =
        let r = objects_some s.memory m' (changed_object s.memory.objects n change) e in
        let t = object_store c laid p i Q good change ok w s.memory.objects r.0 (c.heap_at + s.heap) n h.objects r.1 in
        let at = p.object n + 4 * i in
        let under = base_bottom s w f h in
        let two = two_words w at (word c p t.value) (inl (omega (arith, t.high, h.room, under))) in
        subst (λ l. Kept c p s l w f at Q) (sym r.2) (record {
          value = t.value;
          before = t.before;
          why = t.why;
          stood = t.stood;
          aligned = t.aligned;
          low = t.low;
          high = omega (arith, t.high, h.room, laid.order.2);
          beside = inl (omega (arith, t.high, h.room, h.low));
          held = record {
            aligned = h.aligned;
            low = h.low;
            frames = open_above c laid p w (update at (word c p t.value) w) f
                (owner_of s.current) s.callers s.memory.frames s.memory.scratch
                (λ x le. let ne : x ≢ at = omega (arith, t.high, h.room, h.low) in update_other w at
                (word c p t.value) x ne) h.frames;
            objects = t.objects;
            limit = two.0 ∙ h.limit;
            next = two.1 ∙ h.next;
            room = h.room;
            whole = h.whole;
            count = h.count;
            some = h.some;
            program = h.program;
            places = h.places;
          };
        })
    change_kept s m' w f (Constant r k) h e = absurd (cc e)

  -- ---- words

  with_word_some : (offset : ℕ) (v : Value) → IsChange (offset / 4) (IsStored offset v) (λ ws. with_word ws offset v)
  with_word_some offset v ws ws' e = go (is_aligned offset) refl (nat_lt (offset / 4) (length ws)) refl e
    where
      go : (s : Bool) → is_aligned offset ≡ s → (t : Bool) → nat_lt (offset / 4) (length ws) ≡ t → cond (s && t)
          (Some (slice_set ws (offset / 4) (Some v))) None ≡ Some ws' → Sets (offset / 4) (IsStored offset v) ws ws'
      go true al true lt e =
          record {
            value = v;
            within = ltb-true _ _ lt;
            becomes = cc e;
            why = (eqb-true (offset % 4) 0 al, refl);
          }
      go true al false lt e = absurd (cc e)
      go false al t lt e = absurd (cc e)

  -- a word stored through an address
  pub store_kept : (s : State) (m' : Memory) (w : ℕ → ℕ) (f : ℕ) (block : Block) (offset : ℕ) (v : Value)
      → Held c p s w f → IsValue c p v → store s.memory block offset v ≡ Some m' → Kept c p s m' w f
      (place c p block + offset) (IsStored offset v)
  store_kept s m' w f block offset v h good e =
      let k = change_kept (offset / 4) (IsStored offset v) (λ o x q. subst (IsValue c p) (sym q.1) good)
      (λ ws. with_word ws offset v) (with_word_some offset v) s m' w f block h e in
      let al = k.why.0 in
      let same : place c p block + 4 * (offset / 4) ≡ place c p block + offset = omega (arith, al) in
      subst (λ at. Kept c p s m' w f at (IsStored offset v)) same k

  -- ---- bytes

  byte_set : (i k byte : ℕ) (ws ws' : Words) (o : Option Value) → known (slice_get ws i) ≡ o → with_value ws i
      (changed_byte o k byte) ≡ Some ws' → Sets i (IsByteStored k byte) ws ws'
  byte_set i k byte ws ws' None is e = absurd (cc e)
  byte_set i k byte ws ws' (Some (Number z)) is e =
      record {
        value = Number (with_byte z k byte);
        within = known_within ws i (Number z) is;
        becomes = cc e;
        why = (z, is, refl);
      }
  byte_set i k byte ws ws' (Some (Address b o)) is e = absurd (cc e)
  byte_set i k byte ws ws' (Some (Routine r)) is e = absurd (cc e)

  number_in : (n : ℕ) → IsNumber (number_of n)
  number_in n = (omega (arith, ints), omega (arith, ints))

  -- a byte stored through an address: the word of four bytes that holds it changes
  pub store_byte_kept : (s : State) (m' : Memory) (w : ℕ → ℕ) (f : ℕ) (block : Block) (offset byte : ℕ) → Held c p s w f
      → store_byte s.memory block offset byte ≡ Some m' → Kept c p s m' w f (place c p block + 4 * (offset / 4))
      (IsByteStored (offset % 4) byte)
  store_byte_kept s m' w f block offset byte h e =
      change_kept (offset / 4) (IsByteStored (offset % 4) byte) (λ o x q. subst (IsValue c p) (sym q.2) (number_in _))
      (λ ws. with_byte_at ws offset byte) (λ ws ws' is. byte_set (offset / 4) (offset % 4) byte ws ws'
      (known (slice_get ws (offset / 4))) refl is) s m' w f block h e

  -- ---- loads

  loaded_at : (w : ℕ → ℕ) (at i : ℕ) (ws : Words) (v : Value) → Found c p w at ws → known (slice_get ws i) ≡ Some v
      → Loaded c p w (at + 4 * i) v
  loaded_at w at i ws v g e =
      let k = g.holds i v (known_some (slice_get ws i) v e) in
      let lt = known_within ws i v e in
      record { aligned = omega (arith, g.aligned); high = omega (arith, g.high, lt); good = k.0; is = k.1 }

  pub load_found : (s : State) (w : ℕ → ℕ) (f : ℕ) (block : Block) (offset : ℕ) (v : Value) → Held c p s w f
      → ConstantsStand c p w → load (text_at c.code) s.memory block offset ≡ Some v → Loaded c p w
      (place c p block + offset) v
  load_found s w f block offset v h k e = go (words_in (text_at c.code) s.memory block) refl e
    where
      at_word : (ws : Words) → Found c p w (place c p block) ws → (t : Bool) → is_aligned offset ≡ t → cond t
          (known (slice_get ws (offset / 4))) None ≡ Some v → Loaded c p w (place c p block + offset) v
      at_word ws g true al e =
          let z = eqb-true (offset % 4) 0 al in
          let same : place c p block + 4 * (offset / 4) ≡ place c p block + offset = omega (arith, z) in
          subst (λ a. Loaded c p w a v) same (loaded_at w (place c p block) (offset / 4) ws v g e)
      at_word ws g false al e = absurd (cc e)

      go : (o : Option Words) → words_in (text_at c.code) s.memory block ≡ o → value_in o offset ≡ Some v → Loaded c p w
          (place c p block + offset) v
      go None is e = absurd (cc e)
      go (Some ws) is e = at_word ws (found c laid p w s f block ws h k is) (is_aligned offset) refl e

  pub load_byte_found : (s : State) (w : ℕ → ℕ) (f : ℕ) (block : Block) (offset byte : ℕ) → Held c p s w f
      → ConstantsStand c p w → load_byte (text_at c.code) s.memory block offset ≡ Some byte → ByteLoaded c p w
      (place c p block + 4 * (offset / 4)) (offset % 4) byte
  load_byte_found s w f block offset byte h k e = go (words_in (text_at c.code) s.memory block) refl e
    where
      at_byte : (ws : Words) → Found c p w (place c p block) ws → (o : Option Value) → known (slice_get ws (offset / 4))
          ≡ o → byte_in o (offset % 4) ≡ Some byte → ByteLoaded c p w (place c p block + 4 * (offset / 4))
          (offset % 4) byte
      at_byte ws g None is e = absurd (cc e)
      at_byte ws g (Some (Number z)) is e =
          record { number = z; word = loaded_at w (place c p block) (offset / 4) ws (Number z) g is; is = sym (cc e) }
      at_byte ws g (Some (Address b o)) is e = absurd (cc e)
      at_byte ws g (Some (Routine r)) is e = absurd (cc e)

      go : (o : Option Words) → words_in (text_at c.code) s.memory block ≡ o → byte_value_in o offset ≡ Some byte
          → ByteLoaded c p w (place c p block + 4 * (offset / 4)) (offset % 4) byte
      go None is e = absurd (cc e)
      go (Some ws) is e = at_byte ws (found c laid p w s f block ws h k is) (known (slice_get ws (offset / 4))) refl e
