-- Words and bytes loaded and stored by address.
use Rattle.std.proofs.Common.{◌≡◌, ℕ, zero, suc, ◌+◌, ◌-◌, ◌*◌, ◌/◌, ◌%◌, ◌^◌, ◌<◌, true, cond, nat_eq, nat_le, List}
use Rattle.std.proofs.Common.{[], ◌∷◌, ◌++◌, length, Option, Some, None, slice_get, ℤ, pos, negsuc, ◌+ℤ◌, refl, sym, ap}
use Rattle.std.proofs.Common.{◌∙◌, subst, arith, length-append, append_assoc}
use Rattle.std.specs.Prelude.{◌≤ℤ◌}
use Rattle.std.proofs.lemmas.Int.{ints}
use Rattle.risc_word.specs.declared.instr.Width.TheVariants.{Word, Byte}
use Rattle.risc_word.specs.declared.instr.Instr.TheVariants as word
use Rattle.risc_machine.specs.Step as machine
use Rattle.risc_machine.specs.declared.limits.TheConstants.{ADDRESSES, SIGN_BIT}
use Rattle.risc_machine_laws.specs.View.{View, Shows, IsReadable, IsWritable, after, word_place, IsWordOffset, reached}
use Rattle.risc_machine_laws.specs.View as view
use Rattle.risc_machine_laws.specs.Runs.{Way, same_tape}
use Rattle.risc_machine_laws.proofs.Runs.{way_then}
use Rattle.risc_machine_laws.proofs.View.{word_in_code}
use Rattle.risc_machine_laws.proofs.Numbers.{word_narrow}
use Rattle.tac_code.specs.declared.code.Block.{Block}
use Rattle.tac_code.specs.declared.code.Value.{Value}
use Rattle.tac_code.specs.declared.code.Value.TheVariants.{Number, Address}
use Rattle.tac_code.specs.declared.code.Base.{Base}
use Rattle.tac_code.specs.declared.code.Base.TheVariants as base
use Rattle.tac_code.specs.declared.code.Instruction.TheVariants.{Load, Store, LoadByte, StoreByte}
use Rattle.tac_code.specs.Numbers.{word_of, number_of}
use Rattle.tac_code.specs.Memory.{Memory, constant_words, constant_at, load, load_byte, store, store_byte}
use Rattle.tac_code.specs.Meaning.{fetch, text_at, State, onward, giving, base_value}
use Rattle.risc_alloc.specs.Flow.{in_base}
use Rattle.risc_emit_relation.specs.Context.{Context, home, reads, Places, place, IsNumber, IsValue}
use Rattle.risc_emit_relation.specs.Context as related
use Rattle.risc_emit_relation.specs.Related.{value_of, Related}
use Rattle.risc_emit_relation.specs.Changes.{update, Near, ConstantsStand, IsStored, IsByteStored}
use Rattle.risc_emit_relation.proofs.Basics.{update_same, update_other}
use Rattle.risc_emit_relation.proofs.Kept.{load_found, load_byte_found, store_kept, store_byte_kept}
use Rattle.risc_emit_relation.proofs.Steps.{home_read, value_near, related_stores}
use Rattle.risc_emit_forms.specs.Pieces.{Piece, Plain, Left}
use Rattle.risc_emit_forms.specs.Forms as form
use Rattle.risc_emit_forms.specs.Forms.{constant, fetched, target, save, word_form, reach, reach_register, reach_offset}
use Rattle.risc_alloc.specs.declared.homes.Home.TheVariants.{Reg}
use Rattle.risc_emit_forms.specs.Peephole.{deferred_at}
use Rattle.risc_emit_forms.specs.Follows.{machine_of, with_deferred, Stood, Built, Meets, Belongs, Comes}
use Rattle.risc_emit_forms.proofs.Basics.{left_after, left_at, left_next, is_read, passes, writes_it, among_first}
use Rattle.risc_emit_forms.proofs.Basics.{among_rest}
use Rattle.risc_emit_forms.proofs.Flags.{silent}
use Rattle.risc_emit_forms.proofs.Shortfalls.{IsLoad}
use Rattle.risc_emit_forms.proofs.Runs.{Aside, step_to}
use Rattle.risc_emit_forms.proofs.Fetches.{fetch_run}
use Rattle.risc_emit_forms.proofs.Comes.{framed, tells_end}
use Rattle.risc_emit_forms.proofs.Joins.{come_to, come_way, arrive_here}
use Rattle.risc_emit_forms.proofs.Operands.{code, stands_in}
use Rattle.risc_emit_forms.proofs.Bases.{ReadsBase, reach_run}
use Rattle.risc_emit_forms.proofs.Numbers.{read_back}

-- ---- constants

number_in : (n : ℕ) → IsNumber (number_of n)
number_in n = (omega (arith, ints), omega (arith, ints))

-- the words of a constant are numbers
constant_number : (bytes : List ℕ) (i : ℕ) (x : Value) → slice_get (constant_words bytes) i ≡ Some (Some x) → (z : ℤ)
    × (x ≡ Number z) × IsNumber z
constant_number [] i x e = absurd (cc e)
constant_number (a ∷ []) i x e = absurd (cc e)
constant_number (a ∷ a1 ∷ []) i x e = absurd (cc e)
constant_number (a ∷ a1 ∷ a2 ∷ []) i x e = absurd (cc e)
constant_number (a ∷ a1 ∷ a2 ∷ a3 ∷ rest) zero x e =
    let n = a + 256 * a1 + 65536 * a2 + 16777216 * a3 in
    let same : Number (number_of n) ≡ x = cc e in
    (number_of n, sym same, number_in n)
constant_number (a ∷ a1 ∷ a2 ∷ a3 ∷ rest) (suc i) x e = constant_number rest i x e

constants_stand : (c : Context) (words : List ℕ) (stood : Stood c words) (p : Places) (m : machine.State) (v : View)
    → Shows words c.size m v → ConstantsStand c p v.words
constants_stand c words stood p m v sh r k ws e =
    let t = stood.texts r k ws e in
    record {
      aligned = omega arith;
      high = omega (arith, t.0, stood.fits.room);
      holds = λ i x is.
          let n = by_bytes (text_at c.code r k) e i x is in
          let at = t.1 i n.0 (is ∙ ap (λ y. Some (Some y)) n.1) in (
            subst (IsValue c p) (sym n.1) n.2,
            ap v.words (four i) ∙ word_in_code words c.size stood.fits m v
                (c.constant r k + i) (word_of n.0) sh at ∙ ap (related.word c p) (sym n.1),
          );
    }
  where
    four : (i : ℕ) → 4 * c.constant r k + 4 * i ≡ 4 * (c.constant r k + i)
    four i = omega arith

    by_bytes : (o : Option (List ℕ)) → constant_at o ≡ Some ws → (i : ℕ) (x : Value) → slice_get ws i ≡ Some (Some x)
        → (z : ℤ) × (x ≡ Number z) × IsNumber z
    by_bytes None e i x is = absurd (cc e)
    by_bytes (Some bytes) e i x is =
        let same : constant_words bytes ≡ ws = cc e in
        constant_number bytes i x (ap (λ l. slice_get l i) same ∙ is)

module _ (c : Context) (words : List ℕ) (b : Built c words) (p : Places) (s : State) (f : ℕ) (m : machine.State)
    (v : View) (sh : Shows words c.size m v) (be : Belongs c words p s v f) where
  -- ---- words

  pub load_follows : (t : ℕ) (a : Base) (n : ℕ) (block : Block) (offset : ℕ) (x : Value)
      → fetch c.code s.current.routine s.current.place ≡ Some (Load t a n) → base_value s.current a ≡ Some
      (Address block offset) → load (text_at c.code) s.memory block (offset + n) ≡ Some x → Comes c words s
      (record s { current = giving t x s.current }) m
  load_follows t a n block offset x here ea el =
      let r = s.current.routine in
      let k = s.current.place in
      let h = home c r t in
      let l = subst (λ y. Left c words v.place (word_form c r y t a n) (c.site r (suc k))) be.flags.1
      (code c words b p s f m v sh be (Load t a n) here) in
      let q = reach_register c r a n in
      let o = reach_offset c r a n in
      let i = word.Load Word (target c r h) q (pos o) in
      let found = load_found c b.laid p s v.words f block (offset + n) x be.related.held
      (constants_stand c words b.stood p m v sh) el in
      let g = reach_run c words b p s f m v sh be a n block offset (Plain i ∷ save c r h) _
      (λ u e. is_read c r k (Load t a n) here u e) ea
      (omega (arith, found.high, b.laid.order.3)) l in
      let v1 = g.view in
      let l1 = left_after c words v.place v1.place _ (reach c r a n) (Plain i ∷ save c r h) l g.place in
      let ok : IsReadable c.size (v1.registers q + o) = subst (IsReadable c.size) (sym g.at) (record {
        aligned = found.aligned;
        high = found.high;
      }) in
      let t2 = step_to c words b.stood i g.way.to v1 g.way.shows l1.stands.0 (tt, ok) in
      let v2 = after i v1 in
      let loaded : v1.words (v1.registers q + o) ≡ related.word c p x = g.near.words _ ∙ ap v.words g.at ∙ found.is in
      let is : v2.registers (target c r h) ≡ related.word c p x = update_same v1.registers (target c r h) _ ∙ loaded in
      let s' = record s { current = giving t x s.current } in
      come_way c words b s s' m v1 g.way (come_to c words b s s' g.way.to same_tape v2 t2 refl
      (tells_end c words b p s (machine_of v) f t x (Load t a n) t2.to v2 be.related be.input
      (writes_it c r k (Load t a n) here t refl refl) here refl
      (ap (λ z. nat_eq z 0) loaded, ap (nat_le SIGN_BIT) loaded) found.good t2.shows (record {
        here = is;
        registers = λ x n12 n15 nd. update_other v1.registers (target c r h) _ x nd ∙ g.near.registers x n12 n15;
        words = g.near.words;
      }) (left_next c words v1.place _ _ (save c r h) l1)))

  -- a store's words, up to the store
  pub record Ready (a : Base) (n u len : ℕ) (block : Block) (offset : ℕ) (x : Value) : Type 0 where
    pub view : View
    pub way : Way words c.size m same_tape view
    pub at : view.registers (reach_register c s.current.routine a n) + reach_offset c s.current.routine a n
        ≡ place c p block + (offset + n)
    pub value : view.registers (fetched c s.current.routine 15 (home c s.current.routine u)) ≡ related.word c p x
    pub near : Near (machine_of v) (machine_of view)
    pub place : view.place ≡ v.place + len

  pub ready_run : (a : Base) (n u : ℕ) (block : Block) (offset : ℕ) (x : Value) (ps : List Piece) (next : ℕ)
      → ReadsBase c words b p s f m v sh be a → reads c s.current.routine s.current.place u ≡ true
      → base_value s.current a ≡ Some
      (Address block offset) → s.current.temporaries u ≡ Some x → place c p block + (offset + n) < 2 ^ 32
      → Left c words v.place (reach c s.current.routine a n
      ++ (form.fetch c s.current.routine 15 (home c s.current.routine u) ++ ps)) next → Ready a n u
      (length (reach c s.current.routine a n) + length (form.fetch c s.current.routine 15 (home c s.current.routine u)))
      block offset x
  ready_run a n u block offset x ps next ra ru ea eu low l =
      let r = s.current.routine in
      let fr = framed c words b p s (machine_of v) f be.related in
      let fs = form.fetch c r 15 (home c r u) in
      let g = reach_run c words b p s f m v sh be a n block offset (fs ++ ps) next ra ea low l in
      let v1 = g.view in
      let l1 = left_after c words v.place v1.place next (reach c r a n) (fs ++ ps) l g.place in
      let e14 : v1.registers 14 ≡ f = g.near.registers 14 (omega arith) (omega arith) ∙ be.related.stack in
      let z = fetch_run c words b.stood b.laid b.placed r f fr 15 u ps next g.way.to v1 g.way.shows (omega arith) e14 l1
      in
      let v2 = z.view in
      let same = value_near c b.laid b.placed p r f (machine_of v) (machine_of v1) (home c r u)
      (λ q e. b.placed.register r u q e) g.near in
      let is = (stands_in c words b p s f m v sh be u x ru eu).1 in
      record {
        view = v2;
        way = way_then words c.size m same_tape same_tape v1 v2 g.way z.way;
        at = ap (λ y. y + reach_offset c r a n) (z.moved.registers (reach_register c r a n) g.apart) ∙ g.at;
        value = z.value ∙ same ∙ is;
        near = record {
          registers = λ q n12 n15. z.moved.registers q n15 ∙ g.near.registers q n12 n15;
          words = λ y. z.moved.words y ∙ g.near.words y;
        };
        place = omega (arith, z.place, g.place);
      }

  update_eq : (g h : ℕ → ℕ) (a a' n n' j : ℕ) → a ≡ a' → n ≡ n' → g j ≡ h j → update a n g j ≡ update a' n' h j
  update_eq g h a a' n n' j e e' e'' =
      ap (λ z. cond (nat_eq j z) n (g j)) e ∙ ap (λ z. cond (nat_eq j a') z (g j)) e'
      ∙ ap (λ z. cond (nat_eq j a') n' z) e''

  pub store_follows : (a : Base) (n u : ℕ) (block : Block) (offset : ℕ) (x : Value) (memory : Memory)
      → fetch c.code s.current.routine s.current.place ≡ Some (Store a n u) → base_value s.current a ≡ Some
      (Address block offset) → s.current.temporaries u ≡ Some x → store s.memory block (offset + n) x ≡ Some memory
      → Comes c words s (record s { current = onward s.current; memory = memory }) m
  store_follows a n u block offset x memory here ea eu es =
      let r = s.current.routine in
      let k = s.current.place in
      let l = code c words b p s f m v sh be (Store a n u) here in
      let q = reach_register c r a n in
      let o = reach_offset c r a n in
      let d = fetched c r 15 (home c r u) in
      let i = word.Store Word d q (pos o) in
      let ru = is_read c r k (Store a n u) here u (among_first u (in_base a)) in
      let good = (stands_in c words b p s f m v sh be u x ru eu).0 in
      let kept = store_kept c b.laid p s memory v.words f block (offset + n) x be.related.held good es in
      let g = ready_run a n u block offset x (Plain i ∷ []) _
      (λ t e. is_read c r k (Store a n u) here t (among_rest t u (in_base a) e)) ru ea eu
      (omega (arith, kept.high, b.laid.order.3)) l in
      let v1 = g.view in
      let l1 = left_after c words v.place v1.place _ (reach c r a n ++ form.fetch c r 15 (home c r u)) (Plain i ∷ [])
      (subst (λ y. Left c words v.place y (c.site r (suc k)))
      (sym (append_assoc (reach c r a n) (form.fetch c r 15 (home c r u)) (Plain i ∷ []))) l)
      (let len = length-append (reach c r a n) (form.fetch c r 15 (home c r u)) in omega (arith, g.place, len)) in
      let ok : IsWritable words c.size (v1.registers q + o) = subst (IsWritable words c.size) (sym g.at) (record {
        aligned = kept.aligned;
        low = omega (arith, b.stood.code, kept.low);
        high = kept.high;
      }) in
      let t2 = step_to c words b.stood i g.way.to v1 g.way.shows l1.stands.0 (tt, ok) in
      let v2 = after i v1 in
      let s' = record s { current = onward s.current; memory = memory } in
      let rel = related_stores c b.laid b.placed p s (machine_of v) (machine_of v2) f
      (place c p block + (offset + n)) memory (IsStored (offset + n) x) be.related
      (passes c r k (Store a n u) here (suc k) refl (among_first (suc k) [])) kept
      (λ y n12 n15. g.near.registers y n12 n15)
      (λ j. update_eq v1.words v.words _ _ _ _ j g.at (g.value ∙ ap (related.word c p) (sym kept.why.1))
      (g.near.words j)) in
      come_way c words b s s' m v1 g.way (come_to c words b s s' g.way.to same_tape v2 t2 refl
      (arrive_here c words b p s' t2.to v2 f t2.shows (record {
        related = rel;
        place = sym l1.ends;
        input = be.input;
        flags = silent c r k (Store a n u) here refl v2;
      })))

  -- ---- bytes

  -- the word of a byte, and the byte in it
  byte_place : (at o : ℕ) → (at + 4 * (o / 4)) % 4 ≡ 0 → (word_place (at + o) ≡ at + 4 * (o / 4))
      × ((at + o) % 4 ≡ o % 4)
  byte_place at o e = (omega (arith, e), omega (arith, e))

  pub load_byte_follows : (t : ℕ) (a : Base) (n : ℕ) (block : Block) (offset byte : ℕ)
      → fetch c.code s.current.routine s.current.place ≡ Some (LoadByte t a n) → base_value s.current a ≡ Some
      (Address block offset) → load_byte (text_at c.code) s.memory block (offset + n) ≡ Some byte → Comes c words s
      (record s { current = giving t (Number (pos byte)) s.current }) m
  load_byte_follows t a n block offset byte here ea el =
      let r = s.current.routine in
      let k = s.current.place in
      let h = home c r t in
      let l = code c words b p s f m v sh be (LoadByte t a n) here in
      let q = reach_register c r a n in
      let o = reach_offset c r a n in
      let at = place c p block in
      let i = word.Load Byte (target c r h) q (pos o) in
      let found = load_byte_found c b.laid p s v.words f block (offset + n) byte be.related.held
      (constants_stand c words b.stood p m v sh) el in
      let g = reach_run c words b p s f m v sh be a n block offset (Plain i ∷ save c r h) _
      (λ u e. is_read c r k (LoadByte t a n) here u e) ea
      (omega (arith, found.word.high, b.laid.order.3)) l in
      let v1 = g.view in
      let l1 = left_after c words v.place v1.place _ (reach c r a n) (Plain i ∷ save c r h) l g.place in
      let wp = byte_place at (offset + n) found.word.aligned in
      let wp' : word_place (v1.registers q + o) ≡ at + 4 * ((offset + n) / 4) = ap word_place g.at ∙ wp.0 in
      let ok : IsReadable c.size (word_place (v1.registers q + o)) = subst (IsReadable c.size) (sym wp') (record {
        aligned = found.word.aligned;
        high = found.word.high;
      }) in
      let t2 = step_to c words b.stood i g.way.to v1 g.way.shows l1.stands.0 (tt, ok) in
      let v2 = after i v1 in
      let in_word : v1.words (word_place (v1.registers q + o)) ≡ word_of found.number = g.near.words _ ∙ ap v.words wp'
      ∙ found.word.is in
      let by : view.byte_at v1 (v1.registers q + o) ≡ byte = ap (λ w. view.byte_in w ((v1.registers q + o) % 4)) in_word
      ∙ ap (view.byte_in (word_of found.number)) (ap (λ x. x % 4) g.at ∙ wp.1) ∙ sym found.is in
      let low = byte_low byte (word_of found.number / 256 ^ ((offset + n) % 4)) found.is in
      let loaded : view.byte_at v1 (v1.registers q + o) ≡ word_of (pos byte) = by ∙ sym (word_is byte low) in
      let s' = record s { current = giving t (Number (pos byte)) s.current } in
      come_way c words b s s' m v1 g.way (come_to c words b s s' g.way.to same_tape v2 t2 refl
      (tells_end c words b p s (machine_of v) f t (Number (pos byte)) (LoadByte t a n) t2.to v2 be.related be.input
      (writes_it c r k (LoadByte t a n) here t refl refl) here refl
      (ap (λ z. nat_eq z 0) loaded, ap (nat_le SIGN_BIT) loaded) (number_is byte low) t2.shows (record {
        here = update_same v1.registers (target c r h) _ ∙ loaded;
        registers = λ x n12 n15 nd. update_other v1.registers (target c r h) _ x nd ∙ g.near.registers x n12 n15;
        words = g.near.words;
      }) (left_next c words v1.place _ _ (save c r h) l1)))
    where
      byte_low : (x y : ℕ) → x ≡ y % 256 → x < 256
      byte_low x y e = omega (arith, e)

      number_is : (x : ℕ) → x < 256 → IsNumber (pos x)
      number_is x lt = (omega (arith, ints), omega (arith, ints))

      word_is : (x : ℕ) → x < 256 → word_of (pos x) ≡ x
      word_is x lt = omega (arith, ints)

  -- the word with another byte is the word of the number with that byte
  same_bytes : (w k x : ℕ) → w < 2 ^ 32 → x < 256 → k < 4
      → (view.with_byte w k x ≡ w - w / 256 ^ k % 256 * 256 ^ k + x * 256 ^ k)
      × (w - w / 256 ^ k % 256 * 256 ^ k + x * 256 ^ k < 2 ^ 32)
  same_bytes w zero x lw lx lk = (omega arith, omega arith)
  same_bytes w (suc zero) x lw lx lk = (omega arith, omega arith)
  same_bytes w (suc (suc zero)) x lw lx lk = (omega arith, omega arith)
  same_bytes w (suc (suc (suc zero))) x lw lx lk = (omega arith, omega arith)
  same_bytes w (suc (suc (suc (suc k)))) x lw lx lk = absurd (omega (arith, lk))

  byte_put : (w k x : ℕ) → w < 2 ^ 32 → x < 256 → k < 4 → view.with_byte w k x ≡ word_of
      (number_of (w - w / 256 ^ k % 256 * 256 ^ k + x * 256 ^ k))
  byte_put w k x lw lx lk = let e = same_bytes w k x lw lx lk in e.0 ∙ sym (read_back _ e.1)

  pub store_byte_follows : (a : Base) (n u : ℕ) (block : Block) (offset byte : ℕ) (memory : Memory)
      → fetch c.code s.current.routine s.current.place ≡ Some (StoreByte a n u) → base_value s.current a ≡ Some
      (Address block offset) → s.current.temporaries u ≡ Some (Number (pos byte)) → byte < 256
      → store_byte s.memory block (offset + n) byte ≡ Some memory → Comes c words s
      (record s { current = onward s.current; memory = memory }) m
  store_byte_follows a n u block offset byte memory here ea eu lt es =
      let r = s.current.routine in
      let k = s.current.place in
      let l = code c words b p s f m v sh be (StoreByte a n u) here in
      let q = reach_register c r a n in
      let o = reach_offset c r a n in
      let d = fetched c r 15 (home c r u) in
      let at = place c p block in
      let i = word.Store Byte d q (pos o) in
      let ru = is_read c r k (StoreByte a n u) here u (among_first u (in_base a)) in
      let kept = store_byte_kept c b.laid p s memory v.words f block (offset + n) byte be.related.held es in
      let g = ready_run a n u block offset (Number (pos byte)) (Plain i ∷ []) _
      (λ t e. is_read c r k (StoreByte a n u) here t (among_rest t u (in_base a) e)) ru ea eu
      (omega (arith, kept.high, b.laid.order.3)) l in
      let v1 = g.view in
      let l1 = left_after c words v.place v1.place _ (reach c r a n ++ form.fetch c r 15 (home c r u)) (Plain i ∷ [])
      (subst (λ y. Left c words v.place y (c.site r (suc k)))
      (sym (append_assoc (reach c r a n) (form.fetch c r 15 (home c r u)) (Plain i ∷ []))) l)
      (let len = length-append (reach c r a n) (form.fetch c r 15 (home c r u)) in omega (arith, g.place, len)) in
      let wp = byte_place at (offset + n) kept.aligned in
      let wp' : word_place (v1.registers q + o) ≡ at + 4 * ((offset + n) / 4) = ap word_place g.at ∙ wp.0 in
      let ok : IsWritable words c.size (word_place (v1.registers q + o)) = subst (IsWritable words c.size) (sym wp')
      (record {
        aligned = kept.aligned;
        low = omega (arith, b.stood.code, kept.low);
        high = kept.high;
      }) in
      let t2 = step_to c words b.stood i g.way.to v1 g.way.shows l1.stands.0 (tt, ok) in
      let v2 = after i v1 in
      let s' = record s { current = onward s.current; memory = memory } in
      let z = kept.why.0 in
      let old = kept.stood (Number z) kept.why.1 in
      let in_word : v1.words (word_place (v1.registers q + o)) ≡ word_of z = g.near.words _ ∙ ap v.words wp' ∙ old.1 in
      let by : v1.registers d % 256 ≡ byte = ap (λ x. x % 256) g.value ∙ low_byte byte lt in
      let new : view.with_byte (v1.words (word_place (v1.registers q + o))) ((v1.registers q + o) % 4)
      (v1.registers d % 256) ≡ related.word c p kept.value =
      ap (λ w. view.with_byte w ((v1.registers q + o) % 4) (v1.registers d % 256)) in_word
      ∙ ap (λ j. view.with_byte (word_of z) j (v1.registers d % 256)) (ap (λ x. x % 4) g.at ∙ wp.1)
      ∙ ap (view.with_byte (word_of z) ((offset + n) % 4)) by ∙ byte_put (word_of z) ((offset + n) % 4) byte
      (word_narrow z old.0) lt (omega arith) ∙ ap (related.word c p) (sym kept.why.2) in
      let rel = related_stores c b.laid b.placed p s (machine_of v) (machine_of v2) f
      (at + 4 * ((offset + n) / 4)) memory (IsByteStored ((offset + n) % 4) byte) be.related
      (passes c r k (StoreByte a n u) here (suc k) refl (among_first (suc k) [])) kept
      (λ y n12 n15. g.near.registers y n12 n15) (λ j. update_eq v1.words v.words _ _ _ _ j wp' new (g.near.words j))
      in
      come_way c words b s s' m v1 g.way (come_to c words b s s' g.way.to same_tape v2 t2 refl
      (arrive_here c words b p s' t2.to v2 f t2.shows (record {
        related = rel;
        place = sym l1.ends;
        input = be.input;
        flags = silent c r k (StoreByte a n u) here refl v2;
      })))
    where
      low_byte : (x : ℕ) → x < 256 → word_of (pos x) % 256 ≡ x
      low_byte x lt = omega (arith, ints)

-- ---- a load by a register that is short of an offset

word_offset : (z : ℤ) → negsuc 524287 ≤ℤ z → IsWordOffset z
word_offset (pos n) h = tt
word_offset (negsuc n) h = omega (arith, ints, h)

-- n bytes after the address that a register is short of
reached_on : (x : ℕ) (z : ℤ) (n y : ℕ) → x < 2 ^ 32 → IsLoad z n → y + n < ADDRESSES → reached x z ≡ y → reached x
    (z +ℤ pos n) ≡ y + n
reached_on x (pos k) n y narrow near low e = omega (arith, e)
reached_on x (negsuc k) n y narrow near low e = by (negsuc k +ℤ pos n) refl
  where
    by : (w : ℤ) → negsuc k +ℤ pos n ≡ w → reached x w ≡ y + n
    by (pos j) is =
        let sum : j + suc k ≡ n = omega (arith, ints, is) in
        omega (arith, e, sum, narrow, low)
    by (negsuc j) is =
        let sum : j + n ≡ k = omega (arith, ints, is) in
        let few = subst (λ w. negsuc 524287 ≤ℤ w) is near.0 in
        let least : j < 524288 = omega (arith, ints, few) in
        omega (arith, e, sum, narrow, low, least)

module _ (c : Context) (words : List ℕ) (b : Built c words) (p : Places) (s : State) (f : ℕ) (m : machine.State)
    (v : View) (sh : Shows words c.size m v) (me : Meets c words p s v f) where
  pub deferred_load_follows : (deferred : ℕ × ℤ) (t n : ℕ) (block : Block) (offset : ℕ) (x : Value)
      → deferred_at c s.current.routine s.current.place ≡ Some deferred → home c s.current.routine t ≡ Reg deferred.0
      → IsLoad deferred.1 n → fetch c.code s.current.routine s.current.place ≡ Some (Load t (base.Temporary t) n)
      → s.current.temporaries t ≡ Some (Address block offset) → load (text_at c.code) s.memory block
      (offset + n) ≡ Some x → Comes c words s
      (record s { current = giving t x s.current }) m
  deferred_load_follows deferred t n block offset x is home_is near here et el =
      let r = s.current.routine in
      let k = s.current.place in
      let ins = Load t (base.Temporary t) n in
      let m0 = with_deferred (Some deferred) (machine_of v) in
      let rel : Related c p s m0 f = subst (λ o. Related c p s (with_deferred o (machine_of v)) f) is me.related in
      let i = word.Load Word deferred.0 deferred.0 (deferred.1 +ℤ pos n) in
      let l = subst (λ y. Left c words v.place (word_form c r y t (base.Temporary t) n) (c.site r (suc k))) is
      (left_at c words (c.site r k) v.place _ (form.form c r k ins) (b.stood.body r k ins here) me.place) in
      let found = load_found c b.laid p s v.words f block (offset + n) x rel.held
      (constants_stand c words b.stood p m v sh) el in
      let there = home_read c b.laid b.placed p s m0 f t (Address block offset) rel
      (is_read c r k ins here t (among_first t [])) et in
      let whole : reached (v.registers deferred.0) deferred.1
      ≡ place c p block + offset = sym (update_same v.registers deferred.0 _)
      ∙ ap (value_of c r f m0) (sym home_is) ∙ there.1 in
      let lt = b.placed.register r t deferred.0 home_is in
      let end = b.stood.fits.top in
      let at : reached (v.registers deferred.0) (deferred.1 +ℤ pos n) ≡ place c p block + (offset + n) =
      reached_on (v.registers deferred.0) deferred.1 n (place c p block + offset)
      (sh.narrow deferred.0 (omega (arith, lt))) near (omega (arith, found.high, end)) whole ∙ sums (place c p block) in
      let ok : IsReadable c.size (reached (v.registers deferred.0) (deferred.1 +ℤ pos n)) = subst (IsReadable c.size)
      (sym at) (record {
        aligned = found.aligned;
        high = found.high;
      }) in
      let t2 = step_to c words b.stood i m v sh l.stands.0 (word_offset (deferred.1 +ℤ pos n) near.0, ok) in
      let v2 = after i v in
      let loaded : v.words (reached (v.registers deferred.0) (deferred.1 +ℤ pos n)) ≡ related.word c p x = ap v.words at
      ∙ found.is in
      let target_is : target c r (home c r t) ≡ deferred.0 = ap (target c r) home_is in
      let aside : Aside deferred.0 (related.word c p x) m0 v2 = record {
        here = update_same v.registers deferred.0 _ ∙ loaded;
        registers = λ q n12 n15 nd. update_other v.registers deferred.0 _ q nd ∙ sym
            (update_other v.registers deferred.0 _ q nd);
        words = λ a. refl;
      } in
      let s' = record s { current = giving t x s.current } in
      let l2 : Left c words v2.place [] (c.site r (suc k)) = left_next c words v.place _ (Plain i) [] l in
      come_to c words b s s' m same_tape v2 t2 refl
      (tells_end c words b p s m0 f t x ins t2.to v2 rel me.input (writes_it c r k ins here t refl refl) here refl
      (ap (λ z. nat_eq z 0) loaded, ap (nat_le SIGN_BIT) loaded) found.good t2.shows
      (subst (λ d. Aside d (related.word c p x) m0 v2) (sym target_is) aside)
      (subst (λ y. Left c words v2.place (save c r y) (c.site r (suc k))) (sym home_is) l2))
    where
      sums : (x : ℕ) → x + offset + n ≡ x + (offset + n)
      sums x = omega arith
