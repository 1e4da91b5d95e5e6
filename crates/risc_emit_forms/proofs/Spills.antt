-- Parameters that come in registers: each goes to its home or among the operands in the frame of the caller.
use Rattle.std.proofs.Common.{◌≡◌, ◌≢◌, ℕ, zero, suc, ◌+◌, ◌*◌, ◌<◌, ◌≤◌, ◌⊎◌, inl, inr, ⊎_elim, Bool, true, false}
use Rattle.std.proofs.Common.{cond, ◌&&◌, ◌||◌, not, nat_lt, List, [], ◌++◌, length, Some, slice_get, refl, sym, ap}
use Rattle.std.proofs.Common.{◌∙◌, subst, arith, length-append, append_assoc}
use Rattle.std.proofs.lemmas.Bool.{cases_eq}
use Rattle.risc_word.specs.declared.instr.Operand.TheVariants as instr_operand
use Rattle.risc_word.specs.declared.instr.Instr.TheVariants as word
use Rattle.risc_machine.specs.Step as machine
use Rattle.risc_machine_laws.specs.View.{View, Shows, IsReadable, IsWritable, after}
use Rattle.risc_machine_laws.specs.Runs.{Way, same_tape}
use Rattle.risc_machine_laws.proofs.Runs.{way_here, way_of, way_then}
use Rattle.tac_code.specs.declared.code.Value.{Value}
use Rattle.tac_code.specs.declared.code.TacRoutine.{TacRoutine}
use Rattle.tac_code.specs.Meaning.{routines}
use Rattle.risc_alloc.specs.declared.homes.Home.{Home}
use Rattle.risc_alloc.specs.declared.homes.Home.TheVariants.{Slot, Reg}
use Rattle.risc_emit_relation.specs.Context.{Context, home, IsAlive, slot_at, Places}
use Rattle.risc_emit_relation.specs.Related.{value_of}
use Rattle.risc_emit_relation.proofs.Basics.{update_same, update_at, update_other}
use Rattle.risc_emit_forms.specs.Pieces.{Piece, Left}
use Rattle.risc_emit_forms.specs.Forms.{carried, stands, is_clear, is_direct, store, spill_one, spill, parameters}
use Rattle.risc_emit_forms.specs.Forms as form
use Rattle.risc_emit_forms.specs.Follows.{machine_of, Built}
use Rattle.risc_emit_forms.proofs.Basics.{left_after}
use Rattle.risc_emit_forms.proofs.Runs.{Framed, step_to, store_run}
use Rattle.risc_emit_forms.proofs.Results.{in_register, in_slot}

-- ---- parameters go to their homes

module _ (c : Context) (words : List ℕ) (b : Built c words) (p : Places) (q g n o : ℕ) (framed : Framed c words q g)
    (routine : TacRoutine) (is_routine : slice_get (routines c.code) q ≡ Some routine) (vs : List Value)
    (at : g + n + 8 ≡ o) where
  -- where operand j is, apart from the slots
  pub record Offered : Type 0 where
    pub readable : (j : ℕ) → j < routine.parameters → IsReadable c.size (o + 4 * j)
    pub writable : (j : ℕ) → j < routine.parameters → IsWritable words c.size (o + 4 * j)
    pub apart : (j : ℕ) → j < routine.parameters → (o + 4 * j < g + c.slots_at q) ⊎ (g + c.frame_at q ≤ o + 4 * j)

  -- this many come in registers
  abbrev pub few : ℕ
  few = carried routine.parameters

  pub low_is : (u : ℕ) → u < routine.parameters → u < 8 → u < few
  low_is u lt k = go (nat_lt routine.parameters 8)
    where
      go : (t : Bool) → u < cond t routine.parameters 8
      go true = lt
      go false = k

  abbrev pub Aside_of : ℕ → Type 0
  Aside_of a = (a < g + c.slots_at q) ⊎ (g + c.frame_at q ≤ a)

  -- parameter k went from its register to its home or to the frame, if it doesn't come in its home
  record SpilledOne (k len : ℕ) (m : machine.State) (v : View) : Type 0 where
    view : View
    way : Way words c.size m same_tape view
    low : (z : ℕ) → z < few → view.registers z ≡ v.registers z
    globals : view.registers 13 ≡ v.registers 13
    stack : view.registers 14 ≡ v.registers 14
    same : (a : ℕ) → Aside_of a → a ≢ o + 4 * k → view.words a ≡ v.words a
    aside : 8 ≤ k → (a : ℕ) → view.words a ≡ v.words a
    stored : k < 8 → is_direct few k (home c q k) ≡ false → view.words (o + 4 * k) ≡ v.registers k
    here : is_clear few k (home c q k) ≡ true → value_of c q g (machine_of view) (home c q k) ≡ v.registers k
    others : (u : ℕ) → IsAlive c q 0 u → u ≢ k → value_of c q g (machine_of view) (home c q u) ≡ value_of c q g
        (machine_of v) (home c q u)
    place : view.place ≡ v.place + len

  -- what is beside the operands in the frame
  home_beside : (offered : Offered) (k : ℕ) (v2 v1 : View) → k < routine.parameters
      → ((z : ℕ) → z ≢ 15 → v2.registers z ≡ v1.registers z) → ((a : ℕ) → a ≢ o + 4 * k → v2.words a ≡ v1.words a)
      → (u : ℕ) → value_of c q g (machine_of v2) (home c q u) ≡ value_of c q g (machine_of v1) (home c q u)
  home_beside offered k v2 v1 lt regs mem u = go (home c q u) refl (offered.apart k lt)
    where
      go : (h : Home) → home c q u ≡ h → (o + 4 * k < g + c.slots_at q) ⊎ (g + c.frame_at q ≤ o + 4 * k)
          → value_of c q g (machine_of v2) h ≡ value_of c q g (machine_of v1) h
      go (Slot j) e (inl side) = mem _ (omega (arith, side))
      go (Slot j) e (inr side) = let le = b.laid.slots q u j e in mem _ (omega (arith, side, le))
      go (Reg z) e side = let lt' = b.placed.register q u z e in regs z (omega (arith, lt'))

  -- a home that no parameter comes in takes one directly
  take_run : (k : ℕ) (ps : List Piece) (next : ℕ) (m : machine.State) (v : View) → Shows words c.size m v
      → Left c words v.place (form.take c q k (home c q k) ++ ps) next → k < routine.parameters → v.registers 14 ≡ g
      → is_clear few k (home c q k) ≡ true → SpilledOne k (length (form.take c q k (home c q k))) m v
  take_run k ps next m v sh l count e14 clear = go (home c q k) refl clear l
    where
      less : (x y : ℕ) → nat_lt x y ≡ true → x < y
      less x y e = grind arith

      not_less : (x y : ℕ) → nat_lt x y ≡ false → y ≤ x
      not_less x y e = grind arith

      both : (x y : Bool) → x && not y ≡ true → (x ≡ true) × (y ≡ false)
      both true true e = absurd (cc e)
      both true false e = (refl, refl)
      both false y e = absurd (cc e)

      few_is : few ≤ 8
      few_is = bound (nat_lt routine.parameters 8) refl
        where
          bound : (t : Bool) → nat_lt routine.parameters 8 ≡ t → cond t routine.parameters 8 ≤ 8
          bound true e = let lt = less _ _ e in omega (arith, lt)
          bound false e = omega arith

      no_direct : {X : Type 0} (x y : Bool) → y ≡ true → x || y ≡ false → X
      no_direct true y ey e = absurd (cc e)
      no_direct false y ey e = let z : true ≡ false = sym ey ∙ e in absurd (cc z)

      go : (h : Home) → home c q k ≡ h → is_clear few k h ≡ true → Left c words v.place (form.take c q k h ++ ps) next
          → SpilledOne k (length (form.take c q k h)) m v
      go (Slot j) is clear l =
          let lt = less k 8 clear in
          let at : g + slot_at c q j ≡ v.registers 14 + slot_at c q j = ap (λ x. x + slot_at c q j) (sym e14) in
          let st = store_run c words b.stood k 14 (slot_at c q j) ps next m v sh (omega (arith, lt)) (omega arith)
          (subst (IsWritable words c.size) at (framed.writable k j is)) l in
          let se = in_slot c words b.stood b.laid b.placed q g framed k j k (v.registers k)
          (machine_of v) v st.view is e14 (record {
            registers = λ z n12 n15. refl;
            words = λ x. refl;
          }) refl st.registers st.memory in
          record {
            view = st.view;
            way = way_of words c.size m same_tape st.view st.to;
            low = λ z zlt. st.registers z (let le = few_is in omega (arith, zlt, le));
            globals = se.globals;
            stack = se.stack;
            same = λ a side ne. se.words a side;
            aside = λ ge. absurd (omega (arith, ge, lt));
            stored = λ lt' un. no_direct (stands k (home c q k)) (is_clear few k (home c q k))
                (ap (is_clear few k) is ∙ clear) un;
            here = λ e. ap (value_of c q g (machine_of st.view)) is ∙ se.here;
            others = λ u live ne. se.others (home c q u)
                (λ e. b.placed.entered q k u routine is_routine count live ne (e ∙ sym is))
                (λ z e. b.placed.register q u z e);
            place = st.place;
          }
      go (Reg z) is clear l =
          let parts = both (nat_lt k 8) (nat_lt z few) clear in
          let lt = less k 8 parts.0 in
          let ge = not_less z few parts.1 in
          let i = word.Move z (instr_operand.Content k) in
          let t1 = step_to c words b.stood i m v sh l.stands.0 tt in
          let v1 = after i v in
          let se = in_register c words b.stood b.laid b.placed q g framed z (v.registers k) (machine_of v) v1
          (b.placed.register q k z is) (record {
            here = update_same v.registers z _;
            registers = λ x n12 n15 nd. update_other v.registers z _ x nd;
            words = λ x. refl;
          }) in
          record {
            view = v1;
            way = way_of words c.size m same_tape v1 t1;
            low = λ x xlt. update_other v.registers z _ x (omega (arith, xlt, ge));
            globals = se.globals;
            stack = se.stack;
            same = λ a side ne. refl;
            aside = λ ge' a. refl;
            stored = λ lt' un. no_direct (stands k (home c q k)) (is_clear few k (home c q k))
                (ap (is_clear few k) is ∙ clear) un;
            here = λ e. ap (value_of c q g (machine_of v1)) is ∙ se.here;
            others = λ u live ne. se.others (home c q u)
                (λ e. b.placed.entered q k u routine is_routine count live ne (e ∙ sym is))
                (λ z' e. b.placed.register q u z' e);
            place = refl;
          }

  spill_one_run : (offered : Offered) (k : ℕ) (ps : List Piece) (next : ℕ) (m : machine.State) (v : View)
      → Shows words c.size m v → Left c words v.place (spill_one c q few n k (home c q k) ++ ps) next
      → k < routine.parameters → v.registers 14 ≡ g → SpilledOne k (length (spill_one c q few n k (home c q k))) m v
  spill_one_run offered k ps next m v sh l count e14 = by_home (is_clear few k (home c q k)) refl l
    where
      less : (x y : ℕ) → nat_lt x y ≡ true → x < y
      less x y e = grind arith

      not_less : (x y : ℕ) → nat_lt x y ≡ false → y ≤ x
      not_less x y e = grind arith

      few_is : few ≤ 8
      few_is = bound (nat_lt routine.parameters 8) refl
        where
          bound : (t : Bool) → nat_lt routine.parameters 8 ≡ t → cond t routine.parameters 8 ≤ 8
          bound true e = let lt = less _ _ e in omega (arith, lt)
          bound false e = omega arith

      none : is_clear few k (home c q k) ≡ false → {X : Type 0} → is_clear few k (home c q k) ≡ true → X
      none e clear = let z : true ≡ false = sym clear ∙ e in absurd (cc z)

      direct_stands : (x y : Bool) → x ≡ true → x || y ≡ false → ⊥
      direct_stands true y ex e = cc e
      direct_stands false y ex e = cc ex

      stays : (len : ℕ) → len ≡ 0 → is_clear few k (home c q k) ≡ false
          → (k < 8 → is_direct few k (home c q k) ≡ false → v.words (o + 4 * k) ≡ v.registers k) → SpilledOne k len m v
      stays len zero_is unclear stored =
          record {
            view = v;
            way = way_here words c.size m v sh;
            low = λ z lt. refl;
            globals = refl;
            stack = refl;
            same = λ a side ne. refl;
            aside = λ ge a. refl;
            stored = stored;
            here = none unclear;
            others = λ u live ne. refl;
            place = omega (arith, zero_is);
          }

      go : (s t : Bool) → nat_lt k 8 ≡ s → stands k (home c q k) ≡ t → is_clear few k (home c q k) ≡ false
          → Left c words v.place (cond (s && not t) (store k 14 (n + 8 + 4 * k)) [] ++ ps) next → SpilledOne k
          (length (cond (s && not t) (store k 14 (n + 8 + 4 * k)) [])) m v
      go true false is own unclear l =
          let lt = less k 8 is in
          let aim : o + 4 * k ≡ v.registers 14 + (n + 8 + 4 * k) = omega (arith, e14, at) in
          let st = store_run c words b.stood k 14 (n + 8 + 4 * k) ps next m v sh (omega (arith, lt)) (omega arith)
          (subst (IsWritable words c.size) aim (offered.writable k count)) l in
          let mem : (a : ℕ) → a ≢ o + 4 * k → st.view.words a ≡ v.words a = λ a ne. let far : a ≢ v.registers 14
          + (n + 8 + 4 * k) = omega (arith, aim) in st.memory a ∙ update_other v.words _ _ a far in
          record {
            view = st.view;
            way = way_of words c.size m same_tape st.view st.to;
            low = λ z zlt. st.registers z (let le = few_is in omega (arith, zlt, le));
            globals = st.registers 13 (omega arith);
            stack = st.registers 14 (omega arith);
            same = λ a side ne. mem a ne;
            aside = λ ge. absurd (omega (arith, ge, lt));
            stored = λ lt' un. st.memory _ ∙ update_at v.words (v.registers 14 + (n + 8 + 4 * k)) (v.registers k)
                (o + 4 * k) aim;
            here = none unclear;
            others = λ u live ne. home_beside offered k st.view v count st.registers mem u;
            place = st.place;
          }
      go true true is own unclear l =
          stays 0 refl unclear (λ lt un. absurd (direct_stands (stands k (home c q k))
          (is_clear few k (home c q k)) own un))
      go false t is own unclear l =
          stays 0 refl unclear (λ lt un. let ge = not_less k 8 is in absurd (omega (arith, ge, lt)))

      by_home : (t : Bool) → is_clear few k (home c q k) ≡ t → Left c words v.place
          (cond t (form.take c q k (home c q k)) (cond (nat_lt k 8 && not (stands k (home c q k)))
          (store k 14 (n + 8 + 4 * k)) []) ++ ps) next → SpilledOne k
          (length (cond t (form.take c q k (home c q k))
          (cond (nat_lt k 8 && not (stands k (home c q k))) (store k 14 (n + 8 + 4 * k)) []))) m v
      by_home true clear l = take_run k ps next m v sh l count e14 clear
      by_home false unclear l = go (nat_lt k 8) (stands k (home c q k)) refl refl unclear l

  -- so did those from number k on
  pub record Spilled (k count : ℕ) (len : ℕ) (m : machine.State) (v : View) : Type 0 where
    pub view : View
    pub way : Way words c.size m same_tape view
    pub low : (z : ℕ) → z < few → view.registers z ≡ v.registers z
    pub globals : view.registers 13 ≡ v.registers 13
    pub stack : view.registers 14 ≡ v.registers 14
    pub same : (a : ℕ) → Aside_of a → ((j : ℕ) → k ≤ j → j < k + count → j < 8 → a ≢ o + 4 * j) → view.words a
        ≡ v.words a
    pub stored : (j : ℕ) → k ≤ j → j < k + count → j < 8 → is_direct few j (home c q j) ≡ false → view.words (o + 4 * j)
        ≡ v.registers j
    pub here : (u : ℕ) → k ≤ u → u < k + count → u < 8 → IsAlive c q 0 u → is_clear few u (home c q u) ≡ true
        → value_of c q g (machine_of view) (home c q u) ≡ v.registers u
    pub others : (u : ℕ) → IsAlive c q 0 u → u < k → value_of c q g (machine_of view) (home c q u) ≡ value_of c q g
        (machine_of v) (home c q u)
    pub place : view.place ≡ v.place + len

  pub spill_run : (offered : Offered) (k count : ℕ) (ps : List Piece) (next : ℕ) (m : machine.State) (v : View)
      → Shows words c.size m v → Left c words v.place (spill c q few n k count ++ ps) next → k
      + count ≤ routine.parameters → v.registers 14 ≡ g → Spilled k count (length (spill c q few n k count)) m v
  spill_run offered k zero ps next m v sh l count e14 =
      record {
        view = v;
        way = way_here words c.size m v sh;
        low = λ z lt. refl;
        globals = refl;
        stack = refl;
        same = λ a side far. refl;
        stored = λ j ge lt few own. absurd (omega (arith, ge, lt));
        here = λ u ge lt small live e. absurd (omega (arith, ge, lt));
        others = λ u live lt. refl;
        place = omega arith;
      }
  spill_run offered k (suc more) ps next m v sh l count e14 =
      let first = spill_one c q few n k (home c q k) in
      let rest = spill c q few n (suc k) more in
      let l0 = subst (λ z. Left c words v.place z next) (append_assoc first rest ps) l in
      let s1 = spill_one_run offered k (rest ++ ps) next m v sh l0 (omega (arith, count)) e14 in
      let v1 = s1.view in
      let l1 = left_after c words v.place v1.place next first (rest ++ ps) l0 s1.place in
      let tail = spill_run offered (suc k) more ps next s1.way.to v1 s1.way.shows l1 (omega (arith, count))
      (s1.stack ∙ e14) in
      record {
        view = tail.view;
        way = way_then words c.size m same_tape same_tape v1 tail.view s1.way tail.way;
        low = λ z lt. tail.low z lt ∙ s1.low z lt;
        globals = tail.globals ∙ s1.globals;
        stack = tail.stack ∙ s1.stack;
        same = λ a side far. tail.same a side (λ j ge lt small. far j (omega (arith, ge)) (omega (arith, lt)) small)
            ∙ by_size v1 s1.same s1.aside a side far (few_or_more k);
        stored = λ j ge lt small own. ⊎_elim (λ (here : j ≡ k). let small' : k < 8 = omega (arith, here, small)
            in let own' : is_direct few k (home c q k) ≡ false = subst
            (λ z. is_direct few z (home c q z) ≡ false) here own in ap (λ z. tail.view.words (o + 4 * z)) here
            ∙ tail.same (o + 4 * k) (offered.apart k (omega (arith, count))) (λ i ge' lt' small''. omega (arith, ge'))
            ∙ s1.stored small' own' ∙ ap v.registers (sym here))
            (λ (ne : j ≢ k). tail.stored j (omega arith) (omega (arith, lt)) small own ∙ s1.low j
            (low_is j (omega (arith, lt, count)) small)) (cases_eq j k);
        here = λ u ge lt small live e. ⊎_elim (λ (is : u ≡ k). let live' : IsAlive c q 0 k = subst
            (IsAlive c q 0) is live in let e' : is_clear few k (home c q k) ≡ true = subst
            (λ z. is_clear few z (home c q z) ≡ true) is e
            in ap (λ z. value_of c q g (machine_of tail.view) (home c q z)) is ∙ tail.others k live' (omega arith)
            ∙ s1.here e' ∙ ap v.registers (sym is))
            (λ (ne : u ≢ k). tail.here u (omega arith) (omega (arith, lt)) small live e ∙ s1.low u
            (low_is u (omega (arith, lt, count)) small)) (cases_eq u k);
        others = λ u live lt. tail.others u live (omega (arith, lt)) ∙ s1.others u live (omega (arith, lt));
        place = let z = length-append first rest in omega (arith, tail.place, s1.place, z);
      }
    where
      few_or_more : (x : ℕ) → (x < 8) ⊎ (8 ≤ x)
      few_or_more x = grind arith

      by_size : (v1 : View) → ((a : ℕ) → Aside_of a → a ≢ o + 4 * k → v1.words a ≡ v.words a)
          → (8 ≤ k → (a : ℕ) → v1.words a ≡ v.words a) → (a : ℕ) → Aside_of a
          → ((j : ℕ) → k ≤ j → j < k + suc more → j < 8 → a ≢ o + 4 * j) → (k < 8) ⊎ (8 ≤ k) → v1.words a ≡ v.words a
      by_size v1 same aside a side far (inl lt) = same a side (far k (omega arith) (omega arith) lt)
      by_size v1 same aside a side far (inr ge) = aside ge a
