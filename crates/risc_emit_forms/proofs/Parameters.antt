-- Parameters go to their homes, from the registers and from the frame of the caller.
use Rattle.std.proofs.Common.{◌≡◌, ◌≢◌, ℕ, zero, suc, ◌+◌, ◌*◌, ◌<◌, ◌≤◌, ◌⊎◌, inl, inr, ⊎_elim, Bool, true, false}
use Rattle.std.proofs.Common.{cond, ◌&&◌, ◌||◌, not, nat_eq, nat_lt, List, [], ◌++◌, length, Some, slice_get, refl, sym}
use Rattle.std.proofs.Common.{ap, ◌∙◌, subst, arith, length-append, append_assoc}
use Rattle.std.proofs.lemmas.Bool.{cases_eq, eqb-true}
use Rattle.risc_machine.specs.Step as machine
use Rattle.risc_machine_laws.specs.View.{View, Shows, IsReadable}
use Rattle.risc_machine_laws.specs.Runs.{To, Way, same_tape}
use Rattle.risc_machine_laws.proofs.Runs.{way_here, way_then}
use Rattle.tac_code.specs.declared.code.Value.{Value}
use Rattle.tac_code.specs.declared.code.TacRoutine.{TacRoutine}
use Rattle.tac_code.specs.Meaning.{routines}
use Rattle.risc_alloc.specs.declared.homes.Home.{Home}
use Rattle.risc_alloc.specs.declared.homes.Home.TheVariants.{Slot, Reg}
use Rattle.risc_emit_relation.specs.Context.{Context, home, IsAlive, Places}
use Rattle.risc_emit_relation.specs.Context as ctx
use Rattle.risc_emit_relation.specs.Related.{value_of}
use Rattle.risc_emit_forms.specs.Pieces.{Piece, Left}
use Rattle.risc_emit_forms.specs.Forms.{carried, stands, is_clear, is_direct, target, save, load, spill, parameter}
use Rattle.risc_emit_forms.specs.Forms.{parameters}
use Rattle.risc_emit_forms.specs.Forms as form
use Rattle.risc_emit_forms.specs.Follows.{machine_of, Built}
use Rattle.risc_emit_forms.proofs.Basics.{left_after}
use Rattle.risc_emit_forms.proofs.Runs.{Framed, load_run}
use Rattle.risc_emit_forms.proofs.Results.{save_run}
use Rattle.risc_emit_forms.proofs.Fetches.{target_not}
use Rattle.risc_emit_forms.proofs.Passing.{append_nil}
use Rattle.risc_emit_forms.proofs.Spills.{Offered, low_is, spill_run}

module _ (c : Context) (words : List ℕ) (b : Built c words) (p : Places) (q g n o : ℕ) (framed : Framed c words q g)
    (routine : TacRoutine) (is_routine : slice_get (routines c.code) q ≡ Some routine) (vs : List Value)
    (at : g + n + 8 ≡ o) where
  -- this many come in registers
  abbrev few : ℕ
  few = carried routine.parameters

  pub record Received (k : ℕ) (len : ℕ) (m : machine.State) (v : View) : Type 0 where
    pub view : View
    pub way : Way words c.size m same_tape view
    pub globals : view.registers 13 ≡ v.registers 13
    pub stack : view.registers 14 ≡ v.registers 14
    pub same : (a : ℕ) → (a < g + c.slots_at q) ⊎ (g + c.frame_at q ≤ a) → view.words a ≡ v.words a
    pub homes : (u : ℕ) (x : Value) → u < k → IsAlive c q 0 u → slice_get vs u ≡ Some x → value_of c q g
        (machine_of view) (home c q u) ≡ ctx.word c p x
    pub place : view.place ≡ v.place + len

  -- what comes in its home is there; the others are in the frame
  pub record Come (v : View) : Type 0 where
    pub own : (u : ℕ) (x : Value) → u < routine.parameters → is_direct few u (home c q u) ≡ true → IsAlive c q 0 u
        → slice_get vs u ≡ Some x → value_of c q g (machine_of v) (home c q u) ≡ ctx.word c p x
    pub stored : (j : ℕ) (x : Value) → j < routine.parameters → is_direct few j (home c q j) ≡ false → slice_get vs j
        ≡ Some x → v.words (o + 4 * j) ≡ ctx.word c p x

  -- parameter k went to its home
  record ReceivedOne (k len : ℕ) (m : machine.State) (v : View) : Type 0 where
    view : View
    way : Way words c.size m same_tape view
    globals : view.registers 13 ≡ v.registers 13
    stack : view.registers 14 ≡ v.registers 14
    same : (a : ℕ) → (a < g + c.slots_at q) ⊎ (g + c.frame_at q ≤ a) → view.words a ≡ v.words a
    here : (x : Value) → IsAlive c q 0 k → slice_get vs k ≡ Some x → value_of c q g (machine_of view) (home c q k)
        ≡ ctx.word c p x
    others : (u : ℕ) → IsAlive c q 0 u → u ≢ k → value_of c q g (machine_of view) (home c q u) ≡ value_of c q g
        (machine_of v) (home c q u)
    place : view.place ≡ v.place + len

  receive_one_run : (offered : Offered c words b p q g n o framed routine is_routine vs at) (k : ℕ) (ps : List Piece)
      (next : ℕ) (m : machine.State) (v : View)
      → Shows words c.size m v → Left c words v.place (parameter c q few n k (home c q k) ++ ps) next
      → k < routine.parameters → v.registers 14 ≡ g → Come v → ReceivedOne k
      (length (parameter c q few n k (home c q k))) m v
  receive_one_run offered k ps next m v sh l count e14 come = go (is_direct few k (home c q k)) refl l
    where
      step_way : {n : machine.State} {v2 v3 : View} (t : To words c.size n same_tape v2)
          → Way words c.size t.to same_tape v3 → Way words c.size n same_tape v3
      step_way t w =
          record {
            to = w.to;
            shows = w.shows;
            runs = λ k y. let z = w.runs k y in let x = t.runs z.0 y in (x.0, omega (arith, z.1, x.1), x.2 ∙ z.2);
          }

      go : (t : Bool) → is_direct few k (home c q k) ≡ t → Left c words v.place
          (cond t [] (load (target c q (home c q k)) 14 (n + 8 + 4 * k) ++ save c q (home c q k)) ++ ps) next
          → ReceivedOne k (length (cond t [] (load (target c q (home c q k)) 14 (n + 8 + 4 * k) ++ save c q
          (home c q k)))) m v
      go true own l =
          record {
            view = v;
            way = way_here words c.size m v sh;
            globals = refl;
            stack = refl;
            same = λ a side. refl;
            here = λ x live e. come.own k x count own live e;
            others = λ u live ne. refl;
            place = omega arith;
          }
      go false own l =
          let h = home c q k in
          let d = target c q h in
          let l0 = subst (λ z. Left c words v.place z next) (append_assoc (load d 14 (n + 8 + 4 * k)) (save c q h) ps) l
          in
          let aim : o + 4 * k ≡ v.registers 14 + (n + 8 + 4 * k) = omega (arith, e14, at) in
          let ok : IsReadable c.size (v.registers 14 + (n + 8 + 4 * k)) = subst (IsReadable c.size) aim
          (offered.readable k count) in
          let n14 = target_not c words b.stood b.laid b.placed q g framed k 14 (omega arith) in
          let g1 = load_run c words b.stood d 14 (n + 8 + 4 * k) (save c q h ++ ps) next m v sh (λ e. n14 (sym e)) ok l0
          in
          let v1 = g1.view in
          let l1 = left_after c words v.place v1.place next (load d 14 (n + 8 + 4 * k)) (save c q h ++ ps) l0 g1.place
          in
          let word = v.words (v.registers 14 + (n + 8 + 4 * k)) in
          let s2 = save_run c words b.stood b.laid b.placed q g framed k word ps next
          (machine_of v) g1.to.to v1 g1.to.shows e14 (record {
            here = g1.value;
            registers = λ z n12 n15 nd. g1.moved.registers z nd;
            words = g1.moved.words;
          }) l1 in
          record {
            view = s2.view;
            way = step_way g1.to s2.way;
            globals = s2.settled.globals;
            stack = s2.settled.stack;
            same = s2.settled.words;
            here = λ x live e. s2.settled.here ∙ ap v.words (sym aim) ∙ come.stored k x count own e;
            others = λ u live ne. s2.settled.others (home c q u)
                (b.placed.entered q k u routine is_routine count live ne) (λ z e. b.placed.register q u z e);
            place = let z = length-append (load d 14 (n + 8 + 4 * k)) (save c q h) in omega
                (arith, s2.place, g1.place, z);
          }

  pub receive_run : (offered : Offered c words b p q g n o framed routine is_routine vs at) (k count : ℕ)
      (ps : List Piece) (next : ℕ) (m : machine.State) (v : View)
      → Shows words c.size m v → Left c words v.place (parameters c q few n k count ++ ps) next → k
      + count ≤ routine.parameters → v.registers 14 ≡ g → Come v
      → ((u : ℕ) (x : Value) → u < k → IsAlive c q 0 u → slice_get vs u ≡ Some x → value_of c q g (machine_of v)
      (home c q u) ≡ ctx.word c p x) → Received (k + count) (length (parameters c q few n k count)) m v
  receive_run offered k zero ps next m v sh l count e14 come done =
      record {
        view = v;
        way = way_here words c.size m v sh;
        globals = refl;
        stack = refl;
        same = λ a side. refl;
        homes = λ u x lt live e. done u x (omega (arith, lt)) live e;
        place = omega arith;
      }
  receive_run offered k (suc more) ps next m v sh l count e14 come done =
      let first = parameter c q few n k (home c q k) in
      let rest = parameters c q few n (suc k) more in
      let l0 = subst (λ z. Left c words v.place z next) (append_assoc first rest ps) l in
      let o1 = receive_one_run offered k (rest ++ ps) next m v sh l0 (omega (arith, count)) e14 come in
      let v1 = o1.view in
      let l1 = left_after c words v.place v1.place next first (rest ++ ps) l0 o1.place in
      let come' : Come v1 = record {
        own = λ u x lt own live e. ⊎_elim (λ (same : u ≡ k). let live' : IsAlive c q 0 k = subst
            (IsAlive c q 0) same live in let e' : slice_get vs k ≡ Some x = subst (λ z. slice_get vs z ≡ Some x) same e
            in ap (λ z. value_of c q g (machine_of v1) (home c q z)) same ∙ o1.here x live' e')
            (λ (ne : u ≢ k). o1.others u live ne ∙ come.own u x lt own live e) (cases_eq u k);
        stored = λ j x lt own e. o1.same (o + 4 * j) (offered.apart j lt) ∙ come.stored j x lt own e;
      } in
      let done' : (u : ℕ) (x : Value) → u < suc k → IsAlive c q 0 u → slice_get vs u ≡ Some x → value_of c q g
      (machine_of v1) (home c q u) ≡ ctx.word c p x = λ u x lt live e. ⊎_elim
      (λ (same : u ≡ k). let live' : IsAlive c q 0 k = subst (IsAlive c q 0) same live in let e' : slice_get vs k
      ≡ Some x = subst (λ z. slice_get vs z ≡ Some x) same e
      in ap (λ z. value_of c q g (machine_of v1) (home c q z)) same ∙ o1.here x live' e')
      (λ (ne : u ≢ k). o1.others u live ne ∙ done u x (omega arith) live e) (cases_eq u k) in
      let tail = receive_run offered (suc k) more ps next o1.way.to v1 o1.way.shows l1 (omega (arith, count))
      (o1.stack ∙ e14) come' done' in
      record {
        view = tail.view;
        way = way_then words c.size m same_tape same_tape v1 tail.view o1.way tail.way;
        globals = tail.globals ∙ o1.globals;
        stack = tail.stack ∙ o1.stack;
        same = λ a side. tail.same a side ∙ o1.same a side;
        homes = λ u x lt live e. tail.homes u x (omega (arith, lt)) live e;
        place = let z = length-append first rest in omega (arith, tail.place, o1.place, z);
      }

  -- ---- both

  stands_is : (j : ℕ) (h : Home) → stands j h ≡ true → (h ≡ Reg j) × (j < 8)
  stands_is j (Slot k) e = absurd (cc e)
  stands_is j (Reg z) e = go (nat_eq z j) (nat_lt j 8) refl refl e
    where
      less : (x y : ℕ) → nat_lt x y ≡ true → x < y
      less x y e = grind arith

      go : (s t : Bool) → nat_eq z j ≡ s → nat_lt j 8 ≡ t → s && t ≡ true → (Reg z ≡ Reg j) × (j < 8)
      go true true es et e = (ap Reg (eqb-true z j es), less j 8 et)
      go true false es et e = absurd (cc e)
      go false t es et e = absurd (cc e)

  -- from the registers and the frame of the caller to their homes
  pub record Arrived (len : ℕ) (m : machine.State) (v : View) : Type 0 where
    pub view : View
    pub way : Way words c.size m same_tape view
    pub globals : view.registers 13 ≡ v.registers 13
    pub stack : view.registers 14 ≡ v.registers 14
    pub same : (a : ℕ) → (a < g + c.slots_at q) ⊎ (g + c.frame_at q ≤ a) → (a < o) ⊎ (o + 4 * routine.parameters ≤ a)
        → view.words a ≡ v.words a
    pub homes : (u : ℕ) (x : Value) → u < routine.parameters → IsAlive c q 0 u → slice_get vs u ≡ Some x
        → value_of c q g (machine_of view) (home c q u) ≡ ctx.word c p x
    pub place : view.place ≡ v.place + len

  direct_is : (x y : Bool) → x || y ≡ true → (x ≡ true) ⊎ (y ≡ true)
  direct_is true y e = inl refl
  direct_is false y e = inr e

  clear_small : (u : ℕ) (h : Home) → is_clear few u h ≡ true → u < 8
  clear_small u (Slot k) e = less u 8 e
    where
      less : (x y : ℕ) → nat_lt x y ≡ true → x < y
      less x y e = grind arith
  clear_small u (Reg z) e = first (nat_lt u 8) (nat_lt z few) refl e
    where
      less : (x y : ℕ) → nat_lt x y ≡ true → x < y
      less x y e = grind arith

      first : (x y : Bool) → nat_lt u 8 ≡ x → x && not y ≡ true → u < 8
      first true y ex e = less u 8 ex
      first false y ex e = absurd (cc e)

  pub arrive_run : (offered : Offered c words b p q g n o framed routine is_routine vs at) (next : ℕ)
      (m : machine.State) (v : View) → Shows words c.size m v
      → Left c words v.place (form.arrive c q n routine.parameters) next → v.registers 14 ≡ g
      → ((j : ℕ) (x : Value) → j < 8 → slice_get vs j ≡ Some x → v.registers j ≡ ctx.word c p x)
      → ((j : ℕ) (x : Value) → 8 ≤ j → slice_get vs j ≡ Some x → v.words (o + 4 * j) ≡ ctx.word c p x) → Arrived
      (length (form.arrive c q n routine.parameters)) m v
  arrive_run offered next m v sh l e14 low high =
      let first = spill c q few n 0 routine.parameters in
      let rest = parameters c q few n 0 routine.parameters in
      let s1 = spill_run c words b p q g n o framed routine is_routine vs at offered 0 routine.parameters rest next m
      v sh l (omega arith) e14 in
      let v1 = s1.view in
      let l1 = left_after c words v.place v1.place next first rest l s1.place in
      let come : Come v1 = record {
        own = λ u x lt own live e. ⊎_elim (λ (st : stands u (home c q u) ≡ true). let k = stands_is u (home c q u) st
            in ap (value_of c q g (machine_of v1)) k.0 ∙ s1.low u
            (low_is c words b p q g n o framed routine is_routine vs at u lt k.1) ∙ low u x k.1 e)
            (λ (cl : is_clear few u (home c q u) ≡ true). let small = clear_small u (home c q u) cl in s1.here u
            (omega arith) (omega (arith, lt)) small live cl ∙ low u x small e)
            (direct_is (stands u (home c q u)) (is_clear few u (home c q u)) own);
        stored = λ j x lt own e. ⊎_elim (λ (small : j < 8). s1.stored j (omega arith) (omega (arith, lt)) small own
            ∙ low j x small e) (λ (ge : 8 ≤ j). s1.same (o + 4 * j) (offered.apart j lt)
            (λ i a1 a2 small. omega (arith, small, ge)) ∙ high j x ge e) (few_or_more j);
      } in
      let r1 = receive_run offered 0 routine.parameters [] next s1.way.to v1 s1.way.shows
      (subst (λ z. Left c words v1.place z next) (sym (append_nil rest)) l1) (omega arith) (s1.stack ∙ e14) come
      (λ u x lt. absurd (omega (arith, lt))) in
      record {
        view = r1.view;
        way = way_then words c.size m same_tape same_tape v1 r1.view s1.way r1.way;
        globals = r1.globals ∙ s1.globals;
        stack = r1.stack ∙ s1.stack;
        same = λ a side far. r1.same a side ∙ s1.same a side (λ j ge lt small. beside a j lt far);
        homes = λ u x lt live e. r1.homes u x (omega (arith, lt)) live e;
        place = let z = length-append first rest in omega (arith, r1.place, s1.place, z);
      }
    where
      few_or_more : (x : ℕ) → (x < 8) ⊎ (8 ≤ x)
      few_or_more x = grind arith

      beside : (a j : ℕ) → j < 0 + routine.parameters → (a < o) ⊎ (o + 4 * routine.parameters ≤ a) → a ≢ o + 4 * j
      beside a j lt (inl side) = omega arith
      beside a j lt (inr side) = omega arith
