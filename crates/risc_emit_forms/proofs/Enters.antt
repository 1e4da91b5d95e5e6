-- The entry of a routine, up to its first instruction.
use Rattle.std.proofs.Common.{◌≡◌, ◌≢◌, ℕ, suc, ◌+◌, ◌-◌, ◌*◌, ◌%◌, ◌<◌, ◌≤◌, ◌⊎◌, inl, inr, ⊎_elim, Bool, true, false}
use Rattle.std.proofs.Common.{cond, ◌&&◌, nat_lt, List, [], ◌∷◌, length, Some, slice_get, pos, ◌-ℤ◌, refl, sym, ap}
use Rattle.std.proofs.Common.{◌∙◌, subst, arith}
use Rattle.std.proofs.lemmas.Int.{ints}
use Rattle.std.proofs.lemmas.Bool.{ltb-true, lt-ltb}
use Rattle.std.proofs.lemmas.Option.{slice_get_within}
use Rattle.behavior.specs.Endings.{Stack}
use Rattle.risc_word.specs.declared.instr.Operand.TheVariants.{Content}
use Rattle.risc_word.specs.declared.instr.Width.TheVariants.{Word}
use Rattle.risc_word.specs.declared.instr.Condition.{Condition}
use Rattle.risc_word.specs.declared.instr.Condition.TheVariants as on
use Rattle.risc_word.specs.declared.instr.Instr.TheVariants as word
use Rattle.risc_machine.specs.Step as machine
use Rattle.risc_machine.specs.Step.{word_of_int}
use Rattle.risc_machine.specs.declared.limits.TheConstants.{ADDRESSES}
use Rattle.risc_machine_laws.specs.View.{View, Shows, IsWritable, after, at_view, holds_view}
use Rattle.risc_machine_laws.specs.Runs.{same_tape}
use Rattle.risc_machine_laws.proofs.Runs.{to_join}
use Rattle.tac_code.specs.declared.code.Value.{Value}
use Rattle.tac_code.specs.declared.code.TacRoutine.{TacRoutine}
use Rattle.tac_code.specs.Meaning.{State, Goes, Over, onward, entered, is_full, routines}
use Rattle.risc_emit_relation.specs.Context.{Context, leads, writes, called, is_program, Places, IsValue}
use Rattle.risc_emit_relation.specs.Context as ctx
use Rattle.risc_emit_relation.specs.Related.{Machine, Related, owner_of}
use Rattle.risc_emit_relation.specs.Changes.{entered_places, Entering}
use Rattle.risc_emit_relation.proofs.Basics.{update_same, update_other}
use Rattle.risc_emit_relation.proofs.Frames.{program_room, leaf_room, cost_program, open_room, open_bottom}
use Rattle.risc_emit_relation.proofs.Calls.{related_enters}
use Rattle.risc_emit_relation.proofs.Walk.{stack_exact}
use Rattle.risc_emit_forms.specs.Pieces.{Piece, Plain, Fails, Left}
use Rattle.risc_emit_forms.specs.Forms as form
use Rattle.risc_emit_forms.specs.Forms.{enter_form, join_form, is_entered, entry_form}
use Rattle.risc_emit_forms.specs.Follows.{machine_of, Built, Belongs, Comes, Stops, Follows}
use Rattle.risc_emit_forms.proofs.Basics.{left_next, left_at}
use Rattle.risc_emit_forms.proofs.Flags.{entered_silent}
use Rattle.risc_emit_forms.proofs.Runs.{step_to}
use Rattle.risc_emit_forms.proofs.Joins.{Arrives, come_to, arrive_to, arrive_way, arrive_here, stop_to}
use Rattle.risc_emit_forms.proofs.Comes.{walk_near}
use Rattle.risc_emit_forms.proofs.Comes.{fails_walked, fails_not}
use Rattle.risc_emit_forms.proofs.Passing.{related_passed}
use Rattle.risc_emit_forms.proofs.Spills.{Offered}
use Rattle.risc_emit_forms.proofs.Parameters.{arrive_run}
use Rattle.risc_emit_forms.proofs.Returns.{framed_at}
use Rattle.risc_emit_forms.proofs.StackTests.{Tested, test_run}

-- ---- entries

-- The machine before the entry of a routine: the operands in registers and in the caller's frame at f, the link in R15.
pub record Calling (c : Context) (p : Places) (s : State) (f q t line l : ℕ) (routine : TacRoutine) (vs : List Value)
    (v w : View) : Type 0 where
  pub caller : is_program c s.current.routine ≡ true
  pub is : slice_get (routines c.code) q ≡ Some routine
  pub count : length vs ≡ routine.parameters
  pub few : routine.parameters ≤ 65
  pub leads : leads c s.current.routine s.current.place (suc s.current.place) ≡ true
  pub only : (u : ℕ) → u ≢ t → writes c s.current.routine s.current.place u ≡ false
  pub call : called c s.current.routine (suc s.current.place) t ≡ true
  pub resume : l ≡ 4 * c.resume s.current.routine (suc s.current.place) t
  pub row : is_program c q ≡ true → c.line l ≡ Some line
  pub link : w.registers 15 ≡ l
  pub stack : w.registers 14 ≡ v.registers 14
  pub globals : w.registers 13 ≡ v.registers 13
  pub same : (a : ℕ) → (a < f + 8) ⊎ (f + 268 ≤ a) → w.words a ≡ v.words a
  pub good : (j : ℕ) (x : Value) → slice_get vs j ≡ Some x → IsValue c p x
  pub carried : (j : ℕ) (x : Value) → j < 8 → slice_get vs j ≡ Some x → w.registers j ≡ ctx.word c p x
  pub stored : (j : ℕ) (x : Value) → 8 ≤ j → slice_get vs j ≡ Some x → w.words (f + 8 + 4 * j) ≡ ctx.word c p x
  pub place : w.place ≡ c.entry q

module _ (c : Context) (words : List ℕ) (b : Built c words) (p : Places) (S H : ℕ) (budget : S + c.base ≡ c.size)
    (s : State) (f : ℕ) (m : machine.State) (v : View) (sh : Shows words c.size m v) (be : Belongs c words p s v f)
    (q t line l : ℕ) (routine : TacRoutine) (vs : List Value) (n : machine.State) (w : View)
    (shows : Shows words c.size n w) (k : Calling c p s f q t line l routine vs v w) where
  entry_left : Left c words w.place (entry_form c q routine) (c.site q 0)
  entry_left = left_at c words (c.entry q) w.place _ (entry_form c q routine) (b.stood.entry q routine k.is) k.place

  -- the caller's machine with the operands in its frame
  abbrev offering : Machine
  offering = record { registers = v.registers; words = w.words }

  passed : Related c p s offering f
  passed = related_passed c words b p s (machine_of v) offering f be.related k.caller (λ z n12 n15. refl) k.same

  frame_is_passed : w.registers 14 ≡ f
  frame_is_passed = k.stack ∙ be.related.stack

  -- the operands are in bytes 8 to 268 of the caller's frame
  beside_operands : (a : ℕ) → (a < f + 8) ⊎ (f + 268 ≤ a) → (a < f + 8) ⊎ (f + 8 + 4 * routine.parameters ≤ a)
  beside_operands a (inl lt) = inl lt
  beside_operands a (inr ge) = inr (omega (arith, k.few))

  top : f + c.used s.current.routine ≤ c.size
  top = open_room c b.laid p v.words f (owner_of s.current) s.callers s.memory.frames s.memory.scratch
      be.related.held.frames

  -- the callee's state
  abbrev inside : State
  inside =
      entered c.code c.costs c.sizes S H routine q vs t line (onward s.current ∷ s.callers) s

  -- no room for the frame
  stopped : (ps : List Piece) (condition : Condition) (n' : machine.State) (w' : View) → Shows words c.size n' w'
      → w'.registers 14 ≡ w.registers 14 → ((a : ℕ) → w'.words a ≡ w.words a) → Left c words w'.place
      (Fails condition 12 routine.line ∷ ps) (c.site q 0) → holds_view w' condition ≡ true → Stops c words s n'
      (Stack routine.line)
  stopped ps condition n' w' sh' e14 same l' h =
      fails_walked c words b s condition 12 routine.line ps _ n' w'
      (walk_near c words b p s offering f w' passed (e14 ∙ k.stack) same) sh' l' h

  -- the frame made and the parameters received
  made : (g : ℕ) → is_program c q ≡ true → g + c.costs q ≡ f → c.base ≤ g → (n' : machine.State) (w' : View)
      → Shows words c.size n' w' → w'.registers 12 ≡ g → ((z : ℕ) → z ≢ 11 → z ≢ 12 → w'.registers z ≡ w.registers z)
      → ((a : ℕ) → w'.words a ≡ w.words a) → Left c words w'.place
      (Plain (word.Store Word 15 12 (pos 0)) ∷ Plain (word.Store Word 14 12 (pos 4)) ∷ Plain (word.Move 14 (Content 12))
      ∷ form.arrive c q (c.costs q) routine.parameters) (c.site q 0) → Arrives c words inside n'
  made g prog below low n' w' sh' e12 regs mem l' =
      let pr = b.laid.program q prog in
      let cq = cost_program c q prog in
      let kr = program_room c b.laid p s.current.routine k.caller in
      let whole = b.laid.whole q in
      let al : g % 4 ≡ 0 = omega (arith, be.related.held.aligned, below, whole) in
      let q0 = b.laid.slots_before q in
      let q1 = b.laid.frame_before q in
      let q2 = b.laid.scratch_before q in
      let i5 = word.Store Word 15 12 (pos 0) in
      let w5 : IsWritable words c.size (w'.registers 12 + 0) = record {
        aligned = omega (arith, e12, al);
        low = omega (arith, e12, low, b.stood.code, b.laid.order.1);
        high = omega (arith, e12, below, top, pr.1, pr.2, q0, q1, q2);
      } in
      let t5 = step_to c words b.stood i5 n' w' sh' l'.stands.0 (tt, w5) in
      let v5 = after i5 w' in
      let i6 = word.Store Word 14 12 (pos 4) in
      let w6 : IsWritable words c.size (v5.registers 12 + 4) = record {
        aligned = omega (arith, e12, al);
        low = omega (arith, e12, low, b.stood.code, b.laid.order.1);
        high = omega (arith, e12, below, top, pr.1, pr.2, q0, q1, q2);
      } in
      let t6 = step_to c words b.stood i6 t5.to v5 t5.shows l'.stands.2.0 (tt, w6) in
      let v6 = after i6 v5 in
      let i7 = word.Move 14 (Content 12) in
      let t7 = step_to c words b.stood i7 t6.to v6 t6.shows l'.stands.2.2.0 tt in
      let v7 = after i7 v6 in
      let l7 = left_next c words v6.place _ _ _ (left_next c words v5.place _ _ _ (left_next c words w'.place _ _ _ l'))
      in
      let other : (a : ℕ) → a ≢ g → a ≢ g + 4 → v7.words a ≡ w.words a = λ a n0 n4. let m0 : a ≢ w'.registers 12
      + 0 = omega (arith, e12) in let m4 : a ≢ v5.registers 12 + 4 = omega (arith, e12) in update_other v5.words
      (v5.registers 12 + 4) (v5.registers 14) a m4 ∙ update_other w'.words (w'.registers 12 + 0)
      (w'.registers 15) a m0 ∙ mem a in
      let fr = framed_at c words b q g al low (omega (arith, below, top, pr.2)) in
      let begins : g + c.costs q + 8 ≡ f + 8 = omega (arith, below) in
      let offered : Offered c words b p q g (c.costs q) (f + 8) fr routine k.is vs begins = record {
        readable = λ j lt. record {
          aligned = omega (arith, be.related.held.aligned);
          high = omega (arith, lt, k.few, top, kr.0, kr.1, kr.2, kr.3);
        };
        writable = λ j lt. record {
          aligned = omega (arith, be.related.held.aligned);
          low = omega (arith, b.stood.code, b.laid.order.1, be.related.held.low);
          high = omega (arith, lt, k.few, top, kr.0, kr.1, kr.2, kr.3);
        };
        apart = λ j lt. inr (omega (arith, below, pr.2, q1, q2));
      } in
      let e14 : v7.registers 14 ≡ g = e12 in
      let rc = arrive_run c words b p q g (c.costs q)
      (f + 8) fr routine k.is vs begins offered _ t7.to v7 t7.shows l7 e14
      (λ j x few e. update_other v6.registers 14 _ j (omega (arith, few)) ∙ regs j (omega (arith, few))
      (omega (arith, few)) ∙ k.carried j x few e)
      (λ j x ge e. let n0 : f + 8 + 4 * j ≢ g = omega (arith, below) in let n4 : f + 8 + 4 * j ≢ g + 4 = omega
      (arith, below, pr.1, pr.2, q0, q1, q2) in other (f + 8 + 4 * j) n0 n4 ∙ k.stored j x ge e) in
      let at_g : v7.words g ≡ l = let far : g ≢ v5.registers 12 + 4 = omega (arith, e12) in update_other v5.words
      (v5.registers 12 + 4) (v5.registers 14) g far ∙ ap v5.words (plus_zero g (w'.registers 12) (sym e12))
      ∙ update_same w'.words (w'.registers 12 + 0) (w'.registers 15) ∙ regs 15 (omega arith) (omega arith) ∙ k.link
      in
      let at_g4 : v7.words (g + 4) ≡ f = ap v7.words (ap (λ z. z + 4) (sym e12)) ∙ update_same v5.words
      (v5.registers 12 + 4) (v5.registers 14) ∙ regs 14 (omega arith) (omega arith) ∙ frame_is_passed in
      let s0 : g < g + c.slots_at q = omega (arith, pr.1) in
      let entering : Entering c p s (machine_of v) (machine_of rc.view) f g q t line l routine vs = record {
        caller = k.caller;
        is = k.is;
        below = omega (arith, below, cq);
        room = low;
        leads = k.leads;
        only = k.only;
        call = k.call;
        resume = k.resume;
        row = k.row;
        link = ap rc.view.words (link_here g (c.link_at q) pr.0) ∙ rc.same g (inl s0) (inl (omega (arith, below)))
            ∙ at_g;
        back = λ e. rc.same (g + 4) (inl (omega (arith, pr.1))) (inl (omega (arith, below))) ∙ at_g4;
        same = λ a le side. let n0 : a ≢ g = omega (arith, below, pr.1, pr.2, q0, q1, q2) in let n4 : a ≢ g + 4 = omega
            (arith, below, pr.1, pr.2, q0, q1, q2) in rc.same a (inr (omega (arith, below, pr.2, q1, q2)))
            (beside_operands a side) ∙ other a n0 n4 ∙ k.same a side;
        heap = λ a le. let n0 : a ≢ g = omega (arith, low) in let n4 : a ≢ g + 4 = omega (arith, low) in rc.same a
            (inl (omega (arith, low))) (inl (omega (arith, low, below))) ∙ other a n0 n4 ∙ k.same a
            (inl (omega (arith, low, below)));
        stack = rc.stack ∙ e14;
        globals = rc.globals ∙ regs 13 (omega arith) (omega arith) ∙ k.globals;
        homes = λ j x live e. let lt = slice_get_within vs j x e
            in (k.good j x e, rc.homes j x (omega (arith, lt, k.count)) live e);
      } in
      let p' = entered_places c p s.count g q in
      let rel = related_enters c b.laid b.placed p c.sizes S H s (machine_of v)
      (machine_of rc.view) f g q t line l routine vs be.related entering in
      arrive_to c words b inside n' v5 t5 (arrive_to c words b inside t5.to v6 t6
      (arrive_to c words b inside t6.to v7 t7
      (arrive_way c words b inside t7.to rc.view rc.way
      (arrive_here c words b p' inside rc.way.to rc.view g rc.way.shows (record {
        related = rel;
        place = rc.place ∙ sym l7.ends;
        input = be.input;
        flags = entered_silent c q rc.view;
      })))))
    where
      plus_zero : (g z : ℕ) → g ≡ z → g ≡ z + 0
      plus_zero g z e = omega (arith, e)

      link_here : (g z : ℕ) → z ≡ 0 → g + z ≡ g
      link_here g z e = omega (arith, e)

  -- ---- a routine of the program

  pub enters_program : is_program c q ≡ true → (full : Bool) → is_full c.code c.costs c.sizes S H q
      (onward s.current ∷ s.callers) ≡ full → Follows c words (cond full (Over (Stack routine.line)) (Goes inside)) s n
  enters_program prog full ef = go (is_entered c q routine) refl (by_kind prog entry_left)
    where
      exact : is_full c.code c.costs c.sizes S H q (onward s.current ∷ s.callers) ≡ nat_lt f (c.base + c.costs q)
      exact = stack_exact c b.laid p c.sizes S H s v.words f q budget be.related.held prog

      by_kind : is_program c q ≡ true → Left c words w.place (entry_form c q routine) (c.site q 0)
          → Left c words w.place (cond (is_entered c q routine) (enter_form c q routine)
          (Fails on.Always 12 routine.line ∷ [])) (c.site q 0)
      by_kind e l' = subst (λ t. Left c words w.place
          (cond t (cond (is_entered c q routine) (enter_form c q routine) (Fails on.Always 12 routine.line ∷ []))
          (join_form c q routine)) (c.site q 0)) e l'

      both : (x y : Bool) → x && y ≡ true → (x ≡ true) × (y ≡ true)
      both true y e = (refl, e)
      both false y e = absurd (cc e)

      few_is : nat_lt routine.parameters 66 ≡ true
      few_is = lt-ltb _ _ (let h = k.few in omega (arith, h))

      large : is_entered c q routine ≡ false → 16777153 ≤ c.costs q
      large e = go (nat_lt (c.costs q) 16777153) refl (nat_lt routine.parameters 66) few_is e
        where
          no : (x y : ℕ) → nat_lt x y ≡ false → y ≤ x
          no x y e = grind arith

          go : (x : Bool) → nat_lt (c.costs q) 16777153 ≡ x → (y : Bool) → y ≡ true → x && y ≡ false
              → 16777153 ≤ c.costs q
          go true ex y ey e = absurd (cc (sym ey ∙ e))
          go false ex y ey e = no _ _ ex

      low_frame : f < ADDRESSES
      low_frame = let kr = program_room c b.laid p s.current.routine k.caller in let t = top in omega
          (arith, t, b.laid.order.3)

      tested : is_entered c q routine ≡ true → Left c words w.place (enter_form c q routine) (c.site q 0) → (x : Bool)
          → nat_lt f (c.base + c.costs q) ≡ x → Follows c words (cond x (Over (Stack routine.line)) (Goes inside)) s n
      tested entered l' x ex =
          let hs = both _ _ entered in
          let lt = ltb-true (c.costs q) 16777153 hs.0 in
          let under : f ≤ c.bottom = ⊎_elim (λ e. omega (arith, e.0)) (λ le. omega arith)
          (open_bottom c b.laid p v.words f (owner_of s.current) s.callers s.memory.frames s.memory.scratch
          be.related.held.frames) in
          let z = test_run c words b (c.costs q) f
          (Fails on.Less 12 routine.line ∷ Plain (word.Store Word 15 12 (pos 0)) ∷ Plain
          (word.Store Word 14 12 (pos 4)) ∷ Plain (word.Move 14 (Content 12)) ∷ form.arrive c q
          (c.costs q) routine.parameters) _ n w shows frame_is_passed
          (k.globals ∙ be.related.globals) passed.held.limit low_frame (omega (arith, lt)) l' in
          ends x ex z
        where
          ends : (x : Bool) → nat_lt f (c.base + c.costs q) ≡ x → Tested c words b (c.costs q) f
              (Fails on.Less 12 routine.line ∷ Plain (word.Store Word 15 12 (pos 0)) ∷ Plain
              (word.Store Word 14 12 (pos 4)) ∷ Plain (word.Move 14 (Content 12)) ∷ form.arrive c q
              (c.costs q) routine.parameters) (c.site q 0) n w → Follows c words
              (cond x (Over (Stack routine.line)) (Goes inside)) s n
          ends true ex z =
              inr (stop_to c words b s n (Stack routine.line) z.view z.to
              (stopped _ on.Less z.to.to z.view z.to.shows
              (z.registers 14 (omega arith) (omega arith)) z.memory z.left (z.less ∙ ex)))
          ends false ex z =
              let t2 = fails_not c words b on.Less 12 routine.line _ _ z.to.to z.view z.to.shows z.left (z.less ∙ ex) in
              let v2 = at_view (z.view.place + 1) z.view in
              let le = not_below f (c.base + c.costs q) ex in
              let l2 = left_next c words z.view.place _ _ _ z.left in
              let both = to_join words c.size n same_tape same_tape z.view v2 z.to t2 in
              come_to c words b s inside n same_tape v2 both refl
              (made (f - c.costs q) prog (omega (arith, le)) (omega (arith, le)) both.to v2 both.shows
              (z.frame ∙ frame_is f (c.costs q) (omega (arith, le)) low_frame) z.registers z.memory l2)
            where
              not_below : (x y : ℕ) → nat_lt x y ≡ false → y ≤ x
              not_below x y e = grind arith

              frame_is : (x y : ℕ) → y ≤ x → x < ADDRESSES → word_of_int (pos x -ℤ pos y) ≡ x - y
              frame_is x y le lt = omega (arith, ints, le, lt)

      refused : 16777153 ≤ c.costs q → nat_lt f (c.base + c.costs q) ≡ true
      refused le = let kr = program_room c b.laid p s.current.routine k.caller in let t = top in lt-ltb _ _
          (omega (arith, le, t, b.laid.order.3))

      go : (t : Bool) → is_entered c q routine ≡ t → Left c words w.place
          (cond t (enter_form c q routine) (Fails on.Always 12 routine.line ∷ [])) (c.site q 0) → Follows c words
          (cond full (Over (Stack routine.line)) (Goes inside)) s n
      go true e l' = tested e l' full (sym exact ∙ ef)
      go false e l' = full_here full (sym (refused (large e)) ∙ sym exact ∙ ef)
        where
          full_here : (x : Bool) → true ≡ x → Follows c words (cond x (Over (Stack routine.line)) (Goes inside)) s n
          full_here true e' = inr (stopped [] on.Always n w shows refl (λ a. refl) l' refl)
          full_here false e' = absurd (cc e')

  -- ---- a run-time routine

  pub enters_leaf : is_program c q ≡ false → Comes c words s inside n
  enters_leaf leaf =
      let i1 = word.Store Word 15 14 (pos (c.link_at q)) in
      let l' = by_kind leaf entry_left in
      let kq = leaf_room c b.laid p q leaf in
      let kr = program_room c b.laid p s.current.routine k.caller in
      let ar = b.laid.aligned q in
      let e14 = frame_is_passed in
      let top' = top in
      let ok : IsWritable words c.size (w.registers 14 + c.link_at q) = record {
        aligned = omega (arith, e14, ar.0, be.related.held.aligned);
        low = omega (arith, e14, b.stood.code, b.laid.order.1, be.related.held.low);
        high = omega (arith, e14, kq.1, kq.2, kq.3, kq.4, kq.5, kr.0, kr.1, kr.2, kr.3, top');
      } in
      let t1 = step_to c words b.stood i1 n w shows l'.stands.0 (tt, ok) in
      let v1 = after i1 w in
      let l1 = left_next c words w.place _ _ _ l' in
      let low = be.related.held.low in
      let fr = framed_at c words b q f be.related.held.aligned low (omega (arith, kq.5, kr.0, kr.1, kr.2, kr.3, top'))
      in
      let before = b.stood.parameters q routine leaf k.is in
      let begins : f + 0 + 8 ≡ f + 8 = omega arith in
      let offered : Offered c words b p q f 0 (f + 8) fr routine k.is vs begins = record {
        readable = λ j lt. record {
          aligned = omega (arith, be.related.held.aligned);
          high = omega (arith, lt, before, kq.1, kq.2, kq.3, kq.4, kq.5, kr.0, kr.1, kr.2, kr.3, top');
        };
        writable = λ j lt. record {
          aligned = omega (arith, be.related.held.aligned);
          low = omega (arith, b.stood.code, b.laid.order.1, low);
          high = omega (arith, lt, before, kq.1, kq.2, kq.3, kq.4, kq.5, kr.0, kr.1, kr.2, kr.3, top');
        };
        apart = λ j lt. inl (omega (arith, lt, before, kq.1));
      } in
      let other : (a : ℕ) → a ≢ f + c.link_at q → v1.words a ≡ w.words a = λ a ne. let ne' : a ≢ w.registers 14
      + c.link_at q = omega (arith, e14, ne) in update_other w.words _ _ a ne' in
      let rc = arrive_run c words b p q f 0 (f + 8) fr routine k.is vs begins offered _ t1.to v1 t1.shows l1 e14
      (λ j x few e. k.carried j x few e) (λ j x ge e. let lt = slice_get_within vs j x e in let ne : f + 8 + 4 * j ≢ f
      + c.link_at q = omega (arith, lt, k.count, before) in other (f + 8 + 4 * j) ne ∙ k.stored j x ge e) in
      let at_link : v1.words (f + c.link_at q) ≡ l = ap (λ z. v1.words (z + c.link_at q)) (sym e14)
      ∙ update_same w.words _ _ ∙ k.link in
      let entering : Entering c p s (machine_of v) (machine_of rc.view) f f q t line l routine vs = record {
        caller = k.caller;
        is = k.is;
        below = omega (arith, kq.6);
        room = low;
        leads = k.leads;
        only = k.only;
        call = k.call;
        resume = k.resume;
        row = k.row;
        link = rc.same (f + c.link_at q) (inl (omega (arith, kq.1))) (inr (omega (arith, before))) ∙ at_link;
        back = λ e. absurd (cc (sym e ∙ leaf));
        same = λ a le side. outside rc.same other kq.0 kq.1 kq.2 kq.3 kq.4 kq.5 a le side ∙ k.same a side;
        heap = λ a le. let ne : a ≢ f + c.link_at q = omega (arith, le, low) in rc.same a (inl (omega (arith, le, low)))
            (inl (omega (arith, le, low))) ∙ other a ne ∙ k.same a (inl (omega (arith, le, low)));
        stack = rc.stack ∙ e14;
        globals = rc.globals ∙ k.globals;
        homes = λ j x live e. let lt = slice_get_within vs j x e
            in (k.good j x e, rc.homes j x (omega (arith, lt, k.count)) live e);
      } in
      let p' = entered_places c p s.count f q in
      let rel = related_enters c b.laid b.placed p c.sizes S H s (machine_of v)
      (machine_of rc.view) f f q t line l routine vs be.related entering in
      come_to c words b s inside n same_tape v1 t1 refl
      (arrive_way c words b inside t1.to rc.view rc.way
      (arrive_here c words b p' inside rc.way.to rc.view f rc.way.shows (record {
        related = rel;
        place = rc.place ∙ sym l1.ends;
        input = be.input;
        flags = entered_silent c q rc.view;
      })))
    where
      by_kind : is_program c q ≡ false → Left c words w.place (entry_form c q routine) (c.site q 0)
          → Left c words w.place (join_form c q routine) (c.site q 0)
      by_kind e l' = subst (λ t. Left c words w.place
          (cond t (cond (is_entered c q routine) (enter_form c q routine) (Fails on.Always 12 routine.line ∷ []))
          (join_form c q routine)) (c.site q 0)) e l'

      outside : {w1 w2 : ℕ → ℕ} → ((a : ℕ) → (a < f + c.slots_at q) ⊎ (f + c.frame_at q ≤ a) → (a < f + 8)
          ⊎ (f + 8 + 4 * routine.parameters ≤ a) → w2 a ≡ w1 a) → ((a : ℕ) → a ≢ f + c.link_at q → w1 a ≡ w.words a)
          → 8 ≤ c.link_at q → c.link_at q + 4 ≤ c.slots_at q → c.slots_at q ≤ c.frame_at q
          → c.frame_at q ≤ c.scratch_at q → c.scratch_at q ≤ c.used q → c.used q ≤ 268 → (a : ℕ) → f ≤ a → (a < f + 8)
          ⊎ (f + 268 ≤ a) → w2 a ≡ w.words a
      outside s1 s2 k0 k1 k2 k3 k4 k5 a le (inl lt) = let ne : a ≢ f + c.link_at q = omega arith in s1 a
          (inl (omega arith)) (beside_operands a (inl lt)) ∙ s2 a ne
      outside s1 s2 k0 k1 k2 k3 k4 k5 a le (inr ge) = let ne : a ≢ f + c.link_at q = omega arith in s1 a
          (inr (omega arith)) (beside_operands a (inr ge)) ∙ s2 a ne
