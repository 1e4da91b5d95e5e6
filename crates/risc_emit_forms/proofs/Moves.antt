-- Values that are moved or made, and jumps.
use Rattle.std.proofs.Common.{◌≡◌, ℕ, suc, ◌+◌, ◌-◌, ◌*◌, ◌/◌, ◌%◌, ◌^◌, ◌<◌, ◌≤◌, List, [], ◌∷◌, length, Some, ℤ, pos}
use Rattle.std.proofs.Common.{refl, sym, ap, ◌∙◌, subst, arith, length-append}
use Rattle.std.proofs.lemmas.Int.{ints}
use Rattle.std.proofs.lemmas.Option.{slice_get_within}
use Rattle.risc_word.specs.declared.instr.Operation.TheVariants as op
use Rattle.risc_word.specs.declared.instr.Operand.TheVariants as instr
use Rattle.risc_word.specs.declared.instr.Condition.TheVariants as on
use Rattle.risc_word.specs.declared.instr.Instr.TheVariants as word
use Rattle.risc_machine.specs.Step as machine
use Rattle.risc_machine.specs.Step.{word_of_int}
use Rattle.risc_machine_laws.specs.View.{View, Shows, IsWritable, after, at_view}
use Rattle.risc_machine_laws.specs.Runs.{same_tape}
use Rattle.risc_machine_laws.proofs.Runs.{to_join}
use Rattle.tac_code.specs.declared.code.Block.TheVariants.{Constant}
use Rattle.tac_code.specs.declared.code.Value.{Value}
use Rattle.tac_code.specs.declared.code.Value.TheVariants.{Number, Address, Routine}
use Rattle.tac_code.specs.declared.code.Instruction.TheVariants.{Literal, Copy, Text, RoutineValue, Jump, JumpBack}
use Rattle.tac_code.specs.Meaning.{fetch, routines, State, giving}
use Rattle.risc_alloc.specs.declared.homes.Home.{Home}
use Rattle.risc_alloc.specs.declared.homes.Home.TheVariants.{Slot, Reg}
use Rattle.risc_image.specs.declared.header.TheConstants.{MAX_COUNT}
use Rattle.risc_emit_relation.specs.Context.{Context, home, slot_at, Places, IsValue}
use Rattle.risc_emit_relation.specs.Context as related
use Rattle.risc_emit_relation.specs.Changes.{Near, Settled}
use Rattle.risc_emit_relation.proofs.Basics.{update_same, update_other}
use Rattle.risc_emit_forms.specs.Pieces.{Label, AtPlace, AtEntry, AtText, label_place, Left}
use Rattle.risc_emit_forms.specs.Pieces as piece
use Rattle.risc_emit_forms.specs.Forms.{number, store, fetched, bring, target, save, copy, label_form}
use Rattle.risc_emit_forms.specs.Forms as form
use Rattle.risc_emit_forms.specs.Follows.{machine_of, Built, Straight, Belongs, Comes}
use Rattle.risc_emit_forms.proofs.Basics.{left_after, left_next, is_read, passes, writes_it, among_first, integer_is}
use Rattle.risc_emit_forms.proofs.Flags.{silent}
use Rattle.risc_emit_forms.proofs.Runs.{Moved, Aside, step_to, number_run, store_run}
use Rattle.risc_emit_forms.proofs.Results.{in_slot}
use Rattle.risc_emit_forms.proofs.Fetches.{fetched_not}
use Rattle.risc_emit_forms.proofs.Joins.{left_whole, fetched_is, come_to, come_way}
use Rattle.risc_emit_forms.proofs.Comes.{framed, goes_run, goes_end}
use Rattle.risc_emit_forms.proofs.Comes.{gives_end, settles_end}
use Rattle.risc_emit_forms.proofs.Operands.{code, one_run, brought_run}

module _ (c : Context) (words : List ℕ) (b : Built c words) (p : Places) (s : State) (f : ℕ) (m : machine.State)
    (v : View) (sh : Shows words c.size m v) (be : Belongs c words p s v f) where
  -- a register that took a word is all that changed
  pub moved_aside : (d n : ℕ) (w : View) → Moved d v w → w.registers d ≡ n → Aside d n (machine_of v) w
  moved_aside d n w k e = record { here = e; registers = λ q n12 n15 nd. k.registers q nd; words = k.words }

  pub literal_follows : (t : ℕ) (z : ℤ) → fetch c.code s.current.routine s.current.place ≡ Some (Literal t z)
      → Comes c words s (record s { current = giving t (Number z) s.current }) m
  literal_follows t z here =
      let r = s.current.routine in
      let h = home c r t in
      let l = code c words b p s f m v sh be (Literal t z) here in
      let so = fetched_is c words b r s.current.place (Literal t z) here in
      let is = integer_is z so.sound.1 in
      let g = number_run c words b.stood (target c r h) z (save c r h) _ m v sh is l in
      let l1 = left_after c words v.place g.view.place _ (number (target c r h) z) (save c r h) l g.place in
      let s' = record s { current = giving t (Number z) s.current } in
      come_to c words b s s' m same_tape g.view g.to refl
      (gives_end c words b p s (machine_of v) f t (Number z) g.to.to g.view be.related be.input
      (writes_it c r s.current.place (Literal t z) here t refl refl)
      (silent c r s.current.place (Literal t z) here refl) is g.to.shows
      (moved_aside (target c r h) (word_of_int z) g.view g.moved g.value) l1)

  -- ---- labels

  label_follows : (t : ℕ) (label : Label) (x : Value) → IsValue c p x
      → related.Writes c s.current.routine s.current.place t
      → ((w : View) → Straight c s.current.routine (suc s.current.place) w) → 4 * label_place c label < 2 ^ 32
      → related.word c p x ≡ 4 * label_place c label → Left c words v.place (label_form c s.current.routine t label)
      (c.site s.current.routine (suc s.current.place)) → Comes c words s (record s { current = giving t x s.current }) m
  label_follows t label x good w quiet low e l =
      let r = s.current.routine in
      let h = home c r t in
      let d = target c r h in
      let n = 4 * label_place c label in
      let i1 = word.MoveTop d (n / 65536) in
      let i2 = word.Operate op.Add d d (instr.Constant (pos (n % 65536))) in
      let t1 = step_to c words b.stood i1 m v sh l.stands.0 tt in
      let v1 = after i1 v in
      let t2 = step_to c words b.stood i2 t1.to v1 t1.shows l.stands.2.0 tt in
      let v2 = after i2 v1 in
      let top = update_same v.registers d (n / 65536 * 65536) in
      let is : v2.registers d ≡ n = update_same v1.registers d _
      ∙ ap (λ x. (x + word_of_int (pos (n % 65536)) + 0) % 2 ^ 32) top ∙ sum n low in
      let l2 = left_next c words (v.place + 1) _ _ (save c r h) (left_next c words v.place _ _ _ l) in
      let s' = record s { current = giving t x s.current } in
      let both = to_join words c.size m same_tape same_tape v1 v2 t1 t2 in
      come_to c words b s s' m same_tape v2 both refl
      (gives_end c words b p s (machine_of v) f t x both.to v2 be.related be.input w quiet good both.shows (record {
        here = is ∙ sym e;
        registers = λ q n12 n15 nd. update_other v1.registers d _ q nd ∙ update_other v.registers d _ q nd;
        words = λ a. refl;
      }) l2)
    where
      sum : (w : ℕ) → w < 2 ^ 32 → (w / 65536 * 65536 + word_of_int (pos (w % 65536)) + 0) % 2 ^ 32 ≡ w
      sum w lt = omega (arith, ints)

  pub text_follows : (t : ℕ) (bytes : List ℕ) → fetch c.code s.current.routine s.current.place ≡ Some (Text t bytes)
      → Comes c words s (record s {
        current = giving t
            (Address (Constant s.current.routine s.current.place) 0) s.current;
      }) m
  text_follows t bytes here =
      let r = s.current.routine in
      let k = s.current.place in
      let at = b.laid.constants r k in
      label_follows t (AtText r k) (Address (Constant r k) 0) (tt, omega arith)
      (writes_it c r k (Text t bytes) here t refl refl) (silent c r k (Text t bytes) here refl)
      (omega (arith, at, b.laid.order.1, b.laid.order.2, b.laid.order.3)) (omega arith)
      (code c words b p s f m v sh be (Text t bytes) here)

  pub routine_follows : (t q : ℕ) → fetch c.code s.current.routine s.current.place ≡ Some (RoutineValue t q)
      → Comes c words s (record s { current = giving t (Routine q) s.current }) m
  routine_follows t q here =
      let r = s.current.routine in
      let k = s.current.place in
      let so = fetched_is c words b r k (RoutineValue t q) here in
      let n = length-append c.code.program c.code.run_time in
      let is : q < length (routines c.code) = omega (arith, so.sound.1, n) in
      let at = b.stood.within_entry q is in
      label_follows t (AtEntry q) (Routine q) is (writes_it c r k (RoutineValue t q) here t refl refl)
      (silent c r k (RoutineValue t q) here refl) (omega (arith, at)) refl
      (code c words b p s f m v sh be (RoutineValue t q) here)

  -- ---- a temporary's value

  pub copy_follows : (t a : ℕ) (x : Value) → fetch c.code s.current.routine s.current.place ≡ Some (Copy t a)
      → s.current.temporaries a ≡ Some x → Comes c words s (record s { current = giving t x s.current }) m
  copy_follows t a x here e = go (home c s.current.routine t) refl (code c words b p s f m v sh be (Copy t a) here)
    where
      go : (h : Home) → home c s.current.routine t ≡ h → Left c words v.place
          (copy c s.current.routine h (home c s.current.routine a)) (c.site s.current.routine (suc s.current.place))
          → Comes c words s (record s { current = giving t x s.current }) m
      go (Reg q) is l =
          let r = s.current.routine in
          let k = s.current.place in
          let ra = is_read c r k (Copy t a) here a (among_first a []) in
          let lt = b.placed.register r t q is in
          let g = brought_run c words b p s f m v sh be q a x [] _ (omega arith) ra e
          (left_whole c words v.place _ (bring c r q (home c r a)) l) in
          let l1 = left_after c words v.place g.view.place _ (bring c r q (home c r a)) []
          (left_whole c words v.place _ (bring c r q (home c r a)) l) g.place in
          let s' = record s { current = giving t x s.current } in
          come_to c words b s s' m same_tape g.view g.to refl
          (gives_end c words b p s (machine_of v) f t x g.to.to g.view be.related be.input
          (writes_it c r k (Copy t a) here t refl refl) (silent c r k (Copy t a) here refl) g.good g.to.shows
          (subst (λ h. Aside (target c r h) (related.word c p x) (machine_of v) g.view) (sym is)
          (moved_aside q (related.word c p x) g.view g.moved g.value))
          (subst (λ h. Left c words g.view.place (save c r h) (c.site r (suc k))) (sym is) l1))
      go (Slot j) is l =
          let r = s.current.routine in
          let k = s.current.place in
          let ra = is_read c r k (Copy t a) here a (among_first a []) in
          let fr = framed c words b p s (machine_of v) f be.related in
          let d = fetched c r 12 (home c r a) in
          let g = one_run c words b p s f m v sh be 12 a x (store d 14 (slot_at c r j)) _ (omega arith) ra e l in
          let l1 = left_after c words v.place g.view.place _ (form.fetch c r 12 (home c r a))
          (store d 14 (slot_at c r j)) l g.place in
          let e14 : g.view.registers 14 ≡ f = g.moved.registers 14 (omega arith) ∙ be.related.stack in
          let near : Near (machine_of v) (machine_of g.view) = record {
            registers = λ q n12 n15. g.moved.registers q n12;
            words = g.moved.words;
          } in
          let at : f + slot_at c r j ≡ g.view.registers 14 + slot_at c r j = ap (λ x. x + slot_at c r j) (sym e14) in
          let n15 = fetched_not c words b.stood b.laid b.placed r f fr 12 a 15 (omega arith) (omega arith) in
          let l2 = left_whole c words g.view.place _ (store d 14 (slot_at c r j)) l1 in
          let st = store_run c words b.stood d 14 (slot_at c r j) [] _ g.way.to g.view g.way.shows n15 (omega arith)
          (subst (IsWritable words c.size) at (fr.writable t j is)) l2 in
          let settled = in_slot c words b.stood b.laid b.placed r f fr t j d (related.word c p x)
          (machine_of v) g.view st.view is be.related.stack near g.value st.registers st.memory in
          let s' = record s { current = giving t x s.current } in
          come_way c words b s s' m g.view g.way (come_to c words b s s' g.way.to same_tape st.view st.to refl
          (settles_end c words b p s (machine_of v) f t x st.to.to st.view be.related be.input
          (writes_it c r k (Copy t a) here t refl refl) (silent c r k (Copy t a) here refl) g.good st.to.shows
          (subst (λ h. Settled c r f h (related.word c p x) (machine_of v) (machine_of st.view)) (sym is) settled)
          (st.place ∙ sym l1.ends)))

  -- ---- jumps

  jump_follows : (k' : ℕ) → related.Passes c s.current.routine s.current.place k' → Left c words v.place
      (piece.Goes on.Always (AtPlace s.current.routine k') ∷ []) (c.site s.current.routine (suc s.current.place))
      → c.site s.current.routine k' ≤ MAX_COUNT → Comes c words s
      (record s { current = record s.current { place = k' } }) m
  jump_follows k' g l low =
      let r = s.current.routine in
      let t1 = goes_run c words b on.Always (AtPlace r k') [] _ m v sh l refl low in
      let v1 = at_view (c.site r k') v in
      come_to c words b s (record s { current = record s.current { place = k' } }) m same_tape v1 t1 refl
      (goes_end c words b p s (machine_of v) f k' t1.to v1 be.related be.input g t1.shows (record {
        registers = λ q n12 n15. refl;
        words = λ a. refl;
      }) refl)

  pub forward_follows : (n : ℕ) → fetch c.code s.current.routine s.current.place ≡ Some (Jump n) → Comes c words s
      (record s { current = record s.current { place = suc s.current.place + n } }) m
  forward_follows n here =
      let r = s.current.routine in
      let k = s.current.place in
      let so = fetched_is c words b r k (Jump n) here in
      jump_follows (suc k + n) (passes c r k (Jump n) here (suc k + n) refl (among_first (suc k + n) []))
      (code c words b p s f m v sh be (Jump n) here) (b.stood.within r (suc k + n) so.routine so.is so.sound)

  pub back_follows : (n : ℕ) → fetch c.code s.current.routine s.current.place ≡ Some (JumpBack n) → Comes c words s
      (record s { current = record s.current { place = s.current.place - n } }) m
  back_follows n here =
      let r = s.current.routine in
      let k = s.current.place in
      let so = fetched_is c words b r k (JumpBack n) here in
      let lt = slice_get_within so.routine.body k (JumpBack n) so.body in
      jump_follows (k - n) (passes c r k (JumpBack n) here (k - n) refl (among_first (k - n) []))
      (code c words b p s f m v sh be (JumpBack n) here)
      (b.stood.within r (k - n) so.routine so.is (omega (arith, lt)))
