-- Calls followed by their words, up to the callee's first instruction.
use Rattle.std.proofs.Common.{◌≡◌, ◌≢◌, ℕ, zero, suc, ◌+◌, ◌*◌, ◌/◌, ◌%◌, ◌<◌, ◌≤◌, ◌⊎◌, inl, inr, Bool, true, false}
use Rattle.std.proofs.Common.{cond, if◌then◌else◌, not, ◌||◌, nat_eq, nat_lt, List, [], ◌∷◌, ◌++◌, length, Option}
use Rattle.std.proofs.Common.{Some, None, slice_get, slice_index, refl, sym, ap, ◌∙◌, subst, arith, length-append}
use Rattle.std.proofs.Common.{append_assoc}
use Rattle.std.proofs.lemmas.Bool.{ltb-true, eqb-true}
use Rattle.std.proofs.lemmas.Option.{slice_get_within}
use Rattle.behavior.specs.Endings.{Stuck, Stack}
use Rattle.risc_word.specs.declared.instr.Condition.TheVariants as on
use Rattle.risc_word.specs.declared.instr.Target.TheVariants.{Relative, Absolute}
use Rattle.risc_word.specs.declared.instr.Instr.TheVariants as word
use Rattle.risc_machine.specs.Step as machine
use Rattle.risc_machine.specs.declared.limits.TheConstants.{ADDRESSES}
use Rattle.risc_machine_laws.specs.View.{View, IsAt, Shows, at_view, link_view}
use Rattle.risc_machine_laws.specs.Runs.{To, Way, same_tape}
use Rattle.risc_machine_laws.specs.Numbers.{distance}
use Rattle.risc_machine_laws.proofs.Runs.{branch_taken}
use Rattle.risc_machine_laws.proofs.Numbers.{target_reached}
use Rattle.tac_code.specs.declared.code.Value.{Value}
use Rattle.tac_code.specs.declared.code.Value.TheVariants.{Routine}
use Rattle.tac_code.specs.declared.code.Instruction.{Instruction}
use Rattle.tac_code.specs.declared.code.Instruction.TheVariants.{Call, CallValue}
use Rattle.tac_code.specs.declared.code.TacRoutine.{TacRoutine}
use Rattle.tac_code.specs.Sound.{CallsNone}
use Rattle.tac_code.specs.Meaning.{fetch, routines, State, Step, Goes, Over, onward, entered, enter, is_full}
use Rattle.tac_code.specs.Meaning.{Temporaries, values_of, with_some}
use Rattle.tac_code.proofs.Numbers.{eq_same}
use Rattle.risc_alloc.specs.declared.homes.Home.{Home}
use Rattle.risc_alloc.specs.Flow.{is_among, gives_to}
use Rattle.risc_image.specs.declared.header.TheConstants.{MAX_COUNT}
use Rattle.risc_emit_relation.specs.Context.{Context, home, reads, called, is_program, Places, IsValue}
use Rattle.risc_emit_relation.specs.Context as ctx
use Rattle.risc_emit_relation.specs.Related.{value_of, owner_of}
use Rattle.risc_emit_relation.proofs.Basics.{update_other}
use Rattle.risc_emit_relation.proofs.Frames.{open_room}
use Rattle.risc_emit_relation.proofs.Walk.{stack_free}
use Rattle.risc_emit_forms.specs.Pieces.{Piece, Enters, Joins, EntersAt, Left}
use Rattle.risc_emit_forms.specs.Forms as form
use Rattle.risc_emit_forms.specs.Forms.{carried, is_taken, is_stored, accept, pass, carry}
use Rattle.risc_emit_forms.specs.Follows.{machine_of, Built, Belongs, Follows}
use Rattle.risc_emit_forms.proofs.Basics.{left_after, is_read, writes_it, among_first, among_rest}
use Rattle.risc_emit_forms.proofs.Runs.{Framed}
use Rattle.risc_emit_forms.proofs.Fetches.{bring_run}
use Rattle.risc_emit_forms.proofs.Joins.{get_append, fetched_is, come_way, come_step, stop_way}
use Rattle.risc_emit_forms.proofs.Comes.{framed, place_low}
use Rattle.risc_emit_forms.proofs.Joins.{stop_to}
use Rattle.risc_emit_forms.proofs.Operands.{code, stands_in}
use Rattle.risc_emit_forms.proofs.Passing.{and_more_some, home_on, Passed, pass_run, value_of_operand}
use Rattle.risc_emit_forms.proofs.Carried.{carried_run}
use Rattle.risc_emit_forms.proofs.Enters.{Calling, enters_program, enters_leaf}

among_at : (us : List ℕ) (j u : ℕ) → slice_get us j ≡ Some u → is_among u us ≡ true
among_at [] j u e = absurd (cc e)
among_at (t ∷ us) zero u e =
    let same : t ≡ u = cc e in subst (λ x. is_among u (x ∷ us) ≡ true) (sym same) (among_first u us)
among_at (t ∷ us) (suc j) u e = among_rest u t us (among_at us j u e)

carried_few : (n : ℕ) → carried n ≤ 8
carried_few n = go (nat_lt n 8) refl
  where
    go : (t : Bool) → nat_lt n 8 ≡ t → cond t n 8 ≤ 8
    go true e = let lt = ltb-true n 8 e in omega (arith, lt)
    go false e = omega arith

-- an operand of a low number is carried
carried_low : (n j : ℕ) → j < n → j < 8 → j < carried n
carried_low n j lt few = go (nat_lt n 8) refl
  where
    go : (t : Bool) → nat_lt n 8 ≡ t → j < cond t n 8
    go true e = lt
    go false e = few

taken_is_stored : (n j : ℕ) (h : Home) → is_taken n j h ≡ true → is_stored n j h ≡ true
taken_is_stored n j h e = or_true (not (nat_lt j n)) (is_taken n j h) e
  where
    or_true : (s t : Bool) → t ≡ true → s || t ≡ true
    or_true true t e = refl
    or_true false t e = e

-- one of a high number is stored
high_is_stored : (n j : ℕ) (h : Home) → n ≤ j → is_stored n j h ≡ true
high_is_stored n j h le = go (nat_lt j n) (not_less j n le)
  where
    not_less : (x y : ℕ) → y ≤ x → nat_lt x y ≡ false
    not_less x y le = grind arith

    go : (t : Bool) → t ≡ false → not t || is_taken n j h ≡ true
    go false e = refl
    go true e = absurd (cc e)

index_is : (us : List ℕ) (j u : ℕ) → slice_get us j ≡ Some u → slice_index us j ≡ u
index_is [] j u e = absurd (cc e)
index_is (x ∷ xs) zero u e = cc e
index_is (x ∷ xs) (suc j) u e = index_is xs j u e

module _ (c : Context) (words : List ℕ) (b : Built c words) where
  -- run-time routines call none
  caller_program : (r k : ℕ) (i : Instruction) → fetch c.code r k ≡ Some i → (CallsNone i → ⊥) → is_program c r ≡ true
  caller_program r k i here none =
      let so = fetched_is c words b r k i here in
      go so.routine so.body (get_append c.code.program c.code.run_time r so.routine so.is)
    where
      is_lt : (x y : ℕ) → x < y → nat_lt x y ≡ true
      is_lt x y h = grind arith

      go : (routine : TacRoutine) → slice_get routine.body k ≡ Some i → (slice_get c.code.program r ≡ Some routine)
          ⊎ ((n : ℕ) × (slice_get c.code.run_time n ≡ Some routine)) → is_program c r ≡ true
      go routine body (inl e) = is_lt _ _ (slice_get_within c.code.program r routine e)
      go routine body (inr e) = absurd (none ((b.sound.leaves e.0 routine e.1).body k i body))

  pub follows_way : (s : State) (m : machine.State) (v : View) (a : Way words c.size m same_tape v) (step : Step)
      → Follows c words step s a.to → Follows c words step s m
  follows_way s m v a (Goes t) h = come_way c words b s t m v a h
  follows_way s m v a (Over e) (inl x) = inl x
  follows_way s m v a (Over e) (inr x) = inr (stop_way c words b s m e v a x)

  pub follows_to : (s : State) (m : machine.State) (v : View) (a : To words c.size m same_tape v) (step : Step)
      → Follows c words step s a.to → Follows c words step s m
  follows_to s m v a (Goes t) h = come_step c words b s t m v a h
  follows_to s m v a (Over e) (inl x) = inl x
  follows_to s m v a (Over e) (inr x) = inr (stop_to c words b s m e v a x)

module _ (c : Context) (words : List ℕ) (b : Built c words) (p : Places) (S H : ℕ) (budget : S + c.base ≡ c.size)
    (s : State) (f : ℕ) (m : machine.State) (v : View) (sh : Shows words c.size m v)
    (be : Belongs c words p s v f) where
  top : f + c.used s.current.routine ≤ c.size
  top = open_room c b.laid p v.words f (owner_of s.current) s.callers s.memory.frames s.memory.scratch
      be.related.held.frames

  -- the operands are in registers and in the frame
  record Offers (vs : List Value) (w : View) : Type 0 where
    stack : w.registers 14 ≡ v.registers 14
    globals : w.registers 13 ≡ v.registers 13
    same : (a : ℕ) → (a < f + 8) ⊎ (f + 268 ≤ a) → w.words a ≡ v.words a
    low : (j : ℕ) (x : Value) → j < 8 → slice_get vs j ≡ Some x → w.registers j ≡ ctx.word c p x
    high : (j : ℕ) (x : Value) → 8 ≤ j → slice_get vs j ≡ Some x → w.words (f + 8 + 4 * j) ≡ ctx.word c p x

  -- those that go through the frame are there, and all in their homes; then registers take them
  record Offering (vs : List Value) (len : ℕ) (n : machine.State) (w : View) : Type 0 where
    view : View
    way : Way words c.size n same_tape view
    offers : Offers vs view
    twelve : view.registers 12 ≡ w.registers 12
    place : view.place ≡ w.place + len

  values_length : (ts : Temporaries) (us : List ℕ) (vs : List Value) → values_of ts us ≡ Some vs → length vs ≡ length us
  values_length ts [] vs e = let z : [] ≡ vs = cc e in ap length (sym z)
  values_length ts (u ∷ us) vs e =
      let d = and_more_some (ts u) (values_of ts us) vs e in
      ap length d.4 ∙ ap suc (values_length ts us d.1 d.3)

  offer_run : (us : List ℕ) (vs : List Value) (prog : is_program c s.current.routine ≡ true)
      → values_of s.current.temporaries us ≡ Some vs
      → ((u : ℕ) → is_among u us ≡ true → reads c s.current.routine s.current.place u ≡ true)
      → (fr : Framed c words s.current.routine f) → (len : ℕ)
      (g : Passed c words b p s.current.routine f fr prog be.related.held.aligned be.related.held.low top
      (carried (length us)) 0 us vs len m v) → (n : machine.State) (w : View) → Shows words c.size n w
      → ((z : ℕ) → z ≢ 12 → w.registers z ≡ g.view.registers z) → ((a : ℕ) → w.words a ≡ g.view.words a)
      → (ps : List Piece) (next : ℕ) → Left c words w.place
      (carry c s.current.routine (carried (length us)) (carried (length us)) us ++ ps) next → Offering vs
      (length (carry c s.current.routine (carried (length us)) (carried (length us)) us)) n w
  offer_run us vs prog ev ra fr len g n w shows regs mem ps next l =
      let r = s.current.routine in
      let count = carried (length us) in
      let few = carried_few (length us) in
      let t = carried_run c words b p r f fr prog be.related.held.aligned be.related.held.low top count few us vs w
      (λ j x lt e taken. by_frame j x e taken) (λ j x lt e. in_home j x e) ps next n shows l
      (regs 14 (omega arith) ∙ g.registers 14 (omega arith) ∙ be.related.stack) in
      record {
        view = t.view;
        way = t.way;
        offers = record {
          stack = t.registers 14 (omega (arith, few)) ∙ regs 14 (omega arith) ∙ g.registers 14 (omega arith);
          globals = t.registers 13 (omega (arith, few)) ∙ regs 13 (omega arith) ∙ g.registers 13 (omega arith);
          same = λ a side. t.memory a ∙ mem a ∙ g.same a (wide a side);
          low = λ j x lt e. t.there j x (carried_low (length us) j (within j x e) lt) e;
          high = λ j x ge e. t.memory _ ∙ mem _ ∙ stored_at j x e
              (high_is_stored count j (home c r (slice_index us j)) (omega (arith, few, ge)));
        };
        twelve = t.registers 12 (omega (arith, few));
        place = t.place;
      }
    where
      within : (j : ℕ) (x : Value) → slice_get vs j ≡ Some x → j < length us
      within j x e = let lt = slice_get_within vs j x e in let same = values_length s.current.temporaries us vs ev
          in omega
          (arith, lt, same)

      wide : (a : ℕ) → (a < f + 8) ⊎ (f + 268 ≤ a) → (a < f + 8 + 4 * 0) ⊎ (f + 268 ≤ a)
      wide a (inl lt) = inl (omega (arith, lt))
      wide a (inr le) = inr le

      zero_plus : (j : ℕ) → 0 + j ≡ j
      zero_plus j = omega arith

      stored_at : (j : ℕ) (x : Value) → slice_get vs j ≡ Some x → is_stored (carried (length us)) j
          (home c s.current.routine (slice_index us j)) ≡ true → g.view.words (f + 8 + 4 * j) ≡ ctx.word c p x
      stored_at j x e st =
          let o = value_of_operand s.current.temporaries us vs j x ev e in
          let st' : is_stored (carried (length us)) (0 + j) (home c s.current.routine o.0)
          ≡ true = ap (λ z. is_stored (carried (length us)) z (home c s.current.routine o.0)) (zero_plus j)
          ∙ ap (λ z. is_stored (carried (length us)) j (home c s.current.routine z)) (sym (index_is us j o.0 o.1))
          ∙ st in
          ap (λ z. g.view.words (f + 8 + 4 * z)) (sym (zero_plus j)) ∙ g.stored j o.0 x o.1 e st'

      by_frame : (j : ℕ) (x : Value) → slice_get vs j ≡ Some x → is_taken (carried (length us)) j
          (home c s.current.routine (slice_index us j)) ≡ true → w.words (f + 8 + 4 * j) ≡ ctx.word c p x
      by_frame j x e taken =
          mem _ ∙ stored_at j x e (taken_is_stored (carried (length us)) j
          (home c s.current.routine (slice_index us j)) taken)

      in_home : (j : ℕ) (x : Value) → slice_get vs j ≡ Some x → value_of c s.current.routine f (machine_of w)
          (home c s.current.routine (slice_index us j)) ≡ ctx.word c p x
      in_home j x e =
          let r = s.current.routine in
          let o = value_of_operand s.current.temporaries us vs j x ev e in
          let same = home_on c words b p r f fr prog be.related.held.aligned be.related.held.low top v w o.0
          (λ a le. mem a ∙ g.same a (inr (omega (arith, le)))) (λ z ne. regs z ne ∙ g.registers z ne) in
          let there = stands_in c words b p s f m v sh be o.0 x (ra o.0 (among_at us j o.0 o.1)) o.2 in
          ap (λ z. value_of c r f (machine_of w) (home c r z)) (index_is us j o.0 o.1) ∙ same ∙ there.1

  -- the callee that a branch with a link reached, after the operands were offered in v1
  entered_follows : (q t line : ℕ) (vs : List Value) (prog : is_program c s.current.routine ≡ true)
      → (n : machine.State) (v1 : View) → Shows words c.size n (at_view (c.entry q) (link_view true v1))
      → ctx.Writes c s.current.routine s.current.place t → called c s.current.routine (suc s.current.place) t ≡ true
      → length vs ≤ 65 → 4 * (v1.place + 1) ≡ 4 * c.resume s.current.routine (suc s.current.place) t
      → (is_program c q ≡ true → c.line (4 * (v1.place + 1)) ≡ Some line) → Offers vs v1
      → ((j : ℕ) (x : Value) → slice_get vs j ≡ Some x → IsValue c p x) → Follows c words
      (enter c.code c.costs c.sizes S H q vs t line (onward s.current ∷ s.callers) s) s n
  entered_follows q t line vs prog n v1 sh1 wr cl few resume row o good = go (slice_get (routines c.code) q) refl
    where
      calling : (routine : TacRoutine) → slice_get (routines c.code) q ≡ Some routine → length vs ≡ routine.parameters
          → Calling c p s f q t line (4 * (v1.place + 1)) routine vs v (at_view (c.entry q) (link_view true v1))
      calling routine is count =
          record {
            caller = prog;
            is = is;
            count = count;
            few = omega (arith, few, count);
            leads = wr.next;
            only = wr.only;
            call = cl;
            resume = resume;
            row = row;
            link = refl;
            stack = o.stack;
            globals = o.globals;
            same = o.same;
            good = good;
            carried = λ j x lt e. update_other v1.registers 15 _ j (omega (arith, lt)) ∙ o.low j x lt e;
            stored = o.high;
            place = refl;
          }

      made : (routine : TacRoutine) → slice_get (routines c.code) q ≡ Some routine → length vs ≡ routine.parameters
          → (full : Bool) → is_full c.code c.costs c.sizes S H q (onward s.current ∷ s.callers) ≡ full → (x : Bool)
          → is_program c q ≡ x → Follows c words (cond full (Over (Stack routine.line))
          (Goes (entered c.code c.costs c.sizes S H routine q vs t line (onward s.current ∷ s.callers) s))) s n
      made routine is count full ef true ex =
          enters_program c words b p S H budget s f m v sh be q t line (4 * (v1.place + 1)) routine vs n
          (at_view (c.entry q) (link_view true v1)) sh1 (calling routine is count) ex full ef
      made routine is count true ef false ex =
          let no : false ≡ true = sym (stack_free c b.laid p c.sizes S H (onward s.current ∷ s.callers) q ex) ∙ ef
          in absurd (cc no)
      made routine is count false ef false ex =
          enters_leaf c words b p S H budget s f m v sh be q t line (4 * (v1.place + 1)) routine vs n
          (at_view (c.entry q) (link_view true v1)) sh1 (calling routine is count) ex

      counted : (routine : TacRoutine) → slice_get (routines c.code) q ≡ Some routine → (x : Bool) → nat_eq
          (length vs) routine.parameters ≡ x → Follows c words
          (cond (not x) (Over Stuck) (cond (is_full c.code c.costs c.sizes S H q (onward s.current ∷ s.callers))
          (Over (Stack routine.line)) (Goes (entered c.code c.costs c.sizes S H routine q vs t line
          (onward s.current ∷ s.callers) s)))) s n
      counted routine is true e =
          made routine is (eqb-true (length vs) routine.parameters e)
          (is_full c.code c.costs c.sizes S H q (onward s.current ∷ s.callers)) refl (is_program c q) refl
      counted routine is false e = inl refl

      go : (o : Option TacRoutine) → slice_get (routines c.code) q ≡ o → Follows c words
          (with_some o (λ routine. if not (nat_eq (length vs) routine.parameters) then Over Stuck
          else if is_full c.code c.costs c.sizes S H q (onward s.current ∷ s.callers) then Over (Stack routine.line)
          else Goes (entered c.code c.costs c.sizes S H routine q vs t line (onward s.current ∷ s.callers) s))) s n
      go None is = inl refl
      go (Some routine) is = counted routine is (nat_eq (length vs) routine.parameters) refl

  call_known : (i : Instruction) (t : ℕ) → fetch c.code s.current.routine s.current.place ≡ Some i → gives_to (Some i) t
      ≡ true → called c s.current.routine (suc s.current.place) t ≡ true
  call_known i t here e = ap (λ o. gives_to o t) here ∙ e

  pub call_follows : (t q : ℕ) (us : List ℕ) (line : ℕ) (vs : List Value)
      → fetch c.code s.current.routine s.current.place ≡ Some (Call t q us line) → values_of s.current.temporaries us
      ≡ Some vs → Follows c words (enter c.code c.costs c.sizes S H q vs t line (onward s.current ∷ s.callers) s) s m
  call_follows t q us line vs here ev =
      let r = s.current.routine in
      let k = s.current.place in
      let i = Call t q us line in
      let so = fetched_is c words b r k i here in
      let prog = caller_program c words b r k i here (λ z. z) in
      let fr = framed c words b p s (machine_of v) f be.related in
      let h = home c r t in
      let piece : Piece = cond (is_program c q) (Enters q line) (Joins q) in
      let l = code c words b p s f m v sh be i here in
      let count = carried (length us) in
      let first = pass c r count 0 us in
      let second = carry c r count count us in
      let rest = piece ∷ accept c r h in
      let reads_u : (u : ℕ) → is_among u us ≡ true → reads c r k u ≡ true = λ u e. is_read c r k i here u e in
      let l0 = subst (λ ps. Left c words v.place ps (c.site r (suc k))) (append_assoc first second rest) l in
      let g = pass_run c words b p r f fr prog be.related.held.aligned be.related.held.low top count 0
      s.current.temporaries us vs (second ++ rest) _ m v sh l0 be.related.stack (omega (arith, so.sound.2.0)) ev
      (λ j u x e e'. (stands_in c words b p s f m v sh be u x (reads_u u (among_at us j u e)) e').1) in
      let v1 = g.view in
      let l1 = left_after c words v.place v1.place _ first (second ++ rest) l0 g.place in
      let o = offer_run us vs prog ev reads_u fr _ g g.way.to v1 g.way.shows (λ z ne. refl) (λ a. refl) rest _ l1 in
      let l2 = left_after c words v1.place o.view.place _ second rest l1 o.place in
      let step = enter c.code c.costs c.sizes S H q vs t line (onward s.current ∷ s.callers) s in
      follows_way c words b s m v1 g.way step (follows_way c words b s g.way.to o.view o.way step
      (joins so.sound.1 so.sound.2.0 prog o.way.to o.view o.way.shows l2 o.offers (is_program c q) refl))
    where
      joins : q < length c.code.program + length c.code.run_time → length us ≤ 65 → is_program c s.current.routine
          ≡ true → (n : machine.State) (v1 : View) → Shows words c.size n v1 → Left c words v1.place
          (cond (is_program c q) (Enters q line) (Joins q) ∷ accept c s.current.routine (home c s.current.routine t))
          (c.site s.current.routine (suc s.current.place)) → Offers vs v1 → (x : Bool) → is_program c q ≡ x
          → Follows c words (enter c.code c.costs c.sizes S H q vs t line (onward s.current ∷ s.callers) s) s n
      joins hq few prog n v1 sh1 l1 o x ex =
          let r = s.current.routine in
          let k = s.current.place in
          let i = Call t q us line in
          let l2 = subst (λ y. Left c words v1.place (cond y (Enters q line) (Joins q) ∷ accept c r (home c r t))
          (c.site r (suc k))) ex l1 in
          let cl = call_known i t here (eq_same t) in
          let rs = b.stood.resumes r (suc k) t cl in
          let inside = length-append c.code.program c.code.run_time in
          let low = b.stood.within_entry q (omega (arith, hq, inside)) in
          let goal = Relative (distance v1.place (c.entry q)) in
          let at = stands_call x l2 in
          let lt = place_low c words b v1.place _ at.0 in
          let t2 = branch_taken words c.size b.stood.fits on.Always true goal n v1 sh1 at.0 refl in
          let t2' = subst (λ z. To words c.size n same_tape (at_view z (link_view true v1)))
          (target_reached v1.place (c.entry q) (omega (arith, lt)) (omega (arith, low))) t2 in
          let nv = values_length s.current.temporaries us vs ev in
          follows_to c words b s n (at_view (c.entry q) (link_view true v1)) t2'
          (enter c.code c.costs c.sizes S H q vs t line (onward s.current ∷ s.callers) s)
          (entered_follows q t line vs prog t2'.to v1 t2'.shows (writes_it c r k i here t refl refl) cl
          (omega (arith, few, nv)) (omega (arith, rs.ends, l1.ends)) (λ e. at.1 (sym ex ∙ e)) o (good_values ev))
        where
          stands_call : (y : Bool) → Left c words v1.place
              (cond y (Enters q line) (Joins q) ∷ accept c s.current.routine (home c s.current.routine t))
              (c.site s.current.routine (suc s.current.place)) → IsAt words v1.place
              (word.Branch on.Always true (Relative (distance v1.place (c.entry q))))
              × (y ≡ true → c.line (4 * (v1.place + 1)) ≡ Some line)
          stands_call true l = (l.stands.0, λ e. l.stands.1)
          stands_call false l = (l.stands.0, λ e. absurd (cc e))

          good_values : values_of s.current.temporaries us ≡ Some vs → (j : ℕ) (y : Value) → slice_get vs j ≡ Some y
              → IsValue c p y
          good_values ev j y e =
              let o = value_of_operand s.current.temporaries us vs j y ev e in
              (stands_in c words b p s f m v sh be o.0 y
              (is_read c s.current.routine s.current.place (Call t q us line) here o.0 (among_at us j o.0 o.1))
              o.2).0

  pub call_value_follows : (t a q : ℕ) (us : List ℕ) (line : ℕ) (vs : List Value)
      → fetch c.code s.current.routine s.current.place ≡ Some (CallValue t a us line) → s.current.temporaries a ≡ Some
      (Routine q) → q < length c.code.program → values_of s.current.temporaries us ≡ Some vs → Follows c words
      (enter c.code c.costs c.sizes S H q vs t line (onward s.current ∷ s.callers) s) s m
  call_value_follows t a q us line vs here ea hq ev =
      let r = s.current.routine in
      let k = s.current.place in
      let i = CallValue t a us line in
      let so = fetched_is c words b r k i here in
      let prog = caller_program c words b r k i here (λ z. z) in
      let fr = framed c words b p s (machine_of v) f be.related in
      let h = home c r t in
      let count = carried (length us) in
      let first = pass c r count 0 us in
      let second = form.bring c r 12 (home c r a) in
      let third = carry c r count count us in
      let rest = EntersAt 12 line ∷ accept c r h in
      let l = code c words b p s f m v sh be i here in
      let reads_u : (u : ℕ) → is_among u us ≡ true → reads c r k u ≡ true = λ u e. is_read c r k i here u
      (among_rest u a us e) in
      let l0 = subst (λ ps. Left c words v.place ps (c.site r (suc k)))
      (append_assoc first (second ++ third) rest ∙ ap (λ x. first ++ x) (append_assoc second third rest)) l in
      let g = pass_run c words b p r f fr prog be.related.held.aligned be.related.held.low top count 0
      s.current.temporaries us vs (second ++ (third ++ rest)) _ m v sh l0 be.related.stack
      (omega (arith, so.sound.2.0)) ev (λ j u x e e'.
      (stands_in c words b p s f m v sh be u x (reads_u u (among_at us j u e)) e').1) in
      let v1 = g.view in
      let l1 = left_after c words v.place v1.place _ first (second ++ (third ++ rest)) l0 g.place in
      let e14 : v1.registers 14 ≡ f = g.registers 14 (omega arith) ∙ be.related.stack in
      let z = bring_run c words b.stood b.laid b.placed r f fr 12 a (third ++ rest) _ g.way.to v1 g.way.shows
      (omega arith) e14 l1 in
      let v2 = z.view in
      let l2 = left_after c words v1.place v2.place _ second (third ++ rest) l1 z.place in
      let o = offer_run us vs prog ev reads_u fr _ g z.to.to v2 z.to.shows (λ y ne. z.moved.registers y ne)
      (λ y. z.moved.words y) rest _ l2 in
      let v3 = o.view in
      let l3 = left_after c words v2.place v3.place _ third rest l2 o.place in
      let va = stands_in c words b p s f m v sh be a (Routine q) (is_read c r k i here a (among_first a us)) ea in
      let same_home = home_on c words b p r f fr prog be.related.held.aligned be.related.held.low top v v1 a
      (λ y le. g.same y (inr (omega (arith, le)))) g.registers in
      let callee : v3.registers 12 ≡ 4 * c.entry q = o.twelve ∙ z.value ∙ same_home ∙ va.1 in
      let inside = length-append c.code.program c.code.run_time in
      let low = b.stood.within_entry q (omega (arith, hq, inside)) in
      let t3 = branch_taken words c.size b.stood.fits on.Always true
      (Absolute 12) o.way.to v3 o.way.shows l3.stands.0 refl in
      let t3' = subst (λ y. To words c.size o.way.to same_tape (at_view y (link_view true v3)))
      (ap (λ y. y % ADDRESSES / 4) callee ∙ address_place (c.entry q) low) t3 in
      let cl = call_known i t here (eq_same t) in
      let rs = b.stood.resumes r (suc k) t cl in
      let nv = values_length s.current.temporaries us vs ev in
      let step = enter c.code c.costs c.sizes S H q vs t line (onward s.current ∷ s.callers) s in
      follows_way c words b s m v1 g.way step (follows_to c words b s g.way.to v2 z.to step
      (follows_way c words b s z.to.to v3 o.way step
      (follows_to c words b s o.way.to (at_view (c.entry q) (link_view true v3)) t3' step
      (entered_follows q t line vs prog t3'.to v3 t3'.shows (writes_it c r k i here t refl refl) cl
      (omega (arith, so.sound.2.0, nv)) (omega (arith, rs.ends, l3.ends)) (λ e. l3.stands.1) o.offers
      (λ j y e. let x = value_of_operand s.current.temporaries us vs j y ev e
      in (stands_in c words b p s f m v sh be x.0 y (reads_u x.0 (among_at us j x.0 x.1)) x.2).0)))))
    where
      address_place : (j : ℕ) → j ≤ MAX_COUNT → 4 * j % ADDRESSES / 4 ≡ j
      address_place j le = omega (arith, le)
