-- The start: the first words and the entry of the program block, up to its first instruction or the stop for the stack.
use Rattle.std.proofs.Common.{◌≡◌, ◌≢◌, ℕ, suc, ◌+◌, ◌-◌, ◌*◌, ◌/◌, ◌%◌, ◌<◌, ◌≤◌, Bool, true, false, cond, ◌&&◌}
use Rattle.std.proofs.Common.{nat_lt, List, [], ◌∷◌, ◌++◌, length, Some, slice_get, pos, negsuc, ◌-ℤ◌, refl, sym, ap}
use Rattle.std.proofs.Common.{◌∙◌, subst, arith}
use Rattle.std.proofs.lemmas.Int.{ints}
use Rattle.std.proofs.lemmas.Bool.{ltb-true, ltb-false}
use Rattle.std.proofs.lemmas.Option.{slice_get_within}
use Rattle.behavior.specs.Endings.{Ending, Stack}
use Rattle.behavior.specs.Transcripts.{AreBytes}
use Rattle.risc_word.specs.declared.instr.Operation.TheVariants as op
use Rattle.risc_word.specs.declared.instr.Operand.TheVariants.{Content, Constant}
use Rattle.risc_word.specs.declared.instr.Width.TheVariants.{Word}
use Rattle.risc_word.specs.declared.instr.Condition.{Condition}
use Rattle.risc_word.specs.declared.instr.Condition.TheVariants as on
use Rattle.risc_word.specs.declared.instr.Target.TheVariants.{Relative}
use Rattle.risc_word.specs.declared.instr.Instr.TheVariants as word
use Rattle.risc_machine.specs.Step as machine
use Rattle.risc_machine.specs.Step.{word_of_int, differ, start_state}
use Rattle.risc_machine.specs.declared.limits.TheConstants.{ADDRESSES}
use Rattle.risc_machine_laws.specs.View.{View, IsAt, HasAt, Shows, IsWritable, after, at_view, link_view, target_view}
use Rattle.risc_machine_laws.specs.View.{holds_view}
use Rattle.risc_machine_laws.specs.Runs.{To, same_tape}
use Rattle.risc_machine_laws.specs.Numbers.{IsNumber, distance}
use Rattle.risc_machine_laws.specs.Start.{code_bytes, AreWords, start_view}
use Rattle.risc_machine_laws.proofs.Runs.{plain_to, branch_taken, branch_passed, stop_at}
use Rattle.risc_machine_laws.proofs.Numbers.{target_reached}
use Rattle.risc_machine_laws.proofs.Start.{shows_start}
use Rattle.tac_code.specs.declared.code.TacRoutine.{TacRoutine}
use Rattle.tac_code.specs.Meaning.{Code, State, routines, entered}
use Rattle.tac_code.specs.Sound.{IsSound}
use Rattle.tac_code.specs.Run.{before}
use Rattle.risc_alloc.specs.declared.homes.Home.{Home}
use Rattle.risc_alloc.specs.Valid.{Valid}
use Rattle.risc_image.specs.Image.{Image, IsWellFormed}
use Rattle.risc_image.specs.Format.{word_bytes}
use Rattle.risc_load.specs.Shows.{IsBudget}
use Rattle.risc_emit_relation.specs.Context.{Context, is_program}
use Rattle.risc_emit_relation.specs.Related.{Starting, started_places}
use Rattle.risc_emit_relation.specs.Walk.{walk}
use Rattle.risc_emit_relation.proofs.Basics.{update_same, update_other}
use Rattle.risc_emit_relation.proofs.Start.{related_starts}
use Rattle.risc_emit_forms.specs.Pieces.{AtEntry, Piece, Plain, Goes, Fails, Stands, Left}
use Rattle.risc_emit_forms.specs.Forms as form
use Rattle.risc_emit_forms.specs.Forms.{frame_below, enter_form, join_form, is_entered, entry_form}
use Rattle.risc_emit_forms.specs.Follows.{machine_of, stub, Stood, Built, Belongs, Comes, Stops, trapped, told, tape_of}
use Rattle.risc_emit_forms.proofs.Basics.{left_after, left_next, left_at}
use Rattle.risc_emit_forms.proofs.Flags.{entered_silent}
use Rattle.risc_emit_forms.proofs.Runs.{step_to}
use Rattle.risc_emit_forms.proofs.Compares.{differs}
use Rattle.risc_emit_forms.proofs.Joins.{Arrives, come_to, come_step, arrive_to, arrive_here}
use Rattle.risc_emit_forms.proofs.Comes.{goes_run, fails_not}
use Rattle.risc_emit_forms.proofs.StackTests.{below_is, frame_run, test_run}
use Rattle.risc_emit_laws.specs.Plan.{frame_cost, Plan, context}
use Rattle.risc_emit_laws.specs.Emits.{IsLaidOut, Stand}
use Rattle.risc_emit_laws.proofs.Built.{stood_is, built_is}

-- ---- numbers

same_test : (a b x y : ℕ) → (a < b → x < y) → (x < y → a < b) → nat_lt a b ≡ nat_lt x y
same_test a b x y f g = grind (arith, f, g)

small_number : (x : ℕ) → x < ADDRESSES → IsNumber (pos x)
small_number x h = (omega (arith, ints, h), omega (arith, ints, h))

small_word : (x : ℕ) → x < ADDRESSES → x ≡ word_of_int (pos x)
small_word x h = omega (arith, ints, h)

difference_number : (x y : ℕ) → x < ADDRESSES → y < ADDRESSES → IsNumber (pos x -ℤ pos y)
difference_number x y hx hy = (omega (arith, ints, hx, hy), omega (arith, ints, hx, hy))

difference_word : (x y : ℕ) → y ≤ x → x < ADDRESSES → word_of_int (pos x -ℤ pos y) ≡ x - y
difference_word x y le lt = omega (arith, ints, le, lt)

pub word_bytes_are : (words : List ℕ) → code_bytes words ≡ word_bytes words
word_bytes_are [] = refl
word_bytes_are (w ∷ words) =
    ap (λ rest. (w % 256) ∷ (w / 256 % 256) ∷ (w / 65536 % 256) ∷ (w / 16777216 % 256) ∷ rest) (word_bytes_are words)

-- ---- the stop before a frame was made

module _ (c : Context) (words : List ℕ) (stood : Stood c words) (s : State) where
  -- the stub stops for the stack; no calls are reported then
  pub stack_stop : (condition : Condition) (line : ℕ) (m : machine.State) (v : View) → Shows words c.size m v
      → IsAt words v.place (word.Branch condition true (Relative (distance v.place 1))) → c.trap (4 * (v.place + 1))
      ≡ Some (12, line) → holds_view v condition ≡ true → Stops c words s m (Stack line)
  stack_stop condition line m v sh at row e =
      let goal = Relative (distance v.place 1) in
      let t1 = branch_taken words c.size stood.fits condition true goal m v sh at e in
      let v1 = at_view (target_view v goal) (link_view true v) in
      let lt = slice_get_within words v.place _ at.word in
      let there : v1.place ≡ 1 = target_reached v.place 1 (omega (arith, lt, stood.short)) (omega arith) in
      let at1 = subst (λ k. HasAt words k stub) (sym there) stood.stub in
      let i = word.Move 12 (Constant (negsuc 63)) in
      let t2 = plain_to words c.size stood.fits i t1.to v1 t1.shows tt at1.0 in
      let v2 = after i v1 in
      let st = stop_at words c.size stood.fits 15 12 t2.to v2 t2.shows at1.1.0 refl in
      let v3 = at_view (v2.place + 1) v2 in
      record {
        word = 4 * (v.place + 1);
        at = st.at;
        view = v3;
        shows = st.shows;
        is = sym (link_told (4 * (v.place + 1)) (4 * v.place + 3) v3 (omega arith) row);
        by = λ k. let x = st.by k (tape_of s.tape) in let y = t2.runs x.0 (tape_of s.tape) in let z = t1.runs y.0
            (tape_of s.tape) in (z.0, omega (arith, x.1, y.1, z.1), z.2 ∙ y.2 ∙ x.2);
      }
    where
      link_told : (w n : ℕ) (v : View) → w ≡ suc n → c.trap w ≡ Some (12, line) → told c w v ≡ Stack line
      link_told w n v e row =
          subst (λ w. c.trap w ≡ Some (12, line) → told c w v ≡ Stack line) (sym e)
          (λ row. ap (λ o. trapped o (walk c.line c.size 16 v.words (v.registers 14))) row) row

  pub stop_first : (m : machine.State) (e : Ending) (v : View) (a : To words c.size m same_tape v)
      → Stops c words s a.to e → Stops c words s m e
  stop_first m e v a r =
      record {
        word = r.word;
        at = r.at;
        view = r.view;
        shows = r.shows;
        is = r.is;
        by = λ k. let x = r.by k in let y = a.runs x.0 (tape_of s.tape) in (y.0, omega (arith, x.1, y.1), y.2 ∙ x.2);
      }

module _ (code : Code) (homes : List Home) (image : Image) (sound : IsSound code) (valid : Valid code homes)
    (formed : IsWellFormed image) (narrow : AreWords image.code) (plan : Plan) (heap stack : ℕ)
    (budget : IsBudget image heap stack) (laid : IsLaidOut (context code homes plan image heap stack))
    (stand : Stand (context code homes plan image heap stack) image.code) (input : List ℕ) (bytes : AreBytes input)
    (block : TacRoutine) (is : slice_get (routines code) 0 ≡ Some block) (none : block.parameters ≡ 0) where
  abbrev c : Context
  c = context code homes plan image heap stack

  abbrev words : List ℕ
  words = image.code

  abbrev n : ℕ
  n = frame_cost image 0

  stood : Stood c words
  stood = stood_is code homes image sound valid formed plan heap stack budget laid stand

  low_size : c.size < ADDRESSES
  low_size = let top = budget.fits in omega (arith, top)

  first : is_program c 0 ≡ true
  first = first_of _ sound.begins
    where
      first_of : (n : ℕ) → 0 < n → nat_lt 0 n ≡ true
      first_of n lt = grind (arith, lt)

  -- the state of the code after the entry
  abbrev pub inside : State
  inside = entered c.code c.costs c.sizes stack heap block 0 [] 0 0 [] (before input)

  abbrev pub loaded : machine.State
  loaded = start_state (word_bytes words) image.global heap stack

  abbrev v0 : View
  v0 = start_view words image.global heap stack

  loaded_shows : Shows words c.size loaded v0
  loaded_shows =
      subst (λ b. Shows words c.size (start_state b image.global heap stack) v0) (word_bytes_are words)
      (shows_start words image.global heap stack budget.fits narrow)

  -- ---- the entry of the program block

  abbrev behind_test : List Piece
  behind_test =
      Fails on.Less 12 block.line ∷ Plain (word.Store Word 15 12 (pos 0)) ∷ Plain (word.Store Word 14 12 (pos 4))
      ∷ Plain (word.Move 14 (Content 12)) ∷ form.arrive c 0 n block.parameters

  entry_left : n < 16777153 → (at : ℕ) → at ≡ c.entry 0 → Left c words at (enter_form c 0 block) (c.site 0 0)
  entry_left lt at e = left_at c words (c.entry 0) at _ (enter_form c 0 block) (taken (stand.entry 0 block is)) e
    where
      below : (x y : ℕ) → x < y → nat_lt x y ≡ true
      below x y lt = grind (arith, lt)

      entered_is : is_entered c 0 block ≡ true
      entered_is =
          let e1 = below n 16777153 lt in
          let e2 = below block.parameters 66 (omega (arith, none)) in
          ap (λ b. b && nat_lt block.parameters 66) e1 ∙ e2

      taken : Left c words (c.entry 0) (entry_form c 0 block) (c.site 0 0) → Left c words (c.entry 0)
          (enter_form c 0 block) (c.site 0 0)
      taken l =
          let l1 = subst (λ b. Left c words (c.entry 0)
          (cond b (cond (is_entered c 0 block) (enter_form c 0 block) (Fails on.Always 12 block.line ∷ []))
          (join_form c 0 block)) (c.site 0 0)) first l in
          subst (λ b. Left c words (c.entry 0) (cond b (enter_form c 0 block) (Fails on.Always 12 block.line ∷ []))
          (c.site 0 0)) entered_is l1

  enters_block : (b : Built c words) → n < 16777153 → c.base + n ≤ c.size → (m : machine.State) (v : View)
      → Shows words c.size m v → v.place ≡ c.entry 0 → v.registers 14 ≡ c.size → v.registers 13 ≡ c.bottom
      → v.registers 15 ≡ 0 → v.words (c.bottom + 268) ≡ c.base → v.words (c.bottom + 272) ≡ c.heap_at
      → Arrives c words inside m
  enters_block b lt room m v sh at e14 e13 e15 lim nxt =
      let pr = b.laid.program 0 first in
      let q0 = b.laid.slots_before 0 in
      let q1 = b.laid.frame_before 0 in
      let q2 = b.laid.scratch_before 0 in
      let wide : 276 ≤ n = omega (arith, pr.1, pr.2, q0, q1, q2) in
      let whole = b.laid.whole 0 in
      let al : c.bottom % 4 ≡ 0 = omega (arith, b.laid.bottom, whole, b.laid.even.2) in
      let z = test_run c words b n c.size behind_test _ m v sh e14 e13 lim low_size (omega (arith, lt))
      (entry_left lt v.place at) in
      let t1 = fails_not c words b on.Less 12 block.line _ _ z.to.to z.view z.to.shows z.left
      (z.less ∙ not_full c.size (c.base + n) room) in
      let v1 = at_view (z.view.place + 1) z.view in
      let l1 = left_next c words z.view.place _ _ _ z.left in
      let e12 : v1.registers 12 ≡ c.bottom = z.frame ∙ difference_word c.size n (omega (arith, room)) low_size in
      let r15 : v1.registers 15 ≡ 0 = z.registers 15 (omega arith) (omega arith) ∙ e15 in
      let r14 : v1.registers 14 ≡ c.size = z.registers 14 (omega arith) (omega arith) ∙ e14 in
      let i5 = word.Store Word 15 12 (pos 0) in
      let w5 : IsWritable words c.size (v1.registers 12 + 0) = record {
        aligned = omega (arith, e12, al);
        low = omega (arith, e12, room, b.stood.code, b.laid.order.1, b.laid.bottom);
        high = omega (arith, e12, wide, b.laid.bottom);
      } in
      let t5 = step_to c words b.stood i5 t1.to v1 t1.shows l1.stands.0 (tt, w5) in
      let v5 = after i5 v1 in
      let i6 = word.Store Word 14 12 (pos 4) in
      let w6 : IsWritable words c.size (v5.registers 12 + 4) = record {
        aligned = omega (arith, e12, al);
        low = omega (arith, e12, room, b.stood.code, b.laid.order.1, b.laid.bottom);
        high = omega (arith, e12, wide, b.laid.bottom);
      } in
      let t6 = step_to c words b.stood i6 t5.to v5 t5.shows l1.stands.2.0 (tt, w6) in
      let v6 = after i6 v5 in
      let i7 = word.Move 14 (Content 12) in
      let t7 = step_to c words b.stood i7 t6.to v6 t6.shows l1.stands.2.2.0 tt in
      let v7 = after i7 v6 in
      let l7 = left_next c words v6.place _ _ _ (left_next c words v5.place _ _ _ (left_next c words v1.place _ _ _ l1))
      in
      let no_more : length (form.arrive c 0 n block.parameters) ≡ 0 = ap (λ k. length (form.arrive c 0 n k)) none in
      let other : (a : ℕ) → a ≢ c.bottom → a ≢ c.bottom + 4 → v7.words a
      ≡ v.words a = λ a n0 n4. let m0 : a ≢ v1.registers 12 + 0 = omega (arith, e12) in let m4 : a ≢ v5.registers 12
      + 4 = omega (arith, e12) in update_other v5.words (v5.registers 12 + 4) (v5.registers 14) a m4
      ∙ update_other v1.words (v1.registers 12 + 0) (v1.registers 15) a m0 ∙ z.memory a in
      let at_link : v7.words c.bottom ≡ 0 = let far : c.bottom ≢ v5.registers 12 + 4 = omega (arith, e12)
      in update_other v5.words (v5.registers 12 + 4) (v5.registers 14) c.bottom far ∙ ap v5.words
      (plus_zero c.bottom (v1.registers 12) (sym e12)) ∙ update_same v1.words (v1.registers 12 + 0)
      (v1.registers 15) ∙ r15 in
      let starting : Starting c (machine_of v7) = record {
        link = ap v7.words (link_here c.bottom (c.link_at 0) pr.0) ∙ at_link;
        back = ap v7.words (ap (λ z. z + 4) (sym e12)) ∙ update_same v5.words (v5.registers 12 + 4) (v5.registers 14)
            ∙ r14;
        limit = let n0 : c.bottom + 268 ≢ c.bottom = omega arith in let n4 : c.bottom + 268 ≢ c.bottom + 4 = omega arith
            in other (c.bottom + 268) n0 n4 ∙ lim;
        next = let n0 : c.bottom + 272 ≢ c.bottom = omega arith in let n4 : c.bottom + 272 ≢ c.bottom + 4 = omega arith
            in other (c.bottom + 272) n0 n4 ∙ nxt;
        stack = e12;
        globals = z.registers 13 (omega arith) (omega arith) ∙ e13;
      } in
      let rel = related_starts c b.laid c.sizes stack heap input (machine_of v7) block is
      (omega (arith, room, b.laid.bottom)) starting in
      let here : Belongs c words (started_places c) inside v7 c.bottom = record {
        related = rel;
        place = let e = l7.ends in omega (arith, e, no_more);
        input = bytes;
        flags = entered_silent c 0 v7;
      } in
      arrive_to c words b inside m z.view z.to
      (arrive_to c words b inside z.to.to v1 t1
      (arrive_to c words b inside t1.to v5 t5
      (arrive_to c words b inside t5.to v6 t6
      (arrive_to c words b inside t6.to v7 t7
      (arrive_here c words b (started_places c) inside t7.to v7 c.bottom t7.shows here)))))
    where
      not_full : (x y : ℕ) → y ≤ x → nat_lt x y ≡ false
      not_full x y le = grind (arith, le)

      plus_zero : (g z : ℕ) → g ≡ z → g ≡ z + 0
      plus_zero g z e = omega (arith, e)

      link_here : (g z : ℕ) → z ≡ 0 → g + z ≡ g
      link_here g z e = omega (arith, e)

  -- ---- the first words

  -- what the start does, by whether the stack is too small
  abbrev pub Starts : Bool → machine.State → Type 0
  Starts true m = Stops c words (before input) m (Stack block.line)
  Starts false m = Built c words × Comes c words (before input) inside m

  abbrev behind_frame : List Piece
  behind_frame =
      Plain (word.Operate op.Sub 2 12 (Content 1)) ∷ Fails on.Less 12 block.line ∷ Plain
      (word.Store Word 1 12 (pos 268)) ∷ Plain (word.Store Word 0 12 (pos 272)) ∷ Plain (word.Move 13 (Content 12))
      ∷ Goes on.Always (AtEntry 0) ∷ []

  abbrev v1 : View
  v1 = at_view 3 v0

  -- room for the frame: the header's stores, and on to the entry
  passed : (m : machine.State) (v : View) → Shows words c.size m v → n < 16777153 → c.base + n ≤ c.size
      → Left c words v.place (Plain (word.Store Word 1 12 (pos 268)) ∷ Plain (word.Store Word 0 12 (pos 272)) ∷ Plain
      (word.Move 13 (Content 12)) ∷ Goes on.Always (AtEntry 0) ∷ []) (v.place + 4) → v.registers 12 ≡ c.bottom
      → v.registers 0 ≡ c.heap_at → v.registers 1 ≡ c.base → v.registers 14 ≡ c.size → v.registers 15 ≡ 0
      → Built c words × Comes c words (before input) inside m
  passed m v sh lt room l e12 e0 e1 e14 e15 =
      let b = built_is code homes image sound valid formed plan heap stack budget laid stand (omega (arith, room)) in
      let pr = b.laid.program 0 first in
      let q0 = b.laid.slots_before 0 in
      let q1 = b.laid.frame_before 0 in
      let q2 = b.laid.scratch_before 0 in
      let wide : 276 ≤ n = omega (arith, pr.1, pr.2, q0, q1, q2) in
      let whole = b.laid.whole 0 in
      let al : c.bottom % 4 ≡ 0 = omega (arith, b.laid.bottom, whole, b.laid.even.2) in
      let i1 = word.Store Word 1 12 (pos 268) in
      let w1 : IsWritable words c.size (v.registers 12 + 268) = record {
        aligned = omega (arith, e12, al);
        low = omega (arith, e12, room, b.stood.code, b.laid.order.1, b.laid.bottom);
        high = omega (arith, e12, wide, b.laid.bottom);
      } in
      let t1 = step_to c words b.stood i1 m v sh l.stands.0 (tt, w1) in
      let v1 = after i1 v in
      let i2 = word.Store Word 0 12 (pos 272) in
      let w2 : IsWritable words c.size (v1.registers 12 + 272) = record {
        aligned = omega (arith, e12, al);
        low = omega (arith, e12, room, b.stood.code, b.laid.order.1, b.laid.bottom);
        high = omega (arith, e12, wide, b.laid.bottom);
      } in
      let t2 = step_to c words b.stood i2 t1.to v1 t1.shows l.stands.2.0 (tt, w2) in
      let v2 = after i2 v1 in
      let i3 = word.Move 13 (Content 12) in
      let t3 = step_to c words b.stood i3 t2.to v2 t2.shows l.stands.2.2.0 tt in
      let v3 = after i3 v2 in
      let l3 = left_next c words v2.place _ _ _ (left_next c words v1.place _ _ _ (left_next c words v.place _ _ _ l))
      in
      let t4 = goes_run c words b on.Always (AtEntry 0) [] _ t3.to v3 t3.shows l3 refl
      (b.stood.within_entry 0 (slice_get_within (routines code) 0 block is)) in
      let v4 = at_view (c.entry 0) v3 in
      let far : v1.registers 12 + 272 ≢ v.registers 12 + 268 = omega arith in
      let far' : v.registers 12 + 268 ≢ v1.registers 12 + 272 = omega arith in
      let limit : v4.words (c.bottom + 268) ≡ c.base = ap v2.words (ap (λ z. z + 268) (sym e12)) ∙ update_other v1.words
      (v1.registers 12 + 272) (v1.registers 0) (v.registers 12 + 268) far' ∙ update_same v.words
      (v.registers 12 + 268) (v.registers 1) ∙ e1 in
      let next : v4.words (c.bottom + 272) ≡ c.heap_at = ap v2.words (ap (λ z. z + 272) (sym e12))
      ∙ update_same v1.words (v1.registers 12 + 272) (v1.registers 0) ∙ e0 in (
        b,
        come_to c words b (before input) inside m same_tape v1 t1 refl
            (arrive_to c words b inside t1.to v2 t2
            (arrive_to c words b inside t2.to v3 t3
            (arrive_to c words b inside t3.to v4 t4
            (enters_block b lt room t4.to v4 t4.shows refl e14 e12 e15 limit next)))),
      )

  come_first : (m : machine.State) (v : View) (a : To words c.size m same_tape v) → Built c words × Comes c words
      (before input) inside a.to → Built c words × Comes c words (before input) inside m
  come_first m v a r = (r.0, come_step c words r.0 (before input) inside m v a r.1)

  -- after the difference of the frame's address and the stack's first one
  branched : (m : machine.State) (v : View) → Shows words c.size m v → n < 16777153 → Left c words v.place
      (Fails on.Less 12 block.line ∷ Plain (word.Store Word 1 12 (pos 268)) ∷ Plain (word.Store Word 0 12 (pos 272))
      ∷ Plain (word.Move 13 (Content 12)) ∷ Goes on.Always (AtEntry 0) ∷ []) (v.place + 5) → v.registers 12
      ≡ word_of_int (pos c.size -ℤ pos n) → v.registers 0 ≡ c.heap_at → v.registers 1 ≡ c.base → v.registers 14 ≡ c.size
      → v.registers 15 ≡ 0 → (full : Bool) → nat_lt stack n ≡ full → differ v.negative v.overflow ≡ full → Starts full m
  branched m v sh lt l e12 e0 e1 e14 e15 true ef less =
      stack_stop c words stood (before input) on.Less block.line m v sh l.stands.0 l.stands.1 less
  branched m v sh lt l e12 e0 e1 e14 e15 false ef less =
      let room : c.base + n ≤ c.size = let le = ltb-false stack n ef in omega (arith, le) in
      let t1 = branch_passed words c.size stood.fits on.Less true (Relative (distance v.place 1)) m v sh l.stands.0 less
      in
      let v1 = at_view (v.place + 1) v in
      let l1 = left_next c words v.place _ _ _ l in
      let l2 : Left c words v1.place (Plain (word.Store Word 1 12 (pos 268)) ∷ Plain (word.Store Word 0 12 (pos 272))
      ∷ Plain (word.Move 13 (Content 12)) ∷ Goes on.Always (AtEntry 0) ∷ []) (v1.place + 4) = record {
        stands = l1.stands;
        ends = refl;
      } in
      come_first m v1 t1 (passed t1.to v1 t1.shows lt room l2
      (e12 ∙ difference_word c.size n (omega (arith, room)) low_size) e0 e1 e14 e15)

  prefixed : (full : Bool) (m : machine.State) (v : View) (a : To words c.size m same_tape v) → Starts full a.to
      → Starts full m
  prefixed true m v a r = stop_first c words stood (before input) m (Stack block.line) v a r
  prefixed false m v a r = come_first m v a r

  tested : (m : machine.State) → Shows words c.size m v1 → n < 16777153 → Stands c words 3
      (frame_below c 0 n ++ behind_frame) → (full : Bool) → nat_lt stack n ≡ full → Starts full m
  tested m sh lt st full ef =
      let l : Left c words 3 (frame_below c 0 n ++ behind_frame)
      (3 + length (frame_below c 0 n ++ behind_frame)) = record {
        stands = st;
        ends = refl;
      } in
      let g = frame_run c words stood n c.size behind_frame _ m v1 sh refl low_size (omega (arith, lt)) l in
      let w = g.0 in
      let t1 = g.1 in
      let l1 = left_after c words 3 w.place _ (frame_below c 0 n) behind_frame l g.4 in
      let i2 = word.Operate op.Sub 2 12 (Content 1) in
      let t2 = step_to c words stood i2 t1.to w t1.shows l1.stands.0 tt in
      let v2 = after i2 w in
      let l2 : Left c words v2.place (Fails on.Less 12 block.line ∷ Plain (word.Store Word 1 12 (pos 268)) ∷ Plain
      (word.Store Word 0 12 (pos 272)) ∷ Plain (word.Move 13 (Content 12)) ∷ Goes on.Always (AtEntry 0) ∷ [])
      (v2.place + 5) = record {
        stands = l1.stands.2;
        ends = refl;
      } in
      let low_base : c.base < ADDRESSES = let h = low_size in omega (arith, h) in
      let r1 : w.registers 1 ≡ c.base = g.3.registers 1 (omega arith) in
      let d = differs 2 12 (Content 1) (pos c.size -ℤ pos n) (pos c.base) w
      (difference_number c.size n low_size (omega (arith, lt))) (small_number c.base low_base) g.2
      (r1 ∙ small_word c.base low_base) in
      let less : differ v2.negative v2.overflow ≡ nat_lt stack n = d.less ∙ below_is c.size n c.base ∙ same_test c.size
      (c.base + n) stack n (λ h. omega (arith, h)) (λ h. omega (arith, h)) in
      prefixed full m w t1 (prefixed full t1.to v2 t2
      (branched t2.to v2 t2.shows lt l2 g.2 (g.3.registers 0 (omega arith)) r1 (g.3.registers 14 (omega arith))
      (g.3.registers 15 (omega arith)) full ef (less ∙ ef)))

  -- a frame that no stack holds
  refused : (m : machine.State) → Shows words c.size m v1 → 16777153 ≤ n → Stands c words 3
      (Fails on.Always 12 block.line ∷ []) → (full : Bool) → nat_lt stack n ≡ full → Starts full m
  refused m sh le st true ef = stack_stop c words stood (before input) on.Always block.line m v1 sh st.0 st.1 refl
  refused m sh le st false ef =
      let room = ltb-false stack n ef in
      let h = low_size in
      absurd (omega (arith, room, h, le))

  pub starts : Starts (nat_lt stack n) loaded
  starts =
      let st = stand.start block is in
      let t1 = branch_taken words c.size stood.fits on.Always false (Relative (pos 2)) loaded v0 loaded_shows st.0 refl
      in
      prefixed (nat_lt stack n) loaded v1 t1 (by_size t1.to t1.shows (nat_lt n 16777153) refl st.2.2.2)
    where
      by_size : (m : machine.State) → Shows words c.size m v1 → (small : Bool) → nat_lt n 16777153 ≡ small
          → Stands c words 3 (cond small (frame_below c 0 n ++ behind_frame) (Fails on.Always 12 block.line ∷ []))
          → Starts (nat_lt stack n) m
      by_size m sh true e st = tested m sh (ltb-true n 16777153 e) st (nat_lt stack n) refl
      by_size m sh false e st = refused m sh (ltb-false n 16777153 e) st (nat_lt stack n) refl
