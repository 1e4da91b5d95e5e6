-- Input, output, errors and the end.
use Rattle.std.proofs.Common.{◌≡◌, ℕ, suc, ◌+◌, ◌-◌, ◌%◌, ◌^◌, ◌<◌, Bool, true, false, List, [], ◌∷◌, ◌++◌, Some, None}
use Rattle.std.proofs.Common.{ℤ, pos, negsuc, refl, sym, ap, ◌∙◌, subst, arith}
use Rattle.std.proofs.lemmas.Int.{ints}
use Rattle.behavior.specs.Endings.{Normal}
use Rattle.behavior.specs.Transcripts.{AreBytes, mark}
use Rattle.risc_word.specs.declared.instr.Operand.TheVariants as instr
use Rattle.risc_word.specs.declared.instr.Width.TheVariants.{Word}
use Rattle.risc_word.specs.declared.instr.Condition.TheVariants as on
use Rattle.risc_word.specs.declared.instr.Instr.TheVariants as word
use Rattle.risc_machine.specs.Step as machine
use Rattle.risc_machine.specs.Step.{word_of_int}
use Rattle.risc_machine.specs.Exec as run
use Rattle.risc_machine_laws.specs.View.{View, Shows, after, at_view, result_view}
use Rattle.risc_machine_laws.specs.Runs.{same_tape}
use Rattle.risc_machine_laws.proofs.Runs.{to_join, put_to, take_to, takes_byte, takes_end, stop_at}
use Rattle.tac_code.specs.declared.code.Value.TheVariants.{Number}
use Rattle.tac_code.specs.declared.code.Instruction.TheVariants.{Trap, Take, Put, End}
use Rattle.tac_code.specs.Meaning.{fetch, State, Over, Tape, onward, giving, told, end_taken, takes}
use Rattle.risc_emit_relation.specs.Context.{Context, home, Places, IsNumber}
use Rattle.risc_emit_relation.specs.Related.{Related}
use Rattle.risc_emit_relation.specs.Changes.{Near}
use Rattle.risc_emit_relation.proofs.Basics.{update_same, update_other}
use Rattle.risc_emit_relation.proofs.Walk.{walk_is}
use Rattle.risc_emit_forms.specs.Pieces.{Plain}
use Rattle.risc_emit_forms.specs.Forms as form
use Rattle.risc_emit_forms.specs.Forms.{fetched, target, save, device}
use Rattle.risc_emit_forms.specs.Follows.{machine_of, Built, Belongs, Comes, Stops, Follows, tape_of}
use Rattle.risc_emit_forms.proofs.Basics.{left_after, left_next, is_read, passes, writes_it, among_first}
use Rattle.risc_emit_forms.proofs.Flags.{silent}
use Rattle.risc_emit_forms.proofs.Runs.{step_to}
use Rattle.risc_emit_forms.proofs.Fetches.{fetched_not, target_not}
use Rattle.risc_emit_forms.proofs.Comes.{framed, test_failing, goes_end, gives_end}
use Rattle.risc_emit_forms.proofs.Joins.{come_to, come_way, stop_to, Arrives}
use Rattle.risc_emit_forms.proofs.Comes.{test_walked}
use Rattle.risc_emit_forms.proofs.Operands.{code, one_run}

module _ (c : Context) (words : List ℕ) (b : Built c words) (p : Places) (s : State) (f : ℕ) (m : machine.State)
    (v : View) (sh : Shows words c.size m v) (be : Belongs c words p s v f) where
  pub trap_follows : (number line : ℕ) → fetch c.code s.current.routine s.current.place ≡ Some (Trap number line)
      → Follows c words (Over (test_failing c s number line)) s m
  trap_follows number line here =
      test_walked c words b s on.Always number line [] _ m v
      (walk_is c b.laid p b.stood.unlinked 16 s (machine_of v) f be.related) sh
      (code c words b p s f m v sh be (Trap number line) here) refl

  pub end_follows : fetch c.code s.current.routine s.current.place ≡ Some End → Stops c words s m Normal
  end_follows here =
      let l = code c words b p s f m v sh be End here in
      let i1 = word.Move 12 (instr.Constant (negsuc 63)) in
      let t1 = step_to c words b.stood i1 m v sh l.stands.0 tt in
      let v1 = after i1 v in
      let i2 = word.Move 15 (instr.Constant (pos 0)) in
      let t2 = step_to c words b.stood i2 t1.to v1 t1.shows l.stands.2.0 tt in
      let v2 = after i2 v1 in
      let st = stop_at words c.size b.stood.fits 15 12 t2.to v2 t2.shows l.stands.2.2.0 refl in
      stop_to c words b s m Normal v1 t1 (stop_to c words b s t1.to Normal v2 t2 (record {
        word = 0;
        at = st.at;
        view = at_view (v2.place + 1) v2;
        shows = st.shows;
        is = refl;
        by = λ k. st.by k (tape_of s.tape);
      }))

  -- ---- input and output

  -- the relation says nothing of the tape
  retaped : (tape : Tape) → Related c p (record s { tape = tape }) (machine_of v) f
  retaped tape =
      let h = be.related in
      let k = h.held in
      record {
        stack = h.stack;
        globals = h.globals;
        held = record {
          aligned = k.aligned;
          low = k.low;
          frames = k.frames;
          objects = k.objects;
          limit = k.limit;
          next = k.next;
          room = k.room;
          whole = k.whole;
          count = k.count;
          some = k.some;
          program = k.program;
          places = k.places;
        };
        homes = h.homes;
      }

  -- a byte is put
  pub put_follows : (a n : ℕ) → n < 256 → fetch c.code s.current.routine s.current.place ≡ Some (Put a)
      → s.current.temporaries a ≡ Some (Number (pos n)) → Comes c words s
      (record s { current = onward s.current; tape = told n s.tape }) m
  put_follows a n lt here e =
      let r = s.current.routine in
      let k = s.current.place in
      let l = code c words b p s f m v sh be (Put a) here in
      let d = fetched c r 12 (home c r a) in
      let rest = device 15 ∷ Plain (word.Store Word d 15 (pos 8)) ∷ [] in
      let g = one_run c words b p s f m v sh be 12 a (Number (pos n)) rest _ (omega arith)
      (is_read c r k (Put a) here a (among_first a [])) e l in
      let v1 = g.view in
      let l1 = left_after c words v.place v1.place _ (form.fetch c r 12 (home c r a)) rest l g.place in
      let i2 = word.Move 15 (instr.Constant (negsuc 63)) in
      let t2 = step_to c words b.stood i2 g.way.to v1 g.way.shows l1.stands.0 tt in
      let v2 = after i2 v1 in
      let n15 = fetched_not c words b.stood b.laid b.placed r f
      (framed c words b p s (machine_of v) f be.related) 12 a 15 (omega arith) (omega arith) in
      let byte : v2.registers d % 256 ≡ n = ap (λ x. x % 256) (update_other v1.registers 15 _ d n15 ∙ g.value)
      ∙ low_byte n lt in
      let t3 = put_to words c.size b.stood.fits d 15 t2.to v2 t2.shows l1.stands.2.0 refl in
      let v3 = at_view (v2.place + 1) v2 in
      let both = to_join words c.size g.way.to same_tape (run.told (v2.registers d % 256)) v2 v3 t2 t3 in
      let s1 = record s { tape = told n s.tape } in
      let s' = record s { current = onward s.current; tape = told n s.tape } in
      let near : Near (machine_of v) (machine_of v3) = record {
        registers = λ q n12 n15. update_other v1.registers 15 _ q n15 ∙ g.moved.registers q n12;
        words = g.moved.words;
      } in
      let z = goes_end c words b p s1 (machine_of v) f (suc k) both.to v3 (retaped (told n s.tape)) be.input
      (passes c r k (Put a) here (suc k) refl (among_first (suc k) [])) both.shows near (behind v1.place l1.ends) in
      come_way c words b s s' m v1 g.way (come_to c words b s s' g.way.to
      (λ x. run.told (v2.registers d % 256) (same_tape x)) v3 both (ap (λ x. run.told x (tape_of s.tape)) byte) z)
    where
      low_byte : (n : ℕ) → n < 256 → word_of_int (pos n) % 256 ≡ n
      low_byte n lt = omega (arith, ints)

      behind : (x : ℕ) → c.site s.current.routine (suc s.current.place) ≡ x + 2 → x + 1 + 1 ≡ c.site s.current.routine
          (suc s.current.place)
      behind x e = omega (arith, e)

  -- what is taken goes to a temporary
  taken_end : (t w : ℕ) (z : ℤ) (tape : Tape) (n : machine.State) (v1 v2 : View)
      → fetch c.code s.current.routine s.current.place ≡ Some (Take t) → IsNumber z → word_of_int z ≡ w
      → AreBytes tape.input → v1 ≡ after (word.Move 15 (instr.Constant (negsuc 63))) v → v2 ≡ result_view
      (target c s.current.routine (home c s.current.routine t)) w v1 → Shows words c.size n v2 → Arrives c words
      (record s { current = giving t (Number z) s.current; tape = tape }) n
  taken_end t w z tape n v1 v2 here is e bytes e1 e2 shows =
      let r = s.current.routine in
      let d = target c r (home c r t) in
      let l = code c words b p s f m v sh be (Take t) here in
      let s1 = record s { tape = tape } in
      let n15 = target_not c words b.stood b.laid b.placed r f (framed c words b p s (machine_of v) f be.related) t 15
      (omega arith) in
      let w1 = after (word.Move 15 (instr.Constant (negsuc 63))) v in
      let w2 = result_view d w w1 in
      let same : v2 ≡ w2 = e2 ∙ ap (result_view d w) e1 in
      let sh2 = subst (Shows words c.size n) same shows in
      gives_end c words b p s1 (machine_of v) f t (Number z) n w2 (retaped tape) bytes
      (writes_it c r s.current.place (Take t) here t refl refl)
      (silent c r s.current.place (Take t) here refl) is sh2 (record {
        here = update_same w1.registers d w ∙ sym e;
        registers = λ q n12 n15 nd. update_other w1.registers d w q nd ∙ update_other v.registers 15 _ q n15;
        words = λ a. refl;
      }) (left_next c words (v.place + 1) _ _ (save c r (home c r t)) (left_next c words v.place _ _ _ l))

  byte_follows : (t x : ℕ) (rest : List ℕ) → fetch c.code s.current.routine s.current.place ≡ Some (Take t)
      → s.tape.input ≡ x ∷ rest → Comes c words s (record s {
        current = giving t (Number (pos x)) s.current;
        tape = record {
          input = rest;
          ended = s.tape.ended;
          transcript = s.tape.transcript ++ mark ∷ [];
        };
      }) m
  byte_follows t x rest here e =
      let r = s.current.routine in
      let d = target c r (home c r t) in
      let l = code c words b p s f m v sh be (Take t) here in
      let i1 = word.Move 15 (instr.Constant (negsuc 63)) in
      let t1 = step_to c words b.stood i1 m v sh l.stands.0 tt in
      let v1 = after i1 v in
      let k = take_to words c.size b.stood.fits d 15 t1.to v1 t1.shows l.stands.2.0 refl in
      let bytes : AreBytes (x ∷ rest) = subst AreBytes e be.input in
      let first : x < 256 = bytes 0 0 (omega arith) in
      let others : AreBytes rest = λ i y lt. bytes (suc i) y (omega (arith, lt)) in
      let tape : Tape = record { input = rest; ended = s.tape.ended; transcript = s.tape.transcript ++ mark ∷ [] } in
      let s' = record s { current = giving t (Number (pos x)) s.current; tape = tape } in
      let z = taken_end t x (pos x) tape (k.to (Some x)) v1 (result_view d x v1) here (number_is x first)
      (word_is x first) others refl refl (k.byte x first) in
      come_runs s' (k.to (Some x)) z (λ n. let y = takes_byte words c.size t1.to d v1 k (tape_of s.tape) x rest e n
      in let w = t1.runs y.0 (tape_of s.tape) in (w.0, omega (arith, y.1, w.1), w.2 ∙ y.2))
    where
      number_is : (x : ℕ) → x < 256 → IsNumber (pos x)
      number_is x lt = (omega (arith, ints), omega (arith, ints))

      word_is : (x : ℕ) → x < 256 → word_of_int (pos x) ≡ x
      word_is x lt = omega (arith, ints)

      come_runs : (s' : State) (n : machine.State) → Arrives c words s' n
          → ((k : ℕ) → (j : ℕ) × (k < j) × (run.exec j m (tape_of s.tape) ≡ run.exec k n (tape_of s'.tape)))
          → Comes c words s s' m
      come_runs s' n a runs =
          record {
            to = a.to;
            places = a.places;
            view = a.view;
            frame = a.frame;
            shows = a.shows;
            meets = a.meets;
            runs = λ k. let x = a.runs k in let y = runs x.0 in (y.0, omega (arith, x.1, y.1), y.2 ∙ x.2);
          }

  end_of_input_follows : (t : ℕ) → fetch c.code s.current.routine s.current.place ≡ Some (Take t) → s.tape.input ≡ []
      → Comes c words s (record s {
        current = giving t
            (Number (negsuc 0)) s.current;
        tape = end_taken s.tape.ended s.tape;
      }) m
  end_of_input_follows t here e =
      let r = s.current.routine in
      let d = target c r (home c r t) in
      let l = code c words b p s f m v sh be (Take t) here in
      let i1 = word.Move 15 (instr.Constant (negsuc 63)) in
      let t1 = step_to c words b.stood i1 m v sh l.stands.0 tt in
      let v1 = after i1 v in
      let k = take_to words c.size b.stood.fits d 15 t1.to v1 t1.shows l.stands.2.0 refl in
      let tape = end_taken s.tape.ended s.tape in
      let s' = record s { current = giving t (Number (negsuc 0)) s.current; tape = tape } in
      let z = taken_end t (2 ^ 32 - 1) (negsuc 0) tape (k.to None) v1 (result_view d (2 ^ 32 - 1) v1) here
      (omega (arith, ints), omega (arith, ints)) (omega (arith, ints)) (bytes_left s.tape.ended) refl refl k.end in
      come_runs s' (k.to None) z (λ n. let y = takes_end words c.size t1.to d v1 k (tape_of s.tape) e n
      in let w = t1.runs y.0 (tape_of s.tape)
      in (w.0, omega (arith, y.1, w.1), w.2 ∙ y.2 ∙ ap (run.exec n (k.to None)) (same_end s.tape.ended)))
    where
      bytes_left : (ended : Bool) → AreBytes (end_taken ended s.tape).input
      bytes_left true = be.input
      bytes_left false = λ i y lt. absurd (omega (arith, lt))

      same_end : (ended : Bool) → run.take_end ended (tape_of s.tape) ≡ tape_of (end_taken ended s.tape)
      same_end true = refl
      same_end false = refl

      come_runs : (s' : State) (n : machine.State) → Arrives c words s' n
          → ((k : ℕ) → (j : ℕ) × (k < j) × (run.exec j m (tape_of s.tape) ≡ run.exec k n (tape_of s'.tape)))
          → Comes c words s s' m
      come_runs s' n a runs =
          record {
            to = a.to;
            places = a.places;
            view = a.view;
            frame = a.frame;
            shows = a.shows;
            meets = a.meets;
            runs = λ k. let x = a.runs k in let y = runs x.0 in (y.0, omega (arith, x.1, y.1), y.2 ∙ x.2);
          }

  pub take_follows : (t : ℕ) (input : List ℕ) → fetch c.code s.current.routine s.current.place ≡ Some (Take t)
      → s.tape.input ≡ input → Follows c words (takes t input s) s m
  take_follows t [] here e = end_of_input_follows t here e
  take_follows t (x ∷ rest) here e = byte_follows t x rest here e
