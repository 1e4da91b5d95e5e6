-- How an instruction's words are followed: frames, branches, stops, and the ends in which they reach the next state.
use Rattle.std.proofs.Common.{◌≡◌, ◌≢◌, ℕ, zero, suc, ◌+◌, ◌*◌, ◌%◌, ◌<◌, ◌≤◌, inl, inr, Bool, true, false, cond}
use Rattle.std.proofs.Common.{nat_eq, nat_le, List, [], ◌∷◌, length, take, Some, pos, negsuc, ℤ, refl, sym, ap, ◌∙◌}
use Rattle.std.proofs.Common.{subst, arith}
use Rattle.std.proofs.lemmas.Int.{ints}
use Rattle.std.proofs.lemmas.Option.{slice_get_within}
use Rattle.behavior.specs.Endings.{Ending, Stack, Heap, Error, Stuck, ending_by}
use Rattle.behavior.specs.Transcripts.{AreBytes}
use Rattle.risc_word.specs.declared.instr.Condition.{Condition}
use Rattle.risc_word.specs.declared.instr.Operand.TheVariants.{Constant}
use Rattle.risc_word.specs.declared.instr.Target.TheVariants.{Relative}
use Rattle.risc_word.specs.declared.instr.Instr.TheVariants as word
use Rattle.risc_machine.specs.Step as machine
use Rattle.risc_machine.specs.Step.{word_of_int}
use Rattle.risc_machine.specs.declared.limits.TheConstants.{PLACES, SIGN_BIT}
use Rattle.risc_machine_laws.specs.View.{View, Fits, IsAt, HasAt, Shows, after, at_view, link_view, target_view}
use Rattle.risc_machine_laws.specs.View.{holds_view, reached}
use Rattle.risc_machine_laws.specs.Runs.{To, same_tape}
use Rattle.risc_machine_laws.specs.Numbers.{distance}
use Rattle.risc_machine_laws.proofs.Runs.{plain_to, branch_taken, branch_passed, stop_at}
use Rattle.risc_machine_laws.proofs.Numbers.{target_reached}
use Rattle.tac_code.specs.declared.code.Value.{Value}
use Rattle.tac_code.specs.declared.code.Instruction.{Instruction}
use Rattle.tac_code.specs.Meaning.{fetch, State, Over, giving, open_calls, test_ending}
use Rattle.risc_alloc.specs.declared.homes.Home.TheVariants.{Reg}
use Rattle.risc_image.specs.declared.header.TheConstants.{MAX_COUNT}
use Rattle.risc_emit_relation.specs.Context.{Context, home, Places, word, IsValue, Passes, Writes}
use Rattle.risc_emit_relation.specs.Related.{Machine, Related, value_of, owner_of}
use Rattle.risc_emit_relation.specs.Changes.{update, Near, Settled}
use Rattle.risc_emit_relation.specs.Walk.{walk}
use Rattle.risc_emit_relation.proofs.Basics.{update_same, update_other}
use Rattle.risc_emit_relation.proofs.Frames.{open_room}
use Rattle.risc_emit_relation.proofs.Steps.{related_goes, related_gives}
use Rattle.risc_emit_relation.proofs.Walk.{walk_is, walk_same}
use Rattle.risc_emit_forms.specs.Pieces.{Label, label_place, Piece, Goes, Fails, Left}
use Rattle.risc_emit_forms.specs.Forms.{target, save, receive, skip}
use Rattle.risc_emit_forms.specs.Peephole.{flagged_by, deferred_at}
use Rattle.risc_emit_forms.specs.Follows.{machine_of, stub, Built, tape_of, Flags, Straight, with_deferred, Meets}
use Rattle.risc_emit_forms.specs.Follows.{Stops}
use Rattle.risc_emit_forms.specs.Follows.{Follows, trapped, told}
use Rattle.risc_emit_forms.proofs.Flags.{told_behind, flagged_straight, passed_silent}
use Rattle.risc_emit_forms.proofs.Runs.{Aside, Framed}
use Rattle.risc_emit_forms.proofs.Results.{in_register, save_run, receive_run}
use Rattle.risc_emit_forms.proofs.Joins.{Arrives, arrive_here, arrive_to, arrive_way, left_whole}

-- ---- endings

taken_twice : (n : ℕ) (xs : List ℕ) → take n (take n xs) ≡ take n xs
taken_twice zero xs = refl
taken_twice (suc n) [] = refl
taken_twice (suc n) (x ∷ xs) = ap (λ l. x ∷ l) (taken_twice n xs)

-- an ending reports no more than the first calls
pub told_first : (number line : ℕ) (calls : List ℕ) → ending_by number line calls ≡ ending_by number line
    (take 16 calls)
told_first number line calls =
    ap (λ l. cond (nat_eq number 12) (Stack line) (cond (nat_eq number 13) (Heap line) (Error number line l)))
    (sym (taken_twice 16 calls))

link_told : (c : Context) (v : View) (w n : ℕ) → w ≡ suc n → told c w v ≡ trapped (c.trap w)
    (walk c.line c.size 16 v.words (v.registers 14))
link_told c v w n e =
    subst (λ w. told c w v ≡ trapped (c.trap w) (walk c.line c.size 16 v.words (v.registers 14))) (sym e) refl

-- the ending of an error in a state
abbrev pub failing : Context → State → ℕ → ℕ → Ending
failing c s number line = ending_by number line (open_calls (length c.code.program) s.current s.callers)

-- and of a test that fails, which is stuck where its number is 0
abbrev pub test_failing : Context → State → ℕ → ℕ → Ending
test_failing c s number line = test_ending number line (open_calls (length c.code.program) s.current s.callers)

module _ (c : Context) (words : List ℕ) (b : Built c words) where
  fits : Fits words c.size
  fits = b.stood.fits

  -- ---- frames

  -- slots of the innermost frame are in memory, past the code
  pub framed : (p : Places) (s : State) (m : Machine) (f : ℕ) → Related c p s m f → Framed c words s.current.routine f
  framed p s m f h =
      let top = open_room c b.laid p m.words f
      (owner_of s.current) s.callers s.memory.frames s.memory.scratch h.held.frames in
      let ar = b.laid.aligned s.current.routine in
      record {
        readable = λ t k e.
            let q = b.laid.slots s.current.routine t k e in
            record {
              aligned = omega (arith, h.held.aligned, ar.1);
              high = omega (
                arith,
                q,
                top,
                b.laid.frame_before s.current.routine,
                b.laid.scratch_before
                    s.current.routine,
              );
            };
        writable = λ t k e.
            let q = b.laid.slots s.current.routine t k e in
            record {
              aligned = omega (arith, h.held.aligned, ar.1);
              low = omega (arith, b.stood.code, b.laid.order.1, h.held.low);
              high = omega (
                arith,
                q,
                top,
                b.laid.frame_before s.current.routine,
                b.laid.scratch_before
                    s.current.routine,
              );
            };
      }

  -- ---- branches

  pub place_low : (at : ℕ) (i : _) → IsAt words at i → at < MAX_COUNT
  place_low at i h = let lt = slice_get_within words at _ h.word in omega (arith, lt, b.stood.short)

  pub goes_run : (condition : Condition) (label : Label) (ps : List Piece) (next : ℕ) (m : machine.State) (v : View)
      → Shows words c.size m v → Left c words v.place (Goes condition label ∷ ps) next → holds_view v condition ≡ true
      → label_place c label ≤ MAX_COUNT → To words c.size m same_tape (at_view (label_place c label) v)
  goes_run condition label ps next m v sh l e low =
      let t = branch_taken words c.size fits condition false
      (Relative (distance v.place (label_place c label))) m v sh l.stands.0 e in
      let lt = place_low v.place _ l.stands.0 in
      subst (λ x. To words c.size m same_tape (at_view x v))
      (target_reached v.place (label_place c label) (omega (arith, lt)) (omega (arith, low))) t

  pub goes_not : (condition : Condition) (label : Label) (ps : List Piece) (next : ℕ) (m : machine.State) (v : View)
      → Shows words c.size m v → Left c words v.place (Goes condition label ∷ ps) next → holds_view v condition ≡ false
      → To words c.size m same_tape (at_view (v.place + 1) v)
  goes_not condition label ps next m v sh l e =
      branch_passed words c.size fits condition false
      (Relative (distance v.place (label_place c label))) m v sh l.stands.0 e

  -- n words are passed
  pub skip_run : (condition : Condition) (n : ℕ) (ps : List Piece) (next : ℕ) (m : machine.State) (v : View)
      → Shows words c.size m v → Left c words v.place (skip condition n ∷ ps) next → holds_view v condition ≡ true
      → n < MAX_COUNT → To words c.size m same_tape (at_view (v.place + 1 + n) v)
  skip_run condition n ps next m v sh l e small =
      let t = branch_taken words c.size fits condition false (Relative (pos n)) m v sh l.stands.0 e in
      let lt = place_low v.place _ l.stands.0 in
      subst (λ x. To words c.size m same_tape (at_view x v)) (reached v.place lt) t
    where
      reached : (at : ℕ) → at < MAX_COUNT → (at + 1 + word_of_int (pos n)) % PLACES ≡ at + 1 + n
      reached at lt = omega (arith, ints, small)

  pub skip_not : (condition : Condition) (n : ℕ) (ps : List Piece) (next : ℕ) (m : machine.State) (v : View)
      → Shows words c.size m v → Left c words v.place (skip condition n ∷ ps) next → holds_view v condition ≡ false
      → To words c.size m same_tape (at_view (v.place + 1) v)
  skip_not condition n ps next m v sh l e =
      branch_passed words c.size fits condition false (Relative (pos n)) m v sh l.stands.0 e

  -- ---- stops

  pub fails_not : (condition : Condition) (number line : ℕ) (ps : List Piece) (next : ℕ) (m : machine.State) (v : View)
      → Shows words c.size m v → Left c words v.place (Fails condition number line ∷ ps) next → holds_view v condition
      ≡ false → To words c.size m same_tape (at_view (v.place + 1) v)
  fails_not condition number line ps next m v sh l e =
      branch_passed words c.size fits condition true (Relative (distance v.place 1)) m v sh l.stands.0 e

  -- where the walk gives the open calls, an error is reported with them
  pub fails_walked : (s : State) (condition : Condition) (number line : ℕ) (ps : List Piece) (next : ℕ)
      (m : machine.State) (v : View) → walk c.line c.size 16 v.words (v.registers 14) ≡ take 16
      (open_calls (length c.code.program) s.current s.callers) → Shows words c.size m v → Left c words v.place
      (Fails condition number line ∷ ps) next → holds_view v condition ≡ true → Stops c words s m
      (failing c s number line)
  fails_walked s condition number line ps next m v walked sh l e =
      let goal = Relative (distance v.place 1) in
      let t1 = branch_taken words c.size fits condition true goal m v sh l.stands.0 e in
      let v1 = at_view (target_view v goal) (link_view true v) in
      let lt = place_low v.place _ l.stands.0 in
      let there : v1.place ≡ 1 = target_reached v.place 1 (omega (arith, lt)) (omega arith) in
      let at1 = subst (λ k. HasAt words k stub) (sym there) b.stood.stub in
      let i = word.Move 12 (Constant (negsuc 63)) in
      let t2 = plain_to words c.size fits i t1.to v1 t1.shows tt at1.0 in
      let v2 = after i v1 in
      let st = stop_at words c.size fits 15 12 t2.to v2 t2.shows at1.1.0 refl in
      let link = 4 * (v.place + 1) in
      let row : c.trap link ≡ Some (number, line) = l.stands.1 in
      record {
        word = link;
        at = st.at;
        view = at_view (v2.place + 1) v2;
        shows = st.shows;
        is = told_first number line _ ∙ ap (ending_by number line) (sym walked)
            ∙ ap (λ o. trapped o (walk c.line c.size 16 v.words (v.registers 14))) (sym row) ∙ sym
            (link_told c (at_view (v2.place + 1) v2) link (4 * v.place + 3) (omega arith));
        by = λ k. let x = st.by k (tape_of s.tape) in let y = t2.runs x.0 (tape_of s.tape) in let z = t1.runs y.0
            (tape_of s.tape) in (z.0, omega (arith, x.1, y.1, z.1), z.2 ∙ y.2 ∙ x.2);
      }

  -- the same for a test, where nothing is required if its number is 0
  pub test_walked : (s : State) (condition : Condition) (number line : ℕ) (ps : List Piece) (next : ℕ)
      (m : machine.State) (v : View) → walk c.line c.size 16 v.words (v.registers 14) ≡ take 16
      (open_calls (length c.code.program) s.current s.callers) → Shows words c.size m v → Left c words v.place
      (Fails condition number line ∷ ps) next → holds_view v condition ≡ true → Follows c words
      (Over (test_failing c s number line)) s m
  test_walked s condition number line ps next m v walked sh l e = go (nat_eq number 0)
    where
      go : (none : Bool) → Follows c words (Over (cond none Stuck (failing c s number line))) s m
      go true = inl refl
      go false = inr (fails_walked s condition number line ps next m v walked sh l e)

  -- a test that has no words, and would fail
  pub untested : (s : State) (number line : ℕ) (m : machine.State) → nat_eq number 0 ≡ true → Follows c words
      (Over (test_failing c s number line)) s m
  untested s number line m e = inl (ap (λ t. cond t Stuck (failing c s number line)) e)

  pub walk_near : (p : Places) (s : State) (m0 : Machine) (f : ℕ) (v : View) → Related c p s m0 f → v.registers 14
      ≡ m0.registers 14 → ((a : ℕ) → v.words a ≡ m0.words a) → walk c.line c.size 16 v.words (v.registers 14) ≡ take 16
      (open_calls (length c.code.program) s.current s.callers)
  walk_near p s m0 f v h e14 same =
      ap (walk c.line c.size 16 v.words) e14 ∙ walk_same c.line c.size 16 v.words m0.words (m0.registers 14)
      (λ a al top. same a) ∙ walk_is c b.laid p b.stood.unlinked 16 s m0 f h

  -- ---- ends

  -- the instruction writes no temporary
  pub goes_end : (p : Places) (s : State) (m0 : Machine) (f k : ℕ) (m : machine.State) (v : View) → Related c p s m0 f
      → AreBytes s.tape.input → Passes c s.current.routine s.current.place k → Shows words c.size m v → Near m0
      (machine_of v) → v.place ≡ c.site s.current.routine k → Arrives c words
      (record s { current = record s.current { place = k } }) m
  goes_end p s m0 f k m v h bytes g sh n e =
      arrive_here c words b p (record s { current = record s.current { place = k } }) m v f sh (record {
        related = related_goes c b.laid b.placed p s m0 (machine_of v) f k h g n;
        place = e;
        input = bytes;
        flags = passed_silent c s.current.routine s.current.place k g v;
      })

  -- it writes one, whose register holds its word
  gives_by : (p : Places) (s : State) (m0 : Machine) (f t : ℕ) (x : Value) (m : machine.State) (v : View)
      → Related c p s m0 f → AreBytes s.tape.input → Writes c s.current.routine s.current.place t
      → ((w : View) → ((q : ℕ) → home c s.current.routine t ≡ Reg q → (w.equal ≡ v.equal) × (w.negative ≡ v.negative)
      × (w.registers q ≡ word c p x)) → Straight c s.current.routine (suc s.current.place) w) → IsValue c p x
      → Shows words c.size m v → Aside (target c s.current.routine (home c s.current.routine t)) (word c p x) m0 v
      → Left c words v.place (save c s.current.routine (home c s.current.routine t))
      (c.site s.current.routine (suc s.current.place)) → Arrives c words (record s { current = giving t x s.current }) m
  gives_by p s m0 f t x m v h bytes g flags good sh a l =
      let r = s.current.routine in
      let z = save_run c words b.stood b.laid b.placed r f (framed p s m0 f h) t (word c p x) [] _ m0 m v sh h.stack a
      (left_whole c words v.place _ (save c r (home c r t)) l) in
      let flagged = flags z.view (λ q is. let still = z.still q is
      in (still.0, still.1, ap (value_of c r f (machine_of z.view)) (sym is) ∙ z.settled.here)) in
      arrive_way c words b (record s { current = giving t x s.current }) m z.view z.way
      (arrive_here c words b p (record s { current = giving t x s.current }) z.way.to z.view f z.way.shows (record {
        related = related_gives c b.laid b.placed p s m0 (machine_of z.view) f t x h g good z.settled;
        place = z.place ∙ sym l.ends;
        input = bytes;
        flags = flagged;
      }))

  -- and the flags belong to no temporary
  pub gives_end : (p : Places) (s : State) (m0 : Machine) (f t : ℕ) (x : Value) (m : machine.State) (v : View)
      → Related c p s m0 f → AreBytes s.tape.input → Writes c s.current.routine s.current.place t
      → ((w : View) → Straight c s.current.routine (suc s.current.place) w) → IsValue c p x → Shows words c.size m v
      → Aside (target c s.current.routine (home c s.current.routine t)) (word c p x) m0 v → Left c words v.place
      (save c s.current.routine (home c s.current.routine t)) (c.site s.current.routine (suc s.current.place))
      → Arrives c words (record s { current = giving t x s.current }) m
  gives_end p s m0 f t x m v h bytes g silent good sh a l =
      gives_by p s m0 f t x m v h bytes g (λ w stood. silent w) good sh a l

  -- or N and Z are those of its word
  pub tells_end : (p : Places) (s : State) (m0 : Machine) (f t : ℕ) (x : Value) (i : Instruction) (m : machine.State)
      (v : View) → Related c p s m0 f → AreBytes s.tape.input → Writes c s.current.routine s.current.place t
      → fetch c.code s.current.routine s.current.place ≡ Some i → flagged_by i ≡ Some t
      → (v.equal ≡ nat_eq (word c p x) 0) × (v.negative ≡ nat_le SIGN_BIT (word c p x)) → IsValue c p x
      → Shows words c.size m v → Aside (target c s.current.routine (home c s.current.routine t)) (word c p x) m0 v
      → Left c words v.place (save c s.current.routine (home c s.current.routine t))
      (c.site s.current.routine (suc s.current.place)) → Arrives c words (record s { current = giving t x s.current }) m
  tells_end p s m0 f t x i m v h bytes g here is flags good sh a l = gives_by p s m0 f t x m v h bytes g flagged good sh
      a l
    where
      flagged : (w : View) → ((q : ℕ) → home c s.current.routine t ≡ Reg q → (w.equal ≡ v.equal)
          × (w.negative ≡ v.negative) × (w.registers q ≡ word c p x)) → Straight c s.current.routine
          (suc s.current.place) w
      flagged w stood = (flags_of w stood, flagged_straight c s.current.routine s.current.place i t here is)
        where
          flags_of : (w : View) → ((q : ℕ) → home c s.current.routine t ≡ Reg q → (w.equal ≡ v.equal)
              × (w.negative ≡ v.negative) × (w.registers q ≡ word c p x)) → Flags c s.current.routine
              (suc s.current.place) w
          flags_of w stood u q e h =
              let same : t ≡ u = cc (sym is ∙ told_behind c s.current.routine s.current.place i u here e) in
              let k = stood q (ap (home c s.current.routine) same ∙ h) in
              (k.0 ∙ flags.0 ∙ ap (λ n. nat_eq n 0) (sym k.2), k.1 ∙ flags.1 ∙ ap (nat_le SIGN_BIT) (sym k.2))

  -- the same from R12
  pub receives_end : (p : Places) (s : State) (m0 : Machine) (f t : ℕ) (x : Value) (m : machine.State) (v : View)
      → Related c p s m0 f → AreBytes s.tape.input → Writes c s.current.routine s.current.place t
      → ((w : View) → Straight c s.current.routine (suc s.current.place) w) → IsValue c p x → Shows words c.size m v
      → Aside 12 (word c p x) m0 v → Left c words v.place (receive c s.current.routine (home c s.current.routine t))
      (c.site s.current.routine (suc s.current.place)) → Arrives c words (record s { current = giving t x s.current }) m
  receives_end p s m0 f t x m v h bytes g silent good sh a l =
      let r = s.current.routine in
      let z = receive_run c words b.stood b.laid b.placed r f (framed p s m0 f h) t
      (word c p x) [] _ m0 m v sh h.stack a (left_whole c words v.place _ (receive c r (home c r t)) l) in
      arrive_to c words b (record s { current = giving t x s.current }) m z.view z.to
      (arrive_here c words b p (record s { current = giving t x s.current }) z.to.to z.view f z.to.shows (record {
        related = related_gives c b.laid b.placed p s m0 (machine_of z.view) f t x h g good z.settled;
        place = z.place ∙ sym l.ends;
        input = bytes;
        flags = silent z.view;
      }))

  -- its home already took the word
  pub settles_end : (p : Places) (s : State) (m0 : Machine) (f t : ℕ) (x : Value) (m : machine.State) (v : View)
      → Related c p s m0 f → AreBytes s.tape.input → Writes c s.current.routine s.current.place t
      → ((w : View) → Straight c s.current.routine (suc s.current.place) w) → IsValue c p x → Shows words c.size m v
      → Settled c s.current.routine f (home c s.current.routine t) (word c p x) m0 (machine_of v) → v.place
      ≡ c.site s.current.routine (suc s.current.place) → Arrives c words (record s { current = giving t x s.current }) m
  settles_end p s m0 f t x m v h bytes g silent good sh d e =
      arrive_here c words b p (record s { current = giving t x s.current }) m v f sh (record {
        related = related_gives c b.laid b.placed p s m0 (machine_of v) f t x h g good d;
        place = e;
        input = bytes;
        flags = silent v;
      })

  -- the register of its home took its word, less what it is short of
  pub defers_end : (p : Places) (s : State) (m0 : Machine) (f t : ℕ) (x : Value) (deferred : ℕ × ℤ) (m : machine.State)
      (v : View) → Related c p s m0 f → AreBytes s.tape.input → Writes c s.current.routine s.current.place t
      → Flags c s.current.routine (suc s.current.place) v → deferred_at c s.current.routine (suc s.current.place)
      ≡ Some deferred → home c s.current.routine t ≡ Reg deferred.0 → IsValue c p x → Shows words c.size m v
      → reached (v.registers deferred.0) deferred.1 ≡ word c p x
      → ((q : ℕ) → q ≢ 12 → q ≢ 15 → q ≢ deferred.0 → v.registers q ≡ m0.registers q)
      → ((a : ℕ) → v.words a ≡ m0.words a) → v.place ≡ c.site s.current.routine (suc s.current.place) → Arrives c words
      (record s { current = giving t x s.current }) m
  defers_end p s m0 f t x deferred m v h bytes g flags is home_is good sh here regs same e =
      let r = s.current.routine in
      let v' = record v { registers = update deferred.0 (reached (v.registers deferred.0) deferred.1) v.registers } in
      let lt = b.placed.register r t deferred.0 home_is in
      let a : Aside deferred.0 (word c p x) m0 v' = record {
        here = update_same v.registers deferred.0 _ ∙ here;
        registers = λ q n12 n15 nq. update_other v.registers deferred.0 _ q nq ∙ regs q n12 n15 nq;
        words = same;
      } in
      let settled = in_register c words b.stood b.laid b.placed r f (framed p s m0 f h) deferred.0 (word c p x) m0 v' lt
      a
      in
      let s' = record s { current = giving t x s.current } in
      let rel = related_gives c b.laid b.placed p s m0 (machine_of v') f t x h g good
      (subst (λ y. Settled c r f y (word c p x) m0 (machine_of v')) (sym home_is) settled) in
      let meets : Meets c words p s' v f = record {
        related = subst (λ o. Related c p s' (with_deferred o (machine_of v)) f) (sym is) rel;
        place = e;
        input = bytes;
        flags = flags;
      } in
      record { to = m; places = p; view = v; frame = f; shows = sh; meets = meets; runs = λ k. (k, omega arith, refl) }
