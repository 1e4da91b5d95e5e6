-- Returns followed by their words, up to the caller's next instruction.
use Rattle.std.proofs.Common.{◌≡◌, ℕ, zero, suc, ◌+◌, ◌*◌, ◌/◌, ◌%◌, ◌<◌, ◌≤◌, Bool, true, false, cond, List, [], ◌∷◌}
use Rattle.std.proofs.Common.{◌++◌, length, Option, Some, None, pos, refl, sym, ap, ◌∙◌, subst, arith}
use Rattle.std.proofs.lemmas.Bool.{eqb-true}
use Rattle.risc_word.specs.declared.instr.Width.TheVariants.{Word}
use Rattle.risc_word.specs.declared.instr.Condition.TheVariants as on
use Rattle.risc_word.specs.declared.instr.Target.TheVariants.{Absolute}
use Rattle.risc_word.specs.declared.instr.Instr.TheVariants as word
use Rattle.risc_machine.specs.Step as machine
use Rattle.risc_machine.specs.declared.limits.TheConstants.{ADDRESSES, PLACES}
use Rattle.risc_machine_laws.specs.View.{View, Shows, IsReadable, after, at_view, link_view, target_view}
use Rattle.risc_machine_laws.specs.Runs.{To, same_tape}
use Rattle.risc_machine_laws.proofs.Runs.{branch_taken, to_join}
use Rattle.tac_code.specs.declared.code.Value.{Value}
use Rattle.tac_code.specs.declared.code.Instruction.{Instruction}
use Rattle.tac_code.specs.declared.code.Instruction.TheVariants.{Call, CallValue, Return}
use Rattle.tac_code.specs.Meaning.{fetch, Activation, State}
use Rattle.risc_alloc.specs.declared.homes.Home.TheVariants.{Slot, Reg}
use Rattle.risc_alloc.specs.Flow.{gives_to}
use Rattle.risc_image.specs.declared.header.TheConstants.{MAX_COUNT}
use Rattle.risc_emit_relation.specs.Context.{Context, home, called, is_program, cost, Places, IsValue}
use Rattle.risc_emit_relation.specs.Context as ctx
use Rattle.risc_emit_relation.specs.Related.{owner_of, Open}
use Rattle.risc_emit_relation.specs.Changes.{Leaving, left}
use Rattle.risc_emit_relation.proofs.Frames.{program_room, leaf_room, open_room}
use Rattle.risc_emit_relation.proofs.Found.{cost_aligned}
use Rattle.risc_emit_relation.proofs.Calls.{Back, back_of, related_leaves}
use Rattle.risc_emit_forms.specs.Pieces.{Piece, Plain, Left}
use Rattle.risc_emit_forms.specs.Forms.{into, accept, offer, offer_by}
use Rattle.risc_emit_forms.specs.Follows.{machine_of, Built, Belongs, Comes, tape_of}
use Rattle.risc_emit_forms.proofs.Basics.{left_after, left_next, left_at, is_read, among_first}
use Rattle.risc_emit_forms.proofs.Flags.{called_silent}
use Rattle.risc_emit_forms.proofs.Runs.{Framed, step_to}
use Rattle.risc_emit_forms.proofs.Results.{into_run, accept_run}
use Rattle.risc_emit_forms.proofs.Joins.{left_whole, come_to, come_way, arrive_way, arrive_here}
use Rattle.risc_emit_forms.proofs.Comes.{framed, place_low}
use Rattle.risc_emit_forms.proofs.Operands.{code, stands_in}

module _ (c : Context) (words : List ℕ) (b : Built c words) where
  -- the slots of a frame that is on the stack
  pub framed_at : (r f : ℕ) → f % 4 ≡ 0 → c.base ≤ f → f + c.used r ≤ c.size → Framed c words r f
  framed_at r f al low top =
      let ar = b.laid.aligned r in
      record {
        readable = λ t k e.
            let q = b.laid.slots r t k e in
            record {
              aligned = omega (arith, al, ar.1);
              high = omega (arith, q, top, b.laid.frame_before r, b.laid.scratch_before r);
            };
        writable = λ t k e.
            let q = b.laid.slots r t k e in
            record {
              aligned = omega (arith, al, ar.1);
              low = omega (arith, b.stood.code, b.laid.order.1, low);
              high = omega (arith, q, top, b.laid.frame_before r, b.laid.scratch_before r);
            };
      }

  -- a call comes back within the words, or right after them
  resume_low : (r k t : ℕ) → called c r k t ≡ true → c.resume r k t ≤ MAX_COUNT
  resume_low r zero t e = absurd (cc e)
  resume_low r (suc j) t e = go (fetch c.code r j) refl e
    where
      low : (u : ℕ) (ps : List Piece) (piece : Piece) → t ≡ u → Left c words (c.site r j)
          (ps ++ (piece ∷ accept c r (home c r u))) (c.site r (suc j)) → c.resume r (suc j) t ≤ MAX_COUNT
      low u ps piece same l =
          let l1 = left_after c words (c.site r j) (c.site r j + length ps) _ ps
          (piece ∷ accept c r (home c r u)) l refl in
          let lt = place_low c words b (c.site r j + length ps) _ l1.stands.0 in
          let len = ap (λ x. length (accept c r (home c r x))) same in
          omega (arith, lt, len, l1.ends, (b.stood.resumes r (suc j) t e).ends)

      go : (o : Option Instruction) → fetch c.code r j ≡ o → gives_to o t ≡ true → c.resume r (suc j) t ≤ MAX_COUNT
      go None here e = absurd (cc e)
      go (Some (Call u q us line)) here e =
          low u (offer c r us) _ (eqb-true t u e) (b.stood.body r j (Call u q us line) here)
      go (Some (CallValue u a us line)) here e =
          low u (offer_by c r a us) _ (eqb-true t u e) (b.stood.body r j (CallValue u a us line) here)
      go (Some _) here e = absurd (cc e)

  link_place : (j : ℕ) → j < PLACES → 4 * j % ADDRESSES / 4 ≡ j
  link_place j lt = omega arith

module _ (c : Context) (words : List ℕ) (b : Built c words) (p : Places) (s : State) (f : ℕ) (m : machine.State)
    (v : View) (sh : Shows words c.size m v) (be : Belongs c words p s v f) (x : Activation) (xs : List Activation)
    (called : s.callers ≡ x ∷ xs) where
  opened : Open c p v.words f (owner_of s.current) (x ∷ xs) s.memory.frames s.memory.scratch
  opened = subst (λ l. Open c p v.words f (owner_of s.current) l s.memory.frames s.memory.scratch) called
      be.related.held.frames

  back : Back c b.laid b.placed p v.words f (owner_of s.current) x xs s.memory.frames s.memory.scratch
  back = back_of c b.laid b.placed p v.words f (owner_of s.current) x xs s.memory.frames s.memory.scratch opened

  abbrev above : ℕ
  above = f + cost c s.current.routine

  -- back at the caller, with its frame in R14, the link in R15 and the result in R0
  pub returned_run : (y : Value) (n : machine.State) (w : View) → Shows words c.size n w → IsValue c p y → w.registers 0
      ≡ ctx.word c p y → w.registers 15 ≡ v.words (f + c.link_at s.current.routine) → w.registers 14 ≡ above
      → w.registers 13 ≡ v.registers 13 → ((a : ℕ) → w.words a ≡ v.words a) → Left c words w.place
      (Plain (word.Branch on.Always false (Absolute 15)) ∷ []) (c.site s.current.routine (suc s.current.place))
      → Comes c words s (left y x xs s) n
  returned_run y n w shows good e0 e15 e14 e13 same l =
      let r = x.routine in
      let h = home c r s.current.result in
      let at = c.resume r x.place s.current.result in
      let t1 = branch_taken words c.size b.stood.fits on.Always false (Absolute 15) n w shows l.stands.0 refl in
      let w1 = at_view (target_view w (Absolute 15)) (link_view false w) in
      let l2 = b.stood.resumes r x.place s.current.result back.waits.call in
      let low = resume_low c words b r x.place s.current.result back.waits.call in
      let e15' : w.registers 15 ≡ 4 * at = e15 ∙ back.waits.resume in
      let there : w1.place ≡ at = ap (λ z. z % ADDRESSES / 4) e15' ∙ link_place c words b at (omega (arith, low)) in
      let l2' = left_whole c words w1.place _ (accept c r h) (left_at c words at w1.place _ (accept c r h) l2 there) in
      let top = open_room c b.laid p v.words above (owner_of x) xs _ _ back.frames in
      let al = cost_aligned c b.laid p v.words s.current.routine in
      let fr = framed_at c words b r above (omega (arith, be.related.held.aligned, al))
      (omega (arith, be.related.held.low)) top in
      let k = accept_run c words b.stood b.laid b.placed r above fr s.current.result
      (ctx.word c p y) [] _ t1.to w1 t1.shows e14 e0 l2' in
      let leaving : Leaving c p s x (machine_of v) (machine_of k.view) above y = record {
        good = good;
        here = k.settled.here;
        slots = λ j ne. k.settled.others (Slot j) ne (no_register j) ∙ same _;
        words = λ a side. k.settled.words a side ∙ same a;
        stack = k.settled.stack ∙ e14;
        globals = k.settled.globals ∙ e13;
      } in
      let s' = left y x xs s in
      come_to c words b s s' n same_tape w1 t1 refl
      (arrive_way c words b s' t1.to k.view k.way
      (arrive_here c words b p s' k.way.to k.view above k.way.shows (record {
        related = related_leaves c b.laid b.placed p s x xs (machine_of v)
            (machine_of k.view) f y be.related called leaving;
        place = k.place ∙ ap (λ z. z + length (accept c r h)) there ∙ sym l2.ends;
        input = be.input;
        flags = called_silent c r x.place s.current.result back.waits.call k.view;
      })))
    where
      no_register : (j q : ℕ) → Slot j ≡ Reg q → q < 12
      no_register j q e = absurd (cc e)

  pub return_follows : (a : ℕ) (y : Value) → fetch c.code s.current.routine s.current.place ≡ Some (Return a)
      → s.current.temporaries a ≡ Some y → Comes c words s (left y x xs s) m
  return_follows a y here e = go (is_program c s.current.routine) refl (code c words b p s f m v sh be (Return a) here)
    where
      at_link : (z : ℕ) → z ≡ f → c.link_at s.current.routine ≡ 0 → z + 0 ≡ f + c.link_at s.current.routine
      at_link z e e' = omega (arith, e, e')

      come_to_come : {n : machine.State} {w : View} (a : To words c.size n same_tape w) → Comes c words s
          (left y x xs s) a.to → Comes c words s (left y x xs s) n
      come_to_come {n} {w} a r =
          record {
            to = r.to;
            places = r.places;
            view = r.view;
            frame = r.frame;
            shows = r.shows;
            meets = r.meets;
            runs = λ k. let z = r.runs k in let u = a.runs z.0 (tape_of s.tape)
                in (u.0, omega (arith, z.1, u.1), u.2 ∙ z.2);
          }

      go : (prog : Bool) → is_program c s.current.routine ≡ prog → Left c words v.place
          (into c s.current.routine 0 (home c s.current.routine a) ++ cond prog
          (Plain (word.Load Word 15 14 (pos 0)) ∷ Plain (word.Load Word 14 14 (pos 4)) ∷ Plain
          (word.Branch on.Always false (Absolute 15)) ∷ [])
          (Plain (word.Load Word 15 14 (pos (c.link_at s.current.routine))) ∷ Plain
          (word.Branch on.Always false (Absolute 15)) ∷ [])) (c.site s.current.routine (suc s.current.place))
          → Comes c words s (left y x xs s) m
      go true prog l =
          let r = s.current.routine in
          let rest = Plain (word.Load Word 15 14 (pos 0)) ∷ Plain (word.Load Word 14 14 (pos 4)) ∷ Plain
          (word.Branch on.Always false (Absolute 15)) ∷ [] in
          let q = program_room c b.laid p r prog in
          let top = open_room c b.laid p v.words f
          (owner_of s.current) s.callers s.memory.frames s.memory.scratch be.related.held.frames in
          let fr = framed c words b p s (machine_of v) f be.related in
          let g = into_run c words b.stood b.laid b.placed r f fr 0 a rest _ m v sh (omega arith) be.related.stack l in
          let there = stands_in c words b p s f m v sh be a y
          (is_read c r s.current.place (Return a) here a (among_first a [])) e in
          let v1 = g.view in
          let l1 = left_after c words v.place v1.place _ (into c r 0 (home c r a)) rest l g.place in
          let e14 : v1.registers 14 ≡ f = g.moved.registers 14 (omega arith) ∙ be.related.stack in
          let i2 = word.Load Word 15 14 (pos 0) in
          let r2 : IsReadable c.size (v1.registers 14 + 0) = record {
            aligned = omega (arith, e14, be.related.held.aligned);
            high = omega (arith, e14, top, q.0, q.1, q.2, q.3);
          } in
          let t2 = step_to c words b.stood i2 g.way.to v1 g.way.shows l1.stands.0 (tt, r2) in
          let v2 = after i2 v1 in
          let i3 = word.Load Word 14 14 (pos 4) in
          let r3 : IsReadable c.size (v2.registers 14 + 4) = record {
            aligned = omega (arith, e14, be.related.held.aligned);
            high = omega (arith, e14, top, q.0, q.1, q.2, q.3);
          } in
          let t3 = step_to c words b.stood i3 t2.to v2 t2.shows l1.stands.2.0 (tt, r3) in
          let v3 = after i3 v2 in
          let l3 = left_next c words v2.place _ _ _ (left_next c words v1.place _ _ _ l1) in
          let e15 : v3.registers 15 ≡ v.words (f + c.link_at r) = g.moved.words _ ∙ ap v.words
          (at_link (v1.registers 14) e14 q.5) in
          let f4 : v3.registers 14 ≡ f + cost c r = g.moved.words (v2.registers 14 + 4) ∙ ap v.words
          (ap (λ z. z + 4) e14) ∙ back.caller prog in
          let both = to_join words c.size g.way.to same_tape same_tape v2 v3 t2 t3 in
          let s' = left y x xs s in
          come_way c words b s (left y x xs s) m v1 g.way
          (come_to_come both (returned_run y both.to v3 both.shows there.0 (g.value ∙ there.1) e15 f4
          (g.moved.registers 13 (omega arith)) g.moved.words l3))
      go false leaf l =
          let r = s.current.routine in
          let i2 = word.Load Word 15 14 (pos (c.link_at r)) in
          let rest = Plain i2 ∷ Plain (word.Branch on.Always false (Absolute 15)) ∷ [] in
          let q = leaf_room c b.laid p r leaf in
          let top = open_room c b.laid p v.words f
          (owner_of s.current) s.callers s.memory.frames s.memory.scratch be.related.held.frames in
          let fr = framed c words b p s (machine_of v) f be.related in
          let g = into_run c words b.stood b.laid b.placed r f fr 0 a rest _ m v sh (omega arith) be.related.stack l in
          let there = stands_in c words b p s f m v sh be a y
          (is_read c r s.current.place (Return a) here a (among_first a [])) e in
          let v1 = g.view in
          let l1 = left_after c words v.place v1.place _ (into c r 0 (home c r a)) rest l g.place in
          let e14 : v1.registers 14 ≡ f = g.moved.registers 14 (omega arith) ∙ be.related.stack in
          let ar = b.laid.aligned r in
          let r2 : IsReadable c.size (v1.registers 14 + c.link_at r) = record {
            aligned = omega (arith, e14, be.related.held.aligned, ar.0);
            high = omega (arith, e14, top, q.1, q.2, q.3, q.4);
          } in
          let t2 = step_to c words b.stood i2 g.way.to v1 g.way.shows l1.stands.0 (tt, r2) in
          let v2 = after i2 v1 in
          let l2 = left_next c words v1.place _ _ _ l1 in
          let e15 : v2.registers 15 ≡ v.words (f + c.link_at r) = g.moved.words _
          ∙ ap (λ z. v.words (z + c.link_at r)) e14 in
          let f4 : v2.registers 14 ≡ f + cost c r = omega (arith, e14, q.6) in
          come_way c words b s (left y x xs s) m v1 g.way
          (come_to_come t2 (returned_run y t2.to v2 t2.shows there.0 (g.value ∙ there.1) e15 f4
          (g.moved.registers 13 (omega arith)) g.moved.words l2))
