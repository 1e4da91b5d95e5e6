-- A new object followed by its words.
use Rattle.std.proofs.Common.{◌≡◌, ◌≢◌, ℕ, suc, ◌+◌, ◌-◌, ◌%◌, ◌^◌, ◌<◌, ◌≤◌, inr, Bool, true, false, cond, nat_eq}
use Rattle.std.proofs.Common.{nat_lt, nat_le, List, [], ◌∷◌, ◌++◌, length, Some, slice_get, pos, refl, sym, ap, ◌∙◌}
use Rattle.std.proofs.Common.{subst, arith}
use Rattle.std.proofs.lemmas.Int.{ints}
use Rattle.behavior.specs.Endings.{Heap}
use Rattle.risc_word.specs.declared.instr.Operation.TheVariants as op
use Rattle.risc_word.specs.declared.instr.Operand.TheVariants.{Content, Constant}
use Rattle.risc_word.specs.declared.instr.Width.TheVariants.{Word}
use Rattle.risc_word.specs.declared.instr.Condition.TheVariants as on
use Rattle.risc_word.specs.declared.instr.Instr.TheVariants as word
use Rattle.risc_machine.specs.Step as machine
use Rattle.risc_machine.specs.Step.{word_of_int}
use Rattle.risc_machine.specs.declared.limits.TheConstants.{ADDRESSES, SIGN_BIT}
use Rattle.risc_machine_laws.specs.View.{View, Shows, IsReadable, IsWritable, after, at_view}
use Rattle.risc_machine_laws.specs.Runs.{same_tape}
use Rattle.risc_machine_laws.proofs.Runs.{to_join}
use Rattle.tac_code.specs.declared.code.Instruction.TheVariants.{New}
use Rattle.tac_code.specs.Meaning.{fetch, State, Goes, Over, made}
use Rattle.risc_emit_relation.specs.Context.{Context, home, Places}
use Rattle.risc_emit_relation.specs.Changes.{update, made_places, advanced}
use Rattle.risc_emit_relation.proofs.Basics.{update_other}
use Rattle.risc_emit_relation.proofs.Kept.{base_bottom}
use Rattle.risc_emit_relation.proofs.Heap.{related_makes}
use Rattle.risc_emit_relation.proofs.Walk.{heap_exact}
use Rattle.risc_emit_forms.specs.Pieces as piece
use Rattle.risc_emit_forms.specs.Pieces.{Piece, Plain, Left}
use Rattle.risc_emit_forms.specs.Forms.{number, constant, receive}
use Rattle.risc_emit_forms.specs.Follows.{machine_of, Built, Belongs, Follows}
use Rattle.risc_emit_forms.proofs.Basics.{left_after, left_next, writes_it}
use Rattle.risc_emit_forms.proofs.Flags.{silent}
use Rattle.risc_emit_forms.proofs.Runs.{Aside, Gets, step_to, constant_run}
use Rattle.risc_emit_forms.proofs.Results.{receive_run}
use Rattle.risc_emit_forms.proofs.Joins.{left_whole, come_to, arrive_to, arrive_here}
use Rattle.risc_emit_forms.proofs.Comes.{framed, fails_not, fails_walked}
use Rattle.risc_emit_forms.proofs.Comes.{walk_near}
use Rattle.risc_emit_forms.proofs.Operands.{code}
use Rattle.risc_emit_forms.proofs.Calls.{follows_to}

module _ (c : Context) (words : List ℕ) (b : Built c words) (p : Places) (S H : ℕ) (room : H + c.heap_at ≡ c.base)
    (s : State) (f : ℕ) (m : machine.State) (v : View) (sh : Shows words c.size m v)
    (be : Belongs c words p s v f) where
  -- a count of bytes into R12
  bytes_run : (n : ℕ) (ps : List Piece) (next : ℕ) (n0 : machine.State) (w : View) → Shows words c.size n0 w
      → n < 2 ^ 32 → Left c words w.place (number 12 (pos n) ++ ps) next → Gets c words b.stood 12 n
      (length (number 12 (pos n))) n0 w
  bytes_run n ps next n0 w sh' lt l = go (nat_lt n 65536) l
    where
      same : (n : ℕ) → n < 2 ^ 32 → word_of_int (pos n) ≡ n
      same n lt = omega (arith, ints, lt)

      go : (small : Bool) → Left c words w.place
          (cond small (Plain (word.Move 12 (Constant (pos n))) ∷ []) (constant 12 (word_of_int (pos n))) ++ ps) next
          → Gets c words b.stood 12 n (length (cond small (Plain (word.Move 12 (Constant (pos n))) ∷ [])
          (constant 12 (word_of_int (pos n))))) n0 w
      go true l =
          let i = word.Move 12 (Constant (pos n)) in
          record {
            view = after i w;
            to = step_to c words b.stood i n0 w sh' l.stands.0 tt;
            value = same n lt;
            moved = record { registers = λ q ne. update_other w.registers 12 _ q ne; words = λ a. refl; high = refl };
            zero = ap (λ x. nat_eq x 0) (same n lt);
            minus = ap (nat_le SIGN_BIT) (same n lt);
            place = refl;
          }
      go false l =
          let g = constant_run c words b.stood 12 (word_of_int (pos n)) ps next n0 w sh'
          (let e = same n lt in omega (arith, e, lt)) l in
          record {
            view = g.view;
            to = g.to;
            value = g.value ∙ same n lt;
            moved = g.moved;
            zero = g.zero ∙ ap (λ x. nat_eq x 0) (same n lt);
            minus = g.minus ∙ ap (nat_le SIGN_BIT) (same n lt);
            place = g.place;
          }

  -- the words of the limit and of the heap's next address
  record Two : Type 0 where
    limit_ok : IsReadable c.size (c.bottom + 268)
    next_ok : IsReadable c.size (c.bottom + 272)
    next_put : IsWritable words c.size (c.bottom + 272)

  two_words : Two
  two_words =
      let pr = b.laid.program 0 b.laid.first in
      let r0 = b.laid.slots_before 0 in
      let r1 = b.laid.frame_before 0 in
      let r2 = b.laid.scratch_before 0 in
      let wh = b.laid.whole 0 in
      let under = base_bottom c b.laid p s v.words f be.related.held in
      record {
        limit_ok = record {
          aligned = omega (arith, b.laid.bottom, wh, b.laid.even.2);
          high = omega (arith, b.laid.bottom, pr.1, pr.2, r0, r1, r2);
        };
        next_ok = record {
          aligned = omega (arith, b.laid.bottom, wh, b.laid.even.2);
          high = omega (arith, b.laid.bottom, pr.1, pr.2, r0, r1, r2);
        };
        next_put = record {
          aligned = omega (arith, b.laid.bottom, wh, b.laid.even.2);
          low = omega (arith, b.stood.code, b.laid.order.1, under);
          high = omega (arith, b.laid.bottom, pr.1, pr.2, r0, r1, r2);
        };
      }

  pub new_follows : (t type line bytes : ℕ) → fetch c.code s.current.routine s.current.place ≡ Some (New t type line)
      → slice_get c.code.objects type ≡ Some bytes → (full : Bool) → nat_lt H (s.heap + c.sizes type) ≡ full
      → Follows c words (cond full (Over (Heap line)) (Goes (made c.code c.costs c.sizes S H t type bytes s))) s m
  new_follows t type line bytes here eb full ef =
      let r = s.current.routine in
      let k = s.current.place in
      let i = New t type line in
      let G = c.sizes type in
      let next = c.heap_at + s.heap in
      let l = code c words b p s f m v sh be i here in
      let tw = two_words in
      let sz = b.stood.sizes type bytes eb in
      let e13 = be.related.globals in
      let i1 = word.Load Word 15 13 (pos 268) in
      let t1 = step_to c words b.stood i1 m v sh l.stands.0
      (tt, subst (λ x. IsReadable c.size (x + 268)) (sym e13) tw.limit_ok) in
      let v1 = after i1 v in
      let i2 = word.Load Word 12 13 (pos 272) in
      let t2 = step_to c words b.stood i2 t1.to v1 t1.shows l.stands.2.0
      (tt, subst (λ x. IsReadable c.size (x + 272)) (sym e13) tw.next_ok) in
      let v2 = after i2 v1 in
      let i3 = word.Operate op.Sub 15 15 (Content 12) in
      let t3 = step_to c words b.stood i3 t2.to v2 t2.shows l.stands.2.2.0 tt in
      let v3 = after i3 v2 in
      let e15 : v2.registers 15 ≡ c.base = ap (λ x. v.words (x + 268)) e13 ∙ be.related.held.limit in
      let e12 : v2.registers 12 ≡ next = ap (λ x. v.words (x + 272)) e13 ∙ be.related.held.next in
      let free : v3.registers 15 ≡ c.base - next = subtracted (v2.registers 15)
      (v2.registers 12) c.base next e15 e12 be.related.held.room (omega (arith, b.laid.order.2, b.laid.order.3)) in
      let i5 = word.Operate op.Sub 15 15 (Content 12) in
      let i7 = word.Load Word 15 13 (pos 272) in
      let i8 = word.Operate op.Add 12 12 (Content 15) in
      let i9 = word.Store Word 12 13 (pos 272) in
      let i10 = word.Move 12 (Content 15) in
      let tail = Plain i7 ∷ Plain i8 ∷ Plain i9 ∷ Plain i10 ∷ receive c r (home c r t) in
      let rest = Plain i5 ∷ piece.Fails on.CarrySet 13 line ∷ tail in
      let l3 = left_next c words v2.place _ (Plain i3) (number 12 (pos G) ++ rest)
      (left_next c words v1.place _ _ _ (left_next c words v.place _ _ _ l)) in
      let g = bytes_run G rest _ t3.to v3 t3.shows sz.4 l3 in
      let v4 = g.view in
      let l4 = left_after c words v3.place v4.place _ (number 12 (pos G)) rest l3 g.place in
      let t5 = step_to c words b.stood i5 g.to.to v4 g.to.shows l4.stands.0 tt in
      let v5 = after i5 v4 in
      let l5 = left_next c words v4.place _ (Plain i5) _ l4 in
      let f15 : v4.registers 15 ≡ c.base - next = g.moved.registers 15 (omega arith) ∙ free in
      let carry : v5.carry ≡ nat_lt (c.base - next) G = ap (λ x. nat_lt x (v4.registers 12 + 0)) f15
      ∙ ap (λ x. nat_lt (c.base - next) (x + 0)) g.value ∙ ap (nat_lt (c.base - next)) (plus_zero G) in
      let exact = heap_exact c b.laid p H s v.words f G room be.related.held in
      let old : (q : ℕ) → q ≢ 12 → q ≢ 15 → v5.registers q
      ≡ v.registers q = λ q n12 n15. update_other v4.registers 15 _ q n15 ∙ g.moved.registers q n12
      ∙ update_other v2.registers 15 _ q n15 ∙ update_other v1.registers 12 _ q n12
      ∙ update_other v.registers 15 _ q n15 in
      let mem : (x : ℕ) → v5.words x ≡ v.words x = g.moved.words in
      let run = to_join words c.size m same_tape same_tape v1 v5 t1
      (to_join words c.size t1.to same_tape same_tape v2 v5 t2
      (to_join words c.size t2.to same_tape same_tape v3 v5 t3
      (to_join words c.size t3.to same_tape same_tape v4 v5 g.to t5))) in
      let step = cond full (Over (Heap line)) (Goes (made c.code c.costs c.sizes S H t type bytes s)) in
      follows_to c words b s m v5 run step (ends run.to v5 run.shows l5 old mem g.value full ef (carry ∙ sym exact))
    where
      plus_zero : (x : ℕ) → x + 0 ≡ x
      plus_zero x = omega arith

      subtracted : (x y base next : ℕ) → x ≡ base → y ≡ next → next ≤ base → base < ADDRESSES
          → (x + 2 ^ 33 - y - 0) % 2 ^ 32 ≡ base - next
      subtracted x y base next e e' le lt = omega (arith, e, e', le, lt)

      not_more : (x y : ℕ) → nat_lt x y ≡ false → y ≤ x
      not_more x y e = grind arith

      update_eq : (g h : ℕ → ℕ) (a a' n n' j : ℕ) → a ≡ a' → n ≡ n' → g j ≡ h j → update a n g j ≡ update a' n' h j
      update_eq g h a a' n n' j e e' e'' =
          ap (λ z. cond (nat_eq j z) n (g j)) e ∙ ap (λ z. cond (nat_eq j a') z (g j)) e'
          ∙ ap (λ z. cond (nat_eq j a') n' z) e''

      added : (x y g next base : ℕ) → x ≡ g → y ≡ next → next + g ≤ base → base < ADDRESSES →
          (x + y + 0) % 2 ^ 32 ≡ next
          + g
      added x y g next base e e' le lt = omega (arith, e, e', le, lt)

      ends : (n : machine.State) (w : View) → Shows words c.size n w → Left c words w.place
          (piece.Fails on.CarrySet 13 line ∷ Plain (word.Load Word 15 13 (pos 272)) ∷ Plain
          (word.Operate op.Add 12 12 (Content 15)) ∷ Plain (word.Store Word 12 13 (pos 272)) ∷ Plain
          (word.Move 12 (Content 15)) ∷ receive c s.current.routine (home c s.current.routine t))
          (c.site s.current.routine (suc s.current.place)) → ((q : ℕ) → q ≢ 12 → q ≢ 15 → w.registers q ≡ v.registers q)
          → ((x : ℕ) → w.words x ≡ v.words x) → w.registers 12 ≡ c.sizes type → (full : Bool) → nat_lt H
          (s.heap + c.sizes type) ≡ full → w.carry ≡ nat_lt H (s.heap + c.sizes type) → Follows c words
          (cond full (Over (Heap line)) (Goes (made c.code c.costs c.sizes S H t type bytes s))) s n
      ends n w sh' l old mem r12 true ef carry =
          inr (fails_walked c words b s on.CarrySet 13 line _ _ n w
          (walk_near c words b p s (machine_of v) f w be.related (old 14 (omega arith) (omega arith)) mem) sh' l
          (carry ∙ ef))
      ends n w sh' l old mem r12 false ef carry =
          let r = s.current.routine in
          let k = s.current.place in
          let h = home c r t in
          let G = c.sizes type in
          let next = c.heap_at + s.heap in
          let fit = not_more H (s.heap + G) ef in
          let above : next + G ≤ c.base = omega (arith, fit, room) in
          let tw = two_words in
          let sz = b.stood.sizes type bytes eb in
          let t6 = fails_not c words b on.CarrySet 13 line _ _ n w sh' l (carry ∙ ef) in
          let v6 = at_view (w.place + 1) w in
          let l6 = left_next c words w.place _ _ _ l in
          let e13 : w.registers 13 ≡ c.bottom = old 13 (omega arith) (omega arith) ∙ be.related.globals in
          let i7 = word.Load Word 15 13 (pos 272) in
          let t7 = step_to c words b.stood i7 t6.to v6 t6.shows l6.stands.0
          (tt, subst (λ x. IsReadable c.size (x + 272)) (sym e13) tw.next_ok) in
          let v7 = after i7 v6 in
          let e15 : v7.registers 15 ≡ next = mem _ ∙ ap (λ x. v.words (x + 272)) e13 ∙ be.related.held.next in
          let i8 = word.Operate op.Add 12 12 (Content 15) in
          let t8 = step_to c words b.stood i8 t7.to v7 t7.shows l6.stands.2.0 tt in
          let v8 = after i8 v7 in
          let e12 : v8.registers 12 ≡ next + G = added (v7.registers 12) (v7.registers 15) G next c.base r12 e15 above
          (omega (arith, b.laid.order.2, b.laid.order.3)) in
          let i9 = word.Store Word 12 13 (pos 272) in
          let t9 = step_to c words b.stood i9 t8.to v8 t8.shows l6.stands.2.2.0
          (tt, subst (λ x. IsWritable words c.size (x + 272)) (sym e13) tw.next_put) in
          let v9 = after i9 v8 in
          let i10 = word.Move 12 (Content 15) in
          let t10 = step_to c words b.stood i10 t9.to v9 t9.shows l6.stands.2.2.2.0 tt in
          let v10 = after i10 v9 in
          let l10 = left_next c words v9.place _ _ _
          (left_next c words v8.place _ _ _ (left_next c words v7.place _ _ _
          (left_next c words v6.place _ _ _ l6))) in
          let m0 = advanced c (machine_of v) (next + G) in
          let fr = framed c words b p s (machine_of v) f be.related in
          let aside : Aside 12 next m0 v10 = record {
            here = e15;
            registers = λ q n12 n15 nd. update_other v9.registers 12 _ q n12 ∙ update_other v7.registers 12 _ q n12
                ∙ update_other v6.registers 15 _ q n15 ∙ old q n12 n15;
            words = λ x. update_eq v8.words v.words _ _ _ _ x (ap (λ y. y + 272) e13) e12 (mem x);
          } in
          let run = to_join words c.size n same_tape same_tape v6 v10 t6
          (to_join words c.size t6.to same_tape same_tape v7 v10 t7
          (to_join words c.size t7.to same_tape same_tape v8 v10 t8
          (to_join words c.size t8.to same_tape same_tape v9 v10 t9 t10))) in
          let z = receive_run c words b.stood b.laid b.placed r f fr t next [] _ m0 run.to v10 run.shows
          be.related.stack aside (left_whole c words v10.place _ (receive c r h) l10) in
          let s' = made c.code c.costs c.sizes S H t type bytes s in
          let p' = made_places p (length s.memory.objects) next in
          let rel = related_makes c b.laid b.placed p c.sizes S H s (machine_of v)
          (machine_of z.view) f t type bytes be.related sz.0 sz.1 sz.2 sz.3 above
          (writes_it c r k (New t type line) here t refl refl) z.settled in
          come_to c words b s s' n same_tape v10 run refl
          (arrive_to c words b s' run.to z.view z.to
          (arrive_here c words b p' s' z.to.to z.view f z.to.shows (record {
            related = rel;
            place = z.place ∙ sym l10.ends;
            input = be.input;
            flags = silent c r k (New t type line) here refl z.view;
          })))
