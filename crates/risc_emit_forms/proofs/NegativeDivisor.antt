-- The quotient by a divisor below 0.
use Rattle.std.proofs.Common.{◌≡◌, ◌≢◌, ℕ, suc, ◌+◌, ◌-◌, ◌%◌, ◌^◌, ◌≤◌, Bool, true, false, cond, not, nat_eq}
use Rattle.std.proofs.Common.{nat_lt, List, ◌∷◌, ◌++◌, length, Some, ℤ, pos, negsuc, ◌-ℤ◌, refl, sym, ap, ◌∙◌, subst}
use Rattle.std.proofs.Common.{arith, append_assoc}
use Rattle.std.specs.Prelude.{int_div, neg_ℤ, ◌<ℤ◌}
use Rattle.std.proofs.lemmas.Int.{ints}
use Rattle.std.proofs.lemmas.Bool.{ltb-false}
use Rattle.risc_word.specs.declared.instr.Operation.TheVariants as op
use Rattle.risc_word.specs.declared.instr.Operand as instr
use Rattle.risc_word.specs.declared.instr.Operand.TheVariants.{Content, Constant}
use Rattle.risc_word.specs.declared.instr.Condition.TheVariants as on
use Rattle.risc_word.specs.declared.instr.Instr.TheVariants as word
use Rattle.risc_machine.specs.Step as machine
use Rattle.risc_machine.specs.Step.{signed, overflows}
use Rattle.risc_machine_laws.specs.View.{View, Shows, operand_view, after, at_view}
use Rattle.risc_machine_laws.specs.Runs.{To, same_tape}
use Rattle.risc_machine_laws.specs.Numbers.{difference_of}
use Rattle.risc_machine_laws.proofs.Runs.{to_join}
use Rattle.risc_machine_laws.proofs.Numbers.{signed_word, difference_word, quotient_negated}
use Rattle.tac_code.specs.declared.code.Value.TheVariants.{Number}
use Rattle.tac_code.specs.Numbers.{is_integer, same_number, word_of, Gives, Fails, within}
use Rattle.tac_code.specs.Meaning.{State, Over, giving, gives_computed}
use Rattle.tac_code.specs.declared.code.TheConstants.{NUMBER_LIMIT}
use Rattle.risc_emit_relation.specs.Context.{Context, home, reads, Places, Writes, IsNumber}
use Rattle.risc_emit_relation.specs.Changes.{Near}
use Rattle.risc_emit_relation.proofs.Basics.{update_same, update_other}
use Rattle.risc_emit_forms.specs.Pieces as piece
use Rattle.risc_emit_forms.specs.Pieces.{Piece, Plain, Left}
use Rattle.risc_emit_forms.specs.Forms as form
use Rattle.risc_emit_forms.specs.Forms.{fetched, receive, skip, idle, rounded, quotient, quotient_by_least}
use Rattle.risc_emit_forms.specs.Forms.{quotient_by_negative}
use Rattle.risc_emit_forms.specs.Follows.{machine_of, Built, Straight, Belongs, Follows}
use Rattle.risc_emit_forms.proofs.Basics.{left_after, left_next, left_at}
use Rattle.risc_emit_forms.proofs.Runs.{step_to}
use Rattle.risc_emit_forms.proofs.Joins.{come_to}
use Rattle.risc_emit_forms.proofs.Comes.{skip_run, skip_not, fails_not, test_failing, test_walked, untested}
use Rattle.risc_emit_forms.proofs.Comes.{walk_near}
use Rattle.risc_emit_forms.proofs.Numbers.{overflow_is, number_of_integer}
use Rattle.risc_emit_forms.proofs.Quotients.{quotient_is, remainder_pos}
use Rattle.risc_emit_forms.proofs.Calls.{follows_to}
use Rattle.risc_emit_forms.proofs.DivideRuns.{Made, fetch_short, least_length, made_end, quotient_length, quotient_run}
use Rattle.risc_emit_forms.proofs.LeastDivisor.{least_quotient, least_run}

module _ (c : Context) (words : List ℕ) (b : Built c words) (p : Places) (s : State) (f : ℕ) (m : machine.State)
    (v : View) (sh : Shows words c.size m v) (be : Belongs c words p s v f) where
  -- ---- by a divisor below 0

  -- numbers negated
  negated_is : (x y : ℤ) → y <ℤ pos 0 → int_div x y ≡ pos 0 -ℤ int_div x (pos 0 -ℤ y)
  negated_is x y h =
      ap (int_div x) (twice y) ∙ quotient_negated x (pos 0 -ℤ y) (omega (arith, ints, h)) ∙ minus
      (int_div x (pos 0 -ℤ y))
    where
      minus : (z : ℤ) → neg_ℤ z ≡ pos 0 -ℤ z
      minus z = omega (arith, ints)

      twice : (y : ℤ) → y ≡ neg_ℤ (pos 0 -ℤ y)
      twice y = omega (arith, ints)

  zero_is : IsNumber (pos 0)
  zero_is = (omega (arith, ints), omega (arith, ints))

  -- what SUB makes of 0 less a number
  zero_less : (d a : ℕ) (o : instr.Operand) (z : ℤ) (w : View) → IsNumber z → w.registers a ≡ 0 → operand_view w o
      ≡ word_of z → ((after (word.Operate op.Sub d a o) w).overflow ≡ overflows (pos 0 -ℤ z))
      × (IsNumber (pos 0 -ℤ z) → (after (word.Operate op.Sub d a o) w).registers d ≡ word_of (pos 0 -ℤ z))
  zero_less d a o z w is e0 eo = (
    ap (λ q. overflows (signed q -ℤ signed (operand_view w o) -ℤ pos 0)) e0
        ∙ ap (λ q. overflows (signed 0 -ℤ signed q -ℤ pos 0)) eo
        ∙ ap (λ q. overflows (q -ℤ signed (word_of z) -ℤ pos 0)) (signed_word (pos 0) zero_is)
        ∙ ap (λ q. overflows (pos 0 -ℤ q -ℤ pos 0)) (signed_word z is) ∙ ap overflows
        (minus_zero (pos 0 -ℤ z)),
    λ h. update_same w.registers d _
        ∙ ap (λ q. (q + 2 ^ 33 - operand_view w o - 0) % 2 ^ 32) e0 ∙ ap (λ q. (0 + 2 ^ 33 - q - 0) % 2 ^ 32) eo
        ∙ difference_word (pos 0) z zero_is is h,
  )
    where
      minus_zero : (z : ℤ) → z -ℤ pos 0 ≡ z
      minus_zero z = omega (arith, ints)

  abbrev behind_quotient : ℕ → ℕ → ℕ → List Piece → List Piece
  behind_quotient a error line ps =
      Plain (word.Move 15 (Constant (pos 0))) ∷ Plain (word.Operate op.Sub 12 15 (Content 12))
      ∷ form.opposite_test c s.current.routine error line ∷ skip on.Always
      (length (quotient_by_least c s.current.routine a)) ∷ (quotient_by_least c s.current.routine a ++ ps)

  -- the result goes to the temporary, or the error
  pub given : (t error line : ℕ) (z : ℤ) (n : machine.State) → Writes c s.current.routine s.current.place t
      → ((u : View) → Straight c s.current.routine (suc s.current.place) u) → is_integer z ≡ true
      → Made c words b p s f m v sh be z
      (receive c s.current.routine (home c s.current.routine t)) (c.site s.current.routine (suc s.current.place)) n
      → Follows c words (gives_computed c.code t (within error z) line s) s n
  given t error line z n wr silent e k = go (is_integer z) e
    where
      go : (q : Bool) → q ≡ true → Follows c words (gives_computed c.code t (cond q (Gives z) (Fails error)) line s) s n
      go false e' = absurd (cc e')
      go true e' =
          come_to c words b s (record s { current = giving t (Number z) s.current }) n same_tape k.view k.to refl
          (made_end c words b p s f m v sh be t z k.to.to k.view silent k.to.shows k.near wr
          (number_of_integer z e) k.value k.left)

  -- past the test of an opposite, or the word in its place
  record Behind (ps : List Piece) (next : ℕ) (n : machine.State) (w : View) : Type 0 where
    view : View
    to : To words c.size n same_tape view
    registers : (q : ℕ) → q ≢ 15 → view.registers q ≡ w.registers q
    memory : (q : ℕ) → view.words q ≡ w.words q
    left : Left c words view.place ps next

  test_passed : (error line : ℕ) (ps : List Piece) (next : ℕ) (n : machine.State) (w : View) → Shows words c.size n w
      → Left c words w.place (form.opposite_test c s.current.routine error line ∷ ps) next → w.overflow ≡ false
      → Behind ps next n w
  test_passed error line ps next n w sh1 l e = go (nat_eq error 0) l
    where
      go : (none : Bool) → Left c words w.place (cond none idle (piece.Fails on.OverflowSet error line) ∷ ps) next
          → Behind ps next n w
      go true l =
          let i = word.Move 15 (Constant (pos 0)) in
          record {
            view = after i w;
            to = step_to c words b.stood i n w sh1 l.stands.0 tt;
            registers = λ q n15. update_other w.registers 15 _ q n15;
            memory = λ q. refl;
            left = left_next c words w.place next _ ps l;
          }
      go false l =
          record {
            view = at_view (w.place + 1) w;
            to = fails_not c words b on.OverflowSet error line ps next n w sh1 l e;
            registers = λ q n15. refl;
            memory = λ q. refl;
            left = left_next c words w.place next _ ps l;
          }

  test_failed : (error line : ℕ) (ps : List Piece) (next : ℕ) (n : machine.State) (w : View) → Shows words c.size n w
      → Near (machine_of v) (machine_of w) → Left c words w.place
      (form.opposite_test c s.current.routine error line ∷ ps) next → w.overflow ≡ true → Follows c words
      (Over (test_failing c s error line)) s n
  test_failed error line ps next n w sh1 near l e = go (nat_eq error 0) refl l
    where
      go : (none : Bool) → nat_eq error 0 ≡ none → Left c words w.place
          (cond none idle (piece.Fails on.OverflowSet error line) ∷ ps) next → Follows c words
          (Over (test_failing c s error line)) s n
      go true is l = untested c words b s error line n is
      go false is l =
          test_walked c words b s on.OverflowSet error line ps next n w
          (walk_near c words b p s (machine_of v) f w be.related
          (near.registers 14 (omega arith) (omega arith)) near.words) sh1 l e

  -- R12 negated, with the test of overflow
  negated_end : (t a error line : ℕ) (q z : ℤ) (n : machine.State) (w : View) → Shows words c.size n w → Near
      (machine_of v) (machine_of w) → Writes c s.current.routine s.current.place t
      → ((u : View) → Straight c s.current.routine (suc s.current.place) u) → IsNumber q → z ≡ pos 0 -ℤ q
      → w.registers 12 ≡ word_of q → Left c words w.place
      (behind_quotient a error line (receive c s.current.routine (home c s.current.routine t)))
      (c.site s.current.routine (suc s.current.place)) → Follows c words
      (gives_computed c.code t (within error z) line s) s n
  negated_end t a error line q z n w sh1 near wr silent hq ez e12 l =
      let i1 = word.Move 15 (Constant (pos 0)) in
      let t1 = step_to c words b.stood i1 n w sh1 l.stands.0 tt in
      let w1 = after i1 w in
      let l1 = left_next c words w.place _ _ _ l in
      let i2 = word.Operate op.Sub 12 15 (Content 12) in
      let t2 = step_to c words b.stood i2 t1.to w1 t1.shows l1.stands.0 tt in
      let w2 = after i2 w1 in
      let l2 = left_next c words w1.place _ _ _ l1 in
      let less = zero_less 12 15 (Content 12) q w1 hq refl e12 in
      let near2 : Near (machine_of v) (machine_of w2) = record {
        registers = λ y n12 n15. update_other w1.registers 12 _ y n12 ∙ update_other w.registers 15 _ y n15
            ∙ near.registers y n12 n15;
        words = near.words;
      } in
      let run = to_join words c.size n same_tape same_tape w1 w2 t1 t2 in
      follows_to c words b s n w2 run (gives_computed c.code t (within error z) line s)
      (ends run.to w2 run.shows near2 l2 (less.0 ∙ ap overflows (sym ez))
      (λ h. less.1 (subst IsNumber ez h) ∙ ap word_of (sym ez)) (is_integer z) refl)
    where
      ends : (n : machine.State) (w : View) → Shows words c.size n w → Near (machine_of v) (machine_of w)
          → Left c words w.place (form.opposite_test c s.current.routine error line ∷ skip on.Always
          (length (quotient_by_least c s.current.routine a))
          ∷ (quotient_by_least c s.current.routine a ++ receive c s.current.routine (home c s.current.routine t)))
          (c.site s.current.routine (suc s.current.place)) → w.overflow ≡ overflows z
          → (IsNumber z → w.registers 12 ≡ word_of z) → (i : Bool) → is_integer z ≡ i → Follows c words
          (gives_computed c.code t (within error z) line s) s n
      ends n w sh1 near l over value true e =
          let r = s.current.routine in
          let g = test_passed error line _ _ n w sh1 l (over ∙ overflow_is z ∙ ap not e) in
          let w1 = g.view in
          let l1 = g.left in
          let len = least_length c words b p s f m v sh be a in
          let short = fetch_short c words b p s f m v sh be (home c r a) in
          let t2 = skip_run c words b on.Always (length (quotient_by_least c r a)) _ _ g.to.to w1 g.to.shows l1 refl
          (omega (arith, len, short)) in
          let w2 = at_view (w1.place + 1 + length (quotient_by_least c r a)) w1 in
          let l2 = left_after c words (w1.place + 1) w2.place _ (quotient_by_least c r a) (receive c r (home c r t))
          (left_next c words w1.place _ _ _ l1) refl in
          given t error line z n wr silent e (record {
            view = w2;
            to = to_join words c.size n same_tape same_tape w1 w2 g.to t2;
            value = g.registers 12 (omega arith) ∙ value (number_of_integer z e);
            near = record {
              registers = λ y n12 n15. g.registers y n15 ∙ near.registers y n12 n15;
              words = λ y. g.memory y ∙ near.words y;
            };
            left = l2;
          })
      ends n w sh1 near l over value false e = fail (is_integer z) e
        where
          fail : (i : Bool) → i ≡ false → Follows c words
              (gives_computed c.code t (cond i (Gives z) (Fails error)) line s) s n
          fail true e' = absurd (cc e')
          fail false e' = test_failed error line _ _ n w sh1 near l (over ∙ overflow_is z ∙ ap not e)

  pub negative_follows : (t a error line : ℕ) (x y : ℤ) (n : machine.State) (w : View) → Shows words c.size n w → Near
      (machine_of v) (machine_of w) → Writes c s.current.routine s.current.place t
      → ((u : View) → Straight c s.current.routine (suc s.current.place) u)
      → reads c s.current.routine s.current.place a ≡ true → s.current.temporaries a ≡ Some (Number x) → IsNumber x
      → IsNumber y → y <ℤ pos 0 → w.registers 15 ≡ word_of y → Left c words w.place
      (quotient_by_negative c s.current.routine a error line ++ receive c s.current.routine
      (home c s.current.routine t)) (c.site s.current.routine (suc s.current.place)) → Follows c words
      (gives_computed c.code t (within error (int_div x y)) line s) s n
  negative_follows t a error line x y n w sh1 near wr silent ra ea hx hy h0 e15 l =
      let r = s.current.routine in
      let rc = receive c r (home c r t) in
      let i1 = word.Move 12 (Constant (pos 0)) in
      let t1 = step_to c words b.stood i1 n w sh1 l.stands.0 tt in
      let w1 = after i1 w in
      let l1 = left_next c words w.place _ _ _ l in
      let i2 = word.Operate op.Sub 15 12 (Content 15) in
      let t2 = step_to c words b.stood i2 t1.to w1 t1.shows l1.stands.0 tt in
      let w2 = after i2 w1 in
      let l2 = left_next c words w1.place _ _ _ l1 in
      let less = zero_less 15 12 (Content 15) y w1 hy refl e15 in
      let near2 : Near (machine_of v) (machine_of w2) = record {
        registers = λ q n12 n15. update_other w1.registers 15 _ q n15 ∙ update_other w.registers 12 _ q n12
            ∙ near.registers q n12 n15;
        words = near.words;
      } in
      let raw : w2.registers 15 ≡ difference_of 0 (word_of y) = ap (λ q. (0 + 2 ^ 33 - q - 0) % 2 ^ 32) e15 in
      let run = to_join words c.size n same_tape same_tape w1 w2 t1 t2 in
      follows_to c words b s n w2 run (gives_computed c.code t (within error (int_div x y)) line s)
      (ends run.to w2 run.shows near2 l2 less.0 less.1 raw (is_integer (pos 0 -ℤ y)) refl)
    where
      ends : (n : machine.State) (w : View) → Shows words c.size n w → Near (machine_of v) (machine_of w)
          → Left c words w.place (skip on.OverflowSet (length (quotient c s.current.routine a) + 4)
          ∷ ((quotient c s.current.routine a ++ (Plain (word.Move 15 (Constant (pos 0))) ∷ Plain
          (word.Operate op.Sub 12 15 (Content 12)) ∷ form.opposite_test c s.current.routine error line
          ∷ skip on.Always (length (quotient_by_least c s.current.routine a))
          ∷ quotient_by_least c s.current.routine a))
          ++ receive c s.current.routine (home c s.current.routine t))) (c.site s.current.routine (suc s.current.place))
          → w.overflow ≡ overflows (pos 0 -ℤ y) → (IsNumber (pos 0 -ℤ y) → w.registers 15 ≡ word_of (pos 0 -ℤ y))
          → w.registers 15 ≡ difference_of 0 (word_of y) → (i : Bool) → is_integer (pos 0 -ℤ y) ≡ i → Follows c words
          (gives_computed c.code t (within error (int_div x y)) line s) s n
      ends n w sh1 near l over value raw true e =
          let r = s.current.routine in
          let rc = receive c r (home c r t) in
          let t1 = skip_not c words b on.OverflowSet (length (quotient c r a) + 4) _ _ n w sh1 l
          (over ∙ overflow_is (pos 0 -ℤ y) ∙ ap not e) in
          let w1 = at_view (w.place + 1) w in
          let l1 = left_next c words w.place _ _ _ l in
          let fa = form.fetch c r 12 (home c r a) in
          let di = Plain (word.Operate op.Div 12 (fetched c r 12 (home c r a)) (Content 15)) in
          let behind = behind_quotient a error line rc in
          let la = subst (λ q. Left c words w1.place q (c.site r (suc s.current.place)))
          (append_assoc (quotient c r a) (Plain (word.Move 15 (Constant (pos 0))) ∷ Plain
          (word.Operate op.Sub 12 15 (Content 12)) ∷ form.opposite_test c r error line ∷ skip on.Always
          (length (quotient_by_least c r a)) ∷ quotient_by_least c r a) rc) l1 in
          let lb = subst (λ q. Left c words w1.place q (c.site r (suc s.current.place)))
          (append_assoc fa (di ∷ rounded 12) behind) la in
          let hy' = number_of_integer (pos 0 -ℤ y) e in
          let above : pos 0 <ℤ (pos 0 -ℤ y) = omega (arith, ints, h0) in
          let near1 : Near (machine_of v) (machine_of w1) = record { registers = near.registers; words = near.words } in
          let q = quotient_run c words b p s f m v sh be a (Content 15) x
          (pos 0 -ℤ y) behind _ t1.to w1 t1.shows near1 ra ea hx hy' above
          (λ w2 mv. mv.registers 15 (omega arith) ∙ value hy') lb in
          let rm = remainder_pos x (pos 0 -ℤ y) above in
          let hq = quotient_is x (pos 0 -ℤ y) above hx rm.0 rm.1 in
          let step = gives_computed c.code t (within error (int_div x y)) line s in
          follows_to c words b s n w1 t1 step (follows_to c words b s t1.to q.view q.to step
          (negated_end t a error line (int_div x (pos 0 -ℤ y))
          (int_div x y) q.to.to q.view q.to.shows q.near wr silent hq (negated_is x y h0) q.value q.left))
      ends n w sh1 near l over value raw false e =
          let r = s.current.routine in
          let rc = receive c r (home c r t) in
          let len = quotient_length c words b p s f m v sh be a in
          let short = fetch_short c words b p s f m v sh be (home c r a) in
          let t1 = skip_run c words b on.OverflowSet (length (quotient c r a) + 4) _ _ n w sh1 l
          (over ∙ overflow_is (pos 0 -ℤ y) ∙ ap not e) (omega (arith, len, short)) in
          let w1 = at_view (w.place + 1 + (length (quotient c r a) + 4)) w in
          let l1 = left_next c words w.place _ _ _ l in
          let behind = behind_quotient a error line rc in
          let la = subst (λ q. Left c words (w.place + 1) q (c.site r (suc s.current.place)))
          (append_assoc (quotient c r a) (Plain (word.Move 15 (Constant (pos 0))) ∷ Plain
          (word.Operate op.Sub 12 15 (Content 12)) ∷ form.opposite_test c r error line ∷ skip on.Always
          (length (quotient_by_least c r a)) ∷ quotient_by_least c r a) rc) l1 in
          let at = w.place + 1 + length (quotient c r a) in
          let lb = left_after c words (w.place + 1) at _ (quotient c r a) behind la refl in
          let lc = left_next c words (at + 1 + 1 + 1) _ _ _
          (left_next c words (at + 1 + 1) _ _ _ (left_next c words (at + 1) _ _ _ (left_next c words at _ _ _ lb)))
          in
          let ld = left_at c words _ w1.place _ _ lc (omega arith) in
          let ly : y ≡ neg_ℤ (pos NUMBER_LIMIT) = least_of y e hy h0 in
          let k = least_run c words b p s f m v sh be a x rc _ t1.to w1 t1.shows (record {
            registers = near.registers;
            words = near.words;
          }) ra ea (raw ∙ ap (λ z. difference_of 0 (word_of z)) ly) ld in
          let whole : Made c words b p s f m v sh be (int_div x y) rc (c.site r (suc s.current.place)) n = record {
            view = k.view;
            to = to_join words c.size n same_tape same_tape w1 k.view t1 k.to;
            value = k.value ∙ ap (λ z. word_of (int_div x z)) (sym ly);
            near = k.near;
            left = k.left;
          } in
          given t error line (int_div x y) n wr silent
          (ap (λ z. is_integer (int_div x z)) ly ∙ ap is_integer (least_quotient c words b p s f m v sh be x hx)
          ∙ one_or_none
          (same_number x (neg_ℤ (pos NUMBER_LIMIT)))) whole
        where
          least_of : (y : ℤ) → is_integer (pos 0 -ℤ y) ≡ false → IsNumber y → y <ℤ pos 0 → y ≡ neg_ℤ (pos NUMBER_LIMIT)
          least_of (pos k) e hy h = absurd (omega (arith, ints, h))
          least_of (negsuc k) e hy h = ap negsuc (small k (sym (ap is_integer (up k)) ∙ e) (omega (arith, ints, hy)))
            where
              up : (k : ℕ) → pos 0 -ℤ negsuc k ≡ pos (suc k)
              up k = omega (arith, ints)

              small : (k : ℕ) → nat_lt (suc k) NUMBER_LIMIT ≡ false → k ≤ NUMBER_LIMIT - 1 → k ≡ NUMBER_LIMIT - 1
              small k e le = let g = ltb-false (suc k) NUMBER_LIMIT e in omega (arith, g, le)

          one_or_none : (q : Bool) → is_integer (pos (cond q 1 0)) ≡ true
          one_or_none true = refl
          one_or_none false = refl
