-- The quotient of an instruction, whatever its divisor.
use Rattle.std.proofs.Common.{◌≡◌, ◌≢◌, ℕ, zero, suc, ◌+◌, ◌⊎◌, inl, inr, Bool, true, false, cond, if◌then◌else◌}
use Rattle.std.proofs.Common.{nat_eq, List, ◌∷◌, ◌++◌, length, Some, ℤ, pos, negsuc, refl, sym, ◌∙◌, subst}
use Rattle.std.proofs.Common.{arith, append_assoc}
use Rattle.std.specs.Prelude.{int_lt, int_div, ◌<ℤ◌}
use Rattle.std.proofs.lemmas.Int.{ints}
use Rattle.risc_word.specs.declared.instr.Operation.TheVariants as op
use Rattle.risc_word.specs.declared.instr.Operand.TheVariants.{Content}
use Rattle.risc_word.specs.declared.instr.Condition.TheVariants as on
use Rattle.risc_word.specs.declared.instr.Instr.TheVariants as word
use Rattle.risc_machine.specs.Step as machine
use Rattle.risc_machine_laws.specs.View.{View, Shows, at_view}
use Rattle.risc_machine_laws.specs.Runs.{same_tape}
use Rattle.risc_machine_laws.proofs.Runs.{to_join}
use Rattle.risc_machine_laws.proofs.Numbers.{minus_word}
use Rattle.tac_code.specs.declared.code.Operator.TheVariants.{Divide}
use Rattle.tac_code.specs.declared.code.Operand.{Operand}
use Rattle.tac_code.specs.declared.code.Value.TheVariants.{Number}
use Rattle.tac_code.specs.declared.code.Instruction.TheVariants.{Arithmetic}
use Rattle.tac_code.specs.Numbers.{is_integer, is_zero, word_of, Gives, Fails, within}
use Rattle.tac_code.specs.Meaning.{fetch, State, giving, operand_value, gives_computed}
use Rattle.tac_code.proofs.Numbers.{none_below}
use Rattle.risc_alloc.specs.Flow.{in_operand}
use Rattle.risc_emit_relation.specs.Context.{Context, home, reads, Places, Writes, IsNumber}
use Rattle.risc_emit_relation.specs.Changes.{Near}
use Rattle.risc_emit_forms.specs.Pieces as piece
use Rattle.risc_emit_forms.specs.Pieces.{Plain, Left}
use Rattle.risc_emit_forms.specs.Forms as form
use Rattle.risc_emit_forms.specs.Forms.{fetched, right_operand, target, save, receive, divisor, is_divisor, skip}
use Rattle.risc_emit_forms.specs.Forms.{rounded, quotient, quotient_by_negative}
use Rattle.risc_emit_forms.specs.Follows.{machine_of, Built, Straight, Belongs, Comes, Follows}
use Rattle.risc_emit_forms.proofs.Basics.{left_after, left_next, left_at, is_read, writes_it, among_first, among_rest}
use Rattle.risc_emit_forms.proofs.Flags as flags
use Rattle.risc_emit_forms.proofs.Fetches.{target_not}
use Rattle.risc_emit_forms.proofs.Comes.{framed, skip_run, skip_not, fails_not, fails_walked}
use Rattle.risc_emit_forms.proofs.Joins.{fetched_is, come_to}
use Rattle.risc_emit_forms.proofs.Comes.{walk_near, gives_end}
use Rattle.risc_emit_forms.proofs.Operands.{code, stands_in}
use Rattle.risc_emit_forms.proofs.Divisions.{divisor_run, immediate_is, immediate_word, number_of_small, above_of}
use Rattle.risc_emit_forms.proofs.Quotients.{quotient_is, remainder_pos}
use Rattle.risc_emit_forms.proofs.Calls.{follows_to}
use Rattle.risc_emit_forms.proofs.DivideRuns.{Made, fetch_short, integer_of, least_length, negative_length}
use Rattle.risc_emit_forms.proofs.DivideRuns.{quotient_into, quotient_length, quotient_run}
use Rattle.risc_emit_forms.proofs.NegativeDivisor.{given, negative_follows}

no_zero : (n : ℕ) → n ≢ 0 → nat_eq n 0 ≡ false
no_zero n ne = grind arith

module _ (c : Context) (words : List ℕ) (b : Built c words) (p : Places) (s : State) (f : ℕ) (m : machine.State)
    (v : View) (sh : Shows words c.size m v) (be : Belongs c words p s v f) where
  -- ---- an immediate divisor

  pub immediate_follows : (t a : ℕ) (o : Operand) (error line : ℕ) (x y : ℤ)
      → ((u : View) → Straight c s.current.routine (suc s.current.place) u)
      → Writes c s.current.routine s.current.place t → reads c s.current.routine s.current.place a ≡ true
      → s.current.temporaries a ≡ Some (Number x) → operand_value s.current.temporaries o ≡ Some (Number y) → IsNumber x
      → is_divisor o ≡ true → Left c words v.place
      (form.fetch c s.current.routine 12 (home c s.current.routine a)
      ++ (Plain (word.Operate op.Div (target c s.current.routine (home c s.current.routine t))
      (fetched c s.current.routine 12 (home c s.current.routine a)) (right_operand c s.current.routine o))
      ∷ (rounded (target c s.current.routine (home c s.current.routine t)) ++ save c s.current.routine
      (home c s.current.routine t)))) (c.site s.current.routine (suc s.current.place)) → Follows c words
      (gives_computed c.code t (if is_zero y then Fails 2 else within error (int_div x y)) line s) s m
  immediate_follows t a o error line x y silent wr ra ea eo hx ei l =
      let k = immediate_is c words b p s f m v sh be o y ei eo in
      let hy : IsNumber y = subst IsNumber (sym k.2) (number_of_small c words b p s f m v sh be k.0 k.4) in
      let h0 : pos 0 <ℤ y = subst (λ q. pos 0 <ℤ q) (sym k.2) (above_of c words b p s f m v sh be k.0 k.3) in
      let d = target c s.current.routine (home c s.current.routine t) in
      let n15 = target_not c words b.stood b.laid b.placed s.current.routine f
      (framed c words b p s (machine_of v) f be.related) t 15 (omega arith) in
      let g = quotient_into c words b p s f m v sh be d n15 a (right_operand c s.current.routine o) x y _ _ m v sh
      (record {
        registers = λ q n12 n15. refl;
        words = λ q. refl;
      }) ra ea hx hy h0 (λ w1 mv. immediate_word c words b p s f m v sh be o y k.0 k.1 k.2 k.4 w1) l in
      let rm = remainder_pos x y h0 in
      let is = quotient_is x y h0 hx rm.0 rm.1 in
      let s' = record s { current = giving t (Number (int_div x y)) s.current } in
      to_gives (is_zero y) (not_zero_above y h0) (is_integer (int_div x y)) (integer_of (int_div x y) is)
      (come_to c words b s s' m same_tape g.view g.to refl
      (gives_end c words b p s (machine_of v) f t
      (Number (int_div x y)) g.to.to g.view be.related be.input wr silent is g.to.shows (record {
        here = g.value;
        registers = g.registers;
        words = g.memory;
      }) g.left))
    where
      not_zero_above : (y : ℤ) → pos 0 <ℤ y → is_zero y ≡ false
      not_zero_above (pos zero) h = absurd (omega (arith, ints, h))
      not_zero_above (pos (suc n)) h = refl
      not_zero_above (negsuc n) h = refl

      to_gives : (q : Bool) → q ≡ false → (i : Bool) → i ≡ true → Comes c words s
          (record s { current = giving t (Number (int_div x y)) s.current }) m → Follows c words
          (gives_computed c.code t (cond q (Fails 2) (cond i (Gives (int_div x y)) (Fails error))) line s) s m
      to_gives true e i ei h = absurd (cc e)
      to_gives false e false ei h = absurd (cc ei)
      to_gives false e true ei h = h

  -- ---- any divisor

  zero_word_is : (y : ℤ) → IsNumber y → nat_eq (word_of y) 0 ≡ is_zero y
  zero_word_is (pos zero) is = refl
  zero_word_is (pos (suc n)) is = no_zero _ (omega (arith, ints, is))
  zero_word_is (negsuc n) is = no_zero _ (omega (arith, ints, is))

  sign_of_divisor : (y : ℤ) → is_zero y ≡ false → ((int_lt y (pos 0) ≡ true) × (y <ℤ pos 0))
      ⊎ ((int_lt y (pos 0) ≡ false) × (pos 0 <ℤ y))
  sign_of_divisor (pos zero) e = absurd (cc e)
  sign_of_divisor (pos (suc n)) e = inr (none_below (suc n), omega (arith, ints))
  sign_of_divisor (negsuc n) e = inl (refl, omega (arith, ints))

  pub divide_follows : (t a : ℕ) (o : Operand) (error line : ℕ) (x y : ℤ)
      → fetch c.code s.current.routine s.current.place ≡ Some (Arithmetic Divide t a o error line)
      → s.current.temporaries a ≡ Some (Number x) → operand_value s.current.temporaries o ≡ Some (Number y)
      → Follows c words (gives_computed c.code t (if is_zero y then Fails 2 else within error (int_div x y)) line s) s m
  divide_follows t a o error line x y here ea eo = go (is_divisor o) refl
      (code c words b p s f m v sh be (Arithmetic Divide t a o error line) here)
    where
      wr : Writes c s.current.routine s.current.place t
      wr = writes_it c s.current.routine s.current.place (Arithmetic Divide t a o error line) here t refl refl

      ra : reads c s.current.routine s.current.place a ≡ true
      ra = is_read c s.current.routine s.current.place (Arithmetic Divide t a o error line) here a
          (among_first a (in_operand o))

      quiet : (u : View) → Straight c s.current.routine (suc s.current.place) u
      quiet = flags.silent c s.current.routine s.current.place (Arithmetic Divide t a o error line) here refl

      hx : IsNumber x
      hx = (stands_in c words b p s f m v sh be a (Number x) ra ea).0

      signed_ends : (n : machine.State) (w : View) → Shows words c.size n w → Near (machine_of v) (machine_of w)
          → IsNumber y → w.registers 15 ≡ word_of y → w.negative ≡ int_lt y (pos 0) → Left c words w.place
          (skip on.Minus (length (quotient c s.current.routine a) + 1)
          ∷ (quotient c s.current.routine a ++ (skip on.Always
          (length (quotient_by_negative c s.current.routine a error line))
          ∷ (quotient_by_negative c s.current.routine a error line ++ receive c s.current.routine
          (home c s.current.routine t))))) (c.site s.current.routine (suc s.current.place))
          → ((int_lt y (pos 0) ≡ true) × (y <ℤ pos 0)) ⊎ ((int_lt y (pos 0) ≡ false) × (pos 0 <ℤ y)) → Follows c words
          (gives_computed c.code t (within error (int_div x y)) line s) s n
      signed_ends n w sh1 near hy e15 neg l (inl h) =
          let r = s.current.routine in
          let rc = receive c r (home c r t) in
          let qn = quotient_by_negative c r a error line in
          let len = quotient_length c words b p s f m v sh be a in
          let short = fetch_short c words b p s f m v sh be (home c r a) in
          let t1 = skip_run c words b on.Minus (length (quotient c r a) + 1) _ _ n w sh1 l (neg ∙ h.0)
          (omega (arith, len, short)) in
          let w1 = at_view (w.place + 1 + (length (quotient c r a) + 1)) w in
          let at = w.place + 1 + length (quotient c r a) in
          let lb = left_after c words (w.place + 1) at _ (quotient c r a) (skip on.Always (length qn) ∷ (qn ++ rc))
          (left_next c words w.place _ _ _ l) refl in
          let lc = left_at c words _ w1.place _ _ (left_next c words at _ _ _ lb) (omega arith) in
          follows_to c words b s n w1 t1 (gives_computed c.code t (within error (int_div x y)) line s)
          (negative_follows c words b p s f m v sh be t a error line x y t1.to w1 t1.shows (record {
            registers = near.registers;
            words = near.words;
          }) wr quiet ra ea hx hy h.1 e15 lc)
      signed_ends n w sh1 near hy e15 neg l (inr h) =
          let r = s.current.routine in
          let rc = receive c r (home c r t) in
          let qn = quotient_by_negative c r a error line in
          let t1 = skip_not c words b on.Minus (length (quotient c r a) + 1) _ _ n w sh1 l (neg ∙ h.0) in
          let w1 = at_view (w.place + 1) w in
          let l1 = left_next c words w.place _ _ _ l in
          let fa = form.fetch c r 12 (home c r a) in
          let di = Plain (word.Operate op.Div 12 (fetched c r 12 (home c r a)) (Content 15)) in
          let behind = skip on.Always (length qn) ∷ (qn ++ rc) in
          let la = subst (λ q. Left c words w1.place q (c.site r (suc s.current.place)))
          (append_assoc fa (di ∷ rounded 12) behind) l1 in
          let q = quotient_run c words b p s f m v sh be a (Content 15) x y behind _ t1.to w1 t1.shows (record {
            registers = near.registers;
            words = near.words;
          }) ra ea hx hy h.1 (λ w2 mv. mv.registers 15 (omega arith) ∙ e15) la in
          let v2 = q.view in
          let len1 = negative_length c words b p s f m v sh be a error line in
          let len2 = quotient_length c words b p s f m v sh be a in
          let len3 = least_length c words b p s f m v sh be a in
          let short = fetch_short c words b p s f m v sh be (home c r a) in
          let t2 = skip_run c words b on.Always (length qn) _ _ q.to.to v2 q.to.shows q.left refl
          (omega (arith, len1, len2, len3, short)) in
          let w2 = at_view (v2.place + 1 + length qn) v2 in
          let l2 = left_after c words (v2.place + 1) w2.place _ qn rc (left_next c words v2.place _ _ _ q.left) refl in
          let rm = remainder_pos x y h.1 in
          let is = quotient_is x y h.1 hx rm.0 rm.1 in
          let whole : Made c words b p s f m v sh be (int_div x y) rc (c.site r (suc s.current.place)) n = record {
            view = w2;
            to = to_join words c.size n same_tape same_tape w1 w2 t1
                (to_join words c.size t1.to same_tape same_tape v2 w2 q.to t2);
            value = q.value;
            near = record {
              registers = q.near.registers;
              words = q.near.words;
            };
            left = l2;
          } in
          given c words b p s f m v sh be t error line (int_div x y) n wr quiet (integer_of (int_div x y) is) whole

      tested : (n : machine.State) (w : View) → Shows words c.size n w → Near (machine_of v) (machine_of w) → IsNumber y
          → w.registers 15 ≡ word_of y → w.equal ≡ is_zero y → w.negative ≡ int_lt y (pos 0) → Left c words w.place
          (piece.Fails on.Equal 2 line ∷ skip on.Minus (length (quotient c s.current.routine a) + 1)
          ∷ (quotient c s.current.routine a ++ (skip on.Always
          (length (quotient_by_negative c s.current.routine a error line))
          ∷ (quotient_by_negative c s.current.routine a error line ++ receive c s.current.routine
          (home c s.current.routine t))))) (c.site s.current.routine (suc s.current.place)) → (z : Bool) → is_zero y ≡ z
          → Follows c words (gives_computed c.code t (cond z (Fails 2) (within error (int_div x y))) line s) s n
      tested n w sh1 near hy e15 eq neg l true ez =
          inr (fails_walked c words b s on.Equal 2 line _ _ n w
          (walk_near c words b p s (machine_of v) f w be.related
          (near.registers 14 (omega arith) (omega arith)) near.words) sh1 l (eq ∙ ez))
      tested n w sh1 near hy e15 eq neg l false ez =
          let t1 = fails_not c words b on.Equal 2 line _ _ n w sh1 l (eq ∙ ez) in
          let w1 = at_view (w.place + 1) w in
          follows_to c words b s n w1 t1 (gives_computed c.code t (within error (int_div x y)) line s)
          (signed_ends t1.to w1 t1.shows (record {
            registers = near.registers;
            words = near.words;
          }) hy e15 neg (left_next c words w.place _ _ _ l) (sign_of_divisor y ez))

      go : (imm : Bool) → is_divisor o ≡ imm → Left c words v.place
          (cond imm (form.fetch c s.current.routine 12 (home c s.current.routine a)
          ++ (Plain (word.Operate op.Div (target c s.current.routine (home c s.current.routine t))
          (fetched c s.current.routine 12 (home c s.current.routine a)) (right_operand c s.current.routine o))
          ∷ (rounded (target c s.current.routine (home c s.current.routine t)) ++ save c s.current.routine
          (home c s.current.routine t)))) (divisor c s.current.routine o
          ++ (piece.Fails on.Equal 2 line ∷ skip on.Minus (length (quotient c s.current.routine a) + 1)
          ∷ (quotient c s.current.routine a ++ (skip on.Always
          (length (quotient_by_negative c s.current.routine a error line))
          ∷ (quotient_by_negative c s.current.routine a error line ++ receive c s.current.routine
          (home c s.current.routine t))))))) (c.site s.current.routine (suc s.current.place)) → Follows c words
          (gives_computed c.code t (if is_zero y then Fails 2 else within error (int_div x y)) line s) s m
      go true ei l = immediate_follows t a o error line x y quiet wr ra ea eo hx ei l
      go false ei l =
          let so = fetched_is c words b s.current.routine s.current.place (Arithmetic Divide t a o error line) here in
          let g = divisor_run c words b p s f m v sh be o y _ _ _ so.sound.2
          (λ u eu. is_read c s.current.routine s.current.place (Arithmetic Divide t a o error line) here u
          (among_rest u a (in_operand o) eu)) eo l in
          follows_to c words b s m g.view g.to (gives_computed c.code t
          (if is_zero y then Fails 2 else within error (int_div x y)) line s)
          (tested g.to.to g.view g.to.shows (record {
            registers = λ q n12 n15. g.moved.registers q n15;
            words = g.moved.words;
          }) g.good g.value (g.zero ∙ zero_word_is y g.good) (g.minus ∙ minus_word y g.good) g.left (is_zero y) refl)
