-- Quotients rounded toward zero, followed by their words.
use Rattle.std.proofs.Common.{◌≡◌, ◌≢◌, ℕ, zero, suc, ◌+◌, ◌-◌, ◌/◌, ◌%◌, ◌^◌, ◌<◌, ◌≤◌, cond, not, nat_eq}
use Rattle.std.proofs.Common.{nat_le, List, ◌++◌, ℤ, pos, negsuc, ◌+ℤ◌, refl, sym, ap, ◌∙◌, subst, arith}
use Rattle.std.specs.Prelude.{int_div, ◌<ℤ◌}
use Rattle.std.specs.Int.{int_div_euclid, int_rem_euclid}
use Rattle.std.proofs.lemmas.Int.{ints}
use Rattle.std.proofs.Math.Nat.{div-le_self}
use Rattle.tac_code.proofs.Numbers.{none_below, not_zero}
use Rattle.risc_word.specs.declared.instr.Operation.TheVariants as op
use Rattle.risc_word.specs.declared.instr.Operand.TheVariants.{Constant}
use Rattle.risc_word.specs.declared.instr.Condition.TheVariants as on
use Rattle.risc_word.specs.declared.instr.Instr.TheVariants as word
use Rattle.risc_machine.specs.Step as machine
use Rattle.risc_machine.specs.Step.{word_of_int}
use Rattle.risc_machine.specs.declared.limits.TheConstants.{SIGN_BIT}
use Rattle.risc_machine_laws.specs.View.{View, Shows, after, at_view}
use Rattle.risc_machine_laws.specs.Runs.{To, same_tape}
use Rattle.risc_machine_laws.specs.Numbers.{toward_zero}
use Rattle.risc_machine_laws.proofs.Runs.{to_join}
use Rattle.risc_machine_laws.proofs.Numbers.{minus_word, quotient_corrected}
use Rattle.risc_emit_relation.specs.Context.{Context, IsNumber}
use Rattle.risc_emit_relation.proofs.Basics.{update_same, update_other}
use Rattle.risc_emit_forms.specs.Pieces.{Piece, Left}
use Rattle.risc_emit_forms.specs.Forms.{rounded}
use Rattle.risc_emit_forms.specs.Follows.{Built}
use Rattle.risc_emit_forms.proofs.Basics.{left_next, left_at}
use Rattle.risc_emit_forms.proofs.Runs.{step_to}
use Rattle.risc_emit_forms.proofs.Comes.{skip_run, skip_not}

-- a quotient is no larger than what is divided
less_part : (m n : ℕ) → m / suc n ≤ m
less_part m n = div-le_self m (suc n)

pub floor_is : (x y : ℤ) → pos 0 <ℤ y → IsNumber x → IsNumber (int_div_euclid x y)
floor_is x (pos zero) h is = absurd (omega (arith, ints, h))
floor_is x (negsuc n) h is = absurd (omega (arith, ints, h))
floor_is (pos m) (pos (suc n)) h is = let l = less_part m n in (omega (arith, ints, l, is), omega (arith, ints, l, is))
floor_is (negsuc m) (pos (suc n)) h is = let l = less_part m n
    in (omega (arith, ints, l, is), omega (arith, ints, l, is))

toward_suc : (k r : ℕ) → toward_zero (negsuc k) (pos (suc r)) ≡ negsuc k +ℤ pos 1
toward_suc k r = ap (λ t. cond t (negsuc k) (negsuc k +ℤ pos 1)) (not_zero r)

pub toward_is : (q : ℤ) (r : ℕ) → IsNumber q → IsNumber (toward_zero q (pos r))
toward_is (pos k) r is = is
toward_is (negsuc k) zero is = is
toward_is (negsuc k) (suc r) is = subst IsNumber (sym (toward_suc k r)) (up_is k is)
  where
    up_is : (k : ℕ) → IsNumber (negsuc k) → IsNumber (negsuc k +ℤ pos 1)
    up_is k is = (omega (arith, ints, is), omega (arith, ints, is))

pub quotient_is : (x y : ℤ) → pos 0 <ℤ y → IsNumber x → (r : ℕ) → int_rem_euclid x y ≡ pos r → IsNumber (int_div x y)
quotient_is x y h is r e =
    subst IsNumber (sym (quotient_corrected x y h ∙ ap (toward_zero (int_div_euclid x y)) e))
    (toward_is (int_div_euclid x y) r (floor_is x y h is))

-- a remainder is not below 0
pub remainder_pos : (x y : ℤ) → pos 0 <ℤ y → (r : ℕ) × (int_rem_euclid x y ≡ pos r)
remainder_pos x (pos zero) h = absurd (omega (arith, ints, h))
remainder_pos x (negsuc n) h = absurd (omega (arith, ints, h))
remainder_pos (pos m) (pos (suc n)) h = (m % suc n, refl)
remainder_pos (negsuc m) (pos (suc n)) h = (suc n - 1 - m % suc n, refl)

module _ (c : Context) (words : List ℕ) (b : Built c words) where
  -- four words round a floored quotient in register d toward zero
  pub record Rounds (d : ℕ) (z : ℤ) (ps : List Piece) (next : ℕ) (n : machine.State) (w : View) : Type 0 where
    pub view : View
    pub to : To words c.size n same_tape view
    pub value : view.registers d ≡ word_of_int z
    pub registers : (q : ℕ) → q ≢ d → q ≢ 15 → view.registers q ≡ w.registers q
    pub memory : (x : ℕ) → view.words x ≡ w.words x
    pub left : Left c words view.place ps next

  pub rounded_run : (d : ℕ) → d ≢ 15 → (q : ℤ) (r : ℕ) (ps : List Piece) (next : ℕ) (n : machine.State) (w : View)
      → Shows words c.size n w → IsNumber q → r < 2 ^ 32 → w.registers d ≡ word_of_int q → w.negative
      ≡ nat_le SIGN_BIT (word_of_int q) → w.high ≡ r → Left c words w.place (rounded d ++ ps) next → Rounds d
      (toward_zero q (pos r)) ps next n w
  rounded_run d not15 (pos k) r ps next n w sh is lr ed neg high l =
      let t1 = skip_run c words b on.Plus 3 _ next n w sh l (ap not (neg ∙ minus_word (pos k) is ∙ none_below k))
      (omega arith) in
      let w1 = at_view (w.place + 1 + 3) w in
      let l4 = left_next c words (w.place + 1 + 1 + 1) next _ ps
      (left_next c words (w.place + 1 + 1) next _ _
      (left_next c words (w.place + 1) next _ _ (left_next c words w.place next _ _ l))) in
      record {
        view = w1;
        to = t1;
        value = ed;
        registers = λ q nd n15. refl;
        memory = λ x. refl;
        left = left_at c words _ w1.place next ps l4 (omega arith);
      }
  rounded_run d not15 (negsuc k) zero ps next n w sh is lr ed neg high l =
      let t1 = skip_not c words b on.Plus 3 _ next n w sh l (ap not (neg ∙ minus_word (negsuc k) is)) in
      let w1 = at_view (w.place + 1) w in
      let l1 = left_next c words w.place next _ _ l in
      let i2 = word.MoveHigh 15 in
      let t2 = step_to c words b.stood i2 t1.to w1 t1.shows l1.stands.0 tt in
      let w2 = after i2 w1 in
      let l2 = left_next c words w1.place next _ _ l1 in
      let t3 = skip_run c words b on.Equal 1 _ next t2.to w2 t2.shows l2 (ap (λ x. nat_eq x 0) high) (omega arith) in
      let w3 = at_view (w2.place + 1 + 1) w2 in
      let l4 = left_next c words (w2.place + 1) next _ ps (left_next c words w2.place next _ _ l2) in
      record {
        view = w3;
        to = to_join words c.size n same_tape same_tape w1 w3 t1
            (to_join words c.size t1.to same_tape same_tape w2 w3 t2 t3);
        value = update_other w.registers 15 _ d not15 ∙ ed;
        registers = λ q nd n15. update_other w.registers 15 _ q n15;
        memory = λ x. refl;
        left = l4;
      }
  rounded_run d not15 (negsuc k) (suc r) ps next n w sh is lr ed neg high l =
      let t1 = skip_not c words b on.Plus 3 _ next n w sh l (ap not (neg ∙ minus_word (negsuc k) is)) in
      let w1 = at_view (w.place + 1) w in
      let l1 = left_next c words w.place next _ _ l in
      let i2 = word.MoveHigh 15 in
      let t2 = step_to c words b.stood i2 t1.to w1 t1.shows l1.stands.0 tt in
      let w2 = after i2 w1 in
      let l2 = left_next c words w1.place next _ _ l1 in
      let t3 = skip_not c words b on.Equal 1 _ next t2.to w2 t2.shows l2 (ap (λ x. nat_eq x 0) high ∙ not_zero r) in
      let w3 = at_view (w2.place + 1) w2 in
      let l3 = left_next c words w2.place next _ _ l2 in
      let i4 = word.Operate op.Add d d (Constant (pos 1)) in
      let t4 = step_to c words b.stood i4 t3.to w3 t3.shows l3.stands.0 tt in
      let w4 = after i4 w3 in
      record {
        view = w4;
        to = to_join words c.size n same_tape same_tape w1 w4 t1
            (to_join words c.size t1.to same_tape same_tape w2 w4 t2
            (to_join words c.size t2.to same_tape same_tape w3 w4 t3 t4));
        value = update_same w3.registers d _ ∙ ap (λ x. (x + word_of_int (pos 1) + 0) % 2 ^ 32)
            (update_other w.registers 15 _ d not15 ∙ ed) ∙ one_more k is ∙ ap word_of_int (sym (toward_suc k r));
        registers = λ q nd n15. update_other w3.registers d _ q nd ∙ update_other w.registers 15 _ q n15;
        memory = λ x. refl;
        left = left_next c words w3.place next _ ps l3;
      }
    where
      one_more : (k : ℕ) → IsNumber (negsuc k) → (word_of_int (negsuc k) + word_of_int (pos 1) + 0) % 2 ^ 32
          ≡ word_of_int (negsuc k +ℤ pos 1)
      one_more k is = omega (arith, ints, is)
