-- The numbers and lines in the pieces of sound code are in their ranges.
use Rattle.std.proofs.Common.{◌≡◌, ℕ, zero, suc, ◌+◌, ◌≤◌, Bool, true, false, cond, nat_eq, nat_lt, List, [], ◌∷◌, ◌++◌}
use Rattle.std.proofs.Common.{length, slice_index, Option, Some, None, ℤ, pos, refl, arith}
use Rattle.std.specs.Prelude.{int_lt}
use Rattle.risc_word.specs.declared.instr.Width.{Width}
use Rattle.risc_word.specs.declared.instr.Condition.{Condition}
use Rattle.risc_word.specs.declared.instr.Condition.TheVariants as on
use Rattle.tac_code.specs.declared.code.Operator.{Operator}
use Rattle.tac_code.specs.declared.code.Operator.TheVariants.{Add, Subtract, Multiply, Divide, Modulo}
use Rattle.tac_code.specs.declared.code.Relation.{Relation}
use Rattle.tac_code.specs.declared.code.Relation.TheVariants.{Equal, NotEqual, Less, LessEqual, Greater, GreaterEqual}
use Rattle.tac_code.specs.declared.code.Operand.{Operand}
use Rattle.tac_code.specs.declared.code.Operand.TheVariants as operand
use Rattle.tac_code.specs.declared.code.Base.{Base}
use Rattle.tac_code.specs.declared.code.Base.TheVariants as base
use Rattle.tac_code.specs.declared.code.Instruction.{Instruction}
use Rattle.tac_code.specs.declared.code.Instruction.TheVariants.{Literal, Copy, Arithmetic, Bits, Compare, CheckRange}
use Rattle.tac_code.specs.declared.code.Instruction.TheVariants.{CheckPointer, Text, Offset, Index, RoutineValue, Load}
use Rattle.tac_code.specs.declared.code.Instruction.TheVariants.{Store, LoadByte, StoreByte, Jump, JumpBack, Branch}
use Rattle.tac_code.specs.declared.code.Instruction.TheVariants.{BranchBack, Call, CallValue, Return, Trap, Take, Put}
use Rattle.tac_code.specs.declared.code.Instruction.TheVariants.{New, End}
use Rattle.tac_code.specs.declared.check.Limits.{Limits}
use Rattle.tac_code.specs.Numbers.{is_zero, steps_above}
use Rattle.tac_code.specs.Sound.{IsErrorNumber, IsTestNumber, IsLine, IsSoundAt}
use Rattle.risc_alloc.specs.declared.homes.Home.{Home}
use Rattle.risc_alloc.specs.declared.homes.Home.TheVariants.{Slot, Reg}
use Rattle.risc_emit_relation.specs.Context.{Context, home, is_program, slot_at}
use Rattle.risc_emit_forms.specs.Pieces.{Label, Piece, Fails, Enters, Joins, EntersAt}
use Rattle.risc_emit_forms.specs.Peephole.{flagged_at, short_of, near_of, deferred_at, folded}
use Rattle.risc_emit_forms.specs.Forms as form
use Rattle.risc_emit_forms.specs.Forms.{is_near, is_small, is_divisor, carried, is_taken, is_stored}

-- what a piece's row requires
abbrev pub IsGood : Piece → Type 0
IsGood (Fails condition number line) = IsErrorNumber number × IsLine line
IsGood (Enters r line) = IsLine line
IsGood (EntersAt q line) = IsLine line
IsGood _ = Unit {0}

abbrev pub AreGood : List Piece → Type 0
AreGood [] = Unit {0}
AreGood (p ∷ ps) = IsGood p × AreGood ps

pub good_append : (ps qs : List Piece) → AreGood ps → AreGood qs → AreGood (ps ++ qs)
good_append [] qs h k = k
good_append (p ∷ ps) qs h k = (h.0, good_append ps qs h.1 k)

pub by_test : (b : Bool) (ps qs : List Piece) → AreGood ps → AreGood qs → AreGood (cond b ps qs)
by_test true ps qs h k = h
by_test false ps qs h k = k

-- ---- tests, which have no words if their number is 0

not_null : (n : ℕ) → nat_eq n 0 ≡ false → 1 ≤ n
not_null n e = grind (arith, e)

number_of : (n : ℕ) → IsTestNumber n → nat_eq n 0 ≡ false → IsErrorNumber n
number_of n h e = (not_null n e, h)

by_number : (b : Bool) (ps qs : List Piece) → AreGood ps → (b ≡ false → AreGood qs) → AreGood (cond b ps qs)
by_number true ps qs h k = h
by_number false ps qs h k = k refl

tested_good : (error : ℕ) (test rest : List Piece) → IsTestNumber error → (IsErrorNumber error → AreGood test) → AreGood
    rest → AreGood (form.tested error test rest)
tested_good error test rest e h k =
    by_number (nat_eq error 0) rest (test ++ rest) k (λ is. good_append test rest (h (number_of error e is)) k)

opposite_piece : (b : Bool) (error line : ℕ) → (b ≡ false → IsErrorNumber error) → IsLine line → IsGood
    (cond b form.idle (Fails on.OverflowSet error line))
opposite_piece true error line e l = tt
opposite_piece false error line e l = (e refl, l)

error_two : IsErrorNumber 2
error_two = (omega arith, omega arith)

error_three : IsErrorNumber 3
error_three = (omega arith, omega arith)

pub error_stack : IsErrorNumber 12
error_stack = (omega arith, omega arith)

error_heap : IsErrorNumber 13
error_heap = (omega arith, omega arith)

pub load_good : (d b n : ℕ) → AreGood (form.load d b n)
load_good d b n = by_test (is_near n) _ _ (tt, tt) (tt, (tt, (tt, (tt, tt))))

pub store_good : (a b n : ℕ) → AreGood (form.store a b n)
store_good a b n = by_test (is_near n) _ _ (tt, tt) (tt, (tt, (tt, (tt, tt))))

number_good : (d : ℕ) (z : ℤ) → AreGood (form.number d z)
number_good d z = by_test (is_small z) _ _ (tt, tt) (tt, (tt, tt))

module _ (c : Context) (r : ℕ) where
  fetch_good : (d : ℕ) (h : Home) → AreGood (form.fetch c r d h)
  fetch_good d (Reg q) = tt
  fetch_good d (Slot k) = load_good d 14 (slot_at c r k)

  bring_good : (d : ℕ) (h : Home) → AreGood (form.bring c r d h)
  bring_good d (Reg q) = (tt, tt)
  bring_good d (Slot k) = load_good d 14 (slot_at c r k)

  pub save_good : (h : Home) → AreGood (form.save c r h)
  save_good (Reg q) = tt
  save_good (Slot k) = store_good 12 14 (slot_at c r k)

  receive_good : (h : Home) → AreGood (form.receive c r h)
  receive_good (Reg q) = (tt, tt)
  receive_good (Slot k) = store_good 12 14 (slot_at c r k)

  into_good : (d : ℕ) (h : Home) → AreGood (form.into c r d h)
  into_good d (Reg q) = by_test (nat_eq q d) _ _ tt (tt, tt)
  into_good d (Slot k) = load_good d 14 (slot_at c r k)

  accept_good : (h : Home) → AreGood (form.accept c r h)
  accept_good (Reg q) = by_test (nat_eq q 0) _ _ tt (tt, tt)
  accept_good (Slot k) = store_good 0 14 (slot_at c r k)

  copy_good : (h g : Home) → AreGood (form.copy c r h g)
  copy_good (Reg q) g = bring_good q g
  copy_good (Slot k) g = good_append (form.fetch c r 12 g) _ (fetch_good 12 g) (store_good _ 14 (slot_at c r k))

  right_good : (o : Operand) → AreGood (form.right c r o)
  right_good (operand.Temporary t) = fetch_good 15 (home c r t)
  right_good (operand.Number z) = by_test (is_small z) _ _ tt (tt, (tt, tt))

  base_code_good : (a : Base) → AreGood (form.base_code c r a)
  base_code_good base.Frame = tt
  base_code_good base.Scratch = tt
  base_code_good base.Program = tt
  base_code_good (base.Temporary t) = fetch_good 12 (home c r t)

  reach_good : (a : Base) (n : ℕ) → AreGood (form.reach c r a n)
  reach_good a n =
      by_test (is_near (form.base_offset c r a n)) _ _ (base_code_good a)
      (good_append (form.base_code c r a) _ (base_code_good a) (tt, (tt, (tt, tt))))

  load_form_good : (width : Width) (t : ℕ) (a : Base) (n : ℕ) → AreGood (form.load_form c r width t a n)
  load_form_good width t a n = good_append (form.reach c r a n) _ (reach_good a n) (tt, save_good (home c r t))

  store_form_good : (width : Width) (a : Base) (n u : ℕ) → AreGood (form.store_form c r width a n u)
  store_form_good width a n u =
      good_append (form.reach c r a n) _ (reach_good a n)
      (good_append (form.fetch c r 15 (home c r u)) _ (fetch_good 15 (home c r u)) (tt, tt))

  address_good : (d : ℕ) (a : Base) (n : ℕ) → AreGood (form.address c r d a n)
  address_good d a n =
      good_append (form.base_code c r a) _ (base_code_good a)
      (by_test (nat_lt (form.base_offset c r a n) 65536) _ _ (tt, tt) (tt, (tt, (tt, tt))))

  both_good : (a : ℕ) (o : Operand) (ps : List Piece) → AreGood ps → AreGood (form.both c r a o ps)
  both_good a o ps h =
      good_append (form.fetch c r 12 (home c r a)) _ (fetch_good 12 (home c r a))
      (good_append (form.right c r o) ps (right_good o) h)

  divisor_good : (o : Operand) → AreGood (form.divisor c r o)
  divisor_good (operand.Temporary t) = bring_good 15 (home c r t)
  divisor_good (operand.Number z) = number_good 15 z

  modulus_good : (o : Operand) → AreGood (form.modulus c r o)
  modulus_good (operand.Temporary t) = fetch_good 15 (home c r t)
  modulus_good (operand.Number z) = number_good 15 z

  quotient_good : (a : ℕ) → AreGood (form.quotient c r a)
  quotient_good a = good_append (form.fetch c r 12 (home c r a)) _ (fetch_good 12 (home c r a))
      (tt, (tt, (tt, (tt, (tt, tt)))))

  sum_good : (q n : ℕ) → AreGood (form.sum c r q n)
  sum_good q n = by_test (nat_lt n 65536) _ _ (tt, tt) (tt, (tt, (tt, tt)))

  base_address_good : (a : Base) → AreGood (form.base_address c r a)
  base_address_good base.Frame = sum_good 14 (c.frame_at r)
  base_address_good base.Scratch = sum_good 14 (c.scratch_at r)
  base_address_good base.Program = sum_good 13 (c.frame_at 0)
  base_address_good (base.Temporary t) = fetch_good 15 (home c r t)

  least_good : (a : ℕ) → AreGood (form.quotient_by_least c r a)
  least_good a =
      good_append (form.fetch c r 12 (home c r a)) _ (fetch_good 12 (home c r a)) (tt, (tt, (tt, (tt, (tt, tt)))))

  opposite_good : (error line : ℕ) → IsTestNumber error → IsLine line → IsGood (form.opposite_test c r error line)
  opposite_good error line e l = opposite_piece (nat_eq error 0) error line (number_of error e) l

  negative_good : (a error line : ℕ) → IsTestNumber error → IsLine line → AreGood
      (form.quotient_by_negative c r a error line)
  negative_good a error line e l =
      let last : AreGood (form.skip on.Always (length (form.quotient_by_least c r a)) ∷ form.quotient_by_least c r a) =
      (tt, least_good a) in (
        tt,
        (
          tt,
          (tt, good_append (form.quotient c r a) _ (quotient_good a) (tt, (tt, (opposite_good error line e l, last)))),
        ),
      )

  divide_good : (t a : ℕ) (o : Operand) (error line : ℕ) → IsTestNumber error → IsLine line → AreGood
      (form.divide_form c r t a o error line)
  divide_good t a o error line e l =
      by_test (is_divisor o) _ _ (good_append (form.fetch c r 12 (home c r a)) _ (fetch_good 12 (home c r a))
      (tt, (tt, (tt, (tt, (tt, save_good (home c r t)))))))
      (good_append (form.divisor c r o) _ (divisor_good o) (
        (error_two, l),
        (
          tt,
          good_append (form.quotient c r a) _ (quotient_good a) (
            tt,
            good_append (form.quotient_by_negative c r a error line) _ (negative_good a error line e l)
                (receive_good (home c r t)),
          ),
        ),
      ))

  modulo_good : (t a : ℕ) (o : Operand) (line : ℕ) → IsLine line → AreGood (form.modulo_form c r t a o line)
  modulo_good t a o line l =
      by_test (is_divisor o) _ _ (good_append (form.fetch c r 12 (home c r a)) _ (fetch_good 12 (home c r a))
      (tt, (tt, save_good (home c r t)))) (good_append (form.modulus c r o) _ (modulus_good o) (
        tt,
        (
          (error_three, l),
          good_append (form.fetch c r 12 (home c r a)) _ (fetch_good 12 (home c r a))
              (tt, (tt, save_good (home c r t))),
        ),
      ))

  overflow_good : (t a : ℕ) (o : Operand) (error line : ℕ) → IsTestNumber error → IsLine line → (p : Piece) → IsGood p
      → AreGood (form.both c r a o (p ∷ form.tested error (Fails on.OverflowSet error line ∷ []) (form.save c r
      (home c r t))))
  overflow_good t a o error line e l p h =
      both_good a o _ (
        h,
        tested_good error (Fails on.OverflowSet error line ∷ []) (form.save c r (home c r t)) e
            (λ n. ((n, l), tt)) (save_good (home c r t)),
      )

  product_good : (t a : ℕ) (o : Operand) (error line : ℕ) → IsTestNumber error → IsLine line → AreGood
      (form.multiply_form c r t a o error line)
  product_good t a o error line e l =
      both_good a o _ (
        tt,
        tested_good error (form.beyond ++ Fails on.NotEqual error line ∷ [])
            (form.save c r (home c r t)) e (λ n. (tt, (tt, (tt, (tt, (tt, ((n, l), tt))))))) (save_good (home c r t)),
      )

  arithmetic_good : (operator : Operator) (t a : ℕ) (o : Operand) (error line : ℕ) → IsTestNumber error → IsLine line
      → AreGood (form.arithmetic_form c r operator t a o error line)
  arithmetic_good Add t a o error line e l = overflow_good t a o error line e l _ tt
  arithmetic_good Subtract t a o error line e l = overflow_good t a o error line e l _ tt
  arithmetic_good Multiply t a o error line e l = product_good t a o error line e l
  arithmetic_good Divide t a o error line e l = divide_good t a o error line e l
  arithmetic_good Modulo t a o error line e l = modulo_good t a o line l

  above_good : (a : ℕ) (low : ℤ) → AreGood (form.above c r a low)
  above_good a low =
      by_test (is_zero low) _ _ tt (good_append (form.right c r (operand.Number low)) _
      (right_good (operand.Number low)) (tt, tt))

  at_most_good : (q n error line : ℕ) → IsErrorNumber error → IsLine line → AreGood (form.at_most c r q n error line)
  at_most_good q n error line e l = by_test (nat_lt n 65535) _ _ (tt, ((e, l), tt)) (tt, (tt, (tt, ((e, l), tt))))

  range_good : (q : ℕ) (low high : ℤ) (error line : ℕ) → IsErrorNumber error → IsLine line → AreGood
      (form.range_code c r q low high error line)
  range_good q low high error line e l =
      by_test (int_lt high low) _ _ ((e, l), tt) (good_append (form.above c r q low) _ (above_good q low)
      (at_most_good (form.above_register c r q low) (steps_above low high) error line e l))

  check_good : (i : ℕ) (low high : ℤ) (error line : ℕ) → IsTestNumber error → IsLine line → AreGood
      (form.check_form c r i low high error line)
  check_good i low high error line e l =
      by_number (nat_eq error 0) _ _ (tt, tt) (λ is. good_append (form.fetch c r 12 (home c r i)) _
      (fetch_good 12 (home c r i)) (range_good _ low high error line (number_of error e is) l))

  pointer_good : (flagged : Option ℕ) (a error line : ℕ) → IsTestNumber error → IsLine line → AreGood
      (form.pointer_form c r flagged a error line)
  pointer_good flagged a error line e l =
      by_number (nat_eq error 0) _ _ (tt, tt) (λ is. by_test (form.is_flagged c r flagged a) _ _
      ((number_of error e is, l), tt) (good_append (form.bring c r 12 (home c r a)) _ (bring_good 12 (home c r a))
      ((number_of error e is, l), tt)))

  index_code_good : (q : ℕ) (low high : ℤ) (error line : ℕ) → IsTestNumber error → IsLine line → AreGood
      (form.index_code c r q low high error line)
  index_code_good q low high error line e l =
      by_number (nat_eq error 0) _ _ (above_good q low)
      (λ is. range_good q low high error line (number_of error e is) l)

  scaled_good : (q width : ℕ) → AreGood (form.scaled c r q width)
  scaled_good q width =
      by_test (nat_eq width 1) _ _ tt (good_append (form.right c r (operand.Number (pos width))) _
      (right_good (operand.Number (pos width))) (tt, tt))

  component_good : (deferred : Option (ℕ × ℤ)) (t : ℕ) (a : Base) (q : ℕ) → AreGood (form.component c r deferred t a q)
  component_good None t a q = good_append (form.base_address c r a) _ (base_address_good a) (tt, save_good (home c r t))
  component_good (Some deferred) t a q = (tt, tt)

  steps_good : (deferred : Option (ℕ × ℤ)) (t : ℕ) (a : Base) (q width : ℕ)
      → AreGood (form.steps_form c r deferred t a q width)
  steps_good deferred t a q width =
      good_append (form.scaled c r q width) _ (scaled_good q width)
      (component_good deferred t a (form.scaled_register c r q width))

  near_code_good : (a : Base) → AreGood (form.near_code c r a)
  near_code_good base.Frame = tt
  near_code_good base.Scratch = tt
  near_code_good base.Program = tt
  near_code_good (base.Temporary t) = fetch_good 15 (home c r t)

  near_component_good : (n : ℕ) (deferred : Option (ℕ × ℤ)) (t : ℕ) (a : Base) (q : ℕ) → AreGood
      (form.near_component c r n deferred t a q)
  near_component_good n None t a q =
      good_append (form.sum c r (form.base_register c r a) n) _ (sum_good (form.base_register c r a) n)
      (tt, save_good (home c r t))
  near_component_good n (Some deferred) t a q = good_append (form.near_code c r a) _ (near_code_good a) (tt, tt)

  index_by_good : (o : Option ℕ) (deferred : Option (ℕ × ℤ)) (t : ℕ) (a : Base) (i : ℕ) (low high : ℤ)
      (width error line : ℕ) → IsTestNumber error → IsLine line → AreGood
      (form.index_by c r o deferred t a i low high width error line)
  index_by_good None deferred t a i low high width error line e l =
      let at = form.fetched c r 12 (home c r i) in
      good_append (form.fetch c r 12 (home c r i)) _ (fetch_good 12 (home c r i))
      (good_append (form.index_code c r at low high error line) _ (index_code_good at low high error line e l)
      (steps_good deferred t a (form.above_register c r at low) width))
  index_by_good (Some n) deferred t a i low high width error line e l =
      let at = form.fetched c r 12 (home c r i) in
      good_append (form.fetch c r 12 (home c r i)) _ (fetch_good 12 (home c r i))
      (good_append (form.scaled c r at width) _ (scaled_good at width)
      (near_component_good n deferred t a (form.scaled_register c r at width)))

  index_good : (deferred : Option (ℕ × ℤ)) (t : ℕ) (a : Base) (i : ℕ) (low high : ℤ) (width error line : ℕ)
      → IsTestNumber error → IsLine line → AreGood (form.index_form c r deferred t a i low high width error line)
  index_good deferred t a i low high width error line e l =
      index_by_good (short_of (folded c r a low high width error) (near_of deferred a)) deferred t a i low high width
      error line e l

  word_good : (deferred : Option (ℕ × ℤ)) (t : ℕ) (a : Base) (n : ℕ) → AreGood (form.word_form c r deferred t a n)
  word_good None t a n = load_form_good _ t a n
  word_good (Some deferred) t a n = (tt, tt)

  pass_one_good : (n j : ℕ) (h : Home) → AreGood (form.pass_one c r n j h)
  pass_one_good n j h =
      by_test (is_stored n j h) _ _ (good_append (form.fetch c r 12 h) _ (fetch_good 12 h) (tt, tt)) tt

  pass_good : (n j : ℕ) (us : List ℕ) → AreGood (form.pass c r n j us)
  pass_good n j [] = tt
  pass_good n j (u ∷ us) = good_append (form.pass_one c r n j (home c r u)) _ (pass_one_good n j (home c r u))
      (pass_good n (suc j) us)

  carry_one_good : (n j : ℕ) (h : Home) → AreGood (form.carry_one c r n j h)
  carry_one_good n j h = by_test (is_taken n j h) _ _ (tt, tt) (into_good j h)

  carry_good : (n j : ℕ) (us : List ℕ) → AreGood (form.carry c r n j us)
  carry_good n zero us = tt
  carry_good n (suc j) us =
      good_append (form.carry_one c r n j (home c r (slice_index us j))) _
      (carry_one_good n j (home c r (slice_index us j))) (carry_good n j us)

  offer_good : (us : List ℕ) → AreGood (form.offer c r us)
  offer_good us =
      let n = carried (length us) in
      good_append (form.pass c r n 0 us) _ (pass_good n 0 us) (carry_good n n us)

  offer_by_good : (a : ℕ) (us : List ℕ) → AreGood (form.offer_by c r a us)
  offer_by_good a us =
      let n = carried (length us) in
      good_append (form.pass c r n 0 us) _ (pass_good n 0 us)
      (good_append (form.bring c r 12 (home c r a)) _ (bring_good 12 (home c r a)) (carry_good n n us))

  call_piece : (b : Bool) (q line : ℕ) → IsLine line → IsGood (cond b (Enters q line) (Joins q))
  call_piece true q line l = l
  call_piece false q line l = tt

  return_good : (a : ℕ) → AreGood (form.return_form c r a)
  return_good a =
      good_append (form.into c r 0 (home c r a)) _ (into_good 0 (home c r a))
      (by_test (is_program c r) _ _ (tt, (tt, (tt, tt))) (tt, (tt, tt)))

  branch_good : (q : Option Condition) (relation : Relation) (a : ℕ) (o : Operand) (label : Label) → AreGood
      (form.branch_by c r q relation a o label)
  branch_good None relation a o label = both_good a o _ (tt, (tt, tt))
  branch_good (Some flagged) relation a o label = (tt, tt)

  truth_good : (relation : Relation) (t a : ℕ) (o : Operand) → AreGood (form.truth_form c r relation t a o)
  truth_good relation t a o = both_good a o _ (tt, (tt, (tt, (tt, (tt, save_good (home c r t))))))

  unlike_good : (flagged : Option ℕ) (t a : ℕ) (o : Operand) → AreGood (form.unlike_form c r flagged t a o)
  unlike_good flagged t a o =
      by_test (form.is_own c r flagged t a o) _ _ (tt, (tt, save_good (home c r t)))
      (both_good a o _ (tt, (tt, (tt, save_good (home c r t)))))

  compare_good : (flagged : Option ℕ) (relation : Relation) (t a : ℕ) (o : Operand) → AreGood
      (form.compare_form c r flagged relation t a o)
  compare_good flagged NotEqual t a o = unlike_good flagged t a o
  compare_good flagged Equal t a o = truth_good Equal t a o
  compare_good flagged Less t a o = truth_good Less t a o
  compare_good flagged LessEqual t a o = truth_good LessEqual t a o
  compare_good flagged Greater t a o = truth_good Greater t a o
  compare_good flagged GreaterEqual t a o = truth_good GreaterEqual t a o

  -- the words of an instruction that is sound
  pub form_good : (limits : Limits) (k : ℕ) (i : Instruction) → IsSoundAt limits k i → AreGood (form.form c r k i)
  form_good limits k (Literal t z) h =
      good_append (form.number (form.target c r (home c r t)) z) _ (number_good _ z) (save_good (home c r t))
  form_good limits k (Copy t a) h = copy_good (home c r t) (home c r a)
  form_good limits k (Arithmetic operator t a o error line) h = arithmetic_good operator t a o error line h.3 h.4
  form_good limits k (Bits operator t a o) h = both_good a o _ (tt, save_good (home c r t))
  form_good limits k (Compare relation t a o) h = compare_good (flagged_at c r k) relation t a o
  form_good limits k (CheckRange a low high error line) h =
      check_good a low high error line h.3 h.4
  form_good limits k (CheckPointer a error line) h =
      pointer_good (flagged_at c r k) a error line h.1 h.2
  form_good limits k (Text t bytes) h = (tt, (tt, save_good (home c r t)))
  form_good limits k (Offset t a n extent) h =
      good_append (form.address c r (form.target c r (home c r t)) a n) _ (address_good _ a n) (save_good (home c r t))
  form_good limits k (Index t a i low high width error line) h =
      index_good (deferred_at c r (suc k)) t a i low high width error line h.5 h.6
  form_good limits k (RoutineValue t q) h = (tt, (tt, save_good (home c r t)))
  form_good limits k (Load t a n) h = word_good (deferred_at c r k) t a n
  form_good limits k (Store a n u) h = store_form_good _ a n u
  form_good limits k (LoadByte t a n) h = load_form_good _ t a n
  form_good limits k (StoreByte a n u) h = store_form_good _ a n u
  form_good limits k (Jump n) h = (tt, tt)
  form_good limits k (JumpBack n) h = (tt, tt)
  form_good limits k (Branch relation a o n) h = branch_good
      (form.branch_choice c r (flagged_at c r k) relation a o) relation a o _
  form_good limits k (BranchBack relation a o n) h = branch_good
      (form.branch_choice c r (flagged_at c r k) relation a o) relation a o _
  form_good limits k (Call t q us line) h =
      good_append (form.offer c r us) _ (offer_good us)
      (call_piece (is_program c q) q line h.3, accept_good (home c r t))
  form_good limits k (CallValue t a us line) h =
      good_append (form.offer_by c r a us) _ (offer_by_good a us) (h.3, accept_good (home c r t))
  form_good limits k (Return a) h = return_good a
  form_good limits k (Trap error line) h = ((h.0, h.1), tt)
  form_good limits k (Take t) h = (tt, (tt, save_good (home c r t)))
  form_good limits k (Put a) h = good_append (form.fetch c r 12 (home c r a)) _ (fetch_good 12 (home c r a))
      (tt, (tt, tt))
  form_good limits k (New t type line) h = (
    tt,
    (
      tt,
      (
        tt,
        good_append (form.number 12 (pos (c.sizes type))) _ (number_good 12 (pos (c.sizes type)))
            (tt, ((error_heap, h.2), (tt, (tt, (tt, (tt, receive_good (home c r t))))))),
      ),
    ),
  )
  form_good limits k End h = (tt, (tt, (tt, tt)))
