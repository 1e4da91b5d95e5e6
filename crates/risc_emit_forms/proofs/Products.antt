-- Products followed by their words.
use Rattle.std.proofs.Common.{◌≡◌, ◌≢◌, ℕ, zero, suc, ◌+◌, ◌-◌, ◌/◌, ◌%◌, ◌^◌, ◌<◌, ◌≤◌, Bool, true, false, cond, not}
use Rattle.std.proofs.Common.{nat_eq, nat_lt, nat_le, List, [], ◌∷◌, ◌++◌, Some, ℤ, pos, negsuc, ◌*ℤ◌, refl, sym, ap}
use Rattle.std.proofs.Common.{◌∙◌, subst, arith}
use Rattle.std.specs.Int.{int_shr}
use Rattle.std.proofs.lemmas.Int.{ints}
use Rattle.risc_word.specs.declared.instr.Operation.TheVariants as op
use Rattle.risc_word.specs.declared.instr.Operand.TheVariants as instr_operand
use Rattle.risc_word.specs.declared.instr.Condition.TheVariants as on
use Rattle.risc_word.specs.declared.instr.Instr.TheVariants as word
use Rattle.risc_machine.specs.Step as machine
use Rattle.risc_machine.specs.Step.{word_of_int, signed, overflows, product}
use Rattle.risc_machine.specs.declared.limits.TheConstants.{SIGN_BIT}
use Rattle.risc_machine_laws.specs.View.{View, Shows, operand_view, after, at_view}
use Rattle.risc_machine_laws.specs.Runs.{To, same_tape}
use Rattle.risc_machine_laws.specs.Numbers.{difference_of, product_of, sign_of}
use Rattle.risc_machine_laws.proofs.Numbers.{product_word, product_test}
use Rattle.tac_code.specs.declared.code.Operator.TheVariants.{Multiply}
use Rattle.tac_code.specs.declared.code.Operand.{Operand}
use Rattle.tac_code.specs.declared.code.Value.TheVariants.{Number}
use Rattle.tac_code.specs.declared.code.Instruction.TheVariants.{Arithmetic}
use Rattle.tac_code.specs.Numbers.{is_integer, word_of, Gives, Fails, within}
use Rattle.tac_code.specs.Meaning.{fetch, State, giving, operand_value, gives_computed}
use Rattle.tac_code.proofs.Numbers.{not_zero}
use Rattle.risc_emit_relation.specs.Context.{Context, home, Places, IsNumber}
use Rattle.risc_emit_relation.proofs.Basics.{update_same, update_other}
use Rattle.risc_emit_forms.specs.Pieces as piece
use Rattle.risc_emit_forms.specs.Pieces.{Plain, Left}
use Rattle.risc_emit_forms.specs.Forms as form
use Rattle.risc_emit_forms.specs.Forms.{fetched, right_operand, target, save}
use Rattle.risc_emit_forms.specs.Follows.{machine_of, Built, Belongs, Follows}
use Rattle.risc_emit_forms.proofs.Basics.{left_next, left_at, writes_it}
use Rattle.risc_emit_forms.proofs.Flags.{silent}
use Rattle.risc_emit_forms.proofs.Runs.{step_to}
use Rattle.risc_emit_forms.proofs.Fetches.{target_not}
use Rattle.risc_emit_forms.proofs.Comes.{framed, fails_not, test_walked, walk_near, skip_run}
use Rattle.risc_emit_forms.proofs.Joins.{fetched_is, come_to}
use Rattle.risc_emit_forms.proofs.Comes.{skip_not, gives_end}
use Rattle.risc_emit_forms.proofs.Operands.{code}
use Rattle.risc_emit_forms.proofs.Calls.{follows_way, follows_to}
use Rattle.risc_emit_forms.proofs.Numbers.{number_of_integer, operands_run, overflow_is, untested_follows}

-- the sign of a low word, all ones or 0
sign_above : (low : ℕ) → SIGN_BIT ≤ low → low < 2 ^ 32 → sign_of low ≡ 2 ^ 32 - 1
sign_above low h k =
    let e : signed low ≡ negsuc (2 ^ 32 - suc low) = rw (not_less low SIGN_BIT h) in
    ap (λ z. word_of_int (int_shr z 31)) e ∙ over low h k
  where
    not_less : (x y : ℕ) → y ≤ x → nat_lt x y ≡ false
    not_less x y h = grind arith

    over : (low : ℕ) → SIGN_BIT ≤ low → low < 2 ^ 32 → 2 ^ 32 - suc ((2 ^ 32 - suc low) / SIGN_BIT)
        ≡ 2 ^ 32 - 1
    over low h k = omega arith

sign_below : (low : ℕ) → low < SIGN_BIT → sign_of low ≡ 0
sign_below low h =
    let e : signed low ≡ pos low = omega (arith, ints) in
    ap (λ z. word_of_int (int_shr z 31)) e ∙ over low h
  where
    over : (low : ℕ) → low < SIGN_BIT → low / SIGN_BIT ≡ 0
    over low h = omega arith

same_test : (x y : ℕ) → ((x ≡ 0) → (y ≡ 0)) → ((y ≡ 0) → (x ≡ 0)) → nat_eq x 0 ≡ nat_eq y 0
same_test zero zero f g = refl
same_test zero (suc y) f g = absurd (cc (f refl))
same_test (suc x) zero f g = absurd (cc (g refl))
same_test (suc x) (suc y) f g = not_zero x ∙ sym (not_zero y)

-- one more than H is 0 where H is that sign of a negative word, and H is 0 where it is that of another
all_ones : (low h : ℕ) → SIGN_BIT ≤ low → low < 2 ^ 32 → h < 2 ^ 32 → nat_eq ((h + 1 + 0) % 2 ^ 32) 0 ≡ nat_eq
    (difference_of (sign_of low) h) 0
all_ones low h ge lt k =
    same_test _ (difference_of (2 ^ 32 - 1) h) (λ e. omega (arith, e, k)) (λ e. omega (arith, e, k))
    ∙ ap (λ q. nat_eq (difference_of q h) 0) (sym (sign_above low ge lt))

no_ones : (low h : ℕ) → low < SIGN_BIT → h < 2 ^ 32 → nat_eq h 0 ≡ nat_eq (difference_of (sign_of low) h) 0
no_ones low h lt k =
    same_test h (difference_of 0 h) (λ e. omega (arith, e, k)) (λ e. omega (arith, e, k))
    ∙ ap (λ q. nat_eq (difference_of q h) 0) (sym (sign_below low lt))

large : (n : ℕ) → nat_le SIGN_BIT n ≡ true → SIGN_BIT ≤ n
large n e = grind arith

small : (n : ℕ) → nat_le SIGN_BIT n ≡ false → n < SIGN_BIT
small n e = grind arith

module _ (c : Context) (words : List ℕ) (b : Built c words) (p : Places) (s : State) (f : ℕ) (m : machine.State)
    (v : View) (sh : Shows words c.size m v) (be : Belongs c words p s v f) where
  -- ---- products

  -- a product in its register, and whether it is too long
  product_ends : (t a : ℕ) (o : Operand) (error line : ℕ) (z : ℤ) (n : machine.State) (w : View)
      → fetch c.code s.current.routine s.current.place ≡ Some (Arithmetic Multiply t a o error line)
      → Shows words c.size n w → (IsNumber z → w.registers (target c s.current.routine (home c s.current.routine t))
      ≡ word_of z) → w.equal ≡ not (overflows z)
      → ((q : ℕ) → q ≢ 12 → q ≢ 15 → q ≢ target c s.current.routine (home c s.current.routine t) → w.registers q
      ≡ v.registers q) → ((x : ℕ) → w.words x ≡ v.words x) → Left c words w.place
      (piece.Fails on.NotEqual error line ∷ save c s.current.routine (home c s.current.routine t))
      (c.site s.current.routine (suc s.current.place)) → Follows c words
      (gives_computed c.code t (within error z) line s) s n
  product_ends t a o error line z n w here sh' value equal regs mem l = go (is_integer z) refl
    where
      go : (fit : Bool) → is_integer z ≡ fit → Follows c words
          (gives_computed c.code t (cond fit (Gives z) (Fails error)) line s) s n
      go true e =
          let r = s.current.routine in
          let i = Arithmetic Multiply t a o error line in
          let t1 = fails_not c words b on.NotEqual error line _ _ n w sh' l
          (ap not (equal ∙ ap not (overflow_is z ∙ ap not e))) in
          let w1 = at_view (w.place + 1) w in
          let is = number_of_integer z e in
          come_to c words b s (record s { current = giving t (Number z) s.current }) n same_tape w1 t1 refl
          (gives_end c words b p s (machine_of v) f t (Number z) t1.to w1 be.related be.input
          (writes_it c r s.current.place i here t refl refl) (silent c r s.current.place i here refl) is t1.shows
          (record {
            here = value is;
            registers = regs;
            words = mem;
          }) (left_next c words w.place _ _ (save c r (home c r t)) l))
      go false e =
          let r = s.current.routine in
          let n14 = target_not c words b.stood b.laid b.placed r f
          (framed c words b p s (machine_of v) f be.related) t 14 (omega arith) in
          test_walked c words b s on.NotEqual error line _ _ n w
          (walk_near c words b p s (machine_of v) f w be.related
          (regs 14 (omega arith) (omega arith) (λ x. n14 (sym x))) mem) sh' l
          (ap not (equal ∙ ap not (overflow_is z ∙ ap not e)))

  pub multiply_follows : (t a : ℕ) (o : Operand) (error line : ℕ) (x y : ℤ)
      → fetch c.code s.current.routine s.current.place ≡ Some (Arithmetic Multiply t a o error line)
      → s.current.temporaries a ≡ Some (Number x) → operand_value s.current.temporaries o ≡ Some (Number y)
      → Follows c words (gives_computed c.code t (within error (x *ℤ y)) line s) s m
  multiply_follows t a o error line x y here ea eo =
      let r = s.current.routine in
      let k = s.current.place in
      let i = Arithmetic Multiply t a o error line in
      let so = fetched_is c words b r k i here in
      let h = home c r t in
      let d = target c r h in
      let j = word.Operate op.Mul d (fetched c r 12 (home c r a)) (right_operand c r o) in
      let rest = form.tested error (form.beyond ++ piece.Fails on.NotEqual error line ∷ []) (save c r h) in
      let g = operands_run c words b p s f m v sh be i a o x y (Plain j ∷ rest) _ _ here refl so.sound.2 ea eo
      (code c words b p s f m v sh be i here) in
      let v1 = g.view in
      let t2 = step_to c words b.stood j g.way.to v1 g.way.shows g.left.stands.0 tt in
      let v2 = after j v1 in
      let n = product_of (word_of x) (word_of y) in
      let whole : product (v1.registers (fetched c r 12 (home c r a))) (operand_view v1 (right_operand c r o)) ≡ product
      (word_of x) (word_of y) = ap (λ q. product q (operand_view v1 (right_operand c r o))) g.first
      ∙ ap (product (word_of x)) g.second in
      let is : v2.registers d ≡ n = update_same v1.registers d _ ∙ ap (λ q. q % 2 ^ 32) whole in
      let high : v2.high ≡ product (word_of x) (word_of y) / 2 ^ 32 = ap (λ q. q / 2 ^ 32) whole in
      let negative : v2.negative ≡ nat_le SIGN_BIT n = ap (λ q. nat_le SIGN_BIT (q % 2 ^ 32)) whole in
      follows_way c words b s m v1 g.way (gives_computed c.code t (within error (x *ℤ y)) line s)
      (multiplied g.good g.good_right g.way.to v2 t2 is high (modulo (product (word_of x) (word_of y)))
      (λ q n12 n15 nd. update_other v1.registers d _ q nd ∙ g.near.registers q n12 n15) g.near.words negative
      (nat_eq error 0) refl (left_next c words v1.place _ _ rest g.left))
    where
      modulo : (q : ℕ) → q % 2 ^ 32 < 2 ^ 32
      modulo q = omega arith

      tested : IsNumber x → IsNumber y → (n2 : machine.State) (v2 : View) → Shows words c.size n2 v2 → v2.registers
          (target c s.current.routine (home c s.current.routine t)) ≡ product_of (word_of x) (word_of y) → v2.high
          ≡ product (word_of x) (word_of y) / 2 ^ 32 → product_of (word_of x) (word_of y) < 2 ^ 32
          → ((q : ℕ) → q ≢ 12 → q ≢ 15 → q ≢ target c s.current.routine (home c s.current.routine t) → v2.registers q
          ≡ v.registers q) → ((q : ℕ) → v2.words q ≡ v.words q) → Left c words v2.place
          (form.beyond ++ piece.Fails on.NotEqual error line ∷ save c s.current.routine (home c s.current.routine t))
          (c.site s.current.routine (suc s.current.place)) → (minus : Bool) → v2.negative ≡ minus → v2.negative
          ≡ nat_le SIGN_BIT (product_of (word_of x) (word_of y)) → Follows c words
          (gives_computed c.code t (within error (x *ℤ y)) line s) s n2
      tested g_good g_right n2 v2 sh2 is high low regs mem l2 true minus told =
          let r = s.current.routine in
          let d = target c r (home c r t) in
          let n = product_of (word_of x) (word_of y) in
          let step = gives_computed c.code t (within error (x *ℤ y)) line s in
          let fr = framed c words b p s (machine_of v) f be.related in
          let n15 = target_not c words b.stood b.laid b.placed r f fr t 15 (omega arith) in
          let j3 = word.MoveHigh 15 in
          let j4 = word.Operate op.Add 15 15 (instr_operand.Constant (pos 1)) in
          let t3 = skip_not c words b on.Plus 3 _ _ n2 v2 sh2 l2 (ap not minus) in
          let v3 = at_view (v2.place + 1) v2 in
          let l3 = left_next c words v2.place _ _ _ l2 in
          let t4 = step_to c words b.stood j3 t3.to v3 t3.shows l3.stands.0 tt in
          let v4 = after j3 v3 in
          let l4 = left_next c words v3.place _ _ _ l3 in
          let t5 = step_to c words b.stood j4 t4.to v4 t4.shows l4.stands.0 tt in
          let v5 = after j4 v4 in
          let l5 = left_next c words v4.place _ _ _ l4 in
          let t6 = skip_run c words b on.Always 1 _ _ t5.to v5 t5.shows l5 refl (omega arith) in
          let v6 = at_view (v5.place + 1 + 1) v5 in
          let l6 = left_next c words (v5.place + 1) _ _ _ (left_next c words v5.place _ _ _ l5) in
          let up : v4.registers 15 ≡ product (word_of x) (word_of y) / 2 ^ 32 = update_same v3.registers 15 _ ∙ high in
          let equal : v6.equal ≡ not (overflows (x *ℤ y)) = ap (λ q. nat_eq ((q + 1 + 0) % 2 ^ 32) 0) up ∙ all_ones n
          (product (word_of x) (word_of y) / 2 ^ 32) (large n (sym told ∙ minus)) low
          (subst (λ q. q < 2 ^ 32) high sh2.high_narrow) ∙ product_test x y g_good g_right in
          follows_to c words b s n2 v3 t3 step (follows_to c words b s t3.to v4 t4 step
          (follows_to c words b s t4.to v5 t5 step
          (follows_to c words b s t5.to v6 t6 step
          (product_ends t a o error line (x *ℤ y) t6.to v6 here t6.shows
          (λ z. update_other v4.registers 15 _ d n15 ∙ update_other v3.registers 15 _ d n15 ∙ is
          ∙ product_word x y g_good g_right z) equal
          (λ q n12 ne nd. update_other v4.registers 15 _ q ne ∙ update_other v3.registers 15 _ q ne
          ∙ regs q n12 ne nd) mem l6))))
      tested g_good g_right n2 v2 sh2 is high low regs mem l2 false minus told =
          let r = s.current.routine in
          let d = target c r (home c r t) in
          let n = product_of (word_of x) (word_of y) in
          let step = gives_computed c.code t (within error (x *ℤ y)) line s in
          let fr = framed c words b p s (machine_of v) f be.related in
          let n15 = target_not c words b.stood b.laid b.placed r f fr t 15 (omega arith) in
          let j3 = word.MoveHigh 15 in
          let t3 = skip_run c words b on.Plus 3 _ _ n2 v2 sh2 l2 (ap not minus) (omega arith) in
          let v3 = at_view (v2.place + 1 + 3) v2 in
          let l3 = left_at c words _ v3.place _ _
          (left_next c words (v2.place + 1 + 1 + 1) _ _ _
          (left_next c words (v2.place + 1 + 1) _ _ _
          (left_next c words (v2.place + 1) _ _ _ (left_next c words v2.place _ _ _ l2)))) (omega arith) in
          let t4 = step_to c words b.stood j3 t3.to v3 t3.shows l3.stands.0 tt in
          let v4 = after j3 v3 in
          let l4 = left_next c words v3.place _ _ _ l3 in
          let equal : v4.equal ≡ not (overflows (x *ℤ y)) = ap (λ q. nat_eq q 0) high ∙ no_ones n
          (product (word_of x) (word_of y) / 2 ^ 32) (small n (sym told ∙ minus))
          (subst (λ q. q < 2 ^ 32) high sh2.high_narrow) ∙ product_test x y g_good g_right in
          follows_to c words b s n2 v3 t3 step (follows_to c words b s t3.to v4 t4 step
          (product_ends t a o error line (x *ℤ y) t4.to v4 here t4.shows
          (λ z. update_other v3.registers 15 _ d n15 ∙ is ∙ product_word x y g_good g_right z) equal
          (λ q n12 ne nd. update_other v3.registers 15 _ q ne ∙ regs q n12 ne nd) mem l4))

      multiplied : IsNumber x → IsNumber y → (n1 : machine.State) (v2 : View) (run : To words c.size n1 same_tape v2)
          → v2.registers (target c s.current.routine (home c s.current.routine t)) ≡ product_of (word_of x) (word_of y)
          → v2.high ≡ product (word_of x) (word_of y) / 2 ^ 32 → product_of (word_of x) (word_of y) < 2 ^ 32
          → ((q : ℕ) → q ≢ 12 → q ≢ 15 → q ≢ target c s.current.routine (home c s.current.routine t) → v2.registers q
          ≡ v.registers q) → ((q : ℕ) → v2.words q ≡ v.words q) → v2.negative
          ≡ nat_le SIGN_BIT (product_of (word_of x) (word_of y)) → (none : Bool) → nat_eq error 0 ≡ none
          → Left c words v2.place (cond none (save c s.current.routine (home c s.current.routine t))
          (form.beyond ++ piece.Fails on.NotEqual error line ∷ save c s.current.routine (home c s.current.routine t)))
          (c.site s.current.routine (suc s.current.place)) → Follows c words
          (gives_computed c.code t (within error (x *ℤ y)) line s) s n1
      multiplied hx hy n1 v2 run is high low regs mem told false e l =
          follows_to c words b s n1 v2 run (gives_computed c.code t (within error (x *ℤ y)) line s)
          (tested hx hy run.to v2 run.shows is high low regs mem l v2.negative refl told)
      multiplied hx hy n1 v2 run is high low regs mem told true e l =
          let r = s.current.routine in
          let i = Arithmetic Multiply t a o error line in
          untested_follows c words b p s f m v sh be t error line (x *ℤ y) n1 v2 run e
          (λ z. gives_end c words b p s (machine_of v) f t (Number (x *ℤ y)) run.to v2 be.related be.input
          (writes_it c r s.current.place i here t refl refl) (silent c r s.current.place i here refl) z run.shows
          (record {
            here = is ∙ product_word x y hx hy z;
            registers = regs;
            words = mem;
          }) l)
