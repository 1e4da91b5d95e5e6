-- Quotients and remainders followed by their words.
use Rattle.std.proofs.Common.{◌≡◌, ◌≢◌, ℕ, zero, suc, ◌+◌, ◌%◌, ◌<◌, inr, Bool, true, false, cond, if◌then◌else◌, not}
use Rattle.std.proofs.Common.{◌&&◌, nat_eq, nat_lt, nat_le, List, [], ◌∷◌, ◌++◌, Some, ℤ, pos, negsuc, refl, sym, ap}
use Rattle.std.proofs.Common.{◌∙◌, subst, arith}
use Rattle.std.specs.Prelude.{int_lt, ◌<ℤ◌}
use Rattle.std.specs.Int.{int_div_euclid, int_rem_euclid}
use Rattle.std.proofs.lemmas.Int.{ints}
use Rattle.std.proofs.lemmas.Bool.{ltb-true}
use Rattle.risc_word.specs.declared.instr.Operation.TheVariants as op
use Rattle.risc_word.specs.declared.instr.Operand as instr
use Rattle.risc_word.specs.declared.instr.Operand.TheVariants.{Content, Constant}
use Rattle.risc_word.specs.declared.instr.Condition.TheVariants as on
use Rattle.risc_word.specs.declared.instr.Instr.TheVariants as word
use Rattle.risc_machine.specs.Step as machine
use Rattle.risc_machine.specs.Step.{word_of_int, signed, differ}
use Rattle.risc_machine.specs.declared.limits.TheConstants.{SIGN_BIT}
use Rattle.risc_machine_laws.specs.View.{View, Shows, operand_view, after, at_view}
use Rattle.risc_machine_laws.specs.Runs.{To, Way, same_tape}
use Rattle.risc_machine_laws.proofs.Runs.{way_of, way_to}
use Rattle.risc_machine_laws.proofs.Numbers.{signed_word}
use Rattle.tac_code.specs.declared.code.Operator.TheVariants.{Modulo}
use Rattle.tac_code.specs.declared.code.Operand.{Operand}
use Rattle.tac_code.specs.declared.code.Operand.TheVariants as operand
use Rattle.tac_code.specs.declared.code.Value.TheVariants.{Number}
use Rattle.tac_code.specs.declared.code.Instruction.{Instruction}
use Rattle.tac_code.specs.declared.code.Instruction.TheVariants.{Arithmetic}
use Rattle.tac_code.specs.Numbers.{word_of, Gives, Fails}
use Rattle.tac_code.specs.Sound.{IsOperand}
use Rattle.tac_code.specs.Meaning.{fetch, State, giving, operand_value, gives_computed}
use Rattle.risc_alloc.specs.Flow.{in_operand, is_among}
use Rattle.risc_emit_relation.specs.Context.{Context, home, reads, Places, Writes, IsNumber}
use Rattle.risc_emit_relation.specs.Changes.{Near}
use Rattle.risc_emit_relation.proofs.Basics.{update_same, update_other}
use Rattle.risc_emit_relation.proofs.Steps.{value_near}
use Rattle.risc_emit_forms.specs.Pieces as piece
use Rattle.risc_emit_forms.specs.Pieces.{Piece, Plain, Left}
use Rattle.risc_emit_forms.specs.Peephole.{flagged_by}
use Rattle.risc_emit_forms.specs.Forms as form
use Rattle.risc_emit_forms.specs.Forms.{fetched, right_operand, target, save, receive, number, bring, divisor, modulus}
use Rattle.risc_emit_forms.specs.Forms.{modulus_register, is_divisor, skip, rounded, quotient, quotient_by_least}
use Rattle.risc_emit_forms.specs.Forms.{quotient_by_negative}
use Rattle.risc_emit_forms.specs.Follows.{machine_of, Built, Belongs, Comes, Follows}
use Rattle.risc_emit_forms.proofs.Basics.{left_after, left_next, is_read, writes_it, among_first, among_rest}
use Rattle.risc_emit_forms.proofs.Basics.{integer_is}
use Rattle.risc_emit_forms.proofs.Runs.{Moved, step_to, number_run}
use Rattle.risc_emit_forms.proofs.Fetches.{fetch_run, fetched_not}
use Rattle.risc_emit_forms.proofs.Comes.{framed, fails_not, fails_walked, walk_near}
use Rattle.risc_emit_forms.proofs.Joins.{fetched_is, come_to, come_step}
use Rattle.risc_emit_forms.proofs.Comes.{tells_end}
use Rattle.risc_emit_forms.proofs.Operands.{code, stands_in, one_run, brought_run}
use Rattle.risc_emit_forms.proofs.Compares.{differs}
use Rattle.risc_emit_forms.proofs.Calls.{follows_to}

-- a remainder by a divisor above 0
pub remainder_is : (x y : ℤ) → pos 0 <ℤ y → IsNumber y → IsNumber (int_rem_euclid x y)
remainder_is x (pos zero) h is = absurd (omega (arith, ints, h))
remainder_is x (negsuc n) h is = absurd (omega (arith, ints, h))
remainder_is (pos m) (pos (suc n)) h is = let r : m % suc n < suc n = omega arith
    in (omega (arith, ints, r, is), omega (arith, ints, r, is))
remainder_is (negsuc m) (pos (suc n)) h is = let r : m % suc n < suc n = omega arith
    in (omega (arith, ints, r, is), omega (arith, ints, r, is))

pub above_zero : (y : ℤ) → int_lt (pos 0) y ≡ true → pos 0 <ℤ y
above_zero y e = grind (arith, ints)

plain_divisor : (y : ℤ) → pos 0 <ℤ y → int_lt (pos 0) y ≡ true
plain_divisor y h = grind (arith, ints)

module _ (c : Context) (words : List ℕ) (b : Built c words) (p : Places) (s : State) (f : ℕ) (m : machine.State)
    (v : View) (sh : Shows words c.size m v) (be : Belongs c words p s v f) where
  -- ---- the divisor in R15

  pub record Divides (o : Operand) (y : ℤ) (ps : List Piece) (next : ℕ) : Type 0 where
    pub view : View
    pub to : To words c.size m same_tape view
    pub good : IsNumber y
    pub value : view.registers 15 ≡ word_of y
    pub moved : Moved 15 v view
    pub zero : view.equal ≡ nat_eq (word_of y) 0
    pub minus : view.negative ≡ nat_le SIGN_BIT (word_of y)
    pub left : Left c words view.place ps next

  pub divisor_run : (o : Operand) (y : ℤ) (ps : List Piece) (next temporaries : ℕ) → IsOperand temporaries o
      → ((t : ℕ) → is_among t (in_operand o) ≡ true → reads c s.current.routine s.current.place t ≡ true)
      → operand_value s.current.temporaries o ≡ Some (Number y) → Left c words v.place
      (divisor c s.current.routine o ++ ps) next → Divides o y ps next
  divisor_run (operand.Temporary t) y ps next temporaries so rd e l =
      let g = brought_run c words b p s f m v sh be 15 t (Number y) ps next (omega arith) (rd t (among_first t [])) e l
      in
      record {
        view = g.view;
        to = g.to;
        good = g.good;
        value = g.value;
        moved = g.moved;
        zero = g.zero;
        minus = g.minus;
        left = left_after c words v.place g.view.place next
            (bring c s.current.routine 15 (home c s.current.routine t)) ps l g.place;
      }
  divisor_run (operand.Number z) y ps next temporaries so rd e l =
      let same : Number z ≡ Number y = cc e in
      let zy : z ≡ y = cc same in
      let is = integer_is z so in
      let g = number_run c words b.stood 15 z ps next m v sh is l in
      record {
        view = g.view;
        to = g.to;
        good = subst IsNumber zy is;
        value = g.value ∙ ap word_of zy;
        moved = g.moved;
        zero = g.zero ∙ ap (λ q. nat_eq (word_of q) 0) zy;
        minus = g.minus ∙ ap (λ q. nat_le SIGN_BIT (word_of q)) zy;
        left = left_after c words v.place g.view.place next (number 15 z) ps l g.place;
      }

  -- ---- a modulus where it is

  pub record Stands (o : Operand) (y : ℤ) (ps : List Piece) (next : ℕ) : Type 0 where
    pub view : View
    pub way : Way words c.size m same_tape view
    pub good : IsNumber y
    pub value : view.registers (modulus_register c s.current.routine o) ≡ word_of y
    pub apart : modulus_register c s.current.routine o ≢ 12
    pub moved : Moved 15 v view
    pub left : Left c words view.place ps next

  pub modulus_run : (o : Operand) (y : ℤ) (ps : List Piece) (next temporaries : ℕ) → IsOperand temporaries o
      → ((t : ℕ) → is_among t (in_operand o) ≡ true → reads c s.current.routine s.current.place t ≡ true)
      → operand_value s.current.temporaries o ≡ Some (Number y) → Left c words v.place
      (modulus c s.current.routine o ++ ps) next → Stands o y ps next
  modulus_run (operand.Temporary t) y ps next temporaries so rd e l =
      let r = s.current.routine in
      let fr = framed c words b p s (machine_of v) f be.related in
      let g = one_run c words b p s f m v sh be 15 t (Number y) ps next (omega arith) (rd t (among_first t [])) e l in
      record {
        view = g.view;
        way = g.way;
        good = g.good;
        value = g.value;
        apart = fetched_not c words b.stood b.laid b.placed r f fr 15 t 12 (omega arith) (omega arith);
        moved = g.moved;
        left = left_after c words v.place g.view.place next (form.fetch c r 15 (home c r t)) ps l g.place;
      }
  modulus_run (operand.Number z) y ps next temporaries so rd e l =
      let same : Number z ≡ Number y = cc e in
      let zy : z ≡ y = cc same in
      let is = integer_is z so in
      let g = number_run c words b.stood 15 z ps next m v sh is l in
      record {
        view = g.view;
        way = way_of words c.size m same_tape g.view g.to;
        good = subst IsNumber zy is;
        value = g.value ∙ ap word_of zy;
        apart = omega arith;
        moved = g.moved;
        left = left_after c words v.place g.view.place next (number 15 z) ps l g.place;
      }

  -- ---- remainders

  -- the left operand fetched and divided, by a divisor above 0
  pub record Divided (e a : ℕ) (x y : ℤ) (ps : List Piece) (next : ℕ) (n : machine.State) (w : View) : Type 0 where
    pub view : View
    pub to : To words c.size n same_tape view
    pub quotient : view.registers e ≡ word_of_int (int_div_euclid x y)
    pub negative : view.negative ≡ nat_le SIGN_BIT (word_of_int (int_div_euclid x y))
    pub high : view.high ≡ word_of (int_rem_euclid x y)
    pub registers : (q : ℕ) → q ≢ 12 → q ≢ 15 → q ≢ e → view.registers q ≡ v.registers q
    pub memory : (q : ℕ) → view.words q ≡ v.words q
    pub left : Left c words view.place ps next

  pub divided_run : (e a : ℕ) (o : instr.Operand) (x y : ℤ) (ps : List Piece) (next : ℕ) (n : machine.State) (w : View)
      → Shows words c.size n w → Near (machine_of v) (machine_of w) → reads c s.current.routine s.current.place a ≡ true
      → s.current.temporaries a ≡ Some (Number x) → IsNumber y → pos 0 <ℤ y
      → ((w1 : View) → Moved 12 w w1 → operand_view w1 o ≡ word_of y) → Left c words w.place
      (form.fetch c s.current.routine 12 (home c s.current.routine a)
      ++ (Plain (word.Operate op.Div e (fetched c s.current.routine 12 (home c s.current.routine a)) o) ∷ ps)) next
      → Divided e a x y ps next n w
  divided_run e a o x y ps next n w sh1 near ra ea hy h0 second l =
      let r = s.current.routine in
      let fr = framed c words b p s (machine_of v) f be.related in
      let fa = form.fetch c r 12 (home c r a) in
      let d = fetched c r 12 (home c r a) in
      let i = word.Operate op.Div e d o in
      let e14 : w.registers 14 ≡ f = near.registers 14 (omega arith) (omega arith) ∙ be.related.stack in
      let g = fetch_run c words b.stood b.laid b.placed r f fr 12 a (Plain i ∷ ps) next n w sh1 (omega arith) e14 l in
      let v1 = g.view in
      let l1 = left_after c words w.place v1.place next fa (Plain i ∷ ps) l g.place in
      let k = stands_in c words b p s f m v sh be a (Number x) ra ea in
      let e1 : v1.registers d ≡ word_of x = g.value ∙ value_near c b.laid b.placed p r f (machine_of v) (machine_of w)
      (home c r a) (λ q is. b.placed.register r a q is) near ∙ k.1 in
      let e2 : operand_view v1 o ≡ word_of y = second v1 g.moved in
      let plain : int_lt (pos 0) (signed (operand_view v1 o)) ≡ true = ap (λ q. int_lt (pos 0) (signed q)) e2
      ∙ ap (int_lt (pos 0)) (signed_word y hy) ∙ plain_divisor y h0 in
      let t2 = step_to c words b.stood i g.way.to v1 g.way.shows l1.stands.0 plain in
      let v2 = after i v1 in
      let sx : signed (v1.registers d) ≡ x = ap signed e1 ∙ signed_word x k.0 in
      let sy : signed (operand_view v1 o) ≡ y = ap signed e2 ∙ signed_word y hy in
      let q : word_of_int (int_div_euclid (signed (v1.registers d)) (signed (operand_view v1 o))) ≡ word_of_int
      (int_div_euclid x y) = ap (λ z. word_of_int (int_div_euclid z (signed (operand_view v1 o)))) sx
      ∙ ap (λ z. word_of_int (int_div_euclid x z)) sy in
      let rm : word_of_int (int_rem_euclid (signed (v1.registers d)) (signed (operand_view v1 o))) ≡ word_of_int
      (int_rem_euclid x y) = ap (λ z. word_of_int (int_rem_euclid z (signed (operand_view v1 o)))) sx
      ∙ ap (λ z. word_of_int (int_rem_euclid x z)) sy in
      record {
        view = v2;
        to = way_to_to g.way t2;
        quotient = update_same v1.registers e _ ∙ q;
        negative = ap (nat_le SIGN_BIT) q;
        high = rm;
        registers = λ z n12 n15 ne. update_other v1.registers e _ z ne ∙ g.moved.registers z n12
            ∙ near.registers z n12 n15;
        memory = λ z. g.moved.words z ∙ near.words z;
        left = left_next c words v1.place next (Plain i) ps l1;
      }
    where
      way_to_to : {n : machine.State} {v1 v2 : View} (g : Way words c.size n same_tape v1)
          → To words c.size g.to same_tape v2 → To words c.size n same_tape v2
      way_to_to g t =
          record {
            to = t.to;
            shows = t.shows;
            runs = λ k q. let x = t.runs k q in let y = g.runs x.0 q in (y.0, omega (arith, x.1, y.1), y.2 ∙ x.2);
          }

  -- H goes to the temporary
  remainder_end : (ins : Instruction) (t : ℕ) (x y : ℤ) (n : machine.State) (w : View)
      → fetch c.code s.current.routine s.current.place ≡ Some ins → flagged_by ins ≡ Some t → Shows words c.size n w
      → Near (machine_of v) (machine_of w) → Writes c s.current.routine s.current.place t → IsNumber
      (int_rem_euclid x y) → w.high ≡ word_of (int_rem_euclid x y) → Left c words w.place
      (Plain (word.MoveHigh (target c s.current.routine (home c s.current.routine t))) ∷ save c s.current.routine
      (home c s.current.routine t)) (c.site s.current.routine (suc s.current.place)) → Comes c words s
      (record s { current = giving t (Number (int_rem_euclid x y)) s.current }) n
  remainder_end ins t x y n w here told sh1 near wr is high l =
      let r = s.current.routine in
      let d = target c r (home c r t) in
      let i = word.MoveHigh d in
      let t1 = step_to c words b.stood i n w sh1 l.stands.0 tt in
      let w1 = after i w in
      let s' = record s { current = giving t (Number (int_rem_euclid x y)) s.current } in
      come_to c words b s s' n same_tape w1 t1 refl
      (tells_end c words b p s (machine_of v) f t
      (Number (int_rem_euclid x y)) ins t1.to w1 be.related be.input wr here told
      (ap (λ q. nat_eq q 0) high, ap (nat_le SIGN_BIT) high) is t1.shows (record {
        here = update_same w.registers d _ ∙ high;
        registers = λ q n12 n15 nd. update_other w.registers d _ q nd ∙ near.registers q n12 n15;
        words = near.words;
      }) (left_next c words w.place _ _ (save c r (home c r t)) l))

  -- an immediate divisor is the value of the operand
  pub immediate_is : (o : Operand) (y : ℤ) → is_divisor o ≡ true → operand_value s.current.temporaries o ≡ Some
      (Number y) → (n : ℕ) × (o ≡ operand.Number (pos n)) × (y ≡ pos n) × (0 < n) × (n < 65536)
  immediate_is (operand.Temporary t) y e ev = absurd (cc e)
  immediate_is (operand.Number (negsuc n)) y e ev = absurd (cc e)
  immediate_is (operand.Number (pos n)) y e ev =
      let same : Number (pos n) ≡ Number y = cc ev in
      let yn : pos n ≡ y = cc same in
      let ab = both (nat_lt 0 n) (nat_lt n 65536) e in
      (n, refl, sym yn, ltb-true 0 n ab.0, ltb-true n 65536 ab.1)
    where
      both : (x z : Bool) → x && z ≡ true → (x ≡ true) × (z ≡ true)
      both true z e = (refl, e)
      both false z e = absurd (cc e)

  is_lt : (x y : ℕ) → x < y → nat_lt x y ≡ true
  is_lt x y h = grind arith

  -- the operand of an immediate divisor
  pub immediate_word : (o : Operand) (y : ℤ) (n : ℕ) → o ≡ operand.Number (pos n) → y ≡ pos n → n < 65536 → (w : View)
      → operand_view w (right_operand c s.current.routine o) ≡ word_of y
  immediate_word o y n eo ey lt w =
      ap (λ q. operand_view w (right_operand c s.current.routine q)) eo
      ∙ ap (λ t. operand_view w (cond t (Constant (pos n)) (Content 15))) (is_lt n 65536 lt) ∙ ap word_of (sym ey)

  pub number_of_small : (n : ℕ) → n < 65536 → IsNumber (pos n)
  number_of_small n lt = (omega (arith, ints, lt), omega (arith, ints, lt))

  pub above_of : (n : ℕ) → 0 < n → pos 0 <ℤ pos n
  above_of n lt = omega (arith, ints, lt)

  pub modulo_follows : (t a : ℕ) (o : Operand) (error line : ℕ) (x y : ℤ)
      → fetch c.code s.current.routine s.current.place ≡ Some (Arithmetic Modulo t a o error line)
      → s.current.temporaries a ≡ Some (Number x) → operand_value s.current.temporaries o ≡ Some (Number y)
      → Follows c words (gives_computed c.code t
      (if int_lt (pos 0) y then Gives (int_rem_euclid x y) else Fails 3) line s) s m
  modulo_follows t a o error line x y here ea eo = go (is_divisor o) refl
      (code c words b p s f m v sh be (Arithmetic Modulo t a o error line) here)
    where
      wr : Writes c s.current.routine s.current.place t
      wr = writes_it c s.current.routine s.current.place (Arithmetic Modulo t a o error line) here t refl refl

      ra : reads c s.current.routine s.current.place a ≡ true
      ra = is_read c s.current.routine s.current.place (Arithmetic Modulo t a o error line) here a
          (among_first a (in_operand o))

      still : Near (machine_of v) (machine_of v)
      still = record { registers = λ q n12 n15. refl; words = λ z. refl }

      go : (imm : Bool) → is_divisor o ≡ imm → Left c words v.place
          (cond imm (form.fetch c s.current.routine 12 (home c s.current.routine a)
          ++ (Plain (word.Operate op.Div 12 (fetched c s.current.routine 12 (home c s.current.routine a))
          (right_operand c s.current.routine o)) ∷ Plain
          (word.MoveHigh (target c s.current.routine (home c s.current.routine t))) ∷ save c s.current.routine
          (home c s.current.routine t))) (modulus c s.current.routine o
          ++ (Plain (word.Operate op.Sub 12 (modulus_register c s.current.routine o) (Constant (pos 1)))
          ∷ piece.Fails on.Less 3 line ∷ (form.fetch c s.current.routine 12 (home c s.current.routine a)
          ++ (Plain (word.Operate op.Div 12 (fetched c s.current.routine 12 (home c s.current.routine a))
          (Content (modulus_register c s.current.routine o))) ∷ Plain
          (word.MoveHigh (target c s.current.routine (home c s.current.routine t))) ∷ save c s.current.routine
          (home c s.current.routine t)))))) (c.site s.current.routine (suc s.current.place)) → Follows c words
          (gives_computed c.code t (if int_lt (pos 0) y then Gives (int_rem_euclid x y) else Fails 3) line s) s m
      go true ei l =
          let k = immediate_is o y ei eo in
          let hy : IsNumber y = subst IsNumber (sym k.2) (number_of_small k.0 k.4) in
          let h0 : pos 0 <ℤ y = subst (λ q. pos 0 <ℤ q) (sym k.2) (above_of k.0 k.3) in
          let g = divided_run 12 a (right_operand c s.current.routine o) x y _ _ m v sh still ra ea hy h0
          (λ w1 mv. immediate_word o y k.0 k.1 k.2 k.4 w1) l in
          let done = remainder_end (Arithmetic Modulo t a o error line) t x y g.to.to g.view here refl g.to.shows
          (record {
            registers = λ q n12 n15. g.registers q n12 n15 n12;
            words = g.memory;
          }) wr (remainder_is x y h0 hy) g.high g.left in
          to_gives (int_lt (pos 0) y) (plain_divisor y h0)
          (come_step c words b s (record s { current = giving t (Number (int_rem_euclid x y)) s.current }) m g.view
          g.to done)
        where
          to_gives : (q : Bool) → q ≡ true → Comes c words s
              (record s { current = giving t (Number (int_rem_euclid x y)) s.current }) m → Follows c words
              (gives_computed c.code t (cond q (Gives (int_rem_euclid x y)) (Fails 3)) line s) s m
          to_gives true e h = h
          to_gives false e h = absurd (cc e)
      go false ei l =
          let r = s.current.routine in
          let so = fetched_is c words b r s.current.place (Arithmetic Modulo t a o error line) here in
          let d = modulus_register c r o in
          let i = word.Operate op.Sub 12 d (Constant (pos 1)) in
          let g = modulus_run o y _ _ _ so.sound.2
          (λ u eu. is_read c r s.current.place (Arithmetic Modulo t a o error line) here u
          (among_rest u a (in_operand o) eu)) eo l in
          let v1 = g.view in
          let t2 = step_to c words b.stood i g.way.to v1 g.way.shows g.left.stands.0 tt in
          let v2 = after i v1 in
          let one : IsNumber (pos 1) = (omega (arith, ints), omega (arith, ints)) in
          let ds = differs 12 d (Constant (pos 1)) y (pos 1) v1 g.good one g.value refl in
          let near : Near (machine_of v) (machine_of v2) = record {
            registers = λ q n12 n15. update_other v1.registers 12 _ q n12 ∙ g.moved.registers q n15;
            words = g.moved.words;
          } in
          let l2 = left_next c words v1.place _ _ _ g.left in
          let ed : v2.registers d ≡ word_of y = update_other v1.registers 12 _ d g.apart ∙ g.value in
          let run = way_to words c.size m same_tape same_tape v1 v2 g.way t2 in
          follows_to c words b s m v2 run (gives_computed c.code t
          (if int_lt (pos 0) y then Gives (int_rem_euclid x y) else Fails 3) line s)
          (ends run.to v2 run.shows g.good near g.apart ed (ds.less ∙ below_one y) l2 (int_lt (pos 0) y) refl)
        where
          below_one : (y : ℤ) → int_lt y (pos 1) ≡ not (int_lt (pos 0) y)
          below_one (pos zero) = refl
          below_one (pos (suc n)) = no n
            where
              no : (n : ℕ) → nat_lt (suc n) 1 ≡ not (nat_lt 0 (suc n))
              no n = grind arith
          below_one (negsuc n) = refl

          ends : (n : machine.State) (w : View) → Shows words c.size n w → IsNumber y → Near (machine_of v)
              (machine_of w) → modulus_register c s.current.routine o ≢ 12 → w.registers
              (modulus_register c s.current.routine o) ≡ word_of y → differ w.negative w.overflow ≡ not
              (int_lt (pos 0) y) → Left c words w.place
              (piece.Fails on.Less 3 line ∷ (form.fetch c s.current.routine 12 (home c s.current.routine a)
              ++ (Plain (word.Operate op.Div 12 (fetched c s.current.routine 12 (home c s.current.routine a))
              (Content (modulus_register c s.current.routine o))) ∷ Plain
              (word.MoveHigh (target c s.current.routine (home c s.current.routine t))) ∷ save c s.current.routine
              (home c s.current.routine t)))) (c.site s.current.routine (suc s.current.place)) → (q : Bool) → int_lt
              (pos 0) y ≡ q → Follows c words (gives_computed c.code t
              (cond q (Gives (int_rem_euclid x y)) (Fails 3)) line s) s n
          ends n w sh1 hy near apart ed less l false eq =
              inr (fails_walked c words b s on.Less 3 line _ _ n w
              (walk_near c words b p s (machine_of v) f w be.related
              (near.registers 14 (omega arith) (omega arith)) near.words) sh1 l (less ∙ ap not eq))
          ends n w sh1 hy near apart ed less l true eq =
              let h0 = above_zero y eq in
              let t1 = fails_not c words b on.Less 3 line _ _ n w sh1 l (less ∙ ap not eq) in
              let w1 = at_view (w.place + 1) w in
              let l1 = left_next c words w.place _ _ _ l in
              let g = divided_run 12 a (Content (modulus_register c s.current.routine o)) x y _ _ t1.to w1 t1.shows
              (record {
                registers = near.registers;
                words = near.words;
              }) ra ea hy h0 (λ w2 mv. mv.registers (modulus_register c s.current.routine o) apart ∙ ed) l1 in
              let s' = record s { current = giving t (Number (int_rem_euclid x y)) s.current } in
              come_step c words b s s' n w1 t1 (come_step c words b s s' t1.to g.view g.to
              (remainder_end (Arithmetic Modulo t a o error line) t x y g.to.to g.view here refl g.to.shows
              (record {
                registers = λ q n12 n15. g.registers q n12 n15 n12;
                words = g.memory;
              }) wr (remainder_is x y h0 hy) g.high g.left))
