-- Sums, differences and bits followed by their words.
use Rattle.std.proofs.Common.{◌≡◌, ◌≢◌, ℕ, suc, ◌+◌, ◌-◌, ◌%◌, ◌^◌, ◌<◌, Bool, true, false, cond, not, ◌||◌, nat_eq}
use Rattle.std.proofs.Common.{nat_lt, nat_le, List, [], ◌∷◌, ◌++◌, Some, ℤ, pos, negsuc, ◌+ℤ◌, ◌-ℤ◌, refl, sym, ap, ◌∙◌}
use Rattle.std.proofs.Common.{subst, arith, length-append, append_assoc}
use Rattle.std.specs.Int.{w32}
use Rattle.std.proofs.lemmas.Int.{ints, of_z-to_z}
use Rattle.risc_word.specs.declared.instr.Operation.TheVariants as op
use Rattle.risc_word.specs.declared.instr.Operand as instr
use Rattle.risc_word.specs.declared.instr.Condition.TheVariants as on
use Rattle.risc_word.specs.declared.instr.Instr.TheVariants as word
use Rattle.risc_machine.specs.Step as machine
use Rattle.risc_machine.specs.Step.{signed, overflows}
use Rattle.risc_machine.specs.declared.limits.TheConstants.{SIGN_BIT}
use Rattle.risc_machine_laws.specs.View.{View, Shows, operand_view, after, at_view}
use Rattle.risc_machine_laws.specs.View as shown
use Rattle.risc_machine_laws.specs.Runs.{To, Way, same_tape}
use Rattle.risc_machine_laws.specs.Numbers.{sum_of, difference_of}
use Rattle.risc_machine_laws.proofs.Numbers.{signed_word, is_number, sum_word, difference_word}
use Rattle.tac_code.specs.declared.code.Operator.TheVariants.{Add, Subtract}
use Rattle.tac_code.specs.declared.code.BitOperator.{BitOperator}
use Rattle.tac_code.specs.declared.code.BitOperator.TheVariants.{And, Or, AndNot, ShiftLeft, Plus}
use Rattle.tac_code.specs.declared.code.Operand.{Operand}
use Rattle.tac_code.specs.declared.code.Value.TheVariants.{Number}
use Rattle.tac_code.specs.declared.code.Instruction.{Instruction}
use Rattle.tac_code.specs.declared.code.Instruction.TheVariants.{Arithmetic, Bits}
use Rattle.tac_code.specs.Numbers.{is_integer, word_of, number_of, Gives, Fails, within, combined, bits}
use Rattle.tac_code.specs.Sound.{IsOperand}
use Rattle.tac_code.specs.Meaning.{fetch, State, giving, operand_value, gives_computed}
use Rattle.tac_code.specs.declared.code.TheConstants.{NUMBER_LIMIT}
use Rattle.risc_alloc.specs.Flow.{in_operand, is_among, read_by}
use Rattle.risc_emit_relation.specs.Context.{Context, home, reads, Places, Writes, IsNumber}
use Rattle.risc_emit_relation.specs.Changes.{Near}
use Rattle.risc_emit_relation.proofs.Basics.{update_same, update_other}
use Rattle.risc_emit_forms.specs.Pieces as piece
use Rattle.risc_emit_forms.specs.Pieces.{Piece, Plain, Left}
use Rattle.risc_emit_forms.specs.Forms as form
use Rattle.risc_emit_forms.specs.Forms.{fetched, right, right_operand, both, target, save, bit_operation}
use Rattle.risc_emit_forms.specs.Peephole.{flagged_by}
use Rattle.risc_emit_forms.specs.Follows.{machine_of, Built, Belongs, Comes, Follows}
use Rattle.risc_emit_forms.proofs.Basics.{left_after, left_next, left_at, is_read, writes_it, among_first, among_rest}
use Rattle.risc_emit_forms.proofs.Runs.{step_to}
use Rattle.risc_emit_forms.proofs.Fetches.{target_not}
use Rattle.risc_emit_forms.proofs.Comes.{framed, fails_not, test_walked}
use Rattle.risc_emit_forms.proofs.Joins.{fetched_is, come_to, come_way, Arrives}
use Rattle.risc_emit_forms.proofs.Comes.{untested, walk_near, tells_end}
use Rattle.risc_emit_forms.proofs.Operands.{code, two_run}
use Rattle.risc_emit_forms.proofs.Branches.{right_sound}
use Rattle.risc_emit_forms.proofs.Calls.{follows_way, follows_to}

pub read_back : (n : ℕ) → n < 2 ^ 32 → word_of (number_of n) ≡ n
read_back n lt = of_z-to_z w32 n lt

pub number_in : (n : ℕ) → IsNumber (number_of n)
number_in n = (omega (arith, ints), omega (arith, ints))

-- what overflows is not an integer
pub overflow_is : (z : ℤ) → overflows z ≡ not (is_integer z)
overflow_is (pos n) = go n
  where
    go : (n : ℕ) → nat_lt (NUMBER_LIMIT - 1) n ≡ not (nat_lt n NUMBER_LIMIT)
    go n = grind arith
overflow_is (negsuc n) = go n
  where
    go : (n : ℕ) → nat_lt (NUMBER_LIMIT - 1) n || false ≡ not (nat_lt n NUMBER_LIMIT)
    go n = grind arith

pub number_of_integer : (z : ℤ) → is_integer z ≡ true → IsNumber z
number_of_integer z e = is_number z (overflow_is z ∙ ap not e)

module _ (c : Context) (words : List ℕ) (b : Built c words) (p : Places) (s : State) (f : ℕ) (m : machine.State)
    (v : View) (sh : Shows words c.size m v) (be : Belongs c words p s v f) where
  -- two operands read, as the pieces of an instruction have them
  pub record Fetched (a : ℕ) (o : Operand) (x y : ℤ) (ps : List Piece) (next : ℕ) : Type 0 where
    pub view : View
    pub way : Way words c.size m same_tape view
    pub good : IsNumber x
    pub good_right : IsNumber y
    pub first : view.registers (fetched c s.current.routine 12 (home c s.current.routine a)) ≡ word_of x
    pub second : operand_view view (right_operand c s.current.routine o) ≡ word_of y
    pub near : Near (machine_of v) (machine_of view)
    pub left : Left c words view.place ps next

  pub operands_run : (i : Instruction) (a : ℕ) (o : Operand) (x y : ℤ) (ps : List Piece) (next temporaries : ℕ)
      → fetch c.code s.current.routine s.current.place ≡ Some i → read_by i ≡ a ∷ in_operand o → IsOperand temporaries o
      → s.current.temporaries a ≡ Some (Number x) → operand_value s.current.temporaries o ≡ Some (Number y)
      → Left c words v.place (both c s.current.routine a o ps) next → Fetched a o x y ps next
  operands_run i a o x y ps next temporaries here rd so ea eo l =
      let r = s.current.routine in
      let k = s.current.place in
      let reading : (t : ℕ) → is_among t (a ∷ in_operand o) ≡ true → reads c r k t
      ≡ true = λ t e. is_read c r k i here t (ap (is_among t) rd ∙ e) in
      let g = two_run c words b p s f m v sh be a o (Number x) (Number y) ps next
      (right_sound c words b p s f m v sh be temporaries o so) (reading a (among_first a (in_operand o)))
      (λ t e. reading t (among_rest t a (in_operand o) e)) ea eo l in
      let l0 = subst (λ q. Left c words v.place q next)
      (sym (append_assoc (form.fetch c r 12 (home c r a)) (right c r o) ps)) l in
      let len = length-append (form.fetch c r 12 (home c r a)) (right c r o) in
      record {
        view = g.view;
        way = g.way;
        good = g.good;
        good_right = g.good_right;
        first = g.left;
        second = g.right;
        near = g.near;
        left = left_after c words v.place g.view.place next (form.fetch c r 12 (home c r a) ++ right c r o) ps l0
            (omega (arith, g.place, len));
      }

  -- ---- sums and differences

  -- a result in its register, or the overflow flag
  checked_follows : (i : Instruction) (t error line : ℕ) (z : ℤ) (n : machine.State) (w : View) → Shows words c.size n w
      → Writes c s.current.routine s.current.place t → fetch c.code s.current.routine s.current.place ≡ Some i
      → flagged_by i ≡ Some t → (w.equal ≡ nat_eq
      (w.registers (target c s.current.routine (home c s.current.routine t))) 0)
      × (w.negative ≡ nat_le SIGN_BIT (w.registers (target c s.current.routine (home c s.current.routine t))))
      → (IsNumber z → w.registers (target c s.current.routine (home c s.current.routine t)) ≡ word_of z) → w.overflow
      ≡ overflows z → ((q : ℕ) → q ≢ 12 → q ≢ 15 → q ≢ target c s.current.routine (home c s.current.routine t)
      → w.registers q ≡ v.registers q) → ((x : ℕ) → w.words x ≡ v.words x) → Left c words w.place
      (piece.Fails on.OverflowSet error line ∷ save c s.current.routine (home c s.current.routine t))
      (c.site s.current.routine (suc s.current.place)) → Follows c words
      (gives_computed c.code t (within error z) line s) s n
  checked_follows i t error line z n w sh' wr here told flags value over regs mem l = go (is_integer z) refl
    where
      go : (fit : Bool) → is_integer z ≡ fit → Follows c words
          (gives_computed c.code t (cond fit (Gives z) (Fails error)) line s) s n
      go true e =
          let r = s.current.routine in
          let t1 = fails_not c words b on.OverflowSet error line _ _ n w sh' l (over ∙ overflow_is z ∙ ap not e) in
          let w1 = at_view (w.place + 1) w in
          let is = number_of_integer z e in
          come_to c words b s (record s { current = giving t (Number z) s.current }) n same_tape w1 t1 refl
          (tells_end c words b p s (machine_of v) f t (Number z) i t1.to w1 be.related be.input wr here told
          (flags.0 ∙ ap (λ q. nat_eq q 0) (value is), flags.1 ∙ ap (nat_le SIGN_BIT) (value is)) is t1.shows
          (record {
            here = value is;
            registers = regs;
            words = mem;
          }) (left_next c words w.place _ _ (save c r (home c r t)) l))
      go false e =
          let r = s.current.routine in
          let n14 = target_not c words b.stood b.laid b.placed r f
          (framed c words b p s (machine_of v) f be.related) t 14 (omega arith) in
          test_walked c words b s on.OverflowSet error line _ _ n w
          (walk_near c words b p s (machine_of v) f w be.related
          (regs 14 (omega arith) (omega arith) (λ x. n14 (sym x))) mem) sh' l (over ∙ overflow_is z ∙ ap not e)

  -- a result that is not tested
  pub untested_follows : (t error line : ℕ) (z : ℤ) (n : machine.State) (w : View) (a : To words c.size n same_tape w)
      → nat_eq error 0 ≡ true
      → (IsNumber z → Arrives c words (record s { current = giving t (Number z) s.current }) a.to) → Follows c words
      (gives_computed c.code t (within error z) line s) s n
  untested_follows t error line z n w a none ends = go (is_integer z) refl
    where
      go : (fit : Bool) → is_integer z ≡ fit → Follows c words
          (gives_computed c.code t (cond fit (Gives z) (Fails error)) line s) s n
      go true e =
          come_to c words b s (record s { current = giving t (Number z) s.current }) n same_tape w a refl
          (ends (number_of_integer z e))
      go false e = untested c words b s error line n none

  -- a sum or a difference in its register, with the test of overflow or without
  made_follows : (i : Instruction) (t error line : ℕ) (z : ℤ) (n : machine.State) (w : View)
      (a : To words c.size n same_tape w) → Writes c s.current.routine s.current.place t
      → fetch c.code s.current.routine s.current.place ≡ Some i → flagged_by i ≡ Some t → (w.equal ≡ nat_eq
      (w.registers (target c s.current.routine (home c s.current.routine t))) 0)
      × (w.negative ≡ nat_le SIGN_BIT (w.registers (target c s.current.routine (home c s.current.routine t))))
      → (IsNumber z → w.registers (target c s.current.routine (home c s.current.routine t)) ≡ word_of z) → w.overflow
      ≡ overflows z → ((q : ℕ) → q ≢ 12 → q ≢ 15 → q ≢ target c s.current.routine (home c s.current.routine t)
      → w.registers q ≡ v.registers q) → ((x : ℕ) → w.words x ≡ v.words x) → (none : Bool) → nat_eq error 0 ≡ none
      → Left c words w.place (cond none (save c s.current.routine (home c s.current.routine t))
      (piece.Fails on.OverflowSet error line ∷ save c s.current.routine (home c s.current.routine t)))
      (c.site s.current.routine (suc s.current.place)) → Follows c words
      (gives_computed c.code t (within error z) line s) s n
  made_follows i t error line z n w a wr here told flags value over regs mem false e l =
      follows_to c words b s n w a (gives_computed c.code t (within error z) line s)
      (checked_follows i t error line z a.to w a.shows wr here told flags value over regs mem l)
  made_follows i t error line z n w a wr here told flags value over regs mem true e l =
      untested_follows t error line z n w a e
      (λ is. tells_end c words b p s (machine_of v) f t (Number z) i a.to w be.related be.input wr here told
      (flags.0 ∙ ap (λ q. nat_eq q 0) (value is), flags.1 ∙ ap (nat_le SIGN_BIT) (value is)) is a.shows (record {
        here = value is;
        registers = regs;
        words = mem;
      }) l)

  pub add_follows : (t a : ℕ) (o : Operand) (error line : ℕ) (x y : ℤ) → fetch c.code s.current.routine s.current.place
      ≡ Some (Arithmetic Add t a o error line) → s.current.temporaries a ≡ Some (Number x)
      → operand_value s.current.temporaries o ≡ Some (Number y) → Follows c words
      (gives_computed c.code t (within error (x +ℤ y)) line s) s m
  add_follows t a o error line x y here ea eo =
      let r = s.current.routine in
      let k = s.current.place in
      let i = Arithmetic Add t a o error line in
      let so = fetched_is c words b r k i here in
      let d = target c r (home c r t) in
      let j = word.Operate op.Add d (fetched c r 12 (home c r a)) (right_operand c r o) in
      let rest = form.tested error (piece.Fails on.OverflowSet error line ∷ []) (save c r (home c r t)) in
      let g = operands_run i a o x y (Plain j ∷ rest) _ _ here refl so.sound.2 ea eo
      (code c words b p s f m v sh be i here) in
      let v1 = g.view in
      let t2 = step_to c words b.stood j g.way.to v1 g.way.shows g.left.stands.0 tt in
      let v2 = after j v1 in
      let step = gives_computed c.code t (within error (x +ℤ y)) line s in
      let sum : v2.registers d ≡ sum_of (word_of x) (word_of y) = update_same v1.registers d _
      ∙ ap (λ q. (q + operand_view v1 (right_operand c r o) + 0) % 2 ^ 32) g.first
      ∙ ap (λ q. (word_of x + q + 0) % 2 ^ 32) g.second in
      let over : v2.overflow ≡ overflows (x +ℤ y) =
      ap (λ q. overflows (signed q +ℤ signed (operand_view v1 (right_operand c r o)) +ℤ pos 0)) g.first
      ∙ ap (λ q. overflows (signed (word_of x) +ℤ signed q +ℤ pos 0)) g.second
      ∙ ap (λ q. overflows (q +ℤ signed (word_of y) +ℤ pos 0)) (signed_word x g.good)
      ∙ ap (λ q. overflows (x +ℤ q +ℤ pos 0)) (signed_word y g.good_right) ∙ ap overflows (plus_zero (x +ℤ y)) in
      follows_way c words b s m v1 g.way step
      (made_follows i t error line (x +ℤ y) g.way.to v2 t2 (writes_it c r k i here t refl refl) here refl (
        ap (λ q. nat_eq q 0) (sym (update_same v1.registers d _)),
        ap (nat_le SIGN_BIT)
            (sym (update_same v1.registers d _)),
      ) (λ is. sum ∙ sum_word x y g.good g.good_right is) over
      (λ q n12 n15 nd. update_other v1.registers d _ q nd ∙ g.near.registers q n12 n15) g.near.words
      (nat_eq error 0) refl (left_next c words v1.place _ _ rest g.left))
    where
      plus_zero : (z : ℤ) → z +ℤ pos 0 ≡ z
      plus_zero z = omega (arith, ints)

  pub subtract_follows : (t a : ℕ) (o : Operand) (error line : ℕ) (x y : ℤ)
      → fetch c.code s.current.routine s.current.place ≡ Some (Arithmetic Subtract t a o error line)
      → s.current.temporaries a ≡ Some (Number x) → operand_value s.current.temporaries o ≡ Some (Number y)
      → Follows c words (gives_computed c.code t (within error (x -ℤ y)) line s) s m
  subtract_follows t a o error line x y here ea eo =
      let r = s.current.routine in
      let k = s.current.place in
      let i = Arithmetic Subtract t a o error line in
      let so = fetched_is c words b r k i here in
      let d = target c r (home c r t) in
      let j = word.Operate op.Sub d (fetched c r 12 (home c r a)) (right_operand c r o) in
      let rest = form.tested error (piece.Fails on.OverflowSet error line ∷ []) (save c r (home c r t)) in
      let g = operands_run i a o x y (Plain j ∷ rest) _ _ here refl so.sound.2 ea eo
      (code c words b p s f m v sh be i here) in
      let v1 = g.view in
      let t2 = step_to c words b.stood j g.way.to v1 g.way.shows g.left.stands.0 tt in
      let v2 = after j v1 in
      let step = gives_computed c.code t (within error (x -ℤ y)) line s in
      let sum : v2.registers d ≡ difference_of (word_of x) (word_of y) = update_same v1.registers d _
      ∙ ap (λ q. (q + 2 ^ 33 - operand_view v1 (right_operand c r o) - 0) % 2 ^ 32) g.first
      ∙ ap (λ q. (word_of x + 2 ^ 33 - q - 0) % 2 ^ 32) g.second in
      let over : v2.overflow ≡ overflows (x -ℤ y) =
      ap (λ q. overflows (signed q -ℤ signed (operand_view v1 (right_operand c r o)) -ℤ pos 0)) g.first
      ∙ ap (λ q. overflows (signed (word_of x) -ℤ signed q -ℤ pos 0)) g.second
      ∙ ap (λ q. overflows (q -ℤ signed (word_of y) -ℤ pos 0)) (signed_word x g.good)
      ∙ ap (λ q. overflows (x -ℤ q -ℤ pos 0)) (signed_word y g.good_right) ∙ ap overflows (minus_zero (x -ℤ y)) in
      follows_way c words b s m v1 g.way step
      (made_follows i t error line (x -ℤ y) g.way.to v2 t2 (writes_it c r k i here t refl refl) here refl (
        ap (λ q. nat_eq q 0) (sym (update_same v1.registers d _)),
        ap (nat_le SIGN_BIT)
            (sym (update_same v1.registers d _)),
      ) (λ is. sum ∙ difference_word x y g.good g.good_right is) over
      (λ q n12 n15 nd. update_other v1.registers d _ q nd ∙ g.near.registers q n12 n15) g.near.words
      (nat_eq error 0) refl (left_next c words v1.place _ _ rest g.left))
    where
      minus_zero : (z : ℤ) → z -ℤ pos 0 ≡ z
      minus_zero z = omega (arith, ints)

  -- ---- bits

  plain : (operator : BitOperator) (d a : ℕ) (o : instr.Operand) (w : View) → shown.Plain words c.size
      (word.Operate (bit_operation operator) d a o) w
  plain And d a o w = tt
  plain Or d a o w = tt
  plain AndNot d a o w = tt
  plain ShiftLeft d a o w = tt
  plain Plus d a o w = tt

  no_carry : (x y : ℕ) → (x + y + 0) % 2 ^ 32 ≡ (x + y) % 2 ^ 32
  no_carry x y = omega arith

  -- what an operation on bits makes of its register
  result : (operator : BitOperator) (d a : ℕ) (o : instr.Operand) (w : View)
      → ((after (word.Operate (bit_operation operator) d a o) w).registers d ≡ combined operator (w.registers a)
      (operand_view w o)) × ((q : ℕ) → q ≢ d → (after (word.Operate (bit_operation operator) d a o) w).registers q
      ≡ w.registers q) × ((x : ℕ) → (after (word.Operate (bit_operation operator) d a o) w).words x ≡ w.words x)
      × ((after (word.Operate (bit_operation operator) d a o) w).place ≡ w.place + 1)
      × ((after (word.Operate (bit_operation operator) d a o) w).equal ≡ nat_eq
      ((after (word.Operate (bit_operation operator) d a o) w).registers d) 0)
      × ((after (word.Operate (bit_operation operator) d a o) w).negative ≡ nat_le SIGN_BIT
      ((after (word.Operate (bit_operation operator) d a o) w).registers d))
  result And d a o w = (
    update_same w.registers d _,
    λ q ne. update_other w.registers d _ q ne,
    λ x. refl,
    refl,
    ap (λ x. nat_eq x 0) (sym (update_same w.registers d _)),
    ap (nat_le SIGN_BIT)
        (sym (update_same w.registers d _)),
  )
  result Or d a o w = (
    update_same w.registers d _,
    λ q ne. update_other w.registers d _ q ne,
    λ x. refl,
    refl,
    ap (λ x. nat_eq x 0) (sym (update_same w.registers d _)),
    ap (nat_le SIGN_BIT)
        (sym (update_same w.registers d _)),
  )
  result AndNot d a o w = (
    update_same w.registers d _,
    λ q ne. update_other w.registers d _ q ne,
    λ x. refl,
    refl,
    ap (λ x. nat_eq x 0) (sym (update_same w.registers d _)),
    ap (nat_le SIGN_BIT)
        (sym (update_same w.registers d _)),
  )
  result ShiftLeft d a o w = (
    update_same w.registers d _,
    λ q ne. update_other w.registers d _ q ne,
    λ x. refl,
    refl,
    ap (λ x. nat_eq x 0) (sym (update_same w.registers d _)),
    ap (nat_le SIGN_BIT)
        (sym (update_same w.registers d _)),
  )
  result Plus d a o w = (
    update_same w.registers d _ ∙ no_carry (w.registers a)
        (operand_view w o),
    λ q ne. update_other w.registers d _ q ne,
    λ x. refl,
    refl,
    ap (λ x. nat_eq x 0)
        (sym (update_same w.registers d _)),
    ap (nat_le SIGN_BIT) (sym (update_same w.registers d _)),
  )

  pub bits_follows : (operator : BitOperator) (t a : ℕ) (o : Operand) (x y : ℤ)
      → fetch c.code s.current.routine s.current.place ≡ Some (Bits operator t a o) → s.current.temporaries a ≡ Some
      (Number x) → operand_value s.current.temporaries o ≡ Some (Number y) → Comes c words s
      (record s { current = giving t (Number (bits operator x y)) s.current }) m
  bits_follows operator t a o x y here ea eo =
      let r = s.current.routine in
      let k = s.current.place in
      let i = Bits operator t a o in
      let so = fetched_is c words b r k i here in
      let d = target c r (home c r t) in
      let q = fetched c r 12 (home c r a) in
      let j = word.Operate (bit_operation operator) d q (right_operand c r o) in
      let g = operands_run i a o x y (Plain j ∷ save c r (home c r t)) _ _ here refl so.sound.2 ea eo
      (code c words b p s f m v sh be i here) in
      let v1 = g.view in
      let t2 = step_to c words b.stood j g.way.to v1 g.way.shows g.left.stands.0
      (plain operator d q (right_operand c r o) v1) in
      let v2 = after j v1 in
      let made = result operator d q (right_operand c r o) v1 in
      let is : v2.registers d ≡ combined operator (word_of x) (word_of y) = made.0
      ∙ ap (λ z. combined operator z (operand_view v1 (right_operand c r o))) g.first
      ∙ ap (combined operator (word_of x)) g.second in
      let n : combined operator (word_of x) (word_of y) < 2 ^ 32 = subst (λ z. z < 2 ^ 32) is
      (t2.shows.narrow d ((g.left.stands.0).ranges).0) in
      let whole = is ∙ sym (read_back _ n) in
      let s' = record s { current = giving t (Number (bits operator x y)) s.current } in
      come_way c words b s s' m v1 g.way (come_to c words b s s' g.way.to same_tape v2 t2 refl
      (tells_end c words b p s (machine_of v) f t (Number (bits operator x y)) i t2.to v2 be.related be.input
      (writes_it c r k i here t refl refl) here refl
      (made.4 ∙ ap (λ z. nat_eq z 0) whole, made.5 ∙ ap (nat_le SIGN_BIT) whole) (number_in _) t2.shows (record {
        here = whole;
        registers = λ z n12 n15 nd. made.1 z nd ∙ g.near.registers z n12 n15;
        words = λ z. made.2 z ∙ g.near.words z;
      }) (left_at c words _ v2.place _ (save c r (home c r t))
      (left_next c words v1.place _ _ (save c r (home c r t)) g.left) made.3)))
