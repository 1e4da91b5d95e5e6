-- The test of the stack at a routine's entry, and the address of its frame.
use Rattle.std.proofs.Common.{◌≡◌, ◌≢◌, ℕ, ◌+◌, ◌-◌, ◌%◌, ◌^◌, ◌<◌, ◌≤◌, ◌⊎◌, inl, inr, Bool, true, false, cond, nat_lt}
use Rattle.std.proofs.Common.{List, [], ◌∷◌, ◌++◌, length, ℤ, pos, ◌-ℤ◌, refl, sym, ap, ◌∙◌, arith}
use Rattle.std.specs.Prelude.{int_lt, ◌≤ℤ◌, ◌<ℤ◌}
use Rattle.std.proofs.lemmas.Int.{ints}
use Rattle.std.proofs.lemmas.Bool.{lt-ltb, le-ltb, cases_lt}
use Rattle.risc_word.specs.declared.instr.Operation.TheVariants as op
use Rattle.risc_word.specs.declared.instr.Operand.TheVariants.{Content, Constant}
use Rattle.risc_word.specs.declared.instr.Width.TheVariants.{Word}
use Rattle.risc_word.specs.declared.instr.Instr.TheVariants as word
use Rattle.risc_machine.specs.Step as machine
use Rattle.risc_machine.specs.Step.{word_of_int, differ}
use Rattle.risc_machine.specs.declared.limits.TheConstants.{ADDRESSES}
use Rattle.risc_machine_laws.specs.View.{View, Shows, IsReadable, after}
use Rattle.risc_machine_laws.specs.Runs.{To, same_tape}
use Rattle.risc_machine_laws.specs.Numbers.{IsNumber}
use Rattle.risc_machine_laws.proofs.Runs.{to_join}
use Rattle.risc_emit_relation.specs.Context.{Context}
use Rattle.risc_emit_relation.proofs.Basics.{update_other}
use Rattle.risc_emit_forms.specs.Pieces.{Piece, Plain, Left}
use Rattle.risc_emit_forms.specs.Forms.{constant, frame_below}
use Rattle.risc_emit_forms.specs.Follows.{Stood, Built}
use Rattle.risc_emit_forms.proofs.Basics.{left_after, left_next}
use Rattle.risc_emit_forms.proofs.Runs.{Moved, step_to, constant_run}
use Rattle.risc_emit_forms.proofs.Compares.{differs}

less_true : (x y : ℤ) → x <ℤ y → int_lt x y ≡ true
less_true x y h = grind (arith, ints)

less_false : (x y : ℤ) → y ≤ℤ x → int_lt x y ≡ false
less_false x y h = grind (arith, ints)

-- a frame that begins below the base of the stack
pub below_is : (f n base : ℕ) → int_lt (pos f -ℤ pos n) (pos base) ≡ nat_lt f (base + n)
below_is f n base = go (cases_lt f (base + n))
  where
    go : (f < base + n) ⊎ (base + n ≤ f) → int_lt (pos f -ℤ pos n) (pos base) ≡ nat_lt f (base + n)
    go (inl lt) = less_true (pos f -ℤ pos n) (pos base) (omega (arith, ints, lt)) ∙ sym (lt-ltb f (base + n) lt)
    go (inr le) = less_false (pos f -ℤ pos n) (pos base) (omega (arith, ints, le)) ∙ sym (le-ltb f (base + n) le)

module _ (c : Context) (words : List ℕ) (stood : Stood c words) where
  -- R12 takes the address n bytes below R14
  pub frame_run : (n f : ℕ) (ps : List Piece) (next : ℕ) (m : machine.State) (v : View) → Shows words c.size m v
      → v.registers 14 ≡ f → f < ADDRESSES → n < ADDRESSES → Left c words v.place (frame_below c 0 n ++ ps) next
      → (w : View) × (t : To words c.size m same_tape w) × (w.registers 12 ≡ word_of_int (pos f -ℤ pos n))
      × Moved 12 v w × (w.place ≡ v.place + length (frame_below c 0 n))
  frame_run n f ps next m v sh e14 hf hn l = go (nat_lt n 65536) l
    where
      go : (small : Bool) → Left c words v.place
          (cond small (Plain (word.Operate op.Sub 12 14 (Constant (pos n))) ∷ [])
          (constant 12 n ++ Plain (word.Operate op.Sub 12 14 (Content 12)) ∷ []) ++ ps) next → (w : View)
          × (t : To words c.size m same_tape w) × (w.registers 12 ≡ word_of_int (pos f -ℤ pos n)) × Moved 12 v w
          × (w.place ≡ v.place + length (cond small (Plain (word.Operate op.Sub 12 14 (Constant (pos n))) ∷ [])
          (constant 12 n ++ Plain (word.Operate op.Sub 12 14 (Content 12)) ∷ [])))
      go true l =
          let i = word.Operate op.Sub 12 14 (Constant (pos n)) in (
            after i v,
            step_to c words stood i m v sh l.stands.0 tt,
            difference (v.registers 14) e14,
            record {
              registers = λ q ne. update_other v.registers 12 _ q ne;
              words = λ a. refl;
              high = refl;
            },
            refl,
          )
        where
          difference : (x : ℕ) → x ≡ f → (x + 2 ^ 33 - word_of_int (pos n) - 0) % 2 ^ 32 ≡ word_of_int (pos f -ℤ pos n)
          difference x e = omega (arith, ints, e, hf, hn)
      go false l =
          let i = word.Operate op.Sub 12 14 (Content 12) in
          let g = constant_run c words stood 12 n (Plain i ∷ ps) next m v sh (omega (arith, hn)) l in
          let v1 = g.view in
          let l1 = left_after c words v.place v1.place next (constant 12 n) (Plain i ∷ ps) l g.place in
          let t2 = step_to c words stood i g.to.to v1 g.to.shows l1.stands.0 tt in
          let v2 = after i v1 in (
            v2,
            to_join words c.size m same_tape same_tape v1 v2 g.to t2,
            difference (v1.registers 14) (v1.registers 12) (g.moved.registers 14 (omega arith) ∙ e14) g.value,
            record {
              registers = λ q ne. update_other v1.registers 12 _ q ne ∙ g.moved.registers q ne;
              words = g.moved.words;
              high = g.moved.high;
            },
            omega (arith, g.place),
          )
        where
          difference : (x y : ℕ) → x ≡ f → y ≡ n → (x + 2 ^ 33 - y - 0) % 2 ^ 32 ≡ word_of_int (pos f -ℤ pos n)
          difference x y e e' = omega (arith, ints, e, e', hf, hn)

module _ (c : Context) (words : List ℕ) (b : Built c words) where
  -- the test of the stack, up to the branch
  pub record Tested (n f : ℕ) (ps : List Piece) (next : ℕ) (m : machine.State) (v : View) : Type 0 where
    pub view : View
    pub to : To words c.size m same_tape view
    pub frame : view.registers 12 ≡ word_of_int (pos f -ℤ pos n)
    pub less : differ view.negative view.overflow ≡ nat_lt f (c.base + n)
    pub registers : (q : ℕ) → q ≢ 11 → q ≢ 12 → view.registers q ≡ v.registers q
    pub memory : (a : ℕ) → view.words a ≡ v.words a
    pub left : Left c words view.place ps next

  pub test_run : (n f : ℕ) (ps : List Piece) (next : ℕ) (m : machine.State) (v : View) → Shows words c.size m v
      → v.registers 14 ≡ f → v.registers 13 ≡ c.bottom → v.words (c.bottom + 268) ≡ c.base → f < ADDRESSES →
      n < ADDRESSES
      → Left c words v.place (frame_below c 0 n
      ++ (Plain (word.Load Word 11 13 (pos 268)) ∷ Plain (word.Operate op.Sub 11 12 (Content 11)) ∷ ps)) next
      → Tested n f ps next m v
  test_run n f ps next m v sh e14 e13 lim hf hn l =
      let i2 = word.Load Word 11 13 (pos 268) in
      let i3 = word.Operate op.Sub 11 12 (Content 11) in
      let g = frame_run c words b.stood n f (Plain i2 ∷ Plain i3 ∷ ps) next m v sh e14 hf hn l in
      let v1 = g.0 in
      let t1 = g.1 in
      let l1 = left_after c words v.place v1.place next (frame_below c 0 n) (Plain i2 ∷ Plain i3 ∷ ps) l g.4 in
      let pr = b.laid.program 0 b.laid.first in
      let e13' : v1.registers 13 ≡ c.bottom = g.3.registers 13 (omega arith) ∙ e13 in
      let r0 = b.laid.slots_before 0 in
      let r1 = b.laid.frame_before 0 in
      let r2 = b.laid.scratch_before 0 in
      let wh = b.laid.whole 0 in
      let ok : IsReadable c.size (v1.registers 13 + 268) = record {
        aligned = omega (arith, e13', b.laid.bottom, wh, b.laid.even.2);
        high = omega (arith, e13', b.laid.bottom, pr.1, pr.2, r0, r1, r2);
      } in
      let t2 = step_to c words b.stood i2 t1.to v1 t1.shows l1.stands.0 (tt, ok) in
      let v2 = after i2 v1 in
      let e11 : v2.registers 11 ≡ c.base = g.3.words _ ∙ ap (λ z. v.words (z + 268)) e13' ∙ lim in
      let t3 = step_to c words b.stood i3 t2.to v2 t2.shows l1.stands.2.0 tt in
      let v3 = after i3 v2 in
      let low : c.base < ADDRESSES = omega (arith, b.laid.order.2, b.laid.order.3) in
      let d = differs 11 12 (Content 11) (pos f -ℤ pos n) (pos c.base) v2 (number_is hf hn) (small c.base low) g.2
      (e11 ∙ small_word c.base low) in
      record {
        view = v3;
        to = to_join words c.size m same_tape same_tape v1 v3 t1
            (to_join words c.size t1.to same_tape same_tape v2 v3 t2 t3);
        frame = g.2;
        less = d.less ∙ below_is f n c.base;
        registers = λ q n11 n12. update_other v2.registers 11 _ q n11 ∙ update_other v1.registers 11 _ q n11
            ∙ g.3.registers q n12;
        memory = g.3.words;
        left = left_next c words v2.place next (Plain i3) ps
            (left_next c words v1.place next (Plain i2) (Plain i3 ∷ ps) l1);
      }
    where
      number_is : f < ADDRESSES → n < ADDRESSES → IsNumber (pos f -ℤ pos n)
      number_is hf hn = (omega (arith, ints, hf, hn), omega (arith, ints, hf, hn))

      small : (x : ℕ) → x < ADDRESSES → IsNumber (pos x)
      small x h = (omega (arith, ints, h), omega (arith, ints, h))

      small_word : (x : ℕ) → x < ADDRESSES → x ≡ word_of_int (pos x)
      small_word x h = omega (arith, ints, h)
