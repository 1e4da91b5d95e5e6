-- A count of steps times the width of a component, by its words.
use Rattle.std.proofs.Common.{◌≡◌, ◌≢◌, ℕ, zero, suc, ◌+◌, ◌*◌, ◌/◌, ◌^◌, ◌<◌, Bool, true, false, cond, nat_eq}
use Rattle.std.proofs.Common.{nat_lt, List, [], ◌∷◌, ◌++◌, length, ℤ, pos, ◌*ℤ◌, refl, sym, ap, ◌∙◌, subst, arith}
use Rattle.std.proofs.Common.{append_assoc}
use Rattle.std.specs.Prelude.{◌≤ℤ◌}
use Rattle.std.proofs.lemmas.Int.{ints}
use Rattle.std.proofs.lemmas.Bool.{ltb-true}
use Rattle.risc_word.specs.declared.instr.Operation.TheVariants as op
use Rattle.risc_word.specs.declared.instr.Operand.TheVariants.{Content, Constant}
use Rattle.risc_word.specs.declared.instr.Instr.TheVariants as word
use Rattle.risc_machine.specs.Step as machine
use Rattle.risc_machine.specs.Step.{word_of_int}
use Rattle.risc_machine_laws.specs.View.{View, Shows, operand_view, after}
use Rattle.risc_machine_laws.specs.Runs.{Way, same_tape}
use Rattle.risc_machine_laws.specs.Numbers.{product_of, difference_of}
use Rattle.risc_machine_laws.proofs.Runs.{way_here, way_of, way_to}
use Rattle.risc_machine_laws.proofs.Numbers.{product_word}
use Rattle.tac_code.specs.declared.code.Operand.TheVariants as operand
use Rattle.tac_code.specs.Numbers.{number_of, steps_above}
use Rattle.tac_code.specs.declared.code.TheConstants.{NUMBER_LIMIT}
use Rattle.risc_emit_relation.specs.Context.{Context, IsNumber}
use Rattle.risc_emit_relation.specs.Changes.{Near}
use Rattle.risc_emit_relation.proofs.Basics.{update_same, update_other}
use Rattle.risc_emit_forms.specs.Pieces.{Piece, Plain, Left}
use Rattle.risc_emit_forms.specs.Forms.{exact, right, right_operand, scaled, scaled_register}
use Rattle.risc_emit_forms.specs.Follows.{machine_of, Built}
use Rattle.risc_emit_forms.proofs.Basics.{left_after, left_next}
use Rattle.risc_emit_forms.proofs.Runs.{Moved, step_to, exact_run}
use Rattle.risc_emit_forms.proofs.Numbers.{read_back, number_in}
use Rattle.risc_emit_forms.proofs.Ranges.{steps_are}

-- ---- products of words

zero_left : (z : ℤ) → pos 0 *ℤ z ≡ pos 0
zero_left z = omega (arith, ints)

zero_right : (z : ℤ) → z *ℤ pos 0 ≡ pos 0
zero_right z = omega (arith, ints)

zero_is : IsNumber (pos 0)
zero_is = (omega (arith, ints), omega (arith, ints))

product_zero_left : (w : ℕ) → w < 2 ^ 32 → product_of 0 w ≡ 0
product_zero_left w lt =
    ap (product_of 0) (sym (read_back w lt)) ∙ product_word (pos 0) (number_of w) zero_is (number_in w)
    (subst IsNumber (sym (zero_left (number_of w))) zero_is) ∙ ap word_of_int (zero_left (number_of w))

product_zero_right : (w : ℕ) → w < 2 ^ 32 → product_of w 0 ≡ 0
product_zero_right w lt =
    ap (λ x. product_of x 0) (sym (read_back w lt)) ∙ product_word (number_of w) (pos 0) (number_in w) zero_is
    (subst IsNumber (sym (zero_right (number_of w))) zero_is) ∙ ap word_of_int (zero_right (number_of w))

pub word_is : (n : ℕ) → n < 2 ^ 32 → word_of_int (pos n) ≡ n
word_is n lt = omega (arith, ints, lt)

pos_is : (n : ℕ) → n < NUMBER_LIMIT → IsNumber (pos n)
pos_is n lt = (omega (arith, ints, lt), omega (arith, ints, lt))

small_left : (a k : ℕ) → a * suc k < NUMBER_LIMIT → a < NUMBER_LIMIT
small_left a k h = let e : a * suc k ≡ a * k + a = grind arith in omega (arith, e, h)

small_right : (a k : ℕ) → suc a * k < NUMBER_LIMIT → k < NUMBER_LIMIT
small_right a k h = let e : suc a * k ≡ a * k + k = grind arith in omega (arith, e, h)

-- what MUL makes of a count of steps and a width, where the product is an offset
pub product_steps : (a n : ℕ) → a < 2 ^ 32 → word_of_int (pos n) < 2 ^ 32 → a * n < NUMBER_LIMIT → product_of a
    (word_of_int (pos n)) ≡ a * n
product_steps zero n la ln h = product_zero_left (word_of_int (pos n)) ln ∙ sym (none n)
  where
    none : (x : ℕ) → 0 * x ≡ 0
    none x = omega arith
product_steps (suc a) zero la ln h = product_zero_right (suc a) la ∙ sym (none (suc a))
  where
    none : (x : ℕ) → x * 0 ≡ 0
    none x = omega arith
product_steps (suc a) (suc n) la ln h =
    let ha = small_left (suc a) n h in
    let hn = small_right a (suc n) h in
    ap (λ x. product_of x (word_of_int (pos (suc n)))) (sym (word_is (suc a) la)) ∙ product_word (pos (suc a))
    (pos (suc n)) (pos_is (suc a) ha) (pos_is (suc n) hn) (pos_is (suc a * suc n) h) ∙ word_is (suc a * suc n)
    (omega (arith, h))

-- how far an index is above the lowest one
pub steps_word : (low x : ℤ) → IsNumber low → IsNumber x → low ≤ℤ x → difference_of (word_of_int x) (word_of_int low)
    ≡ steps_above low x
steps_word low x hl hx le = let e = steps_are low x le in omega (arith, ints, e, hl, hx)

module _ (c : Context) (words : List ℕ) (b : Built c words) (r : ℕ) where
  -- ---- a count of steps times a width

  record Width (n len : ℕ) (m1 : machine.State) (w : View) : Type 0 where
    view : View
    way : Way words c.size m1 same_tape view
    value : operand_view view (right_operand c r (operand.Number (pos n))) ≡ word_of_int (pos n)
    low : word_of_int (pos n) < 2 ^ 32
    moved : Moved 15 w view
    place : view.place ≡ w.place + len

  width_run : (n : ℕ) (ps : List Piece) (next : ℕ) (m1 : machine.State) (w : View) → Shows words c.size m1 w
      → Left c words w.place (right c r (operand.Number (pos n)) ++ ps) next → Width n
      (length (right c r (operand.Number (pos n)))) m1 w
  width_run n ps next m1 w sh1 l = go (nat_lt n 65536) refl l
    where
      go : (small : Bool) → nat_lt n 65536 ≡ small → Left c words w.place
          (cond small [] (exact 15 (word_of_int (pos n))) ++ ps) next → Width n
          (length (cond (nat_lt n 65536) [] (exact 15 (word_of_int (pos n))))) m1 w
      go true e l =
          let lt = ltb-true n 65536 e in
          record {
            view = w;
            way = way_here words c.size m1 w sh1;
            value = ap (λ t. operand_view w (cond t (Constant (pos n)) (Content 15))) e;
            low = omega (arith, ints, lt);
            moved = record { registers = λ q ne. refl; words = λ a. refl; high = refl };
            place = let z = ap (λ t. length (cond t [] (exact 15 (word_of_int (pos n))))) e in omega (arith, z);
          }
      go false e l =
          let half = ((l.stands.0).ranges).1 in
          let lt : word_of_int (pos n) < 2 ^ 32 = by_half (word_of_int (pos n)) half in
          let g = exact_run c words b.stood 15 (word_of_int (pos n)) ps next m1 w sh1 lt l in
          record {
            view = g.view;
            way = way_of words c.size m1 same_tape g.view g.to;
            value = ap (λ t. operand_view g.view (cond t (Constant (pos n)) (Content 15))) e ∙ g.value;
            low = lt;
            moved = g.moved;
            place = g.place ∙ ap (λ t. w.place + length (cond t [] (exact 15 (word_of_int (pos n))))) (sym e);
          }
        where
          by_half : (x : ℕ) → x / 65536 < 65536 → x < 2 ^ 32
          by_half x h = omega (arith, h)

  pub record Scaled (q n width : ℕ) (ps : List Piece) (next : ℕ) (m1 : machine.State) (w : View) : Type 0 where
    pub view : View
    pub way : Way words c.size m1 same_tape view
    pub value : view.registers (scaled_register c r q width) ≡ n * width
    pub near : Near (machine_of w) (machine_of view)
    pub left : Left c words view.place ps next

  pub scaled_run : (q n width : ℕ) (ps : List Piece) (next : ℕ) (m1 : machine.State) (w : View)
      → Shows words c.size m1 w
      → q ≢ 15 → w.registers q ≡ n → n < 2 ^ 32 → n * width < NUMBER_LIMIT → Left c words w.place
      (scaled c r q width ++ ps) next → Scaled q n width ps next m1 w
  scaled_run q n width ps next m1 w sh1 n15 eq ln lt l = go (nat_eq width 1) refl l
    where
      go : (one : Bool) → nat_eq width 1 ≡ one → Left c words w.place
          (cond one [] (right c r (operand.Number (pos width))
          ++ (Plain (word.Operate op.Mul 12 q (right_operand c r (operand.Number (pos width)))) ∷ []))
          ++ ps) next → Scaled q n width ps next m1 w
      go true e l =
          record {
            view = w;
            way = way_here words c.size m1 w sh1;
            value = ap (λ t. w.registers (cond t q 12)) e ∙ eq ∙ alone n ∙ ap (λ x. n * x) (sym (one_is width e));
            near = record { registers = λ x n12 n15'. refl; words = λ y. refl };
            left = l;
          }
        where
          one_is : (x : ℕ) → nat_eq x 1 ≡ true → x ≡ 1
          one_is x e = grind arith

          alone : (n : ℕ) → n ≡ n * 1
          alone n = omega arith
      go false e l =
          let r = r in
          let o = operand.Number (pos width) in
          let i = word.Operate op.Mul 12 q (right_operand c r o) in
          let l0 = subst (λ x. Left c words w.place x next) (append_assoc (right c r o) (Plain i ∷ []) ps) l in
          let g = width_run width (Plain i ∷ ps) next m1 w sh1 l0 in
          let v1 = g.view in
          let l1 = left_after c words w.place v1.place next (right c r o) (Plain i ∷ ps) l0 g.place in
          let t2 = step_to c words b.stood i g.way.to v1 g.way.shows l1.stands.0 tt in
          let v2 = after i v1 in
          record {
            view = v2;
            way = way_of words c.size m1 same_tape v2 (way_to words c.size m1 same_tape same_tape v1 v2 g.way t2);
            value = ap (λ t. v2.registers (cond t q 12)) e ∙ update_same v1.registers 12 _
                ∙ ap (λ y. product_of y (operand_view v1 (right_operand c r o))) (g.moved.registers q n15 ∙ eq)
                ∙ ap (product_of n) g.value ∙ product_steps n width ln g.low lt;
            near = record {
              registers = λ x n12 n15'. update_other v1.registers 12 _ x n12 ∙ g.moved.registers x n15';
              words = g.moved.words;
            };
            left = left_next c words v1.place next (Plain i) ps l1;
          }

  pub scaled_not : (q width : ℕ) → q ≢ 15 → scaled_register c r q width ≢ 15
  scaled_not q width ne = go (nat_eq width 1)
    where
      go : (t : Bool) → cond t q 12 ≢ 15
      go true = ne
      go false = omega arith
