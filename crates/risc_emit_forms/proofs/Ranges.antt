-- Numbers compared with the bounds of a range or an index.
use Rattle.std.proofs.Common.{◌≡◌, ◌≢◌, ℕ, zero, suc, ◌+◌, ◌^◌, ◌<◌, ◌≤◌, Bool, true, false, cond, not, ◌&&◌, nat_eq}
use Rattle.std.proofs.Common.{nat_lt, List, [], ◌∷◌, ◌++◌, length, take, ℤ, pos, negsuc, ◌-ℤ◌, refl, sym, ap, ◌∙◌}
use Rattle.std.proofs.Common.{subst, arith, append_assoc}
use Rattle.std.specs.Prelude.{int_lt, ◌≤ℤ◌, ◌<ℤ◌}
use Rattle.std.proofs.lemmas.Int.{ints}
use Rattle.std.proofs.lemmas.Bool.{ltb-true, lt-ltb, le-ltb}
use Rattle.std.proofs.Math.Bool.{not-not}
use Rattle.risc_word.specs.declared.instr.Operation.TheVariants as op
use Rattle.risc_word.specs.declared.instr.Operand.TheVariants as instr_operand
use Rattle.risc_word.specs.declared.instr.Condition.TheVariants as on
use Rattle.risc_word.specs.declared.instr.Instr.TheVariants as word
use Rattle.risc_machine.specs.Step as machine
use Rattle.risc_machine.specs.Step.{word_of_int}
use Rattle.risc_machine_laws.specs.View.{View, Shows, operand_view, after, at_view, holds_view}
use Rattle.risc_machine_laws.specs.Runs.{To, Way, same_tape}
use Rattle.risc_machine_laws.specs.Numbers.{difference_of}
use Rattle.tac_code.specs.declared.code.Operand.TheVariants as operand
use Rattle.tac_code.specs.Numbers.{is_zero, word_of, natural, steps_above, is_in_range}
use Rattle.tac_code.specs.Meaning.{open_calls, State, Over}
use Rattle.tac_code.proofs.Numbers.{at_least}
use Rattle.risc_emit_relation.specs.Context.{Context, Places, IsNumber}
use Rattle.risc_emit_relation.specs.Related.{Machine, Related}
use Rattle.risc_emit_relation.specs.Changes.{Near}
use Rattle.risc_emit_relation.proofs.Basics.{update_same, update_other}
use Rattle.risc_emit_relation.specs.Walk.{walk}
use Rattle.risc_machine_laws.proofs.Runs.{to_join, way_here, way_of, way_to}
use Rattle.risc_emit_forms.specs.Pieces as piece
use Rattle.risc_emit_forms.specs.Pieces.{Piece, Plain, Left}
use Rattle.risc_emit_forms.specs.Forms.{exact, right, right_operand, above, above_register, at_most, range_code}
use Rattle.risc_emit_forms.specs.Forms.{index_code}
use Rattle.risc_emit_forms.specs.Follows.{machine_of, Built, Follows}
use Rattle.risc_emit_forms.proofs.Basics.{left_after, left_next}
use Rattle.risc_emit_forms.proofs.Runs.{step_to, exact_run}
use Rattle.risc_emit_forms.proofs.Fetches.{right_run}
use Rattle.risc_emit_forms.proofs.Comes.{test_failing, framed, fails_not, test_walked, untested, walk_near}
use Rattle.risc_emit_forms.proofs.Calls.{follows_way, follows_to}

-- how far a number is above another one
natural_is : (z : ℤ) → pos 0 ≤ℤ z → pos (natural z) ≡ z
natural_is (pos n) h = refl
natural_is (negsuc n) h = omega (arith, ints, h)

pub steps_are : (low high : ℤ) → low ≤ℤ high → pos (steps_above low high) ≡ high -ℤ low
steps_are low high h = natural_is (high -ℤ low) (omega (arith, ints, h))

below : (low x : ℤ) → int_lt x low ≡ true → x <ℤ low
below low x e = grind (arith, ints)

-- above the highest number are more steps than the range has, and below the lowest one too, unsigned
span_test : (low high x : ℤ) → IsNumber low → IsNumber high → IsNumber x → int_lt high low ≡ false → nat_lt
    (steps_above low high) (difference_of (word_of x) (word_of low)) ≡ not (is_in_range low high x)
span_test low high x hl hh hx e = go (steps_above low high) (steps_are low high (at_least low high e)) (int_lt x low)
    (int_lt high x) refl refl
  where
    go : (n : ℕ) → pos n ≡ high -ℤ low → (a b : Bool) → int_lt x low ≡ a → int_lt high x ≡ b → nat_lt n
        (difference_of (word_of x) (word_of low)) ≡ not (not a && not b)
    go n is true b ea eb = let h = below low x ea in lt-ltb n _ (omega (arith, ints, is, h, hl, hh, hx))
    go n is false true ea eb =
        let g = at_least low x ea in
        let h = below x high eb in
        lt-ltb n _ (omega (arith, ints, is, g, h, hl, hh, hx))
    go n is false false ea eb =
        let g = at_least low x ea in
        let h = at_least x high eb in
        le-ltb n _ (omega (arith, ints, is, g, h, hl, hh, hx))

-- an empty range
none_within : (low high x : ℤ) → int_lt high low ≡ true → is_in_range low high x ≡ false
none_within low high x e = go (int_lt x low) (int_lt high x) refl refl
  where
    go : (a b : Bool) → int_lt x low ≡ a → int_lt high x ≡ b → not a && not b ≡ false
    go true b ea eb = refl
    go false true ea eb = refl
    go false false ea eb =
        let f = below low high e in
        let g = at_least low x ea in
        let h = at_least x high eb in
        absurd (omega (arith, ints, f, g, h))

pub narrow_difference : (x y : ℕ) → difference_of x y < 2 ^ 32
narrow_difference x y = omega arith

module _ (c : Context) (words : List ℕ) (b : Built c words) (p : Places) (s : State) (f : ℕ) (m0 : Machine)
    (related : Related c p s m0 f) where
  e14_of : (v : View) → Near m0 (machine_of v) → v.registers 14 ≡ f
  e14_of v near = near.registers 14 (omega arith) (omega arith) ∙ related.stack

  walks : (v w : View) → Near m0 (machine_of v) → w.registers 14 ≡ v.registers 14 → ((y : ℕ) → w.words y ≡ v.words y)
      → walk c.line c.size 16 w.words (w.registers 14) ≡ take 16
      (open_calls (length c.code.program) s.current s.callers)
  walks v w near same mem =
      walk_near c words b p s m0 f w related (same ∙ near.registers 14 (omega arith) (omega arith))
      (λ y. mem y ∙ near.words y)

  -- ---- how far a number is above the lowest one

  record Above (a : ℕ) (low x : ℤ) (ps : List Piece) (next : ℕ) (m : machine.State) (v : View) : Type 0 where
    view : View
    way : Way words c.size m same_tape view
    value : view.registers (above_register c s.current.routine a low) ≡ difference_of (word_of x) (word_of low)
    near : Near (machine_of v) (machine_of view)
    left : Left c words view.place ps next

  zero_steps : (low x : ℤ) → is_zero low ≡ true → IsNumber x → difference_of (word_of x) (word_of low) ≡ word_of x
  zero_steps (pos zero) x e hx = omega (arith, ints, hx)
  zero_steps (pos (suc n)) x e hx = absurd (cc e)
  zero_steps (negsuc n) x e hx = absurd (cc e)

  above_run : (a : ℕ) (low x : ℤ) (ps : List Piece) (next : ℕ) (m : machine.State) (v : View) → Shows words c.size m v
      → a ≢ 15 → v.registers 14 ≡ f → IsNumber low → IsNumber x → v.registers a ≡ word_of x → Left c words v.place
      (above c s.current.routine a low ++ ps) next → Above a low x ps next m v
  above_run a low x ps next m v sh n15 e14 hl hx ex l = go (is_zero low) refl l
    where
      go : (none : Bool) → is_zero low ≡ none → Left c words v.place
          (cond none [] (right c s.current.routine (operand.Number low)
          ++ (Plain (word.Operate op.Sub 12 a (right_operand c s.current.routine (operand.Number low))) ∷ [])) ++ ps)
          next → Above a low x ps next m v
      go true e l =
          record {
            view = v;
            way = way_here words c.size m v sh;
            value = ap (λ t. v.registers (cond t a 12)) e ∙ ex ∙ sym (zero_steps low x e hx);
            near = record { registers = λ q n12 n15. refl; words = λ y. refl };
            left = l;
          }
      go false e l =
          let r = s.current.routine in
          let fr = framed c words b p s m0 f related in
          let o = operand.Number low in
          let i = word.Operate op.Sub 12 a (right_operand c r o) in
          let l0 = subst (λ q. Left c words v.place q next) (append_assoc (right c r o) (Plain i ∷ []) ps) l in
          let g = right_run c words b.stood b.laid b.placed r f fr o (Plain i ∷ ps) next m v sh e14 hl l0 in
          let v1 = g.view in
          let l1 = left_after c words v.place v1.place next (right c r o) (Plain i ∷ ps) l0 g.place in
          let t2 = step_to c words b.stood i g.way.to v1 g.way.shows l1.stands.0 tt in
          let v2 = after i v1 in
          record {
            view = v2;
            way = way_of words c.size m same_tape v2 (way_to words c.size m same_tape same_tape v1 v2 g.way t2);
            value = ap (λ t. v2.registers (cond t a 12)) e ∙ update_same v1.registers 12 _
                ∙ ap (λ y. difference_of y (operand_view v1 (right_operand c r o))) (g.moved.registers a n15 ∙ ex)
                ∙ ap (difference_of (word_of x)) g.value;
            near = record {
              registers = λ q n12 n15'. update_other v1.registers 12 _ q n12 ∙ g.moved.registers q n15';
              words = g.moved.words;
            };
            left = left_next c words v1.place next (Plain i) ps l1;
          }

  -- ---- an unsigned comparison

  -- the run goes on after it, or it stops
  record Compared (error line : ℕ) (ps : List Piece) (next : ℕ) (inside : Bool) (m : machine.State) (v : View)
      : Type 0 where
    goes : inside ≡ true → (w : View) × (t : To words c.size m same_tape w)
        × ((q : ℕ) → q ≢ 15 → w.registers q ≡ v.registers q) × ((y : ℕ) → w.words y ≡ v.words y)
        × Left c words w.place ps next
    stops : inside ≡ false → Follows c words (Over (test_failing c s error line)) s m

  -- after a subtraction into R15
  borrowed : (condition : _) (error line : ℕ) (ps : List Piece) (next : ℕ) (inside : Bool) (m : machine.State)
      (v w : View) (t : To words c.size m same_tape w) → Near m0 (machine_of v)
      → ((q : ℕ) → q ≢ 15 → w.registers q ≡ v.registers q) → ((y : ℕ) → w.words y ≡ v.words y) → Left c words w.place
      (piece.Fails condition error line ∷ ps) next → holds_view w condition ≡ not inside
      → Compared error line ps next inside m v
  borrowed condition error line ps next inside m v w t near regs mem l holds =
      record {
        goes = λ e.
            let t2 = fails_not c words b condition error line ps next t.to w t.shows l (holds ∙ ap not e) in
            let w2 = at_view (w.place + 1) w in (
              w2,
              to_join words c.size m same_tape same_tape w w2 t t2,
              regs,
              mem,
              left_next c words w.place next _ ps
                  l,
            );
        stops = λ e. follows_to c words b s m w t (Over (test_failing c s error line))
            (test_walked c words b s condition error line ps next t.to w
            (walks v w near (regs 14 (omega arith)) mem) t.shows l (holds ∙ ap not e));
      }

  at_most_run : (q n d error line : ℕ) (ps : List Piece) (next : ℕ) (m : machine.State) (v : View)
      → Shows words c.size m v → q ≢ 15 → v.registers q ≡ d → n < 2 ^ 32 → Near m0 (machine_of v)
      → Left c words v.place (at_most c s.current.routine q n error line ++ ps) next → Compared error line ps next
      (not (nat_lt n d)) m v
  at_most_run q n d error line ps next m v sh n15 eq ln near l = go (nat_lt n 65535) refl l
    where
      go : (few : Bool) → nat_lt n 65535 ≡ few → Left c words v.place
          (cond few (Plain (word.Operate op.Sub 15 q (instr_operand.Constant (pos (suc n))))
          ∷ piece.Fails on.CarryClear error line ∷ [])
          (exact 15 n ++ (Plain (word.Operate op.Sub 15 15 (instr_operand.Content q))
          ∷ piece.Fails on.CarrySet error line ∷ [])) ++ ps) next → Compared error line ps next (not (nat_lt n d)) m v
      go true e l =
          let i = word.Operate op.Sub 15 q (instr_operand.Constant (pos (suc n))) in
          let t1 = step_to c words b.stood i m v sh l.stands.0 tt in
          let v1 = after i v in
          let l1 = left_next c words v.place next (Plain i) _ l in
          borrowed on.CarryClear error line ps next _ m v v1 t1 near (λ x ne. update_other v.registers 15 _ x ne)
          (λ y. refl) l1 (ap (λ x. not (nat_lt x (word_of_int (pos (suc n)) + 0))) eq ∙ ap (λ x. not (nat_lt d x))
          (immediate n (ltb-true n 65535 e)) ∙ ap not (not_less n d))
        where
          immediate : (n : ℕ) → n < 65535 → word_of_int (pos (suc n)) + 0 ≡ suc n
          immediate n lt = omega (arith, ints, lt)

          not_less : (n d : ℕ) → nat_lt d (suc n) ≡ not (nat_lt n d)
          not_less n d = grind arith
      go false e l =
          let i = word.Operate op.Sub 15 15 (instr_operand.Content q) in
          let rest = piece.Fails on.CarrySet error line ∷ ps in
          let l0 = subst (λ x. Left c words v.place x next)
          (append_assoc (exact 15 n) (Plain i ∷ piece.Fails on.CarrySet error line ∷ []) ps) l in
          let g = exact_run c words b.stood 15 n (Plain i ∷ rest) next m v sh ln l0 in
          let v1 = g.view in
          let l1 = left_after c words v.place v1.place next (exact 15 n) (Plain i ∷ rest) l0 g.place in
          let t2 = step_to c words b.stood i g.to.to v1 g.to.shows l1.stands.0 tt in
          let v2 = after i v1 in
          let t = to_join words c.size m same_tape same_tape v1 v2 g.to t2 in
          borrowed on.CarrySet error line ps next _ m v v2 t near
          (λ x ne. update_other v1.registers 15 _ x ne ∙ g.moved.registers x ne) g.moved.words
          (left_next c words v1.place next (Plain i) rest l1)
          (ap (λ x. nat_lt x (v1.registers q + 0)) g.value ∙ ap (nat_lt n)
          (plus_zero _ _ (g.moved.registers q n15 ∙ eq)) ∙ sym (not-not (nat_lt n d)))
        where
          plus_zero : (x y : ℕ) → x ≡ y → x + 0 ≡ y
          plus_zero x y e = omega (arith, e)

  -- ---- a range

  -- a range that was checked: the run goes on after the check, or it stops
  pub record Checked (a : ℕ) (low x : ℤ) (error line : ℕ) (ps : List Piece) (next : ℕ) (inside : Bool)
      (m : machine.State) (v : View) : Type 0 where
    pub goes : inside ≡ true → (w : View) × (t : To words c.size m same_tape w) × Near (machine_of v) (machine_of w)
        × (w.registers (above_register c s.current.routine a low) ≡ difference_of (word_of x) (word_of low))
        × Left c words w.place ps next
    pub stops : inside ≡ false → Follows c words (Over (test_failing c s error line)) s m

  pub above_not : (a : ℕ) (low : ℤ) → a ≢ 15 → above_register c s.current.routine a low ≢ 15
  above_not a low ne = go (is_zero low)
    where
      go : (t : Bool) → cond t a 12 ≢ 15
      go true = ne
      go false = omega arith

  pub range_run : (a : ℕ) (low high x : ℤ) (error line : ℕ) (ps : List Piece) (next : ℕ) (m : machine.State) (v : View)
      → Shows words c.size m v → a ≢ 15 → Near m0 (machine_of v) → IsNumber low → IsNumber high → IsNumber x
      → v.registers a ≡ word_of x → Left c words v.place
      (range_code c s.current.routine a low high error line ++ ps) next → Checked a low x error line ps next
      (is_in_range low high x) m v
  range_run a low high x error line ps next m v sh n15 near hl hh hx ex l = go (int_lt high low) refl l
    where
      go : (empty : Bool) → int_lt high low ≡ empty → Left c words v.place
          (cond empty (piece.Fails on.Always error line ∷ [])
          (above c s.current.routine a low ++ at_most c s.current.routine (above_register c s.current.routine a low)
          (steps_above low high) error line) ++ ps) next → Checked a low x error line ps next
          (is_in_range low high x) m v
      go true e l =
          record {
            goes = λ ins. absurd (differ (sym ins ∙ none_within low high x e));
            stops = λ ins. test_walked c words b s on.Always error line ps next m v
                (walks v v near refl (λ y. refl)) sh l refl;
          }
        where
          differ : true ≡ false → ⊥
          differ e = absurd (cc e)
      go false e l =
          let r = s.current.routine in
          let q = above_register c r a low in
          let n = steps_above low high in
          let test = at_most c r q n error line in
          let l0 = subst (λ y. Left c words v.place y next) (append_assoc (above c r a low) test ps) l in
          let g = above_run a low x (test ++ ps) next m v sh n15 (e14_of v near) hl hx ex l0 in
          let v1 = g.view in
          let near1 : Near m0 (machine_of v1) = record {
            registers = λ y n12 n15'. g.near.registers y n12 n15' ∙ near.registers y n12 n15';
            words = λ y. g.near.words y ∙ near.words y;
          } in
          let is = steps_are low high (at_least low high e) in
          let k = at_most_run q n (difference_of (word_of x) (word_of low)) error line ps next g.way.to v1 g.way.shows
          (above_not a low n15) g.value (narrow n is) near1 g.left in
          let test_is : not (nat_lt n (difference_of (word_of x) (word_of low))) ≡ is_in_range low high x = ap not
          (span_test low high x hl hh hx e) ∙ not-not (is_in_range low high x) in
          record {
            goes = λ ins.
                let h = k.goes (test_is ∙ ins) in (
                  h.0,
                  way_to words c.size m same_tape same_tape v1 h.0 g.way h.1,
                  record {
                    registers = λ y n12 n15'. h.2 y n15' ∙ g.near.registers y n12 n15';
                    words = λ y. h.3 y ∙ g.near.words y;
                  },
                  h.2 q (above_not a low n15) ∙ g.value,
                  h.4,
                );
            stops = λ ins. follows_way c words b s m v1 g.way (Over (test_failing c s error line))
                (k.stops (test_is ∙ ins));
          }
        where
          narrow : (n : ℕ) → pos n ≡ high -ℤ low → n < 2 ^ 32
          narrow n is = omega (arith, ints, is, hl, hh)

  -- ---- an index

  -- how far an index is above the lowest one: the run goes on behind that, or the index was not in its range
  pub record Indexed (a : ℕ) (low x : ℤ) (error line : ℕ) (ps : List Piece) (next : ℕ) (inside : Bool)
      (m : machine.State) (v : View) : Type 0 where
    pub goes : inside ≡ true → (w : View) × (t : Way words c.size m same_tape w) × Near (machine_of v) (machine_of w)
        × (w.registers (above_register c s.current.routine a low) ≡ difference_of (word_of x) (word_of low))
        × Left c words w.place ps next
    pub stops : inside ≡ false → Follows c words (Over (test_failing c s error line)) s m

  pub index_run : (a : ℕ) (low high x : ℤ) (error line : ℕ) (ps : List Piece) (next : ℕ) (m : machine.State) (v : View)
      → Shows words c.size m v → a ≢ 15 → Near m0 (machine_of v) → IsNumber low → IsNumber high → IsNumber x
      → v.registers a ≡ word_of x → Left c words v.place
      (index_code c s.current.routine a low high error line ++ ps) next → Indexed a low x error line ps next
      (is_in_range low high x) m v
  index_run a low high x error line ps next m v sh n15 near hl hh hx ex l = go (nat_eq error 0) refl l
    where
      go : (none : Bool) → nat_eq error 0 ≡ none → Left c words v.place
          (cond none (above c s.current.routine a low) (range_code c s.current.routine a low high error line) ++ ps)
          next → Indexed a low x error line ps next (is_in_range low high x) m v
      go true e l =
          let g = above_run a low x ps next m v sh n15 (e14_of v near) hl hx ex l in
          record {
            goes = λ ins. (g.view, g.way, g.near, g.value, g.left);
            stops = λ ins. untested c words b s error line m e;
          }
      go false e l =
          let k = range_run a low high x error line ps next m v sh n15 near hl hh hx ex l in
          record {
            goes = λ ins. let h = k.goes ins in (h.0, way_of words c.size m same_tape h.0 h.1, h.2, h.3, h.4);
            stops = k.stops;
          }
