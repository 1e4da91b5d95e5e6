-- The words of a quotient run to their end, and how many they are.
use Rattle.std.proofs.Common.{◌≡◌, ◌≢◌, ℕ, suc, ◌+◌, ◌^◌, ◌<◌, ◌≤◌, Bool, true, false, cond, nat_lt, List, [], ◌∷◌}
use Rattle.std.proofs.Common.{◌++◌, length, Some, ℤ, pos, negsuc, sym, ap, ◌∙◌, subst, arith, length-append}
use Rattle.std.specs.Prelude.{int_div, ◌<ℤ◌}
use Rattle.std.specs.Int.{int_div_euclid, int_rem_euclid}
use Rattle.std.proofs.lemmas.Int.{ints}
use Rattle.risc_word.specs.declared.instr.Operation.TheVariants as op
use Rattle.risc_word.specs.declared.instr.Operand as instr
use Rattle.risc_word.specs.declared.instr.Operand.TheVariants.{Content, Constant}
use Rattle.risc_word.specs.declared.instr.Width.TheVariants.{Word}
use Rattle.risc_word.specs.declared.instr.Condition.TheVariants as on
use Rattle.risc_word.specs.declared.instr.Instr.TheVariants as word
use Rattle.risc_machine.specs.Step as machine
use Rattle.risc_machine_laws.specs.View.{View, Shows, operand_view}
use Rattle.risc_machine_laws.specs.Runs.{To, same_tape}
use Rattle.risc_machine_laws.specs.Numbers.{toward_zero}
use Rattle.risc_machine_laws.proofs.Runs.{to_join}
use Rattle.risc_machine_laws.proofs.Numbers.{quotient_corrected}
use Rattle.tac_code.specs.declared.code.Value.TheVariants.{Number}
use Rattle.tac_code.specs.Numbers.{is_integer, word_of}
use Rattle.tac_code.specs.Meaning.{State, giving}
use Rattle.risc_alloc.specs.declared.homes.Home.{Home}
use Rattle.risc_alloc.specs.declared.homes.Home.TheVariants.{Slot, Reg}
use Rattle.risc_emit_relation.specs.Context.{Context, home, slot_at, reads, Places, Writes, IsNumber}
use Rattle.risc_emit_relation.specs.Changes.{Near}
use Rattle.risc_emit_forms.specs.Pieces.{Piece, Plain, Left}
use Rattle.risc_emit_forms.specs.Forms as form
use Rattle.risc_emit_forms.specs.Forms.{is_near, fetched, receive, skip, rounded, quotient, quotient_by_least}
use Rattle.risc_emit_forms.specs.Forms.{quotient_by_negative}
use Rattle.risc_emit_forms.specs.Follows.{machine_of, Built, Straight, Belongs}
use Rattle.risc_emit_forms.proofs.Runs.{Moved}
use Rattle.risc_emit_forms.proofs.Joins.{Arrives}
use Rattle.risc_emit_forms.proofs.Comes.{receives_end}
use Rattle.risc_emit_forms.proofs.Divisions.{remainder_is, divided_run}
use Rattle.risc_emit_forms.proofs.Quotients.{floor_is, remainder_pos, rounded_run}

pub integer_of : (z : ℤ) → IsNumber z → is_integer z ≡ true
integer_of (pos n) is = is_lt _ _ (omega (arith, ints, is))
  where
    is_lt : (x y : ℕ) → x < y → nat_lt x y ≡ true
    is_lt x y h = grind arith
integer_of (negsuc n) is = is_lt _ _ (omega (arith, ints, is))
  where
    is_lt : (x y : ℕ) → x < y → nat_lt x y ≡ true
    is_lt x y h = grind arith

module _ (c : Context) (words : List ℕ) (b : Built c words) (p : Places) (s : State) (f : ℕ) (m : machine.State)
    (v : View) (sh : Shows words c.size m v) (be : Belongs c words p s v f) where
  -- a quotient in register d
  pub record MadeIn (d : ℕ) (z : ℤ) (ps : List Piece) (next : ℕ) (n : machine.State) : Type 0 where
    pub view : View
    pub to : To words c.size n same_tape view
    pub value : view.registers d ≡ word_of z
    pub registers : (q : ℕ) → q ≢ 12 → q ≢ 15 → q ≢ d → view.registers q ≡ v.registers q
    pub memory : (q : ℕ) → view.words q ≡ v.words q
    pub left : Left c words view.place ps next

  -- in R12
  pub record Made (z : ℤ) (ps : List Piece) (next : ℕ) (n : machine.State) : Type 0 where
    pub view : View
    pub to : To words c.size n same_tape view
    pub value : view.registers 12 ≡ word_of z
    pub near : Near (machine_of v) (machine_of view)
    pub left : Left c words view.place ps next

  -- the quotient by a divisor above 0
  pub quotient_into : (d : ℕ) → d ≢ 15 → (a : ℕ) (o : instr.Operand) (x y : ℤ) (ps : List Piece) (next : ℕ)
      (n : machine.State) (w : View) → Shows words c.size n w → Near (machine_of v) (machine_of w)
      → reads c s.current.routine s.current.place a ≡ true → s.current.temporaries a ≡ Some (Number x) → IsNumber x
      → IsNumber y → pos 0 <ℤ y → ((w1 : View) → Moved 12 w w1 → operand_view w1 o ≡ word_of y) → Left c words w.place
      (form.fetch c s.current.routine 12 (home c s.current.routine a)
      ++ (Plain (word.Operate op.Div d (fetched c s.current.routine 12 (home c s.current.routine a)) o)
      ∷ (rounded d ++ ps))) next → MadeIn d (int_div x y) ps next n
  quotient_into d not15 a o x y ps next n w sh1 near ra ea hx hy h0 second l =
      let g = divided_run c words b p s f m v sh be d a o x y (rounded d ++ ps) next n w sh1 near ra ea hy h0 second l
      in
      let rm = remainder_pos x y h0 in
      let is : IsNumber (pos rm.0) = subst IsNumber rm.1 (remainder_is x y h0 hy) in
      let low : word_of (int_rem_euclid x y) ≡ rm.0 = ap word_of rm.1 ∙ word_is rm.0 is in
      let z = rounded_run c words b d not15 (int_div_euclid x y) rm.0 ps next g.to.to g.view g.to.shows
      (floor_is x y h0 hx) (below rm.0 is) g.quotient g.negative (g.high ∙ low) g.left in
      record {
        view = z.view;
        to = to_join words c.size n same_tape same_tape g.view z.view g.to z.to;
        value = z.value ∙ ap word_of (sym (quotient_corrected x y h0 ∙ ap (toward_zero (int_div_euclid x y)) rm.1));
        registers = λ q n12 n15 nd. z.registers q nd n15 ∙ g.registers q n12 n15 nd;
        memory = λ q. z.memory q ∙ g.memory q;
        left = z.left;
      }
    where
      word_is : (r : ℕ) → IsNumber (pos r) → word_of (pos r) ≡ r
      word_is r is = omega (arith, ints, is)

      below : (r : ℕ) → IsNumber (pos r) → r < 2 ^ 32
      below r is = omega (arith, ints, is)

  pub quotient_run : (a : ℕ) (o : instr.Operand) (x y : ℤ) (ps : List Piece) (next : ℕ) (n : machine.State) (w : View)
      → Shows words c.size n w → Near (machine_of v) (machine_of w) → reads c s.current.routine s.current.place a ≡ true
      → s.current.temporaries a ≡ Some (Number x) → IsNumber x → IsNumber y → pos 0 <ℤ y
      → ((w1 : View) → Moved 12 w w1 → operand_view w1 o ≡ word_of y) → Left c words w.place
      (form.fetch c s.current.routine 12 (home c s.current.routine a)
      ++ (Plain (word.Operate op.Div 12 (fetched c s.current.routine 12 (home c s.current.routine a)) o)
      ∷ (rounded 12 ++ ps))) next → Made (int_div x y) ps next n
  quotient_run a o x y ps next n w sh1 near ra ea hx hy h0 second l =
      let g = quotient_into 12 (omega arith) a o x y ps next n w sh1 near ra ea hx hy h0 second l in
      record {
        view = g.view;
        to = g.to;
        value = g.value;
        near = record { registers = λ q n12 n15. g.registers q n12 n15 n12; words = g.memory };
        left = g.left;
      }

  -- what is in R12 goes to the temporary
  pub made_end : (t : ℕ) (z : ℤ) (n : machine.State) (w : View)
      → ((u : View) → Straight c s.current.routine (suc s.current.place) u) → Shows words c.size n w → Near
      (machine_of v) (machine_of w) → Writes c s.current.routine s.current.place t → IsNumber z → w.registers 12
      ≡ word_of z → Left c words w.place (receive c s.current.routine (home c s.current.routine t))
      (c.site s.current.routine (suc s.current.place)) → Arrives c words
      (record s { current = giving t (Number z) s.current }) n
  made_end t z n w silent sh1 near wr is e l =
      receives_end c words b p s (machine_of v) f t (Number z) n w be.related be.input wr silent is sh1 (record {
        here = e;
        registers = λ q n12 n15 nd. near.registers q n12 n15;
        words = near.words;
      }) l

  -- ---- lengths of skips

  pub fetch_short : (h : Home) → length (form.fetch c s.current.routine 12 h) ≤ 4
  fetch_short (Reg q) = omega arith
  fetch_short (Slot k) = go (is_near (slot_at c s.current.routine k))
    where
      go : (t : Bool) → length (cond t (Plain (word.Load Word 12 14 (pos (slot_at c s.current.routine k))) ∷ [])
          (form.constant 12 (slot_at c s.current.routine k)
          ++ (Plain (word.Operate op.Add 12 12 (Content 14)) ∷ Plain (word.Load Word 12 12 (pos 0)) ∷ []))) ≤ 4
      go true = omega arith
      go false = omega arith

  pub quotient_length : (a : ℕ) → length (quotient c s.current.routine a) ≡ length
      (form.fetch c s.current.routine 12 (home c s.current.routine a)) + 5
  quotient_length a =
      length-append (form.fetch c s.current.routine 12 (home c s.current.routine a))
      (Plain (word.Operate op.Div 12 (fetched c s.current.routine 12 (home c s.current.routine a)) (Content 15))
      ∷ rounded 12)

  pub least_length : (a : ℕ) → length (quotient_by_least c s.current.routine a) ≡ length
      (form.fetch c s.current.routine 12 (home c s.current.routine a)) + 5
  least_length a =
      length-append (form.fetch c s.current.routine 12 (home c s.current.routine a))
      (Plain (word.Operate op.Sub 12 (fetched c s.current.routine 12 (home c s.current.routine a)) (Content 15))
      ∷ skip on.Equal 2 ∷ Plain (word.Move 12 (Constant (pos 0))) ∷ skip on.Always 1 ∷ Plain
      (word.Move 12 (Constant (pos 1))) ∷ [])

  pub negative_length : (a error line : ℕ) → length (quotient_by_negative c s.current.routine a error line) ≡ 3
      + (length (quotient c s.current.routine a) + (4 + length (quotient_by_least c s.current.routine a)))
  negative_length a error line =
      let n = length-append (quotient c s.current.routine a)
      (Plain (word.Move 15 (Constant (pos 0))) ∷ Plain (word.Operate op.Sub 12 15 (Content 12))
      ∷ form.opposite_test c s.current.routine error line ∷ skip on.Always
      (length (quotient_by_least c s.current.routine a)) ∷ quotient_by_least c s.current.routine a) in
      omega (arith, n)
