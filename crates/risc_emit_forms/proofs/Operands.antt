-- Operands that an instruction reads: fetched, as the words of their values.
use Rattle.std.proofs.Common.{◌≡◌, ◌≢◌, ℕ, suc, ◌+◌, true, nat_eq, nat_le, List, [], ◌++◌, length, Some, refl, ap, ◌∙◌}
use Rattle.std.proofs.Common.{subst, arith}
use Rattle.risc_machine.specs.Step as machine
use Rattle.risc_machine.specs.Step.{word_of_int}
use Rattle.risc_machine.specs.declared.limits.TheConstants.{SIGN_BIT}
use Rattle.risc_machine_laws.specs.View.{View, Shows, operand_view}
use Rattle.risc_machine_laws.specs.Runs.{To, Way, same_tape}
use Rattle.risc_machine_laws.proofs.Runs.{way_then}
use Rattle.tac_code.specs.declared.code.Value.{Value}
use Rattle.tac_code.specs.declared.code.Value.TheVariants.{Number}
use Rattle.tac_code.specs.declared.code.Operand.{Operand}
use Rattle.tac_code.specs.declared.code.Operand.TheVariants as operand
use Rattle.tac_code.specs.declared.code.Instruction.{Instruction}
use Rattle.tac_code.specs.Meaning.{fetch, State, operand_value}
use Rattle.risc_alloc.specs.Flow.{in_operand, is_among}
use Rattle.risc_emit_relation.specs.Context.{Context, home, reads, Places, word, IsValue}
use Rattle.risc_emit_relation.specs.Related.{value_of}
use Rattle.risc_emit_relation.specs.Changes.{Near}
use Rattle.risc_emit_relation.proofs.Steps.{home_read}
use Rattle.risc_emit_forms.specs.Pieces.{Piece, Left}
use Rattle.risc_emit_forms.specs.Forms as form
use Rattle.risc_emit_forms.specs.Forms.{fetched, right, right_operand, both}
use Rattle.risc_emit_forms.specs.Follows.{machine_of, Built, Belongs}
use Rattle.risc_emit_forms.proofs.Basics.{left_after, left_at, among_first}
use Rattle.risc_emit_forms.proofs.Runs.{Moved}
use Rattle.risc_emit_forms.proofs.Fetches.{right_word, fetch_run, fetched_not, value_moved, bring_run, IsRight}
use Rattle.risc_emit_forms.proofs.Fetches.{right_run}
use Rattle.risc_emit_forms.proofs.Comes.{framed}

module _ (c : Context) (words : List ℕ) (b : Built c words) (p : Places) (s : State) (f : ℕ) (m : machine.State)
    (v : View) (sh : Shows words c.size m v) (be : Belongs c words p s v f) where
  -- the pieces of the instruction at the place
  pub code : (i : Instruction) → fetch c.code s.current.routine s.current.place ≡ Some i → Left c words v.place
      (form.form c s.current.routine s.current.place i) (c.site s.current.routine (suc s.current.place))
  code i here =
      left_at c words (c.site s.current.routine s.current.place) v.place _
      (form.form c s.current.routine s.current.place i)
      (b.stood.body s.current.routine s.current.place i here) be.place

  -- what is read is in its home, as a word
  pub stands_in : (u : ℕ) (x : Value) → reads c s.current.routine s.current.place u ≡ true → s.current.temporaries u
      ≡ Some x → IsValue c p x × (value_of c s.current.routine f (machine_of v) (home c s.current.routine u)
      ≡ word c p x)
  stands_in u x r e = home_read c b.laid b.placed p s (machine_of v) f u x be.related r e

  -- ---- one operand

  pub record One (d u len : ℕ) (x : Value) : Type 0 where
    pub view : View
    pub way : Way words c.size m same_tape view
    pub good : IsValue c p x
    pub value : view.registers (fetched c s.current.routine d (home c s.current.routine u)) ≡ word c p x
    pub moved : Moved d v view
    pub place : view.place ≡ v.place + len

  pub one_run : (d u : ℕ) (x : Value) (ps : List Piece) (next : ℕ) → d ≢ 14
      → reads c s.current.routine s.current.place u ≡ true → s.current.temporaries u ≡ Some x → Left c words v.place
      (form.fetch c s.current.routine d (home c s.current.routine u) ++ ps) next → One d u
      (length (form.fetch c s.current.routine d (home c s.current.routine u))) x
  one_run d u x ps next ne r e l =
      let g = fetch_run c words b.stood b.laid b.placed s.current.routine f
      (framed c words b p s (machine_of v) f be.related) d u ps next m v sh ne be.related.stack l in
      let k = stands_in u x r e in
      record { view = g.view; way = g.way; good = k.0; value = g.value ∙ k.1; moved = g.moved; place = g.place }

  pub record Brought (d len : ℕ) (x : Value) : Type 0 where
    pub view : View
    pub to : To words c.size m same_tape view
    pub good : IsValue c p x
    pub value : view.registers d ≡ word c p x
    pub moved : Moved d v view
    pub zero : view.equal ≡ nat_eq (word c p x) 0
    pub minus : view.negative ≡ nat_le SIGN_BIT (word c p x)
    pub place : view.place ≡ v.place + len

  pub brought_run : (d u : ℕ) (x : Value) (ps : List Piece) (next : ℕ) → d ≢ 14
      → reads c s.current.routine s.current.place u ≡ true → s.current.temporaries u ≡ Some x → Left c words v.place
      (form.bring c s.current.routine d (home c s.current.routine u) ++ ps) next → Brought d
      (length (form.bring c s.current.routine d (home c s.current.routine u))) x
  brought_run d u x ps next ne r e l =
      let g = bring_run c words b.stood b.laid b.placed s.current.routine f
      (framed c words b p s (machine_of v) f be.related) d u ps next m v sh ne be.related.stack l in
      let k = stands_in u x r e in
      record {
        view = g.view;
        to = g.to;
        good = k.0;
        value = g.value ∙ k.1;
        moved = g.moved;
        zero = g.zero ∙ ap (λ y. nat_eq y 0) k.1;
        minus = g.minus ∙ ap (nat_le SIGN_BIT) k.1;
        place = g.place;
      }

  -- ---- a left and a right operand

  right_is : (o : Operand) (y : Value) → IsRight c words b.stood b.laid b.placed s.current.routine f
      (framed c words b p s (machine_of v) f be.related) o
      → ((u : ℕ) → is_among u (in_operand o) ≡ true → reads c s.current.routine s.current.place u ≡ true)
      → operand_value s.current.temporaries o ≡ Some y → IsValue c p y
      × (right_word c s.current.routine f (machine_of v) o ≡ word c p y)
  right_is (operand.Temporary t) y is r e = stands_in t y (r t (among_first t [])) e
  right_is (operand.Number z) y is r e =
      let same : Number z ≡ y = cc e in
      (subst (IsValue c p) same is, ap (word c p) same)

  pub record Two (u : ℕ) (o : Operand) (len : ℕ) (x y : Value) : Type 0 where
    pub view : View
    pub way : Way words c.size m same_tape view
    pub good : IsValue c p x
    pub good_right : IsValue c p y
    pub left : view.registers (fetched c s.current.routine 12 (home c s.current.routine u)) ≡ word c p x
    pub right : operand_view view (right_operand c s.current.routine o) ≡ word c p y
    pub near : Near (machine_of v) (machine_of view)
    pub place : view.place ≡ v.place + len

  pub two_run : (u : ℕ) (o : Operand) (x y : Value) (ps : List Piece) (next : ℕ)
      → IsRight c words b.stood b.laid b.placed s.current.routine f (framed c words b p s (machine_of v) f be.related) o
      → reads c s.current.routine s.current.place u ≡ true
      → ((t : ℕ) → is_among t (in_operand o) ≡ true → reads c s.current.routine s.current.place t ≡ true)
      → s.current.temporaries u ≡ Some x → operand_value s.current.temporaries o ≡ Some y → Left c words v.place
      (both c s.current.routine u o ps) next → Two u o
      (length (form.fetch c s.current.routine 12 (home c s.current.routine u)) + length (right c s.current.routine o)) x
      y
  two_run u o x y ps next is ru ro eu eo l =
      let r = s.current.routine in
      let fr = framed c words b p s (machine_of v) f be.related in
      let g = one_run 12 u x (right c r o ++ ps) next (omega arith) ru eu l in
      let v1 = g.view in
      let l1 = left_after c words v.place v1.place next (form.fetch c r 12 (home c r u)) (right c r o ++ ps) l g.place
      in
      let e14 : v1.registers 14 ≡ f = g.moved.registers 14 (omega arith) ∙ be.related.stack in
      let h = right_run c words b.stood b.laid b.placed r f fr o ps next g.way.to v1 g.way.shows e14 is l1 in
      let q = right_is o y is ro eo in
      record {
        view = h.view;
        way = way_then words c.size m same_tape same_tape v1 h.view g.way h.way;
        good = g.good;
        good_right = q.0;
        left = h.moved.registers _ (fetched_not c words b.stood b.laid b.placed r f fr 12 u 15 (omega arith)
            (omega arith)) ∙ g.value;
        right = h.value ∙ moved_right o v1 g.moved ∙ q.1;
        near = record {
          registers = λ q n12 n15. h.moved.registers q n15 ∙ g.moved.registers q n12;
          words = λ a. h.moved.words a ∙ g.moved.words a;
        };
        place = omega (arith, h.place, g.place);
      }
    where
      moved_right : (o : Operand) (v1 : View) → Moved 12 v v1 → right_word c s.current.routine f (machine_of v1) o
          ≡ right_word c s.current.routine f (machine_of v) o
      moved_right (operand.Temporary t) v1 n = value_moved c words b.stood b.laid b.placed s.current.routine f
          (framed c words b p s (machine_of v) f be.related) 12 t v v1 (omega arith) n
      moved_right (operand.Number z) v1 n = refl
