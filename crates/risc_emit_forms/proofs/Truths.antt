-- The relation of two values as a value, followed by its words.
use Rattle.std.proofs.Common.{◌≡◌, ◌≢◌, ℕ, suc, ◌+◌, Bool, true, false, cond, ◌&&◌, not, nat_eq, List, ◌∷◌}
use Rattle.std.proofs.Common.{◌++◌, Some, None, pos, refl, sym, ap, ◌∙◌, subst, arith, length-append, append_assoc}
use Rattle.std.proofs.lemmas.Bool.{eqb-true}
use Rattle.risc_word.specs.declared.instr.Operation.TheVariants as op
use Rattle.risc_word.specs.declared.instr.Operand.TheVariants as instr_operand
use Rattle.risc_word.specs.declared.instr.Condition.TheVariants as on
use Rattle.risc_word.specs.declared.instr.Instr.TheVariants as word
use Rattle.risc_machine.specs.Step as machine
use Rattle.risc_machine_laws.specs.View.{View, Shows, after, at_view}
use Rattle.risc_machine_laws.specs.Runs.{Way, same_tape}
use Rattle.risc_machine_laws.proofs.Runs.{way_here}
use Rattle.tac_code.specs.declared.code.Relation.{Relation}
use Rattle.tac_code.specs.declared.code.Relation.TheVariants.{Equal, NotEqual, Less, LessEqual, Greater, GreaterEqual}
use Rattle.tac_code.specs.declared.code.Operand.{Operand}
use Rattle.tac_code.specs.declared.code.Value.TheVariants.{Number}
use Rattle.tac_code.specs.declared.code.Instruction.{Instruction}
use Rattle.tac_code.specs.declared.code.Instruction.TheVariants.{Compare}
use Rattle.tac_code.specs.Numbers.{truth}
use Rattle.tac_code.specs.Sound.{IsOperand}
use Rattle.tac_code.specs.Meaning.{fetch, State, giving, operand_value, related}
use Rattle.risc_alloc.specs.Flow.{in_operand, is_among}
use Rattle.risc_emit_relation.specs.Context.{Context, home, reads, Places, Writes, IsNumber}
use Rattle.risc_emit_relation.proofs.Basics.{update_same, update_other}
use Rattle.risc_emit_forms.specs.Pieces.{Piece, Plain, Left}
use Rattle.risc_emit_forms.specs.Forms as form
use Rattle.risc_emit_forms.specs.Peephole.{flagged_at}
use Rattle.risc_emit_forms.specs.Forms.{fetched, right, right_operand, both, target, save, condition, brief, is_null}
use Rattle.risc_emit_forms.specs.Forms.{skip}
use Rattle.risc_emit_forms.specs.Follows.{machine_of, Built, Belongs, Comes}
use Rattle.risc_emit_forms.proofs.Basics.{left_after, left_next, left_at, is_read, writes_it, among_first, among_rest}
use Rattle.risc_emit_forms.proofs.Effects.{is_silent}
use Rattle.risc_emit_forms.proofs.Flags.{silent}
use Rattle.risc_emit_forms.proofs.Runs.{step_to}
use Rattle.risc_emit_forms.proofs.Joins.{fetched_is, come_to, come_way, arrive_to}
use Rattle.risc_emit_forms.proofs.Comes.{skip_run, skip_not, gives_end}
use Rattle.risc_emit_forms.proofs.Operands.{code, two_run}
use Rattle.risc_emit_forms.proofs.Compares.{related_flags}
use Rattle.risc_emit_forms.proofs.Branches.{Told, both_there, brief_flag, right_sound, told_run, told_stands, way_to}

module _ (c : Context) (words : List ℕ) (b : Built c words) (p : Places) (s : State) (f : ℕ) (m : machine.State)
    (v : View) (sh : Shows words c.size m v) (be : Belongs c words p s v f) where
  -- ---- the relation as a value

  number_is : (h : Bool) → IsNumber (truth h)
  number_is true = (omega arith, omega arith)
  number_is false = (omega arith, omega arith)

  abbrev rest : Relation → ℕ → List Piece
  rest relation t =
      skip (condition relation) 2 ∷ Plain (word.Move (target c s.current.routine (home c s.current.routine t))
      (instr_operand.Constant (pos 0))) ∷ skip on.Always 1 ∷ Plain
      (word.Move (target c s.current.routine (home c s.current.routine t)) (instr_operand.Constant (pos 1)))
      ∷ save c s.current.routine (home c s.current.routine t)

  truth_follows : (relation : Relation) (t a : ℕ) (o : Operand) (holds : Bool)
      → fetch c.code s.current.routine s.current.place ≡ Some (Compare relation t a o) → related relation
      (s.current.temporaries a) (operand_value s.current.temporaries o) ≡ Some holds → Left c words v.place
      (form.truth_form c s.current.routine relation t a o) (c.site s.current.routine (suc s.current.place))
      → Comes c words s (record s { current = giving t (Number (truth holds)) s.current }) m
  truth_follows relation t a o holds here e l =
      let r = s.current.routine in
      let k = s.current.place in
      let i = Compare relation t a o in
      let so = fetched_is c words b r k i here in
      go holds (told_run c words b p s f m v sh be relation a o holds (rest relation t) _ _ so.sound.2
      (is_read c r k i here a (among_first a (in_operand o)))
      (λ t et. is_read c r k i here t (among_rest t a (in_operand o) et)) e l)
    where
      go : (h : Bool) → Told c words b p s f m v sh be relation a o h (rest relation t)
          (c.site s.current.routine (suc s.current.place))
          → Comes c words s (record s { current = giving t (Number (truth h)) s.current }) m
      go true w =
          let r = s.current.routine in
          let hd = target c r (home c r t) in
          let s' = record s { current = giving t (Number (pos 1)) s.current } in
          let v1 = w.view in
          let t2 = skip_run c words b (condition relation) 2 _ _ w.way.to v1 w.way.shows w.left w.flag (omega arith) in
          let v2 = at_view (v1.place + 1 + 2) v1 in
          let l4 = left_next c words (v1.place + 1 + 1) _ _ _
          (left_next c words (v1.place + 1) _ _ _ (left_next c words v1.place _ _ _ w.left)) in
          let l4' = left_at c words _ v2.place _ _ l4 (omega arith) in
          let i3 = word.Move hd (instr_operand.Constant (pos 1)) in
          let t3 = step_to c words b.stood i3 t2.to v2 t2.shows l4'.stands.0 tt in
          let v3 = after i3 v2 in
          let l5 = left_next c words v2.place _ _ _ l4' in
          come_way c words b s s' m v1 w.way (come_to c words b s s' w.way.to same_tape v2 t2 refl
          (arrive_to c words b s' t2.to v3 t3 (gives_end c words b p s (machine_of v) f t
          (Number (pos 1)) t3.to v3 be.related be.input
          (writes_it c r s.current.place (Compare relation t a o) here t refl refl)
          (silent c r s.current.place (Compare relation t a o) here refl) (number_is true) t3.shows (record {
            here = update_same v2.registers hd _;
            registers = λ q n12 n15 nd. update_other v2.registers hd _ q nd ∙ w.near.registers q n12 n15;
            words = w.near.words;
          }) l5)))
      go false w =
          let r = s.current.routine in
          let hd = target c r (home c r t) in
          let s' = record s { current = giving t (Number (pos 0)) s.current } in
          let v1 = w.view in
          let t2 = skip_not c words b (condition relation) 2 _ _ w.way.to v1 w.way.shows w.left w.flag in
          let v2 = at_view (v1.place + 1) v1 in
          let l2 = left_next c words v1.place _ _ _ w.left in
          let i3 = word.Move hd (instr_operand.Constant (pos 0)) in
          let t3 = step_to c words b.stood i3 t2.to v2 t2.shows l2.stands.0 tt in
          let v3 = after i3 v2 in
          let l3 = left_next c words v2.place _ _ _ l2 in
          let t4 = skip_run c words b on.Always 1 _ _ t3.to v3 t3.shows l3 refl (omega arith) in
          let v4 = at_view (v3.place + 1 + 1) v3 in
          let l5 = left_next c words (v3.place + 1) _ _ _ (left_next c words v3.place _ _ _ l3) in
          come_way c words b s s' m v1 w.way (come_to c words b s s' w.way.to same_tape v2 t2 refl
          (arrive_to c words b s' t2.to v3 t3 (arrive_to c words b s' t3.to v4 t4
          (gives_end c words b p s (machine_of v) f t (Number (pos 0)) t4.to v4 be.related be.input
          (writes_it c r s.current.place (Compare relation t a o) here t refl refl)
          (silent c r s.current.place (Compare relation t a o) here refl) (number_is false) t4.shows (record {
            here = update_same v2.registers hd _;
            registers = λ q n12 n15 nd. update_other v2.registers hd _ q nd ∙ w.near.registers q n12 n15;
            words = w.near.words;
          }) l5))))

  -- ---- two values that differ

  -- the register of a result holds a difference, whose flag shows whether it is 0
  record Unlike (t : ℕ) (holds : Bool) : Type 0 where
    view : View
    way : Way words c.size m same_tape view
    registers : (q : ℕ) → q ≢ 12 → q ≢ 15 → q ≢ target c s.current.routine (home c s.current.routine t)
        → view.registers q ≡ v.registers q
    memory : (x : ℕ) → view.words x ≡ v.words x
    zero : view.equal ≡ nat_eq (view.registers (target c s.current.routine (home c s.current.routine t))) 0
    flag : not view.equal ≡ holds
    left : Left c words view.place (form.unlike c s.current.routine t) (c.site s.current.routine (suc s.current.place))

  -- it is already there
  own_run : (t a : ℕ) (o : Operand) (holds : Bool) → form.is_own c s.current.routine
      (flagged_at c s.current.routine s.current.place) t a o ≡ true → reads c s.current.routine s.current.place a ≡ true
      → related NotEqual (s.current.temporaries a) (operand_value s.current.temporaries o) ≡ Some holds
      → Left c words v.place (form.unlike c s.current.routine t) (c.site s.current.routine (suc s.current.place))
      → Unlike t holds
  own_run t a o holds own ra e l =
      let r = s.current.routine in
      let told = flagged_at c r s.current.place in
      let k = parts (form.is_flagged c r told a) (nat_eq t a) (is_null o) own in
      let stood = told_stands c words b p s f m v sh be a k.0 in
      let d : target c r (home c r t) ≡ stood.0 = ap (λ u. target c r (home c r u)) (eqb-true t a k.1)
      ∙ ap (target c r) stood.1 in
      record {
        view = v;
        way = way_here words c.size m v sh;
        registers = λ q n12 n15 nd. refl;
        memory = λ x. refl;
        zero = stood.2 ∙ ap (λ q. nat_eq (v.registers q) 0) (sym d);
        flag = brief_flag c words b p s f m v sh be NotEqual a o holds on.NotEqual
            (chosen (form.is_flagged c r told a) (is_null o) k.0 k.2) ra e;
        left = l;
      }
    where
      parts : (x y z : Bool) → x && (y && z) ≡ true → (x ≡ true) × (y ≡ true) × (z ≡ true)
      parts true true true e = (refl, refl, refl)
      parts true true false e = absurd (cc e)
      parts true false z e = absurd (cc e)
      parts false y z e = absurd (cc e)

      chosen : (x z : Bool) → x ≡ true → z ≡ true → cond (x && z) (brief NotEqual) None ≡ Some on.NotEqual
      chosen true true ex ez = refl
      chosen true false ex ez = absurd (cc ez)
      chosen false z ex ez = absurd (cc ex)

  -- or is made there
  made_run : (t a : ℕ) (o : Operand) (holds : Bool) (temporaries : ℕ) → IsOperand temporaries o
      → reads c s.current.routine s.current.place a ≡ true
      → ((t : ℕ) → is_among t (in_operand o) ≡ true → reads c s.current.routine s.current.place t ≡ true)
      → related NotEqual (s.current.temporaries a) (operand_value s.current.temporaries o) ≡ Some holds
      → Left c words v.place (both c s.current.routine a o
      (form.operate c s.current.routine op.Sub (home c s.current.routine t) a o ∷ form.unlike c s.current.routine t))
      (c.site s.current.routine (suc s.current.place)) → Unlike t holds
  made_run t a o holds temporaries so ra ro e l =
      let r = s.current.routine in
      let d = target c r (home c r t) in
      let next = c.site r (suc s.current.place) in
      let xs = both_there NotEqual (s.current.temporaries a) (operand_value s.current.temporaries o) holds e in
      let x = xs.first in
      let y = xs.second in
      let e' : related NotEqual (Some x) (Some y) ≡ Some holds = ap (λ z. related NotEqual (Some x) z)
      (sym xs.is_second) ∙ ap (λ z. related NotEqual z (operand_value s.current.temporaries o)) (sym xs.is) ∙ e in
      let i = word.Operate op.Sub d (fetched c r 12 (home c r a)) (right_operand c r o) in
      let ps = form.unlike c r t in
      let g = two_run c words b p s f m v sh be a o x y (Plain i ∷ ps) next
      (right_sound c words b p s f m v sh be temporaries o so) ra ro xs.is xs.is_second l in
      let v1 = g.view in
      let l0 = subst (λ q. Left c words v.place q next)
      (sym (append_assoc (form.fetch c r 12 (home c r a)) (right c r o) (Plain i ∷ ps))) l in
      let len = length-append (form.fetch c r 12 (home c r a)) (right c r o) in
      let l1 = left_after c words v.place v1.place next (form.fetch c r 12 (home c r a) ++ right c r o)
      (Plain i ∷ ps) l0 (omega (arith, g.place, len)) in
      let t2 = step_to c words b.stood i g.way.to v1 g.way.shows l1.stands.0 tt in
      record {
        view = after i v1;
        way = way_to c words b p s f m v sh be g.way t2;
        registers = λ q n12 n15 nd. update_other v1.registers d _ q nd ∙ g.near.registers q n12 n15;
        memory = g.near.words;
        zero = ap (λ n. nat_eq n 0) (sym (update_same v1.registers d _));
        flag = related_flags c b.laid p s v.words f be.related.held NotEqual x y holds d (fetched c r 12 (home c r a))
            (right_operand c r o) v1 g.good g.good_right g.left g.right e';
        left = left_next c words v1.place next (Plain i) ps l1;
      }

  unlike_by : (t : ℕ) (h : Bool) (i : Instruction) → fetch c.code s.current.routine s.current.place ≡ Some i
      → Writes c s.current.routine s.current.place t → is_silent i ≡ true → Unlike t h → Comes c words s
      (record s { current = giving t (Number (truth h)) s.current }) m
  unlike_by t true i here writes none w =
      let r = s.current.routine in
      let d = target c r (home c r t) in
      let s' = record s { current = giving t (Number (pos 1)) s.current } in
      let v1 = w.view in
      let t2 = skip_not c words b on.Equal 1 _ _ w.way.to v1 w.way.shows w.left (unequal v1.equal w.flag) in
      let v2 = at_view (v1.place + 1) v1 in
      let l2 = left_next c words v1.place _ _ _ w.left in
      let i3 = word.Move d (instr_operand.Constant (pos 1)) in
      let t3 = step_to c words b.stood i3 t2.to v2 t2.shows l2.stands.0 tt in
      let v3 = after i3 v2 in
      let l3 = left_next c words v2.place _ _ _ l2 in
      come_way c words b s s' m v1 w.way (come_to c words b s s' w.way.to same_tape v2 t2 refl
      (arrive_to c words b s' t2.to v3 t3 (gives_end c words b p s (machine_of v) f t
      (Number (pos 1)) t3.to v3 be.related be.input writes (silent c r s.current.place i here none)
      (number_is true) t3.shows (record {
        here = update_same v2.registers d _;
        registers = λ q n12 n15 nd. update_other v2.registers d _ q nd ∙ w.registers q n12 n15 nd;
        words = w.memory;
      }) l3)))
    where
      unequal : (z : Bool) → not z ≡ true → z ≡ false
      unequal true e = absurd (cc e)
      unequal false e = refl
  unlike_by t false i here writes none w =
      let r = s.current.routine in
      let d = target c r (home c r t) in
      let s' = record s { current = giving t (Number (pos 0)) s.current } in
      let v1 = w.view in
      let same = equal v1.equal w.flag in
      let t2 = skip_run c words b on.Equal 1 _ _ w.way.to v1 w.way.shows w.left same (omega arith) in
      let v2 = at_view (v1.place + 1 + 1) v1 in
      let l2 = left_next c words (v1.place + 1) _ _ _ (left_next c words v1.place _ _ _ w.left) in
      come_way c words b s s' m v1 w.way (come_to c words b s s' w.way.to same_tape v2 t2 refl
      (gives_end c words b p s (machine_of v) f t (Number (pos 0)) t2.to v2 be.related be.input writes
      (silent c r s.current.place i here none) (number_is false) t2.shows (record {
        here = eqb-true (v1.registers d) 0 (sym w.zero ∙ same);
        registers = w.registers;
        words = w.memory;
      }) l2))
    where
      equal : (z : Bool) → not z ≡ false → z ≡ true
      equal true e = refl
      equal false e = absurd (cc e)

  unlike_follows : (t a : ℕ) (o : Operand) (holds : Bool) → fetch c.code s.current.routine s.current.place ≡ Some
      (Compare NotEqual t a o) → related NotEqual (s.current.temporaries a) (operand_value s.current.temporaries o)
      ≡ Some holds → Comes c words s (record s { current = giving t (Number (truth holds)) s.current }) m
  unlike_follows t a o holds here e =
      let r = s.current.routine in
      let k = s.current.place in
      let i = Compare NotEqual t a o in
      unlike_by t holds i here (writes_it c r k i here t refl refl) refl
      (go (form.is_own c r (flagged_at c r k) t a o) refl (code c words b p s f m v sh be i here))
    where
      go : (own : Bool) → form.is_own c s.current.routine (flagged_at c s.current.routine s.current.place) t a o ≡ own
          → Left c words v.place (cond own (form.unlike c s.current.routine t)
          (both c s.current.routine a o (form.operate c s.current.routine op.Sub (home c s.current.routine t) a o
          ∷ form.unlike c s.current.routine t))) (c.site s.current.routine (suc s.current.place)) → Unlike t holds
      go true own l =
          own_run t a o holds own (is_read c s.current.routine s.current.place (Compare NotEqual t a o) here a
          (among_first a (in_operand o))) e l
      go false own l =
          let r = s.current.routine in
          let k = s.current.place in
          let i = Compare NotEqual t a o in
          let so = fetched_is c words b r k i here in
          made_run t a o holds _ so.sound.2 (is_read c r k i here a (among_first a (in_operand o)))
          (λ t et. is_read c r k i here t (among_rest t a (in_operand o) et)) e l

  pub compare_follows : (relation : Relation) (t a : ℕ) (o : Operand) (holds : Bool)
      → fetch c.code s.current.routine s.current.place ≡ Some (Compare relation t a o) → related relation
      (s.current.temporaries a) (operand_value s.current.temporaries o) ≡ Some holds → Comes c words s
      (record s { current = giving t (Number (truth holds)) s.current }) m
  compare_follows NotEqual t a o holds here e = unlike_follows t a o holds here e
  compare_follows Equal t a o holds here e =
      truth_follows Equal t a o holds here e (code c words b p s f m v sh be (Compare Equal t a o) here)
  compare_follows Less t a o holds here e =
      truth_follows Less t a o holds here e (code c words b p s f m v sh be (Compare Less t a o) here)
  compare_follows LessEqual t a o holds here e =
      truth_follows LessEqual t a o holds here e (code c words b p s f m v sh be (Compare LessEqual t a o) here)
  compare_follows Greater t a o holds here e =
      truth_follows Greater t a o holds here e (code c words b p s f m v sh be (Compare Greater t a o) here)
  compare_follows GreaterEqual t a o holds here e =
      truth_follows GreaterEqual t a o holds here e (code c words b p s f m v sh be (Compare GreaterEqual t a o) here)
