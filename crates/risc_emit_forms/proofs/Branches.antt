-- Branches followed by their words.
use Rattle.std.specs.Prelude.{int_lt}
use Rattle.std.proofs.lemmas.Int.{ints}
use Rattle.std.proofs.Common.{◌≡◌, ℕ, zero, suc, ◌+◌, ◌-◌, ◌^◌, ◌<◌, ◌≤◌, Bool, true, false, cond, ◌&&◌, not, nat_eq}
use Rattle.std.proofs.Common.{nat_le, List, [], ◌∷◌, ◌++◌, Option, Some, None, pos, negsuc, refl, sym, ap, ◌∙◌, subst}
use Rattle.std.proofs.Common.{arith, length-append, append_assoc}
use Rattle.std.proofs.lemmas.Bool.{eqb-true}
use Rattle.std.proofs.lemmas.Option.{slice_get_within}
use Rattle.risc_word.specs.declared.instr.Operation.TheVariants as op
use Rattle.risc_word.specs.declared.instr.Operand.TheVariants as instr_operand
use Rattle.risc_word.specs.declared.instr.Condition.TheVariants as on
use Rattle.risc_word.specs.declared.instr.Instr.TheVariants as word
use Rattle.risc_machine.specs.Step as machine
use Rattle.risc_machine.specs.Step.{word_of_int}
use Rattle.risc_machine.specs.declared.limits.TheConstants.{SIGN_BIT}
use Rattle.risc_word.specs.declared.instr.Condition.{Condition}
use Rattle.risc_machine_laws.specs.View.{View, Shows, after, at_view, holds_view}
use Rattle.risc_machine_laws.specs.Runs.{To, Way, same_tape}
use Rattle.risc_machine_laws.specs.Numbers.{difference_of}
use Rattle.risc_machine_laws.proofs.Numbers.{minus_word}
use Rattle.tac_code.specs.declared.code.Relation.{Relation}
use Rattle.tac_code.specs.declared.code.Relation.TheVariants.{Equal, NotEqual, Less, LessEqual, Greater, GreaterEqual}
use Rattle.tac_code.specs.declared.code.Operand.{Operand}
use Rattle.tac_code.specs.declared.code.Operand.TheVariants as operand
use Rattle.tac_code.specs.declared.code.Value.{Value}
use Rattle.tac_code.specs.declared.code.Value.TheVariants.{Number, Address, Routine}
use Rattle.tac_code.specs.declared.code.Instruction.{Instruction}
use Rattle.tac_code.specs.declared.code.Instruction.TheVariants.{Branch, BranchBack}
use Rattle.tac_code.specs.Sound.{IsOperand}
use Rattle.tac_code.specs.Meaning.{fetch, State, operand_value, pointer_of, pointers_related, related}
use Rattle.risc_alloc.specs.declared.homes.Home.{Home}
use Rattle.risc_alloc.specs.declared.homes.Home.TheVariants.{Slot, Reg}
use Rattle.risc_alloc.specs.Flow.{in_operand, is_among, is_it}
use Rattle.risc_image.specs.declared.header.TheConstants.{MAX_COUNT}
use Rattle.risc_emit_relation.specs.Context.{Context, home, reads, Places, Passes, IsNumber, IsValue}
use Rattle.risc_emit_relation.specs.Context as ctx
use Rattle.risc_emit_relation.specs.Changes.{Near}
use Rattle.risc_emit_relation.specs.Related.{value_of}
use Rattle.risc_emit_relation.proofs.Basics.{update_other}
use Rattle.risc_emit_forms.specs.Pieces.{AtPlace, Piece, Plain, Goes, Left}
use Rattle.risc_emit_forms.specs.Forms as form
use Rattle.risc_emit_forms.specs.Peephole.{flagged_at}
use Rattle.risc_emit_forms.specs.Forms.{fetched, right, right_operand, both, condition, brief, is_null, is_register}
use Rattle.risc_emit_forms.specs.Forms.{difference}
use Rattle.risc_emit_forms.specs.Follows.{machine_of, Built, Belongs, Comes}
use Rattle.risc_emit_forms.proofs.Basics.{left_after, left_next, is_read, passes, among_first, among_rest, integer_is}
use Rattle.risc_emit_forms.proofs.Fetches.{IsRight}
use Rattle.risc_emit_forms.proofs.Runs.{step_to}
use Rattle.risc_emit_forms.proofs.Comes.{framed, goes_run, goes_not, goes_end}
use Rattle.risc_emit_forms.proofs.Joins.{fetched_is, come_to, come_way}
use Rattle.risc_emit_forms.proofs.Operands.{code, stands_in, two_run}
use Rattle.risc_emit_forms.proofs.Compares.{related_flags}

-- ---- both values are there

pub record Both (v w : Option Value) : Type 0 where
  pub first : Value
  pub second : Value
  pub is : v ≡ Some first
  pub is_second : w ≡ Some second

no_left : (relation : Relation) (r : Option (Option ℕ)) (h : Bool) → pointers_related relation None r ≡ Some h → ⊥
no_left Equal r h e = cc e
no_left NotEqual r h e = cc e
no_left Less r h e = cc e
no_left LessEqual r h e = cc e
no_left Greater r h e = cc e
no_left GreaterEqual r h e = cc e

no_right : (relation : Relation) (q : Option (Option ℕ)) (h : Bool) → pointers_related relation q None ≡ Some h → ⊥
no_right relation None h e = no_left relation None h e
no_right Equal (Some q) h e = cc e
no_right NotEqual (Some q) h e = cc e
no_right Less (Some q) h e = cc e
no_right LessEqual (Some q) h e = cc e
no_right Greater (Some q) h e = cc e
no_right GreaterEqual (Some q) h e = cc e

pub both_there : (relation : Relation) (v w : Option Value) (h : Bool) → related relation v w ≡ Some h → Both v w
both_there relation None w h e = absurd (no_left relation (pointer_of w) h e)
both_there relation (Some (Number x)) None h e = absurd (no_right relation (pointer_of (Some (Number x))) h e)
both_there relation (Some (Address b o)) None h e = absurd (no_right relation (pointer_of (Some (Address b o))) h e)
both_there relation (Some (Routine r)) None h e = absurd (no_right relation None h e)
both_there relation (Some x) (Some y) h e = record { first = x; second = y; is = refl; is_second = refl }

module _ (c : Context) (words : List ℕ) (b : Built c words) (p : Places) (s : State) (f : ℕ) (m : machine.State)
    (v : View) (sh : Shows words c.size m v) (be : Belongs c words p s v f) where
  pub right_sound : (temporaries : ℕ) (o : Operand) → IsOperand temporaries o
      → IsRight c words b.stood b.laid b.placed s.current.routine f (framed c words b p s (machine_of v) f be.related) o
  right_sound n (operand.Temporary t) h = tt
  right_sound n (operand.Number z) h = integer_is z h

  -- the register that N and Z are known to be of
  pub told_stands : (a : ℕ) → form.is_flagged c s.current.routine (flagged_at c s.current.routine s.current.place) a
      ≡ true → (q : ℕ) × (home c s.current.routine a ≡ Reg q) × (v.equal ≡ nat_eq (v.registers q) 0)
      × (v.negative ≡ nat_le SIGN_BIT (v.registers q))
  told_stands a e =
      let k = each (is_it a (flagged_at c s.current.routine s.current.place)) (is_register (home c s.current.routine a))
      e
      in
      let h = register_is (home c s.current.routine a) k.1 in
      let flags = be.flags.0 a h.0 (it_is (flagged_at c s.current.routine s.current.place) k.0) h.1 in
      (h.0, h.1, flags.0, flags.1)
    where
      each : (t u : Bool) → t && u ≡ true → (t ≡ true) × (u ≡ true)
      each true u e = (refl, e)
      each false u e = absurd (cc e)

      it_is : (o : Option ℕ) → is_it a o ≡ true → o ≡ Some a
      it_is None e = absurd (cc e)
      it_is (Some t) e = ap Some (sym (eqb-true a t e))

      register_is : (h : Home) → is_register h ≡ true → (q : ℕ) × (h ≡ Reg q)
      register_is (Reg q) e = (q, refl)
      register_is (Slot j) e = absurd (cc e)

  pub way_to : {v1 v2 : View} (g : Way words c.size m same_tape v1) → To words c.size g.to same_tape v2
      → Way words c.size m same_tape v2
  way_to g t =
      record {
        to = t.to;
        shows = t.shows;
        runs = λ k q. let x = t.runs k q in let y = g.runs x.0 q in (y.0, omega (arith, x.1, y.1), y.2 ∙ x.2);
      }

  -- the difference of two operands, whose flags show the relation
  pub record Told (relation : Relation) (a : ℕ) (o : Operand) (holds : Bool) (ps : List Piece) (next : ℕ) : Type 0 where
    pub view : View
    pub way : Way words c.size m same_tape view
    pub near : Near (machine_of v) (machine_of view)
    pub flag : holds_view view (condition relation) ≡ holds
    pub left : Left c words view.place ps next

  pub told_run : (relation : Relation) (a : ℕ) (o : Operand) (holds : Bool) (ps : List Piece) (next temporaries : ℕ)
      → IsOperand temporaries o → reads c s.current.routine s.current.place a ≡ true
      → ((t : ℕ) → is_among t (in_operand o) ≡ true → reads c s.current.routine s.current.place t ≡ true)
      → related relation (s.current.temporaries a) (operand_value s.current.temporaries o) ≡ Some holds
      → Left c words v.place (both c s.current.routine a o (difference c s.current.routine a o ∷ ps)) next
      → Told relation a o holds ps next
  told_run relation a o holds ps next temporaries so ra ro e l =
      let r = s.current.routine in
      let xs = both_there relation (s.current.temporaries a) (operand_value s.current.temporaries o) holds e in
      let x = xs.first in
      let y = xs.second in
      let e' : related relation (Some x) (Some y) ≡ Some holds = ap (λ z. related relation (Some x) z)
      (sym xs.is_second) ∙ ap (λ z. related relation z (operand_value s.current.temporaries o)) (sym xs.is) ∙ e in
      let i = word.Operate op.Sub 12 (fetched c r 12 (home c r a)) (right_operand c r o) in
      let g = two_run c words b p s f m v sh be a o x y (Plain i ∷ ps) next
      (right_sound temporaries o so) ra ro xs.is xs.is_second l in
      let v1 = g.view in
      let l0 = subst (λ q. Left c words v.place q next)
      (sym (append_assoc (form.fetch c r 12 (home c r a)) (right c r o) (Plain i ∷ ps))) l in
      let len = length-append (form.fetch c r 12 (home c r a)) (right c r o) in
      let l1 = left_after c words v.place v1.place next (form.fetch c r 12 (home c r a) ++ right c r o)
      (Plain i ∷ ps) l0 (omega (arith, g.place, len)) in
      let t2 = step_to c words b.stood i g.way.to v1 g.way.shows l1.stands.0 tt in
      let v2 = after i v1 in
      record {
        view = v2;
        way = way_to g.way t2;
        near = record {
          registers = λ q n12 n15. update_other v1.registers 12 _ q n12 ∙ g.near.registers q n12 n15;
          words = g.near.words;
        };
        flag = related_flags c b.laid p s v.words f be.related.held relation x y holds 12 (fetched c r 12 (home c r a))
            (right_operand c r o) v1 g.good g.good_right g.left g.right e';
        left = left_next c words v1.place next (Plain i) ps l1;
      }

  -- ---- by the flags of an instruction before it

  no_less : (n : ℕ) → n < 2 ^ 32 → difference_of n (word_of_int (pos 0)) ≡ n
  no_less n lt = omega (arith, lt)

  -- N and Z of a value show how it compares with 0
  told_flags : (relation : Relation) (told : Condition) (x : Value) (holds : Bool) (q : ℕ) → brief relation ≡ Some told
      → IsValue c p x → v.registers q ≡ ctx.word c p x → v.registers q < 2 ^ 32 → v.equal ≡ nat_eq (v.registers q) 0
      → v.negative ≡ nat_le SIGN_BIT (v.registers q) → related relation (Some x) (Some (Number (pos 0))) ≡ Some holds
      → holds_view v told ≡ holds
  told_flags relation told x holds q is good value low null minus e = go relation is e
    where
      none : IsNumber (pos 0)
      none = (omega (arith, ints), omega (arith, ints))

      by_difference : (relation : Relation) → related relation (Some x) (Some (Number (pos 0))) ≡ Some holds
          → holds_view (after (word.Operate op.Sub 12 q (instr_operand.Constant (pos 0))) v) (condition relation)
          ≡ holds
      by_difference relation e =
          related_flags c b.laid p s v.words f be.related.held relation x (Number (pos 0)) holds 12 q
          (instr_operand.Constant (pos 0)) v good none value refl e

      same : v.equal ≡ (after (word.Operate op.Sub 12 q (instr_operand.Constant (pos 0))) v).equal
      same = null ∙ ap (λ n. nat_eq n 0) (sym (no_less (v.registers q) low))

      go : (relation : Relation) → brief relation ≡ Some told → related relation (Some x) (Some (Number (pos 0)))
          ≡ Some holds → holds_view v told ≡ holds
      go Equal is e = let z : on.Equal ≡ told = cc is in ap (holds_view v) (sym z) ∙ same ∙ by_difference Equal e
      go NotEqual is e = let z : on.NotEqual ≡ told = cc is in ap (holds_view v) (sym z) ∙ ap not same
          ∙ by_difference NotEqual e
      go Less is e = let z : on.Minus ≡ told = cc is in ap (holds_view v) (sym z) ∙ below x good value e
        where
          below : (x : Value) → IsValue c p x → v.registers q ≡ ctx.word c p x → related Less (Some x)
              (Some (Number (pos 0))) ≡ Some holds → v.negative ≡ holds
          below (Number n) good value e = let h : int_lt n (pos 0) ≡ holds = cc e in minus
              ∙ ap (nat_le SIGN_BIT) value ∙ minus_word n good ∙ h
          below (Address block offset) good value e = absurd (cc e)
          below (Routine r) good value e = absurd (cc e)
      go GreaterEqual is e = let z : on.Plus ≡ told = cc is in ap (holds_view v) (sym z) ∙ above x good value e
        where
          above : (x : Value) → IsValue c p x → v.registers q ≡ ctx.word c p x → related GreaterEqual (Some x)
              (Some (Number (pos 0))) ≡ Some holds → not v.negative ≡ holds
          above (Number n) good value e = let h : not (int_lt n (pos 0)) ≡ holds = cc e in ap not
              (minus ∙ ap (nat_le SIGN_BIT) value ∙ minus_word n good) ∙ h
          above (Address block offset) good value e = absurd (cc e)
          above (Routine r) good value e = absurd (cc e)
      go LessEqual is e = absurd (cc is)
      go Greater is e = absurd (cc is)

  -- where a branch is by those flags, they show its relation
  pub brief_flag : (relation : Relation) (a : ℕ) (o : Operand) (holds : Bool) (told : Condition) → cond
      (form.is_flagged c s.current.routine (flagged_at c s.current.routine s.current.place) a && is_null o)
      (brief relation) None ≡ Some told → reads c s.current.routine s.current.place a ≡ true → related relation
      (s.current.temporaries a) (operand_value s.current.temporaries o) ≡ Some holds → holds_view v told ≡ holds
  brief_flag relation a o holds told is ra e =
      let r = s.current.routine in
      let k = chosen (form.is_flagged c r (flagged_at c r s.current.place) a) (is_null o) (brief relation) is in
      let stood = told_stands a k.0 in
      let q = stood.0 in
      let xs = both_there relation (s.current.temporaries a) (operand_value s.current.temporaries o) holds e in
      let x = xs.first in
      let null = null_is o k.1 in
      let e' : related relation (Some x) (Some (Number (pos 0))) ≡ Some holds = ap (related relation (Some x))
      (sym null) ∙ ap (λ z. related relation z (operand_value s.current.temporaries o)) (sym xs.is) ∙ e in
      let there = stands_in c words b p s f m v sh be a x ra xs.is in
      let value : v.registers q ≡ ctx.word c p x = ap (value_of c r f (machine_of v)) (sym stood.1) ∙ there.1 in
      let lt = b.placed.register r a q stood.1 in
      told_flags relation told x holds q k.2 there.0 value (sh.narrow q (omega (arith, lt))) stood.2 stood.3 e'
    where
      chosen : (t u : Bool) (w : Option Condition) → cond (t && u) w None ≡ Some told → (t ≡ true) × (u ≡ true)
          × (w ≡ Some told)
      chosen true true w is = (refl, refl, is)
      chosen true false w is = absurd (cc is)
      chosen false u w is = absurd (cc is)

      null_is : (o : Operand) → is_null o ≡ true → operand_value s.current.temporaries o ≡ Some (Number (pos 0))
      null_is (operand.Temporary t) e = absurd (cc e)
      null_is (operand.Number (pos zero)) e = refl
      null_is (operand.Number (pos (suc n))) e = absurd (cc e)
      null_is (operand.Number (negsuc n)) e = absurd (cc e)

  -- a branch goes to its target where the relation holds, and else on
  branch_follows : (i : Instruction) (relation : Relation) (a : ℕ) (o : Operand) (k' temporaries : ℕ) (holds : Bool)
      → Passes c s.current.routine s.current.place k' → Passes c s.current.routine s.current.place (suc s.current.place)
      → c.site s.current.routine k' ≤ MAX_COUNT → IsOperand temporaries o → reads c s.current.routine s.current.place a
      ≡ true → ((t : ℕ) → is_among t (in_operand o) ≡ true → reads c s.current.routine s.current.place t ≡ true)
      → related relation (s.current.temporaries a) (operand_value s.current.temporaries o) ≡ Some holds
      → Left c words v.place (form.branch_form c s.current.routine
      (flagged_at c s.current.routine s.current.place) relation a o (AtPlace s.current.routine k'))
      (c.site s.current.routine (suc s.current.place)) → Comes c words s
      (record s { current = record s.current { place = cond holds k' (suc s.current.place) } }) m
  branch_follows i relation a o k' temporaries holds there next low so ra ro e l = by
      (cond (form.is_flagged c s.current.routine (flagged_at c s.current.routine s.current.place) a && is_null o)
      (brief relation) None) refl l
    where
      brief_goes : (told : Condition) (h : Bool) → holds_view v told ≡ h → Left c words v.place
          (Goes told (AtPlace s.current.routine k') ∷ []) (c.site s.current.routine (suc s.current.place))
          → Comes c words s (record s { current = record s.current { place = cond h k' (suc s.current.place) } }) m
      brief_goes told true flag l =
          let r = s.current.routine in
          let s' = record s { current = record s.current { place = k' } } in
          let t1 = goes_run c words b told (AtPlace r k') [] _ m v sh l flag low in
          let v1 = at_view (c.site r k') v in
          come_to c words b s s' m same_tape v1 t1 refl
          (goes_end c words b p s (machine_of v) f k' t1.to v1 be.related be.input there t1.shows (record {
            registers = λ q n12 n15. refl;
            words = λ x. refl;
          }) refl)
      brief_goes told false flag l =
          let r = s.current.routine in
          let s' = record s { current = record s.current { place = suc s.current.place } } in
          let t1 = goes_not c words b told (AtPlace r k') [] _ m v sh l flag in
          let v1 = at_view (v.place + 1) v in
          come_to c words b s s' m same_tape v1 t1 refl
          (goes_end c words b p s (machine_of v) f (suc s.current.place) t1.to v1 be.related be.input next t1.shows
          (record {
            registers = λ q n12 n15. refl;
            words = λ x. refl;
          }) (sym l.ends))

      go : (h : Bool) → Told relation a o h (Goes (condition relation) (AtPlace s.current.routine k') ∷ [])
          (c.site s.current.routine (suc s.current.place)) → Comes c words s
          (record s { current = record s.current { place = cond h k' (suc s.current.place) } }) m
      go true d =
          let r = s.current.routine in
          let s' = record s { current = record s.current { place = k' } } in
          let t2 = goes_run c words b (condition relation)
          (AtPlace r k') [] _ d.way.to d.view d.way.shows d.left d.flag low in
          let v2 = at_view (c.site r k') d.view in
          come_way c words b s s' m d.view d.way (come_to c words b s s' d.way.to same_tape v2 t2 refl
          (goes_end c words b p s (machine_of v) f k' t2.to v2 be.related be.input there t2.shows (record {
            registers = d.near.registers;
            words = d.near.words;
          }) refl))
      go false d =
          let r = s.current.routine in
          let s' = record s { current = record s.current { place = suc s.current.place } } in
          let t2 = goes_not c words b (condition relation) (AtPlace r k') [] _ d.way.to d.view d.way.shows d.left d.flag
          in
          let v2 = at_view (d.view.place + 1) d.view in
          come_way c words b s s' m d.view d.way (come_to c words b s s' d.way.to same_tape v2 t2 refl
          (goes_end c words b p s (machine_of v) f (suc s.current.place) t2.to v2 be.related be.input next t2.shows
          (record {
            registers = d.near.registers;
            words = d.near.words;
          }) (sym d.left.ends)))

      by : (q : Option Condition) → cond (form.is_flagged c s.current.routine
          (flagged_at c s.current.routine s.current.place) a && is_null o) (brief relation) None ≡ q
          → Left c words v.place (form.branch_by c s.current.routine q relation a o (AtPlace s.current.routine k'))
          (c.site s.current.routine (suc s.current.place)) → Comes c words s
          (record s { current = record s.current { place = cond holds k' (suc s.current.place) } }) m
      by (Some told) is l = brief_goes told holds (brief_flag relation a o holds told is ra e) l
      by None is l = go holds (told_run relation a o holds
          (Goes (condition relation) (AtPlace s.current.routine k') ∷ []) _ temporaries so ra ro e l)

  pub forward_branch_follows : (relation : Relation) (a : ℕ) (o : Operand) (n : ℕ) (holds : Bool)
      → fetch c.code s.current.routine s.current.place ≡ Some (Branch relation a o n) → related relation
      (s.current.temporaries a) (operand_value s.current.temporaries o) ≡ Some holds → Comes c words s
      (record s { current = record s.current { place = cond holds (suc s.current.place + n) (suc s.current.place) } }) m
  forward_branch_follows relation a o n holds here e =
      let r = s.current.routine in
      let k = s.current.place in
      let i = Branch relation a o n in
      let so = fetched_is c words b r k i here in
      branch_follows i relation a o (suc k + n) _ holds
      (passes c r k i here (suc k + n) refl (among_rest (suc k + n) (suc k) ((suc k + n) ∷ [])
      (among_first (suc k + n) []))) (passes c r k i here (suc k) refl (among_first (suc k) ((suc k + n) ∷ [])))
      (b.stood.within r (suc k + n) so.routine so.is so.sound.2) so.sound.1
      (is_read c r k i here a (among_first a (in_operand o)))
      (λ t et. is_read c r k i here t (among_rest t a (in_operand o) et)) e (code c words b p s f m v sh be i here)

  pub back_branch_follows : (relation : Relation) (a : ℕ) (o : Operand) (n : ℕ) (holds : Bool)
      → fetch c.code s.current.routine s.current.place ≡ Some (BranchBack relation a o n) → related relation
      (s.current.temporaries a) (operand_value s.current.temporaries o) ≡ Some holds → Comes c words s
      (record s { current = record s.current { place = cond holds (s.current.place - n) (suc s.current.place) } }) m
  back_branch_follows relation a o n holds here e =
      let r = s.current.routine in
      let k = s.current.place in
      let i = BranchBack relation a o n in
      let so = fetched_is c words b r k i here in
      let lt = slice_get_within so.routine.body k i so.body in
      branch_follows i relation a o (k - n) _ holds
      (passes c r k i here (k - n) refl (among_rest (k - n) (suc k) ((k - n) ∷ []) (among_first (k - n) [])))
      (passes c r k i here (suc k) refl (among_first (suc k) ((k - n) ∷ [])))
      (b.stood.within r (k - n) so.routine so.is (omega (arith, lt))) so.sound.1
      (is_read c r k i here a (among_first a (in_operand o)))
      (λ t et. is_read c r k i here t (among_rest t a (in_operand o) et)) e (code c words b p s f m v sh be i here)
