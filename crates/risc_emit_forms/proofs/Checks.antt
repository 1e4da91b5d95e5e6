-- Ranges and pointers checked by their words.
use Rattle.std.proofs.Common.{◌≡◌, ◌≢◌, ℕ, suc, ◌+◌, ◌<◌, Bool, true, false, cond, not, nat_eq, List, [], ◌∷◌}
use Rattle.std.proofs.Common.{◌++◌, Option, Some, None, ℤ, pos, refl, sym, ap, ◌∙◌, arith}
use Rattle.risc_word.specs.declared.instr.Operand.TheVariants as instr_operand
use Rattle.risc_word.specs.declared.instr.Condition.TheVariants as on
use Rattle.risc_word.specs.declared.instr.Instr.TheVariants as word
use Rattle.risc_machine.specs.Step as machine
use Rattle.risc_machine_laws.specs.View.{View, Shows, after, at_view}
use Rattle.risc_machine_laws.specs.Runs.{same_tape}
use Rattle.tac_code.specs.declared.code.Value.{Value}
use Rattle.tac_code.specs.declared.code.Value.TheVariants.{Number}
use Rattle.tac_code.specs.declared.code.Instruction.TheVariants.{CheckRange, CheckPointer}
use Rattle.tac_code.specs.Numbers.{is_in_range}
use Rattle.tac_code.specs.Meaning.{fetch, State, checks, onward, pointer_of, is_nil}
use Rattle.risc_emit_relation.specs.Context.{Context, home, Places, Passes}
use Rattle.risc_emit_relation.specs.Context as ctx
use Rattle.risc_emit_relation.specs.Related.{value_of}
use Rattle.risc_emit_relation.specs.Changes.{Near}
use Rattle.risc_emit_relation.proofs.Basics.{update_other}
use Rattle.risc_emit_forms.specs.Pieces as piece
use Rattle.risc_emit_forms.specs.Pieces.{Left}
use Rattle.risc_emit_forms.specs.Peephole.{flagged_at}
use Rattle.risc_emit_forms.specs.Forms as form
use Rattle.risc_emit_forms.specs.Forms.{fetched, bring, idle, range_code}
use Rattle.risc_emit_forms.specs.Follows.{machine_of, Built, Belongs, Follows}
use Rattle.risc_emit_forms.proofs.Basics.{left_after, is_read, passes, among_first, integer_is}
use Rattle.risc_emit_forms.proofs.Runs.{step_to}
use Rattle.risc_emit_forms.proofs.Fetches.{fetched_not}
use Rattle.risc_emit_forms.proofs.Comes.{framed, fails_not, test_walked, untested}
use Rattle.risc_emit_forms.proofs.Joins.{left_whole, fetched_is, come_to}
use Rattle.risc_emit_forms.proofs.Comes.{walk_near, goes_end}
use Rattle.risc_emit_forms.proofs.Operands.{code, stands_in, one_run, brought_run}
use Rattle.risc_emit_forms.proofs.Branches.{told_stands}
use Rattle.risc_emit_forms.proofs.Compares.{pointer_word, points, object_high}
use Rattle.risc_emit_forms.proofs.Calls.{follows_way, follows_to}
use Rattle.risc_emit_forms.proofs.Ranges.{Checked, range_run}

module _ (c : Context) (words : List ℕ) (b : Built c words) (p : Places) (s : State) (f : ℕ) (m : machine.State)
    (v : View) (sh : Shows words c.size m v) (be : Belongs c words p s v f) where
  -- the run goes on where a check was passed
  goes_behind : (a : ℕ) (low x : ℤ) (error line : ℕ) (inside : Bool) (v1 : View) (n : machine.State) → Near
      (machine_of v) (machine_of v1) → Passes c s.current.routine s.current.place (suc s.current.place)
      → Checked c words b p s f (machine_of v) be.related a low x error line []
      (c.site s.current.routine (suc s.current.place)) inside n v1 → (t : Bool) → inside ≡ t → Follows c words
      (checks c.code t error line s) s n
  goes_behind a low x error line inside v1 n near ps k true e =
      let g = k.goes e in
      come_to c words b s (record s { current = onward s.current }) n same_tape g.0 g.1 refl
      (goes_end c words b p s (machine_of v) f (suc s.current.place) g.1.to g.0 be.related be.input ps g.1.shows
      (record {
        registers = λ q n12 n15. g.2.registers q n12 n15 ∙ near.registers q n12 n15;
        words = λ x. g.2.words x ∙ near.words x;
      }) (at_end g.0.place g.4))
    where
      at_end : (w : ℕ) → Left c words w [] (c.site s.current.routine (suc s.current.place)) → w
          ≡ c.site s.current.routine (suc s.current.place)
      at_end w l = let e = l.ends in omega (arith, e)
  goes_behind a low x error line inside v1 n near ps k false e = k.stops e

  -- a check that is not made, with a word that does nothing
  idle_follows : (error line : ℕ) (inside : Bool) → nat_eq error 0 ≡ true → Passes c s.current.routine s.current.place
      (suc s.current.place) → Left c words v.place (idle ∷ []) (c.site s.current.routine (suc s.current.place))
      → Follows c words (checks c.code inside error line s) s m
  idle_follows error line true e ps l =
      let i = word.Move 15 (instr_operand.Constant (pos 0)) in
      let t1 = step_to c words b.stood i m v sh l.stands.0 tt in
      let v1 = after i v in
      let ends = l.ends in
      come_to c words b s (record s { current = onward s.current }) m same_tape v1 t1 refl
      (goes_end c words b p s (machine_of v) f (suc s.current.place) t1.to v1 be.related be.input ps t1.shows
      (record {
        registers = λ q n12 n15. update_other v.registers 15 _ q n15;
        words = λ y. refl;
      }) (sym ends))
  idle_follows error line false e ps l = untested c words b s error line m e

  pub check_range_follows : (a : ℕ) (low high : ℤ) (error line : ℕ) (x : ℤ)
      → fetch c.code s.current.routine s.current.place ≡ Some (CheckRange a low high error line)
      → s.current.temporaries a ≡ Some (Number x) → Follows c words
      (checks c.code (is_in_range low high x) error line s) s m
  check_range_follows a low high error line x here ea = go (nat_eq error 0) refl
      (code c words b p s f m v sh be (CheckRange a low high error line) here)
    where
      go : (none : Bool) → nat_eq error 0 ≡ none → Left c words v.place
          (cond none (idle ∷ []) (form.fetch c s.current.routine 12 (home c s.current.routine a) ++ range_code c
          s.current.routine (fetched c s.current.routine 12 (home c s.current.routine a)) low high error line))
          (c.site s.current.routine (suc s.current.place)) → Follows c words
          (checks c.code (is_in_range low high x) error line s) s m
      go true e l = idle_follows error line (is_in_range low high x) e
          (passes c s.current.routine s.current.place (CheckRange a low high error line) here (suc s.current.place) refl
          (among_first (suc s.current.place) [])) l
      go false e l =
          let r = s.current.routine in
          let k = s.current.place in
          let i = CheckRange a low high error line in
          let so = fetched_is c words b r k i here in
          let fa = form.fetch c r 12 (home c r a) in
          let d = fetched c r 12 (home c r a) in
          let rc = range_code c r d low high error line in
          let g = one_run c words b p s f m v sh be 12 a (Number x) rc _ (omega arith)
          (is_read c r k i here a (among_first a [])) ea l in
          let v1 = g.view in
          let l1 = left_after c words v.place v1.place _ fa rc l g.place in
          let near : Near (machine_of v) (machine_of v1) = record {
            registers = λ q n12 n15. g.moved.registers q n12;
            words = g.moved.words;
          } in
          let n15 = fetched_not c words b.stood b.laid b.placed r f
          (framed c words b p s (machine_of v) f be.related) 12 a 15 (omega arith) (omega arith) in
          let z = range_run c words b p s f (machine_of v) be.related d low high x error line [] _ g.way.to v1
          g.way.shows n15 near (integer_is low so.sound.1) (integer_is high so.sound.2) g.good g.value
          (left_whole c words v1.place _ rc l1) in
          follows_way c words b s m v1 g.way (checks c.code (is_in_range low high x) error line s)
          (goes_behind d low x error line (is_in_range low high x) v1 g.way.to near
          (passes c r k i here (suc k) refl (among_first (suc k) [])) z (is_in_range low high x) refl)

  pub check_pointer_follows : (a error line : ℕ) (x : Value) (q : Option ℕ)
      → fetch c.code s.current.routine s.current.place ≡ Some (CheckPointer a error line) → s.current.temporaries a
      ≡ Some x → pointer_of (Some x) ≡ Some q → Follows c words (checks c.code (not (is_nil q)) error line s) s m
  check_pointer_follows a error line x q here ea eq = number (nat_eq error 0) refl
      (code c words b p s f m v sh be (CheckPointer a error line) here)
    where
      nil_word : (q : Option ℕ) → ((n : ℕ) → q ≡ Some n → n < p.objects) → nat_eq
          (pointer_word c b.laid p s v.words f be.related.held q) 0 ≡ is_nil q
      nil_word None named = refl
      nil_word (Some n) named = no _ _ (let h = object_high c b.laid p s v.words f be.related.held n (named n refl)
          in omega (arith, h))
        where
          no : (x y : ℕ) → x ≢ y → nat_eq x y ≡ false
          no x y ne = grind arith

      go : (v1 : View) (n : machine.State) → Shows words c.size n v1 → Near (machine_of v) (machine_of v1)
          → Left c words v1.place (piece.Fails on.Equal error line ∷ [])
          (c.site s.current.routine (suc s.current.place)) → v1.equal ≡ is_nil q → (t : Bool) → is_nil q ≡ t
          → Follows c words (checks c.code (not t) error line s) s n
      go v1 n sh1 near l1 nil true e =
          test_walked c words b s on.Equal error line [] _ n v1
          (walk_near c words b p s (machine_of v) f v1 be.related
          (near.registers 14 (omega arith) (omega arith)) near.words) sh1 l1 (nil ∙ e)
      go v1 n sh1 near l1 nil false e =
          let t2 = fails_not c words b on.Equal error line [] _ n v1 sh1 l1 (nil ∙ e) in
          let v2 = at_view (v1.place + 1) v1 in
          let ends = l1.ends in
          come_to c words b s (record s { current = onward s.current }) n same_tape v2 t2 refl
          (goes_end c words b p s (machine_of v) f (suc s.current.place) t2.to v2 be.related be.input
          (passes c s.current.routine s.current.place (CheckPointer a error line) here (suc s.current.place) refl
          (among_first (suc s.current.place) [])) t2.shows near (sym ends))

      by : (told : Bool) → form.is_flagged c s.current.routine (flagged_at c s.current.routine s.current.place) a ≡ told
          → Left c words v.place (cond told (piece.Fails on.Equal error line ∷ [])
          (bring c s.current.routine 12 (home c s.current.routine a) ++ piece.Fails on.Equal error line ∷ []))
          (c.site s.current.routine (suc s.current.place)) → Follows c words
          (checks c.code (not (is_nil q)) error line s) s m
      by true told l =
          let r = s.current.routine in
          let there = stands_in c words b p s f m v sh be a x
          (is_read c r s.current.place (CheckPointer a error line) here a (among_first a [])) ea in
          let stood = told_stands c words b p s f m v sh be a told in
          let value : v.registers stood.0 ≡ ctx.word c p x = ap (value_of c r f (machine_of v)) (sym stood.1) ∙ there.1
          in
          let pt = points c b.laid p s v.words f be.related.held x q there.0 eq in
          let nil : v.equal ≡ is_nil q = stood.2 ∙ ap (λ y. nat_eq y 0) (value ∙ pt.is) ∙ nil_word q pt.named in
          go v m sh (record { registers = λ y n12 n15. refl; words = λ y. refl }) l nil (is_nil q) refl
      by false told l =
          let r = s.current.routine in
          let rest = piece.Fails on.Equal error line ∷ [] in
          let g = brought_run c words b p s f m v sh be 12 a x rest _ (omega arith)
          (is_read c r s.current.place (CheckPointer a error line) here a (among_first a [])) ea l in
          let v1 = g.view in
          let l1 = left_after c words v.place v1.place _ (bring c r 12 (home c r a)) rest l g.place in
          let near : Near (machine_of v) (machine_of v1) = record {
            registers = λ y n12 n15. g.moved.registers y n12;
            words = g.moved.words;
          } in
          let pt = points c b.laid p s v.words f be.related.held x q g.good eq in
          let nil : v1.equal ≡ is_nil q = g.zero ∙ ap (λ y. nat_eq y 0) pt.is ∙ nil_word q pt.named in
          follows_to c words b s m v1 g.to (checks c.code (not (is_nil q)) error line s)
          (go v1 g.to.to g.to.shows near l1 nil (is_nil q) refl)

      number : (none : Bool) → nat_eq error 0 ≡ none → Left c words v.place
          (cond none (idle ∷ []) (cond (form.is_flagged c s.current.routine
          (flagged_at c s.current.routine s.current.place) a) (piece.Fails on.Equal error line ∷ [])
          (bring c s.current.routine 12 (home c s.current.routine a) ++ piece.Fails on.Equal error line ∷ [])))
          (c.site s.current.routine (suc s.current.place)) → Follows c words
          (checks c.code (not (is_nil q)) error line s) s m
      number true e l = idle_follows error line (not (is_nil q)) e
          (passes c s.current.routine s.current.place (CheckPointer a error line) here (suc s.current.place) refl
          (among_first (suc s.current.place) [])) l
      number false e l = by (form.is_flagged c s.current.routine (flagged_at c s.current.routine s.current.place) a)
          refl l
