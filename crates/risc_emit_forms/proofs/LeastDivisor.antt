-- The quotient by the least integer.
use Rattle.std.proofs.Common.{◌≡◌, ◌≢◌, ℕ, suc, ◌+◌, ◌-◌, ◌/◌, ◌<◌, ◌≤◌, ◌⊎◌, inl, inr, Bool, true, false, cond, nat_eq}
use Rattle.std.proofs.Common.{List, [], ◌∷◌, ◌++◌, Some, ℤ, pos, negsuc, refl, sym, ap, ◌∙◌, subst, arith, append_assoc}
use Rattle.std.specs.Prelude.{int_div, neg_ℤ}
use Rattle.std.proofs.lemmas.Int.{ints}
use Rattle.std.proofs.lemmas.Bool.{cases_eq}
use Rattle.risc_word.specs.declared.instr.Operation.TheVariants as op
use Rattle.risc_word.specs.declared.instr.Operand.TheVariants.{Content, Constant}
use Rattle.risc_word.specs.declared.instr.Condition.TheVariants as on
use Rattle.risc_word.specs.declared.instr.Instr.TheVariants as word
use Rattle.risc_machine.specs.Step as machine
use Rattle.risc_machine_laws.specs.View.{View, Shows, after, at_view}
use Rattle.risc_machine_laws.specs.Runs.{To, Way, same_tape}
use Rattle.risc_machine_laws.proofs.Runs.{to_join}
use Rattle.tac_code.specs.declared.code.Value.TheVariants.{Number}
use Rattle.tac_code.specs.Numbers.{same_number, word_of}
use Rattle.tac_code.specs.Meaning.{State}
use Rattle.tac_code.specs.declared.code.TheConstants.{NUMBER_LIMIT}
use Rattle.risc_emit_relation.specs.Context.{Context, home, reads, Places, IsNumber}
use Rattle.risc_emit_relation.specs.Changes.{Near}
use Rattle.risc_emit_relation.proofs.Basics.{update_other}
use Rattle.risc_emit_relation.proofs.Steps.{value_near}
use Rattle.risc_emit_forms.specs.Pieces.{Piece, Plain, Left}
use Rattle.risc_emit_forms.specs.Forms as form
use Rattle.risc_emit_forms.specs.Forms.{fetched, skip, quotient_by_least}
use Rattle.risc_emit_forms.specs.Follows.{machine_of, Built, Belongs}
use Rattle.risc_emit_forms.proofs.Basics.{left_after, left_next, left_at}
use Rattle.risc_emit_forms.proofs.Runs.{step_to}
use Rattle.risc_emit_forms.proofs.Fetches.{fetch_run}
use Rattle.risc_emit_forms.proofs.Comes.{framed, skip_run, skip_not}
use Rattle.risc_emit_forms.proofs.Operands.{stands_in}
use Rattle.risc_emit_forms.proofs.Compares.{differs}
use Rattle.risc_emit_forms.proofs.DivideRuns.{Made}

module _ (c : Context) (words : List ℕ) (b : Built c words) (p : Places) (s : State) (f : ℕ) (m : machine.State)
    (v : View) (sh : Shows words c.size m v) (be : Belongs c words p s v f) where
  -- ---- by the least integer

  pub least_quotient : (x : ℤ) → IsNumber x → int_div x (neg_ℤ (pos NUMBER_LIMIT)) ≡ pos
      (cond (same_number x (neg_ℤ (pos NUMBER_LIMIT))) 1 0)
  least_quotient (pos m) is = ap (λ k. neg_ℤ (pos k)) (none m (omega (arith, ints, is)))
    where
      none : (m : ℕ) → m < NUMBER_LIMIT → m / NUMBER_LIMIT ≡ 0
      none m lt = omega (arith, lt)
  least_quotient (negsuc m) is = go (cases_eq m (NUMBER_LIMIT - 1))
    where
      yes : (n m : ℕ) → n ≡ m → nat_eq n m ≡ true
      yes n m e = grind arith

      no : (n m : ℕ) → n ≢ m → nat_eq n m ≡ false
      no n m ne = grind arith

      one : (m : ℕ) → m ≡ NUMBER_LIMIT - 1 → suc m / NUMBER_LIMIT ≡ 1
      one m e = omega (arith, e)

      none : (m : ℕ) → m ≢ NUMBER_LIMIT - 1 → m ≤ NUMBER_LIMIT - 1 → suc m / NUMBER_LIMIT ≡ 0
      none m ne le = omega (arith, ne, le)

      go : (m ≡ NUMBER_LIMIT - 1) ⊎ (m ≢ NUMBER_LIMIT - 1) → int_div (negsuc m) (neg_ℤ (pos NUMBER_LIMIT)) ≡ pos
          (cond (nat_eq m (NUMBER_LIMIT - 1)) 1 0)
      go (inl e) = ap pos (one m e) ∙ ap (λ t. pos (cond t 1 0)) (sym (yes m (NUMBER_LIMIT - 1) e))
      go (inr ne) =
          ap pos (none m ne (omega (arith, ints, is))) ∙ ap (λ t. pos (cond t 1 0)) (sym (no m (NUMBER_LIMIT - 1) ne))

  least_is : IsNumber (neg_ℤ (pos NUMBER_LIMIT))
  least_is = (omega (arith, ints), omega (arith, ints))

  pub least_run : (a : ℕ) (x : ℤ) (ps : List Piece) (next : ℕ) (n : machine.State) (w : View) → Shows words c.size n w
      → Near (machine_of v) (machine_of w) → reads c s.current.routine s.current.place a ≡ true
      → s.current.temporaries a ≡ Some (Number x) → w.registers 15 ≡ word_of (neg_ℤ (pos NUMBER_LIMIT)) →
      Left c words w.place
      (quotient_by_least c s.current.routine a ++ ps) next → Made c words b p s f m v sh be
      (int_div x (neg_ℤ (pos NUMBER_LIMIT))) ps next n
  least_run a x ps next n w sh1 near ra ea e15 l =
      let r = s.current.routine in
      let fr = framed c words b p s (machine_of v) f be.related in
      let fa = form.fetch c r 12 (home c r a) in
      let d = fetched c r 12 (home c r a) in
      let i = word.Operate op.Sub 12 d (Content 15) in
      let j0 = word.Move 12 (Constant (pos 0)) in
      let j1 = word.Move 12 (Constant (pos 1)) in
      let rest = skip on.Equal 2 ∷ Plain j0 ∷ skip on.Always 1 ∷ Plain j1 ∷ ps in
      let l0 = subst (λ q. Left c words w.place q next)
      (append_assoc fa (Plain i ∷ skip on.Equal 2 ∷ Plain j0 ∷ skip on.Always 1 ∷ Plain j1 ∷ []) ps) l in
      let e14 : w.registers 14 ≡ f = near.registers 14 (omega arith) (omega arith) ∙ be.related.stack in
      let g = fetch_run c words b.stood b.laid b.placed r f fr 12 a (Plain i ∷ rest) next n w sh1 (omega arith) e14 l0
      in
      let v1 = g.view in
      let l1 = left_after c words w.place v1.place next fa (Plain i ∷ rest) l0 g.place in
      let k = stands_in c words b p s f m v sh be a (Number x) ra ea in
      let e1 : v1.registers d ≡ word_of x = g.value ∙ value_near c b.laid b.placed p r f (machine_of v) (machine_of w)
      (home c r a) (λ q is. b.placed.register r a q is) near ∙ k.1 in
      let e2 : v1.registers 15 ≡ word_of (neg_ℤ (pos NUMBER_LIMIT)) = g.moved.registers 15 (omega arith) ∙ e15 in
      let t2 = step_to c words b.stood i g.way.to v1 g.way.shows l1.stands.0 tt in
      let v2 = after i v1 in
      let df = differs 12 d (Content 15) x (neg_ℤ (pos NUMBER_LIMIT)) v1 k.0 least_is e1 e2 in
      let near2 : Near (machine_of v) (machine_of v2) = record {
        registers = λ z n12 n15. update_other v1.registers 12 _ z n12 ∙ g.moved.registers z n12
            ∙ near.registers z n12 n15;
        words = λ z. g.moved.words z ∙ near.words z;
      } in
      let made = ends t2.to v2 t2.shows near2 (left_next c words v1.place next (Plain i) rest l1)
      (same_number x (neg_ℤ (pos NUMBER_LIMIT))) df.equal in
      way_made g.way t2 made (sym (least_quotient x k.0))
    where
      way_made : {n : machine.State} {v1 v2 : View} (g : Way words c.size n same_tape v1)
          (t : To words c.size g.to same_tape v2) → Made c words b p s f m v sh be
          (pos (cond (same_number x (neg_ℤ (pos NUMBER_LIMIT))) 1 0)) ps next t.to → pos
          (cond (same_number x (neg_ℤ (pos NUMBER_LIMIT))) 1 0) ≡ int_div x (neg_ℤ (pos NUMBER_LIMIT))
          → Made c words b p s f m v sh be
          (int_div x (neg_ℤ (pos NUMBER_LIMIT))) ps next n
      way_made g t z e =
          record {
            view = z.view;
            to = record {
              to = z.to.to;
              shows = z.to.shows;
              runs = λ k q. let o = z.to.runs k q in let x = t.runs o.0 q in let y = g.runs x.0 q
                  in (y.0, omega (arith, o.1, x.1, y.1), y.2 ∙ x.2 ∙ o.2);
            };
            value = z.value ∙ ap word_of e;
            near = z.near;
            left = z.left;
          }

      ends : (n : machine.State) (w : View) → Shows words c.size n w → Near (machine_of v) (machine_of w)
          → Left c words w.place (skip on.Equal 2 ∷ Plain (word.Move 12 (Constant (pos 0))) ∷ skip on.Always 1 ∷ Plain
          (word.Move 12 (Constant (pos 1))) ∷ ps) next → (q : Bool) → w.equal ≡ q → Made c words b p s f m v sh be
          (pos (cond q 1 0)) ps next n
      ends n w sh1 near l true e =
          let t1 = skip_run c words b on.Equal 2 _ next n w sh1 l e (omega arith) in
          let w1 = at_view (w.place + 1 + 2) w in
          let l3 = left_next c words (w.place + 1 + 1) next _ _
          (left_next c words (w.place + 1) next _ _ (left_next c words w.place next _ _ l)) in
          let l3' = left_at c words _ w1.place next _ l3 (omega arith) in
          let i = word.Move 12 (Constant (pos 1)) in
          let t2 = step_to c words b.stood i t1.to w1 t1.shows l3'.stands.0 tt in
          let w2 = after i w1 in
          record {
            view = w2;
            to = to_join words c.size n same_tape same_tape w1 w2 t1 t2;
            value = refl;
            near = record {
              registers = λ z n12 n15. update_other w1.registers 12 _ z n12 ∙ near.registers z n12 n15;
              words = near.words;
            };
            left = left_next c words w1.place next _ ps l3';
          }
      ends n w sh1 near l false e =
          let t1 = skip_not c words b on.Equal 2 _ next n w sh1 l e in
          let w1 = at_view (w.place + 1) w in
          let l1 = left_next c words w.place next _ _ l in
          let i = word.Move 12 (Constant (pos 0)) in
          let t2 = step_to c words b.stood i t1.to w1 t1.shows l1.stands.0 tt in
          let w2 = after i w1 in
          let l2 = left_next c words w1.place next _ _ l1 in
          let t3 = skip_run c words b on.Always 1 _ next t2.to w2 t2.shows l2 refl (omega arith) in
          let w3 = at_view (w2.place + 1 + 1) w2 in
          record {
            view = w3;
            to = to_join words c.size n same_tape same_tape w1 w3 t1
                (to_join words c.size t1.to same_tape same_tape w2 w3 t2 t3);
            value = refl;
            near = record {
              registers = λ z n12 n15. update_other w1.registers 12 _ z n12 ∙ near.registers z n12 n15;
              words = near.words;
            };
            left = left_next c words (w2.place + 1) next _ ps (left_next c words w2.place next _ _ l2);
          }
