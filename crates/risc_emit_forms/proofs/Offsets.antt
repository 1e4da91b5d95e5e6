-- Addresses made of a base and an offset.
use Rattle.std.proofs.Common.{◌≡◌, ℕ, suc, ◌+◌, ◌%◌, ◌^◌, ◌<◌, Bool, true, false, cond, nat_lt, List, [], ◌∷◌, ◌++◌}
use Rattle.std.proofs.Common.{Some, pos, refl, ◌∙◌, subst, arith, append_assoc}
use Rattle.std.proofs.lemmas.Int.{ints}
use Rattle.risc_word.specs.declared.instr.Operation.TheVariants as op
use Rattle.risc_word.specs.declared.instr.Operand.TheVariants as instr
use Rattle.risc_word.specs.declared.instr.Instr.TheVariants as word
use Rattle.risc_machine.specs.Step as machine
use Rattle.risc_machine.specs.Step.{word_of_int}
use Rattle.risc_machine.specs.declared.limits.TheConstants.{ADDRESSES}
use Rattle.risc_machine_laws.specs.View.{View, Shows, after}
use Rattle.risc_machine_laws.specs.Runs.{same_tape}
use Rattle.tac_code.specs.declared.code.Block.{Block}
use Rattle.tac_code.specs.declared.code.Block.TheVariants as blocks
use Rattle.tac_code.specs.declared.code.Value.TheVariants.{Address}
use Rattle.tac_code.specs.declared.code.Base.{Base}
use Rattle.tac_code.specs.declared.code.Instruction.TheVariants.{Offset}
use Rattle.tac_code.specs.Meaning.{fetch, State, giving, base_value}
use Rattle.tac_code.specs.declared.code.TheConstants.{BLOCK_LIMIT}
use Rattle.risc_emit_relation.specs.Context.{Context, home, Places, place}
use Rattle.risc_emit_relation.proofs.Basics.{update_same, update_other}
use Rattle.risc_emit_forms.specs.Pieces.{Plain, Left}
use Rattle.risc_emit_forms.specs.Forms.{constant, target, save, base_code, base_register, base_offset}
use Rattle.risc_emit_forms.specs.Follows.{machine_of, Built, Belongs, Comes}
use Rattle.risc_emit_forms.proofs.Basics.{left_after, left_next, is_read, writes_it}
use Rattle.risc_emit_forms.proofs.Flags.{silent}
use Rattle.risc_emit_forms.proofs.Runs.{step_to, constant_run}
use Rattle.risc_emit_forms.proofs.Joins.{come_to, come_way, arrive_to}
use Rattle.risc_emit_forms.proofs.Comes.{gives_end}
use Rattle.risc_emit_forms.proofs.Operands.{code}
use Rattle.risc_emit_forms.proofs.Bases.{base_run}

module _ (c : Context) (words : List ℕ) (b : Built c words) (p : Places) (s : State) (f : ℕ) (m : machine.State)
    (v : View) (sh : Shows words c.size m v) (be : Belongs c words p s v f) where
  -- ---- addresses

  pub named_low : (block : Block) → place c p block < ADDRESSES
  named_low (blocks.Frame a) = be.related.held.places.frame a
  named_low (blocks.Scratch a) = be.related.held.places.scratch a
  named_low (blocks.Object n) = be.related.held.places.object n
  named_low (blocks.Constant r k) = let e = b.laid.constants r k in omega
      (arith, e, b.laid.order.1, b.laid.order.2, b.laid.order.3)

  pub offset_follows : (t : ℕ) (a : Base) (n extent : ℕ) (block : Block) (offset : ℕ)
      → fetch c.code s.current.routine s.current.place ≡ Some (Offset t a n extent) → base_value s.current a ≡ Some
      (Address block offset) → offset + n < BLOCK_LIMIT → Comes c words s
      (record s { current = giving t (Address block (offset + n)) s.current }) m
  offset_follows t a n extent block offset here ea lt = go (nat_lt (base_offset c s.current.routine a n) 65536)
      (code c words b p s f m v sh be (Offset t a n extent) here)
    where
      go : (small : Bool) → Left c words v.place
          ((base_code c s.current.routine a ++ cond small
          (Plain (word.Operate op.Add (target c s.current.routine (home c s.current.routine t))
          (base_register c s.current.routine a) (instr.Constant (pos (base_offset c s.current.routine a n)))) ∷ [])
          (constant 15 (base_offset c s.current.routine a n) ++ Plain
          (word.Operate op.Add (target c s.current.routine (home c s.current.routine t))
          (base_register c s.current.routine a) (instr.Content 15)) ∷ [])) ++ save c s.current.routine
          (home c s.current.routine t)) (c.site s.current.routine (suc s.current.place)) → Comes c words s
          (record s { current = giving t (Address block (offset + n)) s.current }) m
      go true l =
          let r = s.current.routine in
          let k = s.current.place in
          let h = home c r t in
          let q = base_register c r a in
          let o = base_offset c r a n in
          let i = word.Operate op.Add (target c r h) q (instr.Constant (pos o)) in
          let l0 = subst (λ x. Left c words v.place x (c.site r (suc k)))
          (append_assoc (base_code c r a) (Plain i ∷ []) (save c r h)) l in
          let g = base_run c words b p s f m v sh be a n block offset (Plain i ∷ save c r h) _
          (λ u e. is_read c r k (Offset t a n extent) here u e) ea l0 in
          let v1 = g.view in
          let l1 = left_after c words v.place v1.place _ (base_code c r a) (Plain i ∷ save c r h) l0 g.place in
          let t2 = step_to c words b.stood i g.way.to v1 g.way.shows l1.stands.0 tt in
          let v2 = after i v1 in
          let low = named_low block in
          let is : v2.registers (target c r h) ≡ place c p block + (offset + n) = update_same v1.registers
          (target c r h) _ ∙ sum (v1.registers q) o g.at low in
          let s' = record s { current = giving t (Address block (offset + n)) s.current } in
          come_way c words b s s' m v1 g.way (come_to c words b s s' g.way.to same_tape v2 t2 refl
          (gives_end c words b p s (machine_of v) f t (Address block (offset + n)) t2.to v2 be.related be.input
          (writes_it c r k (Offset t a n extent) here t refl refl) (silent c r k (Offset t a n extent) here refl)
          (g.good.0, lt) t2.shows (record {
            here = is;
            registers = λ x n12 n15 nd. update_other v1.registers (target c r h) _ x nd ∙ g.near.registers x n12 n15;
            words = g.near.words;
          }) (left_next c words v1.place _ _ (save c r h) l1)))
        where
          sum : (x o : ℕ) → x + o ≡ place c p block + offset + n → place c p block < ADDRESSES
              → (x + word_of_int (pos o) + 0) % 2 ^ 32 ≡ place c p block + (offset + n)
          sum x o e low = omega (arith, ints, lt)
      go false l =
          let r = s.current.routine in
          let k = s.current.place in
          let h = home c r t in
          let q = base_register c r a in
          let o = base_offset c r a n in
          let i = word.Operate op.Add (target c r h) q (instr.Content 15) in
          let l00 = subst (λ x. Left c words v.place x (c.site r (suc k)))
          (append_assoc (base_code c r a) (constant 15 o ++ Plain i ∷ []) (save c r h)) l in
          let l0 = subst (λ x. Left c words v.place (base_code c r a ++ x) (c.site r (suc k)))
          (append_assoc (constant 15 o) (Plain i ∷ []) (save c r h)) l00 in
          let g = base_run c words b p s f m v sh be a n block offset (constant 15 o ++ (Plain i ∷ save c r h)) _
          (λ u e. is_read c r k (Offset t a n extent) here u e) ea l0 in
          let v1 = g.view in
          let low = named_low block in
          let l1 = left_after c words v.place v1.place _ (base_code c r a)
          (constant 15 o ++ (Plain i ∷ save c r h)) l0 g.place in
          let z = constant_run c words b.stood 15 o (Plain i ∷ save c r h) _ g.way.to v1 g.way.shows
          (omega (arith, g.at, low, lt)) l1 in
          let v2 = z.view in
          let l2 = left_after c words v1.place v2.place _ (constant 15 o) (Plain i ∷ save c r h) l1 z.place in
          let t3 = step_to c words b.stood i z.to.to v2 z.to.shows l2.stands.0 tt in
          let v3 = after i v2 in
          let eq : v2.registers q ≡ v1.registers q = z.moved.registers q g.apart in
          let is : v3.registers (target c r h) ≡ place c p block + (offset + n) = update_same v2.registers
          (target c r h) _ ∙ sum (v2.registers q) (v2.registers 15) (v1.registers q) o eq z.value g.at low in
          let s' = record s { current = giving t (Address block (offset + n)) s.current } in
          come_way c words b s s' m v1 g.way (come_to c words b s s' g.way.to same_tape v2 z.to refl
          (arrive_to c words b s' z.to.to v3 t3 (gives_end c words b p s (machine_of v) f t
          (Address block (offset + n)) t3.to v3 be.related be.input
          (writes_it c r k (Offset t a n extent) here t refl refl) (silent c r k (Offset t a n extent) here refl)
          (g.good.0, lt) t3.shows (record {
            here = is;
            registers = λ x n12 n15 nd. update_other v2.registers (target c r h) _ x nd ∙ z.moved.registers x n15
                ∙ g.near.registers x n12 n15;
            words = λ x. z.moved.words x ∙ g.near.words x;
          }) (left_next c words v2.place _ _ (save c r h) l2))))
        where
          sum : (x y x' y' : ℕ) → x ≡ x' → y ≡ y' → x' + y' ≡ place c p block + offset + n → place c p block < ADDRESSES
              → (x + y + 0) % 2 ^ 32 ≡ place c p block + (offset + n)
          sum x y x' y' e e' e'' low = omega (arith, lt, e, e', e'')
