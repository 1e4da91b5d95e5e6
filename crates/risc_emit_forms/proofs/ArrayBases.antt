-- The address at which an array begins, in a register.
use Rattle.std.proofs.Common.{◌≡◌, ◌≢◌, ℕ, ◌+◌, ◌%◌, ◌^◌, ◌<◌, Bool, true, false, cond, nat_lt, List, [], ◌∷◌}
use Rattle.std.proofs.Common.{◌++◌, Some, pos, refl, ap, ◌∙◌, subst, arith, append_assoc}
use Rattle.std.proofs.lemmas.Bool.{ltb-true}
use Rattle.risc_word.specs.declared.instr.Operation.TheVariants as op
use Rattle.risc_word.specs.declared.instr.Operand.TheVariants.{Content, Constant}
use Rattle.risc_word.specs.declared.instr.Instr.TheVariants as word
use Rattle.risc_machine.specs.Step as machine
use Rattle.risc_machine.specs.Step.{word_of_int}
use Rattle.risc_machine_laws.specs.View.{View, Shows, after}
use Rattle.risc_machine_laws.specs.Runs.{Way, same_tape}
use Rattle.risc_machine_laws.proofs.Runs.{to_join, way_of}
use Rattle.tac_code.specs.declared.code.Block.{Block}
use Rattle.tac_code.specs.declared.code.Block.TheVariants as blocks
use Rattle.tac_code.specs.declared.code.Base.{Base}
use Rattle.tac_code.specs.declared.code.Base.TheVariants as base
use Rattle.tac_code.specs.declared.code.Value.TheVariants.{Address}
use Rattle.tac_code.specs.Meaning.{State, base_value}
use Rattle.risc_emit_relation.specs.Context.{Context, home, Places, place, IsValue}
use Rattle.risc_emit_relation.specs.Context as ctx
use Rattle.risc_emit_relation.specs.Related.{owner_of}
use Rattle.risc_emit_relation.specs.Changes.{Near}
use Rattle.risc_emit_relation.proofs.Basics.{update_other}
use Rattle.risc_emit_relation.proofs.Steps.{home_read, value_near}
use Rattle.risc_emit_forms.specs.Pieces.{Piece, Plain, Left}
use Rattle.risc_emit_forms.specs.Forms as form
use Rattle.risc_emit_forms.specs.Forms.{constant, base_register, base_address, address_register}
use Rattle.risc_emit_forms.specs.Peephole.{block_at}
use Rattle.risc_emit_forms.specs.Follows.{machine_of, Built, Belongs}
use Rattle.risc_emit_forms.proofs.Basics.{left_after, left_next, among_first}
use Rattle.risc_emit_forms.proofs.Runs.{Moved, step_to, constant_run}
use Rattle.risc_emit_forms.proofs.Fetches.{fetch_run}
use Rattle.risc_emit_forms.proofs.Comes.{framed}
use Rattle.risc_emit_forms.proofs.Bases.{innermost, ReadsBase}
use Rattle.risc_emit_forms.proofs.Scales.{word_is}

module _ (c : Context) (words : List ℕ) (b : Built c words) (p : Places) (s : State) (f : ℕ) (m : machine.State)
    (v : View) (sh : Shows words c.size m v) (be : Belongs c words p s v f) where
  -- ---- the address of a base

  pub record Addressed (a : Base) (block : Block) (offset : ℕ) (ps : List Piece) (next : ℕ) (m1 : machine.State)
      (w : View) : Type 0 where
    pub view : View
    pub way : Way words c.size m1 same_tape view
    pub good : IsValue c p (Address block offset)
    pub value : view.registers (address_register c s.current.routine a) ≡ place c p block + offset
    pub moved : Moved 15 w view
    pub left : Left c words view.place ps next

  pub record Summed (q n : ℕ) (ps : List Piece) (next : ℕ) (m1 : machine.State) (w : View) : Type 0 where
    pub view : View
    pub way : Way words c.size m1 same_tape view
    pub value : view.registers 15 ≡ w.registers q + n
    pub moved : Moved 15 w view
    pub left : Left c words view.place ps next

  -- an offset from R14 or R13
  pub sum_run : (q n : ℕ) (ps : List Piece) (next : ℕ) (m1 : machine.State) (w : View) → Shows words c.size m1 w
      → q ≢ 15
      → w.registers q + n < 2 ^ 32 → Left c words w.place (form.sum c s.current.routine q n ++ ps) next
      → Summed q n ps next m1 w
  sum_run q n ps next m1 w sh1 n15 lt l = go (nat_lt n 65536) refl l
    where
      added : (x y : ℕ) → x ≡ w.registers q → y ≡ n → (x + y + 0) % 2 ^ 32 ≡ w.registers q + n
      added x y e e' = omega (arith, e, e', lt)

      go : (small : Bool) → nat_lt n 65536 ≡ small → Left c words w.place
          (cond small (Plain (word.Operate op.Add 15 q (Constant (pos n))) ∷ [])
          (constant 15 n ++ (Plain (word.Operate op.Add 15 q (Content 15)) ∷ [])) ++ ps) next → Summed q n ps next m1 w
      go true e l =
          let i = word.Operate op.Add 15 q (Constant (pos n)) in
          let t1 = step_to c words b.stood i m1 w sh1 l.stands.0 tt in
          let v1 = after i w in
          record {
            view = v1;
            way = way_of words c.size m1 same_tape v1 t1;
            value = added (w.registers q) (word_of_int (pos n)) refl (word_is n (small_low n (ltb-true n 65536 e)));
            moved = record { registers = λ x ne. update_other w.registers 15 _ x ne; words = λ y. refl; high = refl };
            left = left_next c words w.place next (Plain i) ps l;
          }
        where
          small_low : (n : ℕ) → n < 65536 → n < 2 ^ 32
          small_low n lt = omega (arith, lt)
      go false e l =
          let i = word.Operate op.Add 15 q (Content 15) in
          let l0 = subst (λ x. Left c words w.place x next) (append_assoc (constant 15 n) (Plain i ∷ []) ps) l in
          let g = constant_run c words b.stood 15 n (Plain i ∷ ps) next m1 w sh1 (omega (arith, lt)) l0 in
          let v1 = g.view in
          let l1 = left_after c words w.place v1.place next (constant 15 n) (Plain i ∷ ps) l0 g.place in
          let t2 = step_to c words b.stood i g.to.to v1 g.to.shows l1.stands.0 tt in
          let v2 = after i v1 in
          record {
            view = v2;
            way = way_of words c.size m1 same_tape v2 (to_join words c.size m1 same_tape same_tape v1 v2 g.to t2);
            value = added (v1.registers q) (v1.registers 15) (g.moved.registers q n15) g.value;
            moved = record {
              registers = λ x ne. update_other v1.registers 15 _ x ne ∙ g.moved.registers x ne;
              words = g.moved.words;
              high = g.moved.high;
            };
            left = left_next c words v1.place next (Plain i) ps l1;
          }

  -- the address of a block, from a frame's register
  frame_run : (q at : ℕ) (block : Block) (offset n : ℕ) (ps : List Piece) (next : ℕ) (m1 : machine.State) (w : View)
      → Shows words c.size m1 w → q ≢ 15 → w.registers q ≡ at → at + n ≡ place c p block + offset → place c p block
      + offset < 2 ^ 32 → Left c words w.place (form.sum c s.current.routine q n ++ ps) next
      → (g : Summed q n ps next m1 w) × (g.view.registers 15 ≡ place c p block + offset)
  frame_run q at block offset n ps next m1 w sh1 n15 eq sum low l =
      let e : w.registers q + n ≡ place c p block + offset = ap (λ x. x + n) eq ∙ sum in
      let g = sum_run q n ps next m1 w sh1 n15 (omega (arith, e, low)) l in
      (g, g.value ∙ e)

  pub address_run : (a : Base) (block : Block) (offset : ℕ) (ps : List Piece) (next : ℕ) (m1 : machine.State) (w : View)
      → Shows words c.size m1 w → Near (machine_of v) (machine_of w) → ReadsBase c words b p s f m v sh be a
      → base_value s.current a ≡ Some (Address block offset) → Left c words w.place
      (base_address c s.current.routine a ++ ps) next → Addressed a block offset ps next m1 w
  address_run base.Frame block offset ps next m1 w sh1 near rb e l =
      let own = innermost c p v.words f (owner_of s.current) s.callers s.memory.frames s.memory.scratch
      be.related.held.frames in
      let same : Address (blocks.Frame s.current.number) 0 ≡ Address block offset = cc e in
      let hl = be.related.held.places.frame s.current.number in
      let word_same : p.frame s.current.number + 0 ≡ place c p block + offset = ap (ctx.word c p) same in
      let e14 : w.registers 14 ≡ f = near.registers 14 (omega arith) (omega arith) ∙ be.related.stack in
      let g = frame_run 14 f block offset (c.frame_at s.current.routine) ps next m1 w sh1 (omega arith) e14
      (omega (arith, word_same, own.frame)) (omega (arith, word_same, hl)) l in
      record {
        view = g.0.view;
        way = g.0.way;
        good = subst (IsValue c p) same (own.named, omega arith);
        value = g.1;
        moved = g.0.moved;
        left = g.0.left;
      }
  address_run base.Scratch block offset ps next m1 w sh1 near rb e l =
      let own = innermost c p v.words f (owner_of s.current) s.callers s.memory.frames s.memory.scratch
      be.related.held.frames in
      let same : Address (blocks.Scratch s.current.number) 0 ≡ Address block offset = cc e in
      let hl = be.related.held.places.scratch s.current.number in
      let word_same : p.scratch s.current.number + 0 ≡ place c p block + offset = ap (ctx.word c p) same in
      let e14 : w.registers 14 ≡ f = near.registers 14 (omega arith) (omega arith) ∙ be.related.stack in
      let g = frame_run 14 f block offset (c.scratch_at s.current.routine) ps next m1 w sh1 (omega arith) e14
      (omega (arith, word_same, own.scratch)) (omega (arith, word_same, hl)) l in
      record {
        view = g.0.view;
        way = g.0.way;
        good = subst (IsValue c p) same (own.named, omega arith);
        value = g.1;
        moved = g.0.moved;
        left = g.0.left;
      }
  address_run base.Program block offset ps next m1 w sh1 near rb e l =
      let same : Address (blocks.Frame 0) 0 ≡ Address block offset = cc e in
      let hl = be.related.held.places.frame 0 in
      let word_same : p.frame 0 + 0 ≡ place c p block + offset = ap (ctx.word c p) same in
      let pg = be.related.held.program in
      let e13 : w.registers 13 ≡ c.bottom = near.registers 13 (omega arith) (omega arith) ∙ be.related.globals in
      let g = frame_run 13 c.bottom block offset (c.frame_at 0) ps next m1 w sh1 (omega arith) e13
      (omega (arith, word_same, pg)) (omega (arith, word_same, hl)) l in
      record {
        view = g.0.view;
        way = g.0.way;
        good = subst (IsValue c p) same (be.related.held.some, omega arith);
        value = g.1;
        moved = g.0.moved;
        left = g.0.left;
      }
  address_run (base.Temporary t) block offset ps next m1 w sh1 near rb e l =
      let r = s.current.routine in
      let fr = framed c words b p s (machine_of v) f be.related in
      let e14 : w.registers 14 ≡ f = near.registers 14 (omega arith) (omega arith) ∙ be.related.stack in
      let g = fetch_run c words b.stood b.laid b.placed r f fr 15 t ps next m1 w sh1 (omega arith) e14 l in
      let k = home_read c b.laid b.placed p s (machine_of v) f t (Address block offset) be.related
      (rb t (among_first t [])) e in
      record {
        view = g.view;
        way = g.way;
        good = k.0;
        value = g.value ∙ value_near c b.laid b.placed p r f (machine_of v) (machine_of w) (home c r t)
            (λ q is. b.placed.register r t q is) near ∙ k.1;
        moved = g.moved;
        left = left_after c words w.place g.view.place next (form.fetch c r 15 (home c r t)) ps l g.place;
      }

  -- what a frame's register is short of is the offset of a base's block
  pub short_base : (a : Base) (block : Block) (offset n : ℕ) (w : View) → Near (machine_of v) (machine_of w)
      → block_at c s.current.routine a ≡ Some n → base_value s.current a ≡ Some (Address block offset)
      → (w.registers (base_register c s.current.routine a) + n ≡ place c p block + offset) × IsValue c p
      (Address block offset)
  short_base base.Frame block offset n w near at e =
      let own = innermost c p v.words f (owner_of s.current) s.callers s.memory.frames s.memory.scratch
      be.related.held.frames in
      let same : Address (blocks.Frame s.current.number) 0 ≡ Address block offset = cc e in
      let word_same : p.frame s.current.number + 0 ≡ place c p block + offset = ap (ctx.word c p) same in
      let e14 : w.registers 14 ≡ f = near.registers 14 (omega arith) (omega arith) ∙ be.related.stack in
      let is : c.frame_at s.current.routine ≡ n = cc at in
      (omega (arith, word_same, own.frame, e14, is), subst (IsValue c p) same (own.named, omega arith))
  short_base base.Scratch block offset n w near at e =
      let own = innermost c p v.words f (owner_of s.current) s.callers s.memory.frames s.memory.scratch
      be.related.held.frames in
      let same : Address (blocks.Scratch s.current.number) 0 ≡ Address block offset = cc e in
      let word_same : p.scratch s.current.number + 0 ≡ place c p block + offset = ap (ctx.word c p) same in
      let e14 : w.registers 14 ≡ f = near.registers 14 (omega arith) (omega arith) ∙ be.related.stack in
      let is : c.scratch_at s.current.routine ≡ n = cc at in
      (omega (arith, word_same, own.scratch, e14, is), subst (IsValue c p) same (own.named, omega arith))
  short_base base.Program block offset n w near at e =
      let same : Address (blocks.Frame 0) 0 ≡ Address block offset = cc e in
      let word_same : p.frame 0 + 0 ≡ place c p block + offset = ap (ctx.word c p) same in
      let pg = be.related.held.program in
      let e13 : w.registers 13 ≡ c.bottom = near.registers 13 (omega arith) (omega arith) ∙ be.related.globals in
      let is : c.frame_at 0 ≡ n = cc at in
      (omega (arith, word_same, pg, e13, is), subst (IsValue c p) same (be.related.held.some, omega arith))
  short_base (base.Temporary u) block offset n w near at e = absurd (cc at)
