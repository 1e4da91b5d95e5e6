-- Bases of addresses: in which register they are, and how far from there.
use Rattle.std.proofs.Common.{◌≡◌, ◌≢◌, ℕ, ◌+◌, ◌%◌, ◌^◌, ◌<◌, Bool, true, false, cond, List, [], ◌∷◌, ◌++◌}
use Rattle.std.proofs.Common.{length, Some, refl, sym, ap, ◌∙◌, subst, arith, length-append, append_assoc}
use Rattle.risc_word.specs.declared.instr.Operation.TheVariants as op
use Rattle.risc_word.specs.declared.instr.Operand.TheVariants as instr
use Rattle.risc_word.specs.declared.instr.Instr.TheVariants as word
use Rattle.risc_machine.specs.Step as machine
use Rattle.risc_machine_laws.specs.View.{View, Shows, after}
use Rattle.risc_machine_laws.specs.Runs.{Way, same_tape}
use Rattle.risc_machine_laws.proofs.Runs.{to_join, way_of, way_then, way_here}
use Rattle.tac_code.specs.declared.code.Block.{Block}
use Rattle.tac_code.specs.declared.code.Block.TheVariants as blocks
use Rattle.tac_code.specs.declared.code.Value.TheVariants.{Address}
use Rattle.tac_code.specs.declared.code.Base.{Base}
use Rattle.tac_code.specs.declared.code.Base.TheVariants as base
use Rattle.tac_code.specs.Memory.{Living}
use Rattle.tac_code.specs.Meaning.{Activation, State, base_value}
use Rattle.risc_alloc.specs.Flow.{in_base, is_among}
use Rattle.risc_emit_relation.specs.Context.{Context, reads, Places, place, IsValue}
use Rattle.risc_emit_relation.specs.Context as related
use Rattle.risc_emit_relation.specs.Related.{Owner, owner_of, Open}
use Rattle.risc_emit_relation.specs.Changes.{Near}
use Rattle.risc_emit_relation.proofs.Basics.{update_other}
use Rattle.risc_emit_forms.specs.Pieces.{Piece, Plain, Left}
use Rattle.risc_emit_forms.specs.Forms.{is_near, constant, base_code, base_register, base_offset, reach, reach_register}
use Rattle.risc_emit_forms.specs.Forms.{reach_offset}
use Rattle.risc_emit_forms.specs.Follows.{machine_of, Built, Belongs}
use Rattle.risc_emit_forms.proofs.Basics.{left_after, among_first}
use Rattle.risc_emit_forms.proofs.Runs.{step_to, constant_run}
use Rattle.risc_emit_forms.proofs.Fetches.{fetched_not}
use Rattle.risc_emit_forms.proofs.Comes.{framed}
use Rattle.risc_emit_forms.proofs.Operands.{one_run}

-- the innermost activation's blocks
pub record Innermost (c : Context) (p : Places) (w : ℕ → ℕ) (f : ℕ) (y : Owner) : Type 0 where
  pub frame : p.frame y.number ≡ f + c.frame_at y.routine
  pub scratch : p.scratch y.number ≡ f + c.scratch_at y.routine
  pub named : y.number < p.activations

pub innermost : (c : Context) (p : Places) (w : ℕ → ℕ) (f : ℕ) (y : Owner) (xs : List Activation) (bs ds : List Living)
    → Open c p w f y xs bs ds → Innermost c p w f y
innermost c p w f y xs [] ds h = absurd h
innermost c p w f y xs (b ∷ bs) [] h = absurd h
innermost c p w f y [] (b ∷ bs) (d ∷ ds) h =
    record { frame = h.0.frame_place; scratch = h.0.scratch_place; named = h.0.named }
innermost c p w f y (x ∷ xs) (b ∷ bs) (d ∷ ds) h =
    record { frame = h.0.frame_place; scratch = h.0.scratch_place; named = h.0.named }

module _ (c : Context) (words : List ℕ) (b : Built c words) (p : Places) (s : State) (f : ℕ) (m : machine.State)
    (v : View) (sh : Shows words c.size m v) (be : Belongs c words p s v f) where
  -- ---- bases

  abbrev pub ReadsBase : Base → Type 0
  ReadsBase a = (u : ℕ) → is_among u (in_base a) ≡ true → reads c s.current.routine s.current.place u ≡ true

  pub record Based (a : Base) (n len : ℕ) (block : Block) (offset : ℕ) : Type 0 where
    pub view : View
    pub way : Way words c.size m same_tape view
    pub good : IsValue c p (Address block offset)
    pub at : view.registers (base_register c s.current.routine a) + base_offset c s.current.routine a n
        ≡ place c p block + offset + n
    pub apart : base_register c s.current.routine a ≢ 15
    pub near : Near (machine_of v) (machine_of view)
    pub place : view.place ≡ v.place + len

  still : Near (machine_of v) (machine_of v)
  still = record { registers = λ q n12 n15. refl; words = λ a. refl }

  pub base_run : (a : Base) (n : ℕ) (block : Block) (offset : ℕ) (ps : List Piece) (next : ℕ) → ReadsBase a
      → base_value s.current a ≡ Some (Address block offset) → Left c words v.place
      (base_code c s.current.routine a ++ ps) next → Based a n (length (base_code c s.current.routine a)) block offset
  base_run base.Frame n block offset ps next r e l =
      let own = innermost c p v.words f (owner_of s.current) s.callers s.memory.frames s.memory.scratch
      be.related.held.frames in
      let same : Address (blocks.Frame s.current.number) 0 ≡ Address block offset = cc e in
      let st = be.related.stack in
      let at : v.registers 14 + (c.frame_at s.current.routine + n) ≡ p.frame s.current.number + 0 + n = omega
      (arith, st, own.frame) in
      record {
        view = v;
        way = way_here words c.size m v sh;
        good = subst (IsValue c p) same (own.named, omega arith);
        at = at ∙ ap (λ x. x + n) (ap (related.word c p) same);
        apart = omega arith;
        near = still;
        place = omega arith;
      }
  base_run base.Scratch n block offset ps next r e l =
      let own = innermost c p v.words f (owner_of s.current) s.callers s.memory.frames s.memory.scratch
      be.related.held.frames in
      let same : Address (blocks.Scratch s.current.number) 0 ≡ Address block offset = cc e in
      let st = be.related.stack in
      let at : v.registers 14 + (c.scratch_at s.current.routine + n) ≡ p.scratch s.current.number + 0 + n = omega
      (arith, st, own.scratch) in
      record {
        view = v;
        way = way_here words c.size m v sh;
        good = subst (IsValue c p) same (own.named, omega arith);
        at = at ∙ ap (λ x. x + n) (ap (related.word c p) same);
        apart = omega arith;
        near = still;
        place = omega arith;
      }
  base_run base.Program n block offset ps next r e l =
      let same : Address (blocks.Frame 0) 0 ≡ Address block offset = cc e in
      let gl = be.related.globals in
      let at : v.registers 13 + (c.frame_at 0 + n) ≡ p.frame 0 + 0 + n = omega (arith, gl, be.related.held.program) in
      record {
        view = v;
        way = way_here words c.size m v sh;
        good = subst (IsValue c p) same (be.related.held.some, omega arith);
        at = at ∙ ap (λ x. x + n) (ap (related.word c p) same);
        apart = omega arith;
        near = still;
        place = omega arith;
      }
  base_run (base.Temporary t) n block offset ps next r e l =
      let g = one_run c words b p s f m v sh be 12 t (Address block offset) ps next (omega arith)
      (r t (among_first t [])) e l in
      record {
        view = g.view;
        way = g.way;
        good = g.good;
        at = ap (λ x. x + n) g.value;
        apart = fetched_not c words b.stood b.laid b.placed s.current.routine f
            (framed c words b p s (machine_of v) f be.related) 12 t 15 (omega arith) (omega arith);
        near = record { registers = λ q n12 n15. g.moved.registers q n12; words = g.moved.words };
        place = g.place;
      }

  -- an address within the reach of a load or a store
  pub record Reaches (a : Base) (n len : ℕ) (block : Block) (offset : ℕ) : Type 0 where
    pub view : View
    pub way : Way words c.size m same_tape view
    pub good : IsValue c p (Address block offset)
    pub at : view.registers (reach_register c s.current.routine a n) + reach_offset c s.current.routine a n
        ≡ place c p block + (offset + n)
    pub apart : reach_register c s.current.routine a n ≢ 15
    pub near : Near (machine_of v) (machine_of view)
    pub place : view.place ≡ v.place + len

  pub reach_run : (a : Base) (n : ℕ) (block : Block) (offset : ℕ) (ps : List Piece) (next : ℕ) → ReadsBase a
      → base_value s.current a ≡ Some (Address block offset) → place c p block + (offset + n) < 2 ^ 32
      → Left c words v.place (reach c s.current.routine a n ++ ps) next → Reaches a n
      (length (reach c s.current.routine a n)) block offset
  reach_run a n block offset ps next r e low l = go (is_near (base_offset c s.current.routine a n)) refl l
    where
      off : ℕ
      off = base_offset c s.current.routine a n

      go : (close : Bool) → is_near (base_offset c s.current.routine a n) ≡ close → Left c words v.place
          (cond close (base_code c s.current.routine a)
          (base_code c s.current.routine a ++ (constant 15 (base_offset c s.current.routine a n) ++ Plain
          (word.Operate op.Add 12 (base_register c s.current.routine a) (instr.Content 15)) ∷ [])) ++ ps) next
          → Reaches a n (length (reach c s.current.routine a n)) block offset
      go true is l =
          let g = base_run a n block offset ps next r e l in
          record {
            view = g.view;
            way = g.way;
            good = g.good;
            at = ap (λ t. g.view.registers (cond t (base_register c s.current.routine a) 12) + cond t
                (base_offset c s.current.routine a n) 0) is ∙ g.at ∙ sums (place c p block);
            apart = λ z. g.apart (sym (ap (λ t. cond t (base_register c s.current.routine a) 12) is) ∙ z);
            near = g.near;
            place = g.place ∙ ap (λ t. v.place + length
                (cond t (base_code c s.current.routine a)
                (base_code c s.current.routine a ++ (constant 15 (base_offset c s.current.routine a n) ++ Plain
                (word.Operate op.Add 12 (base_register c s.current.routine a) (instr.Content 15)) ∷ [])))) (sym is);
          }
        where
          sums : (x : ℕ) → x + offset + n ≡ x + (offset + n)
          sums x = omega arith
      go false is l =
          let rr = s.current.routine in
          let o = base_offset c rr a n in
          let q = base_register c rr a in
          let i = word.Operate op.Add 12 q (instr.Content 15) in
          let l0 = subst (λ x. Left c words v.place x next)
          (append_assoc (base_code c rr a) (constant 15 o ++ Plain i ∷ []) ps) l in
          let g = base_run a n block offset (constant 15 o ++ (Plain i ∷ ps)) next r e l0 in
          let v1 = g.view in
          let l1 = left_after c words v.place v1.place next (base_code c rr a)
          (constant 15 o ++ (Plain i ∷ ps)) l0 g.place in
          let k = constant_run c words b.stood 15 o (Plain i ∷ ps) next g.way.to v1 g.way.shows
          (omega (arith, g.at, low)) l1 in
          let v2 = k.view in
          let l2 = left_after c words v1.place v2.place next (constant 15 o) (Plain i ∷ ps) l1 k.place in
          let t3 = step_to c words b.stood i k.to.to v2 k.to.shows l2.stands.0 tt in
          let v3 = after i v2 in
          let eq : v2.registers q ≡ v1.registers q = k.moved.registers q g.apart in
          let is12 : v3.registers 12 ≡ place c p block + (offset + n) = sum (v2.registers q) (v2.registers 15)
          (v1.registers q) o eq k.value g.at in
          record {
            view = v3;
            way = way_then words c.size m same_tape same_tape v1 v3 g.way
                (way_of words c.size g.way.to same_tape v3
                (to_join words c.size g.way.to same_tape same_tape v2 v3 k.to t3));
            good = g.good;
            at = ap (λ t. v3.registers (cond t q 12) + cond t o 0) is ∙ plus_zero (v3.registers 12) ∙ is12;
            apart = twelve _ (ap (λ t. cond t q 12) is);
            near = record {
              registers = λ x n12 n15. update_other v2.registers 12 _ x n12 ∙ k.moved.registers x n15
                  ∙ g.near.registers x n12 n15;
              words = λ x. k.moved.words x ∙ g.near.words x;
            };
            place = let z = ap (λ t. length (cond t (base_code c rr a)
                (base_code c rr a ++ (constant 15 o ++ Plain i ∷ [])))) is in let len = length-append (base_code c rr a)
                (constant 15 o ++ Plain i ∷ []) in omega (arith, g.place, k.place, z, len);
          }
        where
          plus_zero : (x : ℕ) → x + 0 ≡ x
          plus_zero x = omega arith

          twelve : (x : ℕ) → x ≡ 12 → x ≢ 15
          twelve x e z = omega (arith, e, z)

          sum : (x y x' y' : ℕ) → x ≡ x' → y ≡ y' → x' + y' ≡ place c p block + offset + n → (x + y + 0) % 2 ^ 32
              ≡ place c p block + (offset + n)
          sum x y x' y' e e' e'' = omega (arith, e, e', e'', low)
