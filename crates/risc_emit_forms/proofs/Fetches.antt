-- Runs of the idioms: operands fetched.
use Rattle.std.proofs.Common.{◌≡◌, ◌≢◌, ℕ, ◌+◌, ◌<◌, ◌≤◌, Bool, true, false, cond, nat_eq, nat_le, List, [], ◌++◌}
use Rattle.std.proofs.Common.{length, refl, sym, ap, ◌∙◌, subst, arith}
use Rattle.risc_word.specs.declared.instr.Operand.TheVariants.{Content, Constant}
use Rattle.risc_word.specs.declared.instr.Instr.TheVariants as word
use Rattle.risc_machine.specs.Step as machine
use Rattle.risc_machine.specs.Step.{word_of_int}
use Rattle.risc_machine.specs.declared.limits.TheConstants.{SIGN_BIT}
use Rattle.risc_machine_laws.specs.View.{View, Shows, IsReadable, operand_view, after}
use Rattle.risc_machine_laws.specs.Runs.{Way, same_tape}
use Rattle.risc_machine_laws.proofs.Runs.{way_here, way_of}
use Rattle.risc_machine_laws.proofs.Numbers.{word_narrow}
use Rattle.tac_code.specs.declared.code.Operand.{Operand}
use Rattle.tac_code.specs.declared.code.Operand.TheVariants as operand
use Rattle.risc_alloc.specs.declared.homes.Home.{Home}
use Rattle.risc_alloc.specs.declared.homes.Home.TheVariants.{Slot, Reg}
use Rattle.risc_emit_relation.specs.Context.{Context, home, slot_at, IsNumber, IsLaid, IsPlaced}
use Rattle.risc_emit_relation.specs.Related.{Machine, value_of}
use Rattle.risc_emit_relation.proofs.Basics.{update_same, update_other}
use Rattle.risc_emit_forms.specs.Pieces.{Piece, Left}
use Rattle.risc_emit_forms.specs.Forms.{is_small, exact, fetch, fetched, bring, target, right, right_operand}
use Rattle.risc_emit_forms.specs.Follows.{machine_of, Stood}
use Rattle.risc_emit_forms.proofs.Runs.{Framed, Gets, Moved, exact_run, load_run, step_to}

-- what a right operand is, as a word
abbrev pub right_word : Context → ℕ → ℕ → Machine → Operand → ℕ
right_word c r f m (operand.Temporary t) = value_of c r f m (home c r t)
right_word c r f m (operand.Number z) = word_of_int z

module _ (c : Context) (words : List ℕ) (stood : Stood c words) (laid : IsLaid c) (placed : IsPlaced c) (r f : ℕ)
    (framed : Framed c words r f) where
  -- ---- operands

  pub record Fetches (d t len : ℕ) (m : machine.State) (v : View) : Type 0 where
    pub view : View
    pub way : Way words c.size m same_tape view
    pub value : view.registers (fetched c r d (home c r t)) ≡ value_of c r f (machine_of v) (home c r t)
    pub moved : Moved d v view
    pub place : view.place ≡ v.place + len

  pub fetch_run : (d t : ℕ) (ps : List Piece) (next : ℕ) (m : machine.State) (v : View) → Shows words c.size m v
      → d ≢ 14 → v.registers 14 ≡ f → Left c words v.place (fetch c r d (home c r t) ++ ps) next → Fetches d t
      (length (fetch c r d (home c r t))) m v
  fetch_run d t ps next m v sh ne e14 l = go (home c r t) refl l
    where
      go : (h : Home) → home c r t ≡ h → Left c words v.place (fetch c r d h ++ ps) next → Fetches d t
          (length (fetch c r d (home c r t))) m v
      go (Reg q) is l =
          record {
            view = v;
            way = way_here words c.size m v sh;
            value = ap (λ h. v.registers (fetched c r d h)) is ∙ ap (value_of c r f (machine_of v)) (sym is);
            moved = record { registers = λ q ne. refl; words = λ a. refl; high = refl };
            place = let e = ap (λ h. length (fetch c r d h)) is in omega (arith, e);
          }
      go (Slot k) is l =
          let at : f + slot_at c r k ≡ v.registers 14 + slot_at c r k = ap (λ x. x + slot_at c r k) (sym e14) in
          let ne' : 14 ≢ d = λ e. ne (sym e) in
          let g = load_run c words stood d 14 (slot_at c r k) ps next m v sh ne'
          (subst (IsReadable c.size) at (framed.readable t k is)) l in
          record {
            view = g.view;
            way = way_of words c.size m same_tape g.view g.to;
            value = ap (λ h. g.view.registers (fetched c r d h)) is ∙ g.value ∙ ap v.words (sym at)
                ∙ ap (value_of c r f (machine_of v)) (sym is);
            moved = g.moved;
            place = g.place ∙ ap (λ h. v.place + length (fetch c r d h)) (sym is);
          }

  -- the register of a fetched operand is not a scratch register, except d
  pub fetched_not : (d t q : ℕ) → q ≢ d → 12 ≤ q → fetched c r d (home c r t) ≢ q
  fetched_not d t q ne le = go (home c r t) refl
    where
      go : (h : Home) → home c r t ≡ h → fetched c r d h ≢ q
      go (Reg x) is = let lt = placed.register r t x is in omega arith
      go (Slot k) is = λ e. ne (sym e)

  pub target_not : (t q : ℕ) → 12 < q → target c r (home c r t) ≢ q
  target_not t q le = go (home c r t) refl
    where
      go : (h : Home) → home c r t ≡ h → target c r h ≢ q
      go (Reg x) is = let lt = placed.register r t x is in omega arith
      go (Slot k) is = omega arith

  -- what a home holds does not depend on scratch registers
  pub value_moved : (d t : ℕ) (v v' : View) → 12 ≤ d → Moved d v v' → value_of c r f (machine_of v') (home c r t)
      ≡ value_of c r f (machine_of v) (home c r t)
  value_moved d t v v' le n = go (home c r t) refl
    where
      go : (h : Home) → home c r t ≡ h → value_of c r f (machine_of v') h ≡ value_of c r f (machine_of v) h
      go (Slot k) is = n.words _
      go (Reg q) is = let lt = placed.register r t q is in n.registers q (omega arith)

  pub bring_run : (d t : ℕ) (ps : List Piece) (next : ℕ) (m : machine.State) (v : View) → Shows words c.size m v
      → d ≢ 14 → v.registers 14 ≡ f → Left c words v.place (bring c r d (home c r t) ++ ps) next → Gets c words stood d
      (value_of c r f (machine_of v) (home c r t)) (length (bring c r d (home c r t))) m v
  bring_run d t ps next m v sh ne e14 l = go (home c r t) refl l
    where
      go : (h : Home) → home c r t ≡ h → Left c words v.place (bring c r d h ++ ps) next → Gets c words stood d
          (value_of c r f (machine_of v) h) (length (bring c r d h)) m v
      go (Reg q) is l =
          let i = word.Move d (Content q) in
          record {
            view = after i v;
            to = step_to c words stood i m v sh l.stands.0 tt;
            value = update_same v.registers d _;
            moved = record { registers = λ q ne. update_other v.registers d _ q ne; words = λ a. refl; high = refl };
            zero = refl;
            minus = refl;
            place = refl;
          }
      go (Slot k) is l =
          let at : f + slot_at c r k ≡ v.registers 14 + slot_at c r k = ap (λ x. x + slot_at c r k) (sym e14) in
          let ne' : 14 ≢ d = λ e. ne (sym e) in
          let g = load_run c words stood d 14 (slot_at c r k) ps next m v sh ne'
          (subst (IsReadable c.size) at (framed.readable t k is)) l in
          record {
            view = g.view;
            to = g.to;
            value = g.value ∙ ap v.words (sym at);
            moved = g.moved;
            zero = g.zero ∙ ap (λ x. nat_eq (v.words x) 0) (sym at);
            minus = g.minus ∙ ap (λ x. nat_le SIGN_BIT (v.words x)) (sym at);
            place = g.place;
          }

  pub record Rights (b : Operand) (len : ℕ) (m : machine.State) (v : View) : Type 0 where
    pub view : View
    pub way : Way words c.size m same_tape view
    pub value : operand_view view (right_operand c r b) ≡ right_word c r f (machine_of v) b
    pub moved : Moved 15 v view
    pub place : view.place ≡ v.place + len

  -- the numbers of a right operand
  abbrev pub IsRight : Operand → Type 0
  IsRight (operand.Temporary t) = Unit {0}
  IsRight (operand.Number z) = IsNumber z

  pub right_run : (b : Operand) (ps : List Piece) (next : ℕ) (m : machine.State) (v : View) → Shows words c.size m v
      → v.registers 14 ≡ f → IsRight b → Left c words v.place (right c r b ++ ps) next → Rights b
      (length (right c r b)) m v
  right_run (operand.Temporary t) ps next m v sh e14 is l =
      let g = fetch_run 15 t ps next m v sh (omega arith) e14 l in
      record { view = g.view; way = g.way; value = g.value; moved = g.moved; place = g.place }
  right_run (operand.Number z) ps next m v sh e14 is l = go (is_small z) refl l
    where
      go : (small : Bool) → is_small z ≡ small → Left c words v.place
          (cond small [] (exact 15 (word_of_int z)) ++ ps) next → Rights (operand.Number z)
          (length (right c r (operand.Number z))) m v
      go true e l =
          record {
            view = v;
            way = way_here words c.size m v sh;
            value = ap (λ s. operand_view v (cond s (Constant z) (Content 15))) e;
            moved = record { registers = λ q ne. refl; words = λ a. refl; high = refl };
            place = let n = ap (λ s. length (cond s [] (exact 15 (word_of_int z)))) e in omega (arith, n);
          }
      go false e l =
          let g = exact_run c words stood 15 (word_of_int z) ps next m v sh (word_narrow z is) l in
          record {
            view = g.view;
            way = way_of words c.size m same_tape g.view g.to;
            value = ap (λ s. operand_view g.view (cond s (Constant z) (Content 15))) e ∙ g.value;
            moved = g.moved;
            place = g.place ∙ ap (λ s. v.place + length (cond s [] (exact 15 (word_of_int z)))) (sym e);
          }
