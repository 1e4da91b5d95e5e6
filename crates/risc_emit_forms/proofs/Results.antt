-- Runs of the idioms: results kept.
use Rattle.std.proofs.Common.{◌≡◌, ◌≢◌, ℕ, ◌+◌, ◌<◌, ◌≤◌, ◌⊎◌, inl, inr, Bool, true, false, cond, nat_eq, List, [], ◌∷◌}
use Rattle.std.proofs.Common.{◌++◌, length, refl, sym, ap, ◌∙◌, subst, arith}
use Rattle.std.proofs.lemmas.Bool.{eqb-true}
use Rattle.risc_word.specs.declared.instr.Operand.TheVariants.{Content}
use Rattle.risc_word.specs.declared.instr.Instr.TheVariants as word
use Rattle.risc_machine.specs.Step as machine
use Rattle.risc_machine_laws.specs.View.{View, Shows, IsReadable, IsWritable, after}
use Rattle.risc_machine_laws.specs.Runs.{To, Way, same_tape}
use Rattle.risc_machine_laws.proofs.Runs.{way_here, way_of}
use Rattle.risc_alloc.specs.declared.homes.Home.{Home}
use Rattle.risc_alloc.specs.declared.homes.Home.TheVariants.{Slot, Reg}
use Rattle.risc_emit_relation.specs.Context.{Context, home, slot_at, IsLaid, IsPlaced}
use Rattle.risc_emit_relation.specs.Related.{Machine, value_of}
use Rattle.risc_emit_relation.specs.Changes.{update, Near, Settled}
use Rattle.risc_emit_relation.proofs.Basics.{update_same, update_other}
use Rattle.risc_emit_forms.specs.Pieces.{Piece, Plain, Left}
use Rattle.risc_emit_forms.specs.Forms.{target, save, receive, into, accept}
use Rattle.risc_emit_forms.specs.Follows.{machine_of, Stood}
use Rattle.risc_emit_forms.proofs.Runs.{Aside, Framed, Moved, load_run, step_to, store_run}

module _ (c : Context) (words : List ℕ) (stood : Stood c words) (laid : IsLaid c) (placed : IsPlaced c) (r f : ℕ)
    (framed : Framed c words r f) where
  -- ---- results

  pub record Saves (h : Home) (n len : ℕ) (m0 : Machine) (m : machine.State) (v : View) : Type 0 where
    pub view : View
    pub way : Way words c.size m same_tape view
    pub settled : Settled c r f h n m0 (machine_of view)
    pub kept : view.registers (target c r h) ≡ n
    pub high : view.high ≡ v.high
    -- no word follows where the home is a register
    pub still : (q : ℕ) → h ≡ Reg q → (view.equal ≡ v.equal) × (view.negative ≡ v.negative)
    pub place : view.place ≡ v.place + len

  -- a home whose register holds its word already
  pub in_register : (q n : ℕ) (m0 : Machine) (v : View) → q < 12 → Aside q n m0 v → Settled c r f (Reg q) n m0
      (machine_of v)
  in_register q n m0 v lt a =
      record {
        here = a.here;
        others = other;
        words = λ x side. a.words x;
        globals = a.registers 13 (omega arith) (omega arith) (omega arith);
        stack = a.registers 14 (omega arith) (omega arith) (omega arith);
      }
    where
      other : (g : Home) → g ≢ Reg q → ((x : ℕ) → g ≡ Reg x → x < 12) → value_of c r f (machine_of v) g
          ≡ value_of c r f m0 g
      other (Slot k) ne small = a.words _
      other (Reg x) ne small =
          let far : x ≢ q = λ z. ne (ap Reg z) in
          let l = small x refl in
          a.registers x (omega arith) (omega arith) far

  -- a slot that took what register d held
  pub in_slot : (t k d n : ℕ) (m0 : Machine) (v v' : View) → home c r t ≡ Slot k → m0.registers 14 ≡ f → Near m0
      (machine_of v) → v.registers d ≡ n → ((q : ℕ) → q ≢ 15 → v'.registers q ≡ v.registers q)
      → ((a : ℕ) → v'.words a ≡ update (v.registers 14 + slot_at c r k) (v.registers d) v.words a) → Settled c r f
      (Slot k) n m0 (machine_of v')
  in_slot t k d n m0 v v' is e14 a value regs mem =
      let e : v.registers 14 ≡ f = a.registers 14 (omega arith) (omega arith) ∙ e14 in
      let at : f + slot_at c r k ≡ v.registers 14 + slot_at c r k = ap (λ x. x + slot_at c r k) (sym e) in
      record {
        here = mem _ ∙ ap (update (v.registers 14 + slot_at c r k) (v.registers d) v.words) at ∙ update_same v.words _
            (v.registers d) ∙ value;
        others = other at;
        words = λ x side. mem x ∙ outside x side (laid.slots r t k is) at ∙ a.words x;
        globals = regs 13 (omega arith) ∙ a.registers 13 (omega arith) (omega arith);
        stack = regs 14 (omega arith) ∙ a.registers 14 (omega arith) (omega arith);
      }
    where
      other : f + slot_at c r k ≡ v.registers 14 + slot_at c r k → (g : Home) → g ≢ Slot k
          → ((x : ℕ) → g ≡ Reg x → x < 12) → value_of c r f (machine_of v') g ≡ value_of c r f m0 g
      other at (Slot j) ne small =
          let apart : j ≢ k = λ z. ne (ap Slot z) in
          let far : f + slot_at c r j ≢ v.registers 14 + slot_at c r k = omega (arith, at) in
          mem _ ∙ update_other v.words _ _ _ far ∙ a.words _
      other at (Reg x) ne small =
          let lt = small x refl in
          regs x (omega arith) ∙ a.registers x (omega arith) (omega arith)

      outside : (x : ℕ) → (x < f + c.slots_at r) ⊎ (f + c.frame_at r ≤ x) → slot_at c r k + 4 ≤ c.frame_at r → f
          + slot_at c r k ≡ v.registers 14 + slot_at c r k → update (v.registers 14 + slot_at c r k)
          (v.registers d) v.words x ≡ v.words x
      outside x (inl lt) le at = let far : x ≢ v.registers 14 + slot_at c r k = omega (arith, at)
          in update_other v.words _ _ x far
      outside x (inr ge) le at = let far : x ≢ v.registers 14 + slot_at c r k = omega (arith, at)
          in update_other v.words _ _ x far

  near_aside : (n : ℕ) (m0 : Machine) (v : View) → Aside 12 n m0 v → Near m0 (machine_of v)
  near_aside n m0 v a = record { registers = λ q n12 n15. a.registers q n12 n15 n12; words = a.words }

  pub save_run : (t n : ℕ) (ps : List Piece) (next : ℕ) (m0 : Machine) (m : machine.State) (v : View)
      → Shows words c.size m v → m0.registers 14 ≡ f → Aside (target c r (home c r t)) n m0 v → Left c words v.place
      (save c r (home c r t) ++ ps) next → Saves (home c r t) n (length (save c r (home c r t))) m0 m v
  save_run t n ps next m0 m v sh e14 a l = go (home c r t) refl a l
    where
      go : (h : Home) → home c r t ≡ h → Aside (target c r h) n m0 v → Left c words v.place (save c r h ++ ps) next
          → Saves h n (length (save c r h)) m0 m v
      go (Reg q) is a l =
          record {
            view = v;
            way = way_here words c.size m v sh;
            settled = in_register q n m0 v (placed.register r t q is) a;
            kept = a.here;
            high = refl;
            still = λ x e. (refl, refl);
            place = omega arith;
          }
      go (Slot k) is a l =
          let e : v.registers 14 ≡ f = a.registers 14 (omega arith) (omega arith) (omega arith) ∙ e14 in
          let at : f + slot_at c r k ≡ v.registers 14 + slot_at c r k = ap (λ x. x + slot_at c r k) (sym e) in
          let g = store_run c words stood 12 14 (slot_at c r k) ps next m v sh (omega arith) (omega arith)
          (subst (IsWritable words c.size) at (framed.writable t k is)) l in
          record {
            view = g.view;
            way = way_of words c.size m same_tape g.view g.to;
            settled = in_slot t k 12 n m0 v g.view is e14 (near_aside n m0 v a) a.here g.registers g.memory;
            kept = g.registers 12 (omega arith) ∙ a.here;
            high = g.high;
            still = λ x e. absurd (cc e);
            place = g.place;
          }

  pub record Receives (h : Home) (n len : ℕ) (m0 : Machine) (m : machine.State) (v : View) : Type 0 where
    pub view : View
    pub to : To words c.size m same_tape view
    pub settled : Settled c r f h n m0 (machine_of view)
    pub place : view.place ≡ v.place + len

  pub receive_run : (t n : ℕ) (ps : List Piece) (next : ℕ) (m0 : Machine) (m : machine.State) (v : View)
      → Shows words c.size m v → m0.registers 14 ≡ f → Aside 12 n m0 v → Left c words v.place
      (receive c r (home c r t) ++ ps) next → Receives (home c r t) n (length (receive c r (home c r t))) m0 m v
  receive_run t n ps next m0 m v sh e14 a l = go (home c r t) refl l
    where
      go : (h : Home) → home c r t ≡ h → Left c words v.place (receive c r h ++ ps) next → Receives h n
          (length (receive c r h)) m0 m v
      go (Reg q) is l =
          let i = word.Move q (Content 12) in
          let lt = placed.register r t q is in
          record {
            view = after i v;
            to = step_to c words stood i m v sh l.stands.0 tt;
            settled = in_register q n m0 (after i v) lt (record {
              here = update_same v.registers q _ ∙ a.here;
              registers = λ x n12 n15 far. update_other v.registers q _ x far ∙ a.registers x n12 n15 n12;
              words = a.words;
            });
            place = refl;
          }
      go (Slot k) is l =
          let e : v.registers 14 ≡ f = a.registers 14 (omega arith) (omega arith) (omega arith) ∙ e14 in
          let at : f + slot_at c r k ≡ v.registers 14 + slot_at c r k = ap (λ x. x + slot_at c r k) (sym e) in
          let g = store_run c words stood 12 14 (slot_at c r k) ps next m v sh (omega arith) (omega arith)
          (subst (IsWritable words c.size) at (framed.writable t k is)) l in
          record {
            view = g.view;
            to = g.to;
            settled = in_slot t k 12 n m0 v g.view is e14 (near_aside n m0 v a) a.here g.registers g.memory;
            place = g.place;
          }

  -- ---- the result of a routine

  -- register d took an operand
  pub record Takes (d n len : ℕ) (m : machine.State) (v : View) : Type 0 where
    pub view : View
    pub way : Way words c.size m same_tape view
    pub value : view.registers d ≡ n
    pub moved : Moved d v view
    pub place : view.place ≡ v.place + len

  pub into_run : (d t : ℕ) (ps : List Piece) (next : ℕ) (m : machine.State) (v : View) → Shows words c.size m v → d ≢ 14
      → v.registers 14 ≡ f → Left c words v.place (into c r d (home c r t) ++ ps) next → Takes d
      (value_of c r f (machine_of v) (home c r t)) (length (into c r d (home c r t))) m v
  into_run d t ps next m v sh ne e14 l = go (home c r t) refl l
    where
      by : (q : ℕ) (there : Bool) → nat_eq q d ≡ there → Left c words v.place
          (cond there [] (Plain (word.Move d (Content q)) ∷ []) ++ ps) next → Takes d (v.registers q)
          (length (cond there [] (Plain (word.Move d (Content q)) ∷ []))) m v
      by q true e l =
          record {
            view = v;
            way = way_here words c.size m v sh;
            value = ap v.registers (sym (eqb-true q d e));
            moved = record { registers = λ q ne. refl; words = λ a. refl; high = refl };
            place = omega arith;
          }
      by q false e l =
          let i = word.Move d (Content q) in
          record {
            view = after i v;
            way = way_of words c.size m same_tape (after i v) (step_to c words stood i m v sh l.stands.0 tt);
            value = update_same v.registers d _;
            moved = record { registers = λ q ne. update_other v.registers d _ q ne; words = λ a. refl; high = refl };
            place = refl;
          }

      go : (h : Home) → home c r t ≡ h → Left c words v.place (into c r d h ++ ps) next → Takes d
          (value_of c r f (machine_of v) h) (length (into c r d h)) m v
      go (Reg q) is l = by q (nat_eq q d) refl l
      go (Slot k) is l =
          let at : f + slot_at c r k ≡ v.registers 14 + slot_at c r k = ap (λ x. x + slot_at c r k) (sym e14) in
          let ne' : 14 ≢ d = λ e. ne (sym e) in
          let g = load_run c words stood d 14 (slot_at c r k) ps next m v sh ne'
          (subst (IsReadable c.size) at (framed.readable t k is)) l in
          record {
            view = g.view;
            way = way_of words c.size m same_tape g.view g.to;
            value = g.value ∙ ap v.words (sym at);
            moved = g.moved;
            place = g.place;
          }

  pub record Accepts (h : Home) (n len : ℕ) (m : machine.State) (v : View) : Type 0 where
    pub view : View
    pub way : Way words c.size m same_tape view
    pub settled : Settled c r f h n (machine_of v) (machine_of view)
    pub place : view.place ≡ v.place + len

  pub accept_run : (t n : ℕ) (ps : List Piece) (next : ℕ) (m : machine.State) (v : View) → Shows words c.size m v
      → v.registers 14 ≡ f → v.registers 0 ≡ n → Left c words v.place (accept c r (home c r t) ++ ps) next → Accepts
      (home c r t) n (length (accept c r (home c r t))) m v
  accept_run t n ps next m v sh e14 e0 l = go (home c r t) refl l
    where
      by : (q : ℕ) → q < 12 → (there : Bool) → nat_eq q 0 ≡ there → Left c words v.place
          (cond there [] (Plain (word.Move q (Content 0)) ∷ []) ++ ps) next → Accepts (Reg q) n
          (length (cond there [] (Plain (word.Move q (Content 0)) ∷ []))) m v
      by q lt true e l =
          record {
            view = v;
            way = way_here words c.size m v sh;
            settled = in_register q n (machine_of v) v lt (record {
              here = ap v.registers (eqb-true q 0 e) ∙ e0;
              registers = λ x n12 n15 far. refl;
              words = λ a. refl;
            });
            place = omega arith;
          }
      by q lt false e l =
          let i = word.Move q (Content 0) in
          record {
            view = after i v;
            way = way_of words c.size m same_tape (after i v) (step_to c words stood i m v sh l.stands.0 tt);
            settled = in_register q n (machine_of v) (after i v) lt (record {
              here = update_same v.registers q _ ∙ e0;
              registers = λ x n12 n15 far. update_other v.registers q _ x far;
              words = λ a. refl;
            });
            place = refl;
          }

      go : (h : Home) → home c r t ≡ h → Left c words v.place (accept c r h ++ ps) next → Accepts h n
          (length (accept c r h)) m v
      go (Reg q) is l = by q (placed.register r t q is) (nat_eq q 0) refl l
      go (Slot k) is l =
          let at : f + slot_at c r k ≡ v.registers 14 + slot_at c r k = ap (λ x. x + slot_at c r k) (sym e14) in
          let g = store_run c words stood 0 14 (slot_at c r k) ps next m v sh (omega arith) (omega arith)
          (subst (IsWritable words c.size) at (framed.writable t k is)) l in
          record {
            view = g.view;
            way = way_of words c.size m same_tape g.view g.to;
            settled = in_slot t k 0 n (machine_of v) v g.view is e14 (record {
              registers = λ q n12 n15. refl;
              words = λ a. refl;
            }) e0 g.registers g.memory;
            place = g.place;
          }
