-- Operands that are carried in registers, each in that of its number.
use Rattle.std.proofs.Common.{◌≡◌, ◌≢◌, ℕ, zero, suc, ◌+◌, ◌*◌, ◌%◌, ◌<◌, ◌≤◌, ◌⊎◌, inl, inr, ⊎_elim, Bool, true, false}
use Rattle.std.proofs.Common.{cond, ◌&&◌, nat_lt, List, [], ◌∷◌, ◌++◌, length, Some, slice_get, slice_index, pos, refl}
use Rattle.std.proofs.Common.{ap, ◌∙◌, subst, arith, length-append, append_assoc}
use Rattle.std.proofs.lemmas.Bool.{cases_eq}
use Rattle.risc_word.specs.declared.instr.Width.TheVariants.{Word}
use Rattle.risc_word.specs.declared.instr.Instr.TheVariants as word
use Rattle.risc_machine.specs.Step as machine
use Rattle.risc_machine_laws.specs.View.{View, Shows, IsReadable, after}
use Rattle.risc_machine_laws.specs.Runs.{Way, same_tape}
use Rattle.risc_machine_laws.proofs.Runs.{way_here, way_of, way_then}
use Rattle.tac_code.specs.declared.code.Value.{Value}
use Rattle.risc_alloc.specs.declared.homes.Home.{Home}
use Rattle.risc_alloc.specs.declared.homes.Home.TheVariants.{Slot, Reg}
use Rattle.risc_emit_relation.specs.Context.{Context, home, is_program, Places}
use Rattle.risc_emit_relation.specs.Context as ctx
use Rattle.risc_emit_relation.specs.Related.{value_of}
use Rattle.risc_emit_relation.proofs.Basics.{update_same, update_other}
use Rattle.risc_emit_relation.proofs.Frames.{program_room}
use Rattle.risc_emit_forms.specs.Pieces.{Piece, Plain, Left}
use Rattle.risc_emit_forms.specs.Forms.{is_taken, into, carry_one, carry}
use Rattle.risc_emit_forms.specs.Follows.{machine_of, Built}
use Rattle.risc_emit_forms.proofs.Basics.{left_after}
use Rattle.risc_emit_forms.proofs.Runs.{Framed, step_to}
use Rattle.risc_emit_forms.proofs.Results.{into_run}

module _ (c : Context) (words : List ℕ) (b : Built c words) (p : Places) (r f : ℕ) (framed : Framed c words r f)
    (prog : is_program c r ≡ true) (al : f % 4 ≡ 0) (low : c.base ≤ f) (top : f + c.used r ≤ c.size) where
  -- ---- operands that are carried in registers

  module _ (n : ℕ) (few : n ≤ 8) (us : List ℕ) (vs : List Value) (v0 : View)
      (stored : (j : ℕ) (x : Value) → j < n → slice_get vs j ≡ Some x → is_taken n j (home c r (slice_index us j))
      ≡ true → v0.words (f + 8 + 4 * j) ≡ ctx.word c p x)
      (hv : (j : ℕ) (x : Value) → j < n → slice_get vs j ≡ Some x
      → value_of c r f (machine_of v0) (home c r (slice_index us j)) ≡ ctx.word c p x) where
    -- the words are as before, and so are the registers that have no operand of those from number j on
    record Kept (j : ℕ) (v : View) : Type 0 where
      memory : (a : ℕ) → v.words a ≡ v0.words a
      registers : (q : ℕ) → (q < j) ⊎ (n ≤ q) → v.registers q ≡ v0.registers q

    record CarriedOne (j len : ℕ) (m : machine.State) (v : View) : Type 0 where
      view : View
      way : Way words c.size m same_tape view
      memory : (a : ℕ) → view.words a ≡ v.words a
      registers : (q : ℕ) → q ≢ j → view.registers q ≡ v.registers q
      value : (x : Value) → slice_get vs j ≡ Some x → view.registers j ≡ ctx.word c p x
      place : view.place ≡ v.place + len

    not_taken : (j q : ℕ) (s t : Bool) → nat_lt j q ≡ s → nat_lt q n ≡ t → s && t ≡ false → (q < suc j) ⊎ (n ≤ q)
    not_taken j q true true es et e = absurd (cc e)
    not_taken j q true false es et e = inr (not_less q n et)
      where
        not_less : (x y : ℕ) → nat_lt x y ≡ false → y ≤ x
        not_less x y e = grind arith
    not_taken j q false t es et e = inl (let le = not_less j q es in omega (arith, le))
      where
        not_less : (x y : ℕ) → nat_lt x y ≡ false → y ≤ x
        not_less x y e = grind arith

    -- what is not taken is as it was
    stood_on : (j : ℕ) (v : View) (h : Home) → Kept (suc j) v → is_taken n j h ≡ false → value_of c r f (machine_of v) h
        ≡ value_of c r f (machine_of v0) h
    stood_on j v (Slot k) kept e = kept.memory _
    stood_on j v (Reg q) kept e = kept.registers q (not_taken j q (nat_lt j q) (nat_lt q n) refl refl e)

    carry_one_run : (j : ℕ) (ps : List Piece) (next : ℕ) (m : machine.State) (v : View) → Shows words c.size m v
        → Left c words v.place (carry_one c r n j (home c r (slice_index us j)) ++ ps) next → j < n → v.registers 14 ≡ f
        → Kept (suc j) v → CarriedOne j (length (carry_one c r n j (home c r (slice_index us j)))) m v
    carry_one_run j ps next m v sh l lt e14 kept = go (is_taken n j (home c r (slice_index us j))) refl l
      where
        go : (t : Bool) → is_taken n j (home c r (slice_index us j)) ≡ t → Left c words v.place
            (cond t (Plain (word.Load Word j 14 (pos (8 + 4 * j))) ∷ []) (into c r j (home c r (slice_index us j)))
            ++ ps) next → CarriedOne j (length (cond t (Plain (word.Load Word j 14 (pos (8 + 4 * j))) ∷ [])
            (into c r j (home c r (slice_index us j))))) m v
        go true is l =
            let q = program_room c b.laid p r prog in
            let i = word.Load Word j 14 (pos (8 + 4 * j)) in
            let ok : IsReadable c.size (v.registers 14 + (8 + 4 * j)) = record {
              aligned = omega (arith, e14, al);
              high = omega (arith, e14, top, q.0, q.1, q.2, q.3, few, lt);
            } in
            let aim : v.registers 14 + (8 + 4 * j) ≡ f + 8 + 4 * j = omega (arith, e14) in
            record {
              view = after i v;
              way = way_of words c.size m same_tape (after i v) (step_to c words b.stood i m v sh l.stands.0 (tt, ok));
              memory = λ a. refl;
              registers = λ z ne. update_other v.registers j _ z ne;
              value = λ x e. update_same v.registers j _ ∙ ap v.words aim ∙ kept.memory _ ∙ stored j x lt e is;
              place = refl;
            }
        go false is l =
            let g = into_run c words b.stood b.laid b.placed r f framed j (slice_index us j) ps next m v sh
            (omega (arith, lt, few)) e14 l in
            record {
              view = g.view;
              way = g.way;
              memory = g.moved.words;
              registers = g.moved.registers;
              value = λ x e. g.value ∙ stood_on j v (home c r (slice_index us j)) kept is ∙ hv j x lt e;
              place = g.place;
            }

    pub record Carried (len : ℕ) (m : machine.State) (v : View) : Type 0 where
      pub view : View
      pub way : Way words c.size m same_tape view
      pub memory : (a : ℕ) → view.words a ≡ v0.words a
      pub registers : (q : ℕ) → n ≤ q → view.registers q ≡ v0.registers q
      pub there : (j : ℕ) (x : Value) → j < n → slice_get vs j ≡ Some x → view.registers j ≡ ctx.word c p x
      pub place : view.place ≡ v.place + len

    carry_run : (j : ℕ) (ps : List Piece) (next : ℕ) (m : machine.State) (v : View) → Shows words c.size m v
        → Left c words v.place (carry c r n j us ++ ps) next → j ≤ n → v.registers 14 ≡ f → Kept j v
        → ((i : ℕ) (x : Value) → j ≤ i → i < n → slice_get vs i ≡ Some x → v.registers i ≡ ctx.word c p x) → Carried
        (length (carry c r n j us)) m v
    carry_run zero ps next m v sh l le e14 kept done =
        record {
          view = v;
          way = way_here words c.size m v sh;
          memory = kept.memory;
          registers = λ q ge. kept.registers q (inr ge);
          there = λ i x lt e. done i x (omega arith) lt e;
          place = omega arith;
        }
    carry_run (suc j) ps next m v sh l le e14 kept done =
        let first = carry_one c r n j (home c r (slice_index us j)) in
        let rest = carry c r n j us in
        let l0 = subst (λ z. Left c words v.place z next) (append_assoc first rest ps) l in
        let o = carry_one_run j (rest ++ ps) next m v sh l0 (omega (arith, le)) e14 kept in
        let v2 = o.view in
        let l2 = left_after c words v.place v2.place next first (rest ++ ps) l0 o.place in
        let kept' : Kept j v2 = record {
          memory = λ a. o.memory a ∙ kept.memory a;
          registers = λ q side. o.registers q (apart q side) ∙ kept.registers q (wider q side);
        } in
        let done' : (i : ℕ) (x : Value) → j ≤ i → i < n → slice_get vs i ≡ Some x → v2.registers i
        ≡ ctx.word c p x = λ i x ge lt e. ⊎_elim
        (λ (same : i ≡ j). ap v2.registers same ∙ o.value x (subst (λ z. slice_get vs z ≡ Some x) same e))
        (λ (ne : i ≢ j). o.registers i ne ∙ done i x (omega arith) lt e) (cases_eq i j) in
        let tail = carry_run j ps next o.way.to v2 o.way.shows l2 (omega (arith, le))
        (o.registers 14 (omega (arith, le, few)) ∙ e14) kept' done' in
        record {
          view = tail.view;
          way = way_then words c.size m same_tape same_tape v2 tail.view o.way tail.way;
          memory = tail.memory;
          registers = tail.registers;
          there = tail.there;
          place = let z = length-append first rest in omega (arith, tail.place, o.place, z);
        }
      where
        apart : (q : ℕ) → (q < j) ⊎ (n ≤ q) → q ≢ j
        apart q (inl lt) = omega arith
        apart q (inr ge) = omega arith

        wider : (q : ℕ) → (q < j) ⊎ (n ≤ q) → (q < suc j) ⊎ (n ≤ q)
        wider q (inl lt) = inl (omega arith)
        wider q (inr ge) = inr ge

    -- all of them
    pub carried_run : (ps : List Piece) (next : ℕ) (m : machine.State) → Shows words c.size m v0 → Left c words v0.place
        (carry c r n n us ++ ps) next → v0.registers 14 ≡ f → Carried (length (carry c r n n us)) m v0
    carried_run ps next m sh l e14 =
        carry_run n ps next m v0 sh l (omega arith) e14 (record {
          memory = λ a. refl;
          registers = λ q side. refl;
        }) (λ i x ge lt e. absurd (omega (arith, ge, lt)))
