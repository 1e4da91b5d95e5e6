-- Operands passed into the caller's frame.
use Rattle.std.proofs.Common.{◌≡◌, ◌≢◌, ℕ, zero, suc, ◌+◌, ◌*◌, ◌%◌, ◌<◌, ◌≤◌, ◌⊎◌, inl, inr, ⊎_elim, Bool, true, false}
use Rattle.std.proofs.Common.{cond, List, [], ◌∷◌, ◌++◌, length, Option, Some, None, slice_get, pos, refl, sym, ap, ◌∙◌}
use Rattle.std.proofs.Common.{subst, arith, length-append, append_assoc}
use Rattle.risc_word.specs.declared.instr.Width.TheVariants.{Word}
use Rattle.risc_word.specs.declared.instr.Instr.{Instr}
use Rattle.risc_word.specs.declared.instr.Instr.TheVariants as word
use Rattle.risc_machine.specs.Step as machine
use Rattle.risc_machine_laws.specs.View.{View, Shows, IsWritable, after}
use Rattle.risc_machine_laws.specs.Runs.{Way, same_tape}
use Rattle.risc_machine_laws.proofs.Runs.{way_here, way_of, way_then}
use Rattle.tac_code.specs.declared.code.Value.{Value}
use Rattle.tac_code.specs.Meaning.{State, Temporaries, and_more, values_of}
use Rattle.risc_alloc.specs.declared.homes.Home.{Home}
use Rattle.risc_alloc.specs.declared.homes.Home.TheVariants.{Slot, Reg}
use Rattle.risc_emit_relation.specs.Context.{Context, home, is_program, Places}
use Rattle.risc_emit_relation.specs.Context as ctx
use Rattle.risc_emit_relation.specs.Related.{Machine, value_of, Related, owner_of}
use Rattle.risc_emit_relation.proofs.Basics.{update_same, update_other}
use Rattle.risc_emit_relation.proofs.Frames.{program_room, open_bottom, inside_program}
use Rattle.risc_emit_relation.proofs.Kept.{objects_keep}
use Rattle.risc_emit_forms.specs.Pieces.{Piece, Plain, Left}
use Rattle.risc_emit_forms.specs.Forms.{is_stored, stands, fetched, pass_one, pass}
use Rattle.risc_emit_forms.specs.Forms as form
use Rattle.risc_emit_forms.specs.Follows.{machine_of, Built}
use Rattle.risc_emit_forms.proofs.Basics.{left_after}
use Rattle.risc_emit_forms.proofs.Runs.{Framed, step_to}
use Rattle.risc_emit_forms.proofs.Fetches.{fetch_run}

pub append_nil : (ps : List Piece) → ps ++ [] ≡ ps
append_nil [] = refl
append_nil (p ∷ ps) = ap (λ l. p ∷ l) (append_nil ps)

pub and_more_some : (o : Option Value) (rest : Option (List Value)) (vs : List Value) → and_more o rest ≡ Some vs
    → (v : Value) × (ws : List Value) × (o ≡ Some v) × (rest ≡ Some ws) × (vs ≡ v ∷ ws)
and_more_some None rest vs e = absurd (cc e)
and_more_some (Some v) None vs e = absurd (cc e)
and_more_some (Some v) (Some ws) vs e = (v, ws, refl, refl, sym (cc e))

-- a value that is passed is that of an operand
pub value_of_operand : (ts : Temporaries) (us : List ℕ) (vs : List Value) (j : ℕ) (x : Value) → values_of ts us
    ≡ Some vs → slice_get vs j ≡ Some x → (u : ℕ) × (slice_get us j ≡ Some u) × (ts u ≡ Some x)
value_of_operand ts [] vs j x e is =
    let none : [] ≡ vs = cc e in
    let z : slice_get [] j ≡ Some x = subst (λ l. slice_get l j ≡ Some x) (sym none) is in
    absurd (cc z)
value_of_operand ts (u ∷ us) vs zero x e is =
    let b = and_more_some (ts u) (values_of ts us) vs e in
    let z : slice_get (b.0 ∷ b.1) 0 ≡ Some x = subst (λ l. slice_get l 0 ≡ Some x) b.4 is in
    let y : b.0 ≡ x = cc z in
    (u, refl, b.2 ∙ ap Some y)
value_of_operand ts (u ∷ us) vs (suc j) x e is =
    let b = and_more_some (ts u) (values_of ts us) vs e in
    value_of_operand ts us b.1 j x b.3 (subst (λ l. slice_get l (suc j) ≡ Some x) b.4 is)

module _ (c : Context) (words : List ℕ) (b : Built c words) (p : Places) (r f : ℕ) (framed : Framed c words r f)
    (prog : is_program c r ≡ true) (al : f % 4 ≡ 0) (low : c.base ≤ f) (top : f + c.used r ≤ c.size) where
  pub home_on : (v v2 : View) (t : ℕ) → ((a : ℕ) → f + 276 ≤ a → v2.words a ≡ v.words a)
      → ((z : ℕ) → z ≢ 12 → v2.registers z ≡ v.registers z) → value_of c r f (machine_of v2) (home c r t)
      ≡ value_of c r f (machine_of v) (home c r t)
  home_on v v2 t same regs = go (home c r t) refl
    where
      go : (g : Home) → home c r t ≡ g → value_of c r f (machine_of v2) g ≡ value_of c r f (machine_of v) g
      go (Slot j) e = let q = program_room c b.laid p r prog in same _ (omega (arith, q.0))
      go (Reg z) e = let lt = b.placed.register r t z e in regs z (omega arith)

  -- operand k went through the frame, if it does
  pub record Stored (n k : ℕ) (h : Home) (x : Value) (len : ℕ) (m : machine.State) (v : View) : Type 0 where
    pub view : View
    pub way : Way words c.size m same_tape view
    pub registers : (q : ℕ) → q ≢ 12 → view.registers q ≡ v.registers q
    pub same : (a : ℕ) → a ≢ f + 8 + 4 * k → view.words a ≡ v.words a
    pub there : is_stored n k h ≡ true → view.words (f + 8 + 4 * k) ≡ ctx.word c p x
    pub place : view.place ≡ v.place + len

  pass_one_run : (n k u : ℕ) (x : Value) (ps : List Piece) (next : ℕ) (m : machine.State) (v : View)
      → Shows words c.size m v → Left c words v.place (pass_one c r n k (home c r u) ++ ps) next → v.registers 14 ≡ f
      → k < 65 → value_of c r f (machine_of v) (home c r u) ≡ ctx.word c p x → Stored n k (home c r u) x
      (length (pass_one c r n k (home c r u))) m v
  pass_one_run n k u x ps next m v sh l e14 room hv = go (is_stored n k (home c r u)) refl l
    where
      assoc : (xs : List Piece) (i : Instr) (zs : List Piece) → (xs ++ (Plain i ∷ [])) ++ zs ≡ xs ++ (Plain i ∷ zs)
      assoc [] i zs = refl
      assoc (x ∷ xs) i zs = ap (λ l. x ∷ l) (assoc xs i zs)

      go : (t : Bool) → is_stored n k (home c r u) ≡ t → Left c words v.place
          (cond t (form.fetch c r 12 (home c r u)
          ++ (Plain (word.Store Word (fetched c r 12 (home c r u)) 14 (pos (8 + 4 * k))) ∷ [])) [] ++ ps) next
          → Stored n k (home c r u) x (length (cond t
          (form.fetch c r 12 (home c r u) ++ (Plain (word.Store Word (fetched c r 12 (home c r u)) 14 (pos (8 + 4 * k)))
          ∷ [])) [])) m v
      go false is l =
          record {
            view = v;
            way = way_here words c.size m v sh;
            registers = λ q ne. refl;
            same = λ a ne. refl;
            there = λ e. let no : true ≡ false = sym e ∙ is in absurd (cc no);
            place = omega arith;
          }
      go true is l =
          let h = home c r u in
          let q = program_room c b.laid p r prog in
          let i = word.Store Word (fetched c r 12 h) 14 (pos (8 + 4 * k)) in
          let l0 = subst (λ z. Left c words v.place z next) (assoc (form.fetch c r 12 h) i ps) l in
          let f1 = fetch_run c words b.stood b.laid b.placed r f framed 12 u (Plain i ∷ ps) next m v sh
          (omega arith) e14 l0 in
          let v1 = f1.view in
          let l1 = left_after c words v.place v1.place next (form.fetch c r 12 h) (Plain i ∷ ps) l0 f1.place in
          let e14' : v1.registers 14 ≡ f = f1.moved.registers 14 (omega arith) ∙ e14 in
          let fine : IsWritable words c.size (v1.registers 14 + (8 + 4 * k)) = record {
            aligned = omega (arith, e14', al);
            low = omega (arith, e14', low, b.stood.code, b.laid.order.1);
            high = omega (arith, e14', top, q.0, q.1, q.2, q.3, room);
          } in
          let t = step_to c words b.stood i f1.way.to v1 f1.way.shows l1.stands.0 (tt, fine) in
          let aim : v1.registers 14 + (8 + 4 * k) ≡ f + 8 + 4 * k = omega (arith, e14') in
          record {
            view = after i v1;
            way = way_then words c.size m same_tape same_tape v1 (after i v1) f1.way
                (way_of words c.size f1.way.to same_tape (after i v1) t);
            registers = λ z ne. f1.moved.registers z ne;
            same = λ a ne. let far : a ≢ v1.registers 14 + (8 + 4 * k) = omega (arith, aim)
                in update_other v1.words _ _ a far ∙ f1.moved.words a;
            there = λ e. ap (after i v1).words (sym aim) ∙ update_same v1.words _ _ ∙ f1.value ∙ hv;
            place = let z = length-append (form.fetch c r 12 h) (Plain i ∷ []) in omega (arith, f1.place, z);
          }

  -- so did those from number k on
  pub record Passed (n k : ℕ) (us : List ℕ) (vs : List Value) (len : ℕ) (m : machine.State) (v : View) : Type 0 where
    pub view : View
    pub way : Way words c.size m same_tape view
    pub registers : (q : ℕ) → q ≢ 12 → view.registers q ≡ v.registers q
    pub same : (a : ℕ) → (a < f + 8 + 4 * k) ⊎ (f + 268 ≤ a) → view.words a ≡ v.words a
    pub stored : (j u : ℕ) (x : Value) → slice_get us j ≡ Some u → slice_get vs j ≡ Some x → is_stored n (k + j)
        (home c r u) ≡ true → view.words (f + 8 + 4 * (k + j)) ≡ ctx.word c p x
    pub place : view.place ≡ v.place + len

  pub pass_run : (n k : ℕ) (ts : Temporaries) (us : List ℕ) (vs : List Value) (ps : List Piece) (next : ℕ)
      (m : machine.State) (v : View) → Shows words c.size m v → Left c words v.place (pass c r n k us ++ ps) next
      → v.registers 14 ≡ f → k + length us ≤ 65 → values_of ts us ≡ Some vs
      → ((j u : ℕ) (x : Value) → slice_get us j ≡ Some u → ts u ≡ Some x → value_of c r f (machine_of v) (home c r u)
      ≡ ctx.word c p x) → Passed n k us vs (length (pass c r n k us)) m v
  pass_run n k ts [] vs ps next m v sh l e14 room ev hv =
      record {
        view = v;
        way = way_here words c.size m v sh;
        registers = λ q ne. refl;
        same = λ a side. refl;
        stored = λ j u x eu e st. absurd (cc eu);
        place = omega arith;
      }
  pass_run n k ts (u ∷ us) vs ps next m v sh l e14 room ev hv =
      let both = and_more_some (ts u) (values_of ts us) vs ev in
      let x = both.0 in
      let h = home c r u in
      let first = pass_one c r n k h in
      let rest = pass c r n (suc k) us in
      let l0 = subst (λ z. Left c words v.place z next) (append_assoc first rest ps) l in
      let o = pass_one_run n k u x (rest ++ ps) next m v sh l0 e14 (omega (arith, room)) (hv 0 u x refl both.2) in
      let v2 = o.view in
      let l2 = left_after c words v.place v2.place next first (rest ++ ps) l0 o.place in
      let hv' : (j w : ℕ) (y : Value) → slice_get us j ≡ Some w → ts w ≡ Some y → value_of c r f (machine_of v2)
      (home c r w) ≡ ctx.word c p y = λ j w y e e'. home_on v v2 w
      (λ a le. o.same a (omega (arith, room))) o.registers ∙ hv (suc j) w y e e' in
      let tail = pass_run n (suc k) ts us both.1 ps next o.way.to v2 o.way.shows l2 (o.registers 14 (omega arith) ∙ e14)
      (omega (arith, room)) both.3 hv' in
      record {
        view = tail.view;
        way = way_then words c.size m same_tape same_tape v2 tail.view o.way tail.way;
        registers = λ z ne. tail.registers z ne ∙ o.registers z ne;
        same = λ a side. kept_outside v2 tail.view tail.same o.same a (omega (arith, room)) side;
        stored = λ j w y ew e st. by_number v2 tail.view x both.1 tail.same tail.stored o.there both.4 j w y ew e st;
        place = let z = length-append first rest in omega (arith, tail.place, o.place, z);
      }
    where
      kept_outside : (v2 v3 : View) → ((a : ℕ) → (a < f + 8 + 4 * (suc k)) ⊎ (f + 268 ≤ a) → v3.words a ≡ v2.words a)
          → ((a : ℕ) → a ≢ f + 8 + 4 * k → v2.words a ≡ v.words a) → (a : ℕ) → k < 65 → (a < f + 8 + 4 * k)
          ⊎ (f + 268 ≤ a) → v3.words a ≡ v.words a
      kept_outside v2 v3 s o a lt (inl side) = s a (inl (omega arith)) ∙ o a (omega arith)
      kept_outside v2 v3 s o a lt (inr side) = s a (inr side) ∙ o a (omega arith)

      by_number : (v2 v3 : View) (x : Value) (ws : List Value)
          → ((a : ℕ) → (a < f + 8 + 4 * (suc k)) ⊎ (f + 268 ≤ a) → v3.words a ≡ v2.words a)
          → ((j w : ℕ) (y : Value) → slice_get us j ≡ Some w → slice_get ws j ≡ Some y → is_stored n (suc k + j)
          (home c r w) ≡ true → v3.words (f + 8 + 4 * (suc k + j)) ≡ ctx.word c p y)
          → (is_stored n k (home c r u) ≡ true → v2.words (f + 8 + 4 * k) ≡ ctx.word c p x) → vs ≡ x ∷ ws → (j w : ℕ)
          (y : Value) → slice_get (u ∷ us) j ≡ Some w → slice_get vs j ≡ Some y → is_stored n (k + j) (home c r w)
          ≡ true → v3.words (f + 8 + 4 * (k + j)) ≡ ctx.word c p y
      by_number v2 v3 x ws s o here is zero w y ew e st =
          let e' : slice_get (x ∷ ws) 0 ≡ Some y = subst (λ l. slice_get l 0 ≡ Some y) is e in
          let xy : x ≡ y = cc e' in
          let uw : u ≡ w = cc ew in
          let first : k + 0 ≡ k = omega arith in
          let at : f + 8 + 4 * (k + 0) ≡ f + 8 + 4 * k = omega arith in
          let st' : is_stored n k (home c r u) ≡ true = ap (λ z. is_stored n z (home c r u)) (sym first)
          ∙ ap (λ z. is_stored n (k + 0) (home c r z)) uw ∙ st in
          ap v3.words at ∙ s (f + 8 + 4 * k) (inl (omega arith)) ∙ here st' ∙ ap (ctx.word c p) xy
      by_number v2 v3 x ws s o here is (suc j) w y ew e st =
          let e' : slice_get (x ∷ ws) (suc j) ≡ Some y = subst (λ l. slice_get l (suc j) ≡ Some y) is e in
          let after : k + suc j ≡ suc k + j = omega arith in
          let at : f + 8 + 4 * (k + suc j) ≡ f + 8 + 4 * (suc k + j) = omega arith in
          ap v3.words at ∙ o j w y ew e' (ap (λ z. is_stored n z (home c r w)) (sym after) ∙ st)

-- the relation is not touched by operands that were passed
pub related_passed : (c : Context) (words : List ℕ) (b : Built c words) (p : Places) (s : State) (m m' : Machine)
    (f : ℕ) → Related c p s m f → is_program c s.current.routine ≡ true
    → ((q : ℕ) → q ≢ 12 → q ≢ 15 → m'.registers q ≡ m.registers q)
    → ((a : ℕ) → (a < f + 8) ⊎ (f + 268 ≤ a) → m'.words a ≡ m.words a) → Related c p s m' f
related_passed c words b p s m m' f h prog regs same =
    let r = s.current.routine in
    let k = program_room c b.laid p r prog in
    let under : f ≤ c.bottom = ⊎_elim (λ e. omega (arith, e.0)) (λ le. omega arith)
    (open_bottom c b.laid p m.words f (owner_of s.current) s.callers s.memory.frames s.memory.scratch h.held.frames)
    in
    record {
      stack = regs 14 (omega arith) (omega arith) ∙ h.stack;
      globals = regs 13 (omega arith) (omega arith) ∙ h.globals;
      held = record {
        aligned = h.held.aligned;
        low = h.held.low;
        frames = inside_program c b.laid p m.words m'.words f
            (owner_of s.current) s.callers s.memory.frames s.memory.scratch prog
            (λ a le side. wide k.0 k.1 a side) h.held.frames;
        objects = objects_keep c b.laid p m.words m'.words s.memory.objects _
            (λ a hi. same a (inl (omega (arith, hi, h.held.room, h.held.low)))) h.held.objects;
        limit = same _ (inr (omega (arith, under))) ∙ h.held.limit;
        next = same _ (inr (omega (arith, under))) ∙ h.held.next;
        room = h.held.room;
        whole = h.held.whole;
        count = h.held.count;
        some = h.held.some;
        program = h.held.program;
        places = h.held.places;
      };
      homes = λ u x live e. let v = h.homes u x live e in (v.0, home_same u (home c r u) refl k.0 ∙ v.1);
    }
  where
    wide : 276 ≤ c.slots_at s.current.routine → c.slots_at s.current.routine ≤ c.frame_at s.current.routine → (a : ℕ)
        → (a < f + 8) ⊎ (f + c.frame_at s.current.routine ≤ a) → m'.words a ≡ m.words a
    wide k0 k1 a (inl lt) = same a (inl lt)
    wide k0 k1 a (inr ge) = same a (inr (omega arith))

    home_same : (u : ℕ) (g : Home) → home c s.current.routine u ≡ g → 276 ≤ c.slots_at s.current.routine
        → value_of c s.current.routine f m' g ≡ value_of c s.current.routine f m g
    home_same u (Slot j) e le = same _ (inr (omega arith))
    home_same u (Reg q) e le = let lt = b.placed.register s.current.routine u q e in regs q (omega arith) (omega arith)
