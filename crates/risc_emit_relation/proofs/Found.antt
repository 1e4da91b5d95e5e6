-- Where the live blocks are.
use Rattle.std.proofs.Common.{◌≡◌, ℕ, ◌+◌, ◌%◌, ◌≤◌, Bool, true, false, cond, nat_eq, List, [], ◌∷◌, Some, refl, sym}
use Rattle.std.proofs.Common.{ap, ◌∙◌, subst, arith}
use Rattle.std.proofs.lemmas.Bool.{eqb-true}
use Rattle.tac_code.specs.declared.code.Block.{Block}
use Rattle.tac_code.specs.declared.code.Block.TheVariants.{Frame, Scratch, Object, Constant}
use Rattle.tac_code.specs.Memory.{Words, Living, living, words_in}
use Rattle.tac_code.specs.Meaning.{Activation, State, text_at}
use Rattle.risc_emit_relation.specs.Context.{Context, is_program, cost, Places, place, IsLaid}
use Rattle.risc_emit_relation.specs.Related.{Holds, Owner, owner_of, Own, Open, Held}
use Rattle.risc_emit_relation.proofs.Frames.{open_room}
use Rattle.risc_emit_relation.specs.Changes.{Found, ConstantsStand}

module _ (c : Context) (laid : IsLaid c) (p : Places) (w : ℕ → ℕ) where
  own_frame : (f : ℕ) (y : Owner) (b d : Living) (n : ℕ) → f % 4 ≡ 0 → f + c.used y.routine ≤ c.size → Own c p w f y b d
      → b.number ≡ n → Found c p w (p.frame n) b.words
  own_frame f y b d n al top o e =
      let at : p.frame n ≡ f + c.frame_at y.routine = ap p.frame (sym e ∙ o.frame_number) ∙ o.frame_place in
      let lf = laid.frame y.routine o.routine o.is in
      let ls = laid.scratch y.routine o.routine o.is in
      let ar = laid.aligned y.routine in
      record {
        aligned = omega (arith, at, al, ar.2);
        high = omega (arith, at, lf.1, ls.1, o.frame_length, top);
        holds = subst (λ a. Holds c p w a b.words) (sym at) o.frame;
      }

  own_scratch : (f : ℕ) (y : Owner) (b d : Living) (n : ℕ) → f % 4 ≡ 0 → f + c.used y.routine ≤ c.size
      → Own c p w f y b d → d.number ≡ n → Found c p w (p.scratch n) d.words
  own_scratch f y b d n al top o e =
      let at : p.scratch n ≡ f + c.scratch_at y.routine = ap p.scratch (sym e ∙ o.scratch_number) ∙ o.scratch_place in
      let ls = laid.scratch y.routine o.routine o.is in
      let ar = laid.aligned y.routine in
      record {
        aligned = omega (arith, at, al, ar.3);
        high = omega (arith, at, ls.1, o.scratch_length, top);
        holds = subst (λ a. Holds c p w a d.words) (sym at) o.scratch;
      }

  pub cost_aligned : (r : ℕ) → cost c r % 4 ≡ 0
  cost_aligned r = by_kind (is_program c r) refl
    where
      by_kind : (t : Bool) → is_program c r ≡ t → cond t (c.costs r) 0 % 4 ≡ 0
      by_kind true e = laid.whole r
      by_kind false e = refl

  pub frame_found : (f : ℕ) (y : Owner) (xs : List Activation) (bs ds : List Living) (n : ℕ) (ws : Words) → f % 4 ≡ 0
      → Open c p w f y xs bs ds → living bs n ≡ Some ws → Found c p w (p.frame n) ws
  frame_found f y xs [] ds n ws al h e = absurd h
  frame_found f y xs (b ∷ bs) [] n ws al h e = absurd h
  frame_found f y [] (b ∷ bs) (d ∷ ds) n ws al h e = go (nat_eq b.number n) refl e
    where
      go : (t : Bool) → nat_eq b.number n ≡ t → cond t (Some b.words) (living bs n) ≡ Some ws → Found c p w
          (p.frame n) ws
      go true is e = let same : b.words ≡ ws = cc e in subst (Found c p w (p.frame n)) same
          (own_frame f y b d n al (open_room c laid p w f y [] (b ∷ bs) (d ∷ ds) h) h.0 (eqb-true b.number n is))
      go false is e = let none : living [] n ≡ Some ws = subst (λ l. living l n ≡ Some ws) h.2 e in absurd (cc none)
  frame_found f y (x ∷ xs) (b ∷ bs) (d ∷ ds) n ws al h e =
      go (λ k. frame_found (f + cost c y.routine) (owner_of x) xs bs ds n ws
      (let a = cost_aligned y.routine in omega (arith, al, a)) h.2 k) (nat_eq b.number n) refl e
    where
      go : (living bs n ≡ Some ws → Found c p w (p.frame n) ws) → (t : Bool) → nat_eq b.number n ≡ t → cond t
          (Some b.words) (living bs n) ≡ Some ws → Found c p w (p.frame n) ws
      go rest true is e = let same : b.words ≡ ws = cc e in subst (Found c p w (p.frame n)) same
          (own_frame f y b d n al (open_room c laid p w f y (x ∷ xs) (b ∷ bs) (d ∷ ds) h) h.0 (eqb-true b.number n is))
      go rest false is e = rest e

  pub scratch_found : (f : ℕ) (y : Owner) (xs : List Activation) (bs ds : List Living) (n : ℕ) (ws : Words) → f % 4 ≡ 0
      → Open c p w f y xs bs ds → living ds n ≡ Some ws → Found c p w (p.scratch n) ws
  scratch_found f y xs [] ds n ws al h e = absurd h
  scratch_found f y xs (b ∷ bs) [] n ws al h e = absurd h
  scratch_found f y [] (b ∷ bs) (d ∷ ds) n ws al h e = go (nat_eq d.number n) refl e
    where
      go : (t : Bool) → nat_eq d.number n ≡ t → cond t (Some d.words) (living ds n) ≡ Some ws → Found c p w
          (p.scratch n) ws
      go true is e = let same : d.words ≡ ws = cc e in subst (Found c p w (p.scratch n)) same
          (own_scratch f y b d n al (open_room c laid p w f y [] (b ∷ bs) (d ∷ ds) h) h.0 (eqb-true d.number n is))
      go false is e = let none : living [] n ≡ Some ws = subst (λ l. living l n ≡ Some ws) h.3 e in absurd (cc none)
  scratch_found f y (x ∷ xs) (b ∷ bs) (d ∷ ds) n ws al h e =
      go (λ k. scratch_found (f + cost c y.routine) (owner_of x) xs bs ds n ws
      (let a = cost_aligned y.routine in omega (arith, al, a)) h.2 k) (nat_eq d.number n) refl e
    where
      go : (living ds n ≡ Some ws → Found c p w (p.scratch n) ws) → (t : Bool) → nat_eq d.number n ≡ t → cond t
          (Some d.words) (living ds n) ≡ Some ws → Found c p w (p.scratch n) ws
      go rest true is e = let same : d.words ≡ ws = cc e in subst (Found c p w (p.scratch n)) same
          (own_scratch f y b d n al (open_room c laid p w f y (x ∷ xs) (b ∷ bs) (d ∷ ds) h) h.0
          (eqb-true d.number n is))
      go rest false is e = rest e

  -- any live block
  pub found : (s : State) (f : ℕ) (block : Block) (ws : Words) → Held c p s w f → ConstantsStand c p w → words_in
      (text_at c.code) s.memory block ≡ Some ws → Found c p w (place c p block) ws
  found s f (Frame a) ws h k e =
      frame_found f (owner_of s.current) s.callers s.memory.frames s.memory.scratch a ws h.aligned h.frames e
  found s f (Scratch a) ws h k e =
      scratch_found f (owner_of s.current) s.callers s.memory.frames s.memory.scratch a ws h.aligned h.frames e
  found s f (Object n) ws h k e =
      let o = h.objects.each n ws e in
      record { aligned = o.aligned; high = omega (arith, o.high, h.room, laid.order.2); holds = o.holds }
  found s f (Constant r n) ws h k e = k r n ws e
