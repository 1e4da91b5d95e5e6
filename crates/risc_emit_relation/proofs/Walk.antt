-- The walk over the open calls, and the exact budgets of stack and heap.
use Rattle.std.proofs.Common.{◌≡◌, ℕ, zero, suc, ◌+◌, ◌-◌, ◌%◌, ◌<◌, ◌≤◌, ◌⊎◌, inl, inr, Bool, true, false, cond}
use Rattle.std.proofs.Common.{nat_lt, List, [], ◌∷◌, length, take, Option, Some, None, refl, sym, ap, ◌∙◌, subst}
use Rattle.std.proofs.Common.{arith}
use Rattle.std.proofs.lemmas.Bool.{cases_Bool}
use Rattle.tac_code.specs.Memory.{Living}
use Rattle.tac_code.specs.Meaning.{Activation, State, onward, open_calls, open_bytes, is_full}
use Rattle.risc_emit_relation.specs.Context.{Context, is_program, cost, Places, IsLaid}
use Rattle.risc_emit_relation.specs.Related.{owner_of, Open, Held, Machine, Related}
use Rattle.risc_emit_relation.specs.Walk.{and_on, is_frame, walk}
use Rattle.risc_emit_relation.proofs.Frames.{program_room, leaf_room, cost_program, open_room, open_sum}

-- a frame that memory holds, as a test and as numbers
frame_holds : (size f : ℕ) → is_frame size f ≡ true → (f % 4 ≡ 0) × (f + 8 ≤ size)
frame_holds size f e = grind (arith, e)

frame_is : (size f : ℕ) → f % 4 ≡ 0 → f + 8 ≤ size → is_frame size f ≡ true
frame_is size f al le = grind (arith, al, le)

-- the words of frames that memory holds are all that counts
pub walk_same : (line : ℕ → Option ℕ) (size n : ℕ) (w w' : ℕ → ℕ) (f : ℕ)
    → ((a : ℕ) → a % 4 ≡ 0 → a + 4 ≤ size → w a ≡ w' a) → walk line size n w f ≡ walk line size n w' f
walk_same line size zero w w' f e = refl
walk_same line size (suc n) w w' f e = go (λ g. walk_same line size n w w' g e) (is_frame size f) refl
  where
    go : ((g : ℕ) → walk line size n w g ≡ walk line size n w' g) → (b : Bool) → is_frame size f ≡ b
        → cond b (and_on (line (w f)) (walk line size n w (w (f + 4)))) []
        ≡ cond b (and_on (line (w' f)) (walk line size n w' (w' (f + 4)))) []
    go rest false is = refl
    go rest true is =
        let at = frame_holds size f is in
        let e0 : w f ≡ w' f = e f at.0 (omega (arith, at.1)) in
        let e4 : w (f + 4) ≡ w' (f + 4) = e (f + 4) (omega (arith, at.0)) (omega (arith, at.1)) in
        ap (λ o. and_on o (walk line size n w (w (f + 4)))) (ap line e0) ∙ ap (and_on (line (w' f)))
        (rest (w (f + 4)) ∙ ap (walk line size n w') e4)

module _ (c : Context) (laid : IsLaid c) (p : Places) (none : c.line 0 ≡ None) where
  nothing_taken : (n : ℕ) → take {A = ℕ} n [] ≡ []
  nothing_taken zero = refl
  nothing_taken (suc n) = refl

  held_frame : (w : ℕ → ℕ) (f : ℕ) (a : Activation) (xs : List Activation) (bs ds : List Living)
      → is_program c a.routine ≡ true → f % 4 ≡ 0 → Open c p w f (owner_of a) xs bs ds → is_frame c.size f ≡ true
  held_frame w f a xs bs ds e al h =
      let top = open_room c laid p w f (owner_of a) xs bs ds h in
      let q = program_room c laid p a.routine e in
      frame_is c.size f al (omega (arith, top, q.0, q.1, q.2, q.3))

  walk_program : (w : ℕ → ℕ) (n f : ℕ) (a : Activation) (xs : List Activation) (bs ds : List Living)
      → is_program c a.routine ≡ true → f % 4 ≡ 0 → Open c p w f (owner_of a) xs bs ds → walk c.line c.size n w f
      ≡ take n (open_calls (length c.code.program) a xs)
  walk_program w zero f a xs bs ds e al h = refl
  walk_program w (suc n) f a xs [] ds e al h = absurd h
  walk_program w (suc n) f a xs (b ∷ bs) [] e al h = absurd h
  walk_program w (suc n) f a [] (b ∷ bs) (d ∷ ds) e al h =
      let q = program_room c laid p a.routine e in
      let at : f ≡ f + c.link_at a.routine = omega (arith, q.5) in
      let row : c.line (w f) ≡ None = ap c.line (ap w at ∙ h.1.unlinked) ∙ none in
      ap (λ t. cond t (and_on (c.line (w f)) (walk c.line c.size n w (w (f + 4)))) [])
      (held_frame w f a [] (b ∷ bs) (d ∷ ds) e al h) ∙ ap (λ o. and_on o (walk c.line c.size n w (w (f + 4)))) row
  walk_program w (suc n) f a (x ∷ xs) (b ∷ bs) (d ∷ ds) e al h =
      let q = program_room c laid p a.routine e in
      let k = cost_program c a.routine e in
      let whole = laid.whole a.routine in
      let at : f ≡ f + c.link_at a.routine = omega (arith, q.5) in
      let row : c.line (w f) ≡ Some a.line = ap (λ z. c.line (w z)) at ∙ h.1.line e in
      let rest = walk_program w n (f + cost c a.routine) x xs bs ds h.1.program (omega (arith, al, k, whole)) h.2 in
      ap (λ t. cond t (and_on (c.line (w f)) (walk c.line c.size n w (w (f + 4)))) [])
      (held_frame w f a (x ∷ xs) (b ∷ bs) (d ∷ ds) e al h)
      ∙ ap (λ o. and_on o (walk c.line c.size n w (w (f + 4)))) row ∙ ap (λ l. a.line ∷ l)
      (ap (walk c.line c.size n w) (h.0.back e) ∙ rest) ∙ sym (rw e refl)

  -- from R14 the walk gives the lines of the open calls, inside a run-time routine too
  pub walk_is : (n : ℕ) (s : State) (m : Machine) (f : ℕ) → Related c p s m f → walk c.line c.size n m.words
      (m.registers 14) ≡ take n (open_calls (length c.code.program) s.current s.callers)
  walk_is n s m f h =
      ap (walk c.line c.size n m.words) h.stack ∙ by_kind
      (cases_Bool (is_program c s.current.routine)) s.callers s.memory.frames s.memory.scratch h.held.frames
    where
      by_kind : (is_program c s.current.routine ≡ true) ⊎ (is_program c s.current.routine ≡ false)
          → (xs : List Activation) (bs ds : List Living) → Open c p m.words f (owner_of s.current) xs bs ds
          → walk c.line c.size n m.words f ≡ take n (open_calls (length c.code.program) s.current xs)
      by_kind (inl e) xs bs ds o = walk_program m.words n f s.current xs bs ds e h.held.aligned o
      by_kind (inr e) xs [] ds o = absurd o
      by_kind (inr e) xs (b ∷ bs) [] o = absurd o
      by_kind (inr e) [] (b ∷ bs) (d ∷ ds) o =
          let no : true ≡ false = sym (subst (λ r. is_program c r ≡ true) (sym o.1.routine) laid.first) ∙ e in absurd
          (cc no)
      by_kind (inr e) (x ∷ xs) (b ∷ bs) (d ∷ ds) o =
          let k = leaf_room c laid p s.current.routine e in
          let at : f ≡ f + cost c s.current.routine = omega (arith, k.6) in
          let al : (f + cost c s.current.routine) % 4 ≡ 0 = omega (arith, at, h.held.aligned) in
          ap (walk c.line c.size n m.words) at ∙ walk_program m.words n
          (f + cost c s.current.routine) x xs bs ds o.1.program al o.2 ∙ sym (rw e refl)

module _ (c : Context) (laid : IsLaid c) (p : Places) where
  less_same : (a b x y : ℕ) → (a < b → x < y) → (x < y → a < b) → nat_lt a b ≡ nat_lt x y
  less_same a b x y f g = grind (arith, f, g)

  -- the stack's budget is exceeded exactly where the new frame would begin below its base
  pub stack_exact : (G : ℕ → ℕ) (S H : ℕ) (s : State) (w : ℕ → ℕ) (f q : ℕ) → S + c.base ≡ c.size → Held c p s w f
      → is_program c q ≡ true → is_full c.code c.costs G S H q (onward s.current ∷ s.callers)
      ≡ nat_lt f (c.base + c.costs q)
  stack_exact G S H s w f q budget h e =
      let sum = open_sum c laid p w f (owner_of s.current) s.callers s.memory.frames s.memory.scratch h.frames in
      rw e (less_same S (c.costs q + (cost c s.current.routine + open_bytes c.code c.costs s.callers)) f
      (c.base + c.costs q) (λ lt. omega (arith, sum, budget)) (λ lt. omega (arith, sum, budget)))

  -- run-time routines are never stopped
  pub stack_free : (G : ℕ → ℕ) (S H : ℕ) (xs : List Activation) (q : ℕ) → is_program c q ≡ false
      → is_full c.code c.costs G S H q xs ≡ false
  stack_free G S H xs q e = rw e refl

  -- the heap's budget is exceeded exactly where the object would end above the base of the stack
  pub heap_exact : (H : ℕ) (s : State) (w : ℕ → ℕ) (f more : ℕ) → H + c.heap_at ≡ c.base → Held c p s w f
      → nat_lt H (s.heap + more) ≡ nat_lt (c.base - (c.heap_at + s.heap)) more
  heap_exact H s w f more budget h =
      less_same H (s.heap + more) (c.base - (c.heap_at + s.heap)) more (λ lt. omega (arith, budget, h.room))
      (λ lt. omega (arith, budget, h.room))
