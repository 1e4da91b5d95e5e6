-- What the open activations require of memory, and which words they leave free.
use Rattle.std.proofs.Common.{◌≡◌, ℕ, ◌+◌, ◌*◌, ◌<◌, ◌≤◌, ◌⊎◌, inl, inr, ⊎_elim, true, false, cond, List, [], ◌∷◌}
use Rattle.std.proofs.Common.{length, Some, refl, sym, ap, ◌∙◌, subst, arith, true≢false}
use Rattle.std.proofs.lemmas.Option.{slice_get_within}
use Rattle.std.proofs.lemmas.Bool.{cases_Bool}
use Rattle.tac_code.specs.Memory.{Words, Living}
use Rattle.tac_code.specs.Meaning.{Activation, open_bytes}
use Rattle.risc_emit_relation.specs.Context.{Context, is_program, cost, slot_at, Places, IsLaid}
use Rattle.risc_emit_relation.specs.Related.{Holds, Owner, owner_of, Own, Waits, Outermost, Open}

pub cost_program : (c : Context) (r : ℕ) → is_program c r ≡ true → cost c r ≡ c.costs r
cost_program c r e = rw e refl

pub cost_leaf : (c : Context) (r : ℕ) → is_program c r ≡ false → cost c r ≡ 0
cost_leaf c r e = rw e refl

pub holds_keeps : (c : Context) (p : Places) (w w' : ℕ → ℕ) (at : ℕ) (ws : Words)
    → ((i : ℕ) → i < length ws → w' (at + 4 * i) ≡ w (at + 4 * i)) → Holds c p w at ws → Holds c p w' at ws
holds_keeps c p w w' at ws same h i x e =
    let k = h i x e in (k.0, same i (slice_get_within ws i (Some x) e) ∙ k.1)

-- the first byte of a frame that is free, after its link and its caller's frame
abbrev pub free_at : Context → ℕ → ℕ
free_at c r = cond (is_program c r) 8 (c.link_at r + 4)

pub free_program : (c : Context) (r : ℕ) → is_program c r ≡ true → free_at c r ≡ 8
free_program c r e = rw e refl

pub free_leaf : (c : Context) (r : ℕ) → is_program c r ≡ false → free_at c r ≡ c.link_at r + 4
free_leaf c r e = rw e refl

module _ (c : Context) (laid : IsLaid c) (p : Places) where
  -- ---- where frames are

  pub outermost_routine : (f l : ℕ) (y : Owner) → Outermost c f y l → is_program c y.routine ≡ true
  outermost_routine f l y h = subst (λ r. is_program c r ≡ true) (sym h.routine) laid.first

  pub open_sum : (w : ℕ → ℕ) (f : ℕ) (y : Owner) (xs : List Activation) (bs ds : List Living) → Open c p w f y xs bs ds
      → f + (cost c y.routine + open_bytes c.code c.costs xs) ≡ c.size
  open_sum w f y xs [] ds h = absurd h
  open_sum w f y xs (b ∷ bs) [] h = absurd h
  open_sum w f y [] (b ∷ bs) (d ∷ ds) h = omega (arith, h.1.top)
  open_sum w f y (x ∷ xs) (b ∷ bs) (d ∷ ds) h =
      let e = open_sum w (f + cost c y.routine) (owner_of x) xs bs ds h.2 in omega (arith, e)

  -- the program block's frame is the outermost
  pub open_bottom : (w : ℕ → ℕ) (f : ℕ) (y : Owner) (xs : List Activation) (bs ds : List Living)
      → Open c p w f y xs bs ds → ((f ≡ c.bottom) × (is_program c y.routine ≡ true)) ⊎ (f + cost c y.routine ≤ c.bottom)
  open_bottom w f y xs [] ds h = absurd h
  open_bottom w f y xs (b ∷ bs) [] h = absurd h
  open_bottom w f y [] (b ∷ bs) (d ∷ ds) h =
      let e = cost_program c 0 laid.first in
      let e' : cost c y.routine ≡ cost c 0 = ap (λ r. cost c r) h.1.routine in
      inl (omega (arith, h.1.top, laid.bottom, e, e'), outermost_routine f _ y h.1)
  open_bottom w f y (x ∷ xs) (b ∷ bs) (d ∷ ds) h =
      inr (⊎_elim (λ e. omega (arith, e.0)) (λ le. omega arith)
      (open_bottom w (f + cost c y.routine) (owner_of x) xs bs ds h.2))

  pub program_room : (r : ℕ) → is_program c r ≡ true → (276 ≤ c.slots_at r) × (c.slots_at r ≤ c.frame_at r)
      × (c.frame_at r ≤ c.scratch_at r) × (c.scratch_at r ≤ c.used r) × (c.used r ≤ cost c r) × (c.link_at r ≡ 0)
  program_room r e =
      let q = laid.program r e in
      let k = cost_program c r e in
      (q.1, laid.slots_before r, laid.frame_before r, laid.scratch_before r, omega (arith, q.2, k), q.0)

  pub leaf_room : (r : ℕ) → is_program c r ≡ false → (8 ≤ c.link_at r) × (c.link_at r + 4 ≤ c.slots_at r)
      × (c.slots_at r ≤ c.frame_at r) × (c.frame_at r ≤ c.scratch_at r) × (c.scratch_at r ≤ c.used r) × (c.used r ≤ 268)
      × (cost c r ≡ 0)
  leaf_room r e =
      let q = laid.leaf r e in
      (q.0, laid.link r, laid.slots_before r, laid.frame_before r, laid.scratch_before r, q.1, cost_leaf c r e)

  -- what is used of the innermost frame is in memory
  pub open_room : (w : ℕ → ℕ) (f : ℕ) (y : Owner) (xs : List Activation) (bs ds : List Living) → Open c p w f y xs bs ds
      → f + c.used y.routine ≤ c.size
  open_room w f y xs bs ds h = by_kind (cases_Bool (is_program c y.routine))
    where
      leaf : (xs : List Activation) (bs ds : List Living) → is_program c y.routine ≡ false → Open c p w f y xs bs ds → f
          + c.used y.routine ≤ c.size
      leaf xs [] ds e h = absurd h
      leaf xs (b ∷ bs) [] e h = absurd h
      leaf [] (b ∷ bs) (d ∷ ds) e h =
          let no : true ≡ false = sym (outermost_routine f _ y h.1) ∙ e in absurd (true≢false no)
      leaf (x ∷ xs) (b ∷ bs) (d ∷ ds) e h =
          let k = leaf_room y.routine e in
          let q = program_room x.routine h.1.program in
          let s = open_sum w (f + cost c y.routine) (owner_of x) xs bs ds h.2 in
          omega (arith, k.5, k.6, q.0, q.1, q.2, q.3, q.4, s)

      by_kind : (is_program c y.routine ≡ true) ⊎ (is_program c y.routine ≡ false) → f + c.used y.routine ≤ c.size
      by_kind (inl e) = let q = program_room y.routine e in let s = open_sum w f y xs bs ds h in omega (arith, q.4, s)
      by_kind (inr e) = leaf xs bs ds e h

  -- ---- words that are the same

  module _ (w w' : ℕ → ℕ) where
    abbrev pub SameFrom : ℕ → Type 0
    SameFrom f = (x : ℕ) → f ≤ x → w' x ≡ w x

    -- the words of a range
    abbrev pub SameIn : ℕ → ℕ → Type 0
    SameIn from to = (x : ℕ) → from ≤ x → x + 4 ≤ to → w' x ≡ w x

    pub own_keeps : (f : ℕ) (y : Owner) (b d : Living) → (is_program c y.routine ≡ true → w' (f + 4) ≡ w (f + 4))
        → SameIn (f + c.frame_at y.routine) (f + c.used y.routine) → Own c p w f y b d → Own c p w' f y b d
    own_keeps f y b d at4 same o =
        let lf = laid.frame y.routine o.routine o.is in
        let ls = laid.scratch y.routine o.routine o.is in
        record {
          routine = o.routine;
          is = o.is;
          frame_number = o.frame_number;
          scratch_number = o.scratch_number;
          named = o.named;
          frame_place = o.frame_place;
          scratch_place = o.scratch_place;
          frame_length = o.frame_length;
          scratch_length = o.scratch_length;
          frame = holds_keeps c p w w' _ b.words (λ i lt. same _ (omega arith)
              (omega (arith, lf.1, ls.1, o.frame_length, laid.scratch_before y.routine))) o.frame;
          scratch = holds_keeps c p w w' _ d.words
              (λ i lt. same _ (omega (arith, laid.frame_before y.routine)) (omega (arith, ls.1, o.scratch_length)))
              o.scratch;
          back = λ e. at4 e ∙ o.back e;
        }

    pub waits_keeps : (f : ℕ) (x : Activation) (y : Owner) (l l' : ℕ) → l' ≡ l → SameIn (f + c.slots_at x.routine)
        (f + c.frame_at x.routine) → Waits c p w f x y l → Waits c p w' f x y l'
    waits_keeps f x y l l' e same h =
        record {
          program = h.program;
          call = h.call;
          resume = e ∙ h.resume;
          line = λ prog. ap c.line e ∙ h.line prog;
          saved = λ u k v live ne is home.
              let s = h.saved u k v live ne is home in
              let r = laid.slots x.routine u k home in
              (s.0, same (f + slot_at c x.routine k) (omega arith) (omega (arith, r)) ∙ s.1);
        }

    outermost_keeps : (f : ℕ) (y : Owner) (l l' : ℕ) → l' ≡ l → Outermost c f y l → Outermost c f y l'
    outermost_keeps f y l l' e h =
        record { routine = h.routine; number = h.number; top = h.top; unlinked = e ∙ h.unlinked }

    -- nothing from the innermost frame on changes
    pub open_above : (f : ℕ) (y : Owner) (xs : List Activation) (bs ds : List Living) → SameFrom f
        → Open c p w f y xs bs ds → Open c p w' f y xs bs ds
    open_above f y xs [] ds same h = absurd h
    open_above f y xs (b ∷ bs) [] same h = absurd h
    open_above f y [] (b ∷ bs) (d ∷ ds) same h =
        let l = same (f + c.link_at y.routine) (omega arith) in (
          own_keeps f y b d (λ e. same (f + 4) (omega arith))
              (λ a le hi. same a (omega arith)) h.0,
          outermost_keeps f y _ _ l h.1,
          h.2,
          h.3,
        )
    open_above f y (x ∷ xs) (b ∷ bs) (d ∷ ds) same h =
        let l = same (f + c.link_at y.routine) (omega arith) in
        let up : SameFrom (f + cost c y.routine) = λ a le. same a (omega arith) in (
          own_keeps f y b d (λ e. same (f + 4) (omega arith)) (λ a le hi. same a (omega arith)) h.0,
          waits_keeps
              (f + cost c y.routine) x y _ _ l (λ a le hi. up a (omega arith)) h.1,
          open_above (f + cost c y.routine)
              (owner_of x) xs bs ds up h.2,
        )

    -- ---- changes within the innermost frame

    -- all from the frame on but what is used of it, its link and its caller's frame apart
    abbrev pub SameOutside : ℕ → ℕ → Type 0
    SameOutside f r = (x : ℕ) → f ≤ x → (x < f + free_at c r) ⊎ (f + c.used r ≤ x) → w' x ≡ w x

    within_program : (f : ℕ) (y : Owner) (xs : List Activation) (b d b' d' : Living) (bs ds : List Living)
        → is_program c y.routine ≡ true → SameOutside f y.routine → Own c p w' f y b' d' → Open c p w f y xs (b ∷ bs)
        (d ∷ ds) → Open c p w' f y xs (b' ∷ bs) (d' ∷ ds)
    within_program f y [] b d b' d' bs ds e same o h =
        let q = program_room y.routine e in
        let fr = free_program c y.routine e in
        let l = same (f + c.link_at y.routine) (omega arith) (inl (omega (arith, q.5, fr))) in
        (o, outermost_keeps f y _ _ l h.1, h.2, h.3)
    within_program f y (x ∷ xs) b d b' d' bs ds e same o h =
        let q = program_room y.routine e in
        let fr = free_program c y.routine e in
        let l = same (f + c.link_at y.routine) (omega arith) (inl (omega (arith, q.5, fr))) in
        let up : SameFrom (f + cost c y.routine) = λ a le. same a (omega arith) (inr (omega (arith, q.4))) in (
          o,
          waits_keeps (f + cost c y.routine) x y _ _ l (λ a le hi. up a (omega arith)) h.1,
          open_above
              (f + cost c y.routine) (owner_of x) xs bs ds up h.2,
        )

    -- the innermost frame's slots and operands, of a routine of the program
    pub inside_program : (f : ℕ) (y : Owner) (xs : List Activation) (bs ds : List Living) → is_program c y.routine
        ≡ true → ((x : ℕ) → f ≤ x → (x < f + 8) ⊎ (f + c.frame_at y.routine ≤ x) → w' x ≡ w x) → Open c p w f y xs bs ds
        → Open c p w' f y xs bs ds
    inside_program f y xs [] ds e same h = absurd h
    inside_program f y xs (b ∷ bs) [] e same h = absurd h
    inside_program f y [] (b ∷ bs) (d ∷ ds) e same h =
        let q = program_room y.routine e in
        let fr = free_program c y.routine e in
        within_program f y [] b d b d bs ds e (wider f y e same)
        (own_keeps f y b d (λ z. same (f + 4) (omega arith) (inl (omega arith)))
        (λ a le hi. same a (omega arith) (inr le)) h.0) h
      where
        wider : (f : ℕ) (y : Owner) → is_program c y.routine ≡ true
            → ((x : ℕ) → f ≤ x → (x < f + 8) ⊎ (f + c.frame_at y.routine ≤ x) → w' x ≡ w x) → SameOutside f y.routine
        wider f y e same a le (inl lt) = let fr = free_program c y.routine e in same a le (inl (omega (arith, fr)))
        wider f y e same a le (inr ge) = let q = program_room y.routine e in same a le (inr (omega (arith, q.2, q.3)))
    inside_program f y (x ∷ xs) (b ∷ bs) (d ∷ ds) e same h =
        within_program f y (x ∷ xs) b d b d bs ds e (wider f y e same)
        (own_keeps f y b d (λ z. same (f + 4) (omega arith) (inl (omega arith)))
        (λ a le hi. same a (omega arith) (inr le)) h.0) h
      where
        wider : (f : ℕ) (y : Owner) → is_program c y.routine ≡ true
            → ((x : ℕ) → f ≤ x → (x < f + 8) ⊎ (f + c.frame_at y.routine ≤ x) → w' x ≡ w x) → SameOutside f y.routine
        wider f y e same a le (inl lt) = let fr = free_program c y.routine e in same a le (inl (omega (arith, fr)))
        wider f y e same a le (inr ge) = let q = program_room y.routine e in same a le (inr (omega (arith, q.2, q.3)))

    within_leaf : (f : ℕ) (y : Owner) (xs : List Activation) (b d b' d' : Living) (bs ds : List Living)
        → is_program c y.routine ≡ false → SameOutside f y.routine → Own c p w' f y b' d' → Open c p w f y xs (b ∷ bs)
        (d ∷ ds) → Open c p w' f y xs (b' ∷ bs) (d' ∷ ds)
    within_leaf f y [] b d b' d' bs ds e same o h =
        let no : true ≡ false = sym (outermost_routine f _ y h.1) ∙ e in absurd (true≢false no)
    within_leaf f y (x ∷ xs) b d b' d' bs ds e same o h =
        let k = leaf_room y.routine e in
        let fr = free_leaf c y.routine e in
        let q = program_room x.routine h.1.program in
        let l = same (f + c.link_at y.routine) (omega arith) (inl (omega (arith, fr))) in (
          o,
          waits_keeps (f + cost c y.routine) x y _ _ l
              (λ a le hi. same a (omega arith) (inr (omega (arith, k.5, k.6, q.0)))) h.1,
          inside_program
              (f + cost c y.routine) (owner_of x) xs bs ds h.1.program (narrower fr k.0 k.5 k.6 q.0 q.1) h.2,
        )
      where
        narrower : free_at c y.routine ≡ c.link_at y.routine + 4 → 8 ≤ c.link_at y.routine → c.used y.routine ≤ 268
            → cost c y.routine ≡ 0 → 276 ≤ c.slots_at x.routine → c.slots_at x.routine ≤ c.frame_at x.routine → (a : ℕ)
            → f + cost c y.routine ≤ a → (a < f + cost c y.routine + 8)
            ⊎ (f + cost c y.routine + c.frame_at x.routine ≤ a) → w' a ≡ w a
        narrower fr k0 k5 k6 q0 q1 a le (inl lt) = same a (omega arith) (inl (omega arith))
        narrower fr k0 k5 k6 q0 q1 a le (inr ge) = same a (omega arith) (inr (omega arith))

    -- the innermost activation's blocks change with what is used of its frame
    pub open_within : (f : ℕ) (y : Owner) (xs : List Activation) (b d b' d' : Living) (bs ds : List Living)
        → SameOutside f y.routine → Own c p w' f y b' d' → Open c p w f y xs (b ∷ bs) (d ∷ ds) → Open c p w' f y xs
        (b' ∷ bs) (d' ∷ ds)
    open_within f y xs b d b' d' bs ds same o h = by_kind (cases_Bool (is_program c y.routine))
      where
        by_kind : (is_program c y.routine ≡ true) ⊎ (is_program c y.routine ≡ false) → Open c p w' f y xs (b' ∷ bs)
            (d' ∷ ds)
        by_kind (inl e) = within_program f y xs b d b' d' bs ds e same o h
        by_kind (inr e) = within_leaf f y xs b d b' d' bs ds e same o h

    -- the innermost activation's slots and the operands that it passes
    pub open_inside : (f : ℕ) (y : Owner) (xs : List Activation) (bs ds : List Living)
        → ((x : ℕ) → f ≤ x → (x < f + free_at c y.routine) ⊎ (f + c.frame_at y.routine ≤ x) → w' x ≡ w x)
        → Open c p w f y xs bs ds → Open c p w' f y xs bs ds
    open_inside f y xs [] ds same h = absurd h
    open_inside f y xs (b ∷ bs) [] same h = absurd h
    open_inside f y xs (b ∷ bs) (d ∷ ds) same h =
        open_within f y xs b d b d bs ds wider (own_keeps f y b d at4 (λ a le hi. same a (omega arith) (inr le))
        (first xs h)) h
      where
        first : (xs : List Activation) → Open c p w f y xs (b ∷ bs) (d ∷ ds) → Own c p w f y b d
        first [] h = h.0
        first (x ∷ xs) h = h.0

        at4 : is_program c y.routine ≡ true → w' (f + 4) ≡ w (f + 4)
        at4 e = let fr = free_program c y.routine e in same (f + 4) (omega arith) (inl (omega (arith, fr)))

        wider : SameOutside f y.routine
        wider a le (inl lt) = same a le (inl lt)
        wider a le (inr ge) = same a le (inr (omega
            (arith, laid.frame_before y.routine, laid.scratch_before y.routine)))

    -- ---- the two words of the program block's frame that no activation holds

    abbrev pub SameButHeap : Type 0
    SameButHeap = (x : ℕ) → (x < c.bottom + 268) ⊎ (c.bottom + 276 ≤ x) → w' x ≡ w x

    pub open_heap : (f : ℕ) (y : Owner) (xs : List Activation) (bs ds : List Living) → SameButHeap
        → Open c p w f y xs bs ds → Open c p w' f y xs bs ds
    open_heap f y xs [] ds same h = absurd h
    open_heap f y xs (b ∷ bs) [] same h = absurd h
    open_heap f y [] (b ∷ bs) (d ∷ ds) same h =
        let e = outermost_routine f _ y h.1 in
        let q = program_room y.routine e in
        let k : f ≡ c.bottom = at_bottom in
        inside_program f y [] (b ∷ bs) (d ∷ ds) e
        (λ a le side. ⊎_elim (λ (lt : a < f + 8). same a (inl (omega (arith, k))))
        (λ (ge : f + c.frame_at y.routine ≤ a). same a (inr (omega (arith, k, q.0, q.1)))) side) h
      where
        at_bottom : f ≡ c.bottom
        at_bottom =
            let e = cost_program c 0 laid.first in
            let e' : cost c y.routine ≡ cost c 0 = ap (λ r. cost c r) h.1.routine in
            omega (arith, h.1.top, laid.bottom, e, e')
    open_heap f y (x ∷ xs) (b ∷ bs) (d ∷ ds) same h =
        let k = under (open_bottom w (f + cost c y.routine) (owner_of x) xs bs ds h.2) in
        let u = used_under k (cases_Bool (is_program c y.routine)) in
        let l = same (f + c.link_at y.routine) (inl
        (omega (
          arith,
          u,
          laid.link y.routine,
          laid.slots_before y.routine,
          laid.frame_before y.routine,
          laid.scratch_before y.routine,
        ))) in (
          own_keeps f y b d (λ e. let q = program_room y.routine e in same (f + 4)
              (inl (omega (arith, u, q.0, q.1, q.2, q.3)))) (λ a le hi. same a (inl (omega (arith, u)))) h.0,
          waits_keeps
              (f + cost c y.routine) x y _ _ l (slots (program_room x.routine h.1.program)
              (open_bottom w (f + cost c y.routine) (owner_of x) xs bs ds h.2)) h.1,
          open_heap (f + cost c y.routine)
              (owner_of x) xs bs ds same h.2,
        )
      where
        under : ((f + cost c y.routine ≡ c.bottom) × (is_program c x.routine ≡ true))
            ⊎ (f + cost c y.routine + cost c x.routine ≤ c.bottom) → f + cost c y.routine ≤ c.bottom
        under (inl e) = omega (arith, e.0)
        under (inr le) = omega arith

        used_under : f + cost c y.routine ≤ c.bottom → (is_program c y.routine ≡ true)
            ⊎ (is_program c y.routine ≡ false) → f + c.used y.routine ≤ c.bottom + 268
        used_under k (inl e) = let q = program_room y.routine e in omega (arith, q.4)
        used_under k (inr e) = let q = leaf_room y.routine e in omega (arith, q.5)

        slots : (276 ≤ c.slots_at x.routine) × (c.slots_at x.routine ≤ c.frame_at x.routine)
            × (c.frame_at x.routine ≤ c.scratch_at x.routine) × (c.scratch_at x.routine ≤ c.used x.routine)
            × (c.used x.routine ≤ cost c x.routine) × (c.link_at x.routine ≡ 0)
            → ((f + cost c y.routine ≡ c.bottom) × (is_program c x.routine ≡ true))
            ⊎ (f + cost c y.routine + cost c x.routine ≤ c.bottom) → SameIn
            (f + cost c y.routine + c.slots_at x.routine) (f + cost c y.routine + c.frame_at x.routine)
        slots q (inl e) a le hi = same a (inr (omega (arith, e.0, q.0)))
        slots q (inr k) a le hi = same a (inl (omega (arith, q.2, q.3, q.4)))
