-- The layout keeps what the law of emission requires of it.
use Rattle.std.proofs.Common.{◌≡◌, ℕ, zero, suc, ◌+◌, ◌*◌, ◌%◌, ◌≤◌, ◌⊎◌, inl, inr, true, false, cond, nat_lt}
use Rattle.std.proofs.Common.{List, [], ◌∷◌, ◌++◌, length, Option, Some, None, slice_get, refl, ap, ◌∙◌, arith}
use Rattle.std.proofs.lemmas.Bool.{cases_Bool}
use Rattle.tac_code.specs.declared.code.TacRoutine.{TacRoutine}
use Rattle.tac_code.specs.Meaning.{Code, routines}
use Rattle.tac_code.specs.Sound.{IsSound}
use Rattle.risc_alloc.specs.declared.homes.Home.{Home}
use Rattle.risc_alloc.specs.Homes.{temporaries_in}
use Rattle.risc_alloc.specs.Valid.{Valid}
use Rattle.risc_image.specs.Image.{Image}
use Rattle.risc_emit_relation.specs.Context.{is_program}
use Rattle.risc_emit_laws.specs.Plan as plan
use Rattle.risc_emit_laws.specs.Plan.{Plan, context}
use Rattle.risc_emit_laws.specs.Emits.{IsLaidOut}
use Rattle.risc_emit_laws.specs.Drawn.{Alike}
use Rattle.risc_emit_laws.proofs.Built.{sound_routine}
use Rattle.risc_emit.specs.Layout.{routine_at, frame_in, scratch_in, link_at, slots_at, frame_at, scratch_at, used}
use Rattle.risc_emit.specs.Layout.{frame_cost, object_cost_in, laid_out}

-- the plan with this layout
abbrev pub plan_of : Code → (site : ℕ → ℕ → ℕ) → (entry : ℕ → ℕ) → (constant : ℕ → ℕ → ℕ) → Plan
plan_of code site entry constant =
    record {
      site = site;
      entry = entry;
      constant = constant;
      link_at = link_at code;
      slots_at = slots_at code;
      frame_at = frame_at code;
      scratch_at = scratch_at code;
      used = used code;
    }

some_of : (o : Option TacRoutine) → (o ≡ None) ⊎ ((x : TacRoutine) × (o ≡ Some x))
some_of None = inl refl
some_of (Some x) = inr (x, refl)

-- a routine that is not the program's is one of the run-time library
leaf_get : (xs ys : List TacRoutine) (r : ℕ) (x : TacRoutine) → nat_lt r (length xs) ≡ false → slice_get (xs ++ ys) r
    ≡ Some x → (k : ℕ) × (slice_get ys k ≡ Some x)
leaf_get [] ys r x e is = (r, is)
leaf_get (y ∷ xs) ys zero x e is = absurd (no (length xs) e)
  where
    no : (n : ℕ) → nat_lt 0 (suc n) ≡ false → ⊥
    no n e = grind (arith, e)
leaf_get (y ∷ xs) ys (suc r) x e is = leaf_get xs ys r x (less r (length xs) e) is
  where
    less : (a b : ℕ) → nat_lt (suc a) (suc b) ≡ false → nat_lt a b ≡ false
    less a b e = grind (arith, e)

module _ (code : Code) (homes : List Home) (sound : IsSound code) (valid : Valid code homes) where
  -- ---- what the code says of a routine's blocks

  frame_whole : (r : ℕ) → frame_in (routine_at code r) % 4 ≡ 0
  frame_whole r = go (some_of (routine_at code r))
    where
      go : (routine_at code r ≡ None) ⊎ ((x : TacRoutine) × (routine_at code r ≡ Some x)) → frame_in
          (routine_at code r) % 4 ≡ 0
      go (inl e) = ap (λ o. frame_in o % 4) e
      go (inr x) = ap (λ o. frame_in o % 4) x.1 ∙ (sound_routine code sound r x.0 x.1).frame

  scratch_whole : (r : ℕ) → scratch_in (routine_at code r) % 4 ≡ 0
  scratch_whole r = go (some_of (routine_at code r))
    where
      go : (routine_at code r ≡ None) ⊎ ((x : TacRoutine) × (routine_at code r ≡ Some x)) → scratch_in
          (routine_at code r) % 4 ≡ 0
      go (inl e) = ap (λ o. scratch_in o % 4) e
      go (inr x) = ap (λ o. scratch_in o % 4) x.1 ∙ (sound_routine code sound r x.0 x.1).scratch

  -- the blocks and the slots of a run-time routine
  leaf_size : (r : ℕ) → nat_lt r (length code.program) ≡ false → frame_in (routine_at code r) + scratch_in
      (routine_at code r) + 4 * temporaries_in (routine_at code r) ≤ 160
  leaf_size r e = go (some_of (routine_at code r))
    where
      go : (routine_at code r ≡ None) ⊎ ((x : TacRoutine) × (routine_at code r ≡ Some x)) → frame_in (routine_at code r)
          + scratch_in (routine_at code r) + 4 * temporaries_in (routine_at code r) ≤ 160
      go (inl absent) =
          let n = ap (λ o. frame_in o + scratch_in o + 4 * temporaries_in o) absent in omega (arith, n)
      go (inr x) =
          let n = ap (λ o. frame_in o + scratch_in o + 4 * temporaries_in o) x.1 in
          let k = leaf_get code.program code.run_time r x.0 e x.1 in
          let small = (sound.leaves k.0 x.0 k.1).bytes in
          omega (arith, n, small)

  -- ---- offsets

  pub offsets_program : (r : ℕ) → nat_lt r (length code.program) ≡ true → (link_at code r ≡ 0) × (slots_at code r ≡ 276)
  offsets_program r e = (ap (λ b. cond b 0 40) e, ap (λ b. cond b 276 44) e)

  offsets_leaf : (r : ℕ) → nat_lt r (length code.program) ≡ false → (link_at code r ≡ 40) × (slots_at code r ≡ 44)
  offsets_leaf r e = (ap (λ b. cond b 0 40) e, ap (λ b. cond b 276 44) e)

  offsets : (r : ℕ) → ((link_at code r ≡ 0) × (slots_at code r ≡ 276))
      ⊎ ((link_at code r ≡ 40) × (slots_at code r ≡ 44))
  offsets r = go (cases_Bool (nat_lt r (length code.program)))
    where
      go : (nat_lt r (length code.program) ≡ true) ⊎ (nat_lt r (length code.program) ≡ false)
          → ((link_at code r ≡ 0) × (slots_at code r ≡ 276)) ⊎ ((link_at code r ≡ 40) × (slots_at code r ≡ 44))
      go (inl e) = inl (offsets_program r e)
      go (inr e) = inr (offsets_leaf r e)

  link_first : (r : ℕ) → link_at code r + 4 ≤ slots_at code r
  link_first r = go (offsets r)
    where
      go : ((link_at code r ≡ 0) × (slots_at code r ≡ 276)) ⊎ ((link_at code r ≡ 40) × (slots_at code r ≡ 44))
          → link_at code r + 4 ≤ slots_at code r
      go (inl e) = let a = e.0 in let b = e.1 in omega (arith, a, b)
      go (inr e) = let a = e.0 in let b = e.1 in omega (arith, a, b)

  all_aligned : (r : ℕ) → (link_at code r % 4 ≡ 0) × (slots_at code r % 4 ≡ 0) × (frame_at code r % 4 ≡ 0)
      × (scratch_at code r % 4 ≡ 0)
  all_aligned r = go (offsets r)
    where
      go : ((link_at code r ≡ 0) × (slots_at code r ≡ 276)) ⊎ ((link_at code r ≡ 40) × (slots_at code r ≡ 44))
          → (link_at code r % 4 ≡ 0) × (slots_at code r % 4 ≡ 0) × (frame_at code r % 4 ≡ 0)
          × (scratch_at code r % 4 ≡ 0)
      go (inl e) =
          let a = e.0 in
          let b = e.1 in
          let f = frame_whole r in
          (omega (arith, a), omega (arith, b), omega (arith, b), omega (arith, b, f))
      go (inr e) =
          let a = e.0 in
          let b = e.1 in
          let f = frame_whole r in
          (omega (arith, a), omega (arith, b), omega (arith, b), omega (arith, b, f))

  used_whole : (r : ℕ) → used code r % 4 ≡ 0
  used_whole r = let a = (all_aligned r).3 in let s = scratch_whole r in omega (arith, a, s)

  pub cost_program : (r : ℕ) → nat_lt r (length code.program) ≡ true → frame_cost code r ≡ used code r
  cost_program r e = ap (λ b. cond b (used code r) 0) e

  pub cost_whole : (r : ℕ) → frame_cost code r % 4 ≡ 0
  cost_whole r = go (cases_Bool (nat_lt r (length code.program)))
    where
      go : (nat_lt r (length code.program) ≡ true) ⊎ (nat_lt r (length code.program) ≡ false) → frame_cost code r % 4
          ≡ 0
      go (inl e) = ap (λ b. cond b (used code r) 0 % 4) e ∙ used_whole r
      go (inr e) = ap (λ b. cond b (used code r) 0 % 4) e

  module _ (image : Image) (site : ℕ → ℕ → ℕ) (entry : ℕ → ℕ) (constant : ℕ → ℕ → ℕ)
      (costs : (r : ℕ) → plan.frame_cost image r ≡ frame_cost code r)
      (sizes : (t : ℕ) → plan.object_cost image t ≡ object_cost_in (slice_get code.objects t)) where
    -- the context of the image has the layout
    pub alike_laid : (heap stack : ℕ) → Alike (laid_out code homes)
        (context code homes (plan_of code site entry constant) image heap stack)
    alike_laid heap stack =
        record {
          code = refl;
          homes = refl;
          costs = costs;
          sizes = sizes;
          link_at = λ r. refl;
          slots_at = λ r. refl;
          frame_at = λ r. refl;
          scratch_at = λ r. refl;
        }

    pub is_laid : (heap stack : ℕ) → ((r k : ℕ) → 4 * constant r k ≤ 4 * length image.code + image.global) → IsLaidOut
        (context code homes (plan_of code site entry constant) image heap stack)
    is_laid heap stack low =
        record {
          link = link_first;
          slots = λ r t k e. let lt = valid.slot r t k e in omega (arith, lt);
          slots_before = λ r. omega arith;
          frame = λ r routine is. let n = ap frame_in is in omega (arith, n);
          scratch = λ r routine is. let n = ap scratch_in is in omega (arith, n);
          frame_before = λ r. omega arith;
          scratch_before = λ r. omega arith;
          aligned = all_aligned;
          whole = λ r. ap (λ n. n % 4) (costs r) ∙ cost_whole r;
          program = λ r e. let o = offsets_program r e in let a = o.1 in let n = costs r in let m = cost_program r e
              in (o.0, omega (arith, a), omega (arith, n, m));
          leaf = λ r e. let o = offsets_leaf r e in let a = o.0 in let b = o.1 in let s = leaf_size r e
              in (omega (arith, a), omega (arith, b, s));
          constants = low;
        }

    -- operands of a run-time routine come before its link
    pub parameters_first : (r : ℕ) (routine : TacRoutine) → is_program (laid_out code homes) r ≡ false → slice_get
        (routines code) r ≡ Some routine → 8 + 4 * routine.parameters ≤ link_at code r
    parameters_first r routine e is =
        let k = leaf_get code.program code.run_time r routine e is in
        let few = (sound.leaves k.0 routine k.1).parameters in
        let a = (offsets_leaf r e).0 in
        omega (arith, few, a)
