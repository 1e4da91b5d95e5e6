-- At which places flags belong to a temporary, and at which to none.
use Rattle.std.proofs.Common.{◌≡◌, ◌≢◌, ℕ, zero, suc, ◌+◌, ◌⊎◌, inl, inr, Bool, true, false, cond, ℤ, nat_eq, nat_le}
use Rattle.std.proofs.Common.{List, [], ◌∷◌, length, Option, Some, None, slice_get, slice_set, get_or, replicate, refl}
use Rattle.std.proofs.Common.{sym, ap, ◌∙◌, subst, arith}
use Rattle.std.proofs.lemmas.Bool.{cases_eq}
use Rattle.risc_machine.specs.declared.limits.TheConstants.{SIGN_BIT}
use Rattle.risc_machine_laws.specs.View.{View}
use Rattle.tac_code.specs.declared.code.Instruction.{Instruction}
use Rattle.tac_code.specs.declared.code.TacRoutine.{TacRoutine}
use Rattle.tac_code.specs.Meaning.{routines, body_at, fetch}
use Rattle.tac_code.proofs.Numbers.{eq_same}
use Rattle.risc_alloc.specs.Flow.{is_among, is_it, next_of, written_by, result_of, gives_to}
use Rattle.risc_alloc.specs.Flow as flow
use Rattle.risc_emit_relation.specs.Context.{Context, home, called, Passes}
use Rattle.risc_alloc.specs.declared.homes.Home.TheVariants.{Reg}
use Rattle.risc_emit_forms.specs.Peephole.{flagged_by, flagged_in, jump_of, set_in, marked, jumped, flagged_within}
use Rattle.risc_emit_forms.specs.Peephole.{flagged_at}
use Rattle.risc_emit_forms.specs.Peephole.{first_of, row, row_deferred, defer, load_deferred, deferred, deferred_in}
use Rattle.risc_emit_forms.specs.Peephole.{deferred_at}
use Rattle.risc_emit_forms.specs.Follows.{Flags, Straight}
use Rattle.risc_emit_forms.proofs.Effects.{Defers, defers, is_silent, jumps_there, plainly, rows, silent_none}

-- ---- marks

abbrev IsMarked : List Bool → ℕ → Type 0
IsMarked bs k = get_or bs k true ≡ true

set_keeps : (bs : List Bool) (t k : ℕ) → IsMarked bs k → IsMarked (slice_set bs t true) k
set_keeps [] t k h = h
set_keeps (b ∷ bs) zero zero h = refl
set_keeps (b ∷ bs) zero (suc k) h = h
set_keeps (b ∷ bs) (suc t) zero h = h
set_keeps (b ∷ bs) (suc t) (suc k) h = set_keeps bs t k h

set_there : (bs : List Bool) (t : ℕ) → IsMarked (slice_set bs t true) t
set_there [] zero = refl
set_there [] (suc t) = refl
set_there (b ∷ bs) zero = refl
set_there (b ∷ bs) (suc t) = set_there bs t

in_keeps : (o : Option ℕ) (bs : List Bool) (k : ℕ) → IsMarked bs k → IsMarked (set_in o bs) k
in_keeps None bs k h = h
in_keeps (Some t) bs k h = set_keeps bs t k h

marked_keeps : (is : List Instruction) (place : ℕ) (bs : List Bool) (k : ℕ) → IsMarked bs k → IsMarked
    (marked is place bs) k
marked_keeps [] place bs k h = h
marked_keeps (i ∷ is) place bs k h =
    marked_keeps is (suc place) (set_in (jump_of i place) bs) k (in_keeps (jump_of i place) bs k h)

marked_there : (is : List Instruction) (place : ℕ) (bs : List Bool) (k : ℕ) (i : Instruction) (t : ℕ) → slice_get is k
    ≡ Some i → jump_of i (place + k) ≡ Some t → IsMarked (marked is place bs) t
marked_there [] place bs k i t is j = absurd (cc is)
marked_there (x ∷ xs) place bs zero i t is j =
    let same : x ≡ i = cc is in
    let at : place + 0 ≡ place = omega arith in
    let there : jump_of x place ≡ Some t = ap (λ y. jump_of y place) same ∙ ap (jump_of i) (sym at) ∙ j in
    marked_keeps xs (suc place) _ t (subst (λ o. IsMarked (set_in o bs) t) (sym there) (set_there bs t))
marked_there (x ∷ xs) place bs (suc k) i t is j =
    let at : place + suc k ≡ suc place + k = omega arith in
    marked_there xs (suc place) _ k i t is (ap (jump_of i) (sym at) ∙ j)

-- ---- what is known

told_next : (o : Option TacRoutine) (k : ℕ) (i : Instruction) (t : ℕ) → body_at o k ≡ Some i → flagged_within o (suc k)
    ≡ Some t → flagged_by i ≡ Some t
told_next None k i t here e = absurd (cc e)
told_next (Some routine) k i t here e = go (get_or (jumped routine.body) (suc k) true) e
  where
    go : (b : Bool) → cond b None (flagged_in (slice_get routine.body k)) ≡ Some t → flagged_by i ≡ Some t
    go true e = absurd (cc e)
    go false e = ap flagged_in (sym here) ∙ e

-- nothing is known where a jump leads
told_no_jump : (o : Option TacRoutine) (k k' : ℕ) (i : Instruction) (t : ℕ) → body_at o k ≡ Some i → jump_of i k
    ≡ Some k' → flagged_within o k' ≡ Some t → ⊥
told_no_jump None k k' i t here j e = cc e
told_no_jump (Some routine) k zero i t here j e = cc e
told_no_jump (Some routine) k (suc k') i t here j e = go (get_or (jumped routine.body) (suc k') true)
    (marked_there routine.body 0 (replicate (length routine.body) false) k i (suc k') here
    (ap (jump_of i) (from_none k) ∙ j)) e
  where
    from_none : (k : ℕ) → 0 + k ≡ k
    from_none k = omega arith

    go : (b : Bool) → b ≡ true → cond b None (flagged_in (slice_get routine.body k')) ≡ Some t → ⊥
    go true is e = cc e
    go false is e = cc is

none_of : {X : Type 0} (o : Option X) → ((x : X) → o ≡ Some x → ⊥) → o ≡ None
none_of None h = refl
none_of (Some x) h = absurd (h x refl)

-- one of two that a register is short of
pub sides_of : (o o' : Option (ℕ × ℤ)) (x : ℕ × ℤ) → first_of o o' ≡ Some x → (o ≡ Some x) ⊎
    ((o ≡ None) × (o' ≡ Some x))
sides_of (Some y) o' x e = inl e
sides_of None o' x e = inr (refl, e)

module _ (c : Context) (r : ℕ) (body : List Instruction) (k : ℕ) where
  -- of the instructions before a place, and at it
  pub record RowDeferred (x : ℕ × ℤ) : Type 0 where
    pub free : get_or (jumped body) (suc k) true ≡ false
    pub clear : get_or (jumped body) (suc (suc k)) true ≡ false
    pub is : row c r (slice_get body k) (slice_get body (suc k)) (slice_get body (suc (suc k))) ≡ Some x

  pub row_is : (x : ℕ × ℤ) → row_deferred c r body (suc k) ≡ Some x → RowDeferred x
  row_is x e = go (get_or (jumped body) (suc k) true) (get_or (jumped body) (suc (suc k)) true) refl refl e
    where
      go : (a b : Bool) → get_or (jumped body) (suc k) true ≡ a → get_or (jumped body) (suc (suc k)) true ≡ b
          → cond a None
          (cond b None (row c r (slice_get body k) (slice_get body (suc k)) (slice_get body (suc (suc k))))) ≡ Some x
          → RowDeferred x
      go true b ea eb e = absurd (cc e)
      go false true ea eb e = absurd (cc e)
      go false false ea eb e = record { free = ea; clear = eb; is = e }

  pub record LoadDeferred (x : ℕ × ℤ) : Type 0 where
    pub free : get_or (jumped body) (suc k) true ≡ false
    pub is : defer c r (row_deferred c r body k) (slice_get body k) (slice_get body (suc k)) ≡ Some x

  pub load_is : (x : ℕ × ℤ) → load_deferred c r body (suc k) ≡ Some x → LoadDeferred x
  load_is x e = go (get_or (jumped body) (suc k) true) refl e
    where
      go : (a : Bool) → get_or (jumped body) (suc k) true ≡ a → cond a None
          (defer c r (row_deferred c r body k) (slice_get body k) (slice_get body (suc k))) ≡ Some x → LoadDeferred x
      go true ea e = absurd (cc e)
      go false ea e = record { free = ea; is = e }

  -- none where a jump leads
  none_jumped : (x : ℕ × ℤ) → IsMarked (jumped body) (suc k) → deferred c r body (suc k) ≡ Some x → ⊥
  none_jumped x marked e = go (sides_of (row_deferred c r body (suc k)) (load_deferred c r body (suc k)) x e)
    where
      go : (row_deferred c r body (suc k) ≡ Some x) ⊎ ((row_deferred c r body (suc k) ≡ None)
          × (load_deferred c r body (suc k) ≡ Some x)) → ⊥
      go (inl a) = cc (sym (row_is x a).free ∙ marked)
      go (inr a) = cc (sym (load_is x a.1).free ∙ marked)

  after_index : (i : Instruction) (x : ℕ × ℤ) → slice_get body k ≡ Some i → deferred c r body (suc k) ≡ Some x
      → Defers i
  after_index i x here e = go (sides_of (row_deferred c r body (suc k)) (load_deferred c r body (suc k)) x e)
    where
      go : (row_deferred c r body (suc k) ≡ Some x) ⊎ ((row_deferred c r body (suc k) ≡ None)
          × (load_deferred c r body (suc k) ≡ Some x)) → Defers i
      go (inl a) = rows c r i (slice_get body (suc k)) (slice_get body (suc (suc k))) x
          (ap (λ o. row c r o (slice_get body (suc k)) (slice_get body (suc (suc k)))) (sym here) ∙ (row_is x a).is)
      go (inr a) = defers c r (row_deferred c r body k) i (slice_get body (suc k)) x
          (ap (λ o. defer c r (row_deferred c r body k) o (slice_get body (suc k))) (sym here) ∙ (load_is x a.1).is)

-- no register is short of an offset but after an index, and none where a jump leads
deferred_next : (c : Context) (r : ℕ) (o : Option TacRoutine) (k : ℕ) (i : Instruction) (x : ℕ × ℤ)
    → body_at o k ≡ Some i → deferred_in c r o (suc k) ≡ Some x → Defers i
deferred_next c r None k i x here e = absurd (cc e)
deferred_next c r (Some routine) k i x here e = after_index c r routine.body k i x here e

deferred_no_jump : (c : Context) (r : ℕ) (o : Option TacRoutine) (k k' : ℕ) (i : Instruction) (x : ℕ × ℤ) → body_at o k
    ≡ Some i → jump_of i k ≡ Some k' → deferred_in c r o k' ≡ Some x → ⊥
deferred_no_jump c r None k k' i x here j e = cc e
deferred_no_jump c r (Some routine) k zero i x here j e = cc e
deferred_no_jump c r (Some routine) k (suc k') i x here j e =
    none_jumped c r routine.body k' x (marked_there routine.body 0 (replicate (length routine.body) false) k i (suc k')
    here (ap (jump_of i) (from_none k) ∙ j)) e
  where
    from_none : (k : ℕ) → 0 + k ≡ k
    from_none k = omega arith

module _ (c : Context) (r k : ℕ) where
  -- the flags at the place after an instruction belong only to its own temporary
  pub told_behind : (i : Instruction) (t : ℕ) → fetch c.code r k ≡ Some i → flagged_at c r (suc k) ≡ Some t
      → flagged_by i ≡ Some t
  told_behind i t here e = told_next (slice_get (routines c.code) r) k i t here e

  deferred_behind : (i : Instruction) (x : ℕ × ℤ) → fetch c.code r k ≡ Some i → deferred_at c r (suc k) ≡ Some x
      → Defers i
  deferred_behind i x here e = deferred_next c r (slice_get (routines c.code) r) k i x here e

  -- to none after most
  pub unflagged : (i : Instruction) → fetch c.code r k ≡ Some i → flagged_by i ≡ None → (v : View) → Flags c r (suc k) v
  unflagged i here none v t q e h = absurd (cc (sym none ∙ told_behind i t here e))

  pub silent : (i : Instruction) → fetch c.code r k ≡ Some i → is_silent i ≡ true → (v : View) → Straight c r (suc k) v
  silent i here quiet v = (
    unflagged i here (silent_none i quiet) v,
    none_of (deferred_at c r (suc k))
        (λ x e. cc (sym quiet ∙ (deferred_behind i x here e).loud)),
  )

  -- nor is a register short of an offset where they belong to one
  pub flagged_straight : (i : Instruction) (t : ℕ) → fetch c.code r k ≡ Some i → flagged_by i ≡ Some t → deferred_at c r
      (suc k) ≡ None
  flagged_straight i t here f = none_of (deferred_at c r (suc k))
      (λ x e. cc (sym (deferred_behind i x here e).none ∙ f))

  -- nor where an instruction leads that writes none
  pub passed_silent : (k' : ℕ) → Passes c r k k' → (v : View) → Straight c r k' v
  passed_silent k' g v = (flags, none_of (deferred_at c r k') deferred)
    where
      writes_none : (i : Instruction) (t : ℕ) → fetch c.code r k ≡ Some i → written_by i ≡ Some t → ⊥
      writes_none i t is w = cc (sym (ap (λ o. flow.writes o t) is ∙ ap (is_it t) w ∙ eq_same t) ∙ g.none t)

      leads_there : (i : Instruction) → fetch c.code r k ≡ Some i → is_among k' (next_of i k) ≡ true
      leads_there i is = sym (ap (λ o. flow.leads o k k') is) ∙ g.there

      flags : (t q : ℕ) → flagged_at c r k' ≡ Some t → home c r t ≡ Reg q → (v.equal ≡ nat_eq (v.registers q) 0)
          × (v.negative ≡ nat_le SIGN_BIT (v.registers q))
      flags t q e h = go (fetch c.code r k) refl
        where
          go : (o : Option Instruction) → fetch c.code r k ≡ o → (v.equal ≡ nat_eq (v.registers q) 0)
              × (v.negative ≡ nat_le SIGN_BIT (v.registers q))
          go None is = absurd (cc (sym (ap (λ o. flow.leads o k k') is) ∙ g.there))
          go (Some i) is = sides (cases_eq k' (suc k))
            where
              sides : (k' ≡ suc k) ⊎ (k' ≢ suc k) → (v.equal ≡ nat_eq (v.registers q) 0)
                  × (v.negative ≡ nat_le SIGN_BIT (v.registers q))
              sides (inl same) = absurd (writes_none i t is
                  (plainly i t (told_behind i t is (ap (flagged_at c r) (sym same) ∙ e))).written)
              sides (inr ne) =
                  absurd (told_no_jump (slice_get (routines c.code) r) k k' i t is
                  (jumps_there i k k' (leads_there i is) ne) e)

      deferred : (x : ℕ × ℤ) → deferred_at c r k' ≡ Some x → ⊥
      deferred x e = go (fetch c.code r k) refl
        where
          go : (o : Option Instruction) → fetch c.code r k ≡ o → ⊥
          go None is = cc (sym (ap (λ o. flow.leads o k k') is) ∙ g.there)
          go (Some i) is = sides (cases_eq k' (suc k))
            where
              sides : (k' ≡ suc k) ⊎ (k' ≢ suc k) → ⊥
              sides (inl same) = let w = deferred_behind i x is (ap (deferred_at c r) (sym same) ∙ e)
                  in writes_none i w.to is w.written
              sides (inr ne) = deferred_no_jump c r (slice_get (routines c.code) r) k k' i x is
                  (jumps_there i k k' (leads_there i is) ne) e

-- nor where a call comes back to
pub called_silent : (c : Context) (r k u : ℕ) → called c r k u ≡ true → (v : View) → Straight c r k v
called_silent c r zero u g v = absurd (cc g)
called_silent c r (suc k) u g v = (flags, none_of (deferred_at c r (suc k)) deferred)
  where
    no_result : (i : Instruction) → fetch c.code r k ≡ Some i → result_of i ≡ None → ⊥
    no_result i is none = cc (sym (ap (λ o. gives_to o u) is ∙ ap (is_it u) none) ∙ g)

    flags : (t q : ℕ) → flagged_at c r (suc k) ≡ Some t → home c r t ≡ Reg q → (v.equal ≡ nat_eq (v.registers q) 0)
        × (v.negative ≡ nat_le SIGN_BIT (v.registers q))
    flags t q e h = go (fetch c.code r k) refl
      where
        go : (o : Option Instruction) → fetch c.code r k ≡ o → (v.equal ≡ nat_eq (v.registers q) 0)
            × (v.negative ≡ nat_le SIGN_BIT (v.registers q))
        go None is = absurd (cc (sym (ap (λ o. gives_to o u) is) ∙ g))
        go (Some i) is = absurd (no_result i is (plainly i t (told_behind c r k i t is e)).result)

    deferred : (x : ℕ × ℤ) → deferred_at c r (suc k) ≡ Some x → ⊥
    deferred x e = go (fetch c.code r k) refl
      where
        go : (o : Option Instruction) → fetch c.code r k ≡ o → ⊥
        go None is = cc (sym (ap (λ o. gives_to o u) is) ∙ g)
        go (Some i) is = no_result i is (deferred_behind c r k i x is e).result

-- nor at the beginning of a routine
pub entered_silent : (c : Context) (r : ℕ) (v : View) → Straight c r 0 v
entered_silent c r v = (
  λ t q e h. absurd (none t (slice_get (routines c.code) r) e),
  straight
      (slice_get (routines c.code) r),
)
  where
    none : (t : ℕ) (o : Option TacRoutine) → flagged_within o 0 ≡ Some t → ⊥
    none t None e = cc e
    none t (Some routine) e = cc e

    straight : (o : Option TacRoutine) → deferred_in c r o 0 ≡ None
    straight None = refl
    straight (Some routine) = refl
