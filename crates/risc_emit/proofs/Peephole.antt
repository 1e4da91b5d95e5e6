-- What is known of the flags at a place of a body is what is known there for the code.
use Rattle.std.proofs.Common.{◌≡◌, ℕ, zero, suc, ◌+◌, ◌-◌, ◌<◌, ◌≤◌, ◌⊎◌, inl, inr, Bool, true, false, cond, List, []}
use Rattle.std.proofs.Common.{◌∷◌, length, ℤ, Option, Some, None, slice_get, get_or, refl, sym, ap, ◌∙◌, subst, arith}
use Rattle.std.proofs.lemmas.Option.{slice_get_past}
use Rattle.tac_code.specs.declared.code.Instruction.{Instruction}
use Rattle.tac_code.specs.declared.code.TacRoutine.{TacRoutine}
use Rattle.tac_code.specs.declared.code.Instruction.TheVariants.{Literal, Copy, Arithmetic, Bits, Compare, CheckRange}
use Rattle.tac_code.specs.declared.code.Instruction.TheVariants.{CheckPointer, Text, Offset, Index, RoutineValue, Load}
use Rattle.tac_code.specs.declared.code.Instruction.TheVariants.{Store, LoadByte, StoreByte, Jump, JumpBack, Branch}
use Rattle.tac_code.specs.declared.code.Instruction.TheVariants.{BranchBack, Call, CallValue, Return, Trap, Take, Put}
use Rattle.tac_code.specs.declared.code.Instruction.TheVariants.{New, End}
use Rattle.tac_code.specs.Meaning.{routines, fetch}
use Rattle.risc_emit_forms.proofs.Shortfalls.{IsLoad, DeferredLoad, DeferredRow, deferred_is}
use Rattle.risc_emit.specs.Passes.{LoadsNear}
use Rattle.risc_emit_relation.specs.Context.{Context}
use Rattle.risc_emit_forms.specs.Peephole.{jumped, flagged, flagged_within, flagged_at, row, row_deferred, defer}
use Rattle.risc_emit_forms.specs.Peephole.{load_deferred, deferred, deferred_in}
use Rattle.risc_emit_forms.specs.Peephole.{deferred_at, first_of}

pub flagged_here : (c : Context) (r k : ℕ) (routine : TacRoutine) (body : List Instruction) (t : Option ℕ) → slice_get
    (routines c.code) r ≡ Some routine → body ≡ routine.body → t ≡ flagged body k → t ≡ flagged_at c r k
flagged_here c r k routine body t own same is =
    is ∙ ap (λ b. flagged b k) same ∙ ap (λ o. flagged_within o k) (sym own)

pub deferred_here : (c : Context) (r k : ℕ) (routine : TacRoutine) (body : List Instruction) (b : Option (ℕ × ℤ))
    → slice_get (routines c.code) r ≡ Some routine → body ≡ routine.body → b ≡ deferred c r body k
    → b ≡ deferred_at c r k
deferred_here c r k routine body b own same is =
    is ∙ ap (λ x. deferred c r x k) same ∙ ap (λ o. deferred_in c r o k) (sym own)

pub deferred_next : (c : Context) (r k : ℕ) (routine : TacRoutine) (body : List Instruction) (b : Option (ℕ × ℤ))
    → slice_get (routines c.code) r ≡ Some routine → body ≡ routine.body → b ≡ deferred c r body (k + 1)
    → b ≡ deferred_at c r (suc k)
deferred_next c r k routine body b own same is =
    deferred_here c r (k + 1) routine body b own same is ∙ ap (deferred_at c r) (plus_one k)
  where
    plus_one : (k : ℕ) → k + 1 ≡ suc k
    plus_one k = omega arith

-- what comes before a place, and is not jumped over, decides
get_within : (xs : List Bool) (k : ℕ) → k < length xs → get_or xs k false ≡ false → get_or xs k true ≡ false
get_within [] k lt e = absurd (omega (arith, lt))
get_within (x ∷ xs) zero lt e = e
get_within (x ∷ xs) (suc k) lt e = get_within xs k (omega (arith, lt)) e

less_one : (k : ℕ) → k ≡ suc k - 1
less_one k = omega arith

module _ (c : Context) (r : ℕ) (body : List Instruction) (marks : List Bool) (same : marks ≡ jumped body) where
  unmarked : (k : ℕ) → k < length marks → get_or marks k false ≡ false → get_or (jumped body) k true ≡ false
  unmarked k within free = ap (λ xs. get_or xs k true) (sym same) ∙ get_within marks k within free

  pub load_some : (place : ℕ) (i : Instruction) → 0 < place → place < length marks → get_or marks place false ≡ false
      → slice_get body (place - 1) ≡ Some i → defer c r (row_deferred c r body (place - 1)) (Some i)
      (slice_get body place) ≡ load_deferred c r body place
  load_some zero i lt within free is = absurd (omega (arith, lt))
  load_some (suc k) i lt within free is =
      ap (λ j. defer c r (row_deferred c r body j) (Some i) (slice_get body (suc k))) (sym (less_one k))
      ∙ ap (λ o. defer c r (row_deferred c r body k) o (slice_get body (suc k)))
      (sym (ap (slice_get body) (less_one k) ∙ is))
      ∙ ap (λ b. cond b None (defer c r (row_deferred c r body k) (slice_get body k) (slice_get body (suc k))))
      (sym (unmarked (suc k) within free))

  pub row_some : (place : ℕ) (i : Instruction) → 0 < place → place < length marks → get_or marks place false ≡ false
      → get_or marks (place + 1) true ≡ false → slice_get body (place - 1) ≡ Some i → row c r (Some i)
      (slice_get body place) (slice_get body (place + 1)) ≡ row_deferred c r body place
  row_some zero i lt within free free' is = absurd (omega (arith, lt))
  row_some (suc k) i lt within free free' is =
      let next : suc k + 1 ≡ suc (suc k) = omega arith in
      ap (λ j. row c r (Some i) (slice_get body (suc k)) (slice_get body j)) next
      ∙ ap (λ o. row c r o (slice_get body (suc k)) (slice_get body (suc (suc k))))
      (sym (ap (slice_get body) (less_one k) ∙ is))
      ∙ ap (λ b. cond b None (row c r (slice_get body k) (slice_get body (suc k)) (slice_get body (suc (suc k)))))
      (sym (ap (λ j. get_or (jumped body) j true) (sym next) ∙ ap (λ xs. get_or xs (suc k + 1) true) (sym same)
      ∙ free'))
      ∙ ap (λ b. cond b None (cond (get_or (jumped body) (suc (suc k)) true) None
      (row c r (slice_get body k) (slice_get body (suc k)) (slice_get body (suc (suc k))))))
      (sym (unmarked (suc k) within free))

pub get_is : {X : Type 0} (xs : List X) (k : ℕ) (x : X) → k < length xs → x ≡ get_or xs k x → slice_get xs k ≡ Some x
get_is [] k x lt e = absurd (omega (arith, lt))
get_is (y ∷ ys) zero x lt e = ap Some (sym e)
get_is (y ∷ ys) (suc k) x lt e = get_is ys k x (omega (arith, lt)) e

-- what a look-up gives that takes what is past the end for jumped to
pub get_end : (xs : List Bool) (k : ℕ) → length xs ≤ k → true ≡ get_or xs k true
get_end [] k le = refl
get_end (x ∷ xs) zero le = absurd (omega (arith, le))
get_end (x ∷ xs) (suc k) le = get_end xs k (omega (arith, le))

pub get_inside : (xs : List Bool) (k : ℕ) → k < length xs → get_or xs k false ≡ get_or xs k true
get_inside [] k lt = absurd (omega (arith, lt))
get_inside (x ∷ xs) zero lt = refl
get_inside (x ∷ xs) (suc k) lt = get_inside xs k (omega (arith, lt))

pub row_jumped : (c : Context) (r place : ℕ) (body : List Instruction) (marks : List Bool) → marks ≡ jumped body
    → get_or
    marks (place + 1) true ≡ true → None ≡ row_deferred c r body place
row_jumped c r zero body marks same e = refl
row_jumped c r (suc k) body marks same e =
    go (get_or (jumped body) (suc k) true) (get_or (jumped body) (suc (suc k)) true)
    (ap (λ j. get_or (jumped body) j true) next ∙ ap (λ xs. get_or xs (suc k + 1) true) (sym same) ∙ e)
  where
    next : suc (suc k) ≡ suc k + 1
    next = omega arith

    go : (a b : Bool) → b ≡ true → None ≡ cond a None (cond b None
        (row c r (slice_get body k) (slice_get body (suc k)) (slice_get body (suc (suc k)))))
    go true b e = refl
    go false true e = refl
    go false false e = absurd (cc e)

pub load_none : (c : Context) (r place : ℕ) (body : List Instruction) → length body ≤ place - 1 → None
    ≡ load_deferred c r body place
load_none c r zero body le = refl
load_none c r (suc k) body le = go (get_or (jumped body) (suc k) true)
  where
    go : (b : Bool) → None ≡ cond b None
        (defer c r (row_deferred c r body k) (slice_get body k) (slice_get body (suc k)))
    go true = refl
    go false = sym (ap (λ o. defer c r (row_deferred c r body k) o (slice_get body (suc k)))
        (slice_get_past body k (omega (arith, le))))

pub row_none : (c : Context) (r place : ℕ) (body : List Instruction) → length body ≤ place - 1 → None
    ≡ row_deferred c r body place
row_none c r zero body le = refl
row_none c r (suc k) body le = go (get_or (jumped body) (suc k) true) (get_or (jumped body) (suc (suc k)) true)
  where
    go : (a b : Bool) → None ≡ cond a None (cond b None
        (row c r (slice_get body k) (slice_get body (suc k)) (slice_get body (suc (suc k)))))
    go true b = refl
    go false true = refl
    go false false = sym (ap (λ o. row c r o (slice_get body (suc k)) (slice_get body (suc (suc k))))
        (slice_get_past body k (omega (arith, le))))

-- where the instruction before a place is no index, nothing is short there
pub deferred_first : (c : Context) (r place : ℕ) (body : List Instruction) → place ≡ 0 → None ≡ deferred c r body place
deferred_first c r zero body e = refl
deferred_first c r (suc k) body e = absurd (omega (arith, e))

deferred_by : (c : Context) (r place : ℕ) (body : List Instruction) → None ≡ row_deferred c r body place → None
    ≡ load_deferred c r body place → None ≡ deferred c r body place
deferred_by c r place body e f = f ∙ ap (λ o. first_of o (load_deferred c r body place)) e

pub deferred_past : (c : Context) (r place : ℕ) (body : List Instruction) → length body ≤ place - 1 → None
    ≡ deferred c r body place
deferred_past c r place body le = deferred_by c r place body (row_none c r place body le) (load_none c r place body le)

pub deferred_other : (c : Context) (r place : ℕ) (body : List Instruction) (i : Instruction)
    → slice_get body (place - 1) ≡ Some i → ((next third : Option Instruction) → row c r (Some i) next third ≡ None)
    → ((before : Option (ℕ × ℤ)) (next : Option Instruction) → defer c r before (Some i) next ≡ None) → None
    ≡ deferred c r body place
deferred_other c r zero body i is no_row no_defer = refl
deferred_other c r (suc k) body i is no_row no_defer =
    deferred_by c r (suc k) body (rowless (get_or (jumped body) (suc k) true) (get_or (jumped body) (suc (suc k)) true))
    (not_deferred (get_or (jumped body) (suc k) true))
  where
    here : slice_get body k ≡ Some i
    here = ap (slice_get body) (less_one k) ∙ is

    rowless : (a b : Bool) → None ≡ cond a None (cond b None
        (row c r (slice_get body k) (slice_get body (suc k)) (slice_get body (suc (suc k)))))
    rowless true b = refl
    rowless false true = refl
    rowless false false = sym (ap (λ o. row c r o (slice_get body (suc k)) (slice_get body (suc (suc k)))) here
        ∙ no_row (slice_get body (suc k)) (slice_get body (suc (suc k))))

    not_deferred : (b : Bool) → None ≡ cond b None (defer c r (row_deferred c r body k) (slice_get body k)
        (slice_get body (suc k)))
    not_deferred true = refl
    not_deferred false = sym (ap (λ o. defer c r (row_deferred c r body k) o (slice_get body (suc k))) here
        ∙ no_defer (row_deferred c r body k) (slice_get body (suc k)))

pub loads_near : (c : Context) (r k : ℕ) (i : Instruction) (b : Option (ℕ × ℤ)) → fetch c.code r k ≡ Some i → b
    ≡ deferred_at c r k → LoadsNear i b
loads_near c r k (Load t a n) None here is = tt
loads_near c r k (Load t a n) (Some x) here is =
    by (deferred_is c r k x (sym is))
  where
    by : DeferredLoad c r k x ⊎ DeferredRow c r k x → LoadsNear (Load t a n) (Some x)
    by (inl l) = let same : l.behind ≡ n = cc (sym l.here ∙ here) in subst (λ z. IsLoad x.1 z) same l.near
    by (inr w) = absurd (cc (sym w.here ∙ here))
loads_near c r k (Literal t z) x here is = tt
loads_near c r k (Copy t a) x here is = tt
loads_near c r k (Arithmetic operator t a b error line) x here is = tt
loads_near c r k (Bits operator t a b) x here is = tt
loads_near c r k (Compare relation t a b) x here is = tt
loads_near c r k (CheckRange a low high error line) x here is = tt
loads_near c r k (CheckPointer a error line) x here is = tt
loads_near c r k (Text t bytes) x here is = tt
loads_near c r k (Offset t a n extent) x here is = tt
loads_near c r k (Index t a i low high width error line) x here is = tt
loads_near c r k (RoutineValue t q) x here is = tt
loads_near c r k (Store a n u) x here is = tt
loads_near c r k (LoadByte t a n) x here is = tt
loads_near c r k (StoreByte a n u) x here is = tt
loads_near c r k (Jump n) x here is = tt
loads_near c r k (JumpBack n) x here is = tt
loads_near c r k (Branch relation a b n) x here is = tt
loads_near c r k (BranchBack relation a b n) x here is = tt
loads_near c r k (Call t q us line) x here is = tt
loads_near c r k (CallValue t a us line) x here is = tt
loads_near c r k (Return a) x here is = tt
loads_near c r k (Trap error line) x here is = tt
loads_near c r k (Take t) x here is = tt
loads_near c r k (Put a) x here is = tt
loads_near c r k (New t type line) x here is = tt
loads_near c r k End x here is = tt
