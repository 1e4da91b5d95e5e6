-- A walk goes on from one place to the next, and the code that it makes grows.
use Rattle.std.proofs.Common.{◌≡◌, ◌≢◌, ◌⊎◌, inl, inr, ℕ, zero, suc, ◌+◌, ◌-◌, ◌<◌, ◌≤◌, ◌++◌, Bool, true, false, cond}
use Rattle.std.proofs.Common.{nat_eq, nat_lt, if◌then◌else◌, List, [], ◌∷◌, length, slice_get, Option, Some, None, sym}
use Rattle.std.proofs.Common.{◌∙◌, subst, ap, arith, refl, append_assoc}
use Rattle.std.proofs.lemmas.List.{append-nil}
use Rattle.std.proofs.lemmas.Bool.{cases_eq, eq-eqb, ne_eqb}
use Rattle.std.proofs.lemmas.Option.{none-some, same_Some}
use Rattle.tac_code.specs.declared.code.Instruction.{Instruction}
use Rattle.tac_pass.specs.declared.plan.Step.{Step}
use Rattle.tac_pass.specs.Tables.{Table}
use Rattle.tac_pass.specs.Acts.{and_then, only_if}
use Rattle.tac_pass.specs.Certified.{begins}
use Rattle.tac_pass.specs.Walk.{Joins, less, behind, ArePutIn, Spot, Becomes, Steps, Walked}

-- ---- a walk, one place after another

-- what was taken apart
pub some_then : {A B : Type 0} (o : Option A) (go : A → Option B) (b : B) → and_then o go ≡ Some b → (a : A) ×
    (o ≡ Some a)
    × (go a ≡ Some b)
some_then None go b f = absurd (none-some b f)
some_then (Some a) go b f = (a, refl, f)

pub some_only : {A : Type 0} (b : Bool) (o : Option A) (a : A) → only_if b o ≡ Some a → (b ≡ true) × (o ≡ Some a)
some_only true o a f = (refl, f)
some_only false o a f = absurd (none-some a f)

pub less_is : (m n d : ℕ) → less m n ≡ Some d → n + d ≡ m
less_is m n d f = which (nat_lt m n) refl f
  where
    which : (b : Bool) → nat_lt m n ≡ b → (if b then None else Some (m - n)) ≡ Some d → n + d ≡ m
    which true e g = absurd (none-some d g)
    which false e g =
        let above : n ≤ m = grind arith in
        let is = same_Some (m - n) d g in omega (arith, above, is)

module _ (r : ℕ) (minded : List ℕ) (steps : List Step) (starts : List ℕ) (body : List Instruction) where
  pub walked_none : (s : Spot) → begins s.table ≡ true → Joins steps 0 s.table → slice_get starts 0 ≡ Some 0
      → Walked r minded steps starts body 0 s
  walked_none s f j e = record {
    at = λ place. s;
    here = refl;
    begins = f;
    starts_first = e;
    joins = λ place le. let at : 0 ≡ place = omega (arith, le) in subst (λ (k : ℕ). Joins steps k s.table) at j;
    steps_on = λ place i lt e. absurd (omega (arith, lt));
  }

  module _ (n : ℕ) (s t : Spot) (w : Walked r minded steps starts body n s) (j : Joins steps (suc n) t.table)
      (step : (i : Instruction) → slice_get body n ≡ Some i → Steps r minded steps starts n i s t) where
    after : ℕ → Spot
    after place = cond (nat_eq place (suc n)) t (w.at place)

    after_here : (place : ℕ) → place ≡ suc n → after place ≡ t
    unfolding after
    after_here place e = rw (eq-eqb place (suc n) e) refl

    after_there : (place : ℕ) → place ≢ suc n → after place ≡ w.at place
    unfolding after
    after_there place ne = rw (ne_eqb place (suc n) ne) refl

    before : (place : ℕ) → place ≤ n → after place ≡ w.at place
    before place le = let ne : place ≢ suc n = omega (arith, le) in after_there place ne

    joins_at : (place : ℕ) → place ≤ suc n → (place ≡ suc n) ⊎ (place ≢ suc n) → Joins steps place (after place).table
    joins_at place le (inl e) =
        subst (λ (s : Spot). Joins steps place s.table) (sym (after_here place e))
        (subst (λ (k : ℕ). Joins steps k t.table) (sym e) j)
    joins_at place le (inr ne) =
        let low : place ≤ n = omega (arith, le, ne) in
        subst (λ (s : Spot). Joins steps place s.table) (sym (after_there place ne)) (w.joins place low)

    steps_at : (place : ℕ) (i : Instruction) → place < suc n → slice_get body place ≡ Some i → (place ≡ n) ⊎ (place ≢ n)
        → Steps r minded steps starts place i (after place) (after (suc place))
    steps_at place i lt e (inl same) =
        let there : slice_get body n ≡ Some i = subst (λ (k : ℕ). slice_get body k ≡ Some i) same e in
        let most : n ≤ n = omega arith in
        let first : after n ≡ s = before n most ∙ w.here in
        let second : after (suc n) ≡ t = after_here (suc n) refl in
        subst (λ (k : ℕ). Steps r minded steps starts k i (after k) (after (suc k))) (sym same)
        (subst (λ (x : Spot). Steps r minded steps starts n i x (after (suc n))) (sym first)
        (subst (λ (x : Spot). Steps r minded steps starts n i s x) (sym second) (step i there)))
    steps_at place i lt e (inr ne) =
        let low : place < n = omega (arith, lt, ne) in
        let le : place ≤ n = omega (arith, low) in
        let le' : suc place ≤ n = omega (arith, low) in
        subst (λ (x : Spot). Steps r minded steps starts place i x (after (suc place))) (sym (before place le))
        (subst (λ (x : Spot). Steps r minded steps starts place i (w.at place) x) (sym (before (suc place) le'))
        (w.steps_on place i low e))

    pub walked_on : Walked r minded steps starts body (suc n) t
    walked_on =
        let least : 0 ≤ n = omega arith in
        record {
          at = after;
          here = after_here (suc n) refl;
          begins = subst (λ (x : Spot). begins x.table ≡ true) (sym (before 0 least)) w.begins;
          starts_first = w.starts_first;
          joins = λ place le. joins_at place le (cases_eq place (suc n));
          steps_on = λ place i lt e. steps_at place i lt e (cases_eq place n);
        }

-- behind each form of a place, the next place's claim is that of the plan
becomes_joins : (r : ℕ) (minded : List ℕ) (steps : List Step) (starts : List ℕ) (place : ℕ) (i : Instruction)
    (s t : Spot) → Becomes r minded steps starts place i s t → Joins steps (suc place) t.table
becomes_joins r minded steps starts place i s t (inl b) = b.goes.joins
becomes_joins r minded steps starts place i s t (inr (inl b)) = b.goes.joins
becomes_joins r minded steps starts place i s t (inr (inr (inl b))) = b.joins
becomes_joins r minded steps starts place i s t (inr (inr (inr b))) = b.joins

-- for the loop over a body, where the instruction at the place is at hand
pub walks_on : (r : ℕ) (minded : List ℕ) (steps : List Step) (starts : List ℕ) (body : List Instruction) (n : ℕ)
    (s t : Spot) (i : Instruction) → Walked r minded steps starts body n s → slice_get body n ≡ Some i
    → Steps r minded steps starts n i s t → Walked r minded steps starts body (n + 1) t
walks_on r minded steps starts body n s t i w e step =
    let one : suc n ≡ n + 1 = omega arith in
    subst (λ (k : ℕ). Walked r minded steps starts body k t) one
    (walked_on r minded steps starts body n s t w
    (becomes_joins r minded steps starts n i step.behind t step.becomes)
    (λ i' e'. subst (λ (k : Instruction). Steps r minded steps starts n k s t) (same_Some i i' (sym e ∙ e')) step))

-- ---- the code grows

pub record Grows (xs ys : List Instruction) : Type 0 where
  pub more : List Instruction
  pub is : ys ≡ xs ++ more

pub grows_not : (xs ys : List Instruction) → ys ≡ xs → Grows xs ys
grows_not xs ys e = record { more = []; is = e ∙ sym (append-nil xs) }

pub grows_on : (xs ys zs : List Instruction) → Grows xs ys → Grows ys zs → Grows xs zs
grows_on xs ys zs g h = record {
  more = g.more ++ h.more;
  is = h.is ∙ (ap (λ (l : List Instruction). l ++ h.more) g.is ∙ append_assoc xs g.more h.more);
}

pub grows_puts : (r : ℕ) (minded : List ℕ) (table : Table) (out : List Instruction) (n : ℕ) (table' : Table)
    (out' : List Instruction) → ArePutIn r minded table out n table' out' → Grows out out'
grows_puts r minded table out zero table' out' (is, e) = grows_not out out' e
grows_puts r minded table out (suc n) table' out' (put, i, t, o, before, made, e) =
    grows_on out o out' (grows_puts r minded table out n t o before) (record { more = i ∷ []; is = e })

pub grows_becomes : (r : ℕ) (minded : List ℕ) (steps : List Step) (starts : List ℕ) (place : ℕ) (i : Instruction)
    (s t : Spot) → Becomes r minded steps starts place i s t → Grows s.out t.out
grows_becomes r minded steps starts place i s t (inl b) = grows_not s.out t.out b.same
grows_becomes r minded steps starts place i s t (inr (inl b)) = record { more = b.new_one ∷ []; is = b.pushed }
grows_becomes r minded steps starts place i s t (inr (inr (inl b))) = record { more = b.new_one ∷ []; is = b.pushed }
grows_becomes r minded steps starts place i s t (inr (inr (inr b))) = record { more = b.new_one ∷ []; is = b.pushed }

pub grown_get : (xs ys : List Instruction) → Grows xs ys → (q : ℕ) (i : Instruction) → slice_get xs q ≡ Some i
    → slice_get ys q ≡ Some i
grown_get xs ys g q i e = subst (λ (l : List Instruction). slice_get l q ≡ Some i) (sym g.is) (prefix xs g.more q i e)
  where
    prefix : (xs more : List Instruction) (q : ℕ) (i : Instruction) → slice_get xs q ≡ Some i → slice_get (xs ++ more) q
        ≡ Some i
    prefix [] more q i e = absurd (none-some i e)
    prefix (x ∷ xs) more zero i e = e
    prefix (x ∷ xs) more (suc q) i e = prefix xs more q i e

pub last_get : (xs : List Instruction) (i : Instruction) → slice_get (xs ++ i ∷ []) (length xs) ≡ Some i
last_get [] i = refl
last_get (x ∷ xs) i = last_get xs i

pub length_last : (xs : List Instruction) (i : Instruction) → length (xs ++ i ∷ []) ≡ suc (length xs)
length_last [] i = refl
length_last (x ∷ xs) i = ap suc (length_last xs i)
