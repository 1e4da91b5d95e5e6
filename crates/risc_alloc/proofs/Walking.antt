-- A walk, one instruction after another.
use Rattle.std.proofs.Common.{◌≡◌, ◌≢◌, ℕ, suc, ◌-◌, ◌<◌, ◌≤◌, ◌⊎◌, inl, inr, cond, nat_eq, List, length, slice_get}
use Rattle.std.proofs.Common.{Some, refl, sym, ◌∙◌, subst, arith}
use Rattle.std.proofs.lemmas.Bool.{cases_eq, eq-eqb, ne_eqb}
use Rattle.std.proofs.lemmas.Option.{slice_get_within}
use Rattle.tac_code.specs.declared.code.Instruction.{Instruction}
use Rattle.risc_alloc.specs.declared.claims.Claims.{Claims}
use Rattle.risc_alloc.specs.declared.window.Window.{Window}
use Rattle.risc_alloc.specs.Walk.{Step, IsClaimed, Walked}

pub walked_none : (window : Window) (claims : Claims) (body : List Instruction) (from : ℕ) (table : List ℕ) → from
    ≡ length body → Walked window claims body from table
walked_none window claims body from table all = record {
  tables = λ place. table;
  here = refl;
  steps = λ place i le e. let lt : place < length body = slice_get_within body place i e in absurd (omega arith);
  claimed = λ place le lt. absurd (omega arith);
}

module _ (window : Window) (claims : Claims) (body : List Instruction) (k : ℕ) (next table : List ℕ)
    (w : Walked window claims body (suc k) next)
    (step : (i : Instruction) → slice_get body k ≡ Some i → Step window claims i k next table)
    (claimed : IsClaimed claims k table) where
  after : ℕ → List ℕ
  after place = cond (nat_eq place k) table (w.tables place)

  after_here : (place : ℕ) → place ≡ k → after place ≡ table
  unfolding after
  after_here place e = rw (eq-eqb place k e) refl

  after_there : (place : ℕ) → place ≢ k → after place ≡ w.tables place
  unfolding after
  after_there place ne = rw (ne_eqb place k ne) refl

  next_is : after (suc k) ≡ next
  next_is = let ne : suc k ≢ k = omega arith in after_there (suc k) ne ∙ w.here

  step_at : (place : ℕ) (i : Instruction) → k ≤ place → slice_get body place ≡ Some i → (place ≡ k) ⊎ (place ≢ k)
      → Step window claims i place (after (suc place)) (after place)
  step_at place i le e (inl same) =
      let at : slice_get body k ≡ Some i = subst (λ (j : ℕ). slice_get body j ≡ Some i) same e in
      subst (λ (j : ℕ). Step window claims i j (after (suc j)) (after j)) (sym same)
      (subst (λ (l : List ℕ). Step window claims i k l (after k)) (sym next_is)
      (subst (λ (l : List ℕ). Step window claims i k next l) (sym (after_here k refl)) (step i at)))
  step_at place i le e (inr ne) =
      let behind : suc place ≢ k = omega arith in
      let above : suc k ≤ place = omega arith in
      subst (λ (l : List ℕ). Step window claims i place l (after place)) (sym (after_there (suc place) behind))
      (subst (λ (l : List ℕ). Step window claims i place (w.tables (suc place)) l) (sym (after_there place ne))
      (w.steps place i above e))

  claimed_at : (place : ℕ) → k ≤ place → place < length body → (place ≡ k) ⊎ (place ≢ k) → IsClaimed claims place
      (after place)
  claimed_at place le lt (inl same) =
      subst (λ (j : ℕ). IsClaimed claims j (after j)) (sym same)
      (subst (IsClaimed claims k) (sym (after_here k refl)) claimed)
  claimed_at place le lt (inr ne) =
      let above : suc k ≤ place = omega arith in subst (IsClaimed claims place) (sym (after_there place ne))
      (w.claimed place above lt)

  pub walked_more : Walked window claims body k table
  walked_more = record {
    tables = after;
    here = after_here k refl;
    steps = λ place i le e. step_at place i le e (cases_eq place k);
    claimed = λ place le lt. claimed_at place le lt (cases_eq place k);
  }

-- the same, where the code has counted down and has met what is claimed
pub walked_on : (window : Window) (was claims now : Claims) (body : List Instruction) (place : ℕ) (next table : List ℕ)
    → 0 < place → now ≡ claims → claims ≡ was → Walked window claims body place next
    → ((i : Instruction) → slice_get body (place - 1) ≡ Some i → Step window claims i (place - 1) next table)
    → IsClaimed claims (place - 1) table → (now ≡ was) × Walked window now body (place - 1) table
walked_on window was claims now body place next table above same before w step claimed =
    let at : place ≡ suc (place - 1) = omega arith in
    let w' : Walked window claims body (suc (place - 1)) next = subst (λ (j : ℕ). Walked window claims body j next) at w
    in
    let more : Walked window claims body (place - 1) table = walked_more window claims body
    (place - 1) next table w' step claimed in
    (same ∙ before, subst (λ (c : Claims). Walked window c body (place - 1) table) (sym same) more)
