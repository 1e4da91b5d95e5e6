-- Runs, put together.
use Rattle.std.proofs.Common.{◌≡◌, ℕ, suc, ◌+◌, ◌<◌, ◌≤◌, Bool, true, false, List, [], ◌∷◌, ◌++◌, length, Some}
use Rattle.std.proofs.Common.{refl, sym, ap, ◌∙◌, subst, arith}
use Rattle.behavior.specs.Endings.{Ending, IsMore}
use Rattle.behavior.specs.Transcripts.{Shown}
use Rattle.tac_code.specs.declared.code.Instruction.{Instruction}
use Rattle.tac_code.specs.Meaning.{Code, State, Step, Goes, Over, fetch}
use Rattle.tac_code.specs.Run.{after}
use Rattle.tac_code_steps.specs.Turns.{turns_aside, one_more_if, behind}
use Rattle.tac_code_steps.specs.Runs.{Machine, step_of, runs, turns_by, Stands, Leads, Comes, Stops}

-- where one stretch ends, the next begins
pub split : (code : Code) (r pc : ℕ) (a b : List Instruction) (pc' : ℕ) → Stands code r pc (a ++ b) pc' → (m : ℕ)
    × Stands code r pc a m × Stands code r m b pc'
split code r pc [] b pc' h = (pc, refl, h)
split code r pc (i ∷ a) b pc' h = let s = split code r (suc pc) a b pc' h.1 in (s.0, (h.0, s.1), s.2)

-- two stretches, one after the other
pub join : (code : Code) (r pc : ℕ) (a b : List Instruction) (m pc' : ℕ) → Stands code r pc a m → Stands code r m b pc'
    → Stands code r pc (a ++ b) pc'
join code r pc [] b m pc' h g = subst (λ q. Stands code r q b pc') (sym h) g
join code r pc (i ∷ a) b m pc' h g = (h.0, join code r (suc pc) a b m pc' h.1 g)

pub stands_length : (code : Code) (r pc : ℕ) (a : List Instruction) (pc' : ℕ) → Stands code r pc a pc' → pc' ≡ pc
    + length a
stands_length code r pc [] pc' h = omega arith
stands_length code r pc (i ∷ a) pc' h = let e = stands_length code r (suc pc) a pc' h.1 in omega arith

no_fewer : (b : Bool) (n : ℕ) → n ≤ one_more_if b n
no_fewer true n = omega arith
no_fewer false n = omega arith

module _ (m : Machine) (s s' : State) (h : step_of m s ≡ Goes s') where
  stepped : (k : ℕ) → runs m (suc k) s ≡ runs m k s'
  stepped k = ap (λ (t : Step). after t s (runs m k)) h

  abbrev aside : Bool
  aside = turns_aside (fetch m.code s.current.routine s.current.place)

  counted : (k : ℕ) → turns_by m (suc k) s ≡ one_more_if aside (turns_by m k s')
  counted k = ap (λ (t : Step). one_more_if aside (behind t (turns_by m k))) h

  turned : (b : Bool) → aside ≡ b → b ≡ true → (k : ℕ) → turns_by m k s' < turns_by m (suc k) s
  turned b e f k = let c = counted k ∙ ap (λ (b : Bool). one_more_if b (turns_by m k s')) (e ∙ f) in omega (arith, c)

-- a jump, a branch or a call
pub one_turn : {m : Machine} (s s' : State) (i : Instruction) → fetch m.code s.current.routine s.current.place ≡ Some i
    → turns_aside (Some i) ≡ true → step_of m s ≡ Goes s' → Leads m s s'
one_turn {m} s s' i at is h = record {
  by = λ k. (suc k, stepped m s s' h k, turned m s s' h (turns_aside (Some i)) (ap turns_aside at) is k);
}

-- any other instruction too
pub a_step : {m : Machine} (s s' : State) → step_of m s ≡ Goes s' → Comes m s s'
a_step {m} s s' h = record {
  by = λ k. (
    suc k,
    stepped m s s' h k,
    (let e = counted m s s' h k in let l = no_fewer (aside m s s' h) (turns_by m k s') in omega (arith, e, l)),
  );
}

pub stay : {m : Machine} (s : State) → Comes m s s
stay {m} s = record { by = λ k. (k, refl, (let l : turns_by m k s ≤ turns_by m k s = omega arith in l)) }

pub leads_comes : {m : Machine} {s s' : State} → Leads m s s' → Comes m s s'
leads_comes l = record { by = λ k. let a = l.by k in (a.0, a.1, omega (arith, a.2)) }

infixr 20 ◌>>◌
pub ◌>>◌ : {m : Machine} {s s1 s2 : State} → Comes m s s1 → Comes m s1 s2 → Comes m s s2
l >> n = record { by = λ k. let b = n.by k in let a = l.by b.0 in (a.0, a.1 ∙ b.1, omega (arith, a.2, b.2)) }

-- what ends shows its end, however many turns are asked for
pub stops_now : {m : Machine} (n : ℕ) (s : State) (e : Ending) → (IsMore e → ⊥) → step_of m s ≡ Over e → Stops m n s
    (s.tape.transcript, e)
stops_now {m} n s e over h = record {
  by = (1, ap (λ (t : Step). after t s (runs m 0)) h, λ more. absurd (over more));
}

pub comes_stops : {m : Machine} {n : ℕ} {s s' : State} {shown : Shown} → Comes m s s' → Stops m n s' shown
    → Stops m n s shown
comes_stops l r =
    let a = l.by r.by.0 in record { by = (a.0, a.1 ∙ r.by.1, λ more. let b = r.by.2 more in omega (arith, a.2, b)) }

pub leads_stops : {m : Machine} {n : ℕ} {s s' : State} {shown : Shown} → Leads m s s' → Stops m n s' shown → Stops m
    (suc n) s shown
leads_stops l r =
    let a = l.by r.by.0 in record { by = (a.0, a.1 ∙ r.by.1, λ more. let b = r.by.2 more in omega (arith, a.2, b)) }

pub stops_sooner : {m : Machine} {n : ℕ} {s : State} {shown : Shown} → Stops m (suc n) s shown → Stops m n s shown
stops_sooner r = record { by = (r.by.0, r.by.1, λ more. let b = r.by.2 more in omega (arith, b)) }

-- a place that is equal
pub placed : {m : Machine} {s : State} (f : ℕ → State) {p q : ℕ} → p ≡ q → Comes m s (f p) → Comes m s (f q)
placed {m} {s} f e l = subst (λ x. Comes m s (f x)) e l
