-- Turns are instructions, so a run in turns is the same as what it tells.
use Rattle.std.proofs.Common.{◌≡◌, ◌⊎◌, inl, inr, ℕ, zero, suc, ◌+◌, ◌≤◌, Bool, true, false, List, [], sym, ◌∙◌}
use Rattle.std.proofs.Common.{subst, arith}
use Rattle.behavior.specs.Endings.{Ending, More, Normal, Error, Stack, Heap, Fault, Stuck, IsMore}
use Rattle.behavior.specs.Transcripts.{Shown, GoesOn}
use Rattle.behavior.specs.Same.{Same}
use Rattle.tac_code.specs.Meaning.{Code, State, Step, Goes, Over, fetch, enter, step}
use Rattle.tac_code.specs.Run.{before}
use Rattle.tac_code_laws.proofs.Growth.{run_goes_on}
use Rattle.tac_code_steps.specs.Turns.{turns_aside, one_more_if, behind, turns, tac_turns}
use Rattle.tac_code_steps.specs.InTurns.{Setting, shows, turns_in, ShowsInTurns}

at_most : (b : Bool) (n k : ℕ) → n ≤ k → one_more_if b n ≤ suc k
at_most true n k le = omega (arith, le)
at_most false n k le = omega (arith, le)

behind_most : (x : Step) (go : State → ℕ) (k : ℕ) → ((t : State) → go t ≤ k) → behind x go ≤ k
behind_most (Goes t) go k h = h t
behind_most (Over e) go k h = omega arith

module _ (code : Code) (F G : ℕ → ℕ) (S H : ℕ) where
  turns_most : (k : ℕ) (s : State) → turns code F G S H k s ≤ k
  turns_most zero s = omega arith
  turns_most (suc k) s =
      at_most (turns_aside (fetch code s.current.routine s.current.place))
      (behind (step code F G S H s) (turns code F G S H k)) k
      (behind_most (step code F G S H s) (turns code F G S H k) k (turns_most k))

  pub tac_turns_most : (input : List ℕ) (k : ℕ) → tac_turns code F G S H input k ≤ k
  tac_turns_most input zero = omega arith
  tac_turns_most input (suc k) =
      let l = behind_most (enter code F G S H 0 [] 0 0 [] (before input)) (turns code F G S H k) k (turns_most k)
      in omega (arith, l)

-- what has ended stays
stays : (x y : Shown) → GoesOn IsMore x y → (IsMore x.1 → ⊥) → y ≡ x
stays x y (inl e) over = sym e
stays x y (inr s) over = absurd (over s.0)

is_more : (e : Ending) → IsMore e ⊎ (IsMore e → ⊥)
is_more More = inl tt
is_more Normal = inr (λ x. x)
is_more (Error number line calls) = inr (λ x. x)
is_more (Stack line) = inr (λ x. x)
is_more (Heap line) = inr (λ x. x)
is_more (Fault kind) = inr (λ x. x)
is_more Stuck = inr (λ x. x)

pub in_turns_is_same : (a : ℕ → Shown) (code : Code) (p : Setting) → ShowsInTurns a code p → Same a (shows code p)
in_turns_is_same a code p shown n =
    at (shown n).0 (shown n).1 (shown n).2 (is_more (a n).1)
  where
    at : (m : ℕ) → shows code p m ≡ a n → (IsMore (a n).1 → n ≤ turns_in code p m) → IsMore (a n).1
        ⊎ (IsMore (a n).1 → ⊥) → (k : ℕ) × (n ≤ k) × (shows code p k ≡ a n)
    at m e l (inl more) =
        let x = l more in let y = tac_turns_most code p.frames p.objects p.stack p.heap p.input m
        in (m, omega (arith, x, y), e)
    at m e l (inr over) = (
      m + n,
      omega arith,
      stays (shows code p m) (shows code p (m + n))
          (run_goes_on code p.frames p.objects p.stack p.heap p.input m (m + n) (omega arith))
          (λ more. over (subst (λ (x : Shown). IsMore x.1) e more)) ∙ e,
    )
