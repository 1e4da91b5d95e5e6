-- What the machine does, given this answer of the meaning.
use Rattle.std.specs.Prelude.{ℕ}
use Rattle.tac_code.specs.Meaning.{State}
use Rattle.ps_meaning.specs.Worlds.{World, Answer, Gives, Ends}
use Rattle.tac_code_steps.specs.Runs.{Machine, Comes, Stops}
use Rattle.ps_lower_relation.specs.Here.{Setting, machine_of, Work, Activated, Alive, state, Keeps}

-- An answer with a value requires what follows from it. One that ends is shown by the machine, after n steps or more:
-- errors, stops and More alike.
abbrev pub Outcome : {A : Type 0} → Machine → ℕ → State → Answer A → (A → World → Type 0) → Type 0
Outcome m n s (Gives v w) Post = Post v w
Outcome m n s (Ends transcript ending) Post = Stops m n s (transcript, ending)

-- The machine reaches a place of the same activation, in a world w', with this result.
pub record Reached (p : Setting) (c : Activated) (d x : ℕ) (w : World) (k : Work) (s : State) (pc' : ℕ)
    (R : World → Work → Type 0) (w' : World) : Type 0 where
  pub work : Work
  pub alive : Alive p c w' work
  pub keeps : Keeps d x w k w' work
  pub comes : Comes (machine_of p) s (state p c w' work pc')
  pub result : R w' work

-- the code from pc to pc' does what the answer says
abbrev pub Runs : {A : Type 0} → Setting → ℕ → Activated → (d x : ℕ) → World → Work → (pc pc' : ℕ) → Answer A
    → (A → World → Work → Type 0) → Type 0
Runs p n c d x w k pc pc' answer R = Outcome (machine_of p) n (state p c w k pc) answer
    (λ v w'. Reached p c d x w k (state p c w k pc) pc' (R v) w')
