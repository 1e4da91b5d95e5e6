-- New code from old code by a plan, a place after the other: what each step may do to the table and to the code so far.
use Rattle.std.specs.Prelude.{◌≡◌, ◌⊎◌, ℕ, zero, suc, ◌+◌, ◌-◌, ◌<◌, ◌≤◌, ◌++◌, Bool, true, false, nat_lt}
use Rattle.std.specs.Prelude.{if◌then◌else◌, List, [], ◌∷◌, length, slice_get, Option, Some, None}
use Rattle.tac_code.specs.declared.code.Instruction.{Instruction}
use Rattle.tac_code.specs.declared.code.Instruction.TheVariants.{Jump, JumpBack, Branch, BranchBack}
use Rattle.tac_code.specs.declared.code.TacRoutine.{TacRoutine}
use Rattle.tac_code.specs.Meaning.{Code, routines}
use Rattle.tac_pass.specs.declared.plan.Put.{Put}
use Rattle.tac_pass.specs.declared.plan.Put.TheVariants.{Clean, Fetch}
use Rattle.tac_pass.specs.declared.plan.Step.{Step}
use Rattle.tac_pass.specs.Follows.{SameHeading}
use Rattle.tac_pass.specs.Tables.{Table, is_forgetful}
use Rattle.tac_pass.specs.Acts.{Made, and_then, only_if, holder, renamed_right, kept, ending, spared, moved_word}
use Rattle.tac_pass.specs.Acts.{cleaned, fetched}
use Rattle.tac_pass.specs.Certified.{begins}

-- what is made, given by its parts
abbrev pub IsMade : Option Made → Instruction → Table → Type 0
IsMade made i table = made ≡ Some (record { instruction = i; table = table })

-- what is claimed at a place that jumps may lead to
abbrev pub join_at : List Step → ℕ → Option Table
join_at steps place = and_then (slice_get steps place) (λ step. step.join)

-- what is claimed at a place is what the plan says, if it says so
abbrev pub Joins : List Step → ℕ → Table → Type 0
Joins steps place table = (claimed : Table) → join_at steps place ≡ Some claimed → table ≡ claimed

-- the difference, if the second isn't more
abbrev pub less : ℕ → ℕ → Option ℕ
less m n = if nat_lt m n then None else Some (m - n)

-- where the new code begins for a place, if no more is claimed there than here
abbrev pub aimed : List Step → List ℕ → Table → ℕ → Option ℕ
aimed steps starts table place =
    and_then (join_at steps place) (λ claimed. only_if (is_forgetful table claimed) (slice_get starts place))

-- A jump or a branch at a place; the new one is at a place in the new code.
module _ (steps : List Step) (starts : List ℕ) (table : Table) (place stand : ℕ) where
  abbrev pub ahead : ℕ → Option ℕ
  ahead n = and_then (aimed steps starts table (suc place + n)) (λ start. less start (suc stand))

  abbrev pub behind : ℕ → Option ℕ
  behind n = and_then (aimed steps starts table (place - n)) (λ start. less stand start)

  abbrev pub turned : Instruction → Option Instruction
  turned (Jump n) = and_then (ahead n) (λ m. Some (Jump m))
  turned (JumpBack n) = and_then (behind n) (λ m. Some (JumpBack m))
  turned (Branch relation a b n) =
      and_then (holder table a) (λ a'. and_then (renamed_right table b)
      (λ b'. and_then (ahead n) (λ m. Some (Branch relation a' b' m))))
  turned (BranchBack relation a b n) =
      and_then (holder table a) (λ a'. and_then (renamed_right table b)
      (λ b'. and_then (behind n) (λ m. Some (BranchBack relation a' b' m))))
  turned _ = None

abbrev pub is_branch : Instruction → Bool
is_branch (Branch relation a b n) = true
is_branch (BranchBack relation a b n) = true
is_branch _ = false

-- control goes on to the next place, whose new code begins here
pub record GoesOn (steps : List Step) (starts : List ℕ) (place : ℕ) (table table' : Table) (here : ℕ) : Type 0 where
  pub starts_here : slice_get starts (suc place) ≡ Some here
  pub forgets : is_forgetful table table' ≡ true
  pub joins : Joins steps (suc place) table'

-- what is to be put in before a place
abbrev pub puts_of : Option Step → ℕ
puts_of None = 0
puts_of (Some step) = length step.puts.items

abbrev pub puts_at : List Step → ℕ → ℕ
puts_at steps place = puts_of (slice_get steps place)

module _ (r : ℕ) (minded : List ℕ) where
  -- what is put in
  abbrev pub put_in : Put → Table → Option Made
  put_in (Clean k) table = cleaned r minded table k
  put_in (Fetch k t) table = fetched r minded table k t

  -- this many instructions are put in, from a table and the code so far
  abbrev pub ArePutIn : Table → List Instruction → ℕ → Table → List Instruction → Type 0
  ArePutIn table out zero table' out' = (table' ≡ table) × (out' ≡ out)
  ArePutIn table out (suc n) table' out' =
      (put : Put) × (i : Instruction) × (t : Table) × (o : List Instruction)
      × ArePutIn table out n t o × IsMade (put_in put t) i table' × (out' ≡ o ++ i ∷ [])

-- where a walk is: what is claimed there, and the code so far
pub record Spot : Type 0 where
  pub table : Table
  pub out : List Instruction

abbrev pub spot : Table → List Instruction → Spot
spot table out = record { table = table; out = out }

-- A walk over the body of routine r.
module _ (r : ℕ) (minded : List ℕ) (steps : List Step) (starts : List ℕ) where
  -- what becomes of an instruction at a place, after what is put in
  module _ (place : ℕ) (i : Instruction) (from to : Spot) where
    pub record IsLeftOut : Type 0 where
      pub left : Table
      pub spared : spared r minded from.table i ≡ Some left
      pub same : to.out ≡ from.out
      pub goes : GoesOn steps starts place left to.table (length to.out)

    pub record IsMadeNew : Type 0 where
      pub holder : ℕ
      pub new_one : Instruction
      pub left : Table
      pub made : IsMade (kept r minded from.table holder i) new_one left ⊎ IsMade
          (moved_word r minded from.table holder i) new_one left
      pub pushed : to.out ≡ from.out ++ new_one ∷ []
      pub goes : GoesOn steps starts place left to.table (length to.out)

    pub record IsTurned : Type 0 where
      pub new_one : Instruction
      pub turned : turned steps starts from.table place (length from.out) i ≡ Some new_one
      pub pushed : to.out ≡ from.out ++ new_one ∷ []
      pub falls : is_branch i ≡ true → GoesOn steps starts place from.table to.table (length to.out)
      pub joins : Joins steps (suc place) to.table

    pub record IsEnded : Type 0 where
      pub new_one : Instruction
      pub ended : ending r minded from.table i ≡ Some new_one
      pub pushed : to.out ≡ from.out ++ new_one ∷ []
      pub joins : Joins steps (suc place) to.table

    abbrev pub Becomes : Type 0
    Becomes = IsLeftOut ⊎ (IsMadeNew ⊎ (IsTurned ⊎ IsEnded))

  -- one place, from where the walk is on
  pub record Steps (place : ℕ) (i : Instruction) (from to : Spot) : Type 0 where
    pub behind : Spot
    pub starts_here : slice_get starts place ≡ Some (length from.out)
    pub puts : ArePutIn r minded from.table from.out (puts_at steps place) behind.table behind.out
    pub becomes : Becomes place i behind to

  -- this many places of a body
  pub record Walked (body : List Instruction) (places : ℕ) (whole : Spot) : Type 0 where
    pub at : ℕ → Spot
    pub here : at places ≡ whole
    pub begins : begins (at 0).table ≡ true
    pub starts_first : slice_get starts 0 ≡ Some 0
    pub joins : (place : ℕ) → place ≤ places → Joins steps place (at place).table
    pub steps_on : (place : ℕ) (i : Instruction) → place < places → slice_get body place ≡ Some i → Steps place i
        (at place) (at (suc place))

-- a body that was made by a plan
pub record Passed (r : ℕ) (body body' : List Instruction) : Type 0 where
  pub minded : List ℕ
  pub steps : List Step
  pub starts : List ℕ
  pub last : Table
  pub as_many : length steps ≡ length body
  pub walked : Walked r minded steps starts body (length body) (spot last body')

-- a routine of the old code and one of the new code, which is no larger
pub record PassedRoutine (r : ℕ) (routine routine' : TacRoutine) : Type 0 where
  pub heading : SameHeading routine routine'
  pub temporaries : routine'.temporaries ≡ routine.temporaries
  pub body : Passed r routine.body routine'.body
  pub shorter : length routine'.body ≤ length routine.body

-- this many routines of a list, numbered from the first on
abbrev pub PassedSoFar : ℕ → List TacRoutine → ℕ → List TacRoutine → Type 0
PassedSoFar first routines zero routines' = routines' ≡ []
PassedSoFar first routines (suc n) routines' =
    (routine : TacRoutine) × (routine' : TacRoutine) × (before : List TacRoutine)
    × PassedSoFar first routines n before × (slice_get routines n ≡ Some routine) × PassedRoutine
    (first + n) routine routine' × (routines' ≡ before ++ routine' ∷ [])

-- each routine of the old code has one of the new code in its place
pub record ArePassed (old new : Code) : Type 0 where
  pub program : length new.program ≡ length old.program
  pub run_time : length new.run_time ≡ length old.run_time
  pub objects : new.objects ≡ old.objects
  pub routines : (r : ℕ) (routine : TacRoutine) → slice_get (routines old) r ≡ Some routine → (routine' : TacRoutine)
      × (slice_get (routines new) r ≡ Some routine') × PassedRoutine r routine routine'
