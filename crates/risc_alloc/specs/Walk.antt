-- What a walk over a body, from its end to its begin, finds of what is alive.
use Rattle.std.specs.Prelude.{◌≡◌, ℕ, suc, ◌<◌, ◌≤◌, true, false, List, length, slice_get, Option, Some, None, Vec}
use Rattle.tac_code.specs.declared.code.Instruction.{Instruction}
use Rattle.risc_alloc.specs.declared.claims.Claims.{Claims}
use Rattle.risc_alloc.specs.declared.window.Window.{Window}
use Rattle.risc_alloc.specs.Flow.{reads, writes, gives_to}
use Rattle.risc_alloc.specs.Parts.{falls, target_of}
use Rattle.risc_alloc.specs.Windows.{Held, IsHeldHere, Keeps, IsIn, IsFreeFor, IsEmptyBut}

-- what is claimed to be alive at a place that a jump leads to
abbrev pub list_in : {A : Type 0} → Option (Option (Vec ℕ A)) → Option (List ℕ)
list_in None = None
list_in (Some None) = None
list_in (Some (Some list)) = Some list.items

abbrev pub claim_of : {A : Type 0} → List (Option (Vec ℕ A)) → Option ℕ → Option (List ℕ)
claim_of lists None = None
claim_of lists (Some number) = list_in (slice_get lists number)

abbrev pub claim_at : Claims → ℕ → Option (List ℕ)
claim_at claims place = claim_of claims.lists.items (slice_get claims.numbers.items place)

-- all that is claimed of a place is found alive
abbrev pub IsClaimHeld : Window → Claims → (holders : List ℕ) → ℕ → Type 0
IsClaimHeld window claims holders place =
    (list : List ℕ) × (claim_at claims place ≡ Some list) × ((u : ℕ) → IsIn list u → IsHeldHere window holders u)

-- Where an instruction leads, what is alive there is alive after it; at a jump's target, that is what is claimed.
pub record Flows (window : Window) (claims : Claims) (i : Instruction) (place : ℕ) (next out : List ℕ) : Type 0 where
  pub falls : falls i ≡ true → Keeps window next out
  pub jumps : (target : ℕ) → target_of i place ≡ Some target → IsClaimHeld window claims out target

-- What an instruction writes has its home to itself, and is dead before it. After a call nothing but its result holds a
-- register.
pub record Writes (window : Window) (i : Instruction) (out left : List ℕ) : Type 0 where
  pub free : (t : ℕ) → writes (Some i) t ≡ true → IsFreeFor window out t
  pub called : (t : ℕ) → gives_to (Some i) t ≡ true → window.registers ≡ true → IsEmptyBut window out t
  pub kept : (u : ℕ) → writes (Some i) u ≡ false → Held window out u → Held window left u

-- what it reads is alive before it
pub record Reads (window : Window) (i : Instruction) (left table : List ℕ) : Type 0 where
  pub read : (u : ℕ) → reads (Some i) u ≡ true → IsHeldHere window table u
  pub kept : Keeps window left table

-- one instruction: from what is alive after it to what is alive before it
pub record Step (window : Window) (claims : Claims) (i : Instruction) (place : ℕ) (next table : List ℕ) : Type 0 where
  pub out : List ℕ
  pub left : List ℕ
  pub flows : Flows window claims i place next out
  pub writes : Writes window i out left
  pub reads : Reads window i left table

-- what is found alive at a place that a jump leads to is claimed
abbrev pub IsClaimed : Claims → ℕ → List ℕ → Type 0
IsClaimed claims place holders =
    (list : List ℕ) → claim_at claims place ≡ Some list → (window : Window) (u : ℕ) → Held window holders u
    → IsIn list u

-- a walk that found nothing beyond what was claimed, from the end of a body to a place
pub record Walked (window : Window) (claims : Claims) (body : List Instruction) (from : ℕ) (table : List ℕ)
    : Type 0 where
  pub tables : ℕ → List ℕ
  pub here : tables from ≡ table
  pub steps : (place : ℕ) (i : Instruction) → from ≤ place → slice_get body place ≡ Some i → Step window claims i place
      (tables (suc place)) (tables place)
  pub claimed : (place : ℕ) → from ≤ place → place < length body → IsClaimed claims place (tables place)

-- a walk over the whole body that found nothing beyond what was claimed, and nobody else in the seat of a parameter
pub record IsSettled (window : Window) (body : List Instruction) (parameters : ℕ) : Type 0 where
  pub claims : Claims
  pub table : List ℕ
  pub walked : Walked window claims body 0 table
  pub free : (t : ℕ) → t < parameters → IsFreeFor window table t
