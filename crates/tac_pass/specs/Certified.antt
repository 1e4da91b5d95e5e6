-- A certificate as data: a table for each place of the old code, by which each instruction has become what is made of
-- it.
use Rattle.std.specs.Prelude.{◌≡◌, ◌⊎◌, ℕ, zero, suc, ◌+◌, ◌-◌, Bool, true, false, ◌&&◌, nat_eq, List, [], ◌∷◌, length}
use Rattle.std.specs.Prelude.{slice_get, Option, Some, None}
use Rattle.tac_code.specs.declared.code.Operand.{Operand}
use Rattle.tac_code.specs.declared.code.Instruction.{Instruction}
use Rattle.tac_code.specs.declared.code.Instruction.TheVariants.{Jump, JumpBack, Branch, BranchBack}
use Rattle.tac_code.specs.declared.code.TacRoutine.{TacRoutine}
use Rattle.tac_code.specs.Meaning.{Code, fetch, routines}
use Rattle.tac_pass.specs.declared.table.Known.{Known}
use Rattle.tac_pass.specs.declared.table.Word.{Word}
use Rattle.tac_pass.specs.Moved.{Places}
use Rattle.tac_pass.specs.Claims.{Certificate}
use Rattle.tac_pass.specs.Follows.{SameHeading}
use Rattle.tac_pass.specs.Tables.{Table, claim_in, is_forgetful}
use Rattle.tac_pass.specs.Acts.{Made, holder, renamed_right, kept, ending, spared, moved_word, cleaned, fetched}

-- ---- where a routine begins

-- a temporary holds a parameter that is passed in it, or nothing is claimed
abbrev pub is_passed : ℕ → Option ℕ → Bool
is_passed u None = true
is_passed u (Some t) = nat_eq t u

abbrev pub are_passed : ℕ → List Known → Bool
are_passed u [] = true
are_passed u (x ∷ xs) = is_passed u x.holder && are_passed (suc u) xs

-- a word was not written, and nothing holds it
abbrev pub is_new : Option ℕ → Bool → Bool
is_new None blank = blank
is_new (Some t) blank = false

abbrev pub are_new : List Word → Bool
are_new [] = true
are_new (w ∷ ws) = is_new w.value.holder w.blank && are_new ws

abbrev pub begins : Table → Bool
begins table = are_passed 0 table.temporaries && are_new table.words

-- ---- each instruction

-- For each routine: the words that are tracked, and a table for each place; and where the new code begins and which
-- place of the old one it is for.
pub record Tested : Type 0 where
  pub minded : ℕ → List ℕ
  pub tables : ℕ → ℕ → Table
  pub starts : Places
  pub stands : Places

abbrev pub certificate_of : Tested → Certificate
certificate_of x =
    record { claims = λ r place. claim_in (x.minded r) (x.tables r place); starts = x.starts; stands = x.stands }

module _ (new : Code) (x : Tested) (r : ℕ) where
  -- a word is stored by what holds it, or loaded
  abbrev pub IsPut : Table → Made → Type 0
  IsPut table made =
      ((k : ℕ) × (cleaned r (x.minded r) table k ≡ Some made))
      ⊎ ((k : ℕ) × (t : ℕ) × (fetched r (x.minded r) table k t ≡ Some made))

  abbrev pub ArePut : ℕ → Table → ℕ → Table → ℕ → Type 0
  ArePut zero table from behind to = (from ≡ to) × (table ≡ behind)
  ArePut (suc n) table from behind to =
      (made : Made) × IsPut table made × (fetch new r from ≡ Some made.instruction) × ArePut n made.table
      (suc from) behind to

  -- the new code for a place begins here, and no more is claimed there than here
  pub record Leads (table : Table) (here place : ℕ) : Type 0 where
    pub starts : here ≡ x.starts r place
    pub forgets : is_forgetful table (x.tables r place) ≡ true

  module _ (place : ℕ) (table : Table) where
    abbrev stand : ℕ
    stand = x.stands r place

    pub record LeftOut (i : Instruction) : Type 0 where
      pub behind : Table
      pub spared : spared r (x.minded r) table i ≡ Some behind
      pub leads : Leads behind stand (suc place)

    pub record MadeFrom (i : Instruction) : Type 0 where
      pub t' : ℕ
      pub made : Made
      pub made_so : (kept r (x.minded r) table t' i ≡ Some made) ⊎ (moved_word r (x.minded r) table t' i ≡ Some made)
      pub there : fetch new r stand ≡ Some made.instruction
      pub leads : Leads made.table (suc stand) (suc place)

    abbrev pub Branches : ℕ → ℕ → Operand → Operand → Type 0
    Branches a a' b b' =
        (holder table a ≡ Some a') × (renamed_right table b ≡ Some b') × Leads table (suc stand) (suc place)

    abbrev pub Turned : Instruction → Type 0
    Turned (Jump n) = (m : ℕ) × (fetch new r stand ≡ Some (Jump m)) × Leads table (suc stand + m) (suc place + n)
    Turned (JumpBack n) = (m : ℕ) × (fetch new r stand ≡ Some (JumpBack m)) × Leads table (stand - m) (place - n)
    Turned (Branch relation a b n) =
        (a' : ℕ) × (b' : Operand) × (m : ℕ) × (fetch new r stand ≡ Some (Branch relation a' b' m)) × Branches a a' b b'
        × Leads table (suc stand + m) (suc place + n)
    Turned (BranchBack relation a b n) =
        (a' : ℕ) × (b' : Operand) × (m : ℕ) × (fetch new r stand ≡ Some (BranchBack relation a' b' m))
        × Branches a a' b b' × Leads table (stand - m) (place - n)
    Turned _ = ⊥

    pub record Ended (i : Instruction) : Type 0 where
      pub new_one : Instruction
      pub ends : ending r (x.minded r) table i ≡ Some new_one
      pub there : fetch new r stand ≡ Some new_one

  pub record PassedAt (place : ℕ) (i : Instruction) : Type 0 where
    pub number : ℕ
    pub table : Table
    pub puts : ArePut number (x.tables r place) (x.starts r place) table (x.stands r place)
    pub becomes : LeftOut place table i ⊎ (MadeFrom place table i ⊎ (Turned place table i ⊎ Ended place table i))

-- ---- the whole

pub record Certified (old new : Code) (x : Tested) : Type 0 where
  pub program : length new.program ≡ length old.program
  pub objects : new.objects ≡ old.objects
  pub headings : (r : ℕ) (routine : TacRoutine) → slice_get (routines old) r ≡ Some routine → (routine' : TacRoutine)
      × (slice_get (routines new) r ≡ Some routine') × SameHeading routine routine'
  pub begin : (r : ℕ) → (begins (x.tables r 0) ≡ true) × (x.starts r 0 ≡ 0)
  pub passed : (r place : ℕ) (i : Instruction) → fetch old r place ≡ Some i → PassedAt new x r place i
