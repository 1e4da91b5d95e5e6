-- The test of a certificate: each instruction of the old code, at its place, has become what the rules allow.
use Rattle.std.specs.Prelude.{◌≡◌, ◌≢◌, ◌⊎◌, ℕ, zero, suc, ◌+◌, ◌-◌, false, length, slice_get, Some}
use Rattle.tac_code.specs.declared.code.Operand.{Operand}
use Rattle.tac_code.specs.declared.code.Instruction.{Instruction}
use Rattle.tac_code.specs.declared.code.Instruction.TheVariants.{Jump, JumpBack, Branch, BranchBack}
use Rattle.tac_code.specs.declared.code.TacRoutine.{TacRoutine}
use Rattle.tac_code.specs.Meaning.{Code, fetch, routines}
use Rattle.tac_pass.specs.Claims.{Claim, Certificate}
use Rattle.tac_pass.specs.Rules.{Holds, Right, Forgets, Spares, Renames, Calls, Ends, PutsIn}

-- What is claimed at a routine's start: no word is held, and none was written. Parameters are where they are passed.
-- What was there before the call points elsewhere: this may be claimed of every temporary and word.
pub record Begins (c : Claim) : Type 0 where
  pub temporaries : (u t : ℕ) → c.temporaries u ≡ Some t → t ≡ u
  pub words : (k t : ℕ) → c.words k ≢ Some t
  pub blank : (k : ℕ) → c.blank k ≢ false

-- a routine is called as it was, and has the room that it had
pub record SameHeading (routine routine' : TacRoutine) : Type 0 where
  pub parameters : routine'.parameters ≡ routine.parameters
  pub frame : routine'.frame ≡ routine.frame
  pub scratch : routine'.scratch ≡ routine.scratch
  pub line : routine'.line ≡ routine.line

module _ (old new : Code) (e : Certificate) where
  -- this many instructions are put in, from one place of the new code to another
  abbrev pub Comes : ℕ → ℕ → Claim → ℕ → Claim → ℕ → Type 0
  Comes r zero c from c' to = (from ≡ to) × Forgets c c'
  Comes r (suc n) c from c' to =
      (i : Instruction) × (d : Claim) × (fetch new r from ≡ Some i) × PutsIn c d i × Comes r n d (suc from) c' to

  -- from what is claimed here on to what is claimed of a place, whose new code begins here
  pub record Arrives (r : ℕ) (c : Claim) (here place : ℕ) : Type 0 where
    pub starts : here ≡ e.starts r place
    pub forgets : Forgets c (e.claims r place)

  module _ (r place : ℕ) (c : Claim) where
    -- the instruction is not there any more
    abbrev pub IsSpared : Instruction → Type 0
    IsSpared i = Spares c (e.claims r (suc place)) i × (e.stands r place ≡ e.starts r (suc place))

    pub record IsRenamed (i : Instruction) : Type 0 where
      pub new_one : Instruction
      pub there : fetch new r (e.stands r place) ≡ Some new_one
      pub renames : Renames r c (e.claims r (suc place)) i new_one ⊎ Calls r c (e.claims r (suc place)) i new_one
      pub onwards : suc (e.stands r place) ≡ e.starts r (suc place)

    -- a branch tests what it tested, and goes on to the next place if that does not hold
    pub record Tests (a a' : ℕ) (b b' : Operand) : Type 0 where
      pub left : Holds c a a'
      pub right : Right c b b'
      pub falls : Arrives r c (suc (e.stands r place)) (suc place)

    abbrev pub Jumps : Instruction → Type 0
    Jumps (Jump n) =
        (m : ℕ) × (fetch new r (e.stands r place) ≡ Some (Jump m)) × Arrives r c (suc (e.stands r place) + m)
        (suc place + n)
    Jumps (JumpBack n) =
        (m : ℕ) × (fetch new r (e.stands r place) ≡ Some (JumpBack m)) × Arrives r c (e.stands r place - m) (place - n)
    Jumps (Branch relation a b n) =
        (a' : ℕ) × (b' : Operand) × (m : ℕ) × (fetch new r (e.stands r place) ≡ Some (Branch relation a' b' m))
        × Tests a a' b b'
        × Arrives r c (suc (e.stands r place) + m) (suc place + n)
    Jumps (BranchBack relation a b n) =
        (a' : ℕ) × (b' : Operand) × (m : ℕ) × (fetch new r (e.stands r place) ≡ Some (BranchBack relation a' b' m))
        × Tests a a' b b'
        × Arrives r c (e.stands r place - m) (place - n)
    Jumps _ = ⊥

    pub record IsEnding (i : Instruction) : Type 0 where
      pub new_one : Instruction
      pub there : fetch new r (e.stands r place) ≡ Some new_one
      pub ends : Ends c i new_one

  -- after what is put in, with what is claimed there
  pub record Becomes (r place : ℕ) (i : Instruction) : Type 0 where
    pub number : ℕ
    pub claim : Claim
    pub comes : Comes r number (e.claims r place) (e.starts r place) claim (e.stands r place)
    pub becomes : IsSpared r place claim i ⊎ (IsRenamed r place claim i
        ⊎ (Jumps r place claim i ⊎ IsEnding r place claim i))

  -- routines are called as they were, and each instruction has become what it may
  pub record Checked : Type 0 where
    pub program : length new.program ≡ length old.program
    pub objects : new.objects ≡ old.objects
    pub headings : (r : ℕ) (routine : TacRoutine) → slice_get (routines old) r ≡ Some routine → (routine' : TacRoutine)
        × (slice_get (routines new) r ≡ Some routine') × SameHeading routine routine'
    pub begins : (r : ℕ) → Begins (e.claims r 0) × (e.starts r 0 ≡ 0)
    pub becomes : (r place : ℕ) (i : Instruction) → fetch old r place ≡ Some i → Becomes r place i
