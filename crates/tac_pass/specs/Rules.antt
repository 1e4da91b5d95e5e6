-- What each instruction of the old code may become.
use Rattle.std.specs.Prelude.{◌≡◌, ◌≢◌, ◌⊎◌, ℕ, ◌+◌, ◌*◌, ◌/◌, ◌≤◌, ◌&&◌, nat_eq, Bool, false, List, [], ◌∷◌, Some}
use Rattle.tac_code.specs.declared.code.Operand.{Operand}
use Rattle.tac_code.specs.declared.code.Operand.TheVariants as operand
use Rattle.tac_code.specs.declared.code.Base.{Base}
use Rattle.tac_code.specs.declared.code.Base.TheVariants as base
use Rattle.tac_code.specs.declared.code.Instruction.{Instruction}
use Rattle.tac_code.specs.declared.code.Instruction.TheVariants.{Literal, Copy, Arithmetic, Bits, Compare, CheckRange}
use Rattle.tac_code.specs.declared.code.Instruction.TheVariants.{CheckPointer, Text, Offset, Index, RoutineValue, Load}
use Rattle.tac_code.specs.declared.code.Instruction.TheVariants.{Store, LoadByte, StoreByte, Call, CallValue, Return}
use Rattle.tac_code.specs.declared.code.Instruction.TheVariants.{Trap, Take, Put, New, End}
use Rattle.tac_code.specs.Numbers.{steps_above}
use Rattle.tac_pass.specs.Claims.{Claim}

-- ---- operands

abbrev pub Holds : Claim → ℕ → ℕ → Type 0
Holds c u t = c.temporaries u ≡ Some t

abbrev pub Right : Claim → Operand → Operand → Type 0
Right c (operand.Temporary u) b' = (v : ℕ) × (b' ≡ operand.Temporary v) × Holds c u v
Right c (operand.Number z) b' = b' ≡ operand.Number z

abbrev pub SameBase : Claim → Base → Base → Type 0
SameBase c (base.Temporary u) b' = (v : ℕ) × (b' ≡ base.Temporary v) × Holds c u v
SameBase c b b' = b' ≡ b

abbrev pub AllHold : Claim → List ℕ → List ℕ → Type 0
AllHold c [] [] = Unit {0}
AllHold c (u ∷ us) (t ∷ ts) = Holds c u t × AllHold c us ts
AllHold c _ _ = ⊥

-- Whether a base, in a routine, may be the address of an offset of the own frame. The program block's frame is its own
-- in the program block alone.
abbrev pub base_points : ℕ → Claim → Base → ℕ → Bool
base_points r c base.Frame o = nat_eq o 0
base_points r c base.Scratch o = false
base_points r c base.Program o = nat_eq r 0 && nat_eq o 0
base_points r c (base.Temporary u) o = c.points u o

-- what is this many bytes after a base is not part of this word of the own frame
abbrev pub Misses : ℕ → Claim → Base → ℕ → ℕ → Type 0
Misses r c b n k = (o : ℕ) → (o + n) / 4 ≡ k → base_points r c b o ≡ false

-- or that word is not stale
abbrev pub Sees : ℕ → Claim → Base → ℕ → Type 0
Sees r c b n = (k : ℕ) → Misses r c b n k ⊎ (c.stale k ≡ false)

-- ---- how claims change

-- nothing is claimed that was not
pub record Forgets (c c' : Claim) : Type 0 where
  pub temporaries : (u v : ℕ) → c'.temporaries u ≡ Some v → c.temporaries u ≡ Some v
  pub words : (k v : ℕ) → c'.words k ≡ Some v → c.words k ≡ Some v
  pub stale : (k : ℕ) → c'.stale k ≡ false → c.stale k ≡ false
  pub blank : (k : ℕ) → c'.blank k ≡ false → c.blank k ≡ false
  pub points : (u o : ℕ) → c'.points u o ≡ false → c.points u o ≡ false
  pub word_points : (k o : ℕ) → c'.word_points k o ≡ false → c.word_points k o ≡ false

-- The same, but that the temporary a was found to hold the address of an object.
pub record Found (a : ℕ) (c c' : Claim) : Type 0 where
  pub temporaries : (u v : ℕ) → c'.temporaries u ≡ Some v → c.temporaries u ≡ Some v
  pub words : (k v : ℕ) → c'.words k ≡ Some v → c.words k ≡ Some v
  pub stale : (k : ℕ) → c'.stale k ≡ false → c.stale k ≡ false
  pub blank : (k : ℕ) → c'.blank k ≡ false → c.blank k ≡ false
  pub points : (u o : ℕ) → c'.points u o ≡ false → (u ≡ a) ⊎ (c.points u o ≡ false)
  pub word_points : (k o : ℕ) → c'.word_points k o ≡ false → c.word_points k o ≡ false

-- The old temporary t and the new one t' received one value, which is that of these words, and is not an address of
-- these offsets of the own frame.
pub record Gave (t t' : ℕ) (Word Away : ℕ → Type 0) (c c' : Claim) : Type 0 where
  pub temporaries : (u v : ℕ) → c'.temporaries u ≡ Some v → ((u ≡ t) × (v ≡ t'))
      ⊎ ((u ≢ t) × (v ≢ t') × (c.temporaries u ≡ Some v))
  pub words : (k v : ℕ) → c'.words k ≡ Some v → (Word k × (v ≡ t')) ⊎ ((v ≢ t') × (c.words k ≡ Some v))
  pub stale : (k : ℕ) → c'.stale k ≡ false → c.stale k ≡ false
  pub blank : (k : ℕ) → c'.blank k ≡ false → c.blank k ≡ false
  pub points : (u o : ℕ) → c'.points u o ≡ false → ((u ≡ t) × Away o) ⊎ ((u ≢ t) × (c.points u o ≡ false))
  pub word_points : (k o : ℕ) → c'.word_points k o ≡ false → c.word_points k o ≡ false

-- Only the old temporary t was given a value, which these new ones hold.
pub record Spared (t : ℕ) (By Away : ℕ → Type 0) (c c' : Claim) : Type 0 where
  pub temporaries : (u v : ℕ) → c'.temporaries u ≡ Some v → ((u ≡ t) × By v) ⊎ ((u ≢ t) × (c.temporaries u ≡ Some v))
  pub words : (k v : ℕ) → c'.words k ≡ Some v → c.words k ≡ Some v
  pub stale : (k : ℕ) → c'.stale k ≡ false → c.stale k ≡ false
  pub blank : (k : ℕ) → c'.blank k ≡ false → c.blank k ≡ false
  pub points : (u o : ℕ) → c'.points u o ≡ false → ((u ≡ t) × Away o) ⊎ ((u ≢ t) × (c.points u o ≡ false))
  pub word_points : (k o : ℕ) → c'.word_points k o ≡ false → c.word_points k o ≡ false

-- What the old temporary b holds was stored in word k of both frames.
pub record Stored (b k : ℕ) (c c' : Claim) : Type 0 where
  pub temporaries : (u v : ℕ) → c'.temporaries u ≡ Some v → c.temporaries u ≡ Some v
  pub words : (j v : ℕ) → c'.words j ≡ Some v → ((j ≡ k) × Holds c b v) ⊎ ((j ≢ k) × (c.words j ≡ Some v))
  pub stale : (j : ℕ) → c'.stale j ≡ false → (j ≡ k) ⊎ (c.stale j ≡ false)
  pub blank : (j : ℕ) → c'.blank j ≡ false → (j ≡ k) ⊎ (c.blank j ≡ false)
  pub points : (u o : ℕ) → c'.points u o ≡ false → c.points u o ≡ false
  pub word_points : (j o : ℕ) → c'.word_points j o ≡ false → ((j ≡ k) × (c.points b o ≡ false))
      ⊎ ((j ≢ k) × (c.word_points j o ≡ false))

-- The same of the old frame alone: the new code stored it nowhere.
pub record Postponed (b k : ℕ) (c c' : Claim) : Type 0 where
  pub temporaries : (u v : ℕ) → c'.temporaries u ≡ Some v → c.temporaries u ≡ Some v
  pub words : (j v : ℕ) → c'.words j ≡ Some v → ((j ≡ k) × Holds c b v) ⊎ ((j ≢ k) × (c.words j ≡ Some v))
  pub stale : (j : ℕ) → c'.stale j ≡ false → (j ≢ k) × (c.stale j ≡ false)
  pub blank : (j : ℕ) → c'.blank j ≡ false → (j ≡ k) ⊎ (c.blank j ≡ false)
  pub points : (u o : ℕ) → c'.points u o ≡ false → c.points u o ≡ false
  pub word_points : (j o : ℕ) → c'.word_points j o ≡ false → ((j ≡ k) × (c.points b o ≡ false))
      ⊎ ((j ≢ k) × (c.word_points j o ≡ false))

-- The same for the old frame, if the new code put it into the new temporary t'.
pub record Kept (b k t' : ℕ) (c c' : Claim) : Type 0 where
  pub temporaries : (u v : ℕ) → c'.temporaries u ≡ Some v → ((u ≡ b) × (v ≡ t'))
      ⊎ ((v ≢ t') × (c.temporaries u ≡ Some v))
  pub words : (j v : ℕ) → c'.words j ≡ Some v → ((j ≡ k) × (v ≡ t')) ⊎ ((j ≢ k) × (v ≢ t') × (c.words j ≡ Some v))
  pub stale : (j : ℕ) → c'.stale j ≡ false → (j ≢ k) × (c.stale j ≡ false)
  pub blank : (j : ℕ) → c'.blank j ≡ false → (j ≡ k) ⊎ (c.blank j ≡ false)
  pub points : (u o : ℕ) → c'.points u o ≡ false → c.points u o ≡ false
  pub word_points : (j o : ℕ) → c'.word_points j o ≡ false → ((j ≡ k) × (c.points b o ≡ false))
      ⊎ ((j ≢ k) × (c.word_points j o ≡ false))

-- Both codes stored a value after a base, which is not an address of these offsets of the own frame.
pub record Wrote (r : ℕ) (b : Base) (n : ℕ) (Away : ℕ → Type 0) (c c' : Claim) : Type 0 where
  pub temporaries : (u v : ℕ) → c'.temporaries u ≡ Some v → c.temporaries u ≡ Some v
  pub words : (k v : ℕ) → c'.words k ≡ Some v → Misses r c b n k × (c.words k ≡ Some v)
  pub stale : (k : ℕ) → c'.stale k ≡ false → c.stale k ≡ false
  pub blank : (k : ℕ) → c'.blank k ≡ false → c.blank k ≡ false
  pub points : (u o : ℕ) → c'.points u o ≡ false → c.points u o ≡ false
  pub word_points : (k o : ℕ) → c'.word_points k o ≡ false → (Misses r c b n k ⊎ Away o) × (c.word_points k o ≡ false)

-- A call gave its result to the old temporary t and the new one t'. Words may have been stored by what was called.
pub record Called (t t' : ℕ) (c c' : Claim) : Type 0 where
  pub fresh : (k : ℕ) → c.stale k ≡ false
  pub temporaries : (u v : ℕ) → c'.temporaries u ≡ Some v → ((u ≡ t) × (v ≡ t'))
      ⊎ ((u ≢ t) × (v ≢ t') × (c.temporaries u ≡ Some v))
  pub words : (k v : ℕ) → c'.words k ≢ Some v
  pub blank : (k : ℕ) → c'.blank k ≡ false → c.blank k ≡ false
  pub points : (u o : ℕ) → c'.points u o ≡ false → (u ≢ t) × (c.points u o ≡ false)
  pub word_points : (k o : ℕ) → c'.word_points k o ≢ false

-- ---- what a value is, and which offsets it is no address of

abbrev pub None_of_them : ℕ → Type 0
None_of_them _ = ⊥

-- numbers, routines, and addresses in other blocks
abbrev pub Elsewhere : ℕ → Type 0
Elsewhere _ = Unit {0}

-- any value at all
abbrev pub Anywhere : ℕ → Type 0
Anywhere _ = ⊥

abbrev pub As : Claim → ℕ → ℕ → Type 0
As c a o = c.points a o ≡ false

abbrev pub As_word : Claim → ℕ → ℕ → Type 0
As_word c k o = c.word_points k o ≡ false

-- this many bytes after a base, or some multiple of a width that is at most this many times it
abbrev pub Behind : ℕ → Claim → Base → ℕ → ℕ → Type 0
Behind r c b n o = (from : ℕ) → from + n ≡ o → base_points r c b from ≡ false

abbrev pub Component : ℕ → Claim → Base → (width most : ℕ) → ℕ → Type 0
Component r c b width most o =
    (from steps : ℕ) → steps ≤ most → from + steps * width ≡ o → base_points r c b from ≡ false

-- ---- instructions that are spared

abbrev pub Spares : Claim → Claim → Instruction → Type 0
Spares c c' (Literal t z) = Spared t None_of_them None_of_them c c'
Spares c c' (Copy t a) = Spared t (Holds c a) (As c a) c c'
Spares c c' (Load t base.Frame n) = (k : ℕ) × (n ≡ 4 * k) × Spared t (λ v. c.words k ≡ Some v) (As_word c k) c c'
Spares c c' (Store base.Frame n b) = (k : ℕ) × (n ≡ 4 * k) × Postponed b k c c'
Spares c c' (CheckRange a low high error line) = (error ≡ 0) × Forgets c c'
Spares c c' (CheckPointer a error line) = (error ≡ 0) × Forgets c c'
Spares c c' _ = ⊥

-- ---- instructions that go on to the next place

module _ (r : ℕ) (c c' : Claim) where
  abbrev pub Given : ℕ → ℕ → (ℕ → Type 0) → Type 0
  Given t t' Away = Gave t t' None_of_them Away c c'

  -- a load of a word of the own frame, which may be held from here on
  pub record LoadsWord (t k : ℕ) (n : ℕ) (i : Instruction) : Type 0 where
    pub t' : ℕ
    pub same : i ≡ Load t' base.Frame n
    pub fresh : c.stale k ≡ false
    pub gave : Gave t t' (λ j. j ≡ k) (As_word c k) c c'

  -- what it became where the word was held
  pub record CopiesWord (t k : ℕ) (i : Instruction) : Type 0 where
    pub t' : ℕ
    pub a' : ℕ
    pub same : i ≡ Copy t' a'
    pub held : c.words k ≡ Some a'
    pub gave : Gave t t' (λ j. j ≡ k) (As_word c k) c c'

  pub record StoresWord (b k : ℕ) (n : ℕ) (i : Instruction) : Type 0 where
    pub b' : ℕ
    pub same : i ≡ Store base.Frame n b'
    pub holds : Holds c b b'
    pub stored : Stored b k c c'

  pub record KeepsWord (b k : ℕ) (i : Instruction) : Type 0 where
    pub t' : ℕ
    pub b' : ℕ
    pub same : i ≡ Copy t' b'
    pub holds : Holds c b b'
    pub kept : Kept b k t' c c'

  -- a load from anywhere
  pub record Loads (t : ℕ) (b : Base) (n : ℕ) (i : Instruction) : Type 0 where
    pub t' : ℕ
    pub b' : Base
    pub same : i ≡ Load t' b' n
    pub from : SameBase c b b'
    pub sees : Sees r c b n
    pub gave : Given t t' Anywhere

  pub record Stores (b : Base) (n a : ℕ) (i : Instruction) : Type 0 where
    pub a' : ℕ
    pub b' : Base
    pub same : i ≡ Store b' n a'
    pub to : SameBase c b b'
    pub holds : Holds c a a'
    pub wrote : Wrote r b n (As c a) c c'

  -- the same instruction with other temporaries, or a word held instead
  abbrev pub Renames : Instruction → Instruction → Type 0
  Renames (Literal t z) i = (t' : ℕ) × (i ≡ Literal t' z) × Given t t' Elsewhere
  Renames (Copy t a) i = (t' : ℕ) × (a' : ℕ) × (i ≡ Copy t' a') × Holds c a a' × Given t t' (As c a)
  Renames (Arithmetic operator t a b error line) i =
      (t' : ℕ) × (a' : ℕ) × (b' : Operand) × (i ≡ Arithmetic operator t' a' b' error line) × Holds c a a' × Right c b b'
      × Given t t' Elsewhere
  Renames (Bits operator t a b) i =
      (t' : ℕ) × (a' : ℕ) × (b' : Operand) × (i ≡ Bits operator t' a' b') × Holds c a a' × Right c b b'
      × Given t t' Elsewhere
  Renames (Compare relation t a b) i =
      (t' : ℕ) × (a' : ℕ) × (b' : Operand) × (i ≡ Compare relation t' a' b') × Holds c a a' × Right c b b'
      × Given t t' Elsewhere
  Renames (CheckRange a low high error line) i =
      (a' : ℕ) × (i ≡ CheckRange a' low high error line) × Holds c a a' × Forgets c c'
  Renames (CheckPointer a error line) i = (a' : ℕ) × (i ≡ CheckPointer a' error line) × Holds c a a' × Found a c c'
  Renames (Text t bytes) i = (t' : ℕ) × (i ≡ Text t' bytes) × Given t t' Elsewhere
  Renames (Offset t b n extent) i =
      (t' : ℕ) × (b' : Base) × (i ≡ Offset t' b' n extent) × SameBase c b b' × Given t t' (Behind r c b n)
  Renames (Index t b x low high width error line) i =
      (t' : ℕ) × (b' : Base) × (x' : ℕ) × (i ≡ Index t' b' x' low high width error line) × SameBase c b b'
      × Holds c x x' × Given t t' (Component r c b width (steps_above low high))
  Renames (RoutineValue t routine) i = (t' : ℕ) × (i ≡ RoutineValue t' routine) × Given t t' Elsewhere
  Renames (Load t b n) i =
      Loads t b n i ⊎ ((k : ℕ) × (b ≡ base.Frame) × (n ≡ 4 * k) × (LoadsWord t k n i ⊎ CopiesWord t k i))
  Renames (Store b n a) i =
      Stores b n a i ⊎ ((k : ℕ) × (b ≡ base.Frame) × (n ≡ 4 * k) × (StoresWord a k n i ⊎ KeepsWord a k i))
  Renames (LoadByte t b n) i =
      (t' : ℕ) × (b' : Base) × (i ≡ LoadByte t' b' n) × SameBase c b b' × Sees r c b n × Given t t' Elsewhere
  Renames (StoreByte b n a) i =
      (b' : Base) × (a' : ℕ) × (i ≡ StoreByte b' n a') × SameBase c b b' × Holds c a a' × Sees r c b n
      × Wrote r b n Elsewhere c c'
  Renames (Take t) i = (t' : ℕ) × (i ≡ Take t') × Given t t' Elsewhere
  Renames (Put a) i = (a' : ℕ) × (i ≡ Put a') × Holds c a a' × Forgets c c'
  Renames (New t object_type line) i = (t' : ℕ) × (i ≡ New t' object_type line) × Given t t' Elsewhere
  Renames _ i = ⊥

  -- calls, whose results are where they are claimed to be
  abbrev pub Calls : Instruction → Instruction → Type 0
  Calls (Call t routine operands line) i =
      (t' : ℕ) × (operands' : List ℕ) × (i ≡ Call t' routine operands' line) × AllHold c operands operands'
      × Called t t' c c'
  Calls (CallValue t a operands line) i =
      (t' : ℕ) × (a' : ℕ) × (operands' : List ℕ) × (i ≡ CallValue t' a' operands' line) × Holds c a a'
      × AllHold c operands operands' × Called t t' c c'
  Calls _ i = ⊥

-- ---- instructions behind which nothing follows

abbrev pub Ends : Claim → Instruction → Instruction → Type 0
Ends c (Return a) i = (a' : ℕ) × (i ≡ Return a') × Holds c a a'
Ends c (Trap error line) i = i ≡ Trap error line
Ends c End i = i ≡ End
Ends c _ i = ⊥

-- ---- instructions that are put in

-- a word of the own frame is made to agree, by what holds it
pub record Cleans (k t : ℕ) (c c' : Claim) : Type 0 where
  pub held : c.words k ≡ Some t
  pub there : c.blank k ≡ false
  pub temporaries : (u v : ℕ) → c'.temporaries u ≡ Some v → c.temporaries u ≡ Some v
  pub words : (j v : ℕ) → c'.words j ≡ Some v → c.words j ≡ Some v
  pub stale : (j : ℕ) → c'.stale j ≡ false → (j ≡ k) ⊎ (c.stale j ≡ false)
  pub blank : (j : ℕ) → c'.blank j ≡ false → c.blank j ≡ false
  pub points : (u o : ℕ) → c'.points u o ≡ false → c.points u o ≡ false
  pub word_points : (j o : ℕ) → c'.word_points j o ≡ false → c.word_points j o ≡ false

-- a word that was written is held from here on
pub record Fetches (k t : ℕ) (c c' : Claim) : Type 0 where
  pub fresh : c.stale k ≡ false
  pub there : c.blank k ≡ false
  pub temporaries : (u v : ℕ) → c'.temporaries u ≡ Some v → (v ≢ t) × (c.temporaries u ≡ Some v)
  pub words : (j v : ℕ) → c'.words j ≡ Some v → ((j ≡ k) × (v ≡ t)) ⊎ ((v ≢ t) × (c.words j ≡ Some v))
  pub stale : (j : ℕ) → c'.stale j ≡ false → c.stale j ≡ false
  pub blank : (j : ℕ) → c'.blank j ≡ false → c.blank j ≡ false
  pub points : (u o : ℕ) → c'.points u o ≡ false → c.points u o ≡ false
  pub word_points : (j o : ℕ) → c'.word_points j o ≡ false → c.word_points j o ≡ false

abbrev pub PutsIn : Claim → Claim → Instruction → Type 0
PutsIn c c' (Store base.Frame n t) = (k : ℕ) × (n ≡ 4 * k) × Cleans k t c c'
PutsIn c c' (Load t base.Frame n) = (k : ℕ) × (n ≡ 4 * k) × Fetches k t c c'
PutsIn c c' _ = ⊥
