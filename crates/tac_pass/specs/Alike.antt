-- When a state of the old code and one of the new code are alike, as far as is claimed.
use Rattle.std.specs.Prelude.{◌≡◌, ◌≢◌, ◌⊎◌, ℕ, ◌<◌, false, List, [], ◌∷◌, length, map, slice_get, Some, None}
use Rattle.tac_code.specs.declared.code.Block.TheVariants.{Frame}
use Rattle.tac_code.specs.declared.code.Value.TheVariants.{Address}
use Rattle.tac_code.specs.Memory.{Words, Living, Memory, known}
use Rattle.tac_code.specs.Meaning.{Temporaries, Activation, State}
use Rattle.tac_pass.specs.Moved.{Places, moved_word, moved_words, moved_living}
use Rattle.tac_pass.specs.Claims.{Claim, Certificate}

-- ---- the innermost activation, whose number names its frame

pub record Inside (at : Places) (c : Claim) (number : ℕ) (old new : Temporaries) (words words' : Words) : Type 0 where
  -- a temporary holds what it is claimed to hold, of an old one or of a word
  pub hold : (u t : ℕ) → c.temporaries u ≡ Some t → new t ≡ moved_word at (old u)
  pub held : (k t : ℕ) → c.words k ≡ Some t → new t ≡ moved_word at (known (slice_get words k))
  -- frames are of the same size, and agree where they are not stale
  pub size : length words' ≡ length words
  pub agree : (k : ℕ) → c.stale k ≡ false → known (slice_get words' k) ≡ moved_word at (known (slice_get words k))
  -- of the old code alone: what was written, and what points elsewhere
  pub written : (k : ℕ) → c.blank k ≡ false → known (slice_get words k) ≢ None
  pub away : (u o : ℕ) → c.points u o ≡ false → old u ≢ Some (Address (Frame number) o)
  pub word_away : (k o : ℕ) → c.word_points k o ≡ false → known (slice_get words k) ≢ Some (Address (Frame number) o)

-- ---- the others

-- Two activations of one call: of the same routine, with the same number and line. The program block alone has number
-- 0.
pub record OneCall (old new : Activation) : Type 0 where
  pub routine : new.routine ≡ old.routine
  pub number : new.number ≡ old.number
  pub line : new.line ≡ old.line
  pub first : old.number ≡ 0 → old.routine ≡ 0

-- Two memories: the own frames first, and everything else the same except for the places of constants.
pub record Memories (at : Places) (number : ℕ) (words words' : Words) (rest : List Living) (old new : Memory)
    : Type 0 where
  pub frames : old.frames ≡ record { number = number; words = words } ∷ rest
  pub frames' : new.frames ≡ record { number = number; words = words' } ∷ map (moved_living at) rest
  pub scratch : new.scratch ≡ map (moved_living at) old.scratch
  pub objects : new.objects ≡ map (moved_words at) old.objects

module _ (e : Certificate) where
  -- A caller goes on where its instruction after the call begins, with the call's result in a temporary.
  pub record Waits (result result' : ℕ) (old new : Activation) (frame : Living) : Type 0 where
    pub call : OneCall old new
    pub place : new.place ≡ e.starts old.routine old.place
    pub own : frame.number ≡ old.number
    pub hold : (u t : ℕ) → (e.claims old.routine old.place).temporaries u ≡ Some t → ((u ≡ result) × (t ≡ result'))
        ⊎ ((u ≢ result) × (t ≢ result') × (new.temporaries t ≡ moved_word e.stands (old.temporaries u)))
    pub held : (k t : ℕ) → (e.claims old.routine old.place).words k ≢ Some t
    pub written : (k : ℕ) → (e.claims old.routine old.place).blank k ≡ false → known (slice_get frame.words k) ≢ None
    pub away : (u o : ℕ) → (e.claims old.routine old.place).points u o ≡ false → (u ≢ result)
        × (old.temporaries u ≢ Some (Address (Frame old.number) o))
    pub word_away : (k o : ℕ) → (e.claims old.routine old.place).word_points k o ≢ false

  -- the callers and their old frames, pair by pair, with the temporaries for the results of what they called
  abbrev pub Wait : (result result' : ℕ) → List Activation → List Activation → List Living → Type 0
  Wait result result' [] [] [] = Unit {0}
  Wait result result' (a ∷ old) (b ∷ new) (f ∷ fs) = Waits result result' a b f × Wait a.result b.result old new fs
  Wait result result' _ _ _ = ⊥

  -- all but places and temporaries, and what the own frames hold
  pub record Outside (s s' : State) (words words' : Words) (rest : List Living) : Type 0 where
    pub call : OneCall s.current s'.current
    pub memory : Memories e.stands s.current.number words words' rest s.memory s'.memory
    pub callers : Wait s.current.result s'.current.result s.callers s'.callers rest
    pub count : s'.count ≡ s.count
    pub counted : 0 < s.count
    pub heap : s'.heap ≡ s.heap
    pub tape : s'.tape ≡ s.tape

  -- ---- the whole

  pub record Alike (c : Claim) (s s' : State) : Type 0 where
    pub words : Words
    pub words' : Words
    pub rest : List Living
    pub inside : Inside e.stands c s.current.number s.current.temporaries s'.current.temporaries words words'
    pub outside : Outside s s' words words' rest

  -- at an instruction of the old code, and where the new code for it begins
  abbrev pub Matched : State → State → Type 0
  Matched s s' =
      Alike (e.claims s.current.routine s.current.place) s s'
      × (s'.current.place ≡ e.starts s.current.routine s.current.place)
