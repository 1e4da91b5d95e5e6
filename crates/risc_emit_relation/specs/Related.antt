-- The states of the code and of the machine that belong together. Of the machine this uses registers and words, as
-- functions.
use Rattle.std.specs.Prelude.{◌≡◌, ◌≢◌, ℕ, ◌+◌, ◌*◌, ◌%◌, ◌<◌, ◌≤◌, true, List, [], ◌∷◌, length, slice_get, Some}
use Rattle.tac_code.specs.declared.code.Value.{Value}
use Rattle.tac_code.specs.declared.code.TacRoutine.{TacRoutine}
use Rattle.tac_code.specs.Memory.{Words, Living}
use Rattle.tac_code.specs.Meaning.{routines, Temporaries, Activation, State}
use Rattle.risc_alloc.specs.declared.homes.Home.{Home}
use Rattle.risc_alloc.specs.declared.homes.Home.TheVariants.{Slot, Reg}
use Rattle.risc_emit_relation.specs.Context.{Context, home, called, IsAlive, is_program, cost, slot_at, Places, word}
use Rattle.risc_emit_relation.specs.Context.{IsValue, AreLow}

-- a block's written words are in memory, from an address on
abbrev pub Holds : Context → Places → (ℕ → ℕ) → ℕ → Words → Type 0
Holds c p w at ws = (i : ℕ) (x : Value) → slice_get ws i ≡ Some (Some x) → IsValue c p x × (w (at + 4 * i) ≡ word c p x)

-- ---- frames

-- What the frames above require of an activation. Its temporaries and its place are left out, so a step within the
-- activation changes nothing here.
pub record Owner : Type 0 where
  pub routine : ℕ
  pub number : ℕ
  pub result : ℕ
  pub line : ℕ

abbrev pub owner_of : Activation → Owner
owner_of a = record { routine = a.routine; number = a.number; result = a.result; line = a.line }

-- the blocks of an activation whose frame is at f
pub record Own (c : Context) (p : Places) (w : ℕ → ℕ) (f : ℕ) (y : Owner) (b d : Living) : Type 0 where
  pub routine : TacRoutine
  pub is : slice_get (routines c.code) y.routine ≡ Some routine
  pub frame_number : b.number ≡ y.number
  pub scratch_number : d.number ≡ y.number
  pub named : y.number < p.activations
  pub frame_place : p.frame y.number ≡ f + c.frame_at y.routine
  pub scratch_place : p.scratch y.number ≡ f + c.scratch_at y.routine
  pub frame_length : 4 * length b.words ≡ routine.frame
  pub scratch_length : 4 * length d.words ≡ routine.scratch
  pub frame : Holds c p w (f + c.frame_at y.routine) b.words
  pub scratch : Holds c p w (f + c.scratch_at y.routine) d.words
  -- a routine of the program keeps where its caller's frame is
  pub back : is_program c y.routine ≡ true → w (f + 4) ≡ f + cost c y.routine

-- a caller, its frame at f, that waits for y to come back to a link
pub record Waits (c : Context) (p : Places) (w : ℕ → ℕ) (f : ℕ) (x : Activation) (y : Owner) (link : ℕ) : Type 0 where
  pub program : is_program c x.routine ≡ true
  pub call : called c x.routine x.place y.result ≡ true
  pub resume : link ≡ 4 * c.resume x.routine x.place y.result
  pub line : is_program c y.routine ≡ true → c.line link ≡ Some y.line
  pub saved : (u k : ℕ) (v : Value) → IsAlive c x.routine x.place u → u ≢ y.result → x.temporaries u ≡ Some v
      → home c x.routine u ≡ Slot k → IsValue c p v × (w (f + slot_at c x.routine k) ≡ word c p v)

-- the program block's frame ends memory, and has no caller to return to
pub record Outermost (c : Context) (f : ℕ) (y : Owner) (link : ℕ) : Type 0 where
  pub routine : y.routine ≡ 0
  pub number : y.number ≡ 0
  pub top : f + cost c y.routine ≡ c.size
  pub unlinked : link ≡ 0

-- the open activations, from y with its frame at f outwards
abbrev pub Open : Context → Places → (ℕ → ℕ) → ℕ → Owner → List Activation → List Living → List Living → Type 0
Open c p w f y xs [] ds = ⊥
Open c p w f y xs (b ∷ bs) [] = ⊥
Open c p w f y [] (b ∷ bs) (d ∷ ds) =
    Own c p w f y b d × Outermost c f y (w (f + c.link_at y.routine)) × (bs ≡ []) × (ds ≡ [])
Open c p w f y (x ∷ xs) (b ∷ bs) (d ∷ ds) =
    Own c p w f y b d × Waits c p w (f + cost c y.routine) x y (w (f + c.link_at y.routine)) × Open c p w
    (f + cost c y.routine) (owner_of x) xs bs ds

-- ---- objects

pub record Stands (c : Context) (p : Places) (w : ℕ → ℕ) (n : ℕ) (ws : Words) (next : ℕ) : Type 0 where
  pub aligned : p.object n % 4 ≡ 0
  pub low : c.heap_at ≤ p.object n
  pub room : p.object n + 4 ≤ next
  pub high : p.object n + 4 * length ws ≤ next
  pub holds : Holds c p w (p.object n) ws

-- the objects, one after the other, up to the next address of the heap
pub record Objects (c : Context) (p : Places) (w : ℕ → ℕ) (objects : List Words) (next : ℕ) : Type 0 where
  pub count : length objects ≡ p.objects
  pub each : (n : ℕ) (ws : Words) → slice_get objects n ≡ Some ws → Stands c p w n ws next
  pub rise : (m n : ℕ) (ws vs : Words) → m < n → slice_get objects m ≡ Some ws → slice_get objects n ≡ Some vs
      → (p.object m + 4 ≤ p.object n) × (p.object m + 4 * length ws ≤ p.object n)

-- ---- the whole

-- all but the place and the temporaries of the innermost activation, whose frame is at f
pub record Held (c : Context) (p : Places) (s : State) (w : ℕ → ℕ) (f : ℕ) : Type 0 where
  pub aligned : f % 4 ≡ 0
  pub low : c.base ≤ f
  pub frames : Open c p w f (owner_of s.current) s.callers s.memory.frames s.memory.scratch
  pub objects : Objects c p w s.memory.objects (c.heap_at + s.heap)
  pub limit : w (c.bottom + 268) ≡ c.base
  pub next : w (c.bottom + 272) ≡ c.heap_at + s.heap
  pub room : c.heap_at + s.heap ≤ c.base
  pub whole : s.heap % 4 ≡ 0
  pub count : p.activations ≡ s.count
  pub some : 0 < p.activations
  pub program : p.frame 0 ≡ c.bottom + c.frame_at 0
  pub places : AreLow p

-- the registers and words of a machine
pub record Machine : Type 0 where
  pub registers : ℕ → ℕ
  pub words : ℕ → ℕ

-- what a home holds, in a frame of a routine at f
abbrev pub value_of : Context → ℕ → ℕ → Machine → Home → ℕ
value_of c r f m (Slot k) = m.words (f + slot_at c r k)
value_of c r f m (Reg q) = m.registers q

-- what is alive at a place is in its home
abbrev pub Homes : Context → Places → ℕ → ℕ → ℕ → Temporaries → Machine → Type 0
Homes c p r k f ts m =
    (u : ℕ) (x : Value) → IsAlive c r k u → ts u ≡ Some x → IsValue c p x × (value_of c r f m (home c r u) ≡ word c p x)

pub record Related (c : Context) (p : Places) (s : State) (m : Machine) (f : ℕ) : Type 0 where
  -- R14 is the frame of the innermost activation, R13 that of the program block
  pub stack : m.registers 14 ≡ f
  pub globals : m.registers 13 ≡ c.bottom
  pub held : Held c p s m.words f
  pub homes : Homes c p s.current.routine s.current.place f s.current.temporaries m

-- ---- the start

-- the blocks of the program block, which has no objects yet
abbrev pub started_places : Context → Places
started_places c =
    record {
      frame = λ a. c.bottom + c.frame_at 0;
      scratch = λ a. c.bottom + c.scratch_at 0;
      object = λ n. c.heap_at;
      activations = 1;
      objects = 0;
    }

-- What the first words and the entry of the program block set up: its frame, with no caller to return to, the stack's
-- limit and an empty heap.
pub record Starting (c : Context) (m : Machine) : Type 0 where
  pub link : m.words (c.bottom + c.link_at 0) ≡ 0
  pub back : m.words (c.bottom + 4) ≡ c.size
  pub limit : m.words (c.bottom + 268) ≡ c.base
  pub next : m.words (c.bottom + 272) ≡ c.heap_at
  pub stack : m.registers 14 ≡ c.bottom
  pub globals : m.registers 13 ≡ c.bottom
