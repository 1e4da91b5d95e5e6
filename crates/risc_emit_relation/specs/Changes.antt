-- How words of the machine change the relation: what a step writes, a store, a call and a return, a new object.
use Rattle.std.specs.Prelude.{◌≡◌, ◌≢◌, ℕ, suc, ◌+◌, ◌*◌, ◌%◌, ◌<◌, ◌≤◌, ◌⊎◌, true, false, nat_eq, if◌then◌else◌, List}
use Rattle.std.specs.Prelude.{[], ◌∷◌, ◌++◌, length, slice_get, Option, Some, ℤ}
use Rattle.tac_code.specs.declared.code.Value.{Value}
use Rattle.tac_code.specs.declared.code.Value.TheVariants.{Number}
use Rattle.tac_code.specs.declared.code.TacRoutine.{TacRoutine}
use Rattle.tac_code.specs.Numbers.{byte_of, with_byte}
use Rattle.tac_code.specs.Memory.{Words, Memory, constant_at}
use Rattle.tac_code.specs.Meaning.{routines, put, Activation, State, unwritten, without_first, text_at}
use Rattle.risc_alloc.specs.declared.homes.Home.{Home}
use Rattle.risc_alloc.specs.declared.homes.Home.TheVariants.{Slot, Reg}
use Rattle.risc_emit_relation.specs.Context.{Context, home, writes, leads, called, IsAlive, is_program, cost, slot_at}
use Rattle.risc_emit_relation.specs.Context.{Places, word, IsValue}
use Rattle.risc_emit_relation.specs.Related.{Holds, Held, Machine, value_of}

-- a function with one value changed
abbrev pub update : ℕ → ℕ → (ℕ → ℕ) → ℕ → ℕ
update k x f j = if nat_eq j k then x else f j

-- ---- within an activation

-- the same registers except for the two scratch registers, and the same words
pub record Near (m m' : Machine) : Type 0 where
  pub registers : (q : ℕ) → q ≢ 12 → q ≢ 15 → m'.registers q ≡ m.registers q
  pub words : (a : ℕ) → m'.words a ≡ m.words a

-- a home of a routine's frame at f received a word; nothing else changed except for the two scratch registers
pub record Settled (c : Context) (r f : ℕ) (h : Home) (n : ℕ) (m m' : Machine) : Type 0 where
  pub here : value_of c r f m' h ≡ n
  pub others : (g : Home) → g ≢ h → ((q : ℕ) → g ≡ Reg q → q < 12) → value_of c r f m' g ≡ value_of c r f m g
  pub words : (a : ℕ) → (a < f + c.slots_at r) ⊎ (f + c.frame_at r ≤ a) → m'.words a ≡ m.words a
  pub globals : m'.registers 13 ≡ m.registers 13
  pub stack : m'.registers 14 ≡ m.registers 14

-- ---- loads and stores by address

-- a block's words are in memory from an address on
pub record Found (c : Context) (p : Places) (w : ℕ → ℕ) (at : ℕ) (ws : Words) : Type 0 where
  pub aligned : at % 4 ≡ 0
  pub high : at + 4 * length ws ≤ c.size
  pub holds : Holds c p w at ws

-- the constants' words, as the code shows them
abbrev pub ConstantsStand : Context → Places → (ℕ → ℕ) → Type 0
ConstantsStand c p w =
    (r k : ℕ) (ws : Words) → constant_at (text_at c.code r k) ≡ Some ws → Found c p w (4 * c.constant r k) ws

-- the word at an address, and its value
pub record Loaded (c : Context) (p : Places) (w : ℕ → ℕ) (at : ℕ) (v : Value) : Type 0 where
  pub aligned : at % 4 ≡ 0
  pub high : at + 4 ≤ c.size
  pub good : IsValue c p v
  pub is : w at ≡ word c p v

-- the word that holds a byte
pub record ByteLoaded (c : Context) (p : Places) (w : ℕ → ℕ) (at k byte : ℕ) : Type 0 where
  pub number : ℤ
  pub word : Loaded c p w at (Number number)
  pub is : byte ≡ byte_of number k

-- what is known of the word that was at an address
abbrev pub StoodAt : Context → Places → (ℕ → ℕ) → ℕ → Option Value → Type 0
StoodAt c p w at o = (v : Value) → o ≡ Some v → IsValue c p v × (w at ≡ word c p v)

-- The relation after a change in memory, and the word that changes it in the machine. Q relates the new value to the
-- old one.
pub record Kept (c : Context) (p : Places) (s : State) (m' : Memory) (w : ℕ → ℕ) (f at : ℕ)
    (Q : Option Value → Value → Type 0) : Type 0 where
  pub value : Value
  pub before : Option Value
  pub why : Q before value
  pub stood : StoodAt c p w at before
  pub aligned : at % 4 ≡ 0
  pub low : c.heap_at ≤ at
  pub high : at + 4 ≤ c.size
  -- not among the slots of the innermost activation, nor before them in its frame
  pub beside : (at + 4 ≤ f) ⊎ (f + c.frame_at s.current.routine ≤ at)
  pub held : Held c p (record s { memory = m' }) (update at (word c p value) w) f

-- a word is stored at an offset that is a multiple of 4
abbrev pub IsStored : ℕ → Value → Option Value → Value → Type 0
IsStored offset v o x = (offset % 4 ≡ 0) × (x ≡ v)

-- a byte of a word that held a number
abbrev pub IsByteStored : ℕ → ℕ → Option Value → Value → Type 0
IsByteStored k byte o x = (z : ℤ) × (o ≡ Some (Number z)) × (x ≡ Number (with_byte z k byte))

-- ---- calls and returns

-- the names of a new activation's blocks
abbrev pub entered_places : Context → Places → ℕ → ℕ → ℕ → Places
entered_places c p n g q =
    record {
      frame = update n (g + c.frame_at q) p.frame;
      scratch = update n (g + c.scratch_at q) p.scratch;
      object = p.object;
      activations = suc n;
      objects = p.objects;
    }

-- What the words of a call and of the callee's entry do: the caller's frame at f, the callee's at g, the link l.
pub record Entering (c : Context) (p : Places) (s : State) (m m' : Machine) (f g q t line l : ℕ) (routine : TacRoutine)
    (values : List Value) : Type 0 where
  pub caller : is_program c s.current.routine ≡ true
  pub is : slice_get (routines c.code) q ≡ Some routine
  pub below : g + cost c q ≡ f
  pub room : c.base ≤ g
  pub leads : leads c s.current.routine s.current.place (suc s.current.place) ≡ true
  pub only : (u : ℕ) → u ≢ t → writes c s.current.routine s.current.place u ≡ false
  pub call : called c s.current.routine (suc s.current.place) t ≡ true
  pub resume : l ≡ 4 * c.resume s.current.routine (suc s.current.place) t
  pub row : is_program c q ≡ true → c.line l ≡ Some line
  pub link : m'.words (g + c.link_at q) ≡ l
  pub back : is_program c q ≡ true → m'.words (g + 4) ≡ f
  -- operands, and the frame of a run-time routine, are at 8 to 268 of the caller's frame
  pub same : (a : ℕ) → f ≤ a → (a < f + 8) ⊎ (f + 268 ≤ a) → m'.words a ≡ m.words a
  pub heap : (a : ℕ) → a + 4 ≤ c.base → m'.words a ≡ m.words a
  pub stack : m'.registers 14 ≡ g
  pub globals : m'.registers 13 ≡ m.registers 13
  pub homes : (j : ℕ) (v : Value) → IsAlive c q 0 j → slice_get values j ≡ Some v → IsValue c p v
      × (value_of c q g m' (home c q j) ≡ word c p v)

-- What the words of a return and of the caller's receiving do: x is the caller, its frame at f' above.
pub record Leaving (c : Context) (p : Places) (s : State) (x : Activation) (m m' : Machine) (f' : ℕ) (v : Value)
    : Type 0 where
  pub good : IsValue c p v
  pub here : value_of c x.routine f' m' (home c x.routine s.current.result) ≡ word c p v
  -- slots other than the result's
  pub slots : (j : ℕ) → Slot j ≢ home c x.routine s.current.result → m'.words (f' + slot_at c x.routine j) ≡ m.words
      (f' + slot_at c x.routine j)
  pub words : (a : ℕ) → (a < f' + c.slots_at x.routine) ⊎ (f' + c.frame_at x.routine ≤ a) → m'.words a ≡ m.words a
  pub stack : m'.registers 14 ≡ f'
  pub globals : m'.registers 13 ≡ m.registers 13

-- back in the caller, with the result
abbrev pub left : Value → Activation → List Activation → State → State
left v x xs s =
    record s {
      current = record x { temporaries = put x.temporaries s.current.result v };
      callers = xs;
      memory = record
          s.memory { frames = without_first s.memory.frames; scratch = without_first s.memory.scratch };
    }

-- ---- objects

-- the name of a new object
abbrev pub made_places : Places → ℕ → ℕ → Places
made_places p n at =
    record {
      frame = p.frame;
      scratch = p.scratch;
      object = update n at p.object;
      activations = p.activations;
      objects = suc n;
    }

-- the machine with the heap's next address moved on
abbrev pub advanced : Context → Machine → ℕ → Machine
advanced c m next = record { registers = m.registers; words = update (c.bottom + 272) next m.words }

-- the state with one more object, before its address is given
abbrev pub with_object : State → ℕ → ℕ → State
with_object s bytes more =
    record s { memory = record s.memory { objects = s.memory.objects ++ unwritten bytes ∷ [] }; heap = s.heap + more }
