-- What the relation between code and machine requires of a placed program: where instructions, routines, constants and
-- temporaries are, and how frames are laid out. The names of blocks have addresses in a map that grows with the run.
use Rattle.std.specs.Prelude.{◌≡◌, ◌≢◌, ℕ, suc, ◌+◌, ◌-◌, ◌*◌, ◌%◌, ◌<◌, ◌≤◌, Bool, true, false, nat_lt, List, length}
use Rattle.std.specs.Prelude.{slice_get, Option, Some, ℤ, pos, neg_ℤ, ◌≤ℤ◌}
use Rattle.risc_machine.specs.declared.limits.TheConstants.{ADDRESSES, MAX_MEMORY}
use Rattle.tac_code.specs.declared.code.TheConstants.{BLOCK_LIMIT, NUMBER_LIMIT}
use Rattle.tac_code.specs.declared.code.Block.{Block}
use Rattle.tac_code.specs.declared.code.Block.TheVariants.{Frame, Scratch, Object, Constant}
use Rattle.tac_code.specs.declared.code.Value.{Value}
use Rattle.tac_code.specs.declared.code.Value.TheVariants.{Number, Address, Routine}
use Rattle.tac_code.specs.declared.code.TacRoutine.{TacRoutine}
use Rattle.tac_code.specs.Numbers.{word_of}
use Rattle.tac_code.specs.Meaning.{Code, routines, fetch, frame_cost}
use Rattle.risc_alloc.specs.declared.homes.Home.{Home}
use Rattle.risc_alloc.specs.declared.homes.Home.TheVariants.{Slot}
use Rattle.risc_alloc.specs.Flow as flow
use Rattle.risc_alloc.specs.Flow.{comes_back}
use Rattle.risc_alloc.specs.Homes.{home_of}
use Rattle.risc_alloc.specs.Alive.{Alive}
use Rattle.risc_alloc.specs.Valid.{Valid}

-- A placed program. Places of words are counted in words, offsets within a frame and addresses in bytes.
pub record Context : Type 0 where
  pub code : Code
  -- the bytes of an activation, as the stack is charged for it, and of an object of each type
  pub costs : ℕ → ℕ
  pub sizes : ℕ → ℕ
  pub homes : List Home
  -- the word at which an instruction's words begin, a routine's entry and a constant
  pub site : ℕ → ℕ → ℕ
  pub entry : ℕ → ℕ
  pub constant : ℕ → ℕ → ℕ
  -- routine, place, temporary: the word at which a call, the instruction before the place, comes back with a result for
  -- the temporary
  pub resume : ℕ → ℕ → ℕ → ℕ
  -- the line of the call that comes back to a link
  pub line : ℕ → Option ℕ
  -- the number of an error and its line, by the link of the stop
  pub trap : ℕ → Option (ℕ × ℕ)
  -- offsets in a routine's frame: the link, the first slot, the frame block, the scratch block, the end of what is used
  pub link_at : ℕ → ℕ
  pub slots_at : ℕ → ℕ
  pub frame_at : ℕ → ℕ
  pub scratch_at : ℕ → ℕ
  pub used : ℕ → ℕ
  -- memory: the code ends and the heap begins, the stack begins, memory ends; the frame of the program block
  pub heap_at : ℕ
  pub base : ℕ
  pub size : ℕ
  pub bottom : ℕ

-- ---- routine, place, temporary

-- where a temporary lives
abbrev pub home : Context → ℕ → ℕ → Home
home c r t = home_of c.code c.homes r t

-- whether the instruction at a place reads a temporary, writes it, leads to another place
abbrev pub reads : Context → ℕ → ℕ → ℕ → Bool
reads c r k u = flow.reads (fetch c.code r k) u

abbrev pub writes : Context → ℕ → ℕ → ℕ → Bool
writes c r k u = flow.writes (fetch c.code r k) u

abbrev pub leads : Context → ℕ → ℕ → ℕ → Bool
leads c r k k' = flow.leads (fetch c.code r k) k k'

-- whether the instruction before a place is a call whose result a temporary takes
abbrev pub called : Context → ℕ → ℕ → ℕ → Bool
called c r k t = comes_back (fetch c.code r) k t

-- alive at a place
abbrev pub IsAlive : Context → ℕ → ℕ → ℕ → Type 0
IsAlive c r k u = Alive (fetch c.code r) k u

abbrev pub IsPlaced : Context → Type 0
IsPlaced c = Valid c.code c.homes

-- the instruction at a place leads to another one and writes no temporary
pub record Passes (c : Context) (r k k' : ℕ) : Type 0 where
  pub there : leads c r k k' ≡ true
  pub none : (u : ℕ) → writes c r k u ≡ false

-- it leads to the next place and writes one temporary alone
pub record Writes (c : Context) (r k t : ℕ) : Type 0 where
  pub next : leads c r k (suc k) ≡ true
  pub here : writes c r k t ≡ true
  pub only : (u : ℕ) → u ≢ t → writes c r k u ≡ false

-- ---- frames

-- a routine of the program; the others belong to the run-time library, and their frames are within their caller's
abbrev pub is_program : Context → ℕ → Bool
is_program c r = nat_lt r (length c.code.program)

-- the distance up to the caller's frame
abbrev pub cost : Context → ℕ → ℕ
cost c r = frame_cost c.code c.costs r

abbrev pub slot_at : Context → ℕ → ℕ → ℕ
slot_at c r k = c.slots_at r + 4 * k

-- ---- addresses

-- The address of each block, by its number, and how many numbers of activations and of objects were assigned.
pub record Places : Type 0 where
  pub frame : ℕ → ℕ
  pub scratch : ℕ → ℕ
  pub object : ℕ → ℕ
  pub activations : ℕ
  pub objects : ℕ

abbrev pub place : Context → Places → Block → ℕ
place c p (Frame a) = p.frame a
place c p (Scratch a) = p.scratch a
place c p (Object n) = p.object n
place c p (Constant r k) = 4 * c.constant r k

-- the word of a value
abbrev pub word : Context → Places → Value → ℕ
word c p (Number z) = word_of z
word c p (Address block offset) = place c p block + offset
word c p (Routine r) = 4 * c.entry r

-- -2147483648 to 2147483647
abbrev pub IsNumber : ℤ → Type 0
IsNumber z = (neg_ℤ (pos NUMBER_LIMIT) ≤ℤ z) × (z ≤ℤ pos (NUMBER_LIMIT - 1))

-- a name that was assigned
abbrev pub IsNamed : Places → Block → Type 0
IsNamed p (Frame a) = a < p.activations
IsNamed p (Scratch a) = a < p.activations
IsNamed p (Object n) = n < p.objects
IsNamed p (Constant r k) = Unit {0}

abbrev pub IsValue : Context → Places → Value → Type 0
IsValue c p (Number z) = IsNumber z
IsValue c p (Address block offset) = IsNamed p block × (offset < BLOCK_LIMIT)
IsValue c p (Routine r) = r < length (routines c.code)

-- q assigns more names and keeps the addresses of those of p
pub record Grown (p q : Places) : Type 0 where
  pub activations : p.activations ≤ q.activations
  pub objects : p.objects ≤ q.objects
  pub frame : (a : ℕ) → a < p.activations → q.frame a ≡ p.frame a
  pub scratch : (a : ℕ) → a < p.activations → q.scratch a ≡ p.scratch a
  pub object : (n : ℕ) → n < p.objects → q.object n ≡ p.object n

-- all addresses are those of a load
pub record AreLow (p : Places) : Type 0 where
  pub frame : (a : ℕ) → p.frame a < ADDRESSES
  pub scratch : (a : ℕ) → p.scratch a < ADDRESSES
  pub object : (n : ℕ) → p.object n < ADDRESSES

-- ---- the layout

-- Offsets rise from the link to the end of what is used. A program's routine keeps bytes 8 to 276 free for operands,
-- the frame of a run-time routine that it calls, and in the program block's frame the stack's limit (268) and the next
-- address of the heap (272).
pub record IsLaid (c : Context) : Type 0 where
  pub link : (r : ℕ) → c.link_at r + 4 ≤ c.slots_at r
  pub slots : (r t k : ℕ) → home c r t ≡ Slot k → slot_at c r k + 4 ≤ c.frame_at r
  pub slots_before : (r : ℕ) → c.slots_at r ≤ c.frame_at r
  pub frame : (r : ℕ) (routine : TacRoutine) → slice_get (routines c.code) r ≡ Some routine → (routine.frame % 4 ≡ 0)
      × (c.frame_at r + routine.frame ≤ c.scratch_at r)
  pub scratch : (r : ℕ) (routine : TacRoutine) → slice_get (routines c.code) r ≡ Some routine
      → (routine.scratch % 4 ≡ 0) × (c.scratch_at r + routine.scratch ≤ c.used r)
  pub frame_before : (r : ℕ) → c.frame_at r ≤ c.scratch_at r
  pub scratch_before : (r : ℕ) → c.scratch_at r ≤ c.used r
  pub aligned : (r : ℕ) → (c.link_at r % 4 ≡ 0) × (c.slots_at r % 4 ≡ 0) × (c.frame_at r % 4 ≡ 0)
      × (c.scratch_at r % 4 ≡ 0)
  pub whole : (r : ℕ) → c.costs r % 4 ≡ 0
  pub program : (r : ℕ) → is_program c r ≡ true → (c.link_at r ≡ 0) × (276 ≤ c.slots_at r) × (c.used r ≤ c.costs r)
  pub leaf : (r : ℕ) → is_program c r ≡ false → (8 ≤ c.link_at r) × (c.used r ≤ 268)
  pub first : is_program c 0 ≡ true
  pub bottom : c.bottom + c.costs 0 ≡ c.size
  pub order : (4 ≤ c.heap_at) × (c.heap_at ≤ c.base) × (c.base ≤ c.size) × (c.size ≤ MAX_MEMORY)
  pub even : (c.heap_at % 4 ≡ 0) × (c.base % 4 ≡ 0) × (c.size % 4 ≡ 0)
  pub constants : (r k : ℕ) → 4 * c.constant r k ≤ c.heap_at
