-- The laws of the relation: it holds at the start, and what the machine's words do preserves it.
use Rattle.std.specs.Prelude.{◌≡◌, ◌≢◌, ℕ, suc, ◌+◌, ◌-◌, ◌*◌, ◌/◌, ◌%◌, ◌≤◌, true, false, nat_lt, List, [], ◌∷◌}
use Rattle.std.specs.Prelude.{length, take, slice_get, Option, Some, None}
use Rattle.tac_code.specs.declared.code.Block.{Block}
use Rattle.tac_code.specs.declared.code.Value.{Value}
use Rattle.tac_code.specs.declared.code.TacRoutine.{TacRoutine}
use Rattle.tac_code.specs.Memory.{Memory, load, load_byte, store, store_byte}
use Rattle.tac_code.specs.Meaning.{routines, text_at, Activation, State, onward, giving, entered, made, is_full}
use Rattle.tac_code.specs.Meaning.{open_calls}
use Rattle.tac_code.specs.Run.{before}
use Rattle.risc_emit_relation.specs.Context.{Context, home, reads, IsPlaced, Passes, Writes, is_program, cost, Places}
use Rattle.risc_emit_relation.specs.Context.{place, word, IsValue, IsLaid}
use Rattle.risc_emit_relation.specs.Related.{Held, Machine, value_of, Related, started_places, Starting}
use Rattle.risc_emit_relation.specs.Changes.{update, Near, Settled, ConstantsStand, Loaded, ByteLoaded, Kept, IsStored}
use Rattle.risc_emit_relation.specs.Changes.{IsByteStored, entered_places, Entering, Leaving, left, made_places}
use Rattle.risc_emit_relation.specs.Changes.{advanced}
use Rattle.risc_emit_relation.specs.Walk.{walk}

-- ---- the start

-- after the entry of the program block, whose frame has room on the stack
abbrev pub RelatedStarts : Type 0
RelatedStarts =
    (c : Context) → IsLaid c → (G : ℕ → ℕ) (S H : ℕ) (input : List ℕ) (m : Machine) (routine : TacRoutine)
    → slice_get (routines c.code) 0 ≡ Some routine → c.base ≤ c.bottom → Starting c m
    → Related c (started_places c) (entered c.code c.costs G S H routine 0 [] 0 0 [] (before input)) m c.bottom

-- there is a placed program that the relation speaks of, with a run-time routine, at its start
abbrev pub RelationIsMet : Type 0
RelationIsMet =
    (c : Context) × IsLaid c × IsPlaced c × (is_program c 1 ≡ false) × (m : Machine) × ((input : List ℕ)
    → (s : State) × Related c (started_places c) s m c.bottom)

-- ---- steps within an activation

-- what is read at a place is in its home
abbrev pub OperandsStand : Type 0
OperandsStand =
    (c : Context) → IsLaid c → IsPlaced c → (p : Places) (s : State) (m : Machine) (f u : ℕ) (v : Value)
    → Related c p s m f → reads c s.current.routine s.current.place u ≡ true → s.current.temporaries u ≡ Some v
    → IsValue c p v × (value_of c s.current.routine f m (home c s.current.routine u) ≡ word c p v)

-- an instruction that writes no temporary goes on to a place
abbrev pub RelatedGoes : Type 0
RelatedGoes =
    (c : Context) → IsLaid c → IsPlaced c → (p : Places) (s : State) (m m' : Machine) (f k : ℕ)
    → Related c p s m f → Passes c s.current.routine s.current.place k → Near m m'
    → Related c p (record s { current = record s.current { place = k } }) m' f

-- an instruction that writes a temporary
abbrev pub RelatedGives : Type 0
RelatedGives =
    (c : Context) → IsLaid c → IsPlaced c → (p : Places) (s : State) (m m' : Machine) (f t : ℕ) (x : Value)
    → Related c p s m f → Writes c s.current.routine s.current.place t → IsValue c p x → Settled c s.current.routine f
    (home c s.current.routine t) (word c p x) m m'
    → Related c p (record s { current = giving t x s.current }) m' f

-- ---- loads and stores by address

abbrev pub LoadsFind : Type 0
LoadsFind =
    (c : Context) → IsLaid c → (p : Places) (s : State) (w : ℕ → ℕ) (f : ℕ) (block : Block) (offset : ℕ) (v : Value)
    → Held c p s w f → ConstantsStand c p w → load (text_at c.code) s.memory block offset ≡ Some v
    → Loaded c p w (place c p block + offset) v

abbrev pub BytesFound : Type 0
BytesFound =
    (c : Context) → IsLaid c → (p : Places) (s : State) (w : ℕ → ℕ) (f : ℕ) (block : Block) (offset byte : ℕ)
    → Held c p s w f → ConstantsStand c p w → load_byte (text_at c.code) s.memory block offset ≡ Some byte
    → ByteLoaded c p w (place c p block + 4 * (offset / 4)) (offset % 4) byte

-- a word stored through an address, into any live block
abbrev pub StoresKeep : Type 0
StoresKeep =
    (c : Context) → IsLaid c → (p : Places) (s : State) (m' : Memory) (w : ℕ → ℕ) (f : ℕ) (block : Block) (offset : ℕ)
    (v : Value)
    → Held c p s w f → IsValue c p v → store s.memory block offset v ≡ Some m'
    → Kept c p s m' w f (place c p block + offset) (IsStored offset v)

-- a byte: the word that holds it changes
abbrev pub ByteStoresKeep : Type 0
ByteStoresKeep =
    (c : Context) → IsLaid c → (p : Places) (s : State) (m' : Memory) (w : ℕ → ℕ) (f : ℕ) (block : Block)
    (offset byte : ℕ)
    → Held c p s w f → store_byte s.memory block offset byte ≡ Some m'
    → Kept c p s m' w f (place c p block + 4 * (offset / 4)) (IsByteStored (offset % 4) byte)

-- an instruction that stores by an address a value that Q relates to the old one
abbrev pub RelatedStoresBy : (Option Value → Value → Type 0) → Type 0
RelatedStoresBy Q =
    (c : Context) → IsLaid c → IsPlaced c → (p : Places) (s : State) (m m' : Machine) (f at : ℕ) (memory : Memory)
    → Related c p s m f → Passes c s.current.routine s.current.place (suc s.current.place)
    → (k : Kept c p s memory m.words f at Q)
    → ((q : ℕ) → q ≢ 12 → q ≢ 15 → m'.registers q ≡ m.registers q)
    → ((a : ℕ) → m'.words a ≡ update at (word c p k.value) m.words a)
    → Related c p (record s { current = onward s.current; memory = memory }) m' f

abbrev pub RelatedStores : Type 0
RelatedStores =
    ((offset : ℕ) (v : Value) → RelatedStoresBy (IsStored offset v))
    × ((k byte : ℕ) → RelatedStoresBy (IsByteStored k byte))

-- ---- calls and returns

-- into a routine of the program, or of the run-time library
abbrev pub RelatedEnters : Type 0
RelatedEnters =
    (c : Context) → IsLaid c → IsPlaced c → (p : Places) (G : ℕ → ℕ) (S H : ℕ) (s : State) (m m' : Machine)
    (f g q t line l : ℕ) (routine : TacRoutine) (values : List Value)
    → Related c p s m f → Entering c p s m m' f g q t line l routine values
    → Related c (entered_places c p s.count g q)
    (entered c.code c.costs G S H routine q values t line (onward s.current ∷ s.callers) s) m' g

abbrev pub RelatedLeaves : Type 0
RelatedLeaves =
    (c : Context) → IsLaid c → IsPlaced c → (p : Places) (s : State) (x : Activation) (xs : List Activation)
    (m m' : Machine) (f : ℕ) (v : Value)
    → Related c p s m f → s.callers ≡ x ∷ xs → Leaving c p s x m m' (f + cost c s.current.routine) v
    → Related c p (left v x xs s) m' (f + cost c s.current.routine)

-- ---- objects

abbrev pub RelatedMakes : Type 0
RelatedMakes =
    (c : Context) → IsLaid c → IsPlaced c → (p : Places) (G : ℕ → ℕ) (S H : ℕ) (s : State) (m m' : Machine)
    (f t type bytes : ℕ)
    → Related c p s m f → bytes % 4 ≡ 0 → G type % 4 ≡ 0 → bytes ≤ G type → 4 ≤ G type → c.heap_at + s.heap
    + G type ≤ c.base
    → Writes c s.current.routine s.current.place t
    → Settled c s.current.routine f (home c s.current.routine t) (c.heap_at + s.heap)
    (advanced c m (c.heap_at + s.heap + G type)) m'
    → Related c (made_places p (length s.memory.objects) (c.heap_at + s.heap))
    (made c.code c.costs G S H t type bytes s) m' f

-- ---- open calls and budgets

-- from R14 the walk finds the lines of the open calls, inside a run-time routine too
abbrev pub WalkIsOpenCalls : Type 0
WalkIsOpenCalls =
    (c : Context) → IsLaid c → (p : Places) → c.line 0 ≡ None → (n : ℕ) (s : State) (m : Machine) (f : ℕ)
    → Related c p s m f
    → walk c.line c.size n m.words (m.registers 14) ≡ take n (open_calls (length c.code.program) s.current s.callers)

-- the stack's budget is exceeded if and only if the new frame would begin below its base
abbrev pub StackIsExact : Type 0
StackIsExact =
    (c : Context) → IsLaid c → (p : Places) (G : ℕ → ℕ) (S H : ℕ) (s : State) (w : ℕ → ℕ) (f q : ℕ)
    → S + c.base ≡ c.size → Held c p s w f → is_program c q ≡ true
    → is_full c.code c.costs G S H q (onward s.current ∷ s.callers) ≡ nat_lt f (c.base + c.costs q)

-- the heap's if and only if the object would end above the base of the stack
abbrev pub HeapIsExact : Type 0
HeapIsExact =
    (c : Context) → IsLaid c → (p : Places) (H : ℕ) (s : State) (w : ℕ → ℕ) (f more : ℕ)
    → H + c.heap_at ≡ c.base → Held c p s w f
    → nat_lt H (s.heap + more) ≡ nat_lt (c.base - (c.heap_at + s.heap)) more
