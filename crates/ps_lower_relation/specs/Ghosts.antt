-- What the machine's memory represents: for each open activation the names of its variables, and what its words are.
use Rattle.std.specs.Prelude.{◌≡◌, ℕ, suc, ◌+◌, ◌*◌, ◌<◌, ◌≤◌, ℤ, pos, negsuc, Bool, true, false, ◌&&◌, nat_eq}
use Rattle.std.specs.Prelude.{if◌then◌else◌, List, [], ◌∷◌, length, drop, replicate, slice_get, Option, Some, None}
use Rattle.std.specs.List.{All}
use Rattle.ps_tree.specs.Tree.{Program, routine_at, domain_at}
use Rattle.tac_code.specs.declared.code.Block.{Block}
use Rattle.tac_code.specs.declared.code.Block.TheVariants.{Frame as FrameBlock, Object}
use Rattle.tac_code.specs.declared.code.Value.{Value as Word}
use Rattle.tac_code.specs.declared.code.Value.TheVariants.{Number, Address, Routine as RoutineWord}
use Rattle.tac_code.specs.Memory.{Words, Living}
use Rattle.tac_code.specs.Meaning.{Tape}
use Rattle.ps_meaning.specs.Values.{Value, Root, Declared, Made, Spot, entire}
use Rattle.ps_meaning.specs.Text.{Input, is_empty}
use Rattle.ps_meaning.specs.Worlds.{Env, Outside, Within, Frame, no_entry, variable_before, routine_before, World}
use Rattle.tac_code_steps.specs.Splices.{Piece, placed}
use Rattle.ps_lower_layout.specs.Shapes.{Shape, shape_of, Part, Whole}
use Rattle.ps_lower_layout.specs.Words.{value_words}
use Rattle.ps_lower_layout.specs.Paths.{PathIn, HasShape}
use Rattle.ps_lower_layout.specs.Frames.{Kind, Own, Reference, Closure, Kinds, kinds_of, result_shape, entries, Layout}
use Rattle.ps_lower_layout.specs.Frames.{layout_of, is_program_block}
use Rattle.ps_lower_code.specs.Fits.{tail}

-- an entry of a frame: a variable of its own, under its name; the address of another; a routine, with the address of
-- the frame that it was declared in
pub data Slot : Type 0 where
  OwnSlot : Shape → (name : ℕ) → Slot
  ReferenceSlot : Shape → Block → (offset : ℕ) → Slot
  ClosureSlot : Kinds → (result : Option Shape) → (routine : ℕ) → (link : Word) → Slot

-- an open activation: its number, its routine, its static link, the first name that it declared, and its entries
pub record Ghost : Type 0 where
  pub number : ℕ
  pub routine : ℕ
  pub link : Word
  pub base : ℕ
  pub slots : List Slot

abbrev pub slot_kind : Slot → Kind
slot_kind (OwnSlot shape n) = Own shape
slot_kind (ReferenceSlot shape b o) = Reference shape
slot_kind (ClosureSlot kinds result r w) = Closure kinds result

abbrev pub slot_kinds : List Slot → List Kind
slot_kinds [] = []
slot_kinds (x ∷ xs) = slot_kind x ∷ slot_kinds xs

abbrev pub slot_words : (ℕ → Value) → Slot → Words
slot_words store (OwnSlot shape n) = value_words shape (store n)
slot_words store (ReferenceSlot shape b o) = Some (Address b o) ∷ []
slot_words store (ClosureSlot kinds result r w) = Some (RoutineWord r) ∷ Some w ∷ []

-- ---- the input: what was taken ahead of the program itself

-- -2 where nothing was, -1 where the end was, else the byte
abbrev pub first_or_end : List ℕ → ℤ
first_or_end [] = negsuc 0
first_or_end (b ∷ rest) = pos b

abbrev pub ahead : Input → ℤ
ahead i = if i.looked then first_or_end i.left else negsuc 1

-- 1 if a line was begun and not ended
abbrev pub begun : Input → ℤ
begun i = if i.in_line then pos 1 else pos 0

abbrev pub input_words : Input → Words
input_words i = Some (Number (ahead i)) ∷ Some (Number (begun i)) ∷ []

abbrev pub tape_of : Input → (transcript : List ℕ) → Tape
tape_of i transcript = record {
  input = if i.looked then drop 1 i.left else i.left;
  ended = i.looked && is_empty i.left;
  transcript = transcript;
}

-- ---- the machine's memory is a function of the ghosts and of the world

-- The program block's frame has the words of the input instead of a static link.
abbrev pub first_piece : Layout → (is_program : Bool) → Input → Word → Piece
first_piece layout true input link = record { place = layout.input; words = input_words input }
first_piece layout false input link = record { place = layout.link; words = Some link ∷ [] }

abbrev pub entry_pieces : (ℕ → Value) → (places : List ℕ) → List Slot → List Piece
entry_pieces store [] xs = []
entry_pieces store (k ∷ places) [] = []
entry_pieces store (k ∷ places) (x ∷ xs) = record {
  place = k;
  words = slot_words store x;
} ∷ entry_pieces store places xs

module _ (program : Program) where
  abbrev pub layout_at : ℕ → Layout
  layout_at r = layout_of (routine_at program r)

  abbrev pub pieces : World → Ghost → List Piece
  pieces w g =
      first_piece (layout_at g.routine) (is_program_block (routine_at program g.routine).chain) w.input g.link
      ∷ entry_pieces w.store (layout_at g.routine).places g.slots

  abbrev pub block_words : World → Ghost → Words
  block_words w g = placed (pieces w g) (replicate (layout_at g.routine).size None)

  abbrev pub frames_of : World → List Ghost → List Living
  frames_of w [] = []
  frames_of w (g ∷ gs) = record { number = g.number; words = block_words w g } ∷ frames_of w gs

  abbrev pub objects_of : (made : List ℕ) → List Value → List Words
  objects_of [] vs = []
  objects_of (t ∷ made) [] = []
  objects_of (t ∷ made) (v ∷ vs) = value_words (shape_of (domain_at program t)) v ∷ objects_of made vs

abbrev pub found : List Ghost → ℕ → Option Ghost
found [] a = None
found (g ∷ gs) a = if nat_eq g.number a then Some g else found gs a

-- ---- what holds between the two

-- own names are numbered consecutively from m up to n
abbrev pub SlotsFrom : List Slot → ℕ → ℕ → Type 0
SlotsFrom [] m n = m ≡ n
SlotsFrom (OwnSlot shape k ∷ xs) m n = (k ≡ m) × SlotsFrom xs (suc m) n
SlotsFrom (ReferenceSlot shape b o ∷ xs) m n = SlotsFrom xs m n
SlotsFrom (ClosureSlot kinds result r w ∷ xs) m n = SlotsFrom xs m n

-- names that an outer activation declared are below
abbrev pub Names : List Ghost → ℕ → Type 0
Names [] next = Unit {0}
Names (g ∷ gs) next = (n : ℕ) × SlotsFrom g.slots g.base n × (n ≤ next) × Names gs g.base

-- activations are numbered in ascending order
abbrev pub Numbered : List Ghost → ℕ → Type 0
Numbered [] count = Unit {0}
Numbered (g ∷ gs) count = (g.number < count) × Numbered gs g.number

abbrev pub SlotFits : (made : List ℕ) → (ℕ → Value) → Slot → Type 0
SlotFits made store (OwnSlot shape n) = HasShape made (store n) shape
SlotFits made store (ReferenceSlot shape b o) = Unit {0}
SlotFits made store (ClosureSlot kinds result r w) = Unit {0}

abbrev pub SlotsFit : (made : List ℕ) → (ℕ → Value) → List Slot → Type 0
SlotsFit made store [] = Unit {0}
SlotsFit made store (x ∷ xs) = SlotFits made store x × SlotsFit made store xs

module _ (program : Program) where
  -- only the first activation is of the program block
  abbrev pub OnlyFirst : List Ghost → Type 0
  OnlyFirst [] = Unit {0}
  OnlyFirst (g ∷ gs) = (is_program_block (routine_at program g.routine).chain ≡ true → g.number ≡ 0) × OnlyFirst gs

  -- each ghost has the entries of its routine, with values of their shapes
  abbrev pub GhostsFit : (made : List ℕ) → (ℕ → Value) → List Ghost → Type 0
  GhostsFit made store [] = Unit {0}
  GhostsFit made store (g ∷ gs) = (slot_kinds g.slots ≡ entries (routine_at program g.routine))
      × SlotsFit made store g.slots × GhostsFit made store gs

  abbrev pub ObjectsFit : (all made : List ℕ) → List Value → Type 0
  ObjectsFit all [] [] = Unit {0}
  ObjectsFit all [] (v ∷ vs) = ⊥
  ObjectsFit all (t ∷ made) [] = ⊥
  ObjectsFit all (t ∷ made) (v ∷ vs) = HasShape all v (shape_of (domain_at program t)) × ObjectsFit all made vs

  module _ (gs : List Ghost) (made : List ℕ) where
    -- a part of a variable that an activation declared, o bytes into its frame
    pub record DeclaredAt (name : ℕ) (path : List ℕ) (b : Block) (o : ℕ) (part : Part) : Type 0 where
      pub ghost : Ghost
      pub index : ℕ
      pub shape : Shape
      pub place : ℕ
      pub inner : ℕ
      pub block : b ≡ FrameBlock ghost.number
      pub there : found gs ghost.number ≡ Some ghost
      pub slot : slice_get ghost.slots index ≡ Some (OwnSlot shape name)
      pub stands : slice_get (layout_at program ghost.routine).places index ≡ Some place
      pub inside : PathIn path shape part inner
      pub offset : o ≡ 4 * place + inner

    -- a part of an object
    pub record ObjectAt (object : ℕ) (path : List ℕ) (b : Block) (o : ℕ) (part : Part) : Type 0 where
      pub pointer : ℕ
      pub block : b ≡ Object object
      pub of_type : slice_get made object ≡ Some pointer
      pub inside : PathIn path (shape_of (domain_at program pointer)) part o

    abbrev pub RootAt : Root → (path : List ℕ) → Block → ℕ → Part → Type 0
    RootAt (Declared name) path b o part = DeclaredAt name path b o part
    RootAt (Made object) path b o part = ObjectAt object path b o part

    -- the spot is at this address, and is such a part
    abbrev pub PlaceAt : Spot → Block → ℕ → Part → Type 0
    PlaceAt s b o part = RootAt s.root s.path b o part

    -- the address of a frame of this routine. The program block is the first activation.
    pub record FrameHere (w : Word) (r : ℕ) (chain : List ℕ) (FrameIs : List Slot → Type 0) (RestIs : Word → Type 0)
        : Type 0 where
      pub ghost : Ghost
      pub is : w ≡ Address (FrameBlock ghost.number) 0
      pub there : found gs ghost.number ≡ Some ghost
      pub routine : ghost.routine ≡ r
      pub frame : FrameIs ghost.slots
      pub rest : RestIs ghost.link
      pub outermost : chain ≡ [] → ghost.number ≡ 0
      pub linked : is_program_block (r ∷ chain) ≡ is_program_block (routine_at program r).chain

    -- a routine that can be called: its parameters and its result
    pub record RoutineHere (kinds : Kinds) (result : Option Shape) (r : ℕ) : Type 0 where
      pub within : r < length program.routines
      pub chain : (routine_at program r).chain ≡ r ∷ tail (routine_at program r).chain
      pub inner : is_program_block (routine_at program r).chain ≡ false
      pub same_kinds : kinds_of (routine_at program r).formals ≡ kinds
      pub same_result : result_shape (routine_at program r).result ≡ result

    abbrev mutual
      -- the environment's innermost frame is at w, and these are the routines of its frames
      pub EnvAt : Env → Word → List ℕ → Type 0
      EnvAt Outside w [] = Unit {0}
      EnvAt Outside w (r ∷ chain) = ⊥
      EnvAt (Within f env) w [] = ⊥
      EnvAt (Within f env) w (r ∷ chain) = FrameHere w r chain (λ slots. FrameAt f slots) (λ link. EnvAt env link chain)

      pub FrameAt : Frame → List Slot → Type 0
      FrameAt no_entry [] = Unit {0}
      FrameAt no_entry (x ∷ xs) = ⊥
      FrameAt (variable_before s f) [] = ⊥
      FrameAt (variable_before s f) (OwnSlot shape n ∷ xs) = (s ≡ entire (Declared n)) × FrameAt f xs
      FrameAt (variable_before s f) (ReferenceSlot shape b o ∷ xs) = PlaceAt s b o (Whole shape) × FrameAt f xs
      FrameAt (variable_before s f) (ClosureSlot kinds result r w ∷ xs) = ⊥
      FrameAt (routine_before r e f) [] = ⊥
      FrameAt (routine_before r e f) (OwnSlot shape n ∷ xs) = ⊥
      FrameAt (routine_before r e f) (ReferenceSlot shape b o ∷ xs) = ⊥
      FrameAt (routine_before r e f) (ClosureSlot kinds result r' w ∷ xs) = (r ≡ r') × RoutineHere kinds result r
          × EnvAt e w (tail (routine_at program r).chain) × FrameAt f xs

  -- the world and the ghosts agree
  pub record Holds (gs : List Ghost) (w : World) (count : ℕ) : Type 0 where
    pub fits : GhostsFit w.made w.store gs
    pub objects : ObjectsFit w.made w.made w.objects
    pub names : Names gs w.next
    pub numbered : Numbered gs count
    pub input : All (λ b. b < 256) w.input.left
