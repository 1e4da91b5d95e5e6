-- Places one step further, and where they end.
use Rattle.std.proofs.Common.{◌≡◌, ℕ, suc, ◌+◌, ◌-◌, ◌*◌, ◌<◌, ◌≤◌, List, [], ◌∷◌, ◌++◌, length, slice_get, Some, refl}
use Rattle.std.proofs.Common.{ap, subst, arith, mul-le-mul_right}
use Rattle.ps_tree.specs.Tree.{Program, routine_at, domain_at}
use Rattle.tac_code.specs.declared.code.Block.{Block}
use Rattle.tac_code.specs.declared.code.Block.TheVariants.{Object}
use Rattle.tac_code.specs.declared.code.TheConstants.{BLOCK_LIMIT}
use Rattle.ps_meaning.specs.Values.{Root, Declared, Made, Spot, entire, step}
use Rattle.ps_meaning.specs.Worlds.{World}
use Rattle.tac_code_steps.proofs.Pieces.{some_none}
use Rattle.ps_lower_layout.specs.Shapes.{Shape, NumberShape, PointerShape, SetShape, ByteShape, ArrayShape}
use Rattle.ps_lower_layout.specs.Shapes.{RecordShape, shape_of, word_count, byte_count, component_bytes, field_offset}
use Rattle.ps_lower_layout.specs.Shapes.{field_part, Part, Whole, Byte, component_part}
use Rattle.ps_lower_layout.specs.Paths.{PathIn}
use Rattle.ps_lower_layout.specs.Frames.{entries}
use Rattle.ps_lower_layout.proofs.Counted.{counted}
use Rattle.ps_lower_code.specs.Fits.{CountIs}
use Rattle.ps_lower_relation.specs.Ghosts.{Ghost, Slot, OwnSlot, slot_kinds, slot_words, layout_at, pieces, RootAt}
use Rattle.ps_lower_relation.specs.Ghosts.{PlaceAt, Holds}
use Rattle.ps_lower_relation.specs.Here.{AreSmall}
use Rattle.ps_lower_relation.proofs.Spans.{field_within, whole_same, byte_whole}
use Rattle.ps_lower_relation.proofs.Pieces.{piece_at, pieces_placed}
use Rattle.ps_lower_relation.proofs.Writes.{placed_piece}
use Rattle.ps_lower_relation.proofs.Memory.{ghost_fits}

-- ---- paths

pub path_more : (path : List ℕ) (outer middle : Shape) (part : Part) (k j i : ℕ) → PathIn path outer (Whole middle) j
    → PathIn (k ∷ []) middle part i → PathIn (path ++ k ∷ []) outer part (j + i)
path_more [] outer middle part k j i a b =
    let z = a.1 in
    let e : i ≡ j + i = omega (arith, z) in
    subst (λ s. PathIn (k ∷ []) s part (j + i)) (whole_same a.0) (subst (PathIn (k ∷ []) middle part) e b)
path_more (l ∷ path) (NumberShape first narrow) middle part k j i a b = absurd a
path_more (l ∷ path) (PointerShape t) middle part k j i a b = absurd a
path_more (l ∷ path) SetShape middle part k j i a b = absurd a
path_more (l ∷ []) (ByteShape count first) middle part k j i a b = byte_whole a.1
path_more (l ∷ l' ∷ path) (ByteShape count first) middle part k j i a b = absurd a
path_more (l ∷ path) (ArrayShape count shape) middle part k j i a b = let e = a.1.2
    in (a.0, (a.1.0 + i, path_more path shape middle part k a.1.0 i a.1.1 b, omega (arith, e)))
path_more (l ∷ path) (RecordShape shapes) middle part k j i a b = let e = a.2.2
    in (a.0, a.1, (a.2.0 + i, path_more path a.0 middle part k a.2.0 i a.2.1 b, omega (arith, e)))

abbrev pub part_bytes : Part → ℕ
part_bytes (Whole shape) = byte_count shape
part_bytes Byte = 1

-- a part ends within the variable
pub path_within : (path : List ℕ) (outer : Shape) (part : Part) (j : ℕ) → PathIn path outer part j → j
    + part_bytes part ≤ byte_count outer
path_within [] outer part j a = let e = ap part_bytes a.0 in let z = a.1 in omega (arith, e, z)
path_within (l ∷ path) (NumberShape first narrow) part j a = absurd a
path_within (l ∷ path) (PointerShape t) part j a = absurd a
path_within (l ∷ path) SetShape part j a = absurd a
path_within (l ∷ []) (ByteShape count first) part j a = let b = a.0 in let e = ap part_bytes a.1 in let z = a.2 in omega
    (arith, b, e, z)
path_within (l ∷ l' ∷ path) (ByteShape count first) part j a = absurd a
path_within (l ∷ path) (ArrayShape count shape) part j a =
    let below = a.0 in
    let e = a.1.2 in
    let ih = path_within path shape part a.1.0 a.1.1 in
    let product : suc l * word_count shape ≤ count * word_count shape = mul-le-mul_right (word_count shape) below in
    omega (arith, e, ih, product)
path_within (l ∷ path) (RecordShape shapes) part j a =
    let e = a.2.2 in
    let ih = path_within path a.0 part a.2.0 a.2.1 in
    let inside = field_within shapes l a.0 a.1 in
    omega (arith, e, ih, inside)

-- a component of an array, and a field of a record
pub component_path : (shape : Shape) (k count : ℕ) → CountIs shape count → k < count → PathIn (k ∷ []) shape
    (component_part shape) (k * component_bytes shape)
component_path (NumberShape first narrow) k count c l = absurd c
component_path (PointerShape t) k count c l = absurd c
component_path SetShape k count c l = absurd c
component_path (ByteShape n first) k count c l = (omega (arith, c, l), refl, omega arith)
component_path (ArrayShape n shape) k count c l = (omega (arith, c, l), (0, (refl, refl), omega arith))
component_path (RecordShape shapes) k count c l = absurd c

pub field_path : (shape : Shape) (k : ℕ) (inner : Shape) → field_part shape k ≡ Some inner → PathIn (k ∷ []) shape
    (Whole inner) (field_offset shape k)
field_path (NumberShape first narrow) k inner e = some_none e
field_path (PointerShape t) k inner e = some_none e
field_path SetShape k inner e = some_none e
field_path (ByteShape n first) k inner e = some_none e
field_path (ArrayShape n shape) k inner e = some_none e
field_path (RecordShape shapes) k inner e = (inner, e, (0, (refl, refl), omega arith))

-- ---- places

module _ (program : Program) (gs : List Ghost) where
  step_at : (made : List ℕ) (root : Root) (path : List ℕ) (b : Block) (o i k : ℕ) (shape : Shape) (part : Part)
      → RootAt program gs made root path b o (Whole shape) → PathIn (k ∷ []) shape part i → RootAt program gs made root
      (path ++ k ∷ []) b (o + i) part
  step_at made (Declared name) path b o i k shape part h a =
      let e = h.offset in
      record {
        ghost = h.ghost;
        index = h.index;
        shape = h.shape;
        place = h.place;
        inner = h.inner + i;
        block = h.block;
        there = h.there;
        slot = h.slot;
        stands = h.stands;
        inside = path_more path h.shape shape part k h.inner i h.inside a;
        offset = omega (arith, e);
      }
  step_at made (Made object) path b o i k shape part h a = record {
    pointer = h.pointer;
    block = h.block;
    of_type = h.of_type;
    inside = path_more path (shape_of (domain_at program h.pointer)) shape part k o i h.inside a;
  }

  -- one step further
  pub place_step : (made : List ℕ) (s : Spot) (b : Block) (o i k : ℕ) (shape : Shape) (part : Part)
      → PlaceAt program gs made s b o (Whole shape) → PathIn (k ∷ []) shape part i → PlaceAt program gs made
      (step s k) b (o + i) part
  place_step made s b o i k shape part h a = step_at made s.root s.path b o i k shape part h a

  -- an object
  pub object_place : (made : List ℕ) (object pointer : ℕ) → slice_get made object ≡ Some pointer
      → PlaceAt program gs made (entire (Made object)) (Object object) 0 (Whole (shape_of (domain_at program pointer)))
  object_place made object pointer e = record { pointer = pointer; block = refl; of_type = e; inside = (refl, refl) }

  module _ (small : AreSmall program) (w : World) (count : ℕ) (holds : Holds program gs w count) where
    slot_within : (g : Ghost) (i k : ℕ) (x : Slot) → slot_kinds g.slots ≡ entries (routine_at program g.routine)
        → slice_get (layout_at program g.routine).places i ≡ Some k → slice_get g.slots i ≡ Some x → k + length
        (slot_words w.store x) ≤ (layout_at program g.routine).size
    slot_within g i k x e p h = placed_piece program (layout_at program g.routine).size (pieces program w g) (suc i)
        (record {
          place = k;
          words = slot_words w.store x;
        }) (pieces_placed program w g e) (piece_at w.store (layout_at program g.routine).places g.slots i k x p h)

    root_below : (root : Root) (path : List ℕ) (b : Block) (o : ℕ) (part : Part)
        → RootAt program gs w.made root path b o part → o + part_bytes part < BLOCK_LIMIT
    root_below (Declared name) path b o part at =
        let g = at.ghost in
        let kinds = (ghost_fits program w.made w.store gs g.number g holds.fits at.there).0 in
        let limit = slot_within g at.index at.place (OwnSlot at.shape name) kinds at.stands at.slot in
        let wide = counted at.shape (w.store name) in
        let inside = path_within path at.shape part at.inner at.inside in
        let off = at.offset in
        let size = small.frames g.routine in
        omega (arith, limit, wide, inside, off, size)
    root_below (Made object) path b o part at =
        let inside = path_within path (shape_of (domain_at program at.pointer)) part o at.inside in
        let size = small.objects at.pointer in
        omega (arith, inside, size)

    -- each place ends below 2 ^ 31, so that its offset can be an address
    pub place_end : (s : Spot) (b : Block) (o : ℕ) (part : Part) → PlaceAt program gs w.made s b o part → o
        + part_bytes part < BLOCK_LIMIT
    place_end s b o part at = root_below s.root s.path b o part at

    pub place_below : (s : Spot) (b : Block) (o : ℕ) (part : Part) → PlaceAt program gs w.made s b o part
        → o < BLOCK_LIMIT
    place_below s b o part at = let l = place_end s b o part at in omega (arith, l)
