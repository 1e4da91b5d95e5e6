-- Two parts of one block that are as deep are the same, or lie apart.
use Rattle.std.proofs.Common.{◌≡◌, ◌⊎◌, inl, inr, ℕ, zero, suc, ◌+◌, ◌*◌, ◌<◌, ◌≤◌, List, [], ◌∷◌, slice_get, Option}
use Rattle.std.proofs.Common.{Some, refl, sym, ap, ◌∙◌, subst, arith, mul-le-mul_right}
use Rattle.std.proofs.lemmas.Bool.{cases_order}
use Rattle.ps_tree.specs.Tree.{Program, routine_at, domain_at}
use Rattle.tac_code.specs.declared.code.Block.{Block}
use Rattle.tac_code.specs.declared.code.Block.TheVariants.{Frame as FrameBlock, Object as ObjectBlock}
use Rattle.ps_meaning.specs.Values.{Root, Declared, Made, Spot}
use Rattle.ps_meaning.specs.Worlds.{World}
use Rattle.tac_code_steps.proofs.Pieces.{same_some, some_none}
use Rattle.ps_lower_layout.specs.Shapes.{Shape, NumberShape, PointerShape, SetShape, ByteShape, ArrayShape}
use Rattle.ps_lower_layout.specs.Shapes.{RecordShape, Shapes, no_shape, shape_before, shape_of, word_count, byte_count}
use Rattle.ps_lower_layout.specs.Shapes.{field_shape, words_before, Whole}
use Rattle.ps_lower_layout.specs.Paths.{PathIn}
use Rattle.ps_lower_layout.specs.Frames.{Kind, Own, kind_words, entries, places_from}
use Rattle.ps_lower_relation.specs.Ghosts.{Slot, OwnSlot, Ghost, slot_kind, slot_kinds, layout_at, found, DeclaredAt}
use Rattle.ps_lower_relation.specs.Ghosts.{ObjectAt, RootAt, PlaceAt, Holds}
use Rattle.ps_lower_relation.proofs.Spans.{whole_same, byte_whole}
use Rattle.ps_lower_relation.proofs.Places.{path_within}
use Rattle.ps_lower_relation.proofs.Memory.{ghost_fits}

-- stretches of this many bytes
abbrev pub SameOrApart : (i j count : ℕ) → Type 0
SameOrApart i j n = (i ≡ j) ⊎ ((i + n ≤ j) ⊎ (j + n ≤ i))

-- Two parts of one block are the same, or lie apart.
abbrev pub Beside : (x y : Shape) → (i j : ℕ) → Type 0
Beside x y i j = ((x ≡ y) × (i ≡ j)) ⊎ ((i + byte_count x ≤ j) ⊎ (j + byte_count y ≤ i))

moved : (x y : Shape) (a b i j : ℕ) → a ≡ b → Beside x y i j → Beside x y (a + i) (b + j)
moved x y a b i j e (inl h) = let f = h.1 in inl (h.0, omega (arith, e, f))
moved x y a b i j e (inr (inl h)) = inr (inl (omega (arith, e, h)))
moved x y a b i j e (inr (inr h)) = inr (inr (omega (arith, e, h)))

-- ---- how deep parts lie in one another

abbrev mutual
  pub depth : Shape → ℕ
  depth (NumberShape first narrow) = 0
  depth (PointerShape t) = 0
  depth SetShape = 0
  depth (ByteShape count first) = 1
  depth (ArrayShape count shape) = suc (depth shape)
  depth (RecordShape shapes) = suc (depths shapes)

  pub depths : Shapes → ℕ
  depths no_shape = 0
  depths (shape_before shape rest) = depth shape + depths rest

field_depth : (shapes : Shapes) (k : ℕ) (shape : Shape) → field_shape shapes k ≡ Some shape
    → depth shape ≤ depths shapes
field_depth no_shape k shape e = some_none e
field_depth (shape_before s rest) zero shape e = let q = ap depth (same_some e) in omega (arith, q)
field_depth (shape_before s rest) (suc k) shape e = let r = field_depth rest k shape e in omega (arith, r)

path_depth : (path : List ℕ) (outer inner : Shape) (j : ℕ) → PathIn path outer (Whole inner) j
    → depth inner ≤ depth outer
path_depth [] outer inner j a = let q = ap depth (whole_same a.0) in omega (arith, q)
path_depth (k ∷ path) (NumberShape first narrow) inner j a = absurd a
path_depth (k ∷ path) (PointerShape t) inner j a = absurd a
path_depth (k ∷ path) SetShape inner j a = absurd a
path_depth (k ∷ []) (ByteShape count first) inner j a = byte_whole a.1
path_depth (k ∷ l ∷ path) (ByteShape count first) inner j a = absurd a
path_depth (k ∷ path) (ArrayShape count shape) inner j a = let r = path_depth path shape inner a.1.0 a.1.1 in omega
    (arith, r)
path_depth (k ∷ path) (RecordShape shapes) inner j a = let r = path_depth path a.0 inner a.2.0 a.2.1
    in let f = field_depth shapes k a.0 a.1 in omega (arith, r, f)

-- a part lies deeper than what it is a part of
path_deeper : (k : ℕ) (path : List ℕ) (outer inner : Shape) (j : ℕ) → PathIn (k ∷ path) outer (Whole inner) j
    → depth inner < depth outer
path_deeper k path (NumberShape first narrow) inner j a = absurd a
path_deeper k path (PointerShape t) inner j a = absurd a
path_deeper k path SetShape inner j a = absurd a
path_deeper k [] (ByteShape count first) inner j a = byte_whole a.1
path_deeper k (l ∷ path) (ByteShape count first) inner j a = absurd a
path_deeper k path (ArrayShape count shape) inner j a = let r = path_depth path shape inner a.1.0 a.1.1 in omega
    (arith, r)
path_deeper k path (RecordShape shapes) inner j a = let r = path_depth path a.0 inner a.2.0 a.2.1
    in let f = field_depth shapes k a.0 a.1 in omega (arith, r, f)

-- ---- within one variable

fields_before : (shapes : Shapes) (k l : ℕ) (s t : Shape) → field_shape shapes k ≡ Some s → field_shape shapes l
    ≡ Some t → k < l → words_before shapes k + word_count s ≤ words_before shapes l
fields_before no_shape k l s t e f h = some_none e
fields_before (shape_before shape rest) zero zero s t e f h = absurd (omega (arith, h))
fields_before (shape_before shape rest) zero (suc l) s t e f h = let q = ap word_count (same_some e) in omega (arith, q)
fields_before (shape_before shape rest) (suc k) zero s t e f h = absurd (omega (arith, h))
fields_before (shape_before shape rest) (suc k) (suc l) s t e f h = let r = fields_before rest k l s t e f
    (omega (arith, h)) in omega (arith, r)

module _ (x y : Shape) (even : depth x ≡ depth y) where
  paths_apart : (p q : List ℕ) (outer : Shape) (i j : ℕ) → PathIn p outer (Whole x) i → PathIn q outer (Whole y) j
      → Beside x y i j
  paths_apart [] [] outer i j a b = let e = a.1 in let f = b.1 in inl (whole_same (a.0 ∙ sym b.0), omega (arith, e, f))
  paths_apart [] (l ∷ q) outer i j a b =
      let n = ap depth (whole_same a.0) in
      let r = path_deeper l q outer y j b in
      absurd (omega (arith, n, r, even))
  paths_apart (k ∷ p) [] outer i j a b =
      let n = ap depth (whole_same b.0) in
      let r = path_deeper k p outer x i a in
      absurd (omega (arith, n, r, even))
  paths_apart (k ∷ p) (l ∷ q) (NumberShape first narrow) i j a b = absurd a
  paths_apart (k ∷ p) (l ∷ q) (PointerShape t) i j a b = absurd a
  paths_apart (k ∷ p) (l ∷ q) SetShape i j a b = absurd a
  paths_apart (k ∷ []) (l ∷ q) (ByteShape count first) i j a b = byte_whole a.1
  paths_apart (k ∷ m ∷ p) (l ∷ q) (ByteShape count first) i j a b = absurd a
  paths_apart (k ∷ p) (l ∷ q) (ArrayShape count shape) i j a b = go (cases_order k l)
      (paths_apart p q shape a.1.0 b.1.0 a.1.1 b.1.1)
    where
      go : (k ≡ l) ⊎ ((k < l) ⊎ (l < k)) → Beside x y a.1.0 b.1.0 → Beside x y i j
      go (inl e) deep =
          subst (λ z. Beside x y z j) (sym a.1.2)
          (subst (λ z. Beside x y (k * byte_count shape + a.1.0) z) (sym b.1.2)
          (moved x y (k * byte_count shape) (l * byte_count shape) a.1.0 b.1.0 (ap (λ z. z * byte_count shape) e) deep))
      go (inr (inl h)) deep =
          let e = a.1.2 in
          let f = b.1.2 in
          let r = path_within p shape (Whole x) a.1.0 a.1.1 in
          let product : suc k * word_count shape ≤ l * word_count shape = mul-le-mul_right (word_count shape) h in
          inr (inl (omega (arith, e, f, r, product)))
      go (inr (inr h)) deep =
          let e = a.1.2 in
          let f = b.1.2 in
          let r = path_within q shape (Whole y) b.1.0 b.1.1 in
          let product : suc l * word_count shape ≤ k * word_count shape = mul-le-mul_right (word_count shape) h in
          inr (inr (omega (arith, e, f, r, product)))
  paths_apart (k ∷ p) (l ∷ q) (RecordShape shapes) i j a b = go (cases_order k l)
      (λ one. paths_apart p q b.0 a.2.0 b.2.0 (subst (λ s. PathIn p s (Whole x) a.2.0) one a.2.1) b.2.1)
    where
      go : (k ≡ l) ⊎ ((k < l) ⊎ (l < k)) → (a.0 ≡ b.0 → Beside x y a.2.0 b.2.0) → Beside x y i j
      go (inl e) deep =
          let one : a.0 ≡ b.0 = same_some (sym a.1 ∙ ap (field_shape shapes) e ∙ b.1) in
          subst (λ z. Beside x y z j) (sym a.2.2)
          (subst (λ z. Beside x y (4 * words_before shapes k + a.2.0) z) (sym b.2.2)
          (moved x y (4 * words_before shapes k) (4 * words_before shapes l) a.2.0 b.2.0
          (ap (λ z. 4 * words_before shapes z) e) (deep one)))
      go (inr (inl h)) deep =
          let e = a.2.2 in
          let f = b.2.2 in
          let r = path_within p a.0 (Whole x) a.2.0 a.2.1 in
          let before = fields_before shapes k l a.0 b.0 a.1 b.1 h in
          inr (inl (omega (arith, e, f, r, before)))
      go (inr (inr h)) deep =
          let e = a.2.2 in
          let f = b.2.2 in
          let r = path_within q b.0 (Whole y) b.2.0 b.2.1 in
          let before = fields_before shapes l k b.0 a.0 b.1 a.1 h in
          inr (inr (omega (arith, e, f, r, before)))

-- ---- variables of one frame

places_above : (n : ℕ) (ks : List Kind) (j l : ℕ) → slice_get (places_from n ks) j ≡ Some l → n ≤ l
places_above n [] j l h = some_none h
places_above n (k ∷ ks) zero l h = let e = same_some h in omega (arith, e)
places_above n (k ∷ ks) (suc j) l h = let r = places_above (n + kind_words k) ks j l h in omega (arith, r)

places_up : (n : ℕ) (ks : List Kind) (i j k l : ℕ) (kind : Kind) → slice_get ks i ≡ Some kind → slice_get
    (places_from n ks) i ≡ Some k → slice_get (places_from n ks) j ≡ Some l → i < j → k + kind_words kind ≤ l
places_up n [] i j k l kind e f g h = some_none e
places_up n (x ∷ ks) i zero k l kind e f g h = absurd (omega (arith, h))
places_up n (x ∷ ks) zero (suc j) k l kind e f g h =
    let q = same_some f in
    let w = ap kind_words (same_some e) in
    let r = places_above (n + kind_words x) ks j l g in
    omega (arith, q, w, r)
places_up n (x ∷ ks) (suc i) (suc j) k l kind e f g h = places_up (n + kind_words x) ks i j k l kind e f g
    (omega (arith, h))

kind_there : (xs : List Slot) (i : ℕ) (x : Slot) → slice_get xs i ≡ Some x → slice_get (slot_kinds xs) i ≡ Some
    (slot_kind x)
kind_there [] i x h = some_none h
kind_there (y ∷ ys) zero x h = ap (λ z. Some (slot_kind z)) (same_some h)
kind_there (y ∷ ys) (suc i) x h = kind_there ys i x h

abbrev slot_shape : Shape → Option Slot → Shape
slot_shape s (Some (OwnSlot shape n)) = shape
slot_shape s _ = s

abbrev frame_number : Block → ℕ
frame_number (FrameBlock a) = a
frame_number _ = 0

abbrev object_number : Block → ℕ
object_number (ObjectBlock a) = a
object_number _ = 0

module _ (program : Program) (gs : List Ghost) (w : World) (count : ℕ) (holds : Holds program gs w count) where
  declared_apart : (v u : Shape) → depth v ≡ depth u → (m n : ℕ) (p q : List ℕ) (b : Block) (i j : ℕ)
      → DeclaredAt program gs w.made m p b i (Whole v) → DeclaredAt program gs w.made n q b j (Whole u) → Beside v u i j
  declared_apart v u even m n p q b i j x y = go (cases_order x.index y.index)
    where
      g : Ghost
      g = x.ghost

      same : g ≡ y.ghost
      same = same_some (sym x.there ∙ ap (λ c. found gs (frame_number c)) (sym x.block ∙ y.block) ∙ y.there)

      slot : slice_get g.slots y.index ≡ Some (OwnSlot y.shape n)
      slot = ap (λ h. slice_get h.slots y.index) same ∙ y.slot

      stands : slice_get (layout_at program g.routine).places y.index ≡ Some y.place
      stands = ap (λ h. slice_get (layout_at program h.routine).places y.index) same ∙ y.stands

      kinds : slot_kinds g.slots ≡ entries (routine_at program g.routine)
      kinds = (ghost_fits program w.made w.store gs g.number g holds.fits x.there).0

      up : (a b k l : ℕ) (shape : Shape) (name : ℕ) → slice_get g.slots a ≡ Some (OwnSlot shape name) → slice_get
          (layout_at program g.routine).places a ≡ Some k → slice_get (layout_at program g.routine).places b ≡ Some l
          → a < b → k + word_count shape ≤ l
      up a b k l shape name s e f h = places_up 1 (entries (routine_at program g.routine)) a b k l (Own shape)
          (ap (λ ks. slice_get ks a) (sym kinds) ∙ kind_there g.slots a (OwnSlot shape name) s) e f h

      go : (x.index ≡ y.index) ⊎ ((x.index < y.index) ⊎ (y.index < x.index)) → Beside v u i j
      go (inl e) =
          let shapes : x.shape ≡ y.shape = ap (slot_shape x.shape) (sym x.slot ∙ ap (slice_get g.slots) e ∙ slot) in
          let places : x.place ≡ y.place = same_some
          (sym x.stands ∙ ap (slice_get (layout_at program g.routine).places) e ∙ stands) in
          subst (λ z. Beside v u z j) (sym x.offset)
          (subst (λ z. Beside v u (4 * x.place + x.inner) z) (sym y.offset)
          (moved v u (4 * x.place) (4 * y.place) x.inner y.inner (ap (λ z. 4 * z) places)
          (paths_apart v u even p q y.shape x.inner y.inner
          (subst (λ s. PathIn p s (Whole v) x.inner) shapes x.inside) y.inside)))
      go (inr (inl h)) =
          let e = x.offset in
          let f = y.offset in
          let r = path_within p x.shape (Whole v) x.inner x.inside in
          let l = up x.index y.index x.place y.place x.shape m x.slot x.stands stands h in
          inr (inl (omega (arith, e, f, r, l)))
      go (inr (inr h)) =
          let e = x.offset in
          let f = y.offset in
          let r = path_within q y.shape (Whole u) y.inner y.inside in
          let l = up y.index x.index y.place x.place y.shape n slot stands x.stands h in
          inr (inr (omega (arith, e, f, r, l)))

  object_apart : (v u : Shape) → depth v ≡ depth u → (m n : ℕ) (p q : List ℕ) (b : Block) (i j : ℕ)
      → ObjectAt program gs w.made m p b i (Whole v) → ObjectAt program gs w.made n q b j (Whole u) → Beside v u i j
  object_apart v u even m n p q b i j x y =
      let same : x.pointer ≡ y.pointer = same_some
      (sym x.of_type ∙ ap (λ c. slice_get w.made (object_number c)) (sym x.block ∙ y.block) ∙ y.of_type) in
      paths_apart v u even p q (shape_of (domain_at program y.pointer)) i j
      (subst (λ t. PathIn p (shape_of (domain_at program t)) (Whole v) i) same x.inside) y.inside

  roots_apart : (v u : Shape) → depth v ≡ depth u → (r s : Root) (p q : List ℕ) (b : Block) (i j : ℕ)
      → RootAt program gs w.made r p b i (Whole v) → RootAt program gs w.made s q b j (Whole u) → Beside v u i j
  roots_apart v u even (Declared m) (Declared n) p q b i j x y = declared_apart v u even m n p q b i j x y
  roots_apart v u even (Made m) (Made n) p q b i j x y = object_apart v u even m n p q b i j x y
  roots_apart v u even (Declared m) (Made n) p q b i j x y = let e : FrameBlock x.ghost.number
      ≡ ObjectBlock n = sym x.block ∙ y.block in absurd (cc)
  roots_apart v u even (Made m) (Declared n) p q b i j x y = let e : ObjectBlock m
      ≡ FrameBlock y.ghost.number = sym x.block ∙ y.block in absurd (cc)

  -- the same for what spots denote: parts that are as deep
  pub places_beside : (v u : Shape) → depth v ≡ depth u → (s t : Spot) (b : Block) (i j : ℕ)
      → PlaceAt program gs w.made s b i (Whole v) → PlaceAt program gs w.made t b j (Whole u) → Beside v u i j
  places_beside v u even s t b i j x y = roots_apart v u even s.root t.root s.path t.path b i j x y

  -- and parts of one shape
  pub places_apart : (s t : Spot) (b : Block) (i j : ℕ) (inner : Shape) → PlaceAt program gs w.made s b i (Whole inner)
      → PlaceAt program gs w.made t b j (Whole inner) → SameOrApart i j (byte_count inner)
  places_apart s t b i j inner x y = go (places_beside inner inner refl s t b i j x y)
    where
      go : Beside inner inner i j → SameOrApart i j (byte_count inner)
      go (inl h) = inl h.1
      go (inr h) = inr h
