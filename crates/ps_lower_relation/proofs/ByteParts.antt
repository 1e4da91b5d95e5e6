-- Components of packed arrays whose components are bytes.
use Rattle.std.proofs.Common.{◌≡◌, ℕ, zero, suc, ◌+◌, ◌*◌, ◌/◌, ◌%◌, ◌<◌, ℤ, pos, negsuc, unsigned_abs, int_le, Bool}
use Rattle.std.proofs.Common.{true, false, ◌&&◌, IsTrue, List, [], ◌∷◌, ◌++◌, Option, Some, None, slice_get, refl, sym}
use Rattle.std.proofs.Common.{ap, ◌∙◌, subst, arith, leb-true}
use Rattle.ps_tree.proofs.Booleans.{and_second}
use Rattle.ps_tree.specs.Tree.{Program, domain_at}
use Rattle.tac_code.specs.declared.code.Block.{Block}
use Rattle.tac_code.specs.Memory.{Words, Living, Memory, Constants, known, byte_in, byte_value_in, value_in, words_in}
use Rattle.tac_code.specs.Memory.{load, load_byte}
use Rattle.ps_meaning.specs.Values.{Value, OrdinalValue, NilValue, ObjectValue, SetValue, StructureValue, Values}
use Rattle.ps_meaning.specs.Values.{no_value, value_before, nth, values_from, components_of, component, part, Root}
use Rattle.ps_meaning.specs.Values.{Declared, Made, Spot, number_of}
use Rattle.ps_meaning.specs.Operators.{is_between}
use Rattle.ps_meaning.specs.Worlds.{World, value_at_root, contents_in}
use Rattle.tac_code_steps.proofs.Blocks.{word_read}
use Rattle.ps_meaning.specs.Statements.{characters}
use Rattle.tac_code_steps.proofs.Pieces.{some_none}
use Rattle.ps_lower_layout.specs.Shapes.{Shape, NumberShape, PointerShape, SetShape, ByteShape, ArrayShape}
use Rattle.ps_lower_layout.specs.Shapes.{RecordShape, shape_of, word_count, byte_count, words_before, Whole, Byte}
use Rattle.ps_lower_layout.specs.Words.{byte_of, bytes_of}
use Rattle.ps_lower_layout.specs.Paths.{PathIn, AreByteValues, HasShape}
use Rattle.ps_lower_relation.specs.Ghosts.{Ghost, RootAt, PlaceAt, Holds}
use Rattle.ps_lower_relation.proofs.Bytes.{AreBytes, bytes_read}
use Rattle.ps_lower_relation.proofs.Spans.{nth_from, byte_whole}
use Rattle.ps_lower_relation.proofs.Spots.{memory_of, spot_value, spot_read}

part_more : (v : Value) (path : List ℕ) (k : ℕ) → part v (path ++ k ∷ []) ≡ component (part v path) k
part_more v [] k = refl
part_more v (l ∷ path) k = part_more (component v l) path k

-- ---- the array of a byte

pub record ByteIn (path : List ℕ) (outer : Shape) (j : ℕ) : Type 0 where
  pub before : List ℕ
  pub number : ℕ
  pub count : ℕ
  pub first : ℤ
  pub start : ℕ
  pub is : path ≡ before ++ number ∷ []
  pub inside : PathIn before outer (Whole (ByteShape count first)) start
  pub below : number < count
  pub at : j ≡ start + number

whole_byte : {s : Shape} {A : Type 0} → Byte ≡ Whole s → A
whole_byte e = absurd (cc)

byte_in_path : (path : List ℕ) (outer : Shape) (j : ℕ) → PathIn path outer Byte j → ByteIn path outer j
byte_in_path [] outer j a = whole_byte a.0
byte_in_path (k ∷ path) (NumberShape first narrow) j a = absurd a
byte_in_path (k ∷ path) (PointerShape t) j a = absurd a
byte_in_path (k ∷ path) SetShape j a = absurd a
byte_in_path (k ∷ []) (ByteShape count first) j a = let e = a.2 in record {
  before = [];
  number = k;
  count = count;
  first = first;
  start = 0;
  is = refl;
  inside = (refl, refl);
  below = a.0;
  at = omega (arith, e);
}
byte_in_path (k ∷ l ∷ path) (ByteShape count first) j a = absurd a
byte_in_path (k ∷ path) (ArrayShape count shape) j a =
    let r = byte_in_path path shape a.1.0 a.1.1 in
    let e = a.1.2 in
    let q = r.at in
    record {
      before = k ∷ r.before;
      number = r.number;
      count = r.count;
      first = r.first;
      start = k * byte_count shape + r.start;
      is = ap (λ l. k ∷ l) r.is;
      inside = (a.0, (r.start, r.inside, refl));
      below = r.below;
      at = omega (arith, e, q);
    }
byte_in_path (k ∷ path) (RecordShape shapes) j a =
    let r = byte_in_path path a.0 a.2.0 a.2.1 in
    let e = a.2.2 in
    let q = r.at in
    record {
      before = k ∷ r.before;
      number = r.number;
      count = r.count;
      first = r.first;
      start = 4 * words_before shapes k + r.start;
      is = ap (λ l. k ∷ l) r.is;
      inside = (a.0, a.1, (r.start, r.inside, refl));
      below = r.below;
      at = omega (arith, e, q);
    }

-- whole parts begin at words
aligned : (path : List ℕ) (outer inner : Shape) (j : ℕ) → PathIn path outer (Whole inner) j → (m : ℕ) × (j ≡ 4 * m)
aligned [] outer inner j a = let e = a.1 in (0, omega (arith, e))
aligned (k ∷ path) (NumberShape first narrow) inner j a = absurd a
aligned (k ∷ path) (PointerShape t) inner j a = absurd a
aligned (k ∷ path) SetShape inner j a = absurd a
aligned (k ∷ []) (ByteShape count first) inner j a = byte_whole a.1
aligned (k ∷ l ∷ path) (ByteShape count first) inner j a = absurd a
aligned (k ∷ path) (ArrayShape count shape) inner j a = let r = aligned path shape inner a.1.0 a.1.1 in let e = a.1.2
    in let q = r.1 in (k * word_count shape + r.0, omega (arith, e, q))
aligned (k ∷ path) (RecordShape shapes) inner j a = let r = aligned path a.0 inner a.2.0 a.2.1 in let e = a.2.2
    in let q = r.1 in (words_before shapes k + r.0, omega (arith, e, q))

-- ---- bytes of values

pub byte_small : (v : Value) → byte_of v < 256
byte_small v = let n = unsigned_abs (number_of v) in omega arith

pub bytes_small : (n : ℕ) (vs : Values) → AreBytes (bytes_of n vs)
bytes_small zero vs k d l = absurd (omega (arith, l))
bytes_small (suc n) vs zero d l = byte_small (nth vs 0)
bytes_small (suc n) vs (suc k) d l = bytes_small n (values_from vs 1) k d (omega (arith, l))

bytes_get : (n k : ℕ) (vs : Values) → k < n → slice_get (bytes_of n vs) k ≡ Some (byte_of (nth vs k))
bytes_get zero k vs l = absurd (omega arith)
bytes_get (suc n) zero vs l = refl
bytes_get (suc n) (suc k) vs l = bytes_get n k (values_from vs 1) (omega (arith, l)) ∙ ap (λ v. Some (byte_of v))
    (nth_from vs k)

get_below : (n k : ℕ) (vs : Values) (byte : ℕ) → slice_get (bytes_of n vs) k ≡ Some byte → k < n
get_below zero k vs byte e = some_none e
get_below (suc n) zero vs byte e = omega arith
get_below (suc n) (suc k) vs byte e = let r = get_below n k (values_from vs 1) byte e in omega (arith, r)

-- the characters of a string's value
pub characters_bytes : (n : ℕ) (vs : Values) → AreByteValues n vs → characters vs ≡ bytes_of n vs
characters_bytes zero no_value h = refl
characters_bytes zero (value_before v vs) h = absurd h
characters_bytes (suc n) no_value h = absurd h
characters_bytes (suc n) (value_before v vs) h = ap (λ bs. byte_of v ∷ bs) (characters_bytes n vs h.1)

pub string_characters : (made : List ℕ) (n : ℕ) (first : ℤ) (v : Value) → HasShape made v (ByteShape n first)
    → characters (components_of v) ≡ bytes_of n (components_of v)
string_characters made n first (StructureValue vs) h = characters_bytes n vs h
string_characters made n first (OrdinalValue z) h = absurd h
string_characters made n first NilValue h = absurd h
string_characters made n first (ObjectValue z) h = absurd h
string_characters made n first (SetValue z) h = absurd h

byte_between : (n k : ℕ) (vs : Values) → AreByteValues n vs → k < n → IsTrue
    (is_between (pos 0) (number_of (nth vs k)) (pos 255))
byte_between zero k vs h l = absurd (omega arith)
byte_between (suc n) k no_value h l = absurd h
byte_between (suc n) zero (value_before v vs) h l = h.0
byte_between (suc n) (suc k) (value_before v vs) h l = byte_between n k vs h.1 (omega (arith, l))

-- a number of 0..255 is its byte
pub byte_number : (z : ℤ) → IsTrue (is_between (pos 0) z (pos 255)) → z ≡ pos (unsigned_abs z % 256)
byte_number (pos n) h =
    let l = leb-true n 255 (and_second (int_le (pos 0) (pos n)) (int_le (pos n) (pos 255)) h) in
    let e : n ≡ n % 256 = omega (arith, l) in
    ap pos e
byte_number (negsuc n) h = absurd (cc)

-- ---- a byte of a block

pub byte_loaded : (constants : Constants) (m : Memory) (b : Block) (q r : ℕ) → r < 4 → load_byte constants m b
    (4 * q + r) ≡ byte_in (load constants m b (4 * q)) r
byte_loaded constants m b q r l = go (words_in constants m b)
  where
    go : (o : Option Words) → byte_value_in o (4 * q + r) ≡ byte_in (value_in o (4 * q)) r
    go None = refl
    go (Some ws) =
        let e : (4 * q + r) / 4 ≡ q = omega (arith, l) in
        let f : (4 * q + r) % 4 ≡ r = omega (arith, l) in
        ap (λ i. byte_in (known (slice_get ws i)) ((4 * q + r) % 4)) e ∙ ap (byte_in (known (slice_get ws q))) f
        ∙ ap (λ x. byte_in x r) (sym (word_read ws q))

module _ (program : Program) (w : World) (gs : List Ghost) (count : ℕ) (holds : Holds program gs w count) where
  -- the array of which a spot is a byte
  pub record ByteAt (root : Root) (path : List ℕ) (b : Block) (o : ℕ) : Type 0 where
    pub before : List ℕ
    pub number : ℕ
    pub length_ : ℕ
    pub first : ℤ
    pub start : ℕ
    pub is : path ≡ before ++ number ∷ []
    pub place : PlaceAt program gs w.made (record {
      root = root;
      path = before;
    }) b (4 * start) (Whole (ByteShape length_ first))
    pub below : number < length_
    pub at : o ≡ 4 * start + number

  byte_of_root : (root : Root) (path : List ℕ) (b : Block) (o : ℕ) → RootAt program gs w.made root path b o Byte
      → ByteAt root path b o
  byte_of_root (Declared name) path b o h =
      let r = byte_in_path path h.shape h.inner h.inside in
      let m = aligned r.before h.shape (ByteShape r.count r.first) r.start r.inside in
      let e = h.offset in
      let q = r.at in
      let a = m.1 in
      record {
        before = r.before;
        number = r.number;
        length_ = r.count;
        first = r.first;
        start = h.place + m.0;
        is = r.is;
        place = record {
          ghost = h.ghost;
          index = h.index;
          shape = h.shape;
          place = h.place;
          inner = r.start;
          block = h.block;
          there = h.there;
          slot = h.slot;
          stands = h.stands;
          inside = r.inside;
          offset = omega (arith, a);
        };
        below = r.below;
        at = omega (arith, e, q, a);
      }
  byte_of_root (Made object) path b o h =
      let shape = shape_of (domain_at program h.pointer) in
      let r = byte_in_path path shape o h.inside in
      let m = aligned r.before shape (ByteShape r.count r.first) r.start r.inside in
      let q = r.at in
      let a = m.1 in
      record {
        before = r.before;
        number = r.number;
        length_ = r.count;
        first = r.first;
        start = m.0;
        is = r.is;
        place = record {
          pointer = h.pointer;
          block = h.block;
          of_type = h.of_type;
          inside = subst (λ j. PathIn r.before shape (Whole (ByteShape r.count r.first)) j) a r.inside;
        };
        below = r.below;
        at = omega (arith, q, a);
      }

  pub byte_place : (s : Spot) (b : Block) (o : ℕ) → PlaceAt program gs w.made s b o Byte → ByteAt s.root s.path b o
  byte_place s b o h = byte_of_root s.root s.path b o h

  components_bytes : (v : Value) (n k : ℕ) (first : ℤ) → HasShape w.made v (ByteShape n first) → k < n → IsTrue
      (is_between (pos 0) (number_of (component v k)) (pos 255))
  components_bytes (StructureValue vs) n k first h l = byte_between n k vs h l
  components_bytes (OrdinalValue z) n k first h l = absurd h
  components_bytes NilValue n k first h l = absurd h
  components_bytes (ObjectValue z) n k first h l = absurd h
  components_bytes (SetValue z) n k first h l = absurd h

  -- one byte of an array that is at a place
  pub array_byte : (constants : Constants) (scratch : List Living) (s : Spot) (b : Block) (start n k : ℕ) (first : ℤ)
      → PlaceAt program gs w.made s b (4 * start) (Whole (ByteShape n first)) → k < n → load_byte constants
      (memory_of program w gs scratch) b (4 * start + k) ≡ Some (byte_of (component (contents_in w s) k))
  array_byte constants scratch s b start n k first place l =
      let m = memory_of program w gs scratch in
      let v = contents_in w s in
      let bytes = bytes_of n (components_of v) in
      let e : 4 * start + k ≡ 4 * (start + k / 4) + k % 4 = omega arith in
      let f : 4 * (start + k / 4) ≡ 4 * start + 4 * (k / 4) = omega arith in
      ap (load_byte constants m b) e
      ∙ byte_loaded constants m b (start + k / 4) (k % 4) (omega arith)
      ∙ ap (λ o. byte_in (load constants m b o) (k % 4)) f
      ∙ ap (λ x. byte_in x (k % 4)) (spot_read program w gs count holds constants scratch s b (4 * start)
      (ByteShape n first) (k / 4) place (omega (arith, l)))
      ∙ bytes_read bytes k (byte_of (nth (components_of v) k)) (bytes_small n (components_of v))
      (bytes_get n k (components_of v) l)

  -- a byte that is a variable: what is there, and its number
  pub spot_byte : (constants : Constants) (scratch : List Living) (s : Spot) (b : Block) (o : ℕ)
      → PlaceAt program gs w.made s b o Byte → (byte : ℕ)
      × (load_byte constants (memory_of program w gs scratch) b o ≡ Some byte)
      × (number_of (contents_in w s) ≡ pos byte) × (byte < 256)
  spot_byte constants scratch s b o h =
      let r = byte_place s b o h in
      let whole : Spot = record { root = s.root; path = r.before } in
      let v = contents_in w whole in
      let same : contents_in w s ≡ component v r.number = ap (part (value_at_root w s.root)) r.is ∙ part_more
      (value_at_root w s.root) r.before r.number in
      let between = components_bytes v r.length_ r.number r.first
      (spot_value program w gs count holds whole b (4 * r.start) (ByteShape r.length_ r.first) r.place) r.below in (
        byte_of (component v r.number),
        ap (load_byte constants (memory_of program w gs scratch) b) r.at
            ∙ array_byte constants scratch whole b r.start r.length_ r.number r.first r.place r.below,
        ap number_of same ∙ byte_number (number_of (component v r.number)) between,
        byte_small (component v r.number),
      )

  start_of : (root : Root) (path : List ℕ) (b : Block) (o : ℕ) (inner : Shape) → RootAt program gs w.made root path b o
      (Whole inner) → (m : ℕ) × (o ≡ 4 * m)
  start_of (Declared name) path b o inner h = let r = aligned path h.shape inner h.inner h.inside in let e = h.offset
      in let q = r.1 in (h.place + r.0, omega (arith, e, q))
  start_of (Made object) path b o inner h = aligned path (shape_of (domain_at program h.pointer)) inner o h.inside

  -- the bytes of an array
  pub array_bytes : (constants : Constants) (scratch : List Living) (s : Spot) (b : Block) (o n i byte : ℕ) (first : ℤ)
      → PlaceAt program gs w.made s b o (Whole (ByteShape n first)) → slice_get
      (bytes_of n (components_of (contents_in w s))) i ≡ Some byte → load_byte constants
      (memory_of program w gs scratch) b (o + i) ≡ Some byte
  array_bytes constants scratch s b o n i byte first place e =
      let m = start_of s.root s.path b o (ByteShape n first) place in
      let l = get_below n i (components_of (contents_in w s)) byte e in
      ap (λ j. load_byte constants (memory_of program w gs scratch) b (j + i)) m.1
      ∙ array_byte constants scratch s b m.0 n i first
      (subst (λ j. PlaceAt program gs w.made s b j (Whole (ByteShape n first))) m.1 place) l
      ∙ sym (bytes_get n i (components_of (contents_in w s)) l) ∙ e
